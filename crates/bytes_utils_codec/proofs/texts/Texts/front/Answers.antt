use Rattle.std.proofs.Common.{◌≡◌, length, min, take, ap, ◌∙◌, subst, arith, take_at, length-take}
use Rattle.std.proofs.lemmas.List.{take_min}
use Rattle.std.specs.List.{concat}
use Rattle.bytes_utils_codec.specs.TextReading.{IsTextFront, TextPieces}
use Rattle.bytes_utils_codec.proofs.TextReadingLemmas.{front_of_four, text_in_front}
use Rattle.bytes_utils_codec.proofs.texts.Texts.front.Goals as goal

pub returns-then-len-gt0-clause-front : goal.returns-then-len-gt0-clause-front
returns-then-len-gt0-clause-front c =
    let first = c.first_piece.ensures in
    text_in_front c.args.self.now.pieces c.text_front_len-len.result (omega arith)
    (omega (arith, c.text_front_len-len.ensures.within, ap length first)) (rw first at c.text_front_len-len.ensures.utf8)

-- the bytes that were looked at are the first four
pub returns-clause-front : goal.returns-clause-front
returns-clause-front c =
    let all = concat c.self.inside.pieces.segments in
    let size : c.peek-count.result ≡ min 4 (length all) = c.peek-count.ensures.count in
    let seen : take c.peek-count.result c.peek-count.new.dst ≡ take 4 (concat c.args.self.now.pieces)
    = ap (take c.peek-count.result) c.peek-count.ensures.bytes
    ∙ take_at (take c.peek-count.result all) _ c.peek-count.result (length-take c.peek-count.result all ∙ omega (arith, size))
    ∙ ap (λ n. take n all) size ∙ take_min 4 all ∙ ap (λ (r : TextPieces). take 4 (concat r.pieces)) c.self.view_is in
    front_of_four (concat c.args.self.now.pieces) _ (subst (λ l. IsTextFront l c.text_front_of_few.result) seen c.text_front_of_few.ensures)
