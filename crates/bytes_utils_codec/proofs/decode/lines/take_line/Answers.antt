use Rattle.std.proofs.Common.{◌≡◌, true, false, IsUtf8, take, subst, sym, ◌∙◌}
use Rattle.std.proofs.lemmas.Bool.{false≢true}
use Rattle.std.specs.List.{concat}
use Rattle.bytes_utils_codec.specs.LineReading.{IsTextLineItem}
use Rattle.bytes_utils_codec.proofs.LineReadingLemmas.{lossy_item}
use Rattle.bytes_utils_codec.proofs.decode.lines.take_line.Goals.{then-not-lossy-via-then-not-lossy, then-not-lossy-via-else-not-lossy+then-is_text_line_in_one}
use Rattle.bytes_utils_codec.proofs.decode.lines.take_line.Goals as goal

pub returns-then-not-lossy-clause-line : goal.returns-then-not-lossy-clause-line
returns-then-not-lossy-clause-line c =
    let front = take c.args.len (concat c.args.held.now.held.segments) in
    let utf8 : c.args.lossy ≡ true → IsUtf8 front = elim c.then-not-lossy.branch [
      | then-not-lossy-via-then-not-lossy w ↦ (λ is. absurd (false≢true (sym w.if-not-lossy.true ∙ is)))
      | then-not-lossy-via-else-not-lossy+then-is_text_line_in_one w ↦ (λ is. w.is_text_line_in_one.ensures w.if-is_text_line_in_one.true)
    ] in
    lossy_item c.args.lossy c.text_of_line.result front utf8 (subst (IsTextLineItem false c.text_of_line.result) c.in_ok-take_bytes.ensures.value c.text_of_line.ensures)
