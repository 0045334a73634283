use Rattle.std.proofs.Common.{◌≡◌, length, ap, arith, ◌∙◌}
use Rattle.std.specs.List.{concat}
use Rattle.std.specs.Str.Lossy.{utf8_valid_len}
use Rattle.bytes_utils_buf.proofs.Results.{OnErr-always}
use Rattle.bytes_utils_codec.specs.TextReading.{TextPieces, reading_of_pieces}
use Rattle.bytes_utils_codec.proofs.TextReadingLemmas.{asks_also_at_end, fault_longest, no_text_in}
use Rattle.bytes_utils_codec.proofs.texts.Texts.last_item.Goals as goal

pub returns-in_err-item-clause-asks : goal.returns-in_err-item-clause-asks
returns-in_err-item-clause-asks c = OnErr-always _ _ (asks_also_at_end (reading_of_pieces c.args.self.now) c.in_err-item.ensures.asks)

pub take_fault-requires-clause-no_text : goal.take_fault-requires-clause-no_text
take_fault-requires-clause-no_text c =
    let waits = rw c.in_default.is at c.in_ok-item.ensures.waits in
    let held = concat c.next_item.new.self.pieces in
    let none : utf8_valid_len held ≡ 0 = ap (λ (r : TextPieces). utf8_valid_len (concat r.pieces)) waits.0 ∙ waits.1.none in
    let size : c.remaining-held.result ≡ length held = c.remaining-held.ensures in
    no_text_in held c.remaining-held.result none (omega (arith, c.if-held-eq0.false)) (omega (arith, size))

pub returns-clause-longest : goal.returns-clause-longest
returns-clause-longest c =
    let waits = rw c.in_default.is at c.in_ok-item.ensures.waits in
    fault_longest c.args.self.now.pieces _ waits.1.none
