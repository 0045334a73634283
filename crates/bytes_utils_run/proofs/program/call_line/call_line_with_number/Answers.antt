use Rattle.std.proofs.Common.{codes, refl}
use Rattle.bytes_utils_run.proofs.CommandLemmas.{chars_word}
use Rattle.bytes_utils_run.proofs.program.call_line.call_line_with_number.Goals as goal

pub returns : goal.returns
returns c =
    let advance = rw (chars_word (codes "advance ") refl) at c.in_default.ensures in
    let copy = rw (chars_word (codes "copy ") refl) at c.in_default-call_line_number.ensures in
    let chunks = rw (chars_word (codes "chunks ") refl) at c.in_default-call_line_number-2.ensures in
    λ n. (advance n, copy n, chunks n)
