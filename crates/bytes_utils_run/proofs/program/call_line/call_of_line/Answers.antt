use Rattle.std.proofs.Common.{rules}
use Rattle.bytes_utils_run.proofs.CallLineLemmas.{no-kind}
use Rattle.bytes_utils_run.proofs.program.call_line.call_of_line.Goals as goal

pub returns-in_err-pushed_by_call_line-clause-unknown : goal.returns-in_err-pushed_by_call_line-clause-unknown
returns-in_err-pushed_by_call_line-clause-unknown c is =
    let word_call_line = rw c.as_str.ensures.value at c.in_default.ensures in
    let call_line_number = rw c.as_str-2.ensures.value at c.in_default-call_line_with_number.ensures in
    no-kind _ word_call_line call_line_number (c.in_err-pushed_by_call_line.ensures.unknown (search rules))
