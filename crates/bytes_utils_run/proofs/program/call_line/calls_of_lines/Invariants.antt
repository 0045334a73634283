use Rattle.bytes_utils_run.proofs.CallLineLemmas.{HasRead}
use Rattle.bytes_utils_run.proofs.program.call_line.calls_of_lines.Given as goal

abbrev pub invariant-loop-line : goal.invariant-loop-line
invariant-loop-line l = HasRead l.fn.text l.calls.items l.line-iterator
