use Rattle.bytes_utils_run.proofs.CommandLemmas.{call_line_number-is}
use Rattle.bytes_utils_run.proofs.program.call_line.call_line_number.Goals as goal

pub returns : goal.returns
returns c = call_line_number-is _ _ _ c.in_ok-rest_after_word.ensures.value _ c.word_number.ensures
