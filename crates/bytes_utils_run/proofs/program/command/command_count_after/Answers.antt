use Rattle.bytes_utils_run.proofs.CommandLemmas.{counted-rest_after_word-is}
use Rattle.bytes_utils_run.proofs.program.command.command_count_after.Goals as goal

pub returns : goal.returns
returns c = counted-rest_after_word-is _ _ _ c.in_ok-rest_after_word.ensures.value _ c.command_count.ensures
