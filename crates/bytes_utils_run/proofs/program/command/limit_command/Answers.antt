use Rattle.std.proofs.Common.{codes, refl}
use Rattle.bytes_utils_run.proofs.CommandLemmas.{chars_word}
use Rattle.bytes_utils_run.proofs.program.command.limit_command.Goals as goal

pub returns : goal.returns
returns c =
    let splitn = rw (chars_word (codes "splitn ") refl) at c.in_default.ensures in
    let rsplitn = rw (chars_word (codes "rsplitn ") refl) at c.in_default-command_count_after.ensures in
    λ p most. (splitn most p, rsplitn most p)
