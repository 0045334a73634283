use Rattle.std.proofs.Common.{codes, refl, rules}
use Rattle.bytes_utils_run.proofs.CommandLemmas.{chars-word_before, word_before-chars}
use Rattle.bytes_utils_run.proofs.program.call_line.pushed_by_call_line.Goals as goal

pub returns-clause-ok : goal.returns-clause-ok
returns-clause-ok c = (search rules, chars-word_before (codes "push ") _ _ refl (search rules))

pub returns-in_default-clause-unknown : goal.returns-in_default-clause-unknown
returns-in_default-clause-unknown c is bytes asked =
    let lacks = rw c.in_default.is at c.in_ok-text.ensures.rest in
    lacks (bytes, word_before-chars (codes "push ") _ bytes refl (search rules) asked.0 asked.1)
