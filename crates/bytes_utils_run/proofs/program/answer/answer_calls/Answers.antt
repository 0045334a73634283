use Rattle.std.proofs.Common.{sym, rules}
use Rattle.bytes_utils_run.proofs.program.answer.answer_calls.Goals as goal

-- memory was refused for no reply
pub returns-in_default-clause-ok : goal.returns-in_default-clause-ok
returns-in_default-clause-ok c =
    let found = sym (rw c.deref.ensures.value at c.in_default.ensures) in
    record { all = c.drive-given.result.given.items; left = c.drive-given.new.buf; run = search rules; first = rw found (search rules) }

-- memory was refused for a reply: those before it are kept
pub returns-clause-ok : goal.returns-clause-ok
returns-clause-ok c =
    let found = sym (rw c.deref.ensures.value at c.in-Some.ensures) in
    record { all = c.drive-given.result.given.items; left = c.drive-given.new.buf; run = search rules; first = rw found (search rules) }
