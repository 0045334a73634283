use Rattle.std.proofs.Common.{◌++◌, ◌∙◌, ap, arith, take}
use Rattle.bytes_utils_codec.specs.Cursor.{unread}
use Rattle.bytes_utils_protocols.proofs.RedisLemmas.{wrong_end, no_end}
use Rattle.bytes_utils_protocols.proofs.ReplyBeginnings.{begins_body, begins_end}
use Rattle.bytes_utils_protocols.proofs.PendingReplies.{body_passed}
use Rattle.bytes_utils_protocols.proofs.ReplyAsks.{few_of_body}
use Rattle.bytes_utils_protocols.proofs.redis.pending.pass_pending_body.Goals as goal

pub returns-in-Ok-Some-clause-body : goal.returns-in-Ok-Some-clause-body
returns-in-Ok-Some-clause-body g c =
    let old = c.args.cursor.now in
    let passed = rw c.in-Ok-Some.field-0-is at c.in-Ok-Some.ensures.passed in
    let first = body_passed old c.advance.new.self c.args.len (omega (arith, c.remaining.ensures, c.if-remaining-len.false)) c.advance.ensures in
    first.bytes ∙ ap (λ l. take c.args.len (unread old) ++ l) passed

pub returns-in-Ok-None-clause-waits : goal.returns-in-Ok-None-clause-waits
returns-in-Ok-None-clause-waits g c =
    let old = c.args.cursor.now in
    let waits = rw c.in-Ok-None.field-0-is at c.in-Ok-None.ensures.waits in
    let first = body_passed old c.advance.new.self c.args.len (omega (arith, c.remaining.ensures, c.if-remaining-len.false)) c.advance.ensures in
    no_end c.args.len (unread old) (take c.args.len (unread old)) (unread c.advance.new.self) first waits.1

pub returns-in-Ok-None-clause-few : goal.returns-in-Ok-None-clause-few
returns-in-Ok-None-clause-few g c =
    let old = c.args.cursor.now in
    let waits = rw c.in-Ok-None.field-0-is at c.in-Ok-None.ensures.waits in
    let first = body_passed old c.advance.new.self c.args.len (omega (arith, c.remaining.ensures, c.if-remaining-len.false)) c.advance.ensures in
    few_of_body c.args.len (unread old) (take c.args.len (unread old)) (unread c.advance.new.self) first waits.1

pub returns-in-Err-clause-malformed : goal.returns-in-Err-clause-malformed
returns-in-Err-clause-malformed g c =
    let old = c.args.cursor.now in
    let first = body_passed old c.advance.new.self c.args.len (omega (arith, c.remaining.ensures, c.if-remaining-len.false)) c.advance.ensures in
    wrong_end c.args.len (unread old) (take c.args.len (unread old)) (unread c.advance.new.self) first c.in-Err.ensures.wrong

pub returns-in-Ok-None-clause-begins : goal.returns-in-Ok-None-clause-begins
returns-in-Ok-None-clause-begins g c =
    let old = c.args.cursor.now in
    let waits = rw c.in-Ok-None.field-0-is at c.in-Ok-None.ensures.waits in
    let first = body_passed old c.advance.new.self c.args.len (omega (arith, c.remaining.ensures, c.if-remaining-len.false)) c.advance.ensures in
    begins_end c.args.len (unread old) (take c.args.len (unread old)) (unread c.advance.new.self) first waits.1

pub returns-then-remaining-len-clause-begins : goal.returns-then-remaining-len-clause-begins
returns-then-remaining-len-clause-begins g c =
    begins_body c.args.len (unread c.args.cursor.now) (omega (arith, c.remaining.ensures, c.if-remaining-len.true))
