use Rattle.std.proofs.Common.{◌≡◌, ◌<◌, ◌∙◌, [], inl, refl, sym, subst, arith, length}
use Rattle.std.proofs.lemmas.Result.{err_from_is_err_and}
use Rattle.bytes_utils_protocols.specs.Redis.{TakesRedisReply}
use Rattle.bytes_utils_protocols.specs.RedisPending.{held_by_pending, most_seen_by_pending, unread_by_pending}
use Rattle.bytes_utils_protocols.proofs.RedisLemmas.{reply_takes}
use Rattle.bytes_utils_protocols.proofs.PendingReplies.{none_seen, reply_read}
use Rattle.bytes_utils_protocols.proofs.ReplyAsks.{asks_for_reply}
use Rattle.bytes_utils_protocols.proofs.ReplyBeginnings.{no_reply_over}
use Rattle.bytes_utils_protocols.proofs.redis.ReplyReader.next_reply.Goals as goal

pub invariant_of-self-2 : goal.invariant_of-self-2
invariant_of-self-2 c = (c.take.ensures.pending c.self.inside.limits, none_seen c.self.inside.limits _, omega arith)

pub returns-clause-reply : goal.returns-clause-reply
returns-clause-reply c =
    let limits = c.self.inside.limits in
    let read = c.read.new.self in
    let none : read.due ≡ 0 = rw c.if-not-branch.false at c.in_ok-read.ensures.whole in
    let takes = reply_read limits read c.read.ensures.pending (omega (arith, c.if-self-eq0.false)) none in
    rw (← c.self.view_is, c.take.ensures.items, c.take.ensures.held) (subst (λ held. TakesRedisReply limits held read.items.items (unread_by_pending read)) c.read.ensures.held takes)

pub returns-clause-fewer : goal.returns-clause-fewer
returns-clause-fewer c =
    let limits = c.self.inside.limits in
    let read = c.read.new.self in
    let none : read.due ≡ 0 = rw c.if-not-branch.false at c.in_ok-read.ensures.whole in
    let takes = reply_read limits read c.read.ensures.pending (omega (arith, c.if-self-eq0.false)) none in
    rw (← c.self.view_is, c.take.ensures.held)
    (subst (λ held. length (unread_by_pending read) < length held) c.read.ensures.held (reply_takes limits (held_by_pending read) read.items.items (unread_by_pending read) takes))

pub returns-then-self-eq0-clause-over : goal.returns-then-self-eq0-clause-over
returns-then-self-eq0-clause-over c _ =
    rw (← c.self.view_is) (record {
      items = [];
      rest = held_by_pending c.self.inside.pending;
      due = 1;
      are = refl;
      leave = refl;
      some = omega arith;
      over = inl (omega (arith, c.if-self-eq0.true));
    })

pub returns-in_err-read-clause-too_large : goal.returns-in_err-read-clause-too_large
returns-in_err-read-clause-too_large c =
    let out = err_from_is_err_and c.from_residual.result c.from_residual.ensures.1 in
    rw (← c.self.view_is) (rw out.1 (λ is. no_reply_over c.self.inside.limits (held_by_pending c.self.inside.pending) (c.in_err-read.ensures.too_large (sym out.2 ∙ is))))

pub returns-in_err-read-clause-asks : goal.returns-in_err-read-clause-asks
returns-in_err-read-clause-asks c =
    let limits = c.self.inside.limits in
    let pending = c.self.inside.pending in
    let out = err_from_is_err_and c.from_residual.result c.from_residual.ensures.1 in
    rw (← c.self.view_is) (rw out.1 (λ reason is.
    asks_for_reply limits c.read.new.self (held_by_pending pending) (most_seen_by_pending pending) c.self.inside.seen c.read.ensures.pending (omega (arith, c.if-self-eq0.false))
    c.read.ensures.held (c.in_err-read.ensures.asks reason (sym out.2 ∙ is)) c.self.invariant.2))
