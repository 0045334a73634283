use Rattle.std.proofs.Common.{◌≡◌, [], inr, ap, ◌++◌, ◌+◌, ◌-◌, length, ◌∙◌, sym, subst, arith, append-nil}
use Rattle.std.proofs.lemmas.Result.{err_from_is_err_and}
use Rattle.bytes_utils_protocols.specs.Redis.{BeginsRedisReply, IsRedisItemOverLimit, IsRedisReplyOverLimit, NoRedisItem, NoRedisReply}
use Rattle.bytes_utils_protocols.specs.RedisPending.{AsksForPending, held_by_pending, most_seen_by_pending, most_seen_of_next, unread_by_pending}
use Rattle.bytes_utils_protocols.proofs.RedisLemmas.{no_next}
use Rattle.bytes_utils_protocols.proofs.ReplyBeginnings.{begins_reply}
use Rattle.bytes_utils_protocols.proofs.PendingReplies.{one_kept}
use Rattle.bytes_utils_protocols.proofs.ReplyAsks.{asks_for_kept, asks_in_pending}
use Rattle.bytes_utils_protocols.proofs.redis.pending.Pending.read.Goals as goal

pub returns-in_err-item-clause-malformed : goal.returns-in_err-item-clause-malformed
returns-in_err-item-clause-malformed c =
    let p = c.loop-self.self in
    let now = c.loop-self.invariant in
    let out = err_from_is_err_and c.from_residual.result c.from_residual.ensures.1 in
    rw out.1 (λ is any more. subst (λ held. NoRedisReply any (held ++ more)) now.same
    (no_next c.args.limits any more (held_by_pending p) p.items.items (unread_by_pending p) p.due now.pending.are now.pending.due (omega (arith, c.loop-self-test.true))
    (c.in_err-item.ensures.found.malformed (sym out.2 ∙ is) any more)))

pub returns-in_err-item-clause-too_large : goal.returns-in_err-item-clause-too_large
returns-in_err-item-clause-too_large c =
    let p = c.loop-self.self in
    let now = c.loop-self.invariant in
    let out = err_from_is_err_and c.from_residual.result c.from_residual.ensures.1 in
    let room : c.args.limits.items - c.len.result - p.due ≡ c.args.limits.items - (length p.items.items + p.due) = omega (arith, c.len.ensures) in
    rw out.1 (λ is. subst (IsRedisReplyOverLimit c.args.limits) now.same (record {
      items = p.items.items;
      rest = unread_by_pending p;
      due = p.due;
      are = now.pending.are;
      leave = now.pending.due;
      some = omega (arith, c.loop-self-test.true);
      over = inr (subst (λ n. IsRedisItemOverLimit c.args.limits n (unread_by_pending p)) room (c.in_err-item.ensures.found.too_large (sym out.2 ∙ is)));
    }))

pub returns-in_default-clause-waits : goal.returns-in_default-clause-waits
returns-in_default-clause-waits c =
    let p = c.loop-self.self in
    let now = c.loop-self.invariant in
    let waits = rw c.in_default.is at c.in_ok-item.ensures.found in
    subst (NoRedisReply c.args.limits) (append-nil (held_by_pending p) ∙ now.same)
    (no_next c.args.limits c.args.limits [] (held_by_pending p) p.items.items (unread_by_pending p) p.due now.pending.are now.pending.due (omega (arith, c.loop-self-test.true))
    (subst (NoRedisItem c.args.limits) (sym (append-nil (unread_by_pending p))) waits.none))

pub returns-in_default-clause-begins : goal.returns-in_default-clause-begins
returns-in_default-clause-begins c =
    let p = c.loop-self.self in
    let now = c.loop-self.invariant in
    let waits = rw c.in_default.is at c.in_ok-item.ensures.found in
    subst (BeginsRedisReply c.args.limits) now.same
    (begins_reply c.args.limits (held_by_pending p) p.items.items (unread_by_pending p) p.due now.pending.are now.pending.due
    (c.args.limits.items - c.len.result - p.due) (omega (arith, c.loop-self-test.true)) (omega (arith, now.pending.within c.requires.some, c.len.ensures)) waits.begins)

pub loop-self-preserved : goal.loop-self-preserved
loop-self-preserved c =
    let p = c.loop-self.self in
    let now = c.loop-self.invariant in
    let found = rw c.in-Some.is at c.in_ok-item.ensures.found in
    let keep = c.in_ok-keep.ensures in
    record {
      pending = one_kept c.args.limits (c.args.limits.items - c.len.result - p.due) p c.keep.new.self c.in-Some.item c.in-Some.len now.pending (omega (arith, c.loop-self-test.true))
          (omega (arith, now.pending.within c.requires.some, c.len.ensures)) found keep.items keep.due keep.unread keep.held (keep.next c.args.limits);
      same = keep.held ∙ now.same;
      further = omega (arith, now.further, rw c.in-Some.is at c.in_ok-item.ensures.passed, keep.passed);
    }

pub returns-in_err-item-clause-asks : goal.returns-in_err-item-clause-asks
returns-in_err-item-clause-asks c =
    let p = c.loop-self.self in
    let out = err_from_is_err_and c.from_residual.result c.from_residual.ensures.1 in
    rw out.1 (λ reason is. asks_in_pending c.args.limits _ (most_seen_of_next p.next) _ (omega (arith, c.loop-self-test.true))
    (c.in_err-item.ensures.found.memory reason (sym out.2 ∙ is)).1 c.loop-self.invariant.further)

pub returns-in_err-item-clause-further : goal.returns-in_err-item-clause-further
returns-in_err-item-clause-further c = omega (arith, c.loop-self.invariant.further, c.in_err-item.ensures.further)

pub returns-in_default-clause-further : goal.returns-in_default-clause-further
returns-in_default-clause-further c = omega (arith, c.loop-self.invariant.further, c.in_ok-item.ensures.further)

pub returns-in_err-keep-clause-asks : goal.returns-in_err-keep-clause-asks
returns-in_err-keep-clause-asks c =
    let p = c.loop-self.self in
    let out = err_from_is_err_and c.from_residual-in_err-keep.result c.from_residual-in_err-keep.ensures.1 in
    let found = rw c.in-Some.is at c.in_ok-item.ensures.found in
    let passed = rw c.in-Some.is at c.in_ok-item.ensures.passed in
    rw out.1 (λ reason is. subst (λ q. AsksForPending c.args.limits q (most_seen_by_pending c.args.self.now)) (sym c.in_err-keep.ensures.stays)
    (asks_in_pending c.args.limits _ (most_seen_of_next p.next) _ (omega (arith, c.loop-self-test.true))
    (asks_for_kept c.args.limits (c.args.limits.items - c.len.result - p.due) (unread_by_pending p) c.in-Some.item c.in-Some.len (most_seen_of_next p.next) found passed)
    c.loop-self.invariant.further))

pub returns-in_err-keep-clause-further : goal.returns-in_err-keep-clause-further
returns-in_err-keep-clause-further c =
    omega (arith, c.loop-self.invariant.further, c.in_ok-item.ensures.further, ap most_seen_by_pending c.in_err-keep.ensures.stays)

pub returns-clause-further : goal.returns-clause-further
returns-clause-further c = c.loop-self.invariant.further
