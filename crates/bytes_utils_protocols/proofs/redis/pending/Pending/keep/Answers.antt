use Rattle.std.proofs.lemmas.Result.{err_from_is_err_and}
use Rattle.bytes_utils_protocols.proofs.PendingReplies.{same_items}
use Rattle.bytes_utils_protocols.proofs.redis.pending.Pending.keep.Goals as goal

pub returns-in_err-push-clause-err : goal.returns-in_err-push-clause-err
returns-in_err-push-clause-err c =
    let out = err_from_is_err_and c.from_residual.result c.from_residual.ensures.1 in
    rw out.1 (λ limits is. same_items limits c.args.self.now c.push.new.self c.in_err-push.ensures.items is)

pub returns-clause-next : goal.returns-clause-next
returns-clause-next c limits = c.pending_at_line-self.ensures limits _
