use Rattle.std.proofs.Common.{◌∙◌, refl, ap}
use Rattle.bytes_utils_protocols.proofs.PendingReplies.{nothing_read}
use Rattle.bytes_utils_protocols.proofs.redis.pending.Pending.take.Goals as goal

pub returns-clause-pending : goal.returns-clause-pending
returns-clause-pending c limits =
    nothing_read limits _ c.none.ensures (ap (λ v. v.items) c.replace.ensures.after ∙ c.new.ensures.items) refl (c.pending_at_line-self.ensures limits _) c.requires
