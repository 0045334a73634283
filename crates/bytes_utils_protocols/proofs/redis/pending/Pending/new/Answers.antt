use Rattle.std.proofs.Common.{arith, refl, ap, length}
use Rattle.std.specs.List.{concat}
use Rattle.bytes_utils_protocols.proofs.PendingReplies.{nothing_read}
use Rattle.bytes_utils_protocols.proofs.redis.pending.Pending.new.Goals as goal

pub returns-clause-pending : goal.returns-clause-pending
returns-clause-pending c limits =
    nothing_read limits _ c.none.ensures c.new-2.ensures.items refl (c.pending_at_line.ensures limits _) (omega (arith, ap (λ p. length (concat p.held.segments)) c.new.ensures))
