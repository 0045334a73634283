use Rattle.std.proofs.Common.{◌≡◌, ◌≤◌, ◌-◌, length}
use Rattle.bytes_utils_protocols.specs.RedisPending.{IsPending, held_by_pending, most_seen_by_pending}
use Rattle.bytes_utils_protocols.proofs.redis.pending.Pending.read.Given as goal

abbrev pub invariant-loop-self : goal.invariant-loop-self
invariant-loop-self l = record {
  pending : IsPending l.fn.limits l.self;
  same : held_by_pending l.self ≡ held_by_pending l.fn.self;
  further : most_seen_by_pending l.fn.self ≤ most_seen_by_pending l.self;
}

abbrev pub decreases-loop-self : goal.decreases-loop-self
decreases-loop-self l = l.fn.limits.items - length l.self.items.items
