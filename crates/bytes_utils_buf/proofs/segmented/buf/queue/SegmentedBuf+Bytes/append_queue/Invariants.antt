use Rattle.std.proofs.Common.{◌≡◌, ℕ, List, ◌++◌, length}
use Rattle.std.specs.List.{concat}
use Rattle.bytes_utils_buf.proofs.Queues.{with_moved}
use Rattle.bytes_utils_buf.proofs.segmented.buf.queue.SegmentedBuf+Bytes.append_queue.Given as goal

-- some chunks were moved, and the queue has the bytes of the others
abbrev pub invariant-loop-self : goal.invariant-loop-self
invariant-loop-self l = record {
  moved : (moved : List (List ℕ)) × (concat moved ++ l.queue ≡ l.fn.queue) × (l.self ≡ with_moved l.fn.self moved);
  bytes : concat l.self.segments ++ l.queue ≡ concat l.fn.self.segments ++ l.fn.queue;
}

abbrev pub decreases-loop-self : goal.decreases-loop-self
decreases-loop-self l = length l.queue
