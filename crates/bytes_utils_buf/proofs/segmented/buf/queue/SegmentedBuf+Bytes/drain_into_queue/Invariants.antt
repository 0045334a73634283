use Rattle.std.proofs.Common.{◌≡◌, ℕ, List, ◌++◌, length}
use Rattle.std.specs.List.{concat}
use Rattle.bytes_utils_buf.specs.Segments.{CountsPass}
use Rattle.bytes_utils_buf.proofs.segmented.buf.queue.SegmentedBuf+Bytes.drain_into_queue.Given as goal

-- some segments were moved, each by one turn
abbrev pub invariant-loop-self : goal.invariant-loop-self
invariant-loop-self l =
    let old = l.fn.self in
    record {
      moved : (moved : List (List ℕ)) × (old.segments ≡ moved ++ l.self.segments) × (l.queue ≡ l.fn.queue ++ concat moved);
      bytes : l.queue ++ concat l.self.segments ≡ l.fn.queue ++ concat old.segments;
      counts : CountsPass 1 old l.self;
    }

abbrev pub decreases-loop-self : goal.decreases-loop-self
decreases-loop-self l = length l.self.segments
