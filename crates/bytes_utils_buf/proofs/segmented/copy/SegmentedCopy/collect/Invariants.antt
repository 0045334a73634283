use Rattle.std.proofs.Common.{◌≡◌, ◌+◌, ◌-◌, ◌≤◌, length, take, vec_capacity}
use Rattle.std.specs.List.{concat}
use Rattle.bytes_utils_buf.specs.Lent.{Passes}
use Rattle.bytes_utils_buf.specs.Segments.{count_unread_segments}
use Rattle.bytes_utils_buf.proofs.segmented.copy.SegmentedCopy.collect.Given as goal

abbrev pub invariant-loop-copy : goal.invariant-loop-copy
invariant-loop-copy g l =
    let old = g.Self.SegmentedCopy.lent l.fn.self in
    let new = g.Self.SegmentedCopy.lent l.self in
    let taken = length l.copy.items in
    record {
      fits : taken ≤ l.len;
      room : l.len ≤ vec_capacity l.copy;
      bytes : l.copy.items ≡ take taken (concat old.segments);
      passes : Passes taken old new;
      least : old.tally.calls ≤ new.tally.calls;
      most : new.tally.calls ≤ old.tally.calls + taken;
      each : old.tally.calls + count_unread_segments old.segments ≤ new.tally.calls + count_unread_segments new.segments;
    }

abbrev pub decreases-loop-copy : goal.decreases-loop-copy
decreases-loop-copy g l = l.len - length l.copy.items
