use Rattle.std.proofs.Common.{◌≡◌, ◌+◌, ◌-◌, ◌≤◌, length, map, take}
use Rattle.std.specs.List.{concat}
use Rattle.bytes_utils_buf.proofs.segmented.place.place_from_front.Given as goal

abbrev pub invariant-loop-size : goal.invariant-loop-size
invariant-loop-size g l = record {
  within : l.passed ≤ length l.bufs.items;
  left : length (concat (take l.passed (map g.B.Buf.unread l.bufs.items))) + l.offset ≡ l.fn.at;
}

abbrev pub decreases-loop-size : goal.decreases-loop-size
decreases-loop-size g l = length l.bufs.items - l.passed
