use Rattle.std.proofs.Common.{◌≡◌, ◌-◌, ◌≤◌, length, map, take}
use Rattle.std.specs.List.{concat}
use Rattle.bytes_utils_buf.specs.Slices.{FillsSlices}
use Rattle.bytes_utils_buf.proofs.segmented.fill.fill_from.Given as goal

abbrev pub invariant-loop-i : goal.invariant-loop-i
invariant-loop-i g l =
    (l.i ≤ length l.bufs)
    × (length l.dst ≡ length l.fn.dst)
    × FillsSlices l.filled l.fn.dst l.dst (concat (take l.i (map g.B.Buf.unread l.bufs)))

abbrev pub decreases-loop-i : goal.decreases-loop-i
decreases-loop-i g l = length l.bufs - l.i
