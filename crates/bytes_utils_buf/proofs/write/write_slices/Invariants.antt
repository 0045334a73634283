use Rattle.std.proofs.Common.{◌≡◌, ◌≤◌, ◌-◌, drop, length}
use Rattle.bytes_utils_buf.specs.Slices.{joined_slices}
use Rattle.bytes_utils_buf.specs.Write.{WritesCounted}
use Rattle.bytes_utils_buf.proofs.write.write_slices.Given as goal

abbrev pub invariant-loop-place : goal.invariant-loop-place
invariant-loop-place g l = record {
  within : l.place ≤ length l.slices;
  front : WritesCounted (g.W.Write.contents l.fn.writer) (g.W.Write.contents l.writer) l.fn.written l.written (joined_slices l.slices);
  left : joined_slices (drop l.place l.slices) ≡ drop (l.written - l.fn.written) (joined_slices l.slices);
}

abbrev pub decreases-loop-place : goal.decreases-loop-place
decreases-loop-place g l = length l.slices - l.place
