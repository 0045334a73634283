use Rattle.std.proofs.Common.{◌≡◌, ◌≤◌, ◌-◌, take, length}
use Rattle.bytes_utils_buf.specs.Slices.{joined_slices}
use Rattle.bytes_utils_buf.proofs.write.gather_to_write.Given as goal

abbrev pub invariant-loop-gathered : goal.invariant-loop-gathered
invariant-loop-gathered l = record {
  within : l.gathered ≤ length l.slices;
  room : l.filled ≤ length l.fn.block;
  bytes : take l.filled l.block ≡ joined_slices (take l.gathered l.slices);
}

abbrev pub decreases-loop-gathered : goal.decreases-loop-gathered
decreases-loop-gathered l = length l.slices - l.gathered
