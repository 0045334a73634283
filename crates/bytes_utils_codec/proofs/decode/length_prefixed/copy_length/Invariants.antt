use Rattle.std.proofs.Common.{◌≡◌, ℕ, ◌-◌, ◌<◌, drop, slice_index}
use Rattle.std.specs.List.{concat}
use Rattle.bytes_utils_codec.proofs.decode.length_prefixed.copy_length.Given as goal

-- the bytes so far are those of the range
abbrev pub invariant-loop-at : goal.invariant-loop-at
invariant-loop-at l = (k : ℕ) → k < l.at - l.start → slice_index l.dst k ≡ slice_index (drop l.start (concat l.held.held.segments)) k
