use Rattle.std.proofs.Common.{◌≡◌, length, take}
use Rattle.std.specs.Prelude.{All}
use Rattle.bytes_utils_buf.specs.Slices.{FillsSlices}
use Rattle.bytes_utils_run.proofs.odd.drip.DripBufParts.chunks_into.Given as goal

abbrev pub invariant-loop-i : goal.invariant-loop-i
invariant-loop-i l = FillsSlices l.i l.fn.dst l.dst (take l.i l.bytes) × All (λ s. length s.now ≡ 1) (take l.i l.dst)
