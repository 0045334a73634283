use Rattle.std.proofs.Common.{◌≡◌, ◌*◌, ◌-◌, min, map, take, replicate}
use Rattle.bytes_utils_buf.specs.Slices.{FillsSlices}
use Rattle.bytes_utils_run.specs.Odd.{odd_pieces}
use Rattle.bytes_utils_run.proofs.odd.zeros.ZerosBufParts.chunks_into.Given as goal

abbrev pub invariant-loop-shown : goal.invariant-loop-shown
invariant-loop-shown l =
    (l.shown ≡ min (l.filled * 8) l.self-inside.left)
    × FillsSlices l.filled l.fn.dst l.dst (replicate l.shown 0)
    × (map (λ s. s.now) (take l.filled l.dst) ≡ odd_pieces 8 l.filled (replicate l.self-inside.left 0))

abbrev pub decreases-loop-shown : goal.decreases-loop-shown
decreases-loop-shown l = l.self-inside.left - l.shown
