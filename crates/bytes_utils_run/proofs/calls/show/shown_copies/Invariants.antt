use Rattle.std.proofs.Common.{◌≡◌, map, take}
use Rattle.bytes_utils_run.proofs.calls.show.shown_copies.Given as goal

abbrev pub invariant-loop-slice : goal.invariant-loop-slice
invariant-loop-slice l = map (λ s. s.items) l.all.items ≡ map (λ s. s.now) (take l.slice-index l.slices)
