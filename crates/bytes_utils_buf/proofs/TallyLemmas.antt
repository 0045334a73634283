-- What follows from the counts that a call adds to the tally.
use Rattle.std.proofs.Common.{◌≡◌, ℕ, ◌+◌, ◌≤◌, List, ap, arith}
use Rattle.bytes_utils_buf.specs.Segments.{HeldSegments, IsPaid, SkipsSegments, after_accepting}
use Rattle.bytes_utils_buf.specs.Tally.{Tallied, lined_up}
use Rattle.bytes_utils_buf.proofs.Lists.{length-SkipsSegments, length-accepted}

-- a call that is counted, then passes segments, each by one turn, and is given none
pub IsPaid-passing : (n : ℕ) (old new : HeldSegments) (called : Tallied)
    → called ≡ record { given = old.tally.given; dropped = old.tally.dropped; calls = old.tally.calls + 1; turns = old.tally.turns }
    → SkipsSegments n old.segments new.segments → new.tally.given ≡ called.given → called.calls ≤ new.tally.calls
    → lined_up new.segments new.tally ≡ lined_up old.segments called → IsPaid old new
IsPaid-passing n old new called counted skips given calls turns =
    omega (
      arith,
      length-SkipsSegments n old.segments new.segments skips,
      ap (λ t. t.given) counted,
      ap (λ t. t.calls) counted,
      ap (λ t. t.turns) counted,
      given,
      calls,
      turns,
    )

-- a call that is given segments, and passes none
pub IsPaid-accepting : (held : HeldSegments) (ys : List (List ℕ)) → IsPaid held (after_accepting held ys)
IsPaid-accepting held ys = omega (arith, length-accepted held.segments ys)
