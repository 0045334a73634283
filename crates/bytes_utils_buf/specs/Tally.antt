-- What a segmented value has counted: a ledger in which each given segment is entered once, and what pays for the turns of its loops.
use Rattle.std.specs.Prelude.{◌≡◌, ℕ, ◌+◌, ◌*◌, ◌≤◌, List, length}

pub record Tallied : Type 0 where
  -- segments given
  pub given : ℕ
  -- those of them that were dropped at once: empty ones, and those copied to the end of another one
  pub dropped : ℕ
  -- counted calls
  pub calls : ℕ
  -- segments passed, each by one turn
  pub turns : ℕ

-- the tally of a new value
abbrev pub nothing_counted : Tallied
nothing_counted = record { given = 0; dropped = 0; calls = 0; turns = 0 }

-- all segments that were ever in the row: those passed, each by one turn, and those left
abbrev pub lined_up : List (List ℕ) → Tallied → ℕ
lined_up segments tally = tally.turns + length segments

-- each segment given was dropped at once, or was passed by one turn, or is left
abbrev pub IsBalanced : List (List ℕ) → Tallied → Type 0
IsBalanced segments tally = tally.given ≡ tally.dropped + lined_up segments tally

-- the turns so far, and two more for each segment left
abbrev pub cost_of : List (List ℕ) → Tallied → ℕ
cost_of segments tally = tally.turns + 2 * length segments

-- two for each given segment, and two for each call
abbrev pub pay_of : Tallied → ℕ
pay_of tally = 2 * tally.given + 2 * tally.calls

-- the given segments and the calls pay for the turns
abbrev pub IsCovered : List (List ℕ) → Tallied → Type 0
IsCovered segments tally = cost_of segments tally ≤ pay_of tally
