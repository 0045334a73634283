-- What moved from a reader or to a writer, if its bytes are known.
use Rattle.std.specs.Prelude.{ℕ, ◌≤◌, List, Option, length, take}
use Rattle.std.specs.Io.KnownBytes.{Appends, Consumes, IsAtEnd}

-- known bytes grow by the first bytes of bs: none, some or all of them
abbrev pub AppendsBeginning : Option (List ℕ) → Option (List ℕ) → List ℕ → Type 0
AppendsBeginning old new bs = (n : ℕ) × (n ≤ length bs) × Appends old new (take n bs)

-- known bytes lose some of the first bytes, perhaps none
abbrev pub ConsumesSome : Option (List ℕ) → Option (List ℕ) → Type 0
ConsumesSome old new = (bs : List ℕ) × Consumes old new bs

-- the reader gave exactly these bytes, and is at its end
abbrev pub ConsumesWhole : Option (List ℕ) → Option (List ℕ) → List ℕ → Type 0
ConsumesWhole old new input = Consumes old new input × IsAtEnd new
