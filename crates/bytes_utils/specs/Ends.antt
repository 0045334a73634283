-- What is at the ends of a text: what it begins with, what it ends with, and its white space there. For which reasons a
-- cut there may be refused.
use Rattle.std.specs.Prelude.{◌≡◌, ◌⊎◌, ℕ, List, ◌++◌}
use Rattle.std.specs.Char.{is_not_whitespace}
use Rattle.std.specs.Str.{NoCharPasses}

-- t is p and what follows it
abbrev pub BeginsWith : {X : Type 0} → List X → List X → Type 0
BeginsWith {X} p t = (following : List X) × (p ++ following ≡ t)

-- t is what comes before p, and p
abbrev pub EndsWith : {X : Type 0} → List X → List X → Type 0
EndsWith {X} p t = (before : List X) × (before ++ p ≡ t)

-- the text is white space, the part, and white space
abbrev pub IsBetweenSpaceAtEnds : List ℕ → List ℕ → Type 0
IsBetweenSpaceAtEnds part text = (before : List ℕ) × (following : List ℕ) × (before ++ (part ++ following) ≡ text)
    × NoCharPasses is_not_whitespace before × NoCharPasses is_not_whitespace following

-- the reasons for which a cut at an end may be refused: those of a split at an end, and those of one side alone
abbrev pub RefusesAtEnd : {X : Type 0} → (X → Type 0) → (X → Type 0) → X → Type 0
RefusesAtEnd refuses_empty refuses_side reason = refuses_empty reason ⊎ refuses_side reason

-- the reasons for which a cut may be refused: those of a split, and at an end of the text only those of a cut there
abbrev pub RefusesCut : {X : Type 0} → (X → Type 0) → (X → Type 0) → (X → Type 0) → Type 0 → X → Type 0
RefusesCut refuses refuses_empty refuses_side at_end reason = refuses reason × (at_end → RefusesAtEnd refuses_empty refuses_side reason)
