-- The state of a splitter whose parts keep their separators, and the parts still to come.
use Rattle.std.specs.Prelude.{◌≡◌, ℕ, List, [], length, Option, MatchOption, IsSomeAnd}
use Rattle.std.specs.Option.{option_map_or}
use Rattle.std.specs.Str.{chars}
use Rattle.bytes_utils.specs.Occurrence.{Occurs}
use Rattle.bytes_utils.specs.Parts.{AreInclusiveParts, PartEndsAtFirst}

-- what is still to be split, if anything, and the separator, both as bytes
pub record Keeping : Type 0 where
  pub rest : Option (List ℕ)
  pub separator : List ℕ

-- these parts are to come, each with its separator
abbrev pub AreInclusivePartsToCome : Keeping → List (List ℕ) → Type 0
AreInclusivePartsToCome s parts = MatchOption s.rest (parts ≡ []) (λ text. AreInclusiveParts (chars text) (chars s.separator) parts)

-- the next step splits the storage: what is left holds a separator, and the first one isn't at its end
abbrev pub CutsAfterNext : Keeping → Type 0
CutsAfterNext s = IsSomeAnd s.rest
    (λ text. Occurs (chars s.separator) (chars text) × (¬ PartEndsAtFirst (chars s.separator) (chars text)))

-- the reasons for which the next step may be refused: those of a split, which is at no end of what is left
abbrev pub RefusesInclusive : {E : Type 0} → (E → Type 0) → Keeping → E → Type 0
RefusesInclusive refuses s reason = CutsAfterNext s × refuses reason

-- a bound on the number of parts to come: the bytes left, since no part is empty
abbrev pub most_inclusive_parts : Keeping → ℕ
most_inclusive_parts s = option_map_or length s.rest 0
