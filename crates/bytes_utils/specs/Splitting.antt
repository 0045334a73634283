-- The state of a splitter by a separator, and the parts still to come.
use Rattle.std.specs.Prelude.{◌≡◌, ◌⊎◌, ℕ, suc, ◌+◌, ◌-◌, ◌<◌, ◌≤◌, List, [], ◌∷◌, length, Bool, false, Option, Some, MatchOption, IfSome, IsSomeAnd, if◌then◌else◌}
use Rattle.std.specs.Bool.{MatchBool, OnTrue}
use Rattle.std.specs.Option.{option_map, option_map_or}
use Rattle.std.specs.Str.{chars}
use Rattle.bytes_utils.specs.Ends.{EndsWith, RefusesCut}
use Rattle.bytes_utils.specs.Halves.{AreHalvesAtFirst}
use Rattle.bytes_utils.specs.Occurrence.{Occurs}
use Rattle.bytes_utils.specs.Parts.{ArePartsFromFront, ArePartsFromBack}
use Rattle.bytes_utils.specs.declared.split.direction.Direction.{Direction}
use Rattle.bytes_utils.specs.declared.split.direction.Direction.TheVariants.{Forward, Backward}

-- A splitter by a separator: what is still to be split, if anything, and the separator, both as bytes; the number of
-- parts that may still be given, if there is a limit; whether the first empty part by an empty separator was given.
pub record Splitting : Type 0 where
  pub rest : Option (List ℕ)
  pub separator : List ℕ
  pub limit : Option ℕ
  pub begun : Bool

-- such a state, and the end from which the splitter splits
pub record SplittingFrom : Type 0 where
  pub state : Splitting
  pub end : Direction

-- a state, by its fields
abbrev pub splitting : Option (List ℕ) → List ℕ → Option ℕ → Bool → Splitting
splitting rest separator limit begun = record { rest = rest; separator = separator; limit = limit; begun = begun }

-- all of a text is to be split by a separator, into at most `limit` parts
abbrev pub all_of : List ℕ → List ℕ → Option ℕ → Splitting
all_of text separator limit = splitting (Some text) separator limit false

-- `Are` says which lists are the parts of a text by a separator with a limit. These parts of what is left are to come,
-- none if nothing is left. After the first empty part by an empty separator, they are the parts that follow it.
abbrev AreLeft : (List ℕ → List ℕ → Option ℕ → List (List ℕ) → Type 0) → Splitting → List (List ℕ) → Type 0
AreLeft Are s parts = MatchOption s.rest (parts ≡ [])
    (λ text. MatchBool s.begun (Are (chars text) [] (option_map suc s.limit) ([] ∷ parts)) (Are (chars text) (chars s.separator) s.limit parts))

-- these parts are to come, from the front
abbrev pub AreForwardPartsToCome : Splitting → List (List ℕ) → Type 0
AreForwardPartsToCome = AreLeft ArePartsFromFront

-- these parts are to come, from the back
abbrev pub AreBackwardPartsToCome : Splitting → List (List ℕ) → Type 0
AreBackwardPartsToCome = AreLeft ArePartsFromBack

-- these parts are to come, from the given end
abbrev pub ArePartsToCome : Direction → Splitting → List (List ℕ) → Type 0
ArePartsToCome Forward = AreForwardPartsToCome
ArePartsToCome Backward = AreBackwardPartsToCome

-- there is no limit, or it leaves more than one part
abbrev pub LeavesMoreToSplit : Option ℕ → Type 0
LeavesMoreToSplit limit = IfSome limit (λ most. 1 < most)

-- what is left of a limit after a part was given
abbrev pub limit_after_split : Option ℕ → Option ℕ
limit_after_split = option_map (λ most. most - 1)

-- The next step splits the storage: the limit leaves more than one part, and what is left holds a separator. Every text
-- holds the empty separator; but after all characters were given, what is left is the last part and needs no split.
abbrev pub SplitsNext : Splitting → Type 0
SplitsNext s = LeavesMoreToSplit s.limit
    × IsSomeAnd s.rest (λ text. Occurs (chars s.separator) (chars text) × OnTrue s.begun (0 < length text))

-- nothing follows the separator at which a step from this end cuts the text: the first one, or the last one
abbrev pub SeparatorEnds : Direction → List ℕ → List ℕ → Type 0
SeparatorEnds Forward separator text = (before : List ℕ) × AreHalvesAtFirst text separator before []
SeparatorEnds Backward separator text = EndsWith separator text

-- The next step cuts this text at one of its ends. The empty separator cuts off an empty part first, and at last the only
-- character that is left; any other one ends the text.
abbrev pub CutsAtEnd : Direction → List ℕ → Bool → List ℕ → Type 0
CutsAtEnd end separator begun text = ((length separator ≡ 0) × OnTrue begun (length (chars text) ≤ 1)) ⊎ ((0 < length separator) × SeparatorEnds end separator text)

-- the next part is the first one by the empty separator: it is empty, and one split at an end takes it
abbrev pub GivesEmptyFirst : List ℕ → Bool → Type 0
GivesEmptyFirst separator begun = (length separator ≡ 0) × (begun ≡ false)

-- the reasons for which the next step from this end may be refused, if it splits the storage: those of its cut, and for
-- the first part by the empty separator only those of a split at an end
abbrev pub RefusesSplit : {E : Type 0} → (E → Type 0) → (E → Type 0) → (E → Type 0) → Direction → Splitting → E → Type 0
RefusesSplit refuses refuses_empty refuses_side end s reason = SplitsNext s
    × RefusesCut refuses refuses_empty refuses_side (IsSomeAnd s.rest (CutsAtEnd end s.separator s.begun)) reason
    × (GivesEmptyFirst s.separator s.begun → refuses_empty reason)

-- a bound on the number of parts to come
abbrev pub most_parts : Splitting → ℕ
most_parts s = option_map_or (λ text. length text + (if s.begun then 1 else 2)) s.rest 0
