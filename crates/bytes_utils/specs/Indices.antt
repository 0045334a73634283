-- The parts of a text between separators, each with the byte place at which it begins.
use Rattle.std.specs.Prelude.{◌≡◌, ℕ, ◌+◌, List, [], ◌∷◌, length}
use Rattle.std.specs.Str.{chars, encode_utf8_all}
use Rattle.bytes_utils.specs.Splitting.{Splitting, AreForwardPartsToCome, RefusesSplit}
use Rattle.bytes_utils.specs.declared.split.direction.Direction.TheVariants.{Forward}

-- Pairs each part, given as characters, with the byte place at which it begins: the first begins at this place, each
-- other one after the part before it and the separator, which is given as bytes.
abbrev pub indexed : List ℕ → ℕ → List (List ℕ) → List (ℕ × List ℕ)
indexed separator at [] = []
indexed separator at (part ∷ parts) = (at, part) ∷ indexed separator (at + length (encode_utf8_all part) + length separator) parts

-- what is still to be split, and the byte place at which it begins
pub record Indexing : Type 0 where
  pub parts : Splitting
  pub at : ℕ

-- these parts are to come, each with its place
abbrev pub AreIndexedPartsToCome : Indexing → List (ℕ × List ℕ) → Type 0
AreIndexedPartsToCome s items = (parts : List (List ℕ)) × AreForwardPartsToCome s.parts parts × (items ≡ indexed s.parts.separator s.at parts)

-- the reasons for which the next step may be refused, those of the step without places
abbrev pub RefusesIndexed : {E : Type 0} → (E → Type 0) → (E → Type 0) → (E → Type 0) → Indexing → E → Type 0
RefusesIndexed refuses refuses_empty refuses_side s = RefusesSplit refuses refuses_empty refuses_side Forward s.parts

-- an item as its place and the characters of its part
abbrev pub index_and_chars : ℕ × List ℕ → ℕ × List ℕ
index_and_chars item = (item.0, chars item.1)
