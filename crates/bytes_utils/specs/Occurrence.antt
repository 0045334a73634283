-- Where one list occurs in another: a separator in a text, as characters or as bytes. The list that is searched for is
-- the first argument, the list that is searched is the second.
use Rattle.std.specs.Prelude.{◌≡◌, ◌↔◌, ℕ, ◌+◌, ◌<◌, ◌≤◌, List, length, take, drop, Option, MatchOption}
use Rattle.std.specs.Str.{encode_utf8_all}
use Rattle.bytes_utils.specs.Characters.{AreCharacters, character_place}

-- p occurs in t at place i: the first `length p` elements of t from place i on are p
abbrev pub OccursAt : {X : Type 0} → List X → List X → ℕ → Type 0
OccursAt p t i = take (length p) (drop i t) ≡ p

-- p occurs in t at some place
abbrev pub Occurs : {X : Type 0} → List X → List X → Type 0
Occurs p t = (i : ℕ) × OccursAt p t i

-- p occurs in t at place i and at no place before it
pub record OccursFirstAt {X : Type 0} (p t : List X) (i : ℕ) : Type 0 where
  pub here : OccursAt p t i
  pub none_before : (j : ℕ) → OccursAt p t j → i ≤ j

-- p occurs in t at place i and at no place after it
pub record OccursLastAt {X : Type 0} (p t : List X) (i : ℕ) : Type 0 where
  pub here : OccursAt p t i
  pub none_after : (j : ℕ) → OccursAt p t j → j ≤ i

-- no two occurrences of p in t overlap: two different places are at least the length of p apart
abbrev pub NoOccurrencesOverlap : {X : Type 0} → List X → List X → Type 0
NoOccurrencesOverlap p t = (i j : ℕ) → OccursAt p t i → OccursAt p t j → i < j → i + length p ≤ j

-- r is the byte place in t at which p occurs first, or `None` if it doesn't occur
abbrev pub FindsFirstOccurrence : List ℕ → List ℕ → Option ℕ → Type 0
FindsFirstOccurrence p t r = MatchOption r (¬ Occurs p t) (λ at. (i : ℕ) × (at ≡ character_place t i) × OccursFirstAt p t i)

-- r is the byte place in t at which p occurs last, or `None` if it doesn't occur
abbrev pub FindsLastOccurrence : List ℕ → List ℕ → Option ℕ → Type 0
FindsLastOccurrence p t r = MatchOption r (¬ Occurs p t) (λ at. (i : ℕ) × (at ≡ character_place t i) × OccursLastAt p t i)

-- For p not empty, both lists of real characters: the bytes of p occur in the bytes of t exactly at the byte places of
-- the characters at which p occurs in t.
abbrev pub OccurrenceBoundariesLaw : Type 0
OccurrenceBoundariesLaw = (p t : List ℕ) (k : ℕ) → 0 < length p → AreCharacters p → AreCharacters t
    → OccursAt (encode_utf8_all p) (encode_utf8_all t) k ↔ ((i : ℕ) × (k ≡ character_place t i) × OccursAt p t i)
