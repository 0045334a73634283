-- What follows from the definitions of lists of parts, for lists of elements of any type X. A text is such a list, of characters.
use Rattle.std.specs.Prelude.{◌≡◌, ◌⊎◌, ◌↔◌, ℕ, ◌-◌, ◌<◌, List, [], ◌∷◌, ◌++◌, length, map, take, drop, reverse, Option, None, Some, IfSome, if◌then◌else◌, nat_lt, All, IsUtf8}
use Rattle.std.specs.Str.{chars, encode_utf8_all}
use Rattle.bytes_utils.specs.Indices.{indexed}
use Rattle.bytes_utils.specs.Occurrence.{NoOccurrencesOverlap, OccursAt}
use Rattle.bytes_utils.specs.Parts.{join, AreForwardParts, AreBackwardParts, AreSeparable, ArePartsFromFront}

-- Any two elements are the same or different, as any two characters are. Without this nothing decides where a separator occurs.
abbrev pub CanBeDistinguished : Type 0 → Type 0
CanBeDistinguished X = (x y : X) → (x ≡ y) ⊎ (¬ (x ≡ y))

-- exactly one list is right: any two right lists are the same, and there is a right list if elements can be distinguished
pub record ExactlyOne {X : Type 0} (Is : List (List X) → Type 0) : Type 0 where
  pub same : (parts others : List (List X)) → Is parts → Is others → parts ≡ others
  pub one : CanBeDistinguished X → (parts : List (List X)) × Is parts

-- for p not empty, and a limit of at least 1 or none, t has exactly one list of these parts
abbrev pub UniqueLaw : (X : Type 0) → (List X → List X → Option ℕ → List (List X) → Type 0) → Type 0
UniqueLaw X Are = (t p : List X) (limit : Option ℕ) → 0 < length p → IfSome limit (λ most. 0 < most) → ExactlyOne (Are t p limit)

-- for p not empty, the backward parts of t are the forward parts of t and p reversed, each part reversed
abbrev pub MirrorLaw : Type 0 → Type 0
MirrorLaw X = (t p : List X) (limit : Option ℕ) (parts : List (List X)) → 0 < length p
    → AreBackwardParts t p limit parts ↔ AreForwardParts (reverse t) (reverse p) limit (map reverse parts)

-- if no two occurrences of p in t overlap, the parts from the back are those from the front in reverse, without a limit
abbrev pub AgreeLaw : Type 0 → Type 0
AgreeLaw X = (t p : List X) (parts : List (List X)) → 0 < length p → NoOccurrencesOverlap p t
    → AreForwardParts t p None parts ↔ AreBackwardParts t p None (reverse parts)

-- All parts, if there are at most `most`. Otherwise the first ones, one fewer than the limit, and then the rest, not split, which `uncut`
-- makes of the others.
abbrev pub limited : {X : Type 0} → (List (List X) → List X) → ℕ → List (List X) → List (List X)
limited uncut most parts = if nat_lt most (length parts) then take (most - 1) parts ++ (uncut (drop (most - 1) parts) ∷ []) else parts

-- the parts of t, in the order of the text and joined by p, are t, for every p and a limit of at least 1 or none
abbrev pub JoinLaw : (X : Type 0) → (List X → List X → Option ℕ → List (List X) → Type 0) → (List (List X) → List (List X)) → Type 0
JoinLaw X Are in_order = (t p : List X) (limit : Option ℕ) (parts : List (List X)) → IfSome limit (λ most. 0 < most)
    → Are t p limit parts → join p (in_order parts) ≡ t

-- for p not empty, parts that are joined by p and split again are the same parts if and only if they are separable
abbrev pub ComeBackLaw : Type 0 → Type 0
ComeBackLaw X = (p : List X) (parts others : List (List X)) → 0 < length p → AreForwardParts (join p parts) p None others
    → (others ≡ parts) ↔ AreSeparable p parts

-- the same for texts, which are joined as bytes and split by characters
abbrev pub TextsComeBackLaw : Type 0
TextsComeBackLaw = (separator : List ℕ) (texts parts : List (List ℕ)) → 0 < length separator → IsUtf8 separator → All IsUtf8 texts
    → ArePartsFromFront (chars (join separator texts)) (chars separator) None parts → (parts ≡ map chars texts) ↔ AreSeparable (chars separator) (map chars texts)

-- in each state of a splitter at most one list is still to come
abbrev pub OneToComeLaw : {S X : Type 0} → (S → List X → Type 0) → Type 0
OneToComeLaw {S} {X} coming = (s : S) (parts others : List X) → coming s parts → coming s others → parts ≡ others

-- each part of a text occurs in the text at its place
abbrev pub PartPlacesLaw : Type 0
PartPlacesLaw = (text separator : List ℕ) (limit : Option ℕ) (parts : List (List ℕ)) → IsUtf8 text → IsUtf8 separator
    → ArePartsFromFront (chars text) (chars separator) limit parts → All (λ item. OccursAt (encode_utf8_all item.1) text item.0) (indexed separator 0 parts)

-- for p not empty and a limit of at least 1: what the limit makes of the parts, with their rest joined in the order of the text
abbrev pub LimitLaw : (X : Type 0) → (List X → List X → Option ℕ → List (List X) → Type 0) → (List (List X) → List (List X)) → Type 0
LimitLaw X Are in_order = (t p : List X) (most : ℕ) (parts : List (List X)) → 0 < length p → 0 < most
    → Are t p None parts → Are t p (Some most) (limited (λ rest. join p (in_order rest)) most parts)
