-- How a list of backward parts grows at the end of the text, and that every text has such a list: the mirror of the
-- forward parts.
use Rattle.std.proofs.Common.{◌≡◌, sym, ap, subst, ◌∙◌, ℕ, ◌+◌, ◌-◌, ◌<◌, List, [], ◌∷◌, ◌++◌, Option, Some, length, map, take, drop, reverse, arith, append_assoc, length-append, ◌⊎◌}
use Rattle.std.specs.Option.{IfSome}
use Rattle.std.proofs.lemmas.List.{take_at, drop_at}
use Rattle.std.proofs.lemmas.Bool.{cases_eq}
use Rattle.bytes_utils.specs.Occurrence.{Occurs, OccursLastAt}
use Rattle.bytes_utils.specs.Parts.{AreForwardParts, AreBackwardParts}
use Rattle.bytes_utils.specs.Splitting.{limit_after_split}
use Rattle.bytes_utils.proofs.Forward.{AreForwardParts-more, forward_parts}
use Rattle.bytes_utils.proofs.Mirror.{length-some_reverse, reversed_twice, reverse_cut, reverse_place, OccursFirstAt-reverse, AreForwardParts-from_mirror, AreBackwardParts-from_mirror}

module _ {X : Type 0} (p t : List X) (i : ℕ) (some : 0 < length p) (last : OccursLastAt p t i) where
  -- in the reverse, what was after p is before it
  first_part : take (length t - (i + length p)) (reverse t) ≡ reverse (drop (i + length p) t)
  first_part =
      ap (take (length t - (i + length p))) (reverse_cut p t i last.here)
      ∙ take_at (reverse (drop (i + length p) t)) (reverse p ++ reverse (take i t)) (length t - (i + length p)) (reverse_place p t i last.here)

  -- and what was before p is after it
  others : drop (length t - (i + length p) + length (reverse p)) (reverse t) ≡ reverse (take i t)
  others =
      let back = reverse (drop (i + length p) t) in
      let whole : reverse t ≡ (back ++ reverse p) ++ reverse (take i t) = reverse_cut p t i last.here ∙ sym (append_assoc back (reverse p) (reverse (take i t))) in
      let size : length (back ++ reverse p) ≡ length t - (i + length p) + length (reverse p) = omega (arith, length-append back (reverse p), reverse_place p t i last.here) in
      ap (drop (length t - (i + length p) + length (reverse p))) whole ∙ drop_at (back ++ reverse p) (reverse (take i t)) _ size

  -- a part split off at the last occurrence comes before the parts of what is before that occurrence
  pub AreBackwardParts-more : (limit : Option ℕ) → IfSome limit (λ most. 1 < most) → (parts : List (List X))
      → AreBackwardParts (take i t) p (limit_after_split limit) parts → AreBackwardParts t p limit (drop (i + length p) t ∷ parts)
  AreBackwardParts-more limit room parts are =
      let before = subst (λ z. AreForwardParts z (reverse p) (limit_after_split limit) (map reverse parts)) (sym others) (AreForwardParts-from_mirror (take i t) p (limit_after_split limit) parts some are) in
      let whole = AreForwardParts-more (reverse p) (reverse t) (length t - (i + length p)) (length-some_reverse p some) (OccursFirstAt-reverse p t i some last) limit room (map reverse parts) before in
      AreBackwardParts-from_mirror t p limit (drop (i + length p) t ∷ parts) some (subst (λ z. AreForwardParts (reverse t) (reverse p) limit (z ∷ map reverse parts)) first_part whole)

-- a text in which p doesn't occur is its only part
pub AreBackwardParts-last : {X : Type 0} (p t : List X) (limit : Option ℕ) → IfSome limit (λ most. 0 < most) → (¬ Occurs p t) → AreBackwardParts t p limit (t ∷ [])
AreBackwardParts-last p t limit positive lacks = grind arith

-- if one part is the limit, it is the whole text
pub AreBackwardParts-rest : {X : Type 0} (p t : List X) → AreBackwardParts t p (Some 1) (t ∷ [])
AreBackwardParts-rest p t = grind arith

abbrev pub HasBackwardParts : {X : Type 0} → List X → List X → Option ℕ → Type 0
HasBackwardParts {X} p t limit = (parts : List (List X)) × AreBackwardParts t p limit parts

-- every list of elements with decidable equality has a list of backward parts
pub backward_parts : {X : Type 0} → ((x y : X) → (x ≡ y) ⊎ (¬ (x ≡ y))) → (p : List X) → 0 < length p → (t : List X) (limit : Option ℕ) → IfSome limit (λ most. 0 < most) → HasBackwardParts p t limit
backward_parts same p some t limit positive =
    let mirrored = forward_parts same (reverse p) (length-some_reverse p some) (reverse t) limit positive in
    let parts = map reverse mirrored.0 in
    (parts, AreBackwardParts-from_mirror t p limit parts some (subst (AreForwardParts (reverse t) (reverse p) limit) (sym (reversed_twice mirrored.0)) mirrored.1))

-- and so has every text
pub has_backward_parts : (p t : List ℕ) (limit : Option ℕ) → 0 < length p → IfSome limit (λ most. 0 < most) → HasBackwardParts p t limit
has_backward_parts p t limit some positive = backward_parts cases_eq p some t limit positive
