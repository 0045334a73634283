-- How a list of forward parts grows at its front, and that every text has such a list.
use Rattle.std.proofs.Common.{◌≡◌, ◌↔◌, sym, subst, ◌∙◌, ℕ, zero, suc, ◌+◌, ◌-◌, ◌<◌, ◌≤◌, List, [], ◌∷◌, ◌++◌, Option, None, Some, length, take, drop, arith, append_assoc, length-append, length-drop, ◌⊎◌, inl, inr}
use Rattle.std.specs.Option.{IfSome}
use Rattle.std.proofs.lemmas.Option.{IfSome_then}
use Rattle.std.proofs.lemmas.List.{length-take-le}
use Rattle.std.proofs.lemmas.Bool.{cases_eq}
use Rattle.bytes_utils.specs.Occurrence.{Occurs, OccursFirstAt}
use Rattle.bytes_utils.specs.Parts.{AreForwardParts}
use Rattle.bytes_utils.specs.Splitting.{limit_after_split}
use Rattle.bytes_utils.proofs.Boundaries.{OccursAt-fits}
use Rattle.bytes_utils.proofs.OccurrenceLemmas.{cut_whole, OccursFirstAt-front, FirstOrNowhere, first_or_nowhere}

-- what is left of a limit after one part, by the limit
pub less : (limit : Option ℕ) (P : ℕ → Type 0) → IfSome limit (λ most. P (most - 1)) ↔ IfSome (limit_after_split limit) P
less None P = (λ _. tt, λ _. tt)
less (Some most) P = (λ holds. holds, λ holds. holds)

-- a part whose first p is right after it comes before the parts of what follows that p
pub AreForwardParts-led : {X : Type 0} (p part rest : List X) (limit : Option ℕ) → OccursFirstAt p (part ++ p) (length part)
    → (parts : List (List X)) → AreForwardParts rest p (limit_after_split limit) parts → AreForwardParts (part ++ (p ++ rest)) p limit (part ∷ parts)
AreForwardParts-led p part rest limit first h are = grind (arith, IfSome_then, less)

module _ {X : Type 0} (p t : List X) (i : ℕ) (some : 0 < length p) (first : OccursFirstAt p t i) where
  -- p occurs first right after the part before its first occurrence in the text
  first_in_part : OccursFirstAt p (take i t ++ p) (length (take i t))
  first_in_part =
      let fits = OccursAt-fits p t i some first.here in
      let size : length (take i t) ≡ i = length-take-le i t (omega arith) in
      let front : OccursFirstAt p (take i t ++ p) i =
      OccursFirstAt-front p (take i t ++ p) (drop (i + length p) t) i some
      (subst (λ z. OccursFirstAt p z i) (sym (append_assoc (take i t) p (drop (i + length p) t) ∙ cut_whole p t i first.here)) first)
      (omega (arith, length-append (take i t) p)) in
      subst (OccursFirstAt p (take i t ++ p)) (sym size) front

  -- a part split off at the first occurrence comes before the parts of what is after it
  pub AreForwardParts-more : (limit : Option ℕ) → IfSome limit (λ most. 1 < most) → (parts : List (List X))
      → AreForwardParts (drop (i + length p) t) p (limit_after_split limit) parts → AreForwardParts t p limit (take i t ∷ parts)
  AreForwardParts-more limit room parts are = grind (arith, AreForwardParts-led, cut_whole, first_in_part)

-- a text in which p doesn't occur is its only part
pub AreForwardParts-last : {X : Type 0} (p t : List X) (limit : Option ℕ) → IfSome limit (λ most. 0 < most) → (¬ Occurs p t) → AreForwardParts t p limit (t ∷ [])
AreForwardParts-last p t limit positive lacks = grind arith

-- if one part is the limit, it is the whole text
pub AreForwardParts-rest : {X : Type 0} (p t : List X) → AreForwardParts t p (Some 1) (t ∷ [])
AreForwardParts-rest p t = grind arith

abbrev pub HasForwardParts : {X : Type 0} → List X → List X → Option ℕ → Type 0
HasForwardParts {X} p t limit = (parts : List (List X)) × AreForwardParts t p limit parts

-- a limit of at least 1 allows one part, or more
pub one_or_more : (limit : Option ℕ) → IfSome limit (λ most. 0 < most) → (limit ≡ Some 1) ⊎ IfSome limit (λ most. 1 < most)
one_or_more limit positive = grind arith

-- Elements with decidable equality.
module _ {X : Type 0} (same : (x y : X) → (x ≡ y) ⊎ (¬ (x ≡ y))) (p : List X) (some : 0 < length p) where
  -- shorter texts have parts under every limit
  abbrev ShorterHave : List X → Type 0
  ShorterHave t = (rest : List X) (limit : Option ℕ) → IfSome limit (λ most. 0 < most) → length rest < length t → HasForwardParts p rest limit

  cut_or_last : (t : List X) (limit : Option ℕ) → IfSome limit (λ most. 1 < most) → FirstOrNowhere p t → ShorterHave t → HasForwardParts p t limit
  cut_or_last t limit room (inr lacks) later = (t ∷ [], AreForwardParts-last p t limit (IfSome_then limit room (λ most room. omega arith)) lacks)
  cut_or_last t limit room (inl found) later =
      let fits = OccursAt-fits p t found.0 some found.1.here in
      let rest = drop (found.0 + length p) t in
      let more = later rest (limit_after_split limit) ((less limit _).0 (IfSome_then limit room (λ most room. omega arith))) (omega (arith, length-drop (found.0 + length p) t, some)) in
      (take found.0 t ∷ more.0, AreForwardParts-more p t found.0 some found.1 limit room more.0 more.1)

  whole_or_cut : (t : List X) (limit : Option ℕ) → (limit ≡ Some 1) ⊎ IfSome limit (λ most. 1 < most) → ShorterHave t → HasForwardParts p t limit
  whole_or_cut t limit (inl one) later = subst (HasForwardParts p t) (sym one) (t ∷ [], AreForwardParts-rest p t)
  whole_or_cut t limit (inr room) later = cut_or_last t limit room (first_or_nowhere same p t some) later

  parts_within : (n : ℕ) (t : List X) (limit : Option ℕ) → IfSome limit (λ most. 0 < most) → length t ≤ n → HasForwardParts p t limit
  parts_within zero t limit positive le = whole_or_cut t limit (one_or_more limit positive) (λ rest left more lt. absurd (omega arith))
  parts_within (suc n) t limit positive le =
      whole_or_cut t limit (one_or_more limit positive) (λ rest left more lt. parts_within n rest left more (omega arith))

  -- every list of them has a list of forward parts
  pub forward_parts : (t : List X) (limit : Option ℕ) → IfSome limit (λ most. 0 < most) → HasForwardParts p t limit
  forward_parts t limit positive = parts_within (length t) t limit positive (omega arith)

-- and so has every text
pub has_forward_parts : (p t : List ℕ) (limit : Option ℕ) → 0 < length p → IfSome limit (λ most. 0 < most) → HasForwardParts p t limit
has_forward_parts p t limit some positive = forward_parts cases_eq p some t limit positive
