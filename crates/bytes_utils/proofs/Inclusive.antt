-- How a list of inclusive parts grows at its front, and that every text has such a list.
use Rattle.std.proofs.Common.{◌≡◌, sym, subst, ℕ, zero, suc, ◌+◌, ◌-◌, ◌<◌, ◌≤◌, List, [], ◌∷◌, ◌++◌, length, take, drop, arith, length-drop, take-append-drop, ◌⊎◌, inl, inr}
use Rattle.std.proofs.lemmas.List.{length-take-le}
use Rattle.std.proofs.lemmas.List.Elements.{All-cons}
use Rattle.std.proofs.lemmas.Bool.{cases_eq, cases_lt}
use Rattle.bytes_utils.specs.Occurrence.{Occurs, OccursFirstAt}
use Rattle.bytes_utils.specs.Parts.{PartEndsAtFirst, AreInclusiveParts}
use Rattle.bytes_utils.proofs.Boundaries.{OccursAt-fits}
use Rattle.bytes_utils.proofs.OccurrenceLemmas.{OccursFirstAt-front, FirstOrNowhere, first_or_nowhere}

-- the list without an element has no parts
pub AreInclusiveParts-none : {X : Type 0} (p : List X) → AreInclusiveParts [] p []
AreInclusiveParts-none p = grind arith

-- a text that isn't empty is its only part if p doesn't occur in it, or first at its end
pub AreInclusiveParts-last : {X : Type 0} (p t : List X) → 0 < length t → PartEndsAtFirst p t ⊎ (¬ Occurs p t) → AreInclusiveParts t p (t ∷ [])
AreInclusiveParts-last p t long ends = grind arith

-- a part that ends with its first p comes before the parts of what follows it
pub AreInclusiveParts-led : {X : Type 0} (p part rest : List X) → 0 < length part → PartEndsAtFirst p part → 0 < length rest
    → (parts : List (List X)) → AreInclusiveParts rest p parts → AreInclusiveParts (part ++ rest) p (part ∷ parts)
AreInclusiveParts-led p part rest some ends left h are = grind (arith, All-cons)

module _ {X : Type 0} (p t : List X) (i : ℕ) (some : 0 < length p) (first : OccursFirstAt p t i) where
  -- the text up to the end of the first occurrence has its first p at its end
  pub front_ends : PartEndsAtFirst p (take (i + length p) t)
  front_ends =
      let fits = OccursAt-fits p t i some first.here in
      let size : length (take (i + length p) t) ≡ i + length p = length-take-le (i + length p) t (omega arith) in
      let whole = subst (λ z. OccursFirstAt p z i) (sym (take-append-drop (i + length p) t)) first in
      let front = OccursFirstAt-front p (take (i + length p) t) (drop (i + length p) t) i some whole (omega arith) in
      subst (OccursFirstAt p (take (i + length p) t)) (omega (arith, size)) front

  -- a part split off after the first occurrence comes before the parts of what is after it
  pub AreInclusiveParts-more : i + length p < length t → (parts : List (List X))
      → AreInclusiveParts (drop (i + length p) t) p parts → AreInclusiveParts t p (take (i + length p) t ∷ parts)
  AreInclusiveParts-more left parts are =
      let size : length (take (i + length p) t) ≡ i + length p = length-take-le (i + length p) t (omega arith) in
      subst (λ z. AreInclusiveParts z p (take (i + length p) t ∷ parts)) (take-append-drop (i + length p) t)
      (AreInclusiveParts-led p (take (i + length p) t) (drop (i + length p) t) (omega (arith, size)) front_ends (omega (arith, length-drop (i + length p) t)) parts are)

-- a first occurrence that ends the text
pub ends_whole : {X : Type 0} (p t : List X) (i : ℕ) → OccursFirstAt p t i → i + length p ≡ length t → PartEndsAtFirst p t
ends_whole p t i first whole = let place : i ≡ length t - length p = omega arith in subst (OccursFirstAt p t) place first

abbrev pub HasInclusiveParts : {X : Type 0} → List X → List X → Type 0
HasInclusiveParts {X} p t = (parts : List (List X)) × AreInclusiveParts t p parts

-- Elements with decidable equality.
module _ {X : Type 0} (same : (x y : X) → (x ≡ y) ⊎ (¬ (x ≡ y))) (p : List X) (some : 0 < length p) where
  abbrev ShorterHave : List X → Type 0
  ShorterHave t = (rest : List X) → length rest < length t → HasInclusiveParts p rest

  cut_or_whole : (t : List X) → 0 < length t → (i : ℕ) → OccursFirstAt p t i → (i + length p < length t) ⊎ (length t ≤ i + length p) → ShorterHave t → HasInclusiveParts p t
  cut_or_whole t long i first (inl left) later =
      let more = later (drop (i + length p) t) (omega (arith, length-drop (i + length p) t)) in
      (take (i + length p) t ∷ more.0, AreInclusiveParts-more p t i some first left more.0 more.1)
  cut_or_whole t long i first (inr end) later =
      let fits = OccursAt-fits p t i some first.here in
      (t ∷ [], AreInclusiveParts-last p t long (inl (ends_whole p t i first (omega arith))))

  cut_or_last : (t : List X) → 0 < length t → FirstOrNowhere p t → ShorterHave t → HasInclusiveParts p t
  cut_or_last t long (inr lacks) later = (t ∷ [], AreInclusiveParts-last p t long (inr lacks))
  cut_or_last t long (inl found) later = cut_or_whole t long found.0 found.1 (cases_lt (found.0 + length p) (length t)) later

  parts_within : (n : ℕ) (t : List X) → length t ≤ n → HasInclusiveParts p t
  parts_within n [] le = ([], AreInclusiveParts-none p)
  parts_within zero (c ∷ cs) le = absurd (omega arith)
  parts_within (suc n) (c ∷ cs) le =
      cut_or_last (c ∷ cs) (omega arith) (first_or_nowhere same p (c ∷ cs) some) (λ rest lt. parts_within n rest (omega arith))

  -- every list of them has a list of inclusive parts
  pub inclusive_parts : (t : List X) → HasInclusiveParts p t
  inclusive_parts t = parts_within (length t) t (omega arith)

-- and so has every text
pub has_inclusive_parts : (p t : List ℕ) → 0 < length p → HasInclusiveParts p t
has_inclusive_parts p t some = inclusive_parts cases_eq p some t
