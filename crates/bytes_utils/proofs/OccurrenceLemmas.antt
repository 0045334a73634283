-- How an occurrence divides a list, and whether there is one.
use Rattle.std.proofs.Common.{◌≡◌, refl, sym, ap, ◌∙◌, ℕ, zero, suc, ◌+◌, ◌<◌, ◌≤◌, List, [], ◌∷◌, ◌++◌, length, take, drop, arith, length-drop, take-append-drop, ◌⊎◌, inl, inr}
use Rattle.std.proofs.lemmas.List.{take_at, drop_at, take-append-le, drop-append-le, drop-drop}
use Rattle.std.proofs.lemmas.Bool.{cases_lt}
use Rattle.bytes_utils.specs.Occurrence.{OccursAt, Occurs, OccursFirstAt}
use Rattle.bytes_utils.proofs.Boundaries.{OccursAt-fits}

-- a list in which p occurs is what is before p, p, and what is after it
pub cut_whole : {X : Type 0} (p t : List X) (i : ℕ) → OccursAt p t i → take i t ++ (p ++ drop (i + length p) t) ≡ t
cut_whole p t i here =
    let following : drop (i + length p) t ≡ drop (length p) (drop i t) = sym (drop-drop (length p) i t) in
    ap (λ z. take i t ++ (p ++ z)) following ∙ ap (λ z. take i t ++ (z ++ drop (length p) (drop i t))) (sym here)
    ∙ ap (λ z. take i t ++ z) (take-append-drop (length p) (drop i t)) ∙ take-append-drop i t

-- and conversely
pub OccursAt-between : {X : Type 0} (front p back : List X) → OccursAt p (front ++ (p ++ back)) (length front)
OccursAt-between front p back =
    ap (take (length p)) (drop_at front (p ++ back) (length front) refl) ∙ take_at p back (length p) refl

-- what occurs in a beginning occurs in the whole
pub OccursAt-append : {X : Type 0} (p xs ys : List X) (i : ℕ) → 0 < length p → OccursAt p xs i → OccursAt p (xs ++ ys) i
OccursAt-append p xs ys i some here = grind (arith, OccursAt-fits, drop-append-le, length-drop, take-append-le)

-- what occurs in the whole and ends within a beginning occurs in the beginning
pub OccursAt-front : {X : Type 0} (p xs ys : List X) (i : ℕ) → OccursAt p (xs ++ ys) i → i + length p ≤ length xs → OccursAt p xs i
OccursAt-front p xs ys i here fits = grind (arith, drop-append-le, length-drop, take-append-le)

-- the first place in a beginning is the first in the whole
pub OccursFirstAt-append : {X : Type 0} (p xs ys : List X) (i : ℕ) → 0 < length p → OccursFirstAt p xs i → OccursFirstAt p (xs ++ ys) i
OccursFirstAt-append p xs ys i some first = grind (arith, OccursAt-append, OccursAt-fits, OccursAt-front, cases_lt)

-- and conversely, if the occurrence lies within the beginning
pub OccursFirstAt-front : {X : Type 0} (p xs ys : List X) (i : ℕ) → 0 < length p → OccursFirstAt p (xs ++ ys) i → i + length p ≤ length xs → OccursFirstAt p xs i
OccursFirstAt-front p xs ys i some first fits = grind (arith, OccursAt-append, OccursAt-front)

-- there is at most one first place
pub first_places_same : {X : Type 0} (p t : List X) (i j : ℕ) → OccursFirstAt p t i → OccursFirstAt p t j → i ≡ j
first_places_same p t i j first other = omega (arith, first.none_before j other.here, other.none_before i first.here)

-- p occurs first at some place of t, or nowhere
abbrev pub FirstOrNowhere : {X : Type 0} → List X → List X → Type 0
FirstOrNowhere p t = ((i : ℕ) × OccursFirstAt p t i) ⊎ (¬ Occurs p t)

-- Elements with decidable equality.
module _ {X : Type 0} (same : (x y : X) → (x ≡ y) ⊎ (¬ (x ≡ y))) where
  -- two lists of them are the same, or they aren't
  same_lists : (xs ys : List X) → (xs ≡ ys) ⊎ (¬ (xs ≡ ys))
  same_lists [] [] = inl refl
  same_lists [] (y ∷ ys) = inr (λ e. cc)
  same_lists (x ∷ xs) [] = inr (λ e. cc)
  same_lists (x ∷ xs) (y ∷ ys) = same_more x y xs ys (same x y) (same_lists xs ys)
    where
      same_more : (a b : X) (more others : List X) → (a ≡ b) ⊎ (¬ (a ≡ b)) → (more ≡ others) ⊎ (¬ (more ≡ others)) → (a ∷ more ≡ b ∷ others) ⊎ (¬ (a ∷ more ≡ b ∷ others))
      same_more a b more others (inl e) (inl f) = inl cc
      same_more a b more others (inl e) (inr f) = inr (λ g. f cc)
      same_more a b more others (inr e) _ = inr (λ g. e cc)

  module _ (p : List X) (c : X) (cs : List X) (not_here : ¬ (take (length p) (c ∷ cs) ≡ p)) where
    nowhere_more : (¬ Occurs p cs) → (i : ℕ) → OccursAt p (c ∷ cs) i → ⊥
    nowhere_more nowhere zero here = not_here here
    nowhere_more nowhere (suc i) here = nowhere (i, here)

    first_more : (i : ℕ) → OccursFirstAt p cs i → (j : ℕ) → OccursAt p (c ∷ cs) j → suc i ≤ j
    first_more i first zero there = absurd (not_here there)
    first_more i first (suc j) there = omega (arith, first.none_before j there)

  first_at : (p : List X) (c : X) (cs : List X) → (take (length p) (c ∷ cs) ≡ p) ⊎ (¬ (take (length p) (c ∷ cs) ≡ p)) → FirstOrNowhere p cs → FirstOrNowhere p (c ∷ cs)
  first_at p c cs (inl here) _ = inl (0, record { here = here; none_before = λ j there. omega arith })
  first_at p c cs (inr not_here) (inl found) = inl (suc found.0, record { here = found.1.here; none_before = first_more p c cs not_here found.0 found.1 })
  first_at p c cs (inr not_here) (inr nowhere) = inr (λ occurs. nowhere_more p c cs not_here nowhere occurs.0 occurs.1)

  pub first_or_nowhere : (p t : List X) → 0 < length p → FirstOrNowhere p t
  first_or_nowhere p [] some = inr (λ occurs. omega (arith, OccursAt-fits p [] occurs.0 some occurs.1, some))
  first_or_nowhere p (c ∷ cs) some = first_at p c cs (same_lists (take (length p) (c ∷ cs)) p) (first_or_nowhere p cs some)
