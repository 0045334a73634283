-- A list read from its other end: what occurs last in it occurs first in its reverse, and its backward parts are the
-- forward parts of its reverse.
use Rattle.std.proofs.Common.{◌≡◌, ◌↔◌, refl, sym, ap, subst, ◌∙◌, ℕ, ◌+◌, ◌-◌, ◌<◌, ◌≤◌, List, [], ◌∷◌, ◌++◌, Option, length, map, take, drop, reverse, arith, append_assoc, length-append, length-drop}
use Rattle.std.specs.Option.{IfSome}
use Rattle.std.proofs.lemmas.List.{reverse-append, reverse-reverse, length-reverse, length-map, map-append}
use Rattle.bytes_utils.specs.Occurrence.{OccursAt, Occurs, OccursFirstAt, OccursLastAt}
use Rattle.bytes_utils.specs.Parts.{join, EachPartButLast, OfLastPart, AreForwardParts, AreBackwardParts}
use Rattle.bytes_utils.proofs.Boundaries.{OccursAt-fits}
use Rattle.bytes_utils.proofs.OccurrenceLemmas.{cut_whole, OccursAt-between}
use Rattle.bytes_utils.proofs.Joins.{join-append}

pub length-some_reverse : {X : Type 0} (p : List X) → 0 < length p → 0 < length (reverse p)
length-some_reverse p some = omega (arith, length-reverse p, some)

-- a relation of three things, with each replaced by an equal one
pub replaced : {A B C : Type 0} (R : A → B → C → Type 0) {a b : A} {c d : B} {u v : C} → a ≡ b → c ≡ d → u ≡ v → R a c u → R b d v
replaced R {b} {c} {d} {u} e f g h = subst (λ z. R b d z) g (subst (λ z. R b z u) f (subst (λ z. R z c u) e h))

reverse-between : {X : Type 0} (front p back : List X) → reverse (front ++ (p ++ back)) ≡ reverse back ++ (reverse p ++ reverse front)
reverse-between front p back =
    simp (reverse-append, append_assoc)

-- reversing each list twice changes nothing
pub reversed_twice : {X : Type 0} (lists : List (List X)) → map reverse (map reverse lists) ≡ lists
reversed_twice [] = refl
reversed_twice (list ∷ lists) = λ k. reverse-reverse list k ∷ reversed_twice lists k

-- the place, counted from the other end
module _ {X : Type 0} (p t : List X) (i : ℕ) (here : OccursAt p t i) where
  -- a list with p in it, reversed
  pub reverse_cut : reverse t ≡ reverse (drop (i + length p) t) ++ (reverse p ++ reverse (take i t))
  reverse_cut = sym (ap reverse (cut_whole p t i here)) ∙ reverse-between (take i t) p (drop (i + length p) t)

  pub reverse_place : length (reverse (drop (i + length p) t)) ≡ length t - (i + length p)
  reverse_place = length-reverse (drop (i + length p) t) ∙ length-drop (i + length p) t

  pub OccursAt-reverse : OccursAt (reverse p) (reverse t) (length t - (i + length p))
  OccursAt-reverse = grind (arith, OccursAt-between, reverse_cut, reverse_place)

pub OccursAt-from_reverse : {X : Type 0} (p t : List X) (j : ℕ) → OccursAt (reverse p) (reverse t) j → OccursAt p t (length t - (j + length p))
OccursAt-from_reverse p t j here =
    let place : length (reverse t) - (j + length (reverse p)) ≡ length t - (j + length p) = λ k. length-reverse t k - (j + length-reverse p k) in
    replaced OccursAt (reverse-reverse p) (reverse-reverse t) place (OccursAt-reverse (reverse p) (reverse t) j here)

-- what occurs last in a list occurs first in its reverse
pub OccursFirstAt-reverse : {X : Type 0} (p t : List X) (i : ℕ) → 0 < length p → OccursLastAt p t i → OccursFirstAt (reverse p) (reverse t) (length t - (i + length p))
OccursFirstAt-reverse p t i some last = record {
  here = OccursAt-reverse p t i last.here;
  none_before = λ j there.
      let fits = OccursAt-fits (reverse p) (reverse t) j (length-some_reverse p some) there in
      omega (arith, last.none_after _ (OccursAt-from_reverse p t j there), fits, length-reverse p, length-reverse t);
}

-- what occurs first in a list occurs last in its reverse
pub OccursLastAt-reverse : {X : Type 0} (p t : List X) (i : ℕ) → 0 < length p → OccursFirstAt p t i → OccursLastAt (reverse p) (reverse t) (length t - (i + length p))
OccursLastAt-reverse p t i some first = record {
  here = OccursAt-reverse p t i first.here;
  none_after = λ j there.
      let fits = OccursAt-fits (reverse p) (reverse t) j (length-some_reverse p some) there in
      omega (arith, first.none_before _ (OccursAt-from_reverse p t j there), fits, length-reverse p, length-reverse t);
}

-- what doesn't occur in a list doesn't occur in its reverse, and conversely
pub lacks-reverse : {X : Type 0} (p t : List X) → (¬ Occurs p t) → ¬ Occurs (reverse p) (reverse t)
lacks-reverse p t lacks = λ occurs. lacks (_, OccursAt-from_reverse p t occurs.0 occurs.1)

lacks_mirrored : {X : Type 0} (p t : List X) → (¬ Occurs p t) ↔ (¬ Occurs (reverse p) (reverse t))
lacks_mirrored p t = (lacks-reverse p t, λ lacks occurs. lacks (_, OccursAt-reverse p t occurs.0 occurs.1))

-- For one part.

cut_mirrored : {X : Type 0} (p : List X) → 0 < length p → (part : List X)
    → OccursLastAt p (p ++ part) 0 ↔ OccursFirstAt (reverse p) (reverse part ++ reverse p) (length (reverse part))
cut_mirrored p some part =
    let back = reverse part ++ reverse p in
    let place : length (p ++ part) - (0 + length p) ≡ length (reverse part) = omega (arith, length-append p part, length-reverse part) in
    let whole : reverse back ≡ p ++ part = reverse-append (reverse part) (reverse p) ∙ (λ k. reverse-reverse p k ++ reverse-reverse part k) in
    let start : length back - (length (reverse part) + length (reverse p)) ≡ 0 = omega (arith, length-append (reverse part) (reverse p)) in (
      λ last. replaced OccursFirstAt refl (reverse-append p part) place (OccursFirstAt-reverse p (p ++ part) 0 some last),
      λ first. replaced OccursLastAt (reverse-reverse p) whole start (OccursLastAt-reverse (reverse p) back _ (length-some_reverse p some) first),
    )

-- For lists of parts.

module _ {X Y : Type 0} (f : X → Y) (P : X → Type 0) (Q : Y → Type 0) (each : (x : X) → P x ↔ Q (f x)) where
  EachPartButLast-map : (xs : List X) → EachPartButLast P xs ↔ EachPartButLast Q (map f xs)
  EachPartButLast-map [] = (λ _. tt, λ _. tt)
  EachPartButLast-map (x ∷ []) = (λ _. tt, λ _. tt)
  EachPartButLast-map (x ∷ y ∷ xs) =
      let more = EachPartButLast-map (y ∷ xs) in (λ holds. ((each x).0 holds.0, more.0 holds.1), λ holds. ((each x).1 holds.0, more.1 holds.1))

  OfLastPart-map : (xs : List X) → OfLastPart P xs ↔ OfLastPart Q (map f xs)
  OfLastPart-map [] = (λ _. tt, λ _. tt)
  OfLastPart-map (x ∷ []) = each x
  OfLastPart-map (x ∷ y ∷ xs) = OfLastPart-map (y ∷ xs)

pub map-reverse : {X Y : Type 0} (f : X → Y) (xs : List X) → map f (reverse xs) ≡ reverse (map f xs)
map-reverse f [] = refl
map-reverse f (x ∷ xs) =
    rw (reverse-append (x ∷ []) xs, map-append f (reverse xs) (x ∷ []), map-reverse f xs) (sym (reverse-append (f x ∷ []) (map f xs)))

pub reverse-join : {X : Type 0} (p : List X) (parts : List (List X)) → reverse (join p parts) ≡ join (reverse p) (reverse (map reverse parts))
reverse-join p [] = refl
reverse-join p (part ∷ []) = refl
reverse-join p (part ∷ next ∷ parts) =
    let others = map reverse (next ∷ parts) in
    let some : 0 < length (reverse others) = omega (arith, length-reverse others) in
    reverse-between part p (join p (next ∷ parts)) ∙ ap (λ z. z ++ (reverse p ++ reverse part)) (reverse-join p (next ∷ parts))
    ∙ sym (join-append (reverse p) (reverse others) (reverse part ∷ []) some (omega arith)) ∙ ap (join (reverse p)) (sym (reverse-append (reverse part ∷ []) others))

-- the parts, each reversed, join to the reverse of the parts joined in the other order
pub join-reversed : {X : Type 0} (p : List X) (parts : List (List X)) → reverse (join p (reverse parts)) ≡ join (reverse p) (map reverse parts)
join-reversed p parts =
    rw (reverse-join p (reverse parts), map-reverse reverse parts, reverse-reverse (map reverse parts)) refl

module _ {X : Type 0} (t p : List X) (limit : Option ℕ) (parts : List (List X)) (some : 0 < length p) where
  size : length (map reverse parts) ≡ length parts
  size = length-map parts reverse

  pub AreForwardParts-from_mirror : AreBackwardParts t p limit parts → AreForwardParts (reverse t) (reverse p) limit (map reverse parts)
  AreForwardParts-from_mirror are = record {
    some = omega (arith, size, are.some);
    few = subst (λ n. IfSome limit (λ most. n ≤ most)) (sym size) are.few;
    joined = sym (join-reversed p parts) ∙ ap reverse are.joined;
    cut_at_first = (EachPartButLast-map reverse _ _ (cut_mirrored p some) parts).0 are.cut_at_last;
    last = λ below. (OfLastPart-map reverse _ _ (lacks_mirrored p) parts).0 (are.last (subst (λ n. IfSome limit (λ most. n < most)) size below));
  }

  pub AreBackwardParts-from_mirror : AreForwardParts (reverse t) (reverse p) limit (map reverse parts) → AreBackwardParts t p limit parts
  AreBackwardParts-from_mirror are = record {
    some = omega (arith, size, are.some);
    few = subst (λ n. IfSome limit (λ most. n ≤ most)) size are.few;
    joined = sym (reverse-reverse (join p (reverse parts))) ∙ ap reverse (join-reversed p parts ∙ are.joined) ∙ reverse-reverse t;
    cut_at_last = (EachPartButLast-map reverse _ _ (cut_mirrored p some) parts).1 are.cut_at_first;
    last = λ below. (OfLastPart-map reverse _ _ (lacks_mirrored p) parts).1 (are.last (subst (λ n. IfSome limit (λ most. n < most)) (sym size) below));
  }

  -- the backward parts are the forward parts of the reverse, each reversed
  pub mirror : AreBackwardParts t p limit parts ↔ AreForwardParts (reverse t) (reverse p) limit (map reverse parts)
  mirror = (AreForwardParts-from_mirror, AreBackwardParts-from_mirror)
