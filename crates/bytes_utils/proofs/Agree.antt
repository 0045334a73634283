-- If no two occurrences of a separator overlap, the parts from the front and the parts from the back are the same.
use Rattle.std.proofs.Common.{◌≡◌, ◌↔◌, refl, sym, ap, subst, ◌∙◌, ℕ, ◌+◌, ◌-◌, ◌<◌, ◌≤◌, List, [], ◌∷◌, ◌++◌, None, length, map, take, reverse, arith, append_assoc, length-append, ◌⊎◌, inl, inr}
use Rattle.std.specs.List.{All}
use Rattle.std.proofs.lemmas.List.{reverse-reverse, length-reverse, length-map, drop-drop, drop_at, take_all, reverse-append}
use Rattle.std.proofs.lemmas.List.Elements.{All-nil, All-cons, All-head, All-tail, All-append, All-map, All-weaker}
use Rattle.std.proofs.lemmas.Bool.{cases_lt}
use Rattle.bytes_utils.specs.Occurrence.{OccursAt, Occurs, OccursFirstAt, NoOccurrencesOverlap}
use Rattle.bytes_utils.specs.Parts.{join, EachPartButLast, OfLastPart, AreForwardParts, AreBackwardParts}
use Rattle.bytes_utils.proofs.Boundaries.{OccursAt-fits}
use Rattle.bytes_utils.proofs.OccurrenceLemmas.{OccursAt-between, OccursAt-append, OccursAt-front}
use Rattle.bytes_utils.proofs.Mirror.{replaced, length-some_reverse, reversed_twice, map-reverse, join-reversed, lacks-reverse, OccursAt-from_reverse, AreForwardParts-from_mirror, AreBackwardParts-from_mirror}

-- the parts of t between separators p, none of which holds p
record ArePlainParts {X : Type 0} (t p : List X) (parts : List (List X)) : Type 0 where
  pub some : 0 < length parts
  pub joined : join p parts ≡ t
  pub none_hold : All (λ part. ¬ Occurs p part) parts

-- a part whose first p is the one right after it doesn't hold p
lacks-from_first : {X : Type 0} (p part : List X) → 0 < length p → OccursFirstAt p (part ++ p) (length part) → ¬ Occurs p part
lacks-from_first p part some first = λ occurs.
    omega (arith, first.none_before occurs.0 (OccursAt-append p part p occurs.0 some occurs.1), OccursAt-fits p part occurs.0 some occurs.1, some)

none_hold_p : {X : Type 0} (p : List X) → 0 < length p → (parts : List (List X))
    → EachPartButLast (λ part. OccursFirstAt p (part ++ p) (length part)) parts → OfLastPart (λ part. ¬ Occurs p part) parts → All (λ part. ¬ Occurs p part) parts
none_hold_p p some [] cut last = All-nil (λ part. ¬ Occurs p part)
none_hold_p p some (part ∷ []) cut last = All-cons (λ q. ¬ Occurs p q) part [] last (All-nil (λ q. ¬ Occurs p q))
none_hold_p p some (part ∷ next ∷ parts) cut last =
    All-cons (λ q. ¬ Occurs p q) part (next ∷ parts) (lacks-from_first p part some cut.0) (none_hold_p p some (next ∷ parts) cut.1 last)

plain-from_forward : {X : Type 0} (t p : List X) (parts : List (List X)) → 0 < length p → AreForwardParts t p None parts → ArePlainParts t p parts
plain-from_forward t p parts some are = record {
  some = are.some;
  joined = are.joined;
  none_hold = none_hold_p p some parts are.cut_at_first (are.last tt);
}

-- For a part, p, and a rest, joined, in which no two occurrences of p overlap.
module _ {X : Type 0} (p part rest : List X) (some : 0 < length p) (apart : NoOccurrencesOverlap p (part ++ (p ++ rest))) where
  -- what occurs in the rest occurs in the whole
  OccursAt-following : (i : ℕ) → OccursAt p rest i → OccursAt p (part ++ (p ++ rest)) (length part + length p + i)
  OccursAt-following i here =
      rw (← append_assoc part p rest, ← drop-drop i (length part + length p) ((part ++ p) ++ rest), drop_at (part ++ p) rest (length part + length p) (length-append part p)) here

  apart_after : NoOccurrencesOverlap p rest
  apart_after i j here there less =
      omega (arith, apart (length part + length p + i) (length part + length p + j) (OccursAt-following i here) (OccursAt-following j there) (omega arith))

  -- so if the part doesn't hold p, its first p is the one right after it
  first-from_lacks : (¬ Occurs p part) → OccursFirstAt p (part ++ p) (length part)
  first-from_lacks lacks = record {
    here = ap (take (length p)) (drop_at part p (length part) refl) ∙ take_all (length p) p (omega arith);
    none_before = λ j there. not_before j there (cases_lt j (length part));
  }
    where
      not_before : (j : ℕ) → OccursAt p (part ++ p) j → (j < length part) ⊎ (length part ≤ j) → length part ≤ j
      not_before j there (inr le) = le
      not_before j there (inl less) =
          let in_whole : OccursAt p (part ++ (p ++ rest)) j = subst (λ z. OccursAt p z j) (append_assoc part p rest) (OccursAt-append p (part ++ p) rest j some there) in
          let fits = apart j (length part) in_whole (OccursAt-between part p rest) less in
          absurd (lacks (j, OccursAt-front p part p j there fits))

cut_at_first-from_plain : {X : Type 0} (p : List X) → 0 < length p → (parts : List (List X)) → NoOccurrencesOverlap p (join p parts)
    → All (λ part. ¬ Occurs p part) parts → EachPartButLast (λ part. OccursFirstAt p (part ++ p) (length part)) parts × OfLastPart (λ part. ¬ Occurs p part) parts
cut_at_first-from_plain p some [] apart lack = (tt, tt)
cut_at_first-from_plain p some (part ∷ []) apart lack = (tt, All-head (λ q. ¬ Occurs p q) part [] lack)
cut_at_first-from_plain p some (part ∷ next ∷ parts) apart lack =
    let rest = join p (next ∷ parts) in
    let first = first-from_lacks p part rest some apart (All-head (λ q. ¬ Occurs p q) part (next ∷ parts) lack) in
    let more = cut_at_first-from_plain p some (next ∷ parts) (apart_after p part rest some apart) (All-tail (λ q. ¬ Occurs p q) part (next ∷ parts) lack) in
    ((first, more.0), more.1)

forward-from_plain : {X : Type 0} (t p : List X) (parts : List (List X)) → 0 < length p → NoOccurrencesOverlap p t → ArePlainParts t p parts → AreForwardParts t p None parts
forward-from_plain t p parts some apart plain =
    let cut = cut_at_first-from_plain p some parts (subst (NoOccurrencesOverlap p) (sym plain.joined) apart) plain.none_hold in
    record {
      some = plain.some;
      few = tt;
      joined = plain.joined;
      cut_at_first = cut.0;
      last = λ _. cut.1;
    }

-- The mirror image.

All-reverse : {X : Type 0} (P : X → Type 0) (xs : List X) → All P xs → All P (reverse xs)
All-reverse P [] all = all
All-reverse P (x ∷ xs) all =
    subst (All P) (sym (reverse-append (x ∷ []) xs))
    (All-append P (reverse xs) (x ∷ []) (All-reverse P xs (All-tail P x xs all)) (All-cons P x [] (All-head P x xs all) (All-nil P)))

apart-reverse : {X : Type 0} (p t : List X) → 0 < length p → NoOccurrencesOverlap p t → NoOccurrencesOverlap (reverse p) (reverse t)
apart-reverse p t some apart i j here there less =
    let fits = OccursAt-fits (reverse p) (reverse t) i (length-some_reverse p some) here in
    let also = OccursAt-fits (reverse p) (reverse t) j (length-some_reverse p some) there in
    let size = length-reverse p in
    let sizes = length-reverse t in
    omega (arith, apart (length t - (j + length p)) (length t - (i + length p)) (OccursAt-from_reverse p t j there) (OccursAt-from_reverse p t i here) (omega arith))

plain-reverse : {X : Type 0} (t p : List X) (parts : List (List X)) → ArePlainParts t p parts → ArePlainParts (reverse t) (reverse p) (map reverse (reverse parts))
plain-reverse t p parts plain =
    let lack = All-weaker (λ part. ¬ Occurs p part) (λ part. ¬ Occurs (reverse p) (reverse part)) (lacks-reverse p) (reverse parts) (All-reverse (λ part. ¬ Occurs p part) parts plain.none_hold) in
    record {
      some = omega (arith, length-map (reverse parts) reverse, length-reverse parts, plain.some);
      joined = sym (join-reversed p (reverse parts)) ∙ ap (λ z. reverse (join p z)) (reverse-reverse parts) ∙ ap reverse plain.joined;
      none_hold = All-map (λ part. ¬ Occurs (reverse p) part) reverse (reverse parts) lack;
    }

plain-from_reverse : {X : Type 0} (t p : List X) (parts : List (List X)) → ArePlainParts (reverse t) (reverse p) (map reverse (reverse parts)) → ArePlainParts t p parts
plain-from_reverse t p parts plain =
    let twice : map reverse (reverse (map reverse (reverse parts))) ≡ parts =
    ap (map reverse) (sym (map-reverse reverse (reverse parts)) ∙ ap (map reverse) (reverse-reverse parts)) ∙ reversed_twice parts in
    replaced ArePlainParts (reverse-reverse t) (reverse-reverse p) twice (plain-reverse (reverse t) (reverse p) (map reverse (reverse parts)) plain)

module _ {X : Type 0} (t p : List X) (parts : List (List X)) (some : 0 < length p) (apart : NoOccurrencesOverlap p t) where
  backward-from_forward : AreForwardParts t p None parts → AreBackwardParts t p None (reverse parts)
  backward-from_forward are =
      AreBackwardParts-from_mirror t p None (reverse parts) some
      (forward-from_plain (reverse t) (reverse p) (map reverse (reverse parts)) (length-some_reverse p some) (apart-reverse p t some apart)
      (plain-reverse t p parts (plain-from_forward t p parts some are)))

  forward-from_backward : AreBackwardParts t p None (reverse parts) → AreForwardParts t p None parts
  forward-from_backward are =
      forward-from_plain t p parts some apart
      (plain-from_reverse t p parts
      (plain-from_forward (reverse t) (reverse p) (map reverse (reverse parts)) (length-some_reverse p some)
      (AreForwardParts-from_mirror t p None (reverse parts) some are)))

  -- without a limit, the parts from the back are those from the front in reverse
  pub agree : AreForwardParts t p None parts ↔ AreBackwardParts t p None (reverse parts)
  agree = (backward-from_forward, forward-from_backward)
