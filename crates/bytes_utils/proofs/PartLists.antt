-- Lists of parts between separators, as a caller builds them and takes them apart. The separator p isn't empty.
use Rattle.std.proofs.Common.{◌≡◌, sym, ap, subst, ◌∙◌, ℕ, ◌<◌, List, [], ◌∷◌, ◌++◌, Option, None, length, arith, length-append, append_assoc, append-nil, ⊎_elim}
use Rattle.std.proofs.lemmas.Bool.{cases_lt}
use Rattle.bytes_utils.specs.Occurrence.{OccursAt, Occurs, OccursFirstAt}
use Rattle.bytes_utils.specs.Parts.{join, IsPartCutAtFirst, OfLastPart, AreForwardParts, ArePartsFromFront}
use Rattle.bytes_utils.specs.Splitting.{LeavesMoreToSplit, limit_after_split}
use Rattle.bytes_utils.proofs.OccurrenceLemmas.{OccursAt-between, OccursAt-front, OccursFirstAt-append, OccursFirstAt-front}
use Rattle.bytes_utils.proofs.Forward.{AreForwardParts-led, AreForwardParts-last}
use Rattle.bytes_utils.proofs.FromEnds.{positive, positive-less, front-from, front-to}
use Rattle.bytes_utils.proofs.Unique.{AreForwardParts-others}

-- ---- where a part ends

-- a list that begins with p has its first p at the front
pub first_at_front : {X : Type 0} (p rest : List X) → OccursFirstAt p (p ++ rest) 0
first_at_front p rest = record { here = OccursAt-between [] p rest; none_before = λ j there. omega arith }

-- so an empty part is cut at its first p
pub cut-empty : {X : Type 0} (p : List X) → IsPartCutAtFirst p []
cut-empty p = subst (λ t. OccursFirstAt p t 0) (append-nil p) (first_at_front p [])

-- a part without p is too, if p is one element
pub cut-lacks : {X : Type 0} (p part : List X) → length p ≡ 1 → (¬ Occurs p part) → IsPartCutAtFirst p part
cut-lacks p part one lacks = record {
  here = subst (λ z. OccursAt p (part ++ z) (length part)) (append-nil p) (OccursAt-between part p []);
  none_before = λ j there.
      ⊎_elim (λ below. absurd (lacks (j, OccursAt-front p part p j there (omega (arith, one, below))))) (λ from. from) (cases_lt j (length part));
}

-- if a part is cut at its first p, then in the part, p and any rest, joined, the first p is the one after the part
pub first-from_cut : {X : Type 0} (p part rest : List X) → 0 < length p → IsPartCutAtFirst p part → OccursFirstAt p (part ++ (p ++ rest)) (length part)
first-from_cut p part rest some cut =
    subst (λ t. OccursFirstAt p t (length part)) (append_assoc part p rest) (OccursFirstAt-append p (part ++ p) rest (length part) some cut)

-- and conversely
pub cut-from_first : {X : Type 0} (p part rest : List X) → 0 < length p → OccursFirstAt p (part ++ (p ++ rest)) (length part) → IsPartCutAtFirst p part
cut-from_first p part rest some first = grind (arith, OccursFirstAt-front, append_assoc, length-append)

-- ---- lists that are built

-- a text without p is its only part
pub alone : {X : Type 0} (p t : List X) → 0 < length p → (¬ Occurs p t) → ArePartsFromFront t p None (t ∷ [])
alone p t some lacks = front-from t p None (t ∷ []) some tt (AreForwardParts-last p t None tt lacks)

-- a part, its first p, and after that a text with these parts
pub led : {X : Type 0} (p part rest : List X) (limit : Option ℕ) (parts : List (List X)) → 0 < length p → LeavesMoreToSplit limit → IsPartCutAtFirst p part
    → ArePartsFromFront rest p (limit_after_split limit) parts → ArePartsFromFront (part ++ (p ++ rest)) p limit (part ∷ parts)
led p part rest limit parts some more cut are = grind (arith, AreForwardParts-led, front-from, front-to, positive, positive-less)

module _ {X : Type 0} (p : List X) (some : 0 < length p) where
  forward_both : (t u : List X) (xs ys : List (List X)) → AreForwardParts t p None xs → OfLastPart (IsPartCutAtFirst p) xs → AreForwardParts u p None ys
      → AreForwardParts (t ++ (p ++ u)) p None (xs ++ ys)
  forward_both t u [] ys are cut also = absurd (omega (arith, are.some))
  forward_both t u (part ∷ []) ys are cut also =
      subst (λ z. AreForwardParts (z ++ (p ++ u)) p None (part ∷ ys)) are.joined (AreForwardParts-led p part u None cut ys also)
  forward_both t u (part ∷ next ∷ xs) ys are cut also =
      let rest = join p (next ∷ xs) in
      let whole : part ++ (p ++ (rest ++ (p ++ u))) ≡ t ++ (p ++ u) =
      ap (λ z. part ++ z) (sym (append_assoc p rest (p ++ u))) ∙ sym (append_assoc part (p ++ rest) (p ++ u)) ∙ ap (λ z. z ++ (p ++ u)) are.joined in
      let more = forward_both rest u (next ∷ xs) ys (AreForwardParts-others p t some None part next xs are) cut also in
      subst (λ z. AreForwardParts z p None (part ∷ next ∷ (xs ++ ys))) whole
      (AreForwardParts-led p part (rest ++ (p ++ u)) None are.cut_at_first.0 (next ∷ (xs ++ ys)) more)

  -- two texts with p between, if the last part of the first is cut at its first p too: the parts of the first, and then
  -- those of the second
  pub both : (t u : List X) (xs ys : List (List X)) → ArePartsFromFront t p None xs → OfLastPart (IsPartCutAtFirst p) xs → ArePartsFromFront u p None ys
      → ArePartsFromFront (t ++ (p ++ u)) p None (xs ++ ys)
  both t u xs ys are cut also =
      front-from (t ++ (p ++ u)) p None (xs ++ ys) some tt (forward_both t u xs ys (front-to t p None xs some tt are) cut (front-to u p None ys some tt also))

  -- the parts of a text, and after one more p a last part
  pub last : (t part : List X) (parts : List (List X)) → ArePartsFromFront t p None parts → OfLastPart (IsPartCutAtFirst p) parts → (¬ Occurs p part)
      → ArePartsFromFront (t ++ (p ++ part)) p None (parts ++ (part ∷ []))
  last t part parts are cut lacks = both t part parts (part ∷ []) are cut (alone p part some lacks)

  OfLastPart-cut : length p ≡ 1 → (parts : List (List X)) → OfLastPart (λ part. ¬ Occurs p part) parts → OfLastPart (IsPartCutAtFirst p) parts
  OfLastPart-cut one [] lacks = tt
  OfLastPart-cut one (part ∷ []) lacks = cut-lacks p part one lacks
  OfLastPart-cut one (part ∷ next ∷ parts) lacks = OfLastPart-cut one (next ∷ parts) lacks

  -- if p is one element, the last part is always cut at its first p
  pub last_cut : (t : List X) (parts : List (List X)) → length p ≡ 1 → ArePartsFromFront t p None parts → OfLastPart (IsPartCutAtFirst p) parts
  last_cut t parts one are = let all = front-to t p None parts some tt are in OfLastPart-cut one parts (all.last tt)
