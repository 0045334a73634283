-- The parts under a limit, computed from those without one.
use Rattle.std.proofs.Common.{◌≡◌, sym, ap, subst, ◌∙◌, ℕ, zero, suc, ◌<◌, ◌≤◌, List, [], ◌∷◌, ◌++◌, None, Some, length, map, take, drop, reverse, arith}
use Rattle.std.proofs.lemmas.List.{length-map, map-append, take-map, drop-map}
use Rattle.bytes_utils.specs.Parts.{join, AreForwardParts, AreBackwardParts}
use Rattle.bytes_utils.proofs.Forward.{AreForwardParts-led, AreForwardParts-rest}
use Rattle.bytes_utils.proofs.Mirror.{length-some_reverse, join-reversed, AreForwardParts-from_mirror, AreBackwardParts-from_mirror}
use Rattle.bytes_utils.proofs.Unique.{AreForwardParts-others}

-- all of them, if they are few enough
pub forward_within : {X : Type 0} (t p : List X) (most : ℕ) (parts : List (List X)) → AreForwardParts t p None parts → length parts ≤ most → AreForwardParts t p (Some most) parts
forward_within t p most parts are few = grind arith

pub backward_within : {X : Type 0} (t p : List X) (most : ℕ) (parts : List (List X)) → AreBackwardParts t p None parts → length parts ≤ most → AreBackwardParts t p (Some most) parts
backward_within t p most parts are few = grind arith

-- else the first ones, and the rest as one part
pub forward_beyond : {X : Type 0} (p : List X) → 0 < length p → (n : ℕ) (t : List X) (parts : List (List X)) → AreForwardParts t p None parts → n < length parts
    → AreForwardParts t p (Some (suc n)) (take n parts ++ (join p (drop n parts) ∷ []))
forward_beyond p some zero t parts are less = subst (λ z. AreForwardParts t p (Some 1) (z ∷ [])) (sym are.joined) (AreForwardParts-rest p t)
forward_beyond p some (suc n) t [] are less = absurd (omega arith)
forward_beyond p some (suc n) t (part ∷ []) are less = absurd (omega arith)
forward_beyond p some (suc n) t (part ∷ next ∷ parts) are less =
    let rest = join p (next ∷ parts) in
    let more = forward_beyond p some n rest (next ∷ parts) (AreForwardParts-others p t some None part next parts are) (omega arith) in
    let shown = take n (next ∷ parts) ++ (join p (drop n (next ∷ parts)) ∷ []) in
    subst (λ z. AreForwardParts z p (Some (suc (suc n))) (part ∷ shown)) are.joined
    (AreForwardParts-led p part rest (Some (suc (suc n))) are.cut_at_first.0 shown
    (subst (λ z. AreForwardParts rest p (Some z) shown) (omega arith) more))

pub backward_beyond : {X : Type 0} (p : List X) → 0 < length p → (n : ℕ) (t : List X) (parts : List (List X)) → AreBackwardParts t p None parts → n < length parts
    → AreBackwardParts t p (Some (suc n)) (take n parts ++ (join p (reverse (drop n parts)) ∷ []))
backward_beyond p some n t parts are less =
    let mirrored = forward_beyond (reverse p) (length-some_reverse p some) n (reverse t) (map reverse parts) (AreForwardParts-from_mirror t p None parts some are) (omega (arith, length-map parts reverse)) in
    let same : map reverse (take n parts ++ (join p (reverse (drop n parts)) ∷ [])) ≡ take n (map reverse parts) ++ (join (reverse p) (drop n (map reverse parts)) ∷ []) =
    map-append reverse (take n parts) (join p (reverse (drop n parts)) ∷ [])
    ∙ (λ k. sym (take-map reverse n parts) k ++ ((join-reversed p (drop n parts) ∙ ap (join (reverse p)) (sym (drop-map reverse n parts))) k ∷ [])) in
    AreBackwardParts-from_mirror t p (Some (suc n)) (take n parts ++ (join p (reverse (drop n parts)) ∷ [])) some
    (subst (AreForwardParts (reverse t) (reverse p) (Some (suc n))) (sym same) mirrored)
