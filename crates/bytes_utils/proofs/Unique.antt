-- A list has at most one list of forward parts, one of backward parts, and one of inclusive parts.
use Rattle.std.proofs.Common.{◌≡◌, refl, sym, ap, subst, ◌∙◌, ℕ, ◌-◌, ◌<◌, ◌≤◌, List, [], ◌∷◌, ◌++◌, Option, length, map, reverse, arith, append_assoc, length-append}
use Rattle.std.proofs.lemmas.Option.{IfSome_then}
use Rattle.std.proofs.lemmas.List.{append_cancel_left}
use Rattle.std.proofs.lemmas.List.Elements.{All-head, All-tail}
use Rattle.bytes_utils.specs.Occurrence.{Occurs, OccursFirstAt}
use Rattle.bytes_utils.specs.Parts.{join, AreForwardParts, AreBackwardParts, AreInclusiveParts}
use Rattle.bytes_utils.specs.Splitting.{limit_after_split}
use Rattle.bytes_utils.proofs.Boundaries.{OccursAt-fits}
use Rattle.bytes_utils.proofs.OccurrenceLemmas.{OccursFirstAt-append, first_places_same}
use Rattle.bytes_utils.proofs.Joins.{append_same}
use Rattle.bytes_utils.proofs.Mirror.{length-some_reverse, reversed_twice, AreForwardParts-from_mirror}

-- The first of at least two forward parts.
module _ {X : Type 0} (p t : List X) (some : 0 < length p) (limit : Option ℕ) (part next : List X) (parts : List (List X)) (are : AreForwardParts t p limit (part ∷ next ∷ parts)) where
  -- it ends at the first place at which p occurs in t
  pub first_place : OccursFirstAt p t (length part)
  first_place =
      let longer = OccursFirstAt-append p (part ++ p) (join p (next ∷ parts)) (length part) some are.cut_at_first.0 in
      subst (λ z. OccursFirstAt p z (length part)) (append_assoc part p (join p (next ∷ parts)) ∙ are.joined) longer

  -- and the others are the parts of what is after that p
  pub AreForwardParts-others : AreForwardParts (join p (next ∷ parts)) p (limit_after_split limit) (next ∷ parts)
  AreForwardParts-others = grind arith

  -- so t isn't its own only part
  not_alone : (whole : List X) → AreForwardParts t p limit (whole ∷ []) → ⊥
  not_alone whole alone =
      alone.last (IfSome_then limit are.few (λ most few. omega arith)) (subst (Occurs p) (sym alone.joined) (length part, first_place.here))

module _ {X : Type 0} (p : List X) (some : 0 < length p) where
  pub forward_same : (t : List X) (limit : Option ℕ) (parts others : List (List X)) → AreForwardParts t p limit parts → AreForwardParts t p limit others → parts ≡ others
  forward_same t limit [] others are also = absurd (omega (arith, are.some))
  forward_same t limit (part ∷ parts) [] are also = absurd (omega (arith, also.some))
  forward_same t limit (part ∷ []) (other ∷ []) are also = ap (λ z. z ∷ []) (are.joined ∙ sym also.joined)
  forward_same t limit (part ∷ []) (other ∷ next ∷ others) are also = absurd (not_alone p t some limit other next others also part are)
  forward_same t limit (part ∷ next ∷ parts) (other ∷ []) are also = absurd (not_alone p t some limit part next parts are other also)
  forward_same t limit (part ∷ next ∷ parts) (other ∷ later ∷ others) are also =
      let size = first_places_same p t (length part) (length other) (first_place p t some limit part next parts are) (first_place p t some limit other later others also) in
      let cut = append_same part other (p ++ join p (next ∷ parts)) (p ++ join p (later ∷ others)) size (are.joined ∙ sym also.joined) in
      let rest = append_cancel_left p (join p (next ∷ parts)) (join p (later ∷ others)) cut.1 in
      let following = AreForwardParts-others p t some limit other later others also in
      let more = forward_same (join p (next ∷ parts)) (limit_after_split limit) (next ∷ parts) (later ∷ others) (AreForwardParts-others p t some limit part next parts are)
      (subst (λ z. AreForwardParts z p (limit_after_split limit) (later ∷ others)) (sym rest) following) in
      λ k. cut.0 k ∷ more k

-- the same from the back, by the mirror
pub backward_same : {X : Type 0} (p : List X) → 0 < length p → (t : List X) (limit : Option ℕ) (parts others : List (List X))
    → AreBackwardParts t p limit parts → AreBackwardParts t p limit others → parts ≡ others
backward_same p some t limit parts others are also =
    let mirrored = forward_same (reverse p) (length-some_reverse p some) (reverse t) limit (map reverse parts) (map reverse others)
    (AreForwardParts-from_mirror t p limit parts some are) (AreForwardParts-from_mirror t p limit others some also) in
    sym (reversed_twice parts) ∙ ap (map reverse) mirrored ∙ reversed_twice others

length-join : {X : Type 0} (part : List X) (parts : List (List X)) → length part ≤ length (join [] (part ∷ parts))
length-join part [] = omega arith
length-join part (next ∷ parts) = omega (arith, length-append part (join [] (next ∷ parts)))

-- The first of at least two inclusive parts.
module _ {X : Type 0} (p t : List X) (some : 0 < length p) (part next : List X) (parts : List (List X)) (are : AreInclusiveParts t p (part ∷ next ∷ parts)) where
  first_end : OccursFirstAt p t (length part - length p)
  first_end =
      subst (λ z. OccursFirstAt p z (length part - length p)) are.joined
      (OccursFirstAt-append p part (join [] (next ∷ parts)) (length part - length p) some are.cut_after_first.0)

  part_long : length p ≤ length part
  part_long = omega (arith, OccursAt-fits p part (length part - length p) some are.cut_after_first.0.here)

  AreInclusiveParts-others : AreInclusiveParts (join [] (next ∷ parts)) p (next ∷ parts)
  AreInclusiveParts-others = record {
    joined = refl;
    none_empty = All-tail (λ q. 0 < length q) part (next ∷ parts) are.none_empty;
    cut_after_first = are.cut_after_first.1;
    last = are.last;
  }

  part_short : length part < length t
  part_short = grind (arith, All-head, All-tail, length-append, length-join)

  -- so t isn't its own only part
  not_alone_inclusive : (whole : List X) → AreInclusiveParts t p (whole ∷ []) → ⊥
  not_alone_inclusive whole alone = grind (arith, OccursAt-fits, first_end, first_places_same, part_long, part_short)

module _ {X : Type 0} (p : List X) (some : 0 < length p) where
  none_join : (t part : List X) (parts : List (List X)) → AreInclusiveParts t p [] → AreInclusiveParts t p (part ∷ parts) → ⊥
  none_join t part parts none are =
      omega (arith, ap length none.joined, ap length are.joined, length-join part parts, All-head (λ q. 0 < length q) part parts are.none_empty)

  pub inclusive_same : (t : List X) (parts others : List (List X)) → AreInclusiveParts t p parts → AreInclusiveParts t p others → parts ≡ others
  inclusive_same t [] [] are also = refl
  inclusive_same t [] (other ∷ others) are also = absurd (none_join t other others are also)
  inclusive_same t (part ∷ parts) [] are also = absurd (none_join t part parts also are)
  inclusive_same t (part ∷ []) (other ∷ []) are also = ap (λ z. z ∷ []) (are.joined ∙ sym also.joined)
  inclusive_same t (part ∷ []) (other ∷ next ∷ others) are also = absurd (not_alone_inclusive p t some other next others also part are)
  inclusive_same t (part ∷ next ∷ parts) (other ∷ []) are also = absurd (not_alone_inclusive p t some part next parts are other also)
  inclusive_same t (part ∷ next ∷ parts) (other ∷ later ∷ others) are also =
      let place = first_places_same p t (length part - length p) (length other - length p) (first_end p t some part next parts are) (first_end p t some other later others also) in
      let size : length part ≡ length other = omega (arith, place, part_long p t some part next parts are, part_long p t some other later others also) in
      let cut = append_same part other (join [] (next ∷ parts)) (join [] (later ∷ others)) size (are.joined ∙ sym also.joined) in
      let following = AreInclusiveParts-others p t some other later others also in
      let more = inclusive_same (join [] (next ∷ parts)) (next ∷ parts) (later ∷ others) (AreInclusiveParts-others p t some part next parts are)
      (subst (λ z. AreInclusiveParts z p (later ∷ others)) (sym cut.1) following) in
      λ k. cut.0 k ∷ more k

-- If p is empty, there is one inclusive part, or none.
one_alone : {X : Type 0} (t part next : List X) (parts : List (List X)) → AreInclusiveParts t [] (part ∷ next ∷ parts) → ⊥
one_alone t part next parts are =
    omega (arith, are.cut_after_first.0.none_before 0 refl, All-head (λ q. 0 < length q) part (next ∷ parts) are.none_empty)

none_with_one : {X : Type 0} (t part : List X) → AreInclusiveParts t [] [] → AreInclusiveParts t [] (part ∷ []) → ⊥
none_with_one t part none are = omega (arith, ap length none.joined, ap length are.joined, All-head (λ q. 0 < length q) part [] are.none_empty)

pub inclusive_same_any : {X : Type 0} (p t : List X) (parts others : List (List X)) → AreInclusiveParts t p parts → AreInclusiveParts t p others → parts ≡ others
inclusive_same_any (x ∷ p) t parts others are also = inclusive_same (x ∷ p) (omega arith) t parts others are also
inclusive_same_any [] t [] [] are also = refl
inclusive_same_any [] t [] (other ∷ []) are also = absurd (none_with_one t other are also)
inclusive_same_any [] t (part ∷ []) [] are also = absurd (none_with_one t part also are)
inclusive_same_any [] t (part ∷ []) (other ∷ []) are also = ap (λ z. z ∷ []) (are.joined ∙ sym also.joined)
inclusive_same_any [] t (part ∷ next ∷ parts) others are also = absurd (one_alone t part next parts are)
inclusive_same_any [] t parts (other ∷ later ∷ others) are also = absurd (one_alone t other later others also)
