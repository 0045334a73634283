-- A text has one pair of halves around the first place of a separator, and one around the last.
use Rattle.std.proofs.Common.{◌≡◌, refl, sym, ap, subst, ◌∙◌, ℕ, List, [], ◌∷◌, ◌++◌, Option, None, Some, length, arith, length-append}
use Rattle.std.proofs.lemmas.List.{append_cancel_left}
use Rattle.bytes_utils.specs.Halves.{AreHalvesAtFirst, AreHalvesAtLast}
use Rattle.bytes_utils.specs.Occurrence.{OccursAt, Occurs, OccursLastAt}
use Rattle.bytes_utils.proofs.Joins.{append_same}
use Rattle.bytes_utils.proofs.OccurrenceLemmas.{OccursAt-between, first_places_same}
use Rattle.bytes_utils_run.specs.Borrowed.{OnceAsBorrowedLaw}

abbrev both : List ℕ → List ℕ → Option (List ℕ × List ℕ)
both before following = Some (before, following)

-- halves around the same place are the same
module _ (t p before following front back : List ℕ) (whole : before ++ (p ++ following) ≡ t) (other : front ++ (p ++ back) ≡ t) (size : length before ≡ length front) where
  halves_same : both before following ≡ both front back
  halves_same =
      let fronts = append_same before front (p ++ following) (p ++ back) size (whole ∙ sym other) in
      let backs = append_cancel_left p following back fronts.1 in
      λ k. Some (fronts.0 k, backs k)

-- if there are halves, the separator occurs
occurs_between : (t p before following : List ℕ) → before ++ (p ++ following) ≡ t → Occurs p t
occurs_between t p before following whole = (length before, subst (λ z. OccursAt p z (length before)) whole (OccursAt-between before p following))

-- there is one last place
last_places_same : (p t : List ℕ) (i j : ℕ) → OccursLastAt p t i → OccursLastAt p t j → i ≡ j
last_places_same p t i j last other = omega (arith, last.none_after j other.here, other.none_after i last.here)

same_at_last : (t p before following front back : List ℕ) → AreHalvesAtLast t p before following → AreHalvesAtLast t p front back → both before following ≡ both front back
same_at_last t [] before following front back are also =
    halves_same t [] before following front back are.joined also.joined
    (omega (arith, ap length are.joined, ap length also.joined, length-append before following, length-append front back, ap length (are.at_end refl), ap length (also.at_end refl)))
same_at_last t (x ∷ p) before following front back are also =
    halves_same t (x ∷ p) before following front back are.joined also.joined
    (last_places_same (x ∷ p) t (length before) (length front) (are.last (omega arith)) (also.last (omega arith)))

pub once_at_first : OnceAsBorrowedLaw AreHalvesAtFirst
once_at_first t p None None lacks also = refl
once_at_first t p None (Some (front, back)) lacks are = absurd (lacks (occurs_between t p front back are.joined))
once_at_first t p (Some (before, following)) None are lacks = absurd (lacks (occurs_between t p before following are.joined))
once_at_first t p (Some (before, following)) (Some (front, back)) are also =
    halves_same t p before following front back are.joined also.joined (first_places_same p t (length before) (length front) are.first also.first)

pub once_at_last : OnceAsBorrowedLaw AreHalvesAtLast
once_at_last t p None None lacks also = refl
once_at_last t p None (Some (front, back)) lacks are = absurd (lacks (occurs_between t p front back are.joined))
once_at_last t p (Some (before, following)) None are lacks = absurd (lacks (occurs_between t p before following are.joined))
once_at_last t p (Some (before, following)) (Some (front, back)) are also = same_at_last t p before following front back are also
