-- Parts from the front and from the back, by a separator that isn't empty.
use Rattle.std.proofs.Common.{◌≡◌, ◌↔◌, refl, ℕ, zero, suc, ◌<◌, List, [], ◌∷◌, Option, None, Some, length, arith}
use Rattle.std.specs.Option.{IfSome}
use Rattle.std.proofs.lemmas.Option.{IfSome_then}
use Rattle.bytes_utils.specs.Parts.{AreForwardParts, AreBackwardParts, ArePartsFromFront, ArePartsFromBack}
use Rattle.bytes_utils.specs.EmptySeparator.{by_empty_separator, by_empty_separator_backward}
use Rattle.bytes_utils.specs.Splitting.{LeavesMoreToSplit, limit_after_split}
use Rattle.bytes_utils.proofs.Forward.{less, has_forward_parts}
use Rattle.bytes_utils.proofs.Backward.{has_backward_parts}

pub positive : (limit : Option ℕ) → LeavesMoreToSplit limit → IfSome limit (λ most. 0 < most)
positive limit more = IfSome_then limit more (λ most more. omega arith)

pub positive-less : (limit : Option ℕ) → LeavesMoreToSplit limit → IfSome (limit_after_split limit) (λ most. 0 < most)
positive-less limit more = (less limit _).0 (IfSome_then limit more (λ most more. omega arith))

module _ {X : Type 0} (t : List X) where
  -- a limit of 0 gives no parts
  pub front-none : (p : List X) (parts : List (List X)) → ArePartsFromFront t p (Some 0) parts ↔ (parts ≡ [])
  front-none [] parts = (λ are. are, λ none. none)
  front-none (x ∷ p) parts = (λ are. are, λ none. none)

  pub back-none : (p : List X) (parts : List (List X)) → parts ≡ [] → ArePartsFromBack t p (Some 0) parts
  back-none [] parts none = none
  back-none (x ∷ p) parts none = none

  pub front-from : (p : List X) (limit : Option ℕ) (parts : List (List X)) → 0 < length p → IfSome limit (λ most. 0 < most)
      → AreForwardParts t p limit parts → ArePartsFromFront t p limit parts
  front-from p limit parts some more are = grind arith

  pub front-to : (p : List X) (limit : Option ℕ) (parts : List (List X)) → 0 < length p → IfSome limit (λ most. 0 < most)
      → ArePartsFromFront t p limit parts → AreForwardParts t p limit parts
  front-to p limit parts some more are = grind arith

  pub back-from : (p : List X) (limit : Option ℕ) (parts : List (List X)) → 0 < length p → IfSome limit (λ most. 0 < most)
      → AreBackwardParts t p limit parts → ArePartsFromBack t p limit parts
  back-from p limit parts some more are = grind arith

  pub back-to : (p : List X) (limit : Option ℕ) (parts : List (List X)) → 0 < length p → IfSome limit (λ most. 0 < most)
      → ArePartsFromBack t p limit parts → AreBackwardParts t p limit parts
  back-to p limit parts some more are = grind arith

-- every text has parts from the front, for every separator and every limit
pub has_front : (t p : List ℕ) (limit : Option ℕ) → (parts : List (List ℕ)) × ArePartsFromFront t p limit parts
has_front t [] limit = (by_empty_separator t limit, refl)
has_front t (x ∷ p) (Some zero) = ([], refl)
has_front t (x ∷ p) None = has_forward_parts (x ∷ p) t None (omega arith) tt
has_front t (x ∷ p) (Some (suc most)) = has_forward_parts (x ∷ p) t (Some (suc most)) (omega arith) (omega arith)

-- and from the back
pub has_back : (t p : List ℕ) (limit : Option ℕ) → (parts : List (List ℕ)) × ArePartsFromBack t p limit parts
has_back t [] limit = (by_empty_separator_backward t limit, refl)
has_back t (x ∷ p) (Some zero) = ([], refl)
has_back t (x ∷ p) None = has_backward_parts (x ∷ p) t None (omega arith) tt
has_back t (x ∷ p) (Some (suc most)) = has_backward_parts (x ∷ p) t (Some (suc most)) (omega arith) (omega arith)
