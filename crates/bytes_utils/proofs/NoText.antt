-- Items that come from an iterator of which no item has a byte.
use Rattle.std.proofs.Common.{◌≡◌, ◌∙◌, ℕ, List, [], ◌∷◌, ◌++◌, Option, Some, map}
use Rattle.std.proofs.iter.Next.{Yields-more}
use Rattle.std.specs.Iterator.{YieldsThen, HoldsAlong}
use Rattle.std.specs.List.{concat}
use Rattle.bytes_utils.proofs.Building.{texts_push}
use Rattle.bytes_utils.proofs.Joins.{empty_back}

-- what holds of all that comes, holds of the items up to the last one that came
pub along_then : {S A : Type 0} (steps : S → Option A → S → Type 0) (s : S) (P : List A → Type 0) (xs : List A) (x : A) (u : S)
    → HoldsAlong steps s P → YieldsThen steps s xs (Some x) u → P (xs ++ x ∷ [])
along_then steps s P xs x u along came = along (xs ++ x ∷ []) u (Yields-more steps s xs came.0 x u came.1 came.2)

-- the last item of an empty text is empty
pub texts_last : {X : Type 0} (f : X → List ℕ) (xs : List X) (x : X) → concat (map f (xs ++ x ∷ [])) ≡ [] → f x ≡ []
texts_last f xs x none = empty_back (concat (map f xs)) (f x) (texts_push f [] xs x ∙ none)
