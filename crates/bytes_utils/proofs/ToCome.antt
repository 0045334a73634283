-- In each state of a splitter at most one list is to come.
use Rattle.std.proofs.Common.{◌≡◌, sym, ap, ◌∙◌, ℕ, zero, suc, Bool, List, [], ◌∷◌, Option, None, Some, MatchOption, arith}
use Rattle.std.specs.Bool.{MatchBool}
use Rattle.std.specs.Option.{option_map}
use Rattle.std.specs.Str.{chars}
use Rattle.bytes_utils.specs.Indices.{Indexing, indexed, AreIndexedPartsToCome}
use Rattle.bytes_utils.specs.Keeping.{Keeping, AreInclusivePartsToCome}
use Rattle.bytes_utils.specs.Lines.{AreLinesToCome}
use Rattle.bytes_utils.specs.Parts.{ArePartsFromFront, ArePartsFromBack}
use Rattle.bytes_utils.specs.Splitting.{Splitting, AreForwardPartsToCome, AreBackwardPartsToCome}
use Rattle.bytes_utils.specs.Words.{AreWordsToCome}
use Rattle.bytes_utils.proofs.Unique.{forward_same, backward_same, inclusive_same_any}

-- at most one list is the parts from the front
pub front_same : {X : Type 0} (t p : List X) (limit : Option ℕ) (parts others : List (List X)) → ArePartsFromFront t p limit parts → ArePartsFromFront t p limit others → parts ≡ others
front_same t [] limit parts others are also = are ∙ sym also
front_same t (x ∷ p) (Some zero) parts others are also = are ∙ sym also
front_same t (x ∷ p) None parts others are also = forward_same (x ∷ p) (omega arith) t None parts others are also
front_same t (x ∷ p) (Some (suc most)) parts others are also = forward_same (x ∷ p) (omega arith) t (Some (suc most)) parts others are also

-- and from the back
pub back_same : {X : Type 0} (t p : List X) (limit : Option ℕ) (parts others : List (List X)) → ArePartsFromBack t p limit parts → ArePartsFromBack t p limit others → parts ≡ others
back_same t [] limit parts others are also = are ∙ sym also
back_same t (x ∷ p) (Some zero) parts others are also = are ∙ sym also
back_same t (x ∷ p) None parts others are also = backward_same (x ∷ p) (omega arith) t None parts others are also
back_same t (x ∷ p) (Some (suc most)) parts others are also = backward_same (x ∷ p) (omega arith) t (Some (suc most)) parts others are also

-- at most one list is to come from one end
module _ (Are : List ℕ → List ℕ → Option ℕ → List (List ℕ) → Type 0)
    (same : (t p : List ℕ) (limit : Option ℕ) (parts others : List (List ℕ)) → Are t p limit parts → Are t p limit others → parts ≡ others) where
  abbrev AreLeft : Option (List ℕ) → List ℕ → Option ℕ → Bool → List (List ℕ) → Type 0
  AreLeft rest separator limit begun parts = MatchOption rest (parts ≡ [])
      (λ text. MatchBool begun (Are (chars text) [] (option_map suc limit) ([] ∷ parts)) (Are (chars text) (chars separator) limit parts))

  from_end : (rest : Option (List ℕ)) (separator : List ℕ) (limit : Option ℕ) (begun : Bool) (parts others : List (List ℕ))
      → AreLeft rest separator limit begun parts → AreLeft rest separator limit begun others → parts ≡ others
  from_end rest separator limit begun parts others are also = grind arith

from_kept : (rest : Option (List ℕ)) (separator : List ℕ) (parts others : List (List ℕ)) → AreInclusivePartsToCome (record { rest = rest; separator = separator }) parts
    → AreInclusivePartsToCome (record { rest = rest; separator = separator }) others → parts ≡ others
from_kept None separator parts others are also = are ∙ sym also
from_kept (Some text) separator parts others are also = inclusive_same_any (chars separator) (chars text) parts others are also

pub one_forward : (s : Splitting) (parts others : List (List ℕ)) → AreForwardPartsToCome s parts → AreForwardPartsToCome s others → parts ≡ others
one_forward s parts others are also = from_end ArePartsFromFront front_same s.rest s.separator s.limit s.begun parts others are also

pub one_indexed : (s : Indexing) (items others : List (ℕ × List ℕ)) → AreIndexedPartsToCome s items → AreIndexedPartsToCome s others → items ≡ others
one_indexed s items others are also =
    are.2 ∙ ap (indexed s.parts.separator s.at) (one_forward s.parts are.0 also.0 are.1 also.1) ∙ sym also.2

pub one_backward : (s : Splitting) (parts others : List (List ℕ)) → AreBackwardPartsToCome s parts → AreBackwardPartsToCome s others → parts ≡ others
one_backward s parts others are also = from_end ArePartsFromBack back_same s.rest s.separator s.limit s.begun parts others are also

pub one_inclusive : (s : Keeping) (parts others : List (List ℕ)) → AreInclusivePartsToCome s parts → AreInclusivePartsToCome s others → parts ≡ others
one_inclusive s parts others are also = from_kept s.rest s.separator parts others are also

pub one_of_lines : (s : Option (List ℕ)) (parts others : List (List ℕ)) → AreLinesToCome s parts → AreLinesToCome s others → parts ≡ others
one_of_lines None parts others are also = are ∙ sym also
one_of_lines (Some text) parts others are also = are ∙ sym also

pub one_of_words : (is_space : ℕ → Bool) (s : Option (List ℕ)) (parts others : List (List ℕ)) → AreWordsToCome is_space s parts → AreWordsToCome is_space s others → parts ≡ others
one_of_words is_space None parts others are also = are ∙ sym also
one_of_words is_space (Some text) parts others are also = are ∙ sym also
