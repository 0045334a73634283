-- The owned parts of a text are those that the methods of `str` give, since only one list is right.
use Rattle.std.proofs.Common.{◌≡◌, sym, ◌∙◌, ℕ, List, ◌++◌, None, Some}
use Rattle.bytes_utils.proofs.ToCome.{front_same, back_same}
use Rattle.bytes_utils.proofs.Unique.{inclusive_same}
use Rattle.bytes_utils_run.specs.Cutting.{Cutting, ArePartsBy, ByWords, ByAsciiWords, ByLines, FromFront, FromBack, Keeping}
use Rattle.bytes_utils_run.specs.Borrowed.{HasSeparator, OwnedAsBorrowedLaw}

-- one list is right for a way to split
parts_same : (how : Cutting) (t : List ℕ) (parts others : List (List ℕ)) → HasSeparator how → ArePartsBy how t parts → ArePartsBy how t others → parts ≡ others
parts_same ByWords t parts others has are also = are ∙ sym also
parts_same ByAsciiWords t parts others has are also = are ∙ sym also
parts_same ByLines t parts others has are also = are ∙ sym also
parts_same (FromFront p limit) t parts others has are also = front_same t p limit parts others are also
parts_same (FromBack p limit) t parts others has are also = back_same t p limit parts others are also
parts_same (Keeping p) t parts others has are also = inclusive_same p has t parts others are also

pub owned_as_borrowed_law : OwnedAsBorrowedLaw
owned_as_borrowed_law how t owned lent None has all are = parts_same how t owned lent has all are
owned_as_borrowed_law how t owned lent (Some reason) has first are = (first.0, first.1, parts_same how t (owned ++ first.0) lent has first.2 are)
