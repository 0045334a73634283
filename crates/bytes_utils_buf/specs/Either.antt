-- What a buffer of one of two types has to read, and what its reads keep.
use Rattle.std.specs.Prelude.{ℕ, List, length}
use Rattle.bytes_utils_buf.specs.declared.either_buf.EitherBuf.{EitherBuf}
use Rattle.bytes_utils_buf.specs.declared.either_buf.EitherBuf.TheVariants.{Left, Right}

-- the unread bytes of the buffer that it holds
abbrev pub unread_of : {L R : Type 0} → (L → List ℕ) → (R → List ℕ) → EitherBuf L R → List ℕ
unread_of left right (Left buf) = left buf
unread_of left right (Right buf) = right buf

-- what no read changes of the buffer that it holds
abbrev pub kept_of : {L R : Type 0} → (L → List (List ℕ × ℕ)) → (R → List (List ℕ × ℕ)) → EitherBuf L R → List (List ℕ × ℕ)
kept_of left right (Left buf) = left buf
kept_of left right (Right buf) = right buf

-- whether a refused copy of len bytes may have taken `taken`, by what the buffer that it holds may lose
abbrev pub LosesOfSide : {L R : Type 0} → (L → List ℕ) → (R → List ℕ) → (ℕ → ℕ → ℕ → Type 0) → (ℕ → ℕ → ℕ → Type 0) → EitherBuf L R → ℕ → ℕ → Type 0
LosesOfSide left right left_loses right_loses (Left buf) len taken = left_loses (length (left buf)) len taken
LosesOfSide left right left_loses right_loses (Right buf) len taken = right_loses (length (right buf)) len taken
