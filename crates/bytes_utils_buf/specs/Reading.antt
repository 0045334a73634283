-- What one read of a reader adds to held pieces.
use Rattle.std.specs.Prelude.{◌≡◌, ℕ, ◌<◌, List, ◌++◌, length, Option}
use Rattle.std.specs.List.{concat}
use Rattle.std.specs.Io.KnownBytes.{Consumes, IsAtEnd}
use Rattle.bytes_utils_buf.specs.Segments.{HeldSegments}

-- one read gave these n bytes: none only at the end of the input
pub record ReadGave (before after : Option (List ℕ)) (n : ℕ) (got : List ℕ) : Type 0 where
  pub count : length got ≡ n
  pub consumed : Consumes before after got
  pub end : n ≡ 0 → IsAtEnd after

-- One read gave n bytes, and they are held after those before them, in this way; or it gave none, and nothing has changed.
pub record Reads (how : List ℕ → HeldSegments → HeldSegments → Type 0) (before after : Option (List ℕ)) (old new : HeldSegments) (n : ℕ) : Type 0 where
  pub got : List ℕ
  pub gave : ReadGave before after n got
  pub added : 0 < n → how got old new
  pub bytes : concat new.segments ≡ concat old.segments ++ got
  pub same : n ≡ 0 → new ≡ old
