-- What a reader of a stream does with a piece.
use Rattle.std.specs.Prelude.{◌≡◌, ◌↔◌, ◌+◌, ◌^◌, ◌≤◌, ℕ, List, [], length, IfErr, IsOk, OnErr, OnOk, Result}
use Rattle.bytes_utils_buf.specs.declared.refused.Reason.TheVariants.{TooLong}
use Rattle.bytes_utils_buf.specs.declared.refused.Refused.{Refused}

-- A piece is appended, or comes back and nothing has changed. It is refused for its length exactly if the sum passes `usize`, and never if it is empty.
pub record IsPush {U : Type 0} (held piece : List ℕ) (result : Result U (Refused (List ℕ))) (Appended Same : Type 0) : Type 0 where
  pub ok : OnOk result Appended
  pub err : OnErr result Same
  pub back : IfErr result (λ e. e.back ≡ piece)
  pub too_long : IfErr result (λ e. (e.reason ≡ TooLong) ↔ (2 ^ 64 ≤ length held + length e.back))
  pub empty : piece ≡ [] → IsOk result
