-- Numbers that are written in decimal digits.
use Rattle.std.proofs.Common.{ℕ, ◌<◌, ◌≤◌, ◌^◌, length, decimal, arith}
use Rattle.std.proofs.lemmas.Fmt.{decimal_is_IsNumeral, length-decimal-le}
use Rattle.bytes_utils_protocols.specs.Digits.{WriteNumber}

pub WriteNumber-decimal : (n : ℕ) → n < 2 ^ 64 → WriteNumber (decimal n) n
WriteNumber-decimal n fits = let is = decimal_is_IsNumeral n fits in (is.0, is.1, fits)

-- a `usize` has at most 20 digits
pub decimal_short : (n : ℕ) → n < 2 ^ 64 → length (decimal n) ≤ 20
decimal_short n fits = length-decimal-le 20 n (omega arith) (omega (arith, fits)) fits
