-- Numbers in decimal digits, and the colon that follows or precedes them.
use Rattle.std.specs.Prelude.{◌≡◌, ℕ, ◌<◌, ◌^◌, List}
use Rattle.std.specs.Str.Parse.{IsNumeral, digits_value}

-- The bytes are one digit or more and nothing else, and they write the number n, which is a `usize`. It is a Content-Length (RFC 9110, 8.6), the length of a
-- netstring, or the digits of a length or an integer of Redis.
abbrev pub WriteNumber : List ℕ → ℕ → Type 0
WriteNumber digits n = IsNumeral 10 digits × (digits_value 10 digits ≡ n) × (n < 2 ^ 64)

-- the code of a colon
abbrev pub colon : ℕ
colon = 58
