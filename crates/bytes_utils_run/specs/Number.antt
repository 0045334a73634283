-- The numbers of the program's input.
use Rattle.std.specs.Prelude.{◌≡◌, ℕ, ◌<◌, ◌≤◌, ◌^◌, List, length}
use Rattle.std.specs.Str.Parse.{IsNumeral, digits_value}

-- the text, as characters, has 1 to 20 ASCII digits, which are the decimal number n, and n fits `usize`
pub record IsNumber (text : List ℕ) (n : ℕ) : Type 0 where
  -- one digit or more, and nothing else
  pub digits : IsNumeral 10 text
  pub most : length text ≤ 20
  pub value : digits_value 10 text ≡ n
  pub fits : n < 2 ^ 64
