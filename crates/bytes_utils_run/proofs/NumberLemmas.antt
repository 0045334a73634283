-- Texts that are numbers, in bytes and in characters.
use Rattle.std.proofs.Common.{◌≡◌, sym, ap, subst, ◌∙◌, ℕ, ◌≤◌, ◌==◌, List, Result, Ok, Err, MatchOption, length, drop, cond, true, false, get_or, arith, IsUtf8}
use Rattle.std.proofs.lemmas.Bool.Decides.{nat_tests}
use Rattle.std.proofs.lemmas.Fmt.{IsAscii-from_digits}
use Rattle.std.proofs.lemmas.Str.{chars-IsAscii, encodes-chars, encodes-IsAscii}
use Rattle.std.proofs.lemmas.Str.Parse.{digit_at}
use Rattle.std.specs.Result.{result_ok}
use Rattle.std.specs.Str.Parse.{IsNumeral, ParsesUnsigned, digits_value, without_leading_plus}
use Rattle.std.specs.Str.{chars}
use Rattle.bytes_utils_run.specs.Number.{IsNumber}

-- a text whose characters are a number is its own characters
chars-number : (text : List ℕ) (n : ℕ) → IsUtf8 text → IsNumber (chars text) n → chars text ≡ text
chars-number text n utf8 is =
    sym (encodes-IsAscii (chars text) (IsAscii-from_digits (chars text) is.digits.1)) ∙ encodes-chars text utf8

number_bytes : (text : List ℕ) (n : ℕ) → IsUtf8 text → IsNumber (chars text) n → IsNumber text n
number_bytes text n utf8 is = subst (λ bytes. IsNumber bytes n) (chars-number text n utf8 is) is

-- if bytes are a number, their characters are that number
number_chars : (text : List ℕ) (n : ℕ) → IsNumber text n → IsNumber (chars text) n
number_chars text n is =
    subst (λ bytes. IsNumber bytes n) (sym (chars-IsAscii text (IsAscii-from_digits text is.digits.1))) is

-- a number has at most 20 bytes
pub number_short : (text : List ℕ) (n : ℕ) → IsUtf8 text → IsNumber (chars text) n → length text ≤ 20
number_short text n utf8 is = (number_bytes text n utf8 is).most

-- a number begins with a digit, so not with a plus sign
pub number_unsigned : (text : List ℕ) (n : ℕ) → IsUtf8 text → IsNumber (chars text) n → (get_or text 0 0 == 43) ≡ true → ⊥
number_unsigned text n utf8 is plus =
    let bytes = number_bytes text n utf8 is in
    let first = digit_at text 0 bytes.digits.1 bytes.digits.0 in
    grind (arith, nat_tests, plus, first)

-- a text that doesn't begin with a plus sign
without_plus : (text : List ℕ) → (get_or text 0 0 == 43) ≡ false → without_leading_plus text ≡ text
without_plus text none = ap (λ b. drop (cond b 1 0) text) none

-- for a short text that doesn't begin with a plus sign, `parse` reads the number that its digits are
pub parsed_number : {E : Type 0} (text : List ℕ) (r : Result ℕ E) → IsUtf8 text → length text ≤ 20 → (get_or text 0 0 == 43) ≡ false
    → ParsesUnsigned 64 10 text r → MatchOption (result_ok r) ((n : ℕ) → ¬ IsNumber (chars text) n) (λ n. IsNumber (chars text) n)
parsed_number text (Ok n) utf8 short plain parsed =
    let same = without_plus text plain in
    number_chars text n (record {
      digits = subst (IsNumeral 10) same parsed.0.0;
      most = short;
      value = ap (digits_value 10) (sym same) ∙ sym parsed.1;
      fits = omega (arith, parsed.0.1, parsed.1);
    })
parsed_number text (Err e) utf8 short plain parsed = λ n is.
    let same = without_plus text plain in
    let bytes = number_bytes text n utf8 is in
    parsed (
      subst (IsNumeral 10) (sym same) bytes.digits,
      omega (arith, ap (digits_value 10) same, bytes.value, bytes.fits),
    )
