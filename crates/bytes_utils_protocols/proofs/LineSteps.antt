-- Lines of replies of the Redis protocol, byte after byte.
use Rattle.std.proofs.Common.{◌≡◌, ◌≢◌, ℕ, zero, suc, ◌+◌, ◌-◌, ◌*◌, ◌^◌, ◌==◌, Bool, true, false, cond, ◌<◌, ◌≤◌, ◌⊎◌, inl, inr, ⊎_elim, List, [], ◌∷◌, ◌++◌, length, take, drop, get_or, Option, None, Some, ap, ◌∙◌, sym, refl, subst, arith, append_assoc, length-append}
use Rattle.std.specs.Prelude.{ℤ, pos, neg_ℤ, FitsSigned}
use Rattle.std.specs.Int.{w64}
use Rattle.std.specs.Bool.{MatchBool}
use Rattle.std.specs.Option.{unwrap_or, SomeIff, MatchOption}
use Rattle.std.specs.Str.Parse.{AllDigits, IsNumeral, digits_value, digits_value_after, signed_digits_value, without_leading_sign}
use borrow.Author.Tests.{ne_eqb}
use Rattle.std.proofs.lemmas.Bool.{true≢false}
use Rattle.std.proofs.lemmas.List.{take_more}
use Rattle.memchr.specs.Find.{is_byte2}
use Rattle.std.proofs.lemmas.Str.{digit_value_digit}
use Rattle.std.proofs.lemmas.Str.Parse.{digit_from_value}
use Rattle.std.specs.Char.{digit_value}
use Rattle.bytes_utils_protocols.specs.Digits.{WriteNumber}
use Rattle.bytes_utils_protocols.specs.Redis.{IsRedisLineOf, IsRedisPlain, IsRedisTextLine, LacksRedisByte, WriteRedisInteger, WriteRedisLength}
use Rattle.bytes_utils_protocols.specs.RedisLine.{AreLineDigits, IsRedisLineReadAs, NoLineReturn, line_length_byte, line_sign_bytes, signed_line_number}
use Rattle.bytes_utils_protocols.specs.declared.redis.item.Item.{Item}
use Rattle.bytes_utils_protocols.specs.declared.redis.line.Counted.{Counted}
use Rattle.bytes_utils_protocols.specs.declared.redis.line.Counted.TheVariants.{Bytes, Items}
use Rattle.bytes_utils_protocols.specs.declared.redis.line.Line.{Line}
use Rattle.bytes_utils_protocols.specs.declared.redis.line.Line.TheVariants.{Empty, Text, Signed, Length, Dash, Null}
use Rattle.bytes_utils_protocols.specs.declared.redis.line.Sign.{Sign}
use Rattle.bytes_utils_protocols.specs.declared.redis.line.Sign.TheVariants.{Unsigned, Plus, Minus}
use Rattle.bytes_utils_protocols.proofs.RedisLemmas.{no_integer, no_bulk, no_array, no_simple, no_error}
use Rattle.bytes_utils_protocols.proofs.ReplyLines.{digits_no_return, plain_no_return, still_none, value_front}

-- ---- digits

value_more : (n c : ℕ) (ds : List ℕ) → digits_value_after 10 n (ds ++ c ∷ []) ≡ digits_value_after 10 n ds * 10 + digit_value c
value_more n c [] = refl
value_more n c (d ∷ ds) = value_more (n * 10 + digit_value d) c ds

all_more : (c : ℕ) (ds : List ℕ) → AllDigits 10 ds → digit_value c < 10 → AllDigits 10 (ds ++ c ∷ [])
all_more c [] digits digit = (digit, tt)
all_more c (d ∷ ds) digits digit = (digits.0, all_more c ds digits.1 digit)

all_after : (ds es : List ℕ) → AllDigits 10 (ds ++ es) → AllDigits 10 es
all_after [] es digits = digits
all_after (d ∷ ds) es digits = all_after ds es digits.1

-- a byte that is no digit
pub no_digit : (ds more : List ℕ) (c n : ℕ) → ((48 ≤ c) × (c ≤ 57) → ⊥) → ¬ WriteNumber (ds ++ c ∷ more) n
no_digit ds more c n none writes = let digit = digit_from_value c (all_after ds (c ∷ more) writes.0.1).0 in none (digit.0, digit.1)

value_of : (value : Option ℕ) (ds : List ℕ) → AreLineDigits value ds → AllDigits 10 ds × (digits_value 10 ds ≡ unwrap_or value 0)
value_of None ds are = subst (λ l. AllDigits 10 l × (digits_value 10 l ≡ 0)) (sym are) (tt, refl)
value_of (Some n) ds are = (are.0.1, are.1)

-- one digit more
pub more_digits : (value : Option ℕ) (ds : List ℕ) (c n : ℕ) → AreLineDigits value ds → 48 ≤ c → c ≤ 57 → unwrap_or value 0 * 10 + (c - 48) ≡ n → n < 2 ^ 64 → WriteNumber (ds ++ c ∷ []) n
more_digits value ds c n are low high sum fits =
    let old = value_of value ds are in
    let digit = digit_value_digit c (low, high) in
    ((omega (arith, length-append ds (c ∷ [])), all_more c ds old.0 (omega (arith, digit, low, high))), omega (arith, value_more 0 c ds, old.1, digit, sum, low, high), fits)

-- with more digits the number is no smaller
pub still_fits : (value : Option ℕ) (ds more : List ℕ) (c n : ℕ) → AreLineDigits value ds → WriteNumber (ds ++ c ∷ more) n → unwrap_or value 0 * 10 + (c - 48) < 2 ^ 64
still_fits value ds more c n are writes =
    let old = value_of value ds are in
    let range = digit_from_value c (all_after ds (c ∷ more) writes.0.1).0 in
    let grows : digits_value 10 (ds ++ c ∷ []) ≤ digits_value 10 (ds ++ c ∷ more) =
    subst (λ l. digits_value 10 (ds ++ c ∷ []) ≤ digits_value 10 l) (append_assoc ds (c ∷ []) more) (value_front (ds ++ c ∷ []) more) in
    omega (arith, grows, writes.1, writes.2, value_more 0 c ds, old.1, digit_value_digit c range, range.0, range.1)

-- the first byte is a digit or the next one
pub first_byte_not : (q : ℕ) → q < 48 → (value : Option ℕ) (ds more : List ℕ) (c : ℕ) → AreLineDigits value ds → (value ≡ None → c ≢ q) → get_or (ds ++ c ∷ more) 0 0 ≢ q
first_byte_not q low None [] more c are other = other refl
first_byte_not q low None (d ∷ ds) more c are other = absurd (omega (arith, ap length are))
first_byte_not q low (Some v) [] more c are other = absurd (omega (arith, are.0.0))
first_byte_not q low (Some v) (d ∷ ds) more c are other = let range = digit_from_value d are.0.1.0 in λ is. omega (arith, is, range.0, low)

-- one digit more, if the sum is a `usize`
pub digit_step : (value : Option ℕ) (ds : List ℕ) (c n : ℕ) (r : Option ℕ) → AreLineDigits value ds → 48 ≤ c → c ≤ 57 → unwrap_or value 0 * 10 + (c - 48) ≡ n → SomeIff r (n < 2 ^ 64) n
    → MatchOption r ((k : ℕ) (more : List ℕ) → ¬ WriteNumber (ds ++ c ∷ more) k) (λ k. WriteNumber (ds ++ c ∷ []) k)
digit_step value ds c n None are low high sum step = λ k more writes. step (omega (arith, sum, still_fits value ds more c k are writes))
digit_step value ds c n (Some k) are low high sum step = more_digits value ds c k are low high (omega (arith, sum, step.1)) (omega (arith, step.0, step.1))

-- ---- integers

-- a text without a sign before it
sign_none : (rest : List ℕ) (minus plus : Bool) → (get_or rest 0 0 == 45) ≡ minus → (get_or rest 0 0 == 43) ≡ plus → minus ≡ false → plus ≡ false
    → (cond minus (drop 1 rest) (drop (cond plus 1 0) rest) ≡ rest)
    × (cond minus (neg_ℤ (pos (digits_value 10 (cond minus (drop 1 rest) (drop (cond plus 1 0) rest))))) (pos (digits_value 10 (cond minus (drop 1 rest) (drop (cond plus 1 0) rest)))) ≡ pos (digits_value 10 rest))
sign_none rest false false is_minus is_plus no_minus no_plus = (refl, refl)
sign_none rest true plus is_minus is_plus no_minus no_plus = absurd (true≢false no_minus)
sign_none rest false true is_minus is_plus no_minus no_plus = absurd (true≢false no_plus)

pub after_sign : (sign : Sign) (rest : List ℕ) → (sign ≡ Unsigned → (get_or rest 0 0 ≢ 43) × (get_or rest 0 0 ≢ 45))
    → (without_leading_sign (line_sign_bytes sign ++ rest) ≡ rest) × (signed_digits_value 10 (line_sign_bytes sign ++ rest) ≡ signed_line_number sign (digits_value 10 rest))
after_sign Unsigned rest none = sign_none rest (get_or rest 0 0 == 45) (get_or rest 0 0 == 43) refl refl (ne_eqb _ 45 (none refl).1) (ne_eqb _ 43 (none refl).0)
after_sign Plus rest none = (refl, refl)
after_sign Minus rest none = (refl, refl)

signed_small : (sign : Sign) (n : ℕ) → FitsSigned w64 (signed_line_number sign n) → n < 2 ^ 64
signed_small Unsigned n fits = omega (arith, fits.sfits)
signed_small Plus n fits = omega (arith, fits.sfits)
signed_small Minus zero fits = omega arith
signed_small Minus (suc n) fits = omega (arith, fits.sfits)

-- the digits of an integer write a number
integer_number : (sign : Sign) (rest : List ℕ) (n : ℤ) → (sign ≡ Unsigned → (get_or rest 0 0 ≢ 43) × (get_or rest 0 0 ≢ 45)) → WriteRedisInteger (line_sign_bytes sign ++ rest) n
    → WriteNumber rest (digits_value 10 rest)
integer_number sign rest n none writes =
    let split = after_sign sign rest none in
    (subst (IsNumeral 10) split.0 writes.0, refl, signed_small sign (digits_value 10 rest) (subst (FitsSigned w64) split.1 writes.1))

module _ (value : Option ℕ) (ds : List ℕ) (c : ℕ) (are : AreLineDigits value ds) (never : (n : ℕ) (more : List ℕ) → ¬ WriteNumber (ds ++ c ∷ more) n) where
  -- after an integer comes a byte that is no digit of it
  pub integer_stops : (sign : Sign) → (sign ≡ Unsigned → value ≡ None → (c ≢ 43) × (c ≢ 45)) → (bytes : List ℕ) → bytes ≡ 58 ∷ (line_sign_bytes sign ++ ds) → (item : Item) (rest : List ℕ)
      → ¬ IsRedisLineOf item (bytes ++ c ∷ rest)
  integer_stops sign other bytes is item rest line =
      no_integer (line_sign_bytes sign ++ (ds ++ c ∷ rest)) none item
      (subst (IsRedisLineOf item) (ap (λ l. l ++ c ∷ rest) is ∙ ap (λ l. 58 ∷ l) (append_assoc (line_sign_bytes sign) ds (c ∷ rest))) line)
    where
      none : (n : ℤ) → ¬ WriteRedisInteger (line_sign_bytes sign ++ (ds ++ c ∷ rest)) n
      none n writes = never (digits_value 10 (ds ++ c ∷ rest)) rest
          (integer_number sign (ds ++ c ∷ rest) n
          (λ unsigned. (first_byte_not 43 (omega arith) value ds rest c are (λ no. (other unsigned no).0), first_byte_not 45 (omega arith) value ds rest c are (λ no. (other unsigned no).1)))
          writes)

  -- after a length comes a byte that is no digit of it
  pub length_stops : (counted : Counted) → (value ≡ None → c ≢ 45) → (bytes : List ℕ) → bytes ≡ line_length_byte counted ∷ ds → (item : Item) (rest : List ℕ) → ¬ IsRedisLineOf item (bytes ++ c ∷ rest)
  length_stops counted other bytes is item rest line = of_counted counted (subst (IsRedisLineOf item) (ap (λ l. l ++ c ∷ rest) is) line)
    where
      none : (len : Option ℕ) → ¬ WriteRedisLength (ds ++ c ∷ rest) len
      none None writes = first_byte_not 45 (omega arith) value ds rest c are other (ap (λ l. get_or l 0 0) writes)
      none (Some n) writes = never n rest writes

      of_counted : (k : Counted) → ¬ IsRedisLineOf item (line_length_byte k ∷ (ds ++ c ∷ rest))
      of_counted Bytes = no_bulk (ds ++ c ∷ rest) none item
      of_counted Items = no_array (ds ++ c ∷ rest) none item

-- ---- texts

not_plain : (text rest : List ℕ) (c : ℕ) → (c ≡ 13) ⊎ (c ≡ 10) → ¬ IsRedisPlain (text ++ c ∷ rest)
not_plain [] rest c ends plain = plain 0 (omega arith) (omega arith) (ends_line c ends)
  where
    ends_line : (b : ℕ) → (b ≡ 13) ⊎ (b ≡ 10) → is_byte2 13 10 b ≡ true
    ends_line b (inl is) = ap (is_byte2 13 10) is
    ends_line b (inr is) = ap (is_byte2 13 10) is
not_plain (t ∷ text) rest c ends plain = not_plain text rest c ends (λ k low high passes. plain (suc k) (omega arith) (omega (arith, high)) passes)

pub text_stops : (bytes : List ℕ) (c : ℕ) → IsRedisTextLine bytes → (c ≡ 13) ⊎ (c ≡ 10) → (item : Item) (rest : List ℕ) → ¬ IsRedisLineOf item (bytes ++ c ∷ rest)
text_stops bytes c text ends item rest line =
    let said = text.text ++ c ∷ rest in
    let at = ap (λ l. l ++ c ∷ rest) text.parts in
    ⊎_elim
    (λ simple. no_simple said (not_plain text.text rest c ends) item (subst (IsRedisLineOf item) (at ∙ ap (λ b. b ∷ said) simple) line))
    (λ error. no_error said (not_plain text.text rest c ends) item (subst (IsRedisLineOf item) (at ∙ ap (λ b. b ∷ said) error) line))
    text.is

-- ---- no carriage return is among them

no_length_byte : (counted : Counted) → line_length_byte counted ≢ 13
no_length_byte Bytes e = omega (arith, e)
no_length_byte Items e = omega (arith, e)

pub read_no_return : (line : Line) (bytes : List ℕ) → IsRedisLineReadAs line bytes → NoLineReturn bytes
read_no_return Empty bytes is = subst NoLineReturn (sym is) tt
read_no_return Text bytes is = subst NoLineReturn (sym is.parts) (⊎_elim (λ simple. λ e. omega (arith, e, simple)) (λ error. λ e. omega (arith, e, error)) is.is, plain_no_return is.text is.plain)
read_no_return (Signed sign value) bytes is =
    subst NoLineReturn (sym is.1) ((λ e. omega (arith, e)), signed_no_return sign is.0 (digits_no_return is.0 (value_of value is.0 is.2).0))
  where
    signed_no_return : (s : Sign) (ds : List ℕ) → NoLineReturn ds → NoLineReturn (line_sign_bytes s ++ ds)
    signed_no_return Unsigned ds none = none
    signed_no_return Plus ds none = ((λ e. omega (arith, e)), none)
    signed_no_return Minus ds none = ((λ e. omega (arith, e)), none)
read_no_return (Length counted value) bytes is = subst NoLineReturn (sym is.1) (no_length_byte counted, digits_no_return is.0 (value_of value is.0 is.2).0)
read_no_return (Dash counted) bytes is = subst NoLineReturn (sym is) (no_length_byte counted, ((λ e. omega (arith, e)), tt))
read_no_return (Null counted) bytes is = subst NoLineReturn (sym is) (no_length_byte counted, ((λ e. omega (arith, e)), ((λ e. omega (arith, e)), tt)))

-- ---- more bytes

cut_at : (all : List ℕ) (k : ℕ) → k < length all → all ≡ take k all ++ get_or all k 0 ∷ drop (suc k) all
cut_at [] k within = absurd (omega (arith, within))
cut_at (a ∷ all) zero within = refl
cut_at (a ∷ all) (suc k) within = ap (λ t. a ∷ t) (cut_at all k (omega (arith, within)))

-- a byte of them is none of the line
pub stops_within : (bytes all : List ℕ) (k : ℕ) → k < length all → ((item : Item) (rest : List ℕ) → ¬ IsRedisLineOf item ((bytes ++ take k all) ++ get_or all k 0 ∷ rest))
    → (item : Item) (rest : List ℕ) → ¬ IsRedisLineOf item (bytes ++ (all ++ rest))
stops_within bytes all k within never item rest line =
    let front = take k all in
    let after = drop (suc k) all in
    never item (after ++ rest) (subst (IsRedisLineOf item)
    (ap (λ l. bytes ++ (l ++ rest)) (cut_at all k within) ∙ ap (λ l. bytes ++ l) (append_assoc front (get_or all k 0 ∷ after) rest) ∙ sym (append_assoc bytes front (get_or all k 0 ∷ (after ++ rest)))) line)

-- one byte more was read
pub reads_one : (line : Line) (bytes all : List ℕ) (k : ℕ) → k < length all → IsRedisLineReadAs line ((bytes ++ take k all) ++ get_or all k 0 ∷ []) → IsRedisLineReadAs line (bytes ++ take (k + 1) all)
reads_one line bytes all k within is =
    subst (IsRedisLineReadAs line) (append_assoc bytes (take k all) (get_or all k 0 ∷ []) ∙ ap (λ l. bytes ++ l) (sym (take_more all k 0 within))) is

-- what is no line of an item
pub none_in : (ended lacks : Bool) (bytes : List ℕ) → ((item : Item) → ¬ IsRedisLineOf item bytes) → (LacksRedisByte bytes → lacks ≡ true) → (ended ≡ false → lacks ≡ false)
    → MatchBool ended ((item : Item) → ¬ IsRedisLineOf item bytes) ((item : Item) (more : List ℕ) → ¬ IsRedisLineOf item (bytes ++ more))
none_in true lacks bytes none is whole = none
none_in false lacks bytes none is whole = still_none bytes (λ l. true≢false (sym (is l) ∙ whole refl)) none
