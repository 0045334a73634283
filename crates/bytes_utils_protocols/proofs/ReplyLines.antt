-- Lines of replies of the Redis protocol, whole and begun.
use Rattle.std.proofs.Common.{◌≡◌, ◌≢◌, ℕ, zero, suc, ◌==◌, Bool, true, false, cond, ◌<◌, ◌≤◌, ◌⊎◌, inl, inr, ⊎_elim, List, [], ◌∷◌, ◌++◌, length, take, drop, get_or, Option, None, Some, ap, ◌∙◌, sym, refl, subst, arith, append-nil, length-append}
use Rattle.std.specs.Prelude.{ℤ, pos, neg_ℤ, FitsSigned, replicate}
use Rattle.std.specs.Int.{w64}
use Rattle.std.specs.Option.{option_map}
use Rattle.std.specs.Str.Parse.{AllDigits, IsNumeral, digits_value, signed_digits_value}
use Rattle.std.proofs.lemmas.Bool.Decides.{nat_tests}
use Rattle.std.proofs.lemmas.List.{get_or_append_left, length-replicate, take_at, drop_at}
use Rattle.std.proofs.lemmas.Str.Parse.{digit_at, digit_from_value, digits_value-take-le}
use Rattle.memchr.specs.Find.{is_byte2}
use Rattle.bytes_utils_codec.specs.Frames.{TakesFrame}
use Rattle.bytes_utils.specs.Lines.{carriage_return, line_feed}
use Rattle.bytes_utils.specs.Occurrence.{OccursAt}
use Rattle.bytes_utils_protocols.specs.Digits.{WriteNumber}
use Rattle.bytes_utils_protocols.specs.Redis.{redis_line_end, redis_no_length, IsRedisPlain, IsRedisTextLine, IsRedisLineOverLimit, LacksRedisByte, LacksRedisDigit, LacksRedisLength, WriteRedisInteger, WriteRedisLength, redis_first_byte, IsRedisLineRest, IsRedisLineOf, redis_body, redis_items_in}
use Rattle.bytes_utils_protocols.specs.RedisLine.{IsRedisLineHeadOf, IsRedisLineHeadWithin, NoLineReturn}
use Rattle.bytes_utils_protocols.specs.declared.redis.line.LineHead.{LineHead}
use Rattle.bytes_utils_protocols.specs.declared.redis.line.LineHead.TheVariants.{Whole, Plain, Body}
use Rattle.bytes_utils_protocols.specs.declared.redis.item.Item.{Item}
use Rattle.bytes_utils_protocols.specs.declared.redis.item.Item.TheVariants.{Simple, Error, Integer, Bulk, Array}
use Rattle.bytes_utils_protocols.specs.declared.redis.limits.Limits.{Limits}
use Rattle.bytes_utils_protocols.proofs.RedisLemmas.{no_item_of_none, no_integer, no_bulk, no_array}

-- the line is that of an item within the limits, which has at most `room` items of its own
pub record IsRedisLineWithin (limits : Limits) (room : ℕ) (item : Item) (line : List ℕ) : Type 0 where
  pub is : IsRedisLineOf item line
  pub short : length line ≤ limits.line
  pub small : length (redis_body item) ≤ limits.bulk
  pub few : redis_items_in item ≤ room

-- ---- fronts of texts and numbers

plain_front : (xs ys : List ℕ) → IsRedisPlain (xs ++ ys) → IsRedisPlain xs
plain_front xs ys plain k low high passes =
    plain k low (omega (arith, high, length-append xs ys)) (ap (is_byte2 carriage_return line_feed) (get_or_append_left xs ys 0 k high) ∙ passes)

plain_none : IsRedisPlain []
plain_none k low high = absurd (omega (arith, low, high))

digits_front : (xs ys : List ℕ) → AllDigits 10 (xs ++ ys) → AllDigits 10 xs
digits_front [] ys digits = tt
digits_front (c ∷ xs) ys digits = (digits.0, digits_front xs ys digits.1)

pub value_front : (xs ys : List ℕ) → digits_value 10 xs ≤ digits_value 10 (xs ++ ys)
value_front xs ys =
    subst (λ l. digits_value 10 l ≤ digits_value 10 (xs ++ ys)) (take_at xs ys (length xs) refl) (digits_value-take-le 10 (xs ++ ys) (length xs) (omega arith))

number_front : (said x : List ℕ) (n : ℕ) → 0 < length said → WriteNumber (said ++ x) n → WriteNumber said (digits_value 10 said)
number_front said x n some writes = ((some, digits_front said x writes.0.1), refl, omega (arith, value_front said x, writes.1, writes.2))

-- a front of a length is one, or lacks a digit
length_front : (said x : List ℕ) (len : Option ℕ) → WriteRedisLength (said ++ x) len → ((other : Option ℕ) × WriteRedisLength said other) ⊎ LacksRedisLength said
length_front [] x len writes = inr (inl refl)
length_front (c ∷ said) x (Some n) writes = inl (Some (digits_value 10 (c ∷ said)), number_front (c ∷ said) x n (omega arith) writes)
length_front (c ∷ []) x None writes = inr (inr (ap (λ l. get_or l 0 0 ∷ []) writes))
length_front (c ∷ d ∷ []) x None writes = inl (None, ap (λ l. get_or l 0 0 ∷ get_or l 1 0 ∷ []) writes)
length_front (c ∷ d ∷ e ∷ said) x None writes = absurd (omega (arith, ap length writes))

pos_front : (m n : ℕ) → m ≤ n → FitsSigned w64 (pos n) → FitsSigned w64 (pos m)
pos_front m n le fits = record { sfits = omega (arith, le, fits.sfits) }

neg_front : (m n : ℕ) → m ≤ n → FitsSigned w64 (neg_ℤ (pos n)) → FitsSigned w64 (neg_ℤ (pos m))
neg_front zero zero le fits = fits
neg_front zero (suc n) le fits = record { sfits = omega (arith, fits.sfits) }
neg_front (suc m) zero le fits = absurd (omega (arith, le))
neg_front (suc m) (suc n) le fits = record { sfits = omega (arith, le, fits.sfits) }

-- the digits after a sign, and the number
abbrev digits_of : Bool → Bool → List ℕ → List ℕ
digits_of minus plus text = cond minus (drop 1 text) (drop (cond plus 1 0) text)

abbrev number_with : Bool → Bool → List ℕ → ℤ
number_with minus plus text = cond minus (neg_ℤ (pos (digits_value 10 (digits_of minus plus text)))) (pos (digits_value 10 (digits_of minus plus text)))

abbrev Writes : Bool → Bool → List ℕ → Type 0
Writes minus plus text = IsNumeral 10 (digits_of minus plus text) × FitsSigned w64 (number_with minus plus text)

signed_front : (c : ℕ) (t x : List ℕ) (minus plus : Bool) → (c == 45) ≡ minus → (c == 43) ≡ plus → Writes minus plus (c ∷ (t ++ x)) → Writes minus plus (c ∷ t) ⊎ LacksRedisDigit (c ∷ t)
signed_front c [] x true plus is_minus is_plus writes = let is : c ≡ 45 = grind (arith, nat_tests, is_minus) in inr (inl (inr (ap (λ b. b ∷ []) is)))
signed_front c (d ∷ t) x true plus is_minus is_plus writes =
    inl ((omega arith, digits_front (d ∷ t) x writes.0.1), neg_front (digits_value 10 (d ∷ t)) (digits_value 10 (d ∷ (t ++ x))) (value_front (d ∷ t) x) writes.1)
signed_front c [] x false true is_minus is_plus writes = let is : c ≡ 43 = grind (arith, nat_tests, is_plus) in inr (inr (ap (λ b. b ∷ []) is))
signed_front c (d ∷ t) x false true is_minus is_plus writes =
    inl ((omega arith, digits_front (d ∷ t) x writes.0.1), pos_front (digits_value 10 (d ∷ t)) (digits_value 10 (d ∷ (t ++ x))) (value_front (d ∷ t) x) writes.1)
signed_front c t x false false is_minus is_plus writes =
    inl ((omega arith, digits_front (c ∷ t) x writes.0.1), pos_front (digits_value 10 (c ∷ t)) (digits_value 10 (c ∷ (t ++ x))) (value_front (c ∷ t) x) writes.1)

-- a front of an integer is one, or lacks a digit
integer_front : (said x : List ℕ) (n : ℤ) → WriteRedisInteger (said ++ x) n → ((m : ℤ) × WriteRedisInteger said m) ⊎ LacksRedisDigit said
integer_front [] x n writes = inr (inl (inl refl))
integer_front (c ∷ t) x n writes =
    ⊎_elim (λ w. inl (signed_digits_value 10 (c ∷ t), (w.0, w.1, refl))) (λ lacks. inr lacks) (signed_front c t x (c == 45) (c == 43) refl refl (writes.0, writes.1))

-- ---- no carriage return is in a line

pub plain_no_return : (text : List ℕ) → IsRedisPlain text → NoLineReturn text
plain_no_return [] plain = tt
plain_no_return (c ∷ t) plain = (
  λ is. plain 0 (omega arith) (omega arith) (ap (is_byte2 carriage_return line_feed) is),
  plain_no_return t (λ k low high passes. plain (suc k) (omega arith) (omega (arith, high)) passes),
)

pub digits_no_return : (ds : List ℕ) → AllDigits 10 ds → NoLineReturn ds
digits_no_return [] digits = tt
digits_no_return (c ∷ ds) digits = (λ is. omega (arith, is, digit_from_value c digits.0), digits_no_return ds digits.1)

signed_no_return : (c : ℕ) (t : List ℕ) (minus plus : Bool) → (c == 45) ≡ minus → (c == 43) ≡ plus → IsNumeral 10 (digits_of minus plus (c ∷ t)) → NoLineReturn (c ∷ t)
signed_no_return c t true plus is_minus is_plus number =
    let is : c ≡ 45 = grind (arith, nat_tests, is_minus) in (λ return. omega (arith, is, return), digits_no_return t number.1)
signed_no_return c t false true is_minus is_plus number =
    let is : c ≡ 43 = grind (arith, nat_tests, is_plus) in (λ return. omega (arith, is, return), digits_no_return t number.1)
signed_no_return c t false false is_minus is_plus number = digits_no_return (c ∷ t) number.1

integer_no_return : (said : List ℕ) (n : ℤ) → WriteRedisInteger said n → NoLineReturn said
integer_no_return [] n writes = tt
integer_no_return (c ∷ t) n writes = signed_no_return c t (c == 45) (c == 43) refl refl writes.0

length_no_return : (said : List ℕ) (len : Option ℕ) → WriteRedisLength said len → NoLineReturn said
length_no_return said None writes = subst NoLineReturn (sym writes) (λ is. omega (arith, is), (λ is. omega (arith, is), tt))
length_no_return said (Some n) writes = digits_no_return said writes.0.1

says_no_return : (item : Item) (said : List ℕ) → IsRedisLineRest item said → NoLineReturn said
says_no_return (Simple a) said says = plain_no_return said says.1
says_no_return (Error a) said says = plain_no_return said says.1
says_no_return (Integer n) said says = integer_no_return said n says
says_no_return (Bulk bytes) said says = length_no_return said (option_map length bytes) says
says_no_return (Array count) said says = length_no_return said count says

first_no_return : (item : Item) → redis_first_byte item ≢ carriage_return
first_no_return (Simple a) is = omega (arith, is)
first_no_return (Error a) is = omega (arith, is)
first_no_return (Integer a) is = omega (arith, is)
first_no_return (Bulk a) is = omega (arith, is)
first_no_return (Array a) is = omega (arith, is)

pub line_no_return : (item : Item) (line : List ℕ) → IsRedisLineOf item line → NoLineReturn line
line_no_return item line is = subst NoLineReturn (sym is.1) (first_no_return item, says_no_return item is.0 is.2)

pub no_return_within : (front x : List ℕ) → ¬ NoLineReturn ((front ++ carriage_return ∷ []) ++ x)
no_return_within [] x none = none.0 refl
no_return_within (c ∷ front) x none = no_return_within front x none.1

line_first : (line rest : List ℕ) → NoLineReturn line → (j : ℕ) → OccursAt redis_line_end (line ++ (redis_line_end ++ rest)) j → length line ≤ j
line_first [] rest none j here = omega arith
line_first (c ∷ line) rest none zero here = absurd (none.0 (ap (λ l. get_or l 0 0) here))
line_first (c ∷ line) rest none (suc j) here = omega (arith, line_first line rest none.1 j here)

-- a line and its end
pub framed_line : (line rest : List ℕ) → NoLineReturn line → TakesFrame redis_line_end (line ++ (redis_line_end ++ rest)) line rest
framed_line line rest none = record {
  bytes = refl;
  first = record { here = ap (take 2) (drop_at line (redis_line_end ++ rest) (length line) refl); none_before = line_first line rest none };
}

-- ---- a beginning of a line

line_of : (item : Item) (kind : ℕ) (said : List ℕ) → kind ≡ redis_first_byte item → IsRedisLineRest item said → IsRedisLineOf item (kind ∷ said)
line_of item kind said is says = (said, ap (λ b. b ∷ said) is, says)

bulk_of : (kind : ℕ) (said : List ℕ) → kind ≡ 36 → (len : Option ℕ) → WriteRedisLength said len → (item : Item) × IsRedisLineOf item (kind ∷ said)
bulk_of kind said is None writes = (Bulk None, line_of (Bulk None) kind said is writes)
bulk_of kind said is (Some n) writes =
    (Bulk (Some (replicate n 0)), line_of (Bulk (Some (replicate n 0))) kind said is (subst (WriteNumber said) (sym (length-replicate {A = ℕ} n 0)) writes))

said_line : (item : Item) (kind : ℕ) (said x : List ℕ) → kind ≡ redis_first_byte item → IsRedisLineRest item (said ++ x) → ((other : Item) × IsRedisLineOf other (kind ∷ said)) ⊎ LacksRedisByte (kind ∷ said)
said_line (Simple a) kind said x is says = inl (Simple said, line_of (Simple said) kind said is (refl, plain_front said x says.1))
said_line (Error a) kind said x is says = inl (Error said, line_of (Error said) kind said is (refl, plain_front said x says.1))
said_line (Integer n) kind said x is says =
    ⊎_elim (λ w. inl (Integer w.0, line_of (Integer w.0) kind said is w.1)) (λ lacks. inr (inl (is, lacks))) (integer_front said x n says)
said_line (Bulk bytes) kind said x is says =
    ⊎_elim (λ w. inl (bulk_of kind said is w.0 w.1)) (λ lacks. inr (inr (inl is, lacks))) (length_front said x (option_map length bytes) says)
said_line (Array count) kind said x is says =
    ⊎_elim (λ w. inl (Array w.0, line_of (Array w.0) kind said is w.1)) (λ lacks. inr (inr (inr is, lacks))) (length_front said x count says)

-- a beginning of a line is one, or lacks a byte
begun_line : (item : Item) (begun x : List ℕ) → IsRedisLineOf item (begun ++ x) → ((other : Item) × IsRedisLineOf other begun) ⊎ LacksRedisByte begun
begun_line item [] x is = inr tt
begun_line item (kind ∷ said) x is =
    said_line item kind said x (ap (λ l. get_or l 0 0) is.1) (subst (IsRedisLineRest item) (sym (ap (drop 1) is.1)) is.2)

lacks_digit : (said : List ℕ) → LacksRedisDigit said → (n : ℤ) → ¬ WriteRedisInteger said n
lacks_digit said (inl (inl none)) n writes = let w : WriteRedisInteger [] n = subst (λ l. WriteRedisInteger l n) none writes in omega (arith, w.0.0)
lacks_digit said (inr plus) n writes = let w : WriteRedisInteger (43 ∷ []) n = subst (λ l. WriteRedisInteger l n) plus writes in omega (arith, w.0.0)
lacks_digit said (inl (inr minus)) n writes = let w : WriteRedisInteger (45 ∷ []) n = subst (λ l. WriteRedisInteger l n) minus writes in omega (arith, w.0.0)

lacks_length : (said : List ℕ) → LacksRedisLength said → (len : Option ℕ) → ¬ WriteRedisLength said len
lacks_length said (inl none) None writes = omega (arith, ap length (sym none ∙ writes))
lacks_length said (inl none) (Some n) writes = omega (arith, ap length none, writes.0.0)
lacks_length said (inr minus) None writes = omega (arith, ap length (sym minus ∙ writes))
lacks_length said (inr minus) (Some n) writes =
    let w : WriteNumber (45 ∷ []) n = subst (λ l. WriteNumber l n) minus writes in omega (arith, digit_from_value 45 w.0.1.0)

-- what is no line and lacks no byte stays no line
pub still_none : (begun : List ℕ) → (¬ LacksRedisByte begun) → ((item : Item) → ¬ IsRedisLineOf item begun) → (item : Item) (more : List ℕ) → ¬ IsRedisLineOf item (begun ++ more)
still_none begun whole none item more is = ⊎_elim (λ line. none line.0 line.1) (λ lacks. whole lacks) (begun_line item begun more is)

-- what lacks a byte is no line
pub lacks_none : (begun : List ℕ) → LacksRedisByte begun → (item : Item) → ¬ IsRedisLineOf item begun
lacks_none [] lacks = no_item_of_none
lacks_none (kind ∷ said) (inl lacks) =
    subst (λ k. (item : Item) → ¬ IsRedisLineOf item (k ∷ said)) (sym lacks.0) (no_integer said (lacks_digit said lacks.1))
lacks_none (kind ∷ said) (inr (inl bulk, lacks)) =
    subst (λ k. (item : Item) → ¬ IsRedisLineOf item (k ∷ said)) (sym bulk) (no_bulk said (lacks_length said lacks))
lacks_none (kind ∷ said) (inr (inr array, lacks)) =
    subst (λ k. (item : Item) → ¬ IsRedisLineOf item (k ∷ said)) (sym array) (no_array said (lacks_length said lacks))

-- a line with one byte more, of an item that needs nothing else
record IsOneMore (begun : List ℕ) : Type 0 where
  byte : ℕ
  item : Item
  is : IsRedisLineOf item (begun ++ byte ∷ [])
  no_body : redis_body item ≡ []
  alone : redis_items_in item ≡ 0

zero_digits : AllDigits 10 (48 ∷ [])
zero_digits = (omega arith, tt)

zero_number : WriteNumber (48 ∷ []) 0
zero_number = ((omega arith, zero_digits), refl, omega arith)

zero_after : (said : List ℕ) → LacksRedisDigit said → WriteRedisInteger (said ++ 48 ∷ []) (signed_digits_value 10 (said ++ 48 ∷ []))
zero_after said (inl (inl none)) = subst (λ l. WriteRedisInteger (l ++ 48 ∷ []) (signed_digits_value 10 (l ++ 48 ∷ []))) (sym none) ((omega arith, zero_digits), record { sfits = omega arith }, refl)
zero_after said (inr plus) = subst (λ l. WriteRedisInteger (l ++ 48 ∷ []) (signed_digits_value 10 (l ++ 48 ∷ []))) (sym plus) ((omega arith, zero_digits), record { sfits = omega arith }, refl)
zero_after said (inl (inr minus)) = subst (λ l. WriteRedisInteger (l ++ 48 ∷ []) (signed_digits_value 10 (l ++ 48 ∷ []))) (sym minus) ((omega arith, zero_digits), record { sfits = omega arith }, refl)

one_more : (item : Item) (kind byte : ℕ) (said : List ℕ) → kind ≡ redis_first_byte item → IsRedisLineRest item (said ++ byte ∷ []) → redis_body item ≡ [] → redis_items_in item ≡ 0 → IsOneMore (kind ∷ said)
one_more item kind byte said is says none alone = record { byte = byte; item = item; is = line_of item kind (said ++ byte ∷ []) is says; no_body = none; alone = alone }

completed : (begun : List ℕ) → LacksRedisByte begun → IsOneMore begun
completed [] lacks = record { byte = 43; item = Simple []; is = ([], refl, (refl, plain_none)); no_body = refl; alone = refl }
completed (kind ∷ said) (inl lacks) =
    one_more (Integer (signed_digits_value 10 (said ++ 48 ∷ []))) kind 48 said lacks.0 (zero_after said lacks.1) refl refl
completed (kind ∷ said) (inr (inl bulk, inl none)) =
    one_more (Bulk (Some [])) kind 48 said bulk (subst (λ l. WriteNumber (l ++ 48 ∷ []) 0) (sym none) zero_number) refl refl
completed (kind ∷ said) (inr (inl bulk, inr minus)) = one_more (Bulk None) kind 49 said bulk (ap (λ l. l ++ 49 ∷ []) minus) refl refl
completed (kind ∷ said) (inr (inr array, inl none)) =
    one_more (Array (Some 0)) kind 48 said array (subst (λ l. WriteNumber (l ++ 48 ∷ []) 0) (sym none) zero_number) refl refl
completed (kind ∷ said) (inr (inr array, inr minus)) = one_more (Array None) kind 49 said array (ap (λ l. l ++ 49 ∷ []) minus) refl refl

-- ---- a longer line reports no less

no_longer : (said x : List ℕ) (n : ℕ) → WriteNumber said n → said ++ x ≢ redis_no_length
no_longer said x n number is =
    let first = digit_at said 0 number.0.1 number.0.0 in
    omega (arith, first, sym (get_or_append_left said x 0 0 number.0.0) ∙ ap (λ l. get_or l 0 0) is)

length_grows : (said x : List ℕ) (m n : ℕ) → WriteNumber said m → WriteNumber (said ++ x) n → m ≤ n
length_grows said x m n one other = omega (arith, one.1, other.1, value_front said x)

body_grows : (item : Item) (said x : List ℕ) (n : ℕ) → WriteNumber said n → 36 ≡ redis_first_byte item → IsRedisLineRest item (said ++ x) → n ≤ length (redis_body item)
body_grows (Simple a) said x n number is says = absurd (omega (arith, is))
body_grows (Error a) said x n number is says = absurd (omega (arith, is))
body_grows (Integer a) said x n number is says = absurd (omega (arith, is))
body_grows (Bulk None) said x n number is says = absurd (no_longer said x n number says)
body_grows (Bulk (Some bytes)) said x n number is says = length_grows said x n (length bytes) number says
body_grows (Array a) said x n number is says = absurd (omega (arith, is))

count_grows : (item : Item) (said x : List ℕ) (n : ℕ) → WriteNumber said n → 42 ≡ redis_first_byte item → IsRedisLineRest item (said ++ x) → n ≤ redis_items_in item
count_grows (Simple a) said x n number is says = absurd (omega (arith, is))
count_grows (Error a) said x n number is says = absurd (omega (arith, is))
count_grows (Integer a) said x n number is says = absurd (omega (arith, is))
count_grows (Bulk a) said x n number is says = absurd (omega (arith, is))
count_grows (Array None) said x n number is says = absurd (no_longer said x n number says)
count_grows (Array (Some count)) said x n number is says = length_grows said x n count number says

says_grows : (one other : Item) (said x : List ℕ) → redis_first_byte one ≡ redis_first_byte other → IsRedisLineRest one said → IsRedisLineRest other (said ++ x)
    → (length (redis_body one) ≤ length (redis_body other)) × (redis_items_in one ≤ redis_items_in other)
says_grows (Simple a) other said x is p q = (omega arith, omega arith)
says_grows (Error a) other said x is p q = (omega arith, omega arith)
says_grows (Integer a) other said x is p q = (omega arith, omega arith)
says_grows (Bulk None) other said x is p q = (omega arith, omega arith)
says_grows (Bulk (Some bytes)) other said x is p q = (body_grows other said x (length bytes) p is q, omega arith)
says_grows (Array None) other said x is p q = (omega arith, omega arith)
says_grows (Array (Some count)) other said x is p q = (omega arith, count_grows other said x count p is q)

line_grows : (one other : Item) (line x : List ℕ) → IsRedisLineOf one line → IsRedisLineOf other (line ++ x) → (length (redis_body one) ≤ length (redis_body other)) × (redis_items_in one ≤ redis_items_in other)
line_grows one other line x p q =
    let same : redis_first_byte one ∷ (p.0 ++ x) ≡ redis_first_byte other ∷ q.0 = ap (λ l. l ++ x) (sym p.1) ∙ q.1 in
    says_grows one other p.0 x (ap (λ l. get_or l 0 0) same) p.2 (subst (IsRedisLineRest other) (sym (ap (drop 1) same)) q.2)

-- an item of the line
bulk_line : (len : ℕ) (line : List ℕ) → IsRedisLineHeadOf (Body len) line → IsRedisLineOf (Bulk (Some (replicate len 0))) line
bulk_line len line head = (head.0, head.1, subst (WriteNumber head.0) (sym (length-replicate {A = ℕ} len 0)) head.2)

module _ (limits : Limits) (room : ℕ) (line : List ℕ) where
  -- it reports too much
  pub large_head : (head : LineHead) → IsRedisLineHeadOf head line → (¬ IsRedisLineHeadWithin limits.bulk room head) → (after : List ℕ) → IsRedisLineOverLimit limits room line after
  large_head (Whole one) is large after = let many : redis_items_in one ≤ room → ⊥ = large in inr (inr (one, is.0, inr (omega (arith, many))))
  large_head Plain is large after = absurd (large tt)
  large_head (Body len) is large after =
      let long : len ≤ limits.bulk → ⊥ = large in
      inr (inr (Bulk (Some (replicate len 0)), bulk_line len line is, inl (omega (arith, long, length-replicate {A = ℕ} len 0))))

  -- it is over a limit
  pub over_line : (after : List ℕ) → IsRedisLineOverLimit limits room line after → (item : Item) (more : List ℕ) → ¬ IsRedisLineWithin limits room item (line ++ more)
  over_line after (inl long) item more within = omega (arith, long, within.short, length-append line more)
  over_line after (inr (inl (none, full, lacks))) item [] within = lacks_none line lacks item (subst (IsRedisLineOf item) (append-nil line) within.is)
  over_line after (inr (inl (none, full, lacks))) item (b ∷ more) within = omega (arith, full, within.short, length-append line (b ∷ more))
  over_line after (inr (inr (one, is, inl long))) item more within = let grows = line_grows one item line more is within.is in omega (arith, long, grows.0, within.small)
  over_line after (inr (inr (one, is, inr many))) item more within = let grows = line_grows one item line more is within.is in omega (arith, many, grows.1, within.few)

  module _ (short : length line ≤ limits.line) where
    text_within : IsRedisTextLine line → (item : Item) × IsRedisLineWithin limits room item line
    text_within text = ⊎_elim
        (λ simple. (Simple text.text, record { is = (text.text, text.parts ∙ ap (λ b. b ∷ text.text) simple, (refl, text.plain)); short = short; small = omega arith; few = omega arith }))
        (λ error. (Error text.text, record { is = (text.text, text.parts ∙ ap (λ b. b ∷ text.text) error, (refl, text.plain)); short = short; small = omega arith; few = omega arith }))
        text.is

    pub line_within : (head : LineHead) → IsRedisLineHeadOf head line → IsRedisLineHeadWithin limits.bulk room head → (item : Item) × IsRedisLineWithin limits room item line
    line_within (Whole item) is within = (item, record { is = is.0; short = short; small = omega (arith, ap length is.2); few = within })
    line_within Plain is within = text_within is
    line_within (Body len) is within =
        (Bulk (Some (replicate len 0)), record { is = bulk_line len line is; short = short; small = omega (arith, within, length-replicate {A = ℕ} len 0); few = omega arith })

  -- it lacks a byte, for which there is a place
  pub completed_within : LacksRedisByte line → length line < limits.line → (more : List ℕ) × (item : Item) × IsRedisLineWithin limits room item (line ++ more)
  completed_within lacks short =
      let done = completed line lacks in (
        done.byte ∷ [],
        done.item,
        record { is = done.is; short = omega (arith, short, length-append line (done.byte ∷ [])); small = omega (arith, ap length done.no_body); few = omega (arith, done.alone) },
      )
