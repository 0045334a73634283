-- The longest text at the start of bytes.
use Rattle.std.proofs.Common.{◌≡◌, ℕ, zero, suc, ◌+◌, ◌-◌, ◌<◌, ◌≤◌, true, List, [], ◌∷◌, ◌++◌, length, take, drop, IsUtf8, encode_utf8, encode_utf8_all, arith, ⊎_elim, ap, ◌∙◌, sym, refl, subst, true≢false, append_assoc, append-nil, length-append, length-take, take_at, drop_at, take-append-drop, ◌&&◌}
use Rattle.std.proofs.lemmas.Bool.{cases_Bool, cases_lt, cond-true, cond-false, and_parts}
use Rattle.std.proofs.lemmas.Str.{IsUtf8-from_is_utf8, is_utf8-from_IsUtf8, utf8_valid_len_le, IsUtf8-drop, IsCharBoundary-from_take, length-encode, len_utf8_bounds}
use Rattle.std.specs.Char.{len_utf8}
use Rattle.std.specs.Str.{is_utf8}
use Rattle.std.specs.Str.Lossy.{valid_len_up_to, utf8_valid_len}
use Rattle.std.proofs.Math.Seq.{take-append-add}
use lib.Utf8.{scalars}

longest_front : (bs : List ℕ) (m : ℕ)
    → IsUtf8 (take (valid_len_up_to bs m) bs) × ((k : ℕ) → valid_len_up_to bs m < k → k ≤ m → ¬ (IsUtf8 (take k bs)))
longest_front bs zero = (([], (refl, refl)), λ k above within. absurd (omega arith))
longest_front bs (suc m) =
    let rest = longest_front bs m in
    ⊎_elim
    (λ yes.
    let is : valid_len_up_to bs (suc m) ≡ suc m = cond-true _ _ _ yes in
    (subst (λ n. IsUtf8 (take n bs)) (sym is) (IsUtf8-from_is_utf8 _ yes), λ k above within. absurd (omega arith)))
    (λ no.
    let is : valid_len_up_to bs (suc m) ≡ valid_len_up_to bs m = cond-false _ _ _ no in (
      subst (λ n. IsUtf8 (take n bs)) (sym is) rest.0,
      λ k above within u. ⊎_elim
          (λ (top : m < k).
          let same : k ≡ suc m = omega arith in
          true≢false (sym (is_utf8-from_IsUtf8 _ (subst (λ n. IsUtf8 (take n bs)) same u)) ∙ no))
          (λ (low : k ≤ m). rest.1 k (omega arith) low u)
          (cases_lt m k),
    ))
    (cases_Bool (is_utf8 (take (suc m) bs)))

pub front : (bs : List ℕ) → IsUtf8 (take (utf8_valid_len bs) bs)
unfolding utf8_valid_len
front bs = (longest_front bs (length bs)).0

pub none_longer : (bs : List ℕ) (k : ℕ) → utf8_valid_len bs < k → k ≤ length bs → ¬ (IsUtf8 (take k bs))
unfolding utf8_valid_len
none_longer bs = (longest_front bs (length bs)).1

-- no first bytes are a text
pub no_front : (bs : List ℕ) → utf8_valid_len bs ≡ 0 → (k : ℕ) → 0 < k → k ≤ length bs → ¬ (IsUtf8 (take k bs))
no_front bs none k some within = none_longer bs k (omega (arith, none)) within

-- what follows a text in a text is one
pub behind_text : (text x bs : List ℕ) → bs ≡ text ++ x → IsUtf8 text → IsUtf8 bs → IsUtf8 x
behind_text text x bs is utf8 u =
    let n = length text in
    let front : take n bs ≡ text = ap (take n) is ∙ take_at text x n refl in
    let back : drop n bs ≡ x = ap (drop n) is ∙ drop_at text x n refl in
    let place = IsCharBoundary-from_take bs n u (omega (arith, ap length is, length-append text x)) (subst IsUtf8 (sym front) utf8) in
    subst IsUtf8 back (IsUtf8-drop bs n u place)

-- of a text and what follows, which begins with no text, the longest text at the start is that text
pub valid_len_at : (text rest : List ℕ) → IsUtf8 text → utf8_valid_len rest ≡ 0 → utf8_valid_len (text ++ rest) ≡ length text
valid_len_at text rest utf8 none =
    let n = length text in
    let bs = text ++ rest in
    let long = utf8_valid_len bs in ⊎_elim
    (λ (more : n < long).
    let x = take (long - n) rest in
    let split : take long bs ≡ text ++ x = ap (λ m. take m bs) (the_sum n long more) ∙ take-append-add text rest (long - n) in
    absurd (no_front rest none (long - n) (omega (arith, more)) (omega (arith, utf8_valid_len_le bs, length-append text rest))
    (behind_text text x (take long bs) split utf8 (front bs))))
    (λ (most : long ≤ n). ⊎_elim
    (λ (less : long < n). absurd (none_longer bs n less (omega (arith, length-append text rest)) (subst IsUtf8 (sym (take_at text rest n refl)) utf8)))
    (λ (least : n ≤ long). omega (arith, most, least))
    (cases_lt long n))
    (cases_lt n long)
  where
    the_sum : (n long : ℕ) → n < long → long ≡ n + (long - n)
    the_sum n long more = omega arith

front_char : (cs bs : List ℕ) (n : ℕ) → scalars cs ≡ true → encode_utf8_all cs ≡ take n bs → 0 < length (take n bs) → ¬ (utf8_valid_len (take 4 bs) ≡ 0)
front_char [] bs n s e some none = absurd (omega (arith, some, ap length e))
front_char (c ∷ cs) bs n s e some none =
    let first = encode_utf8 c in
    let t = encode_utf8_all cs ++ drop n bs in
    let all : bs ≡ first ++ t
    = sym (take-append-drop n bs) ∙ ap (λ l. l ++ drop n bs) (sym e) ∙ append_assoc first (encode_utf8_all cs) (drop n bs) in
    let size : length first ≡ len_utf8 c = length-encode c in
    let bounds = len_utf8_bounds c in
    let k = length first in
    let sum : 4 ≡ k + (4 - k) = omega (arith, size, bounds.0, bounds.1) in
    let four : take 4 bs ≡ first ++ take (4 - k) t = ap (take 4) all ∙ ap (λ m. take m (first ++ t)) sum ∙ take-append-add first t (4 - k) in
    let front : take k (take 4 bs) ≡ first = ap (take k) four ∙ take_at first (take (4 - k) t) k refl in
    let utf8 : IsUtf8 first = (c ∷ [], (ap (λ b. b && true) (and_parts _ _ s).0, append-nil first)) in
    no_front (take 4 bs) none k (omega (arith, size, bounds.0)) (omega (arith, ap length four, length-append first (take (4 - k) t))) (subst IsUtf8 (sym front) utf8)

-- a character has at most four bytes
pub none_of_four : (bs : List ℕ) → utf8_valid_len (take 4 bs) ≡ 0 → utf8_valid_len bs ≡ 0
none_of_four bs none =
    let n = utf8_valid_len bs in ⊎_elim
    (λ (some : 0 < n).
    let u = front bs in
    absurd (front_char u.0 bs n u.1.0 u.1.1 (omega (arith, some, length-take n bs, utf8_valid_len_le bs)) none))
    (λ (zero : n ≤ 0). omega (arith, zero))
    (cases_lt 0 n)
