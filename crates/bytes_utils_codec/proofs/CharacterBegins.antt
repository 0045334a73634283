-- First bytes that begin no character: no character follows from them, whatever comes.
use Rattle.std.proofs.Common.{◌≡◌, ◌⊎◌, ℕ, zero, suc, ◌+◌, ◌/◌, ◌%◌, ◌<◌, ◌≤◌, true, false, true≢false, List, [], ◌∷◌, ◌++◌, length, take, IsUtf8, encode_utf8_all, None, arith, inl, inr, ⊎_elim, ap, ◌∙◌, sym, refl, subst, append-nil, take_at, take_all, ◌&&◌}
use Rattle.std.proofs.lemmas.Bool.{cases_lt, cond-true, cond-false, and_parts}
use Rattle.std.proofs.lemmas.Bool.Decides.{nat_tests}
use Rattle.std.proofs.lemmas.List.{take-append-le}
use Rattle.std.proofs.lemmas.Str.{length-encode, len_utf8_bounds}
use Rattle.std.specs.Char.{len_utf8, encode_utf8}
use Rattle.std.specs.Option.{IsSome}
use Rattle.std.specs.Str.Lossy.{utf8_valid_len, utf8_error_len}
use lib.Dec.{ltb}
use lib.Utf8.{scalar, scalars, scalar_cases}
use Rattle.bytes_utils_codec.specs.TextReading.{IsFaultyText}
use Rattle.bytes_utils_codec.proofs.CharacterEnds.{nothing}
use Rattle.bytes_utils_codec.proofs.ValidLen.{no_front}

-- the first bytes of a character, but not all, are no fault
module _ (c : ℕ) where
  of_two : 128 ≤ c → c < 2048 → utf8_error_len ((192 + c / 64) ∷ []) ≡ None
  unfolding utf8_error_len
  of_two low high = grind (arith, nat_tests)

  one_of_three : 2048 ≤ c → c < 65536 → utf8_error_len ((224 + c / 4096) ∷ []) ≡ None
  unfolding utf8_error_len
  one_of_three low high = grind (arith, nat_tests)

  two_of_three : 2048 ≤ c → c < 65536 → (c < 55296) ⊎ (57344 ≤ c) → utf8_error_len ((224 + c / 4096) ∷ (128 + (c / 64) % 64) ∷ []) ≡ None
  unfolding utf8_error_len
  two_of_three low high apart = grind (arith, nat_tests)

  one_of_four : 65536 ≤ c → c < 1114112 → utf8_error_len ((240 + c / 262144) ∷ []) ≡ None
  unfolding utf8_error_len
  one_of_four low high = grind (arith, nat_tests)

  two_of_four : 65536 ≤ c → c < 1114112 → utf8_error_len ((240 + c / 262144) ∷ (128 + (c / 4096) % 64) ∷ []) ≡ None
  unfolding utf8_error_len
  two_of_four low high = grind (arith, nat_tests)

  three_of_four : 65536 ≤ c → c < 1114112 → utf8_error_len ((240 + c / 262144) ∷ (128 + (c / 4096) % 64) ∷ (128 + (c / 64) % 64) ∷ []) ≡ None
  unfolding utf8_error_len
  three_of_four low high = grind (arith, nat_tests)

-- the fronts of at most four bytes that are neither empty nor whole
fronts : (P : List ℕ → Type 0) (l : List ℕ) (n : ℕ) → 0 < n → n < length l → length l ≤ 4 → P (take 1 l) → (2 < length l → P (take 2 l))
    → (3 < length l → P (take 3 l)) → P (take n l)
fronts P l (suc zero) some less few one two three = one
fronts P l (suc (suc zero)) some less few one two three = two less
fronts P l (suc (suc (suc zero))) some less few one two three = three less
fronts P l n some less few one two three = absurd (omega arith)

-- a term of the type given
abbrev pub by : (A : Type 0) → A → A
by A a = a

abbrev Open : List ℕ → Type 0
Open bs = utf8_error_len bs ≡ None

begins_open : (c n : ℕ) → scalar c ≡ true → 0 < n → n < length (encode_utf8 c) → Open (take n (encode_utf8 c))
unfolding encode_utf8
begins_open c n is some less =
    let range = scalar_cases c is in
    ⊎_elim
    (λ one.
    let e : encode_utf8 c ≡ c ∷ [] = cond-true _ _ _ (by (ltb c 128 ≡ true) (grind (arith, nat_tests))) in
    absurd (omega (arith, some, less, ap length e)))
    (λ more.
    let not_one : ltb c 128 ≡ false = grind (arith, nat_tests) in
    ⊎_elim
    (λ two.
    let e : encode_utf8 c ≡ (192 + c / 64) ∷ (128 + c % 64) ∷ [] = cond-false _ _ _ not_one ∙ cond-true _ _ _ (by (ltb c 2048 ≡ true) (grind (arith, nat_tests))) in
    subst (λ l. Open (take n l)) (sym e)
    (fronts Open _ n some (omega (arith, less, ap length e)) (omega arith)
    (of_two c more two) (λ long. absurd (omega (arith, long))) (λ long. absurd (omega (arith, long)))))
    (λ wide.
    let not_two : ltb c 2048 ≡ false = grind (arith, nat_tests) in
    ⊎_elim
    (λ three.
    let e : encode_utf8 c ≡ (224 + c / 4096) ∷ (128 + (c / 64) % 64) ∷ (128 + c % 64) ∷ [] =
    cond-false _ _ _ not_one ∙ cond-false _ _ _ not_two ∙ cond-true _ _ _ (by (ltb c 65536 ≡ true) (grind (arith, nat_tests))) in
    let apart : (c < 55296) ⊎ (57344 ≤ c) = ⊎_elim (λ low. inl low) (λ high. inr high.0) range in
    subst (λ l. Open (take n l)) (sym e)
    (fronts Open _ n some (omega (arith, less, ap length e)) (omega arith) (one_of_three c wide three) (λ _. two_of_three c wide three apart)
    (λ long. absurd (omega (arith, long)))))
    (λ four.
    let not_three : ltb c 65536 ≡ false = grind (arith, nat_tests) in
    let e : encode_utf8 c ≡ (240 + c / 262144) ∷ (128 + (c / 4096) % 64) ∷ (128 + (c / 64) % 64) ∷ (128 + c % 64) ∷ [] =
    cond-false _ _ _ not_one ∙ cond-false _ _ _ not_two ∙ cond-false _ _ _ not_three in
    let top : c < 1114112 = ⊎_elim (λ low. omega arith) (λ high. high.1) range in
    subst (λ l. Open (take n l)) (sym e)
    (fronts Open _ n some (omega (arith, less, ap length e)) (omega arith) (one_of_four c four top) (λ _. two_of_four c four top)
    (λ _. three_of_four c four top)))
    (cases_lt c 65536))
    (cases_lt c 2048))
    (cases_lt c 128)

no_fault : (bs cs following : List ℕ) → utf8_valid_len bs ≡ 0 → scalars cs ≡ true → encode_utf8_all cs ≡ bs ++ following → Open (take 4 bs)
no_fault [] cs following none all e = nothing
no_fault (b ∷ t) [] following none all e = absurd (omega (arith, ap length e))
no_fault (b ∷ t) (c ∷ cs) following none all e =
    let bs = b ∷ t in
    let first = encode_utf8 c in
    let others = encode_utf8_all cs in
    let k = length first in
    let len : k ≡ len_utf8 c = length-encode c in
    let bounds = len_utf8_bounds c in
    let scalar_is = (and_parts _ _ all).0 in
    ⊎_elim
    (λ (inside : length bs < k).
    let few : length bs ≤ 4 = omega (arith, inside, len, bounds.1) in
    let is : take (length bs) first ≡ bs
    = sym (take-append-le (length bs) first others (omega (arith, inside))) ∙ ap (take (length bs)) e ∙ take_at bs following (length bs) refl in
    subst Open (is ∙ sym (take_all 4 bs few)) (begins_open c (length bs) scalar_is (omega arith) inside))
    (λ (within : k ≤ length bs).
    let is : take k bs ≡ first
    = sym (take-append-le k bs following within) ∙ ap (take k) (sym e) ∙ take_at first others k refl in
    let utf8 : IsUtf8 first = (c ∷ [], (ap (λ x. x && true) scalar_is, append-nil first)) in
    absurd (no_front bs none k (omega (arith, len, bounds.0)) within (subst IsUtf8 (sym is) utf8)))
    (cases_lt (length bs) k)

-- bytes that begin with a fault are none of a text
pub faulty : (bs : List ℕ) → utf8_valid_len bs ≡ 0 → IsSome (utf8_error_len (take 4 bs)) → IsFaultyText bs
faulty bs none fault following u =
    let open_end : Open (take 4 bs) = no_fault bs u.0 following none u.1.0 u.1.1 in
    true≢false (sym (subst IsSome open_end fault))
