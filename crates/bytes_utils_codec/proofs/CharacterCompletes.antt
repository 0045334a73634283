-- Bytes that end within a character: some bytes after them make it whole.
use Rattle.std.proofs.Common.{◌≡◌, ◌⊎◌, ℕ, ◌+◌, ◌-◌, ◌*◌, ◌/◌, ◌%◌, ◌<◌, ◌≤◌, true, false, Bool, List, [], ◌∷◌, ◌++◌, length, Option, None, Some, IsUtf8, arith, inl, inr, ⊎_elim, ◌∙◌, sym, refl, subst}
use Rattle.std.proofs.lemmas.Bool.{cases_lt, cond-true, cond-false, and_parts, leb-true, le-ltb}
use Rattle.std.proofs.lemmas.Bool.Decides.{nat_tests}
use Rattle.std.proofs.lemmas.Str.{IsUtf8-nil, IsUtf8-encode}
use Rattle.std.specs.Char.{encode_utf8, IsScalar}
use Rattle.std.specs.Int.{is_in_range}
use Rattle.std.specs.Str.Lossy.{utf8_valid_len, utf8_error_len, error_len_after_one, error_len_after_two, second_byte_min, second_byte_max}
use mathlib.Core.Bool.{cond}
use lib.Dec.{ltb}
use Rattle.bytes_utils_codec.proofs.CharacterBegins.{by}
use Rattle.bytes_utils_codec.proofs.CharacterEnds.{some_is, few}
use Rattle.bytes_utils_codec.proofs.ValidLen.{no_front}

-- the byte d may follow the first byte b (Unicode, table 3-7)
record IsSecond (b d : ℕ) : Type 0 where
  least : 0x80 ≤ d
  most : d ≤ 0xBF
  after_e0 : b ≡ 0xE0 → 0xA0 ≤ d
  after_ed : b ≡ 0xED → d ≤ 0x9F
  after_f0 : b ≡ 0xF0 → 0x90 ≤ d
  after_f4 : b ≡ 0xF4 → d ≤ 0x8F

two_utf8 : (b d : ℕ) → 0xC2 ≤ b → b < 0xE0 → IsSecond b d → IsUtf8 (b ∷ d ∷ [])
unfolding encode_utf8
two_utf8 b d low high s =
    let least : 0x80 ≤ d = s.least in
    let most : d ≤ 0xBF = s.most in
    let c = (b - 0xC0) * 64 + (d - 0x80) in
    let is : IsScalar c = grind (arith, nat_tests) in
    let e : encode_utf8 c ≡ (192 + c / 64) ∷ (128 + c % 64) ∷ []
    = cond-false _ _ _ (by (ltb c 128 ≡ false) (grind (arith, nat_tests))) ∙ cond-true _ _ _ (by (ltb c 2048 ≡ true) (grind (arith, nat_tests))) in
    let first : 192 + c / 64 ≡ b = omega arith in
    let second : 128 + c % 64 ≡ d = omega arith in
    subst IsUtf8 (e ∙ (λ i. first i ∷ second i ∷ [])) (IsUtf8-encode c is)

three_utf8 : (b d e : ℕ) → 0xE0 ≤ b → b < 0xF0 → IsSecond b d → 0x80 ≤ e → e ≤ 0xBF → IsUtf8 (b ∷ d ∷ e ∷ [])
unfolding encode_utf8
three_utf8 b d e low high s least_third most_third =
    let least : 0x80 ≤ d = s.least in
    let most : d ≤ 0xBF = s.most in
    let after_e0 : b ≡ 0xE0 → 0xA0 ≤ d = s.after_e0 in
    let after_ed : b ≡ 0xED → d ≤ 0x9F = s.after_ed in
    let front = (b - 0xE0) * 64 + (d - 0x80) in
    let c = front * 64 + (e - 0x80) in
    let least_front : 32 ≤ front = grind (arith, nat_tests) in
    let apart : (front < 864) ⊎ (896 ≤ front) = ⊎_elim (λ (below : b < 0xEE). inl (by (front < 864) (grind (arith, nat_tests)))) (λ (above : 0xEE ≤ b). inr (omega arith)) (cases_lt b 0xEE) in
    let most_front : front < 1024 = omega arith in
    let is : IsScalar c = ⊎_elim (λ (x : front < 864). by (IsScalar c) (grind (arith, nat_tests))) (λ (x : 896 ≤ front). by (IsScalar c) (grind (arith, nat_tests))) apart in
    let e_is : encode_utf8 c ≡ (224 + c / 4096) ∷ (128 + (c / 64) % 64) ∷ (128 + c % 64) ∷ []
    = cond-false _ _ _ (by (ltb c 128 ≡ false) (grind (arith, nat_tests))) ∙ cond-false _ _ _ (by (ltb c 2048 ≡ false) (grind (arith, nat_tests)))
    ∙ cond-true _ _ _ (by (ltb c 65536 ≡ true) (grind (arith, nat_tests))) in
    let over : c / 64 ≡ front = omega arith in
    let first : 224 + c / 4096 ≡ b = omega arith in
    let second : 128 + (c / 64) % 64 ≡ d = omega arith in
    let third : 128 + c % 64 ≡ e = omega arith in
    subst IsUtf8 (e_is ∙ (λ i. first i ∷ second i ∷ third i ∷ [])) (IsUtf8-encode c is)

four_utf8 : (b d e f : ℕ) → 0xF0 ≤ b → b ≤ 0xF4 → IsSecond b d → 0x80 ≤ e → e ≤ 0xBF → 0x80 ≤ f → f ≤ 0xBF → IsUtf8 (b ∷ d ∷ e ∷ f ∷ [])
unfolding encode_utf8
four_utf8 b d e f low high s least_third most_third least_fourth most_fourth =
    let least : 0x80 ≤ d = s.least in
    let most : d ≤ 0xBF = s.most in
    let after_f0 : b ≡ 0xF0 → 0x90 ≤ d = s.after_f0 in
    let after_f4 : b ≡ 0xF4 → d ≤ 0x8F = s.after_f4 in
    let front = (b - 0xF0) * 64 + (d - 0x80) in
    let least_front : 16 ≤ front = grind (arith, nat_tests) in
    let most_front : front < 272 = grind (arith, nat_tests) in
    let middle = front * 64 + (e - 0x80) in
    let c = middle * 64 + (f - 0x80) in
    let low_c : 65536 ≤ c = omega arith in
    let high_c : c < 1114112 = omega arith in
    let is : IsScalar c = grind (arith, nat_tests) in
    let e_is : encode_utf8 c ≡ (240 + c / 262144) ∷ (128 + (c / 4096) % 64) ∷ (128 + (c / 64) % 64) ∷ (128 + c % 64) ∷ []
    = cond-false _ _ _ (by (ltb c 128 ≡ false) (grind (arith, nat_tests))) ∙ cond-false _ _ _ (by (ltb c 2048 ≡ false) (grind (arith, nat_tests)))
    ∙ cond-false _ _ _ (by (ltb c 65536 ≡ false) (grind (arith, nat_tests))) in
    let over : c / 64 ≡ middle = omega arith in
    let over_two : c / 4096 ≡ front = omega arith in
    let first : 240 + c / 262144 ≡ b = omega arith in
    let second : 128 + (c / 4096) % 64 ≡ d = omega arith in
    let third : 128 + (c / 64) % 64 ≡ e = omega arith in
    let fourth : 128 + c % 64 ≡ f = omega arith in
    subst IsUtf8 (e_is ∙ (λ i. first i ∷ second i ∷ third i ∷ fourth i ∷ [])) (IsUtf8-encode c is)

-- what an open end says of the bytes that are there
yes_or : (x : Bool) (y : Option ℕ) (n : ℕ) → cond x y (Some n) ≡ None → (x ≡ true) × (y ≡ None)
yes_or true y n e = (refl, e)
yes_or false y n e = cc

in_range : (lo hi c : ℕ) → is_in_range lo hi c ≡ true → (lo ≤ c) × (c ≤ hi)
in_range lo hi c is = let both = and_parts _ _ is in (leb-true lo c both.0, leb-true c hi both.1)

lead : (b : ℕ) (t : List ℕ) → utf8_error_len (b ∷ t) ≡ None → (is_in_range 0xC2 0xF4 b ≡ true) × (error_len_after_one (b ∷ t) ≡ None)
lead b t ends = yes_or _ _ 1 (sym (some_is (b ∷ t) (omega arith)) ∙ ends)

second_of : (b d : ℕ) (t : List ℕ) → error_len_after_one (b ∷ d ∷ t) ≡ None
    → (is_in_range (second_byte_min b) (second_byte_max b) d ≡ true) × (error_len_after_two (b ∷ d ∷ t) ≡ None)
second_of b d t ends = yes_or _ _ 1 (sym (cond-false _ _ _ (le-ltb (length (b ∷ d ∷ t)) 2 (omega arith))) ∙ ends)

third_of : (b d e : ℕ) (t : List ℕ) → error_len_after_two (b ∷ d ∷ e ∷ t) ≡ None → is_in_range 0x80 0xBF e ≡ true
third_of b d e t ends = (yes_or _ _ 2 (sym (cond-false _ _ _ (le-ltb (length (b ∷ d ∷ e ∷ t)) 3 (omega arith))) ∙ ends)).0

is_second : (b d : ℕ) → second_byte_min b ≤ d → d ≤ second_byte_max b → IsSecond b d
is_second b d low high = record {
  least = grind (arith, nat_tests);
  most = grind (arith, nat_tests);
  after_e0 = λ e. grind (arith, nat_tests);
  after_ed = λ e. grind (arith, nat_tests);
  after_f0 = λ e. grind (arith, nat_tests);
  after_f4 = λ e. grind (arith, nat_tests);
}

first_second : (b : ℕ) → IsSecond b (second_byte_min b)
first_second b = is_second b (second_byte_min b) (omega arith) (grind (arith, nat_tests))

pub may_end : (bs : List ℕ) → utf8_valid_len bs ≡ 0 → utf8_error_len bs ≡ None → (following : List ℕ) × IsUtf8 (bs ++ following)
may_end [] none ends = ([], IsUtf8-nil)
may_end (b ∷ []) none ends =
    let low : 0xC2 ≤ b = (in_range _ _ _ (lead b [] ends).0).0 in
    let high : b ≤ 0xF4 = (in_range _ _ _ (lead b [] ends).0).1 in
    let s = first_second b in
    let d = second_byte_min b in
    ⊎_elim
    (λ (two : b < 0xE0). (d ∷ [], two_utf8 b d low two s))
    (λ (more : 0xE0 ≤ b). ⊎_elim
    (λ (three : b < 0xF0). (d ∷ 0x80 ∷ [], three_utf8 b d 0x80 more three s (omega arith) (omega arith)))
    (λ (four : 0xF0 ≤ b). (d ∷ 0x80 ∷ 0x80 ∷ [], four_utf8 b d 0x80 0x80 four high s (omega arith) (omega arith) (omega arith) (omega arith)))
    (cases_lt b 0xF0))
    (cases_lt b 0xE0)
may_end (b ∷ d ∷ []) none ends =
    let first = lead b (d ∷ []) ends in
    let low : 0xC2 ≤ b = (in_range _ _ _ first.0).0 in
    let high : b ≤ 0xF4 = (in_range _ _ _ first.0).1 in
    let range = in_range _ _ _ (second_of b d [] first.1).0 in
    let s = is_second b d range.0 range.1 in
    ⊎_elim
    (λ (two : b < 0xE0). absurd (no_front (b ∷ d ∷ []) none 2 (omega arith) (omega arith) (two_utf8 b d low two s)))
    (λ (more : 0xE0 ≤ b). ⊎_elim
    (λ (three : b < 0xF0). (0x80 ∷ [], three_utf8 b d 0x80 more three s (omega arith) (omega arith)))
    (λ (four : 0xF0 ≤ b). (0x80 ∷ 0x80 ∷ [], four_utf8 b d 0x80 0x80 four high s (omega arith) (omega arith) (omega arith) (omega arith)))
    (cases_lt b 0xF0))
    (cases_lt b 0xE0)
may_end (b ∷ d ∷ e ∷ []) none ends =
    let first = lead b (d ∷ e ∷ []) ends in
    let low : 0xC2 ≤ b = (in_range _ _ _ first.0).0 in
    let high : b ≤ 0xF4 = (in_range _ _ _ first.0).1 in
    let next = second_of b d (e ∷ []) first.1 in
    let range = in_range _ _ _ next.0 in
    let s = is_second b d range.0 range.1 in
    let last = in_range _ _ _ (third_of b d e [] next.1) in
    ⊎_elim
    (λ (two : b < 0xE0). absurd (no_front (b ∷ d ∷ e ∷ []) none 2 (omega arith) (omega arith) (two_utf8 b d low two s)))
    (λ (more : 0xE0 ≤ b). ⊎_elim
    (λ (three : b < 0xF0). absurd (no_front (b ∷ d ∷ e ∷ []) none 3 (omega arith) (omega arith) (three_utf8 b d e more three s last.0 last.1)))
    (λ (four : 0xF0 ≤ b). (0x80 ∷ [], four_utf8 b d e 0x80 four high s last.0 last.1 (omega arith) (omega arith)))
    (cases_lt b 0xF0))
    (cases_lt b 0xE0)
may_end (b ∷ d ∷ e ∷ f ∷ t) none ends = absurd (omega (arith, few (b ∷ d ∷ e ∷ f ∷ t) ends))
