-- `serde_json` writes a string by the table, and reads the written JSON as that string.
use Rattle.std.proofs.Common.{◌≡◌, ℕ, zero, suc, ◌<◌, ◌≤◌, ◌/◌, ◌%◌, Bool, true, cond, ◌&&◌, ◌||◌, ◌==◌, nat_lt, List, [], ◌∷◌, ◌++◌, length, get_or, IsUtf8, encode_utf8_all, bytes_eq, inl, inr, refl, sym, ap, ap₂, ◌∙◌, arith, append-nil}
use Rattle.std.specs.Prelude.{flat_map}
use Rattle.std.specs.Char.{digit_char}
use Rattle.std.specs.Str.{chars}
use Rattle.std.proofs.lemmas.Bool.{and_parts, cases_lt, cases_eq}
use Rattle.std.proofs.lemmas.Bool.Decides.{nat_tests}
use Rattle.std.proofs.lemmas.Grind.{flat_map-append}
use Rattle.std.proofs.lemmas.Slice.Eq.{bytes_eq-Decides}
use Rattle.std.proofs.lemmas.Str.{encodes-append, encodes-chars, encode_ascii}
use lib.Utf8.{encode}
use Rattle.serde_json.specs.Data.{string}
use Rattle.serde_json.specs.Written.{compact_text}
use Rattle.serde_json.proofs.OnLiterals.{serde_json_on_literals}
use Rattle.bytes_utils.specs.Json.{json_character, json_string}
use Rattle.bytes_utils.proofs.AsciiCase.{encode-high}

-- The table on bytes, by which `serde_json` writes.

-- the letter of a byte's short escape, or 0 if it has none
abbrev escape_letter : ℕ → ℕ
escape_letter b = cond ((b == 34) || (b == 92)) b (cond (b == 8) 98 (cond (b == 12) 102 (cond (b == 10) 110 (cond (b == 13) 114 (cond (b == 9) 116 0)))))

abbrev json_byte : ℕ → List ℕ
json_byte b =
    cond (nat_lt 0 (escape_letter b)) (92 ∷ escape_letter b ∷ [])
    (cond (nat_lt b 32) (92 ∷ 117 ∷ 48 ∷ 48 ∷ digit_char (b / 16) ∷ digit_char (b % 16) ∷ []) (b ∷ []))

compact_text-string : (t : List ℕ) → compact_text (string t) ≡ 34 ∷ (flat_map json_byte t ++ 34 ∷ [])
unfolding serde_json_on_literals
compact_text-string t = refl

-- The two tables agree.

-- the characters below n are written as their bytes are
abbrev agree_below : ℕ → Bool
agree_below zero = true
agree_below (suc n) = bytes_eq (json_byte n) (encode_utf8_all (json_character n)) && agree_below n

json_byte-below : (n : ℕ) → agree_below n ≡ true → (c : ℕ) → c < n → json_byte c ≡ encode_utf8_all (json_character c)
json_byte-below zero all c below = absurd (omega arith)
json_byte-below (suc n) all c below =
    let tests = and_parts _ _ all in
    elim (cases_eq c n) [
      | inl same ↦ rw same ((bytes_eq-Decides _ _).0 tests.0)
      | inr other ↦ json_byte-below n tests.1 c (omega arith)
    ]

ascii_agrees : agree_below 128 ≡ true
unfolding encode
ascii_agrees = refl

json_byte-high : (b : ℕ) → 128 ≤ b → json_byte b ≡ b ∷ []
json_byte-high b high = grind (arith, nat_tests)

json_character-high : (c : ℕ) → 128 ≤ c → json_character c ≡ c ∷ []
json_character-high c high = grind (arith, nat_tests)

-- bytes that are not ASCII stay
json_bytes-high : (bytes : List ℕ) → ((k : ℕ) → k < length bytes → 128 ≤ get_or bytes k 0) → flat_map json_byte bytes ≡ bytes
json_bytes-high [] high = refl
json_bytes-high (b ∷ bytes) high =
    ap₂ (λ (x y : List ℕ). x ++ y) (json_byte-high b (high 0 (omega arith))) (json_bytes-high bytes (λ k below. high (suc k) (omega arith)))

-- the bytes of a character are written as the character is
json_bytes-encode : (c : ℕ) → flat_map json_byte (encode c) ≡ encode_utf8_all (json_character c)
json_bytes-encode c = elim (cases_lt c 128) [
  | inl small ↦ rw (encode_ascii c small, append-nil) (json_byte-below 128 ascii_agrees c small)
  | inr high ↦ json_bytes-high (encode c) (encode-high c high) ∙ sym (append-nil (encode c)) ∙ sym (ap encode_utf8_all (json_character-high c high))
]

json_bytes-encodes : (cs : List ℕ) → flat_map json_byte (encode_utf8_all cs) ≡ encode_utf8_all (flat_map json_character cs)
json_bytes-encodes [] = refl
json_bytes-encodes (c ∷ cs) =
    rw (flat_map-append json_byte (encode c) (encode_utf8_all cs), json_bytes-encode c, json_bytes-encodes cs) (sym (encodes-append (json_character c) (flat_map json_character cs)))

-- the bytes of a text are written as its characters are by the table
pub compact_text-json_string : (t : List ℕ) → IsUtf8 t → compact_text (string t) ≡ encode_utf8_all (json_string (chars t))
compact_text-json_string t is_text =
    let inside = ap (flat_map json_byte) (sym (encodes-chars t is_text)) ∙ json_bytes-encodes (chars t) in
    let quoted : encode_utf8_all (json_string (chars t)) ≡ 34 ∷ (encode_utf8_all (flat_map json_character (chars t)) ++ 34 ∷ []) =
    rw (encode_ascii 34 (omega arith), encodes-append, encode_ascii 34 (omega arith)) refl in
    compact_text-string t ∙ ap (λ s. 34 ∷ (s ++ 34 ∷ [])) inside ∙ sym quoted
