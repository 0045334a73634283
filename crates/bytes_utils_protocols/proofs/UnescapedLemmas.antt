-- A value of a disposition is a text, whatever escapes are in it.
use Rattle.std.proofs.Common.{◌≡◌, sym, ap, subst, ℕ, suc, ◌<◌, ◌≤◌, ◌==◌, ◌||◌, ◌&&◌, Bool, true, false, List, [], ◌∷◌, ◌++◌, length, get_or, arith, refl, encode_utf8 as encode, encode_utf8_all as encodes, IsUtf8, inl, inr, ◌⊎◌, append-nil}
use Rattle.std.specs.Str.{all_scalars as scalars}
use Rattle.std.proofs.lemmas.Bool.{cases_lt, and_parts}
use Rattle.std.proofs.lemmas.Bool.Decides.{nat_tests}
use Rattle.std.proofs.lemmas.Str.{IsUtf8-nil, IsUtf8-append, IsUtf8-from_ascii, encode_ascii, len_utf8_bounds, length-encode}
use Rattle.std.proofs.lemmas.Str.Ascii.{IsAscii-cons, IsAscii-nil}
use Rattle.bytes_utils.proofs.AsciiCase.{encode-high}
use Rattle.bytes_utils_protocols.specs.Disposition.{disposition_backslash, disposition_quote, unescaped_disposition}

ascii_utf8 : (b : ℕ) (rest : List ℕ) → b < 128 → IsUtf8 rest → IsUtf8 (b ∷ rest)
ascii_utf8 b rest small is = IsUtf8-append (b ∷ []) rest (IsUtf8-from_ascii (b ∷ []) (IsAscii-cons b [] small IsAscii-nil)) is

-- bytes that are not ASCII stay
high_stay : (bs rest : List ℕ) → ((k : ℕ) → k < length bs → 128 ≤ get_or bs k 0) → unescaped_disposition false (bs ++ rest) ≡ bs ++ unescaped_disposition false rest
high_stay [] rest all = refl
high_stay (b ∷ bs) rest all =
    let large : 128 ≤ b = all 0 (omega arith) in
    let plain : (b == disposition_backslash) ≡ false = grind (arith, nat_tests) in
    rw plain (ap (λ l. b ∷ l) (high_stay bs rest (λ k h. all (suc k) (omega arith))))

high_escaped : (bs rest : List ℕ) → 0 < length bs → ((k : ℕ) → k < length bs → 128 ≤ get_or bs k 0)
    → unescaped_disposition true (bs ++ rest) ≡ disposition_backslash ∷ (bs ++ unescaped_disposition false rest)
high_escaped [] rest some all = absurd (omega arith)
high_escaped (b ∷ bs) rest some all =
    let large : 128 ≤ b = all 0 (omega arith) in
    let plain : (b == disposition_quote || b == disposition_backslash) ≡ false = grind (arith, nat_tests) in
    rw plain (ap (λ l. disposition_backslash ∷ b ∷ l) (high_stay bs rest (λ k h. all (suc k) (omega arith))))

one_more : (escaped : Bool) (c : ℕ) (rest : List ℕ) → scalars (c ∷ []) ≡ true → (c < 128) ⊎ (128 ≤ c) → ((e : Bool) → IsUtf8 (unescaped_disposition e rest))
    → IsUtf8 (unescaped_disposition escaped (encode c ++ rest))
one_more false c rest is (inl small) all = subst (λ l. IsUtf8 (unescaped_disposition false (l ++ rest))) (sym (encode_ascii c small)) (plain (c == disposition_backslash) refl)
  where
    plain : (b : Bool) → (c == disposition_backslash) ≡ b → IsUtf8 (unescaped_disposition false (c ∷ rest))
    plain true e = rw e (all true)
    plain false e = rw e (ascii_utf8 c (unescaped_disposition false rest) small (all false))
one_more true c rest is (inl small) all = subst (λ l. IsUtf8 (unescaped_disposition true (l ++ rest))) (sym (encode_ascii c small)) (plain (c == disposition_quote || c == disposition_backslash) refl)
  where
    plain : (b : Bool) → (c == disposition_quote || c == disposition_backslash) ≡ b → IsUtf8 (unescaped_disposition true (c ∷ rest))
    plain true e = rw e (ascii_utf8 c (unescaped_disposition false rest) small (all false))
    plain false e = rw e (ascii_utf8 disposition_backslash _ (omega arith) (ascii_utf8 c (unescaped_disposition false rest) small (all false)))
one_more false c rest is (inr large) all =
    subst IsUtf8 (sym (high_stay (encode c) rest (encode-high c large))) (IsUtf8-append (encode c) _ (c ∷ [], (is, append-nil (encode c))) (all false))
one_more true c rest is (inr large) all =
    subst IsUtf8 (sym (high_escaped (encode c) rest (let n = length-encode c in let m = (len_utf8_bounds c).0 in omega (arith, n, m)) (encode-high c large)))
    (ascii_utf8 disposition_backslash _ (omega arith) (IsUtf8-append (encode c) _ (c ∷ [], (is, append-nil (encode c))) (all false)))

every : (cs : List ℕ) → scalars cs ≡ true → (escaped : Bool) → IsUtf8 (unescaped_disposition escaped (encodes cs))
every [] is escaped = IsUtf8-nil
every (c ∷ cs) is escaped =
    let are = and_parts _ _ is in one_more escaped c (encodes cs) (ap (λ t. t && true) are.0) (cases_lt c 128) (every cs are.1)

pub unescaped_utf8 : (escaped : Bool) (bs : List ℕ) → IsUtf8 bs → IsUtf8 (unescaped_disposition escaped bs)
unescaped_utf8 escaped bs is = subst (λ l. IsUtf8 (unescaped_disposition escaped l)) is.1.1 (every is.0 is.1.0 escaped)
