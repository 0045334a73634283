-- A text stays a text if ASCII bytes are replaced by ASCII bytes, as changes of ASCII case do.
use Rattle.std.proofs.Common.{◌≡◌, sym, ap, subst, ℕ, suc, ◌<◌, ◌≤◌, true, ◌&&◌, List, [], ◌∷◌, ◌++◌, map, length, take, drop, get_or, arith, refl, encode_utf8 as encode, encode_utf8_all as encodes, IsUtf8, inl, inr, ◌⊎◌, ⊎_elim}
use Rattle.std.specs.Str.{all_scalars as scalars}
use Rattle.std.specs.Char.{to_ascii_uppercase, to_ascii_lowercase}
use Rattle.std.proofs.lemmas.Bool.{cases_lt, and_parts}
use Rattle.std.proofs.lemmas.Bool.Decides.{nat_tests}
use Rattle.std.proofs.lemmas.List.{map-append, append-nil, take_at}
use Rattle.std.proofs.lemmas.Str.{IsUtf8-nil, IsUtf8-append, IsUtf8-from_ascii, encode_ascii, inside_one}
use Rattle.std.proofs.lemmas.Str.Ascii.{IsAscii-cons, uppercase_ascii, lowercase_ascii}

-- all bytes of a character that is not ASCII are high
pub encode-high : (c : ℕ) → 128 ≤ c → (k : ℕ) → k < length (encode c) → 128 ≤ get_or (encode c) k 0
encode-high c le k h = ⊎_elim
    (λ small. let same : c ≡ get_or (encode c) k 0 = inside_one c [] (encode c) k (sym (append-nil (encode c))) h small in absurd (omega arith))
    (λ high. high)
    (cases_lt (get_or (encode c) k 0) 128)

module _ (f : ℕ → ℕ) (low : (b : ℕ) → b < 128 → f b < 128) (high : (b : ℕ) → 128 ≤ b → f b ≡ b) where
  -- bytes that are not ASCII stay
  stays : (bs : List ℕ) → ((k : ℕ) → k < length bs → 128 ≤ get_or bs k 0) → map f bs ≡ bs
  stays [] all = refl
  stays (b ∷ bs) all = (λ i. high b (all 0 (omega arith)) i ∷ stays bs (λ k h. all (suc k) (omega arith)) i)

  -- the bytes of a character that is not ASCII stay too
  wide : (c : ℕ) → 128 ≤ c → map f (encode c) ≡ encode c
  wide c le = stays (encode c) (encode-high c le)

  one : (c : ℕ) → scalars (c ∷ []) ≡ true → (c < 128) ⊎ (128 ≤ c) → IsUtf8 (map f (encode c))
  one c is (inl small) = subst (λ bs. IsUtf8 (map f bs)) (sym (encode_ascii c small)) (IsUtf8-from_ascii (f c ∷ []) (IsAscii-cons (f c) [] (low c small) (λ i. omega arith)))
  one c is (inr large) = subst IsUtf8 (sym (wide c large)) (c ∷ [], (is, append-nil (encode c)))

  every : (cs : List ℕ) → scalars cs ≡ true → IsUtf8 (map f (encodes cs))
  every [] is = IsUtf8-nil
  every (c ∷ cs) is =
      let are = and_parts _ _ is in
      subst IsUtf8 (sym (map-append f (encode c) (encodes cs))) (IsUtf8-append _ _ (one c (ap (λ t. t && true) are.0) (cases_lt c 128)) (every cs are.1))

  IsUtf8-map : (bs : List ℕ) → IsUtf8 bs → IsUtf8 (map f bs)
  IsUtf8-map bs is = subst (λ ds. IsUtf8 (map f ds)) is.1.1 (every is.0 is.1.0)

pub IsUtf8-uppercase : (bs : List ℕ) → IsUtf8 bs → IsUtf8 (map to_ascii_uppercase bs)
IsUtf8-uppercase = IsUtf8-map to_ascii_uppercase uppercase_ascii (λ b h. grind (arith, nat_tests))

pub IsUtf8-lowercase : (bs : List ℕ) → IsUtf8 bs → IsUtf8 (map to_ascii_lowercase bs)
IsUtf8-lowercase = IsUtf8-map to_ascii_lowercase lowercase_ascii (λ b h. grind (arith, nat_tests))

-- bytes written over the same number of bytes
pub written_over : (bs ds : List ℕ) → length ds ≡ length bs → take (length bs) (ds ++ drop (length ds) bs) ≡ ds
written_over bs ds same = take_at ds _ (length bs) same
