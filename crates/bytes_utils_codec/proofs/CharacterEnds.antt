-- Bytes that end within a character are at most three.
use Rattle.std.proofs.Common.{◌≡◌, ℕ, ◌<◌, ◌≤◌, true, false, Bool, List, [], length, slice_index, None, Some, nat_lt, Option, IsUtf8, arith, true≢false, ⊎_elim, ap, ◌∙◌, sym, refl, subst}
use Rattle.std.proofs.lemmas.Bool.{cases_lt, le-ltb}
use Rattle.std.proofs.lemmas.List.{nil_from_length}
use Rattle.std.proofs.lemmas.Str.{utf8_valid_len-IsUtf8}
use Rattle.std.specs.Int.{is_in_range}
use Rattle.std.specs.Option.{IsSome}
use Rattle.std.specs.Str.Lossy.{utf8_valid_len, utf8_error_len, error_len_of_some, error_len_after_one, error_len_after_two, second_byte_min, second_byte_max}
use mathlib.Core.Bool.{cond}
use borrow.Author.Tests.{ne_eqb}

no : (b : Bool) (x y : Option ℕ) → b ≡ false → IsSome y → IsSome (cond b x y)
no true x y e p = absurd (true≢false e)
no false x y e p = p

either_way : (b : Bool) (x y : Option ℕ) → IsSome x → IsSome y → IsSome (cond b x y)
either_way true x y p q = p
either_way false x y p q = q

pub some_is : (bs : List ℕ) → 0 < length bs → utf8_error_len bs ≡ error_len_of_some bs
unfolding utf8_error_len
some_is bs some = ap (λ b. cond b None (error_len_of_some bs)) (ne_eqb (length bs) 0 (omega (arith, some)))

-- of four bytes std knows how many are faulty
pub long : (bs : List ℕ) → 4 ≤ length bs → IsSome (utf8_error_len bs)
long bs many =
    let n = length bs in
    let x = slice_index bs 0 in
    let third = is_in_range 0x80 0xBF (slice_index bs 2) in
    let second = is_in_range (second_byte_min x) (second_byte_max x) (slice_index bs 1) in
    let three = no (nat_lt n 4) None (Some 3) (le-ltb n 4 many) refl in
    let two : IsSome (error_len_after_two bs)
    = no (nat_lt n 3) None (cond third (cond (nat_lt n 4) None (Some 3)) (Some 2)) (le-ltb n 3 (omega (arith, many)))
    (either_way third (cond (nat_lt n 4) None (Some 3)) (Some 2) three refl) in
    let after_one : IsSome (error_len_after_one bs)
    = no (nat_lt n 2) None (cond second (error_len_after_two bs) (Some 1)) (le-ltb n 2 (omega (arith, many)))
    (either_way second (error_len_after_two bs) (Some 1) two refl) in
    let some : IsSome (error_len_of_some bs) = either_way (is_in_range 0xC2 0xF4 x) (error_len_after_one bs) (Some 1) after_one refl in
    subst IsSome (sym (some_is bs (omega (arith, many)))) some

pub few : (bs : List ℕ) → utf8_error_len bs ≡ None → length bs ≤ 3
few bs none = ⊎_elim
    (λ (less : length bs < 4). omega (arith, less))
    (λ (many : 4 ≤ length bs). absurd (true≢false (sym (subst IsSome none (long bs many)))))
    (cases_lt (length bs) 4)

pub nothing : utf8_error_len [] ≡ None
unfolding utf8_error_len
nothing = refl

-- a text that begins with no text has no bytes
pub none_of_text : (bs : List ℕ) → IsUtf8 bs → utf8_valid_len bs ≡ 0 → utf8_error_len bs ≡ None
none_of_text bs utf8 none =
    let empty : bs ≡ [] = nil_from_length bs (sym (utf8_valid_len-IsUtf8 bs utf8) ∙ none) in
    ap utf8_error_len empty ∙ nothing
