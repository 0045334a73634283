-- How many bytes a fault has: what comes after a fault doesn't change it.
use Rattle.std.proofs.Common.{◌≡◌, ℕ, ◌<◌, ◌≤◌, List, [], ◌∷◌, ◌++◌, length, take, drop, Option, None, Some, true≢false, arith, ⊎_elim, ap, ◌∙◌, sym, refl, subst, take_all, take-append-drop, length-take}
use Rattle.std.proofs.lemmas.Bool.{cases_lt}
use Rattle.std.proofs.lemmas.Bool.Decides.{nat_tests}
use Rattle.std.specs.Option.{IsSome}
use Rattle.std.specs.Str.Lossy.{utf8_error_len}
use Rattle.bytes_utils_codec.proofs.CharacterEnds.{long}

more_one : (x n : ℕ) (following : List ℕ) → utf8_error_len (x ∷ []) ≡ Some n → utf8_error_len (x ∷ following) ≡ Some n
unfolding utf8_error_len
more_one x n following is = grind (arith, nat_tests)

more_two : (x y n : ℕ) (following : List ℕ) → utf8_error_len (x ∷ y ∷ []) ≡ Some n → utf8_error_len (x ∷ y ∷ following) ≡ Some n
unfolding utf8_error_len
more_two x y n following is = grind (arith, nat_tests)

more_three : (x y z n : ℕ) (following : List ℕ) → utf8_error_len (x ∷ y ∷ z ∷ []) ≡ Some n → utf8_error_len (x ∷ y ∷ z ∷ following) ≡ Some n
unfolding utf8_error_len
more_three x y z n following is = grind (arith, nat_tests)

more_four : (x y z w n : ℕ) (t following : List ℕ) → utf8_error_len (x ∷ y ∷ z ∷ w ∷ t) ≡ Some n → utf8_error_len (x ∷ y ∷ z ∷ w ∷ (t ++ following)) ≡ Some n
unfolding utf8_error_len
more_four x y z w n t following is = grind (arith, nat_tests)

no_empty : (n : ℕ) → ¬ (utf8_error_len [] ≡ Some n)
unfolding utf8_error_len
no_empty n is = cc

-- a fault stays, with as many bytes
pub fault_more : (bs following : List ℕ) (n : ℕ) → utf8_error_len bs ≡ Some n → utf8_error_len (bs ++ following) ≡ Some n
fault_more [] following n is = absurd (no_empty n is)
fault_more (x ∷ []) following n is = more_one x n following is
fault_more (x ∷ y ∷ []) following n is = more_two x y n following is
fault_more (x ∷ y ∷ z ∷ []) following n is = more_three x y z n following is
fault_more (x ∷ y ∷ z ∷ w ∷ t) following n is = more_four x y z w n t following is

bounds : (bs : List ℕ) (n : ℕ) → utf8_error_len bs ≡ Some n → (0 < n) × (n ≤ length bs)
unfolding utf8_error_len
bounds bs n is = grind (arith, nat_tests)

pub fault_some : (bs : List ℕ) (n : ℕ) → utf8_error_len bs ≡ Some n → 0 < n
fault_some bs n is = (bounds bs n is).0

pub fault_within : (bs : List ℕ) (n : ℕ) → utf8_error_len bs ≡ Some n → n ≤ length bs
fault_within bs n is = (bounds bs n is).1

-- four bytes show whether there is a fault
pub fault_of_four : (bs : List ℕ) (n : ℕ) → utf8_error_len bs ≡ Some n → IsSome (utf8_error_len (take 4 bs))
fault_of_four bs n is = ⊎_elim
    (λ (few : length bs < 4). subst (λ l. IsSome (utf8_error_len l)) (sym (take_all 4 bs (omega (arith, few)))) (subst IsSome (sym is) refl))
    (λ (many : 4 ≤ length bs). long (take 4 bs) (omega (arith, many, length-take 4 bs)))
    (cases_lt (length bs) 4)

-- and how many bytes it has
pub error_len_of_four : (bs : List ℕ) → utf8_error_len (take 4 bs) ≡ utf8_error_len bs
error_len_of_four bs = ⊎_elim
    (λ (few : length bs < 4). ap utf8_error_len (take_all 4 bs (omega (arith, few))))
    (λ (many : 4 ≤ length bs). by (utf8_error_len (take 4 bs)) refl (long (take 4 bs) (omega (arith, many, length-take 4 bs))))
    (cases_lt (length bs) 4)
  where
    by : (o : Option ℕ) → utf8_error_len (take 4 bs) ≡ o → IsSome (utf8_error_len (take 4 bs)) → utf8_error_len (take 4 bs) ≡ utf8_error_len bs
    by None is some = absurd (true≢false (sym (subst IsSome is some)))
    by (Some n) is some = is ∙ sym (fault_more (take 4 bs) (drop 4 bs) n is) ∙ ap utf8_error_len (take-append-drop 4 bs)
