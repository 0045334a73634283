-- What each run of `str::splitn` and `str::rsplitn` gives, by a pattern that finds a separator that isn't empty.
use Rattle.std.proofs.Common.{◌≡◌, sym, ap, subst, ℕ, zero, suc, ◌-◌, ◌<◌, List, [], ◌∷◌, Option, Some, Bool, Bor, true, ◌&&◌, nat_lt, arith, IsUtf8, eq-or-lt_of_le, lt-ltb, ltb-true, ◌⊎◌, inl, inr}
use Rattle.std.proofs.lemmas.Bool.{and_parts, and_from}
use Rattle.std.specs.Option.{is_some}
use Rattle.std.specs.Str.{chars}
use Rattle.std.specs.Str.Iter.{split_text, split_has_more, split_pattern, splitn_steps, splitn_parts, splitn_count, rsplit_text, rsplit_has_more, rsplit_pattern, rsplitn_steps, rsplitn_parts, rsplitn_count}
use Rattle.std.specs.declared.str.SplitN.{SplitN}
use Rattle.std.specs.declared.str.RSplitN.{RSplitN}
use Rattle.bytes_utils.specs.Parts.{ArePartsFromFront, ArePartsFromBack}
use Rattle.bytes_utils.proofs.Forward.{AreForwardParts-rest}
use Rattle.bytes_utils.proofs.Backward.{AreBackwardParts-rest}
use Rattle.bytes_utils.proofs.FromEnds.{front-none, back-none, front-from, back-from, has_front, has_back}
use Rattle.bytes_utils_run.specs.Borrowed.{GivesBorrowedParts}
use Rattle.bytes_utils_run.proofs.BorrowedCuts.{First, Last, Seeks}
use Rattle.bytes_utils_run.proofs.BorrowedParts.{ToCome, Leads, Leads-first, Leads-last, from_front, from_back, gives}

-- with a limit of n parts, of which m are left after this one
module _ (Are : List ℕ → Option ℕ → List (List ℕ) → Type 0) (text part : List ℕ) (live : Bool) (rest : List ℕ) (n m : ℕ) (positive : 0 < n) (m_is : m ≡ n - 1)
    (alone : Are (chars text) (Some 1) (chars text ∷ [])) (whole : n ≡ 1 → part ≡ text) (cut : 1 < n → Leads Are text part live rest (Some n) (Some (n - 1))) where
  room : (nat_lt 0 m && live) ≡ true → 1 < n
  room goes_on = let some_left : 0 < m = ltb-true 0 m (and_parts (nat_lt 0 m) live goes_on).0 in omega (arith, some_left, m_is)

  limited : Leads Are text part (nat_lt 0 m && live) rest (Some n) (Some m)
  limited = record {
    left = λ goes_on. (cut (room goes_on)).left (and_parts (nat_lt 0 m) live goes_on).1;
    each = λ others are. either others are (eq-or-lt_of_le (omega (arith, positive)));
  }
    where
      either : (others : List (List ℕ)) → ToCome (nat_lt 0 m && live) (Are (chars rest) (Some m)) others → (1 ≡ n) ⊎ (1 < n) → Are (chars text) (Some n) (chars part ∷ others)
      either others are (inl one) =
          let nothing : m ≡ 0 = omega (arith, one, m_is) in
          let none : others ≡ [] = subst (λ k. ToCome (nat_lt 0 k && live) (Are (chars rest) (Some m)) others) nothing are in
          let all : part ≡ text = whole (sym one) in
          rw (← one, all, none) alone
      either others are (inr more) =
          let some_left : nat_lt 0 m ≡ true = lt-ltb 0 m (omega (arith, more, m_is)) in
          (cut more).each others
          (subst (λ k. ToCome live (Are (chars rest) (Some k)) others) m_is
          (subst (λ b. ToCome (b && live) (Are (chars rest) (Some m)) others) some_left are))

-- at the start, a limit of 0 gives no part, and any other limit gives the parts to come
at_start : (Are : Option ℕ → List (List ℕ) → Type 0) → ((parts : List (List ℕ)) → parts ≡ [] → Are (Some 0) parts)
    → (most : ℕ) (live : Bool) → live ≡ true → (parts : List (List ℕ)) → ToCome (nat_lt 0 most && live) (Are (Some most)) parts → Are (Some most) parts
at_start Are none zero live more parts are = none parts are
at_start Are none (suc most) live more parts are =
    subst (λ b. ToCome b (Are (Some (suc most))) parts) (and_from (nat_lt 0 (suc most)) live (lt-ltb 0 (suc most) (omega arith)) more) are

-- Steps with a limit: `count` is how many parts may still come, and the last of them is all of the text.
module _ {S P : Type 0} (steps : S → Option (Bor (List ℕ)) → S → Type 0) (text : S → List ℕ) (count : S → ℕ) (more : S → Bool) (pattern : S → P) (is : P → Type 0)
    (Are : List ℕ → Option ℕ → List (List ℕ) → Type 0) (has : (t : List ℕ) (n : Option ℕ) → (parts : List (List ℕ)) × Are t n parts)
    (none : (t : List ℕ) (parts : List (List ℕ)) → parts ≡ [] → Are t (Some 0) parts) (alone : (t : List ℕ) → Are t (Some 1) (t ∷ []))
    (lives : (s t : S) (x : Option (Bor (List ℕ))) → steps s x t → is_some x ≡ (nat_lt 0 (count s) && more s))
    (leads : (s t : S) (x : Bor (List ℕ)) → IsUtf8 (text s) → is (pattern s) → steps s (Some x) t → (count t ≡ count s - 1) × (count s ≡ 1 → x.now ≡ text s)
    × (1 < count s → Leads Are (text s) x.now (more t) (text t) (Some (count s)) (Some (count s - 1)) × is (pattern t))) where
  gives_limited : (s : S) (t : List ℕ) (most : ℕ) → text s ≡ t → more s ≡ true → count s ≡ most → IsUtf8 t → is (pattern s) → GivesBorrowedParts steps s (Are (chars t) (Some most))
  gives_limited s t most text_is goes_on count_is utf8 pattern_is =
      gives steps text (λ s. Some (count s)) (λ s. nat_lt 0 (count s) && more s) pattern is Are has lives
      (λ s t x utf8 pattern_is step.
      let led = leads s t x utf8 pattern_is step in
      let positive : 0 < count s = ltb-true 0 (count s) (and_parts (nat_lt 0 (count s)) (more s) (sym (lives s t (Some x) step))).0 in
      let cut = λ (room : 1 < count s). (led.2 room).0 in (
        limited Are (text s) x.now (more t) (text t) (count s) (count t) positive led.0 (alone (chars (text s))) led.1 cut,
        λ live. (led.2 (room Are (text s) x.now (more t) (text t) (count s) (count t) positive led.0 (alone (chars (text s))) led.1 cut live)).1,
      ))
      s t (Some most) text_is (ap (λ n. Some n) count_is) utf8 pattern_is
      (λ parts are. at_start (Are (chars t)) (none (chars t)) most (more s) goes_on parts (subst (λ n. ToCome (nat_lt 0 n && more s) (Are (chars t) (Some most)) parts) count_is are))

module _ {P : Type 0} {finds : P → List ℕ → Option (ℕ × ℕ) → Type 0} {keeps : P → P → Type 0} {p : List ℕ} {is : P → Type 0} where
  pub splitn-gives : Seeks finds keeps First p is → (s : SplitN P) (text : List ℕ) (most : ℕ) → split_text (splitn_parts s) ≡ text → split_has_more (splitn_parts s) ≡ true → splitn_count s ≡ most
      → IsUtf8 text → is (split_pattern (splitn_parts s)) → GivesBorrowedParts (splitn_steps finds keeps) s (ArePartsFromFront (chars text) p (Some most))
  splitn-gives seeks =
      gives_limited (splitn_steps finds keeps) (λ s. split_text (splitn_parts s)) splitn_count (λ s. split_has_more (splitn_parts s)) (λ s. split_pattern (splitn_parts s)) is
      (from_front p) (λ t. has_front t p) (λ t parts. (front-none t p parts).1)
      (λ t. front-from t p (Some 1) (t ∷ []) seeks.some (omega arith) (AreForwardParts-rest p t)) (λ s t x step. step.1)
      (λ s t x utf8 pattern_is step. (
        step.0,
        step.2.0,
        λ room. (
          Leads-first p seeks.some (Some (splitn_count s)) room _ _ _ _ (finds (split_pattern (splitn_parts s))) (λ found. seeks.cuts _ _ found pattern_is utf8) (step.2.1 room).1,
          seeks.kept _ _ pattern_is (step.2.1 room).0,
        ),
      ))

  pub rsplitn-gives : Seeks finds keeps Last p is → (s : RSplitN P) (text : List ℕ) (most : ℕ) → rsplit_text (rsplitn_parts s) ≡ text → rsplit_has_more (rsplitn_parts s) ≡ true → rsplitn_count s ≡ most
      → IsUtf8 text → is (rsplit_pattern (rsplitn_parts s)) → GivesBorrowedParts (rsplitn_steps finds keeps) s (ArePartsFromBack (chars text) p (Some most))
  rsplitn-gives seeks =
      gives_limited (rsplitn_steps finds keeps) (λ s. rsplit_text (rsplitn_parts s)) rsplitn_count (λ s. rsplit_has_more (rsplitn_parts s)) (λ s. rsplit_pattern (rsplitn_parts s)) is
      (from_back p) (λ t. has_back t p) (λ t. back-none t p)
      (λ t. back-from t p (Some 1) (t ∷ []) seeks.some (omega arith) (AreBackwardParts-rest p t)) (λ s t x step. step.1)
      (λ s t x utf8 pattern_is step. (
        step.0,
        step.2.0,
        λ room. (
          Leads-last p seeks.some (Some (rsplitn_count s)) room _ _ _ _ (finds (rsplit_pattern (rsplitn_parts s))) (λ found. seeks.cuts _ _ found pattern_is utf8) (step.2.1 room).1,
          seeks.kept _ _ pattern_is (step.2.1 room).0,
        ),
      ))
