-- The first end of a line in segments, from those in each segment.
use Rattle.std.proofs.Common.{◌≡◌, ℕ, ◌+◌, ◌-◌, ◌<◌, ◌≤◌, true, List, length, drop, get_or, Some, None, ap, ◌∙◌, sym, subst, arith, length-drop, ⊎_elim, inl, inr, ◌⊎◌}
use Rattle.std.proofs.lemmas.Bool.{cases_lt, eq-eqb, eqb-true, or_cases, or_left, or_right}
use Rattle.std.proofs.lemmas.List.{get_or-drop, get_or_append_left}
use Rattle.std.specs.List.{concat}
use Rattle.memchr.specs.Find.{IsFirstByte, Nowhere, is_byte2}
use Rattle.bytes_utils_codec.specs.UniversalLines.{FindsUniversalEnd, IsUniversalEndAt}
use Rattle.bytes_utils_codec.proofs.FindLemmas.{HasRead}

abbrev IsEnd : ℕ → Type 0
IsEnd c = (c ≡ 10) ⊎ (c ≡ 13)

is_end : (c : ℕ) → is_byte2 13 10 c ≡ true → IsEnd c
is_end c here = elim (or_cases _ _ here) [ inl e ↦ inr (eqb-true c 13 e) | inr e ↦ inl (eqb-true c 10 e) ]

end_is : (c : ℕ) → IsEnd c → is_byte2 13 10 c ≡ true
end_is c (inl e) = or_right _ _ (eq-eqb c 10 e)
end_is c (inr e) = or_left _ _ (eq-eqb c 13 e)

-- ---- in the rest of a segment

module _ (segment : List ℕ) (from : ℕ) (inside : from < length segment) where
  rest_at : (k : ℕ) → get_or (drop from segment) k 0 ≡ get_or segment (from + k) 0
  rest_at k = get_or-drop from segment k 0

  before_end : (end : ℕ) → Nowhere (λ k. is_byte2 13 10 (get_or (drop from segment) k 0) ≡ true) 0 end → Nowhere (IsUniversalEndAt segment) from (from + end)
  before_end end none k low high here =
      let at : from + (k - from) ≡ k = omega (arith, low) in
      none (k - from) (omega arith) (omega (arith, high, low))
      (end_is _ (subst IsEnd (ap (λ n. get_or segment n 0) (sym at) ∙ sym (rest_at (k - from))) here))

  pub found_in_rest : (k at : ℕ) → at ≡ from + k → IsFirstByte (is_byte2 13 10) (drop from segment) (Some k) → FindsUniversalEnd segment from (Some at)
  found_in_rest k at is found =
      rw is (
        record {
          low = omega arith;
          high = omega (arith, found.0.high, length-drop from segment);
          before = before_end k found.0.before;
        },
        subst IsEnd (rest_at k) (is_end _ found.1),
      )

  pub missed_in_rest : IsFirstByte (is_byte2 13 10) (drop from segment) None → FindsUniversalEnd segment from None
  missed_in_rest missed k low high here =
      before_end (length (drop from segment)) missed k low (omega (arith, high, length-drop from segment)) here

-- ---- in a segment after those in which no line ends

module _ {xs : List (List ℕ)} {segment : List ℕ} {i start base : ℕ} (read : HasRead xs segment i base) (none : Nowhere (IsUniversalEndAt (concat xs)) start base) where
  segment_at : (k : ℕ) → k < length segment → get_or (concat xs) (base + k) 0 ≡ get_or segment k 0
  segment_at k inside =
      sym (get_or-drop base (concat xs) k 0) ∙ ap (λ l. get_or l k 0) read.bytes ∙ get_or_append_left segment (concat (drop (i + 1) xs)) 0 k inside

  before_place : (end : ℕ) → end ≤ length segment → Nowhere (IsUniversalEndAt segment) (start - base) end → Nowhere (IsUniversalEndAt (concat xs)) start (base + end)
  before_place end within nowhere j low high here =
      ⊎_elim (λ below. none j low below here)
      (λ on.
      let at : base + (j - base) ≡ j = omega (arith, on) in
      nowhere (j - base) (omega (arith, low, on)) (omega (arith, high, on))
      (subst IsEnd (ap (λ n. get_or (concat xs) n 0) (sym at) ∙ segment_at (j - base) (omega (arith, high, on, within))) here))
      (cases_lt j base)

  pub found_in_segment : (k at : ℕ) → at ≡ base + k → FindsUniversalEnd segment (start - base) (Some k) → FindsUniversalEnd (concat xs) start (Some at)
  found_in_segment k at is found =
      rw is (
        record {
          low = omega (arith, found.0.low);
          high = omega (arith, found.0.high, read.long);
          before = before_place k (omega (arith, found.0.high)) found.0.before;
        },
        subst IsEnd (sym (segment_at k found.0.high)) found.1,
      )

  pub missed_in_segment : FindsUniversalEnd segment (start - base) None → Nowhere (IsUniversalEndAt (concat xs)) start (base + length segment)
  missed_in_segment missed = before_place (length segment) (omega arith) missed
