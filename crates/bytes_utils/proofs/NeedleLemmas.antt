-- A search in a part of the bytes, and what follows for all of them.
use Rattle.std.proofs.Common.{◌≡◌, ◌≢◌, ℕ, ◌+◌, ◌-◌, ◌<◌, ◌≤◌, List, [], ◌++◌, zero, suc, inl, inr, length, take, drop, get_or, slice_index, Bool, Option, None, Some, ap, ◌∙◌, sym, subst, arith, length-append, length-drop, append-nil, get_or-drop, ⊎_elim}
use Rattle.std.proofs.lemmas.List.{take_all, get_or_append_left}
use Rattle.std.proofs.lemmas.Bool.{cases_lt, cases_Bool, eq-eqb, false≢true}
use Rattle.memchr.specs.Find.{Nowhere, NoneBefore, IsFirstByte, OccursAt, Passes, FindsNeedle, TakesFirst, is_byte, places}
use Rattle.memchr.proofs.lemmas.FindLemmas.{OccursAt-byte, byte-OccursAt, Nowhere-then, Nowhere-more}
use Rattle.memchr.proofs.lemmas.PlaceLemmas.{places_from-none, places_between-first}

-- all bytes from a place on, as a range
pub range_rest : (bytes : List ℕ) (from : ℕ) → take (length bytes - from) (drop from bytes) ≡ drop from bytes
range_rest bytes from = take_all (length bytes - from) (drop from bytes) (omega (arith, length-drop from bytes))

-- a part of all bytes that begins at place `base`, with more bytes after it
module _ (all p part more : List ℕ) (base : ℕ) (within : base ≤ length all) (bytes : drop base all ≡ part ++ more) where
  size : base + (length part + length more) ≡ length all
  size = omega (arith, ap length bytes, length-append part more, length-drop base all, within)

  pub reads_part : (k : ℕ) → k < length part → get_or all (base + k) 0 ≡ get_or part k 0
  reads_part k inside = sym (get_or-drop base all k 0) ∙ ap (λ l. get_or l k 0) bytes ∙ get_or_append_left part more 0 k inside

  pub occurs_in_all : (k : ℕ) → OccursAt part p k → OccursAt all p (base + k)
  occurs_in_all k here =
      record {
        fits = omega (arith, size, here.fits);
        reads = λ j l.
            let at : base + k + j ≡ base + (k + j) = omega arith in
            ap (λ n. get_or all n 0) at ∙ reads_part (k + j) (omega arith) ∙ here.reads j l;
      }

  pub occurs_in_part : (j : ℕ) → base ≤ j → j + length p ≤ base + length part → OccursAt all p j → OccursAt part p (j - base)
  occurs_in_part j low fits here =
      record {
        fits = omega arith;
        reads = λ i l.
            let at : base + ((j - base) + i) ≡ j + i = omega arith in
            sym (reads_part ((j - base) + i) (omega arith)) ∙ ap (λ n. get_or all n 0) at ∙ here.reads i l;
      }

  -- the first occurrence in the part is the first of all, if none begins before the part
  pub found_in_part : (k at : ℕ) → at ≡ base + k → Nowhere (OccursAt all p) 0 base → FindsNeedle part p 0 (Some k) → FindsNeedle all p 0 (Some at)
  found_in_part k at same none found = (
    record {
      low = omega arith;
      high = omega (arith, size, found.1.fits, same);
      before = Nowhere-then none (λ j from high here. found.0.before (j - base) (omega arith) (omega arith) (occurs_in_part j from (omega (arith, found.1.fits)) here));
    },
    subst (OccursAt all p) (sym same) (occurs_in_all k found.1),
  )

  -- if the needle is not in the part, none begins there that also ends there
  pub missed_in_part : FindsNeedle part p 0 None → (j : ℕ) → base ≤ j → j + length p ≤ base + length part → ¬ OccursAt all p j
  missed_in_part missed j low fits here = missed (j - base) (omega arith) (omega arith) (occurs_in_part j low fits here)

-- the first byte of the needle does not occur before a place, so the needle does not begin there
pub none_before_first : (p piece : List ℕ) (from : ℕ) → 0 < length p → ((k : ℕ) → k < from → slice_index piece k ≢ slice_index p 0) → Nowhere (OccursAt piece p) 0 from
none_before_first p piece from some none j low high here =
    let same : j ≡ j + 0 = omega arith in
    none j high (ap (λ n. get_or piece n 0) same ∙ here.reads 0 some)

-- A piece before a place of which the needle does not begin.
module _ (p piece : List ℕ) (from : ℕ) (within : from ≤ length piece) (none : Nowhere (OccursAt piece p) 0 from) where
  rest_of : drop from piece ≡ drop from piece ++ []
  rest_of = sym (append-nil (drop from piece))

  pub found_from : (k at : ℕ) → at ≡ from + k → FindsNeedle (drop from piece) p 0 (Some k) → FindsNeedle piece p 0 (Some at)
  found_from k at same found = found_in_part piece p (drop from piece) [] from within rest_of k at same none found

  in_rest : (j : ℕ) → from ≤ j → OccursAt piece p j → OccursAt (drop from piece) p (j - from)
  in_rest j low here = occurs_in_part piece p (drop from piece) [] from within rest_of j low (omega (arith, here.fits, within, length-drop from piece)) here

  pub missed_from : FindsNeedle (drop from piece) p 0 None → FindsNeedle piece p 0 None
  missed_from missed = Nowhere-then none (λ j low high here. missed (j - from) (omega arith) (omega (arith, (in_rest j low here).fits)) (in_rest j low here))

  -- nor does it begin at that place, or where its first byte isn't
  pub none_before_next : (next : ℕ) → 0 < length p → (¬ OccursAt (drop from piece) p 0) → ((k : ℕ) → from + 1 ≤ k → k < next → slice_index piece k ≢ slice_index p 0)
      → Nowhere (OccursAt piece p) 0 next
  none_before_next next some not_here none_after j low high here = ⊎_elim
      (λ below. none j low below here)
      (λ from_here. ⊎_elim
      (λ after. let same : j ≡ j + 0 = omega arith in none_after j (omega (arith, after)) high (ap (λ n. get_or piece n 0) same ∙ here.reads 0 some))
      (λ at_most. let at : j - from ≡ 0 = omega (arith, at_most) in not_here (subst (OccursAt (drop from piece) p) at (in_rest j from_here here)))
      (cases_lt from j))
      (cases_lt j from)

-- the first place of the first byte of the needle, or that there is none
pub none_before_byte : (p piece : List ℕ) (from : ℕ) → NoneBefore (Passes (is_byte (get_or p 0 0)) piece) 0 (length piece) from
    → (k : ℕ) → k < from → slice_index piece k ≢ slice_index p 0
none_before_byte p piece from h k below same = h.before k (omega arith) below (eq-eqb _ _ same)

pub missed_by_byte : (p piece : List ℕ) → 0 < length p → Nowhere (Passes (is_byte (get_or p 0 0)) piece) 0 (length piece) → FindsNeedle piece p 0 None
missed_by_byte p piece some missed j low high here =
    let same : j ≡ j + 0 = omega arith in
    missed j low (omega (arith, here.fits, some)) (eq-eqb _ _ (ap (λ n. get_or piece n 0) same ∙ here.reads 0 some))

pub found_by_byte : (p piece : List ℕ) (k : ℕ) → length p ≡ 1 → NoneBefore (Passes (is_byte (get_or p 0 0)) piece) 0 (length piece) k × Passes (is_byte (get_or p 0 0)) piece k
    → FindsNeedle piece p 0 (Some k)
found_by_byte p piece k one h = (
  record { low = omega arith; high = omega (arith, h.0.high); before = λ j low below here. h.0.before j low below (byte-OccursAt piece p one j here) },
  OccursAt-byte piece p one k h.0.high h.1,
)

-- a needle at the start is the first
pub found_at_start : (p bytes : List ℕ) → OccursAt bytes p 0 → FindsNeedle bytes p 0 (Some 0)
found_at_start p bytes here = (record { low = omega arith; high = omega arith; before = λ j low high there. absurd (omega arith) }, here)

-- the first of all places of a byte
module _ (test : ℕ → Bool) (bytes : List ℕ) where
  first_byte : (n i : ℕ) → i + n ≡ length bytes → Nowhere (Passes test bytes) 0 i → (r : Option ℕ) × IsFirstByte test bytes r
  first_byte zero i end none = (None, λ k low high. none k low (omega arith))
  first_byte (suc n) i end none = elim (cases_Bool (test (slice_index bytes i))) [
    | inl here ↦ (Some i, (record { low = omega arith; high = omega arith; before = none }, here))
    | inr past ↦ first_byte n (i + 1) (omega arith) (Nowhere-more none (λ here. false≢true (sym past ∙ here)))
  ]

  same_first : (found r : Option ℕ) (t : List ℕ) → IsFirstByte test bytes found → TakesFirst (places test bytes) r t → IsFirstByte test bytes r
  same_first None None t none taken = none
  same_first None (Some k) t none taken = let no = places_from-none test bytes 0 (length bytes - 0) (λ m low high. none m low (omega arith)) in absurd cc
  same_first (Some k) None t first taken = let some = places_between-first test bytes 0 (length bytes) k first.0 first.1 in let no = taken.0 in absurd cc
  same_first (Some k) (Some m) t first taken =
      let some = places_between-first test bytes 0 (length bytes) k first.0 first.1 in
      let same : k ≡ m = cc in
      subst (λ n. NoneBefore (Passes test bytes) 0 (length bytes) n × Passes test bytes n) same first

  pub first_byte_from_places : (s t : List ℕ) (r : Option ℕ) → s ≡ places test bytes → TakesFirst s r t → IsFirstByte test bytes r
  first_byte_from_places s t r same taken =
      let found = first_byte (length bytes) 0 (omega arith) (λ k low high. absurd (omega arith)) in
      same_first found.0 r t found.1 (rw same at taken)
