-- The first place of a needle in segments, from the needles that begin in each segment.
use Rattle.std.proofs.Common.{◌≡◌, ℕ, zero, suc, ◌+◌, ◌-◌, ◌<◌, ◌≤◌, max, min, List, [], ◌∷◌, ◌++◌, length, take, drop, get_or, slice_get, Option, Some, None, ap, ◌∙◌, sym, refl, arith, length-append, length-drop, length-take, append_assoc, append-nil, take-append-drop, drop_at, ⊎_elim}
use Rattle.std.proofs.lemmas.Bool.{cases_lt}
use Rattle.std.proofs.lemmas.List.{drop-append-le, drop_more, get_or-take}
use Rattle.std.proofs.lemmas.Option.{get_or_from_slice_get, slice_get_within}
use Rattle.std.proofs.Math.Seq.{take-append-add}
use Rattle.std.specs.List.{concat, slice_range}
use Rattle.memchr.specs.Find.{FindsNeedle, IsFirst, Nowhere, OccursAt}
use Rattle.memchr.proofs.lemmas.FindLemmas.{Nowhere-then, Nowhere-more}
use Rattle.memchr.proofs.lemmas.MatchLemmas.{OccursAt-from_part, OccursAt-part}
use Rattle.bytes_utils_buf.proofs.Lists.{concat_split, length-concat-take_more}
use Rattle.bytes_utils.proofs.NeedleLemmas.{missed_in_part, occurs_in_all, occurs_in_part}

-- ---- a window that is filled from segments

-- the window so far has these first bytes, and the next ones are in the segments from index i on
pub record Fills (size : ℕ) (all : List ℕ) (xs : List (List ℕ)) (filled : List ℕ) (i : ℕ) : Type 0 where
  pub within : length filled ≤ size
  pub bytes : take size (filled ++ concat (drop i xs)) ≡ take size all

take-append_taken : (n : ℕ) (x ys : List ℕ) → take n (take n x ++ ys) ≡ take n (x ++ ys)
take-append_taken zero x ys = refl
take-append_taken (suc n) [] ys = refl
take-append_taken (suc n) (b ∷ x) ys = ap (λ l. b ∷ l) (take-append_taken n x ys)

pub Fills-first : (size : ℕ) (xs : List (List ℕ)) (piece filled : List ℕ) (i : ℕ) → filled ≡ take size piece → Fills size (piece ++ concat (drop i xs)) xs filled i
Fills-first size xs piece filled i is =
    record {
      within = omega (arith, ap length is, length-take size piece);
      bytes = ap (λ l. take size (l ++ concat (drop i xs))) is ∙ take-append_taken size piece (concat (drop i xs));
    }

pub Fills-more : (size : ℕ) (all : List ℕ) (xs : List (List ℕ)) (filled segment next : List ℕ) (i : ℕ) → Fills size all xs filled i → i < length xs
    → segment ≡ get_or xs i [] → next ≡ filled ++ take (size - length filled) segment → Fills size all xs next (i + 1)
Fills-more size all xs filled segment next i h inside is same =
    let n = size - length filled in
    let rest = concat (drop (i + 1) xs) in
    let total : size ≡ length filled + n = omega (arith, h.within) in
    let lists : segment ++ rest ≡ concat (drop i xs) = ap (λ l. l ++ rest) is ∙ sym (ap concat (drop_more xs i [] inside)) in
    record {
      within = omega (arith, h.within, ap length same, length-append filled (take n segment), length-take n segment);
      bytes = ap (λ l. take size (l ++ rest)) same ∙ ap (take size) (append_assoc filled (take n segment) rest)
          ∙ ap (λ m. take m (filled ++ (take n segment ++ rest))) total ∙ take-append-add filled (take n segment ++ rest) n
          ∙ ap (λ l. filled ++ l) (take-append_taken n segment rest) ∙ sym (take-append-add filled (segment ++ rest) n)
          ∙ ap (λ m. take m (filled ++ (segment ++ rest))) (sym total) ∙ ap (λ l. take size (filled ++ l)) lists ∙ h.bytes;
    }

-- The window over the border after a segment: it has, from place `tail` on, the bytes of a needle that begins there.
pub record IsBorder (p segment following : List ℕ) (from tail : ℕ) (window : List ℕ) : Type 0 where
  pub size : ℕ
  pub low : from ≤ tail
  pub high : tail ≤ length segment
  pub reach : from < tail → tail + length p ≤ length segment + 1
  pub sized : tail + size + 1 ≡ length segment + length p
  pub is : window ≡ take size (drop tail (segment ++ following))

pub border_at : (p needle segment following : List ℕ) (from tail : ℕ) {room : ℕ} {piece window : List ℕ} → 0 < length p → from ≤ length segment → needle ≡ p
    → tail ≡ max from (length segment - (length needle - 1)) → piece ≡ drop tail segment → room ≡ length segment - tail + (length needle - 1) → window ≡ take room (piece ++ following)
    → IsBorder p segment following from tail window
border_at p needle segment following from tail {room} {piece} {window} some inside same at piece_is room_is is =
    let long = ap length same in
    let high : tail ≤ length segment = omega (arith, at, inside) in
    record {
      size = room;
      low = omega (arith, at);
      high = high;
      reach = λ less. omega (arith, less, at, long, some);
      sized = omega (arith, room_is, long, some, high);
      is = is ∙ ap (λ l. take room (l ++ following)) piece_is ∙ ap (take room) (sym (drop-append-le tail segment following high));
    }

-- ---- a needle that begins in a segment, from place `from` of it on

module _ (p segment following : List ℕ) (from : ℕ) (some : 0 < length p) (inside : from ≤ length segment) where
  within_all : from ≤ length (segment ++ following)
  within_all = omega (arith, inside, length-append segment following)

  part : drop from (segment ++ following) ≡ drop from segment ++ following
  part = drop-append-le from segment following inside

  pub begun_inside : (k at : ℕ) → at ≡ from + k → FindsNeedle (drop from segment) p 0 (Some k) → IsFirst (OccursAt (segment ++ following) p) from (length segment) (Some at)
  begun_inside k at is found = (
    record {
      low = omega (arith, is);
      high = omega (arith, is, found.1.fits, some, length-drop from segment);
      before = λ j low high here.
          found.0.before (j - from) (omega arith) (omega (arith, high, is))
          (occurs_in_part (segment ++ following) p (drop from segment) following from within_all part j low (omega (arith, high, is, found.1.fits)) here);
    },
    rw is (occurs_in_all (segment ++ following) p (drop from segment) following from within_all part k found.1),
  )

  -- A needle that ends in the segment does not begin before a place up to which it was looked for in the rest of the segment.
  pub missed_near : (left end : ℕ) → Nowhere (OccursAt (drop from segment) p) 0 left → end ≡ from + min left (length (drop from segment) - (length p - 1))
      → Nowhere (OccursAt (segment ++ following) p) from end
  missed_near left end none is j low high here =
      none (j - from) (omega arith) (omega (arith, high, is, low))
      (occurs_in_part (segment ++ following) p (drop from segment) following from within_all part j low (omega (arith, high, is, some)) here)

  missed_inside : FindsNeedle (drop from segment) p 0 None → (j : ℕ) → from ≤ j → j + length p ≤ length segment → ¬ OccursAt (segment ++ following) p j
  missed_inside missed j low fits here =
      missed_in_part (segment ++ following) p (drop from segment) following from within_all part missed j low (omega (arith, fits, inside, length-drop from segment)) here

  -- no needle begins in the segment and ends after it
  pub missed_alone : ((j : ℕ) → j < length segment → j + length p ≤ length (segment ++ following) → j + length p ≤ length segment)
      → FindsNeedle (drop from segment) p 0 None → Nowhere (OccursAt (segment ++ following) p) from (length segment)
  missed_alone fits missed j low high here = missed_inside missed j low (fits j high here.fits) here

  module _ {tail : ℕ} {window : List ℕ} (border : IsBorder p segment following from tail window) where
    tail_within : tail ≤ length (segment ++ following)
    tail_within = omega (arith, border.high, length-append segment following)

    split : drop tail (segment ++ following) ≡ window ++ drop border.size (drop tail (segment ++ following))
    split = sym (take-append-drop border.size (drop tail (segment ++ following))) ∙ ap (λ l. l ++ drop border.size (drop tail (segment ++ following))) (sym border.is)

    wide : length window ≤ border.size
    wide = omega (arith, ap length border.is, length-take border.size (drop tail (segment ++ following)))

    before_tail : FindsNeedle (drop from segment) p 0 None → (j : ℕ) → from ≤ j → j < tail → ¬ OccursAt (segment ++ following) p j
    before_tail missed j from_on below here = missed_inside missed j from_on (omega (arith, below, border.reach (omega (arith, from_on, below)))) here

    pub begun_across : (k at : ℕ) → at ≡ tail + k → FindsNeedle (drop from segment) p 0 None → FindsNeedle window p 0 (Some k)
        → IsFirst (OccursAt (segment ++ following) p) from (length segment) (Some at)
    begun_across k at same missed found = (
      record {
        low = omega (arith, same, border.low);
        high = omega (arith, same, found.1.fits, wide, border.sized);
        before = Nowhere-then (before_tail missed) (λ j on below here.
            found.0.before (j - tail) (omega arith) (omega (arith, below, same, on))
            (occurs_in_part (segment ++ following) p window (drop border.size (drop tail (segment ++ following))) tail tail_within split j on (omega (arith, below, same, found.1.fits)) here));
      },
      rw same (occurs_in_all (segment ++ following) p window (drop border.size (drop tail (segment ++ following))) tail tail_within split k found.1),
    )

    pub missed_begun : FindsNeedle (drop from segment) p 0 None → FindsNeedle window p 0 None → Nowhere (OccursAt (segment ++ following) p) from (length segment)
    missed_begun missed none = Nowhere-then (before_tail missed) (λ j on below here.
        missed_in_part (segment ++ following) p window (drop border.size (drop tail (segment ++ following))) tail tail_within split none j on
        (omega (arith, here.fits, below, border.sized, tail_within, ap length border.is, length-take border.size (drop tail (segment ++ following)), length-drop tail (segment ++ following))) here)

-- ---- a segment after those in which the needle does not begin

-- what a loop knows after it read the segment at index i, which begins at place `base` of all bytes
pub record HasRead (xs : List (List ℕ)) (segment : List ℕ) (i base : ℕ) : Type 0 where
  pub bytes : drop base (concat xs) ≡ segment ++ concat (drop (i + 1) xs)
  pub long : base + length segment ≤ length (concat xs)
  pub next : base + length segment ≡ length (concat (take (i + 1) xs))

pub has_read : (xs : List (List ℕ)) {segment : List ℕ} (i : ℕ) {base : ℕ} → Some segment ≡ slice_get xs i → base ≡ length (concat (take i xs)) → HasRead xs segment i base
has_read xs {segment} i {base} read at =
    let inside = slice_get_within xs i segment (sym read) in
    let is = sym (get_or_from_slice_get xs i segment [] (sym read)) in
    let next = rw (← at, ← is) at (length-concat-take_more xs i inside) in
    record {
      bytes = ap (drop base) (concat_split i xs) ∙ drop_at (concat (take i xs)) (concat (drop i xs)) base (sym at) ∙ ap concat (drop_more xs i [] inside)
          ∙ ap (λ l. l ++ concat (drop (i + 1) xs)) (sym is);
      long = omega (arith, next, ap length (concat_split (i + 1) xs), length-append (concat (take (i + 1) xs)) (concat (drop (i + 1) xs)));
      next = sym next;
    }

module _ {xs : List (List ℕ)} {segment p : List ℕ} {i start base : ℕ} (read : HasRead xs segment i base) (none : Nowhere (OccursAt (concat xs) p) start base) where
  abbrev hay : List ℕ
  hay = segment ++ concat (drop (i + 1) xs)

  within : base ≤ length (concat xs)
  within = omega (arith, read.long)

  size : length hay ≡ length (concat xs) - base
  size = sym (ap length read.bytes) ∙ length-drop base (concat xs)

  parts : drop base (concat xs) ≡ hay ++ []
  parts = read.bytes ∙ sym (append-nil hay)

  before_place : (end : ℕ) → Nowhere (OccursAt hay p) (start - base) end → Nowhere (OccursAt (concat xs) p) start (base + end)
  before_place end nowhere j low high here =
      ⊎_elim (λ below. none j low below here)
      (λ on. nowhere (j - base) (omega (arith, low, on)) (omega (arith, high, on))
      (occurs_in_part (concat xs) p hay [] base within parts j on (omega (arith, here.fits, within, size)) here))
      (cases_lt j base)

  pub found_begun : (k end at : ℕ) → at ≡ base + k → IsFirst (OccursAt hay p) (start - base) end (Some k) → FindsNeedle (concat xs) p start (Some at)
  found_begun k end at is found = (
    record {
      low = omega (arith, is, found.0.low);
      high = omega (arith, is, found.1.fits, within, size);
      before = rw is (before_place k found.0.before);
    },
    rw is (occurs_in_all (concat xs) p hay [] base within parts k found.1),
  )

  pub missed_segment : (end : ℕ) → IsFirst (OccursAt hay p) (start - base) end None → Nowhere (OccursAt (concat xs) p) start (base + end)
  missed_segment end missed = before_place end missed

pub missed_all : (all p : List ℕ) (start : ℕ) → 0 < length p → Nowhere (OccursAt all p) start (length all) → FindsNeedle all p start None
missed_all all p start some none j low high here = none j low (omega (arith, here.fits, some)) here

-- ---- a search that goes on from a later place

pub found_later : (all p : List ℕ) (start from : ℕ) (r : Option ℕ) → start ≤ from → Nowhere (OccursAt all p) start from → FindsNeedle all p from r
    → FindsNeedle all p start r
found_later all p start from None low none missed = Nowhere-then none missed
found_later all p start from (Some at) low none found = (
  record { low = omega (arith, low, found.0.low); high = found.0.high; before = Nowhere-then none found.0.before },
  found.1,
)

-- ---- a needle that is looked for by its first bytes

module _ (all p : List ℕ) (n : ℕ) where
  -- where the needle occurs, its first bytes do
  OccursAt-first_bytes : (k : ℕ) → OccursAt all p k → OccursAt all (take n p) k
  OccursAt-first_bytes k here = record {
    fits = omega (arith, here.fits, length-take n p);
    reads = λ j below. here.reads j (omega (arith, below, length-take n p)) ∙ sym (get_or-take n p j 0 (omega (arith, below, length-take n p)));
  }

  none_up_to : (start from at : ℕ) → Nowhere (OccursAt all p) start from → FindsNeedle all (take n p) from (Some at) → Nowhere (OccursAt all p) start at
  none_up_to start from at none found = Nowhere-then none (λ k on below here. found.0.before k on below (OccursAt-first_bytes k here))

  pub found_by_first_bytes : (start from at : ℕ) → start ≤ from → Nowhere (OccursAt all p) start from → FindsNeedle all (take n p) from (Some at) → OccursAt all p at
      → FindsNeedle all p start (Some at)
  found_by_first_bytes start from at low none found here =
      (record { low = omega (arith, low, found.0.low); high = found.0.high; before = none_up_to start from at none found }, here)

  pub passed_by_first_bytes : (start from at : ℕ) → Nowhere (OccursAt all p) start from → FindsNeedle all (take n p) from (Some at) → ¬ OccursAt all p at
      → Nowhere (OccursAt all p) start (at + 1)
  passed_by_first_bytes start from at none found lacks = Nowhere-more (none_up_to start from at none found) lacks

  pub missed_by_first_bytes : (start from : ℕ) → Nowhere (OccursAt all p) start from → FindsNeedle all (take n p) from None → FindsNeedle all p start None
  missed_by_first_bytes start from none missed = Nowhere-then none (λ k on below here. missed k on below (OccursAt-first_bytes k here))

-- what `holds_at` says of a needle
module _ (all p : List ℕ) (at : ℕ) where
  pub occurs_from_held : (at + length p ≤ length all) × (slice_range all at (at + length p) ≡ p) → OccursAt all p at
  occurs_from_held held =
      let size : length p ≡ (at + length p) - at = omega arith in
      OccursAt-from_part all p at held.0 (ap (λ k. take k (drop at all)) size ∙ held.1)

  pub held_from_occurs : OccursAt all p at → (at + length p ≤ length all) × (slice_range all at (at + length p) ≡ p)
  held_from_occurs here =
      let size : (at + length p) - at ≡ length p = omega arith in
      (here.fits, ap (λ k. take k (drop at all)) size ∙ OccursAt-part all p at here)
