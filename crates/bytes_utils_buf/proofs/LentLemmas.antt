-- Borrowed buffers, of which the first ones are read to their end.
use Rattle.std.proofs.Common.{◌≡◌, ℕ, ◌+◌, ◌-◌, ◌<◌, ◌≤◌, List, [], ◌∷◌, ◌++◌, zero, suc, length, take, drop, map, get_or, set, replicate, ap, ◌∙◌, sym, refl, arith, drop_at, take_at, length-append, length-drop, append-nil, append_assoc}
use Rattle.std.proofs.lemmas.List.{length-map, length-replicate, map-append, take-map, drop-map, take_rest, drop_all, take-append-drop, take-append-le, take-take, replicate-append-replicate}
use Rattle.std.proofs.Math.Seq.{take-add}
use Rattle.std.specs.List.{concat}
use borrow.Rule.Slice.PartMut.{put_mid}
use Rattle.bytes_utils_buf.specs.Lent.{Lent, lent_at, IsPassedOnce, Passes, SkipsLent, IsLent}
use Rattle.bytes.specs.Unread.{IsChunkOf}
use Rattle.bytes_utils_buf.specs.Segments.{cut_front_segment, front_segment, FrontSegmentUnread, SkipsSegments}
use Rattle.bytes_utils_buf.specs.Tally.{Tallied}
use Rattle.bytes_utils_buf.proofs.Lists.{length-concat-take_more, read_at, concat_split, cut_front_segment-none, SkipsSegments-from_count, SkipsSegments-more}

-- ---- emptied lists

pub drop_read_out : (p : ℕ) (xs : List (List ℕ)) → drop p (replicate p [] ++ xs) ≡ xs
drop_read_out p xs = drop_at (replicate p []) xs p (length-replicate p [])

-- the bytes of all lists are the bytes to read
pub concat_read_out : (place : ℕ) (segments : List (List ℕ)) → concat (replicate place [] ++ segments) ≡ concat segments
concat_read_out zero segments = refl
concat_read_out (suc place) segments = concat_read_out place segments

-- the first k of these lists are empty
pub take_read_out : (k : ℕ) (now : List (List ℕ)) → now ≡ replicate k [] ++ drop k now → take k now ≡ replicate k []
take_read_out k now e = ap (take k) e ∙ take_at (replicate k []) (drop k now) k (length-replicate k [])

pub place_inside : {X : Type 0} (f : X → List ℕ) (xs : List X) (k : ℕ) → map f xs ≡ replicate k [] ++ drop k (map f xs) → k ≤ length xs
place_inside f xs k e =
    omega (arith, ap length e, length-append (replicate {A = List ℕ} k []) (drop k (map f xs)), length-replicate {A = List ℕ} k [], length-map xs f)

-- the buffers from place k on were written, and p more at their front are empty
pub more_read_out : (k p : ℕ) (now part : List (List ℕ)) → take k now ≡ replicate k [] → take p part ≡ replicate p []
    → take k now ++ part ≡ replicate (k + p) [] ++ drop p part
more_read_out k p now part before following =
    ap (λ l. l ++ part) before
    ∙ ap (λ l. replicate k [] ++ l) (sym (take-append-drop p part) ∙ ap (λ l. l ++ drop p part) following)
    ∙ sym (append_assoc (replicate k []) (replicate p []) (drop p part))
    ∙ ap (λ l. l ++ drop p part) (replicate-append-replicate k p [])

pub map-put_mid : {X : Type 0} (f : X → List ℕ) (xs ys : List X) (a : ℕ) → a ≤ length xs
    → map f (put_mid a (length xs - a) xs ys) ≡ take a (map f xs) ++ map f ys
map-put_mid f xs ys a h = grind (arith, append-nil, drop_all, length-drop, map-append, take-map)

-- ---- the invariant of every value is kept

-- the unread lists of the buffers from place k on
pub map-part : {X : Type 0} (f : X → List ℕ) (xs : List X) (k : ℕ) → map f (take (length xs - k) (drop k xs)) ≡ drop k (map f xs)
map-part f xs k = ap (map f) (take_rest xs k) ∙ sym (drop-map f k xs)

-- a call skips n bytes of the buffers from place k on, of which p more become empty, and takes one turn for each of these
module _ {X : Type 0} (f : X → List ℕ) (xs ys : List X) {n k p remaining name : ℕ} {handed_in : List (List ℕ)} {old : Tallied}
    (is : IsLent (map f xs) remaining (lent_at k handed_in (map f xs) old name)) (inside : p ≤ length (take (length xs - k) (drop k xs)))
    (size : length ys ≡ length (take (length xs - k) (drop k xs))) (out : take p (map f ys) ≡ replicate p [])
    (skips : SkipsSegments n (map f (take (length xs - k) (drop k xs))) (drop p (map f ys))) where
  lists : map f (put_mid k (length xs - k) xs ys) ≡ replicate (k + p) [] ++ drop p (map f ys)
  lists = map-put_mid f xs ys k (place_inside f xs k is.lists) ∙ more_read_out k p (map f xs) (map f ys) (take_read_out k (map f xs) is.lists) out

  following : drop (k + p) (map f (put_mid k (length xs - k) xs ys)) ≡ drop p (map f ys)
  following = ap (drop (k + p)) lists ∙ drop_read_out (k + p) (drop p (map f ys))

  pub SkipsLent-part : {new : Tallied} → SkipsLent n (lent_at k handed_in (map f xs) old name) (lent_at (k + p) handed_in (map f (put_mid k (length xs - k) xs ys)) new name)
  SkipsLent-part = grind (arith, following, length-drop, length-map, map-part)

  pub IsLent-part : {new : Tallied} {calls : ℕ} → new ≡ record { given = old.given; dropped = old.dropped; calls = calls; turns = old.turns + p }
      → IsLent (map f (put_mid k (length xs - k) xs ys)) (remaining - n) (lent_at (k + p) handed_in (map f (put_mid k (length xs - k) xs ys)) new name)
  IsLent-part {new} counted =
      let s = SkipsLent-part {new = new} in
      record {
        lists = lists ∙ ap (λ l. replicate (k + p) [] ++ l) (sym following);
        sum = omega (arith, is.sum, ap length s.segments.bytes, length-drop n (concat (drop k (map f xs))));
        reading = record {
          read = is.reading.read + n;
          skips = SkipsSegments-more is.reading.read n handed_in (drop k (map f xs)) _ is.reading.skips s.segments;
          place = omega (arith, is.reading.place, s.place);
        };
        passed = rw counted (record { given = is.passed.given; dropped = is.passed.dropped; turns = omega (arith, is.passed.turns) });
      }

-- one skip after another
pub Passes-more : (n m : ℕ) (old mid new : Lent) → Passes n old mid → Passes m mid new → Passes (n + m) old new
Passes-more n m old mid new s t = grind (arith, SkipsSegments-more)

-- ---- sums of lengths

-- a sum so far, plus one more buffer
pub sum_more : {X : Type 0} (f : X → List ℕ) (xs : List X) (i : ℕ) (x : X) (sum size : ℕ) → i < length xs → x ≡ get_or xs i x
    → sum ≡ length (concat (take i (map f xs))) → size ≡ length (f x) → sum + size ≡ length (concat (take (i + 1) (map f xs)))
sum_more f xs i x sum size inside is so_far long =
    omega (arith, so_far, long, length-concat-take_more (map f xs) i (omega (arith, inside, length-map xs f)), ap length (read_at f xs i x inside is))

pub length-concat-take_le : (i : ℕ) (xs : List (List ℕ)) → length (concat (take i xs)) ≤ length (concat xs)
length-concat-take_le i xs = omega (arith, ap length (concat_split i xs), length-append (concat (take i xs)) (concat (drop i xs)))

-- ---- empty lists at the front are passed

-- lists that have no bytes together are empty
none_before : (p : ℕ) (now : List (List ℕ)) → p ≤ length now → length (concat (take p now)) ≡ 0 → now ≡ replicate p [] ++ drop p now
none_before zero now inside none = refl
none_before (suc p) [] inside none = absurd (omega arith)
none_before (suc p) ([] ∷ now) inside none = ap (λ l. [] ∷ l) (none_before p now (omega arith) none)
none_before (suc p) ((b ∷ s) ∷ now) inside none = absurd (omega (arith, length-append (b ∷ s) (concat (take p now))))

-- what a loop that counts the empty lists at the front has found
pub record Trimmed (p : ℕ) (now : List (List ℕ)) : Type 0 where
  pub before : now ≡ replicate p [] ++ drop p now
  pub skips : SkipsSegments 0 now (drop p now)

pub Trimmed-from_count : (now : List (List ℕ)) (p : ℕ) → p ≤ length now → length (concat (take p now)) ≡ 0
    → (p < length now → 0 < length (get_or now p [])) → Trimmed p now
Trimmed-from_count now p inside none next = record {
  before = none_before p now inside none;
  skips = SkipsSegments-from_count now (drop p now) p 0 0 inside (omega (arith, none)) (omega arith) next (cut_front_segment-none (drop p now));
}

-- a new value
pub IsLent-new : (p remaining : ℕ) (now handed_in : List (List ℕ)) (tally : Tallied) (name : ℕ) → p ≤ length now
    → now ≡ replicate p [] ++ drop p now → SkipsSegments 0 now (drop p now) → handed_in ≡ now → remaining ≡ length (concat now)
    → IsPassedOnce (lent_at p handed_in now tally name) → IsLent now remaining (lent_at p handed_in now tally name)
IsLent-new p remaining now handed_in tally name within before skips same sum passed = grind (arith, length-drop, lists)

-- ---- the first list

-- a chunk of the first list is a chunk of all
pub chunk_of_front : (chunk : List ℕ) (segments : List (List ℕ)) → 0 < length segments → FrontSegmentUnread segments → IsChunkOf chunk (front_segment segments)
    → IsChunkOf chunk (concat segments)
chunk_of_front chunk segments some front is = grind (arith, length-append, take-append-le)

-- the first of these buffers loses n bytes
pub map-cut_first : {X : Type 0} (f : X → List ℕ) (xs : List X) (item new : X) (n : ℕ) → 0 < length xs → f new ≡ drop n (f (get_or xs 0 item))
    → map f (set xs 0 new) ≡ cut_front_segment n (map f xs)
map-cut_first f [] item new n some lost = absurd (omega arith)
map-cut_first f (x ∷ xs) item new n some lost = ap (λ s. s ∷ map f xs) lost

-- a copy so far, plus the first bytes of a chunk
pub copy_more : (taken count : ℕ) (all rest copy chunk : List ℕ) → copy ≡ take taken all → rest ≡ drop taken all → IsChunkOf chunk rest
    → count ≤ length chunk → copy ++ take count chunk ≡ take (taken + count) all
copy_more taken count all rest copy chunk so_far left is fits = grind (arith, take-add, take-take)
