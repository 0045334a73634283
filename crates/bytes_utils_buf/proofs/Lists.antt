-- Lists of lists, seen from the front.
use Rattle.std.proofs.Common.{◌≡◌, nat_lt, lt-ltb, cond, true, inl, inr, ◌⊎◌, ℕ, ◌+◌, ◌-◌, ◌<◌, ◌≤◌, List, [], ◌∷◌, ◌++◌, zero, suc, length, take, drop, map, get_or, set, replicate, ap, ◌∙◌, sym, refl, arith, length-append, append_assoc, length-drop}
use Rattle.std.proofs.lemmas.List.{take_more, drop-append-le, drop-drop, take-append-drop, take_all, drop_all, get_or-map, map-append}
use Rattle.std.proofs.lemmas.List.Folds.{concat-append}
use Rattle.std.proofs.lemmas.Bool.{cases_lt}
use Rattle.std.proofs.Math.Seq.{drop-append-add}
use Rattle.std.proofs.lemmas.List.Elements.{All-nil, All-cons, All-tail, All-same, All-drop, All-append}
use Rattle.std.specs.List.{concat, filter, AllZip}
use Rattle.bytes.proofs.Chunks.{concat_push}
use Rattle.bytes_utils_buf.specs.Segments.{IsInOneSegment, IsPlace, cut_front_segment, cut_segment_at, count_unread_segments, front_segment, unread_segments, NoSegmentEmpty, FrontSegmentUnread, SkipsSegments}

-- ---- joined bytes

pub length-concat-take_more : (xs : List (List ℕ)) (k : ℕ) → k < length xs
    → length (concat (take (k + 1) xs)) ≡ length (concat (take k xs)) + length (get_or xs k [])
length-concat-take_more xs k h =
    ap (λ l. length (concat l)) (take_more xs k [] h) ∙ ap length (concat_push (take k xs) (get_or xs k []))
    ∙ length-append (concat (take k xs)) (get_or xs k [])

-- the unread list of the element at place k, as a read of it gives it
pub read_at : {X : Type 0} (f : X → List ℕ) (xs : List X) (k : ℕ) (x : X) → k < length xs → x ≡ get_or xs k x
    → get_or (map f xs) k [] ≡ f x
read_at f xs k x h e = get_or-map f xs k x [] h ∙ ap f (sym e)

pub concat_split : (n : ℕ) (xs : List (List ℕ)) → concat xs ≡ concat (take n xs) ++ concat (drop n xs)
concat_split n xs = ap concat (sym (take-append-drop n xs)) ∙ concat-append (take n xs) (drop n xs)

-- the bytes of elements in a row are those of the two parts of the row
pub concat-map_parts : {X : Type 0} (f : X → List ℕ) (xs ys all : List X) → xs ++ ys ≡ all → concat (map f all) ≡ concat (map f xs) ++ concat (map f ys)
concat-map_parts f xs ys all parts =
    ap (λ l. concat (map f l)) (sym parts) ∙ ap concat (map-append f xs ys) ∙ concat-append (map f xs) (map f ys)

-- more lists have at least as many bytes
pub length-concat-take_le : (xs : List (List ℕ)) (i j : ℕ) → i ≤ j
    → length (concat (take i xs)) ≤ length (concat (take j xs))
length-concat-take_le xs zero j h = omega arith
length-concat-take_le [] (suc i) j h = omega arith
length-concat-take_le (x ∷ xs) (suc i) zero h = absurd (omega arith)
length-concat-take_le (x ∷ xs) (suc i) (suc j) h =
    let less = length-concat-take_le xs i j (omega arith) in
    omega (arith, less, length-append x (concat (take i xs)), length-append x (concat (take j xs)))

pub drop-append_past : (xs ys : List ℕ) (n m : ℕ) → m ≡ length xs + n → drop m (xs ++ ys) ≡ drop n ys
drop-append_past xs ys n m e = rw e (drop-append-add xs ys n)

-- ---- the first list is cut

pub length-cut_front_segment : (n : ℕ) (xs : List (List ℕ)) → length (cut_front_segment n xs) ≡ length xs
length-cut_front_segment n [] = refl
length-cut_front_segment n (x ∷ xs) = refl

pub front_segment_drop : (xs : List (List ℕ)) (p : ℕ) → front_segment (drop p xs) ≡ get_or xs p []
front_segment_drop [] zero = refl
front_segment_drop (x ∷ xs) zero = refl
front_segment_drop [] (suc p) = refl
front_segment_drop (x ∷ xs) (suc p) = front_segment_drop xs p

-- p lists are passed, and n bytes of the next one
pub concat-cut_front_segment : (xs : List (List ℕ)) (p n m : ℕ) → p ≤ length xs → length (concat (take p xs)) + n ≡ m → m ≤ length (concat xs)
    → (p < length xs → n < length (get_or xs p [])) → concat (cut_front_segment n (drop p xs)) ≡ drop m (concat xs)
concat-cut_front_segment xs zero n m h e b q = grind (arith, drop-append-le, drop-append_past, length-append)
concat-cut_front_segment [] (suc p) n m h e b q = absurd (omega arith)
concat-cut_front_segment (x ∷ xs) (suc p) n m h e b q =
    let size = length-append x (concat (take p xs)) in
    let all = length-append x (concat xs) in
    concat-cut_front_segment xs p n (length (concat (take p xs)) + n) (omega arith) refl (omega arith) (λ l. q (omega arith))
    ∙ sym (drop-append_past x (concat xs) (length (concat (take p xs)) + n) m (omega arith))

pub FrontSegmentUnread-cut : (xs : List (List ℕ)) (p n : ℕ) → (p < length xs → n < length (get_or xs p [])) → FrontSegmentUnread (cut_front_segment n (drop p xs))
FrontSegmentUnread-cut [] zero n q = λ h. absurd (omega arith)
FrontSegmentUnread-cut [] (suc p) n q = λ h. absurd (omega arith)
FrontSegmentUnread-cut (x ∷ xs) zero n q = λ h. omega (arith, length-drop n x, q (omega arith))
FrontSegmentUnread-cut (x ∷ xs) (suc p) n q = FrontSegmentUnread-cut xs p n (λ l. q (omega arith))

-- what a loop that counts the passed lists has found
pub SkipsSegments-from_count : (xs ys : List (List ℕ)) (p n m : ℕ) → p ≤ length xs → length (concat (take p xs)) + n ≡ m → m ≤ length (concat xs)
    → (p < length xs → n < length (get_or xs p [])) → ys ≡ cut_front_segment n (drop p xs) → SkipsSegments m xs ys
SkipsSegments-from_count xs ys p n m within left fits next same = grind (arith, FrontSegmentUnread-cut, concat-cut_front_segment)

-- what a search for a place has found
pub SkipsSegments-from_place : (xs ys : List (List ℕ)) (place index offset : ℕ) → IsPlace place index offset xs → place ≤ length (concat xs)
    → ys ≡ cut_front_segment offset (drop index xs) → SkipsSegments place xs ys
SkipsSegments-from_place xs ys place index offset at fits same = SkipsSegments-from_count xs ys index offset place at.within at.before fits at.inside same

-- ---- the list before an index

-- if there are bytes before an index, it isn't 0
pub some_before : (xs : List (List ℕ)) (index base : ℕ) → base ≡ length (concat (take index xs)) → 0 < base → 0 < index
some_before xs zero base is some = absurd (omega (arith, is, some))
some_before xs (suc index) base is some = omega arith

pub one_before : (xs : List (List ℕ)) (index base : ℕ) → 0 < index → index ≤ length xs → base ≡ length (concat (take index xs))
    → base ≡ length (concat (take (index - 1) xs)) + length (get_or xs (index - 1) [])
one_before xs index base some within is =
    let all : index - 1 + 1 ≡ index = omega (arith, some) in
    is ∙ ap (λ n. length (concat (take n xs))) (sym all) ∙ length-concat-take_more xs (index - 1) (omega (arith, some, within))

-- ---- lists none of which is empty

-- if no list is empty, and the first one keeps unread bytes after a cut, none is empty then
pub NoSegmentEmpty-cut_front_segment : (xs : List (List ℕ)) (n : ℕ) → NoSegmentEmpty xs → FrontSegmentUnread (cut_front_segment n xs) → NoSegmentEmpty (cut_front_segment n xs)
NoSegmentEmpty-cut_front_segment [] n all front = all
NoSegmentEmpty-cut_front_segment (x ∷ xs) n all front =
    All-cons (λ s. 0 < length s) (drop n x) xs (front (omega arith)) (All-tail (λ s. 0 < length s) x xs all)

pub NoSegmentEmpty-SkipsSegments : (n : ℕ) (xs ys : List (List ℕ)) → NoSegmentEmpty xs → SkipsSegments n xs ys → NoSegmentEmpty ys
NoSegmentEmpty-SkipsSegments n xs ys all s =
    let front : FrontSegmentUnread (cut_front_segment s.cut (drop s.passed xs)) = rw (← s.rest) s.front in
    All-same (λ x. 0 < length x) ys _ s.rest (NoSegmentEmpty-cut_front_segment (drop s.passed xs) s.cut (All-drop (λ x. 0 < length x) s.passed xs all) front)

-- the unread list of the element at place k
pub map_at : {X : Type 0} (f : X → List ℕ) (xs : List X) (k : ℕ) (d : X) → k < length xs → f (get_or xs k d) ≡ get_or (map f xs) k []
map_at f xs k d h = sym (get_or-map f xs k d [] h)

-- ---- passed lists are empty

-- one more becomes empty
set-replicated : (xs : List (List ℕ)) (i : ℕ) → i < length xs → set (replicate i [] ++ drop i xs) i [] ≡ replicate (suc i) [] ++ drop (suc i) xs
set-replicated [] i h = absurd (omega arith)
set-replicated (x ∷ xs) zero h = refl
set-replicated (x ∷ xs) (suc i) h = ap (λ l. [] ∷ l) (set-replicated xs i (omega arith))

pub set-replicated_more : (xs : List (List ℕ)) (i : ℕ) → i < length xs → set (replicate i [] ++ drop i xs) i [] ≡ replicate (i + 1) [] ++ drop (i + 1) xs
set-replicated_more xs i h = let e : i + 1 ≡ suc i = omega arith in rw e (set-replicated xs i h)

-- the lists after the emptied ones
pub get_or-replicated : (xs : List (List ℕ)) (i : ℕ) → i < length xs → get_or (replicate i [] ++ drop i xs) i [] ≡ get_or xs i []
get_or-replicated [] i h = absurd (omega arith)
get_or-replicated (x ∷ xs) zero h = refl
get_or-replicated (x ∷ xs) (suc i) h = get_or-replicated xs i (omega arith)

-- the list at place k is cut
pub set_cut : (xs : List (List ℕ)) (k n : ℕ) → k < length xs → set xs k (drop n (get_or xs k [])) ≡ cut_segment_at k n xs
set_cut [] k n h = absurd (omega arith)
set_cut (x ∷ xs) zero n h = refl
set_cut (x ∷ xs) (suc k) n h = ap (λ l. x ∷ l) (set_cut xs k n (omega arith))

-- nothing is cut
pub cut_past : (xs : List (List ℕ)) (k n : ℕ) → (0 < n → length xs ≤ k) → xs ≡ cut_segment_at k n xs
cut_past [] k n h = refl
cut_past (x ∷ xs) zero zero h = refl
cut_past (x ∷ xs) zero (suc n) h = absurd (omega (arith, h (omega arith)))
cut_past (x ∷ xs) (suc k) n h = ap (λ l. x ∷ l) (cut_past xs k n (λ some. omega (arith, h some)))

pub cut_after : (xs : List (List ℕ)) (p n : ℕ) → cut_segment_at p n (replicate p [] ++ xs) ≡ replicate p [] ++ cut_front_segment n xs
cut_after [] zero n = refl
cut_after (x ∷ xs) zero n = refl
cut_after xs (suc p) n = ap (λ l. [] ∷ l) (cut_after xs p n)

-- ---- accepted lists

pub unread_segments-append : (xs ys : List (List ℕ)) → unread_segments (xs ++ ys) ≡ unread_segments xs ++ unread_segments ys
unread_segments-append [] ys = refl
unread_segments-append ([] ∷ xs) ys = unread_segments-append xs ys
unread_segments-append ((b ∷ x) ∷ xs) ys = ap (λ l. (b ∷ x) ∷ l) (unread_segments-append xs ys)

pub concat-unread_segments : (xs : List (List ℕ)) → concat (unread_segments xs) ≡ concat xs
concat-unread_segments [] = refl
concat-unread_segments ([] ∷ xs) = concat-unread_segments xs
concat-unread_segments ((b ∷ x) ∷ xs) = ap (λ l. (b ∷ x) ++ l) (concat-unread_segments xs)

pub NoSegmentEmpty-unread_segments : (xs : List (List ℕ)) → NoSegmentEmpty (unread_segments xs)
NoSegmentEmpty-unread_segments [] = All-nil (λ s. 0 < length s)
NoSegmentEmpty-unread_segments ([] ∷ xs) = NoSegmentEmpty-unread_segments xs
NoSegmentEmpty-unread_segments ((b ∷ x) ∷ xs) =
    All-cons (λ s. 0 < length s) (b ∷ x) (unread_segments xs) (omega arith) (NoSegmentEmpty-unread_segments xs)

pub length-unread_segments : (xs : List (List ℕ)) → length (unread_segments xs) ≤ length xs
length-unread_segments [] = omega arith
length-unread_segments ([] ∷ xs) = omega (arith, length-unread_segments xs)
length-unread_segments ((b ∷ x) ∷ xs) = omega (arith, length-unread_segments xs)

-- lists accepted after others
pub NoSegmentEmpty-accepted : (xs ys : List (List ℕ)) → NoSegmentEmpty xs → NoSegmentEmpty (xs ++ unread_segments ys)
NoSegmentEmpty-accepted xs ys all = All-append (λ s. 0 < length s) xs (unread_segments ys) all (NoSegmentEmpty-unread_segments ys)

pub concat-accepted : (xs ys : List (List ℕ)) → concat (xs ++ unread_segments ys) ≡ concat xs ++ concat ys
concat-accepted xs ys = concat-append xs (unread_segments ys) ∙ ap (λ l. concat xs ++ l) (concat-unread_segments ys)

pub length-concat-accepted : (xs ys : List (List ℕ)) → length (concat (xs ++ unread_segments ys)) ≡ length (concat xs) + length (concat ys)
length-concat-accepted xs ys = ap length (concat-accepted xs ys) ∙ length-append (concat xs) (concat ys)

-- each list is held or was empty
pub length-accepted : (xs ys : List (List ℕ)) → (length ys - count_unread_segments ys) + length (xs ++ unread_segments ys) ≡ length xs + length ys
length-accepted xs ys = omega (arith, length-append xs (unread_segments ys), length-unread_segments ys)

-- one more list is accepted
pub accepted_more : (xs ys : List (List ℕ)) (y : List ℕ) → (xs ++ unread_segments ys) ++ unread_segments (y ∷ []) ≡ xs ++ unread_segments (ys ++ y ∷ [])
accepted_more xs ys y =
    append_assoc xs (unread_segments ys) (unread_segments (y ∷ [])) ∙ ap (λ l. xs ++ l) (sym (unread_segments-append ys (y ∷ [])))

-- ---- one skip after another

cut_front_segment-twice : (xs : List (List ℕ)) (j k : ℕ) → cut_front_segment k (cut_front_segment j xs) ≡ cut_front_segment (j + k) xs
cut_front_segment-twice [] j k = refl
cut_front_segment-twice (x ∷ xs) j k = ap (λ l. l ∷ xs) (drop-drop k j x)

drop-cut_front_segment : (xs : List (List ℕ)) (j p : ℕ) → 0 < p → drop p (cut_front_segment j xs) ≡ drop p xs
drop-cut_front_segment xs j p h = grind arith

pub cut_front_segment-none : (xs : List (List ℕ)) → xs ≡ cut_front_segment 0 xs
cut_front_segment-none [] = refl
cut_front_segment-none (x ∷ xs) = refl

-- a cut of lists from which some were removed before, and then a skip
SkipsSegments-following : (n m j p : ℕ) (xs ys zs : List (List ℕ)) → p ≤ length xs → ys ≡ cut_front_segment j (drop p xs) → concat ys ≡ drop n (concat xs)
    → SkipsSegments m ys zs → SkipsSegments (n + m) xs zs
SkipsSegments-following n m j p xs ys zs within same bytes s =
    elim (cases_lt 0 s.passed) [
      | inr past ↦
          let none : s.passed ≡ 0 = omega (arith, past) in
          record {
            passed = p;
            cut = j + s.cut;
            within = within;
            rest = s.rest ∙ ap (λ k. cut_front_segment s.cut (drop k ys)) none ∙ ap (cut_front_segment s.cut) same ∙ cut_front_segment-twice (drop p xs) j s.cut;
            bytes = s.bytes ∙ ap (drop m) bytes ∙ drop-drop m n (concat xs);
            front = s.front;
          }
      | inl some ↦
          record {
            passed = p + s.passed;
            cut = s.cut;
            within = omega (arith, s.within, ap length same, length-cut_front_segment j (drop p xs), length-drop p xs);
            rest = s.rest ∙ ap (λ l. cut_front_segment s.cut (drop s.passed l)) same ∙ ap (cut_front_segment s.cut) (drop-cut_front_segment (drop p xs) j s.passed some ∙ drop-drop s.passed p xs);
            bytes = s.bytes ∙ ap (drop m) bytes ∙ drop-drop m n (concat xs);
            front = s.front;
          }
    ]

pub SkipsSegments-more : (n m : ℕ) (xs ys zs : List (List ℕ)) → SkipsSegments n xs ys → SkipsSegments m ys zs → SkipsSegments (n + m) xs zs
SkipsSegments-more n m xs ys zs s t = SkipsSegments-following n m s.cut s.passed xs ys zs s.within s.rest s.bytes t

-- the first list is cut, perhaps to nothing, and is removed if it is empty
pub SkipsSegments-trimmed : (n : ℕ) (xs ys zs : List (List ℕ)) → n ≤ length (front_segment xs) → ys ≡ cut_front_segment n xs → SkipsSegments 0 ys zs → SkipsSegments n xs zs
SkipsSegments-trimmed n xs ys zs fits same s =
    let whole : n + 0 ≡ n = omega arith in
    rw whole at (SkipsSegments-following n 0 n 0 xs ys zs (omega arith) same (ap concat same ∙ concat-cut_first xs n fits) s)
  where
    concat-cut_first : (xs : List (List ℕ)) (n : ℕ) → n ≤ length (front_segment xs) → concat (cut_front_segment n xs) ≡ drop n (concat xs)
    concat-cut_first [] n h = sym (drop_all n [] (omega arith))
    concat-cut_first (x ∷ xs) n h = sym (drop-append-le n x (concat xs) h)

pub length-SkipsSegments : (n : ℕ) (xs ys : List (List ℕ)) → SkipsSegments n xs ys → length ys ≤ length xs
length-SkipsSegments n xs ys s = omega (arith, ap length s.rest, length-cut_front_segment s.cut (drop s.passed xs), length-drop s.passed xs)

-- ---- how many lists have bytes to read

count_unread_segments-more : (x : List ℕ) (xs : List (List ℕ)) → count_unread_segments (x ∷ xs) ≤ 1 + count_unread_segments xs
count_unread_segments-more [] xs = omega arith
count_unread_segments-more (b ∷ x) xs = omega arith

count_unread_segments-following : (x : List ℕ) (xs : List (List ℕ)) → count_unread_segments xs ≤ count_unread_segments (x ∷ xs)
count_unread_segments-following [] xs = omega arith
count_unread_segments-following (b ∷ x) xs = omega arith

count_unread_segments-some : (x : List ℕ) (xs : List (List ℕ)) → 0 < length x → count_unread_segments (x ∷ xs) ≡ 1 + count_unread_segments xs
count_unread_segments-some [] xs some = absurd (omega arith)
count_unread_segments-some (b ∷ x) xs some = omega arith

pub length-concat-cut_le : (xs : List (List ℕ)) (p k : ℕ) → length (concat (cut_front_segment k (drop p xs))) ≤ length (concat xs)
length-concat-cut_le [] zero k = omega arith
length-concat-cut_le [] (suc p) k = omega arith
length-concat-cut_le (x ∷ xs) zero k =
    omega (arith, length-append x (concat xs), length-append (drop k x) (concat xs), length-drop k x)
length-concat-cut_le (x ∷ xs) (suc p) k = omega (arith, length-append x (concat xs), length-concat-cut_le xs p k)

-- ---- all bytes of a range in one list

pub IsInOneSegment-front : (start end : ℕ) (xs : List (List ℕ)) → end ≤ length (front_segment xs)
    → IsInOneSegment start end xs
IsInOneSegment-front start end [] within = record { before = 0; from = omega arith; to = within }
IsInOneSegment-front start end (x ∷ xs) within =
    record { before = 0; from = omega arith; to = omega (arith, within, length-append x []) }

length-front_segment_from : (xs : List (List ℕ)) (index offset : ℕ)
    → length (front_segment (cut_front_segment offset (drop index xs))) ≡ length (get_or xs index []) - offset
length-front_segment_from [] zero offset = omega arith
length-front_segment_from [] (suc index) offset = omega arith
length-front_segment_from (x ∷ xs) zero offset = length-drop offset x
length-front_segment_from (x ∷ xs) (suc index) offset = length-front_segment_from xs index offset

-- the list at the place of the first byte is the one that has them
pub front_segment_at_place : (xs : List (List ℕ)) (start end index offset : ℕ) → IsPlace start index offset xs
    → start < end → end ≤ length (concat xs) → IsInOneSegment start end xs
    → end - start ≤ length (front_segment (cut_front_segment offset (drop index xs)))
front_segment_at_place xs start end index offset at some within one =
    by (cases_lt index (length xs)) (cases_lt index one.before)
  where
    by : (index < length xs) ⊎ (length xs ≤ index) → (index < one.before) ⊎ (one.before ≤ index)
        → end - start ≤ length (front_segment (cut_front_segment offset (drop index xs)))
    by (inr past) which =
        absurd (omega (arith, some, within, at.before, ap (λ l. length (concat l)) (take_all index xs past)))
    by (inl here) (inl sooner) =
        let least = length-concat-take_le xs (index + 1) one.before (omega (arith, sooner)) in
        let size = length-concat-take_more xs index here in
        absurd (omega (arith, least, size, one.from, at.before, at.inside here))
    by (inl here) (inr later) =
        let least = length-concat-take_le xs (one.before + 1) (index + 1) (omega (arith, later)) in
        let size = length-concat-take_more xs index here in
        omega (arith, least, size, one.to, at.before, length-front_segment_from xs index offset)

-- at most as many lists lose their last byte as bytes are lost
count_unread_segments-cut : (xs : List (List ℕ)) (p k n : ℕ) → length (concat xs) ≤ length (concat (cut_front_segment k (drop p xs))) + n
    → count_unread_segments xs ≤ count_unread_segments (cut_front_segment k (drop p xs)) + n
count_unread_segments-cut [] zero k n few = omega arith
count_unread_segments-cut [] (suc p) k n few = omega arith
count_unread_segments-cut xs zero k n few = grind (arith, cases_lt, count_unread_segments-following, count_unread_segments-some, length-append, length-concat-cut_le)
count_unread_segments-cut ([] ∷ xs) (suc p) k n few = count_unread_segments-cut xs p k n few
count_unread_segments-cut ((b ∷ x) ∷ xs) (suc p) k n few =
    let size = length-append (b ∷ x) (concat xs) in
    let least = length-concat-cut_le xs p k in
    let rest : count_unread_segments xs ≤ count_unread_segments (cut_front_segment k (drop p xs)) + (n - length (b ∷ x)) =
    count_unread_segments-cut xs p k (n - length (b ∷ x)) (omega (arith, few, size, least)) in
    omega (arith, rest, few, size, least)

pub count_unread_segments-SkipsSegments : (n : ℕ) (xs ys : List (List ℕ)) → SkipsSegments n xs ys → count_unread_segments xs ≤ count_unread_segments ys + n
count_unread_segments-SkipsSegments n xs ys s =
    let left = cut_front_segment s.cut (drop s.passed xs) in
    let few : length (concat xs) ≤ length (concat left) + n =
    omega (arith, ap (λ l. length (concat l)) s.rest, ap length s.bytes, length-drop n (concat xs)) in
    omega (arith, count_unread_segments-cut xs s.passed s.cut n few, ap count_unread_segments s.rest)

-- bytes of the first list alone are last bytes of no other list
pub count_unread_segments-Skips_front : (n : ℕ) (xs ys : List (List ℕ)) → n ≤ length (front_segment xs) → SkipsSegments n xs ys → count_unread_segments xs ≤ count_unread_segments ys + 1
count_unread_segments-Skips_front n [] ys within s = omega arith
count_unread_segments-Skips_front n (x ∷ xs) ys within s = by s.passed s.rest
  where
    left : length (concat xs) ≤ length (concat ys)
    left = omega (arith, within, ap length s.bytes, length-drop n (x ++ concat xs), length-append x (concat xs))

    by : (p : ℕ) → ys ≡ cut_front_segment s.cut (drop p (x ∷ xs)) → count_unread_segments (x ∷ xs) ≤ count_unread_segments ys + 1
    by zero rest = omega (arith, count_unread_segments-more x xs, count_unread_segments-following (drop s.cut x) xs, ap count_unread_segments rest)
    by (suc p) rest =
        let same : length (concat ys) ≡ length (concat (cut_front_segment s.cut (drop p xs))) = ap (λ l. length (concat l)) rest in
        omega (arith, count_unread_segments-more x xs, count_unread_segments-cut xs p s.cut 0 (omega (arith, left, same)), ap count_unread_segments rest)

-- ---- elements and their unread lists

pub map-filter_unread : {X : Type 0} (f : X → List ℕ) (xs : List X) → map f (filter (λ x. nat_lt 0 (length (f x))) xs) ≡ unread_segments (map f xs)
map-filter_unread f [] = refl
map-filter_unread {X = X} f (x ∷ xs) = by (f x) refl (map f xs) _ (map-filter_unread f xs)
  where
    by : (s : List ℕ) → f x ≡ s → (ys : List (List ℕ)) (kept : List X) → map f kept ≡ unread_segments ys
        → map f (cond (nat_lt 0 (length s)) (x ∷ kept) kept) ≡ unread_segments (s ∷ ys)
    by [] e ys kept rest = rest
    by (b ∷ s) e ys kept rest =
        let some : nat_lt 0 (length (b ∷ s)) ≡ true = lt-ltb 0 (length (b ∷ s)) (omega arith) in
        rw some (λ i. e i ∷ rest i)

-- clones that have the same unread bytes
pub map-clones : {X : Type 0} (R : X → X → Type 0) (f : X → List ℕ) → ((x y : X) → R x y → f y ≡ f x)
    → (xs ys : List X) → AllZip R xs ys → map f ys ≡ map f xs
map-clones R f same [] [] all = refl
map-clones R f same [] (y ∷ ys) all = absurd all
map-clones R f same (x ∷ xs) [] all = absurd all
map-clones R f same (x ∷ xs) (y ∷ ys) all = (λ i. same x y all.0 i ∷ map-clones R f same xs ys all.1 i)
