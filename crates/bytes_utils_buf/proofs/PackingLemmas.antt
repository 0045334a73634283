-- Lists of which two neighbours hold more than a threshold.
use Rattle.std.proofs.Common.{◌≡◌, ℕ, ◌+◌, ◌-◌, ◌*◌, ◌<◌, ◌≤◌, List, [], ◌∷◌, ◌++◌, zero, suc, length, length-drop, map, drop, get_or, set, ap, ◌∙◌, sym, refl, arith, length-append, append_assoc, append-nil, Result, Ok, Err, OnOk, OnErr}
use Rattle.std.proofs.lemmas.List.{drop_all}
use Rattle.std.proofs.lemmas.List.Elements.{All-cons, All-head, All-tail}
use Rattle.std.specs.List.{concat}
use Rattle.bytes_utils_buf.proofs.Lists.{length-concat-cut_le}
use Rattle.bytes_utils_buf.specs.Packing.{PairsArePacked, IsPacked, after_packing, pack_into_last, last_packed}
use Rattle.bytes_utils_buf.specs.Segments.{HeldSegments, IsPaid, after_accepting, SkipsSegments, NoSegmentEmpty, cut_front_segment, front_segment}
use Rattle.bytes_utils_buf.specs.Tally.{IsBalanced, Tallied}

-- ---- the last list

pub length-last_packed : (xs : List (List ℕ)) → length (last_packed xs) ≤ length (concat xs)
length-last_packed [] = omega arith
length-last_packed (s ∷ []) = omega (arith, length-append s [])
length-last_packed (s ∷ t ∷ xs) = omega (arith, length-last_packed (t ∷ xs), length-append s (concat (t ∷ xs)))

last_at : {X : Type 0} (f : X → List ℕ) (xs : List X) (k : ℕ) (d : X) → k + 1 ≡ length xs → f (get_or xs k d) ≡ last_packed (map f xs)
last_at f [] k d e = absurd (omega arith)
last_at f (x ∷ []) zero d e = refl
last_at f (x ∷ []) (suc k) d e = absurd (omega arith)
last_at f (x ∷ y ∷ xs) zero d e = absurd (omega arith)
last_at f (x ∷ y ∷ xs) (suc k) d e = last_at f (y ∷ xs) k d (omega arith)

pub last_is : {X : Type 0} (f : X → List ℕ) (xs : List X) (x : X) → 0 < length xs → x ≡ get_or xs (length xs - 1) x → f x ≡ last_packed (map f xs)
last_is f xs x some here = ap f here ∙ last_at f xs (length xs - 1) x (omega (arith, some))

pub map-grown : {X : Type 0} (f : X → List ℕ) (xs : List X) (k : ℕ) (x : X) (more : List ℕ) → k + 1 ≡ length xs → f x ≡ last_packed (map f xs) ++ more
    → map f (set xs k x) ≡ pack_into_last more (map f xs)
map-grown f [] k x more e grows = absurd (omega arith)
map-grown f (y ∷ []) zero x more e grows = ap (λ s. s ∷ []) grows
map-grown f (y ∷ []) (suc k) x more e grows = absurd (omega arith)
map-grown f (y ∷ z ∷ xs) zero x more e grows = absurd (omega arith)
map-grown f (y ∷ z ∷ xs) (suc k) x more e grows = ap (λ l. f y ∷ l) (map-grown f (z ∷ xs) k x more (omega arith) grows)

pub concat-pack_into_last : (more : List ℕ) (xs : List (List ℕ)) → 0 < length xs → concat (pack_into_last more xs) ≡ concat xs ++ more
concat-pack_into_last more [] h = absurd (omega arith)
concat-pack_into_last more (s ∷ []) h = append-nil (s ++ more) ∙ ap (λ l. l ++ more) (sym (append-nil s))
concat-pack_into_last more (s ∷ t ∷ xs) h =
    ap (λ l. s ++ l) (concat-pack_into_last more (t ∷ xs) (omega arith)) ∙ sym (append_assoc s (concat (t ∷ xs)) more)

pub length-pack_into_last : (more : List ℕ) (xs : List (List ℕ)) → length (pack_into_last more xs) ≡ length xs
length-pack_into_last more [] = refl
length-pack_into_last more (s ∷ []) = refl
length-pack_into_last more (s ∷ t ∷ xs) = ap suc (length-pack_into_last more (t ∷ xs))

NoSegmentEmpty-pack_into_last : (more : List ℕ) (xs : List (List ℕ)) → NoSegmentEmpty xs → NoSegmentEmpty (pack_into_last more xs)
NoSegmentEmpty-pack_into_last more [] all = all
NoSegmentEmpty-pack_into_last more (s ∷ []) all =
    All-cons (λ s. 0 < length s) (s ++ more) [] (omega (arith, length-append s more, All-head (λ s. 0 < length s) s [] all)) (All-tail (λ s. 0 < length s) s [] all)
NoSegmentEmpty-pack_into_last more (s ∷ t ∷ xs) all =
    All-cons (λ s. 0 < length s) s _ (All-head (λ s. 0 < length s) s (t ∷ xs) all) (NoSegmentEmpty-pack_into_last more (t ∷ xs) (All-tail (λ s. 0 < length s) s (t ∷ xs) all))

-- what is true of every `SegmentedBuf` stays true when the last list grows
pub grown : (old new : List (List ℕ)) (more : List ℕ) (remaining : ℕ) (tally : Tallied) → 0 < length old → new ≡ pack_into_last more old
    → (remaining ≡ length (concat old)) × NoSegmentEmpty old × IsBalanced old tally
    → (remaining + length more ≡ length (concat new)) × NoSegmentEmpty new
    × IsBalanced new (record { given = tally.given + 1; dropped = tally.dropped + 1; calls = tally.calls + 1; turns = tally.turns })
grown old new more remaining tally some lists is = grind (arith, NoSegmentEmpty-pack_into_last, concat-pack_into_last, length-append, length-pack_into_last)

-- nothing is skipped: if no list is empty, all stay
pub same-SkipsSegments : (old new : List (List ℕ)) → NoSegmentEmpty old → SkipsSegments 0 old new → new ≡ old
same-SkipsSegments old new all s = by old s.passed s.rest all (omega (arith, ap length s.bytes))
  where
    by : (xs : List (List ℕ)) (p : ℕ) → new ≡ cut_front_segment s.cut (drop p xs) → NoSegmentEmpty xs → length (concat xs) ≤ length (concat new) → new ≡ xs
    by [] zero rest all most = rest
    by [] (suc p) rest all most = rest
    by (x ∷ xs) zero rest all most =
        let none : s.cut ≡ 0 = omega (
          arith,
          most,
          ap (λ l. length (concat l)) rest,
          All-head (λ x. 0 < length x) x xs all,
          length-append x (concat xs),
          length-append (drop s.cut x) (concat xs),
          length-drop s.cut x,
        ) in
        rest ∙ ap (λ n. drop n x ∷ xs) none
    by (x ∷ xs) (suc p) rest all most =
        absurd (omega (
          arith,
          most,
          ap (λ l. length (concat l)) rest,
          All-head (λ x. 0 < length x) x xs all,
          length-append x (concat xs),
          length-concat-cut_le xs p s.cut,
        ))

-- the only list is passed
pub skips_only : (xs ys : List (List ℕ)) (n : ℕ) → length xs ≡ 1 → n ≡ length (concat xs) → ys ≡ [] → SkipsSegments n xs ys
skips_only [] ys n one all none = absurd (omega (arith, one))
skips_only (s ∷ []) ys n one all none =
    record {
      passed = 1;
      cut = 0;
      within = omega arith;
      rest = none;
      bytes = ap concat none ∙ sym (drop_all n (concat (s ∷ [])) (omega (arith, all)));
      front = λ some. absurd (omega (arith, some, ap length none));
    }
skips_only (s ∷ t ∷ xs) ys n one all none = absurd (omega (arith, one))

-- a row of one list has that list's bytes
pub concat_only : (xs : List (List ℕ)) → length xs ≡ 1 → concat xs ≡ front_segment xs
concat_only [] one = absurd (omega (arith, one))
concat_only (s ∷ []) one = append-nil s
concat_only (s ∷ t ∷ xs) one = absurd (omega (arith, one))

-- without its only list, a row is empty
pub none_left : (s : List ℕ) (xs ys : List (List ℕ)) → length xs ≡ 1 → xs ≡ s ∷ ys → ys ≡ []
none_left s xs [] one is = refl
none_left s xs (y ∷ ys) one is = absurd (omega (arith, one, ap length is))

-- a piece that was copied to the end of the last segment pays for itself
pub paid-packing : (held : HeldSegments) (piece : List ℕ) → IsPaid held (after_packing held piece)
paid-packing held piece = omega (arith, length-pack_into_last piece held.segments)

-- ---- neighbours

pairs-tail : (n : ℕ) (s : List ℕ) (xs : List (List ℕ)) → PairsArePacked n (s ∷ xs) → PairsArePacked n xs
pairs-tail n s [] pairs = tt
pairs-tail n s (t ∷ xs) pairs = pairs.1

pairs-drop : (n k : ℕ) (xs : List (List ℕ)) → PairsArePacked n xs → PairsArePacked n (drop k xs)
pairs-drop n zero xs pairs = pairs
pairs-drop n (suc k) [] pairs = tt
pairs-drop n (suc k) (s ∷ xs) pairs = pairs-drop n k xs (pairs-tail n s xs pairs)

pairs-grow : (n : ℕ) (more : List ℕ) (xs : List (List ℕ)) → PairsArePacked n xs → PairsArePacked n (pack_into_last more xs)
pairs-grow n more [] pairs = tt
pairs-grow n more (s ∷ []) pairs = tt
pairs-grow n more (s ∷ t ∷ []) pairs = (omega (arith, pairs.0, length-append t more), tt)
pairs-grow n more (s ∷ t ∷ u ∷ xs) pairs = (pairs.0, pairs-grow n more (t ∷ u ∷ xs) pairs.1)

pairs-push : (n : ℕ) (xs : List (List ℕ)) (y : List ℕ) → (0 < length xs → n < length (last_packed xs) + length y) → PairsArePacked n xs
    → PairsArePacked n (xs ++ y ∷ [])
pairs-push n [] y over pairs = tt
pairs-push n (s ∷ []) y over pairs = (over (omega arith), tt)
pairs-push n (s ∷ t ∷ xs) y over pairs = (pairs.0, pairs-push n (t ∷ xs) y (λ _. over (omega arith)) pairs.1)

packed-pairs : (n : ℕ) (xs : List (List ℕ)) → PairsArePacked n xs → IsPacked n xs
packed-pairs n [] pairs = tt
packed-pairs n (s ∷ xs) pairs = pairs-tail n s xs pairs

packed-drop : (n k : ℕ) (xs : List (List ℕ)) → IsPacked n xs → IsPacked n (drop k xs)
packed-drop n zero xs packed = packed
packed-drop n (suc k) [] packed = tt
packed-drop n (suc k) (s ∷ xs) packed = packed-pairs n (drop k xs) (pairs-drop n k xs packed)

packed-cut : (n k : ℕ) (xs : List (List ℕ)) → IsPacked n xs → IsPacked n (cut_front_segment k xs)
packed-cut n k [] packed = tt
packed-cut n k (s ∷ xs) packed = packed

-- reading leaves packed lists packed
pub packed_skips : (n m : ℕ) (old new : List (List ℕ)) → SkipsSegments m old new → IsPacked n old → IsPacked n new
packed_skips n m old new s packed = rw s.rest (packed-cut n s.cut (drop s.passed old) (packed-drop n s.passed old packed))

pub packed-grow : (n : ℕ) (more : List ℕ) (xs : List (List ℕ)) → IsPacked n xs → IsPacked n (pack_into_last more xs)
packed-grow n more xs h = grind (arith, pairs-grow)

pub packed-push : (n : ℕ) (xs : List (List ℕ)) (y : List ℕ) → (0 < length xs → n < length (last_packed xs) + length y) → IsPacked n xs → IsPacked n (xs ++ y ∷ [])
packed-push n xs y over h = grind (arith, pairs-push)

-- two neighbours pay for their places
pairs-few : (n : ℕ) (xs : List (List ℕ)) → PairsArePacked n xs → n * length xs ≤ 2 * length (concat xs) + n
pairs-few n [] pairs = omega arith
pairs-few n (s ∷ []) pairs = omega arith
pairs-few n (s ∷ t ∷ xs) pairs =
    let rest = pairs-few n xs (pairs-tail n t xs pairs.1) in
    omega (arith, rest, pairs.0, length-append s (t ++ concat xs), length-append t (concat xs))

pub packed_few : (n : ℕ) (xs : List (List ℕ)) → IsPacked n xs → n * length xs ≤ 2 * length (concat xs) + 2 * n
packed_few n [] packed = omega arith
packed_few n (s ∷ xs) packed = omega (arith, pairs-few n xs packed, length-append s (concat xs))

-- one more list, unless it is empty
pub packed-accepting : (n : ℕ) (held : HeldSegments) (piece : List ℕ) → (0 < length piece → 0 < length held.segments → n < length (last_packed held.segments) + length piece)
    → IsPacked n held.segments → IsPacked n (after_accepting held (piece ∷ [])).segments
packed-accepting n held [] over packed = rw (append-nil held.segments) packed
packed-accepting n held (b ∷ piece) over packed = packed-push n held.segments (b ∷ piece) (over (omega arith)) packed

-- the same of a call that may be refused
pub packed-accepted : {T E : Type 0} (n : ℕ) (old new : HeldSegments) (piece : List ℕ) (result : Result T E) → OnOk result (new ≡ after_accepting old (piece ∷ []))
    → OnErr result (new ≡ old) → (0 < length piece → 0 < length old.segments → n < length (last_packed old.segments) + length piece)
    → IsPacked n old.segments → IsPacked n new.segments
packed-accepted n old new piece (Ok _) ok err over packed = rw ok (packed-accepting n old piece over packed)
packed-accepted n old new piece (Err _) ok err over packed = rw err packed
