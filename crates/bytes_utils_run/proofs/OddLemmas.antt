-- Tables of slices that are filled one place after another.
use Rattle.std.proofs.Common.{◌≡◌, ℕ, zero, suc, ◌+◌, ◌-◌, ◌*◌, ◌<◌, ◌≤◌, inl, inr, min, List, [], ◌∷◌, ◌++◌, length, take, drop, set, map, refl, sym, ap, ◌∙◌, arith, append-nil, length-append, length-drop, length-take-le, replicate, take-add, take-append-drop, take_at, Bor}
use Rattle.std.proofs.lemmas.List.{drop_all, drop-drop, drop-replicate, drop-set-lt, length-map, map-append, take_all, take_min, take_more_set, length-replicate, replicate-append-replicate, take-replicate}
use Rattle.std.proofs.lemmas.Bool.{cases_lt}
use Rattle.std.proofs.lemmas.List.Elements.{All-head, All-map, All-nil, All-push, All-same, All-tail}
use Rattle.std.specs.List.{concat}
use Rattle.std.specs.Prelude.{All}
use Rattle.bytes_utils_buf.specs.Slices.{joined_slices, FillsSlices}
use Rattle.bytes_utils_buf.specs.Segments.{NoSegmentEmpty}
use Rattle.bytes_utils_buf.proofs.SlicesLemmas.{joined_slices-push, FillsSlices-full, FillsSlices-same}
use Rattle.bytes_utils_run.specs.Calls.{AreCallSlices}
use Rattle.bytes_utils_run.specs.Odd.{odd_pieces}

-- of no bytes, no place is filled
pub FillsSlices_none : (dst : List (Bor (List ℕ))) → FillsSlices 0 dst dst []
FillsSlices_none dst = record {
  count = omega arith;
  some = All-nil (λ s. 0 < length s.now);
  front = refl;
  whole = λ _. refl;
  tail = refl;
}

-- one more place is filled
pub FillsSlices-one : (n : ℕ) (old mid : List (Bor (List ℕ))) (x : Bor (List ℕ)) (xs : List ℕ) → n < length old → length mid ≡ length old
    → 0 < length x.now → FillsSlices n old mid xs → FillsSlices (n + 1) old (set mid n x) (xs ++ x.now)
FillsSlices-one n old mid x xs room same some fills =
    let P = λ (s : Bor (List ℕ)). 0 < length s.now in
    let taken = take_more_set mid n x (omega (arith, same, room)) in
    let bytes : joined_slices (take (n + 1) (set mid n x)) ≡ xs ++ x.now =
    ap joined_slices taken ∙ joined_slices-push (take n mid) x ∙ ap (λ l. l ++ x.now) (fills.whole room) in
    record {
      count = omega (arith, room);
      some = All-same P _ _ taken (All-push P (take n mid) x fills.some some);
      front = ap (λ l. l ++ drop (length l) (xs ++ x.now)) bytes
          ∙ ap (λ l. (xs ++ x.now) ++ l) (drop_all (length (xs ++ x.now)) (xs ++ x.now) (omega arith))
          ∙ append-nil (xs ++ x.now);
      whole = λ _. bytes;
      tail = drop-set-lt (n + 1) mid n x (omega arith) ∙ sym (drop-drop 1 n mid) ∙ ap (drop 1) fills.tail ∙ drop-drop 1 n old;
    }

-- a chunk of zero bytes is shown
pub FillsSlices-zeros : (n shown size : ℕ) (old mid : List (Bor (List ℕ))) (x : Bor (List ℕ)) → n < length old → length mid ≡ length old
    → 0 < size → size ≤ 8 → x.now ≡ take size (replicate 8 0) → FillsSlices n old mid (replicate shown 0)
    → FillsSlices (n + 1) old (set mid n x) (replicate (shown + size) 0)
FillsSlices-zeros n shown size old mid x room same some most is fills =
    let zero : ℕ = 0 in
    let zeros = is ∙ take-replicate size 8 zero most in
    let all = ap (λ l. replicate shown zero ++ l) zeros ∙ replicate-append-replicate shown size zero in
    FillsSlices-same (n + 1) old (set mid n x) _ _ (sym all)
    (FillsSlices-one n old mid x _ room same (omega (arith, ap length zeros, length-replicate size zero)) fills)

-- a table that is full, or has all of the zero bytes
pub FillsSlices_all_zeros : (n shown left : ℕ) (old mid : List (Bor (List ℕ))) → shown ≤ left → length old ≤ n
    → FillsSlices n old mid (replicate shown 0) → FillsSlices n old mid (replicate left 0)
FillsSlices_all_zeros n shown left old mid most full fills =
    let zero : ℕ = 0 in
    let rest : shown + (left - shown) ≡ left = omega arith in
    FillsSlices-same n old mid _ _ (sym (replicate-append-replicate shown (left - shown) zero ∙ ap (λ k. replicate k zero) rest))
    (FillsSlices-full n old mid (replicate shown zero) (replicate (left - shown) zero) full fills)

-- a byte is shown
pub FillsSlices-byte : (i : ℕ) (old mid : List (Bor (List ℕ))) (x : Bor (List ℕ)) (bytes : List ℕ) → i < length old → length mid ≡ length old
    → i < length bytes → x.now ≡ take (i + 1 - i) (drop i bytes) → FillsSlices i old mid (take i bytes)
    → FillsSlices (i + 1) old (set mid i x) (take (i + 1) bytes)
FillsSlices-byte i old mid x bytes room same within is fills =
    let one : i + 1 - i ≡ 1 = omega arith in
    let byte : x.now ≡ take 1 (drop i bytes) = is ∙ ap (λ k. take k (drop i bytes)) one in
    let all = ap (λ l. take i bytes ++ l) byte ∙ sym (take-add i 1 bytes) in
    let size = length-take-le 1 (drop i bytes) (omega (arith, length-drop i bytes, within)) in
    FillsSlices-same (i + 1) old (set mid i x) _ _ (sym all)
    (FillsSlices-one i old mid x _ room same (omega (arith, ap length byte, size)) fills)

-- a table that is full, or has all of the bytes
pub FillsSlices-all_bytes : (n : ℕ) (old mid : List (Bor (List ℕ))) (bytes : List ℕ) → n ≡ min (length bytes) (length old)
    → FillsSlices n old mid (take n bytes) → FillsSlices n old mid bytes
FillsSlices-all_bytes n old mid bytes is fills = elim (cases_lt n (length old)) [
  | inl less ↦ FillsSlices-same n old mid _ _ (sym (take_all n bytes (omega (arith, is, less)))) fills
  | inr full ↦ FillsSlices-same n old mid _ _ (sym (take-append-drop n bytes)) (FillsSlices-full n old mid (take n bytes) (drop n bytes) full fills)
]

-- one more place has a slice of one byte
pub All_one-push : (i : ℕ) (mid : List (Bor (List ℕ))) (x : Bor (List ℕ)) (bytes : List ℕ) → i < length mid → i < length bytes
    → x.now ≡ take (i + 1 - i) (drop i bytes) → All (λ s. length s.now ≡ 1) (take i mid)
    → All (λ s. length s.now ≡ 1) (take (i + 1) (set mid i x))
All_one-push i mid x bytes room within is ones =
    let P = λ (s : Bor (List ℕ)). length s.now ≡ 1 in
    let one : i + 1 - i ≡ 1 = omega arith in
    let size = length-take-le 1 (drop i bytes) (omega (arith, length-drop i bytes, within)) in
    let fits : length x.now ≡ 1 = ap length is ∙ ap (λ k. length (take k (drop i bytes))) one ∙ size in
    All-same P _ _ (take_more_set mid i x room) (All-push P (take i mid) x ones fits)

-- one piece more is the pieces before, and the piece after them
pub odd_pieces-more : (size count : ℕ) (bytes : List ℕ) → odd_pieces size (count + 1) bytes ≡ odd_pieces size count bytes ++ take size (drop (count * size) bytes) ∷ []
odd_pieces-more size zero bytes =
    let none : 0 ≡ zero * size = omega arith in
    ap (λ k. take size (drop k bytes) ∷ []) none
odd_pieces-more size (suc count) bytes =
    let next : suc count + 1 ≡ suc (count + 1) = omega arith in
    let past : size + count * size ≡ suc count * size = omega arith in
    let following = drop-drop (count * size) size bytes ∙ ap (λ k. drop k bytes) past in
    ap (λ k. odd_pieces size k bytes) next
    ∙ ap (λ l. take size bytes ∷ l) (odd_pieces-more size count (drop size bytes))
    ∙ ap (λ p. take size bytes ∷ (odd_pieces size count (drop size bytes) ++ take size p ∷ [])) following

-- the first eight of `left` zero bytes
pub take_zeros : (size left : ℕ) → size ≡ min left 8 → take 8 (replicate left zero) ≡ replicate size zero
take_zeros size left is =
    sym (take_min 8 (replicate left zero)) ∙ ap (λ k. take k (replicate left zero)) (omega (arith, is, length-replicate left zero))
    ∙ take-replicate size left zero (omega (arith, is))

-- one more place has the next piece of `left` zero bytes
pub odd_pieces-zeros : (n left shown size : ℕ) (mid : List (Bor (List ℕ))) (x : Bor (List ℕ)) → n < length mid → shown < left
    → shown ≡ min (n * 8) left → size ≡ min (left - shown) 8 → x.now ≡ take size (replicate 8 0)
    → map (λ s. s.now) (take n mid) ≡ odd_pieces 8 n (replicate left 0)
    → map (λ s. s.now) (take (n + 1) (set mid n x)) ≡ odd_pieces 8 (n + 1) (replicate left 0)
odd_pieces-zeros n left shown size mid x room more at is shows before =
    let here : n * 8 ≡ shown = omega (arith, more, at) in
    let most : size ≤ 8 = omega (arith, is) in
    let rest : drop (n * 8) (replicate left zero) ≡ replicate (left - shown) zero =
    drop-replicate (n * 8) left zero ∙ ap (λ k. replicate (left - k) zero) here in
    let piece : x.now ≡ take 8 (drop (n * 8) (replicate left zero)) =
    shows ∙ take-replicate size 8 zero most ∙ sym (take_zeros size (left - shown) is) ∙ sym (ap (take 8) rest) in
    ap (map (λ s. s.now)) (take_more_set mid n x room)
    ∙ map-append (λ (s : Bor (List ℕ)). s.now) (take n mid) (x ∷ [])
    ∙ ap (λ l. l ++ x.now ∷ []) before
    ∙ ap (λ p. odd_pieces 8 n (replicate left zero) ++ p ∷ []) piece
    ∙ sym (odd_pieces-more 8 n (replicate left zero))

-- lists that aren't empty have at least a byte each
pub length-none_empty : (lists : List (List ℕ)) → NoSegmentEmpty lists → length lists ≤ length (concat lists)
length-none_empty [] some = omega arith
length-none_empty (s ∷ lists) some =
    let more = length-none_empty lists (All-tail (λ s. 0 < length s) s lists some) in
    let first = All-head (λ s. 0 < length s) s lists some in
    omega (arith, more, first, length-append s (concat lists))

-- the slices in a table of `min n (length unread)` places are those in a table of n places
pub AreCallSlices-table : (n filled : ℕ) (old new : List (Bor (List ℕ))) (unread : List ℕ) → length old ≡ min n (length unread) → length new ≡ length old
    → FillsSlices filled old new unread → AreCallSlices n (map (λ s. s.now) (take filled new)) unread
AreCallSlices-table n filled old new unread places same fills =
    let slices = map (λ (s : Bor (List ℕ)). s.now) (take filled new) in
    let count : length slices ≡ filled = length-map (take filled new) (λ s. s.now) ∙ length-take-le filled new (omega (arith, fills.count, same)) in
    let some : NoSegmentEmpty slices = All-map (λ s. 0 < length s) (λ s. s.now) (take filled new) fills.some in
    let bytes = length-none_empty slices some in
    let front : concat slices ≡ take (length (concat slices)) unread =
    sym (take_at (concat slices) (drop (length (concat slices)) unread) (length (concat slices)) refl) ∙ ap (take (length (concat slices))) fills.front in
    record {
      count = omega (arith, count, fills.count, places);
      some = some;
      front = front;
      whole = λ few. elim (cases_lt filled (length old)) [
        | inl less ↦ fills.whole less
        | inr full ↦ front ∙ take_all (length (concat slices)) unread (omega (arith, full, few, count, bytes, places))
      ];
    }
