-- The next bytes of many lists, list by list.
use Rattle.std.proofs.Common.{◌≡◌, ◌≢◌, ℕ, ◌+◌, ◌-◌, ◌<◌, ◌≤◌, List, [], ◌∷◌, ◌++◌, zero, suc, length, map, take, drop, min, get_or, ap, subst, ◌∙◌, sym, refl, arith, append_assoc, length-append, length-drop, length-take}
use Rattle.std.proofs.lemmas.List.{length-map, append_cancel_left, drop_all, drop-drop, take_all}
use Rattle.std.proofs.lemmas.List.Elements.{All-nil, All-cons, All-head, All-tail}
use Rattle.std.specs.List.{concat}
use Rattle.bytes.proofs.Chunks.{concat_some}
use Rattle.bytes_utils_buf.specs.Segments.{cut_front_segment, front_segment, segments_from, take_from_segments, NoSegmentEmpty}
use Rattle.bytes_utils_buf.proofs.Lists.{cut_front_segment-none, front_segment_drop, length-cut_front_segment}

-- the wanted bytes of the first list, and then those of the lists after it
take_prefix : (n : ℕ) (x ys : List ℕ) → take n (x ++ ys) ≡ take n x ++ take (n - length (take n x)) ys
take_prefix zero x ys = refl
take_prefix (suc n) [] ys = let d : suc n - 0 ≡ suc n = omega arith in rw d refl
take_prefix (suc n) (b ∷ x) ys =
    let d : suc n - suc (length (take n x)) ≡ n - length (take n x) = omega arith in
    rw d (ap (λ l. b ∷ l) (take_prefix n x ys))

-- ---- lists from a place on

-- bytes are wanted from the place on, so there is an element
pub inside : {X : Type 0} (f : X → List ℕ) (items : List X) (passed offset n : ℕ) → 0 < n → n ≤ length (concat (segments_from passed offset (map f items))) → passed < length items
inside f items passed offset n some enough =
    let xs = map f items in
    omega (arith, concat_some (segments_from passed offset xs) (omega (arith, some, enough)), length-cut_front_segment offset (drop passed xs), length-drop passed xs, length-map items f)

-- the first of these lists
pub front_from : (xs : List (List ℕ)) (passed offset : ℕ) → front_segment (segments_from passed offset xs) ≡ drop offset (get_or xs passed [])
front_from xs passed offset = grind (arith, drop_all, front_segment_drop)

-- the lists after it
next_from : (xs : List (List ℕ)) (passed offset : ℕ) → drop 1 (segments_from passed offset xs) ≡ segments_from (passed + 1) 0 xs
next_from xs passed offset = cut (drop passed xs) ∙ drop-drop 1 passed xs ∙ cut_front_segment-none (drop (passed + 1) xs)
  where
    cut : (ys : List (List ℕ)) → drop 1 (cut_front_segment offset ys) ≡ drop 1 ys
    cut [] = refl
    cut (y ∷ ys) = refl

-- the place before all bytes
pub all_from : (xs : List (List ℕ)) → segments_from 0 0 xs ≡ xs
all_from xs = sym (cut_front_segment-none xs)

-- ---- a number of bytes is wanted

-- the bytes so far are the first of those wanted, and with the rest, which are in the lists, they are all
pub record Has (lists : List (List ℕ)) (wanted : ℕ) (all had : List ℕ) : Type 0 where
  pub within : length had ≤ wanted
  pub enough : wanted - length had ≤ length (concat lists)
  pub bytes : had ++ take (wanted - length had) (concat lists) ≡ all

-- the wanted bytes of the next list are added, and the lists after it are left
pub Has-more : (lists : List (List ℕ)) (passed offset wanted : ℕ) (all had piece : List ℕ) → Has (segments_from passed offset lists) wanted all had → length had < wanted
    → piece ≡ take (wanted - length had) (front_segment (segments_from passed offset lists)) → Has (segments_from (passed + 1) 0 lists) wanted all (had ++ piece)
Has-more lists passed offset wanted all had piece h more is =
    subst (λ (left : List (List ℕ)). Has left wanted all (had ++ piece)) (next_from lists passed offset) (by (segments_from passed offset lists) h is)
  where
    by : (here : List (List ℕ)) → Has here wanted all had → piece ≡ take (wanted - length had) (front_segment here) → Has (drop 1 here) wanted all (had ++ piece)
    by [] h is = absurd (omega (arith, more, h.enough))
    by (x ∷ rest) h is =
        let n = wanted - length had in
        let size = length-append had piece in
        let part : length piece ≡ min n (length x) = ap length is ∙ length-take n x in
        let left : wanted - length (had ++ piece) ≡ n - length piece = omega (arith, size) in
        record {
          within = omega (arith, size, part, h.within);
          enough = omega (arith, left, part, h.enough, length-append x (concat rest));
          bytes = append_assoc had piece _ ∙ ap (λ m. had ++ (piece ++ take m (concat rest))) left
              ∙ ap (λ l. had ++ (l ++ take (n - length l) (concat rest))) is ∙ ap (λ l. had ++ l) (sym (take_prefix n x (concat rest))) ∙ h.bytes;
        }

-- ---- a text that the lists may start with

-- the front of the text is their first bytes, and the rest of the text is to be compared with the lists
pub record Matches (lists : List (List ℕ)) (text all rest : List ℕ) : Type 0 where
  pub front : List ℕ
  pub split : text ≡ front ++ rest
  pub has : Has lists (length text) all front

module _ (lists : List (List ℕ)) (passed offset : ℕ) (text all rest piece : List ℕ) (m : Matches (segments_from passed offset lists) text all rest)
    (some : 0 < length rest) (is : piece ≡ take (length rest) (front_segment (segments_from passed offset lists))) where
  with_piece : Has (segments_from (passed + 1) 0 lists) (length text) all (m.front ++ piece)
  with_piece =
      let size = ap length m.split ∙ length-append m.front rest in
      let left : length rest ≡ length text - length m.front = omega (arith, size) in
      Has-more lists passed offset (length text) all m.front piece m.has (omega (arith, size, some)) (is ∙ ap (λ n. take n (front_segment (segments_from passed offset lists))) left)

  pub Matches-more : (following : List ℕ) → rest ≡ piece ++ following → Matches (segments_from (passed + 1) 0 lists) text all following
  Matches-more following same = grind (arith, append_assoc, with_piece)

  -- if the rest does not start with the next piece, the lists do not start with the text
  pub Matches-differs : ((following : List ℕ) → rest ≢ piece ++ following) → all ≢ text
  Matches-differs none same =
      none _ (append_cancel_left m.front rest _ (sym m.split ∙ sym same ∙ sym with_piece.bytes ∙ append_assoc m.front piece _))

-- ---- pieces, list by list

-- the given pieces are the first of all pieces, and the bytes that are left are in the lists ahead
pub record Gives (ahead : List (List ℕ)) (left : ℕ) (all given : List (List ℕ)) : Type 0 where
  pub enough : left ≤ length (concat ahead)
  pub lists : given ++ take_from_segments left ahead ≡ all

pub Gives-more : (lists : List (List ℕ)) (passed offset left : ℕ) (all given : List (List ℕ)) (piece : List ℕ) → Gives (segments_from passed offset lists) left all given → 0 < left
    → piece ≡ take left (front_segment (segments_from passed offset lists)) → Gives (segments_from (passed + 1) 0 lists) (left - length piece) all (given ++ piece ∷ [])
Gives-more lists passed offset left all given piece h some is =
    subst (λ (ahead : List (List ℕ)). Gives ahead (left - length piece) all (given ++ piece ∷ [])) (next_from lists passed offset) (by (segments_from passed offset lists) left h some is)
  where
    by : (here : List (List ℕ)) (n : ℕ) → Gives here n all given → 0 < n → piece ≡ take n (front_segment here) → Gives (drop 1 here) (n - length piece) all (given ++ piece ∷ [])
    by here zero h some is = absurd (omega arith)
    by [] (suc n) h some is = absurd (omega (arith, h.enough))
    by (x ∷ rest) (suc n) h some is =
        let size = ap length is ∙ length-take (suc n) x in
        let left : suc n - length piece ≡ suc n - length x = omega (arith, size) in
        record {
          enough = omega (arith, size, h.enough, length-append x (concat rest));
          lists = append_assoc given (piece ∷ []) _ ∙ (λ j. given ++ is j ∷ take_from_segments (left j) rest) ∙ h.lists;
        }

pub concat-take_from_segments : (n : ℕ) (xs : List (List ℕ)) → concat (take_from_segments n xs) ≡ take n (concat xs)
concat-take_from_segments zero xs = refl
concat-take_from_segments (suc n) [] = refl
concat-take_from_segments (suc n) (x ∷ xs) =
    let left : suc n - length x ≡ suc n - length (take (suc n) x) = omega (arith, length-take (suc n) x) in
    ap (λ l. take (suc n) x ++ l) (concat-take_from_segments (suc n - length x) xs ∙ ap (λ m. take m (concat xs)) left) ∙ sym (take_prefix (suc n) x (concat xs))

pub NoSegmentEmpty-take_from_segments : (n : ℕ) (xs : List (List ℕ)) → NoSegmentEmpty xs → NoSegmentEmpty (take_from_segments n xs)
NoSegmentEmpty-take_from_segments zero xs all = All-nil (λ s. 0 < length s)
NoSegmentEmpty-take_from_segments (suc n) [] all = all
NoSegmentEmpty-take_from_segments (suc n) (x ∷ xs) all =
    All-cons (λ s. 0 < length s) (take (suc n) x) (take_from_segments (suc n - length x) xs)
    (omega (arith, length-take (suc n) x, All-head (λ s. 0 < length s) x xs all))
    (NoSegmentEmpty-take_from_segments (suc n - length x) xs (All-tail (λ s. 0 < length s) x xs all))

-- all bytes are all lists
pub take_from_segments-all : (xs : List (List ℕ)) (n : ℕ) → NoSegmentEmpty xs → n ≡ length (concat xs) → take_from_segments n xs ≡ xs
take_from_segments-all [] zero all e = refl
take_from_segments-all [] (suc n) all e = absurd (omega (arith, e))
take_from_segments-all (x ∷ xs) zero all e = absurd (omega (arith, e, All-head (λ s. 0 < length s) x xs all, length-append x (concat xs)))
take_from_segments-all (x ∷ xs) (suc n) all e =
    let size = length-append x (concat xs) in
    let first : take (suc n) x ≡ x = take_all (suc n) x (omega (arith, e, size)) in
    let others = take_from_segments-all xs (suc n - length x) (All-tail (λ s. 0 < length s) x xs all) (omega (arith, e, size)) in
    (λ i. first i ∷ others i)
