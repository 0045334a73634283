-- Reading on in held bytes.
use Rattle.std.proofs.Common.{◌≡◌, ℕ, ◌+◌, ◌-◌, ◌<◌, ◌≤◌, List, [], ◌∷◌, ◌++◌, length, take, drop, slice_get, None, Some, ap, ◌∙◌, sym, refl, subst, arith, append_assoc, append-nil, length-append, length-drop, take-append-drop, take_all, drop-drop, ⊎_elim}
use Rattle.std.proofs.lemmas.Bool.{cases_lt}
use Rattle.std.proofs.lemmas.List.{append_cancel_left, drop-append-le, length-take-le}
use Rattle.std.proofs.lemmas.Option.{get_or_from_slice_get, slice_get_within}
use Rattle.std.proofs.Math.Seq.{take-append_seam}
use Rattle.std.specs.List.{concat}
use Rattle.bytes.specs.Unread.{IsChunkOf}
use Rattle.bytes_utils_buf.specs.Segments.{IsPlace}
use Rattle.memchr.specs.Find.{FindsNeedle}
use Rattle.memchr.proofs.lemmas.MatchLemmas.{OccursAt-part, OccursAt-from_part}
use Rattle.bytes_utils.specs.Lines.{IsWithoutReturn, line_feed}
use Rattle.bytes_utils.specs.Occurrence.{Occurs, OccursAt, OccursFirstAt}
use Rattle.bytes_utils_codec.specs.Frames.{TakesFrame, HasFrame, HasFrameWithin}
use Rattle.bytes_utils_codec.specs.StreamLines.{TakesStreamLine}
use Rattle.bytes_utils_codec.specs.Cursor.{CursorReading, unread, passed_on, CursorWanted, Tag, First, Until, UpTo, Line, CursorReads, AreReadByCursor, CursorTakesFirst, CursorTakesUpTo, IsBegunAtCursor, CursorHasNoFrameWithin, SameCursorLaw, CursorStaysLaw, CursorStaysWrongLaw, OneCursorReplyLaw}
use Rattle.bytes_utils.proofs.Boundaries.{OccursAt-fits}
use Rattle.bytes_utils_codec.proofs.FindLemmas.{has_read}
use Rattle.bytes_utils_codec.proofs.FramesLemmas.{HasFrame-taken, HasFrameWithin-taken, TakesFrame-more, TakesFrame-same, first_more}
use Rattle.bytes_utils.proofs.Joins.{append_same}
use Rattle.bytes_utils.proofs.OccurrenceLemmas.{cut_whole, first_places_same}
use Rattle.bytes_utils_codec.proofs.StreamLinesLemmas.{TakesStreamLine-framed, TakesStreamLine-more, same_lines_law}

-- ---- a search from a place on

-- what occurs after the place occurs in the whole
in_whole : (p all : List ℕ) (start k : ℕ) → OccursAt p (drop start all) k → OccursAt p all (start + k)
in_whole p all start k here = ap (take (length p)) (sym (drop-drop k start all)) ∙ here

pub missed_after : (p all : List ℕ) (start : ℕ) → start ≤ length all → FindsNeedle all p start None → ¬ Occurs p (drop start all)
missed_after [] all start within missed occurs =
    missed start (omega arith) (omega (arith, within)) (OccursAt-from_part all [] start (omega (arith, within)) refl)
missed_after (x ∷ p) all start within missed occurs =
    let fits = OccursAt-fits (x ∷ p) (drop start all) occurs.0 (omega arith) occurs.1 in
    let end : start + occurs.0 + length (x ∷ p) ≤ length all = omega (arith, fits, length-drop start all, within) in
    missed (start + occurs.0) (omega arith) (omega (arith, end)) (OccursAt-from_part all (x ∷ p) (start + occurs.0) end (in_whole (x ∷ p) all start occurs.0 occurs.1))

module _ (p all : List ℕ) (start place : ℕ) (found : FindsNeedle all p start (Some place)) where
  pub found_after : OccursFirstAt p (drop start all) (place - start)
  found_after =
      let low : start ≤ place = found.0.low in
      let same : drop (place - start) (drop start all) ≡ drop place all = drop-drop (place - start) start all ∙ ap (λ n. drop n all) (omega (arith, low)) in
      record {
        here = ap (take (length p)) same ∙ OccursAt-part all p place found.1;
        none_before = λ j there. ⊎_elim
            (λ below. absurd (found.0.before (start + j) (omega arith) (omega (arith, below, low))
            (OccursAt-from_part all p (start + j) (omega (arith, below, low, found.1.fits)) (in_whole p all start j there))))
            (λ from. from) (cases_lt j (place - start));
      }

-- ---- a limit

module _ (p old : List ℕ) where
  TakesFrame-first : (n : ℕ) → n + length p ≤ length old → OccursFirstAt p old n → TakesFrame p old (take n old) (drop (n + length p) old)
  TakesFrame-first n fits first = record {
    bytes = sym (cut_whole p old n first.here);
    first = subst (OccursFirstAt p old) (sym (length-take-le n old (omega (arith, fits)))) first;
  }

  -- a front with some bytes has come
  pub HasFrame-first : (n : ℕ) → n + length p ≤ length old → OccursFirstAt p old n → 0 < n → HasFrame p old
  HasFrame-first n fits first some = HasFrame-taken p old n fits (TakesFrame-first n fits first) some

  pub HasFrameWithin-first : (most n : ℕ) → n + length p ≤ length old → OccursFirstAt p old n → 0 < n → n ≤ most → HasFrameWithin most p old
  HasFrameWithin-first most n fits first some within = HasFrameWithin-taken most p old n fits (TakesFrame-first n fits first) some within

  -- a needle within the limit ends a front within it
  pub found_within : (most n : ℕ) → 0 < length p → OccursFirstAt p old n → n ≤ most → ¬ CursorHasNoFrameWithin most p old
  found_within most n some first within none =
      let fits = OccursAt-fits p old n some first.here in
      let rest = drop (n + length p) old in
      let takes = subst (λ bytes. TakesFrame p bytes (take n old) rest) (sym (append-nil old)) (TakesFrame-first n fits first) in
      omega (arith, within, length-take-le n old (omega (arith, fits)), none.1 [] (take n old) rest takes)

-- the bytes of a segment from a place on are the next ones
pub IsChunkOf-segment : (xs : List (List ℕ)) (segment : List ℕ) (place index offset : ℕ) → IsPlace place index offset xs
    → Some segment ≡ slice_get xs index → IsChunkOf (take (length segment - offset) (drop offset segment)) (drop place (concat xs))
IsChunkOf-segment xs segment place index offset at found =
    let read = has_read xs index found refl in
    let within = slice_get_within xs index segment (sym found) in
    let is = get_or_from_slice_get xs index segment [] (sym found) in
    let inside : offset < length segment = omega (arith, at.inside within, ap length is) in
    let chunk = drop offset segment in
    let all : take (length segment - offset) chunk ≡ chunk = take_all _ chunk (omega (arith, length-drop offset segment)) in
    let later = concat (drop (index + 1) xs) in
    let next : drop place (concat xs) ≡ chunk ++ later =
    ap (λ n. drop n (concat xs)) (sym at.before) ∙ sym (drop-drop offset _ (concat xs)) ∙ ap (drop offset) read.bytes
    ∙ drop-append-le offset segment later (omega (arith, inside)) in
    subst (λ l. IsChunkOf l (drop place (concat xs))) (sym all) (record {
      front = ap (take (length chunk)) next ∙ take-append_seam chunk later;
      fits = omega (arith, ap length next, length-append chunk later);
      some = λ _. omega (arith, length-drop offset segment, inside);
    })

-- ---- a tag

module _ (wanted bytes : List ℕ) (n : ℕ) where
  -- as many bytes were compared as this front of the wanted ones has
  compared : n ≤ length wanted → take (length (take n wanted)) bytes ≡ take n wanted → take n bytes ≡ take n wanted
  compared few held = ap (λ k. take k bytes) (sym (length-take-le n wanted few)) ∙ held

  pub begun : n ≡ length bytes → n < length wanted → take (length (take n wanted)) bytes ≡ take n wanted → IsBegunAtCursor wanted bytes
  begun size less held =
      let same = compared (omega (arith, less)) held in (
        drop n wanted,
        sym (take-append-drop n wanted) ∙ ap (λ l. l ++ drop n wanted) (sym same ∙ take_all n bytes (omega (arith, size))),
        omega (arith, less, length-drop n wanted),
      )

-- ---- bytes that are passed

module _ (r : CursorReading) (n : ℕ) where
  around : unread r ≡ take n (unread r) ++ unread (passed_on n r)
  around = sym (take-append-drop n (unread r)) ∙ ap (λ l. take n (unread r) ++ l) (drop-drop n r.at (concat r.segments))

  pub CursorTakesFirst-passed : n ≤ length (unread r) → CursorTakesFirst n (unread r) (take n (unread r)) (unread (passed_on n r))
  CursorTakesFirst-passed some = record { bytes = around; size = length-take-le n (unread r) some }

  pub CursorTakesUpTo-passed : (p : List ℕ) → n ≤ length (unread r) → OccursFirstAt p (unread r) n → CursorTakesUpTo p (unread r) (take n (unread r)) (unread (passed_on n r))
  CursorTakesUpTo-passed p some first = record { bytes = around; first = subst (OccursFirstAt p (unread r)) (sym (length-take-le n (unread r) some)) first }

  pub TakesFrame-passed : (p : List ℕ) → n ≤ length (unread r) → OccursFirstAt p (unread r) n
      → TakesFrame p (unread r) (take n (unread r)) (unread (passed_on (length p) (passed_on n r)))
  TakesFrame-passed p some first =
      let rest : drop (n + length p) (unread r) ≡ unread (passed_on (length p) (passed_on n r))
      = drop-drop (n + length p) r.at (concat r.segments) ∙ ap (λ k. drop k (concat r.segments)) (omega arith) in
      record {
        bytes = sym (cut_whole p (unread r) n first.here) ∙ ap (λ l. take n (unread r) ++ (p ++ l)) rest;
        first = subst (OccursFirstAt p (unread r)) (sym (length-take-le n (unread r) some)) first;
      }

  -- the next line, of this length, after which the feed that ends it was passed
  pub TakesStreamLine-passed : (line_len : ℕ) (new : CursorReading) → line_len ≤ n → n + 1 ≤ length (unread r) → OccursFirstAt (line_feed ∷ []) (unread r) n
      → IsWithoutReturn (take line_len (unread r)) (take n (unread r)) → new ≡ passed_on (n - line_len + 1) (passed_on line_len r)
      → TakesStreamLine (unread r) (take line_len (unread r)) (unread new)
  TakesStreamLine-passed line_len new few some first without is =
      let sum : r.at + line_len + (n - line_len + 1) ≡ r.at + n + 1 = omega (arith, few) in
      let passed : new ≡ passed_on 1 (passed_on n r) = is ∙ ap (λ k. record r { at = k }) sum in
      TakesStreamLine-framed (unread r) (take n (unread r)) (take line_len (unread r)) (unread new)
      (subst (λ s. TakesFrame (line_feed ∷ []) (unread r) (take n (unread r)) (unread s)) (sym passed) (TakesFrame-passed (line_feed ∷ []) (omega (arith, some)) first)) without

  pub passed_tag : (wanted : List ℕ) → n ≡ length wanted → take (length (take n wanted)) (unread r) ≡ take n wanted
      → unread r ≡ wanted ++ unread (passed_on n r)
  passed_tag wanted size held =
      let same = compared wanted (unread r) n (omega (arith, size)) held ∙ take_all n wanted (omega (arith, size)) in
      around ∙ ap (λ l. l ++ unread (passed_on n r)) same

-- ---- the laws

CursorTakesFirst-same : (len : ℕ) (old f g x y : List ℕ) → CursorTakesFirst len old f x → CursorTakesFirst len old g y → (f ≡ g) × (x ≡ y)
CursorTakesFirst-same len old f g x y s t =
    let same = append_same f g x y (s.size ∙ sym t.size) (sym s.bytes ∙ t.bytes) in
    same

CursorReads-same : (wanted : CursorWanted) (old a b x y : List ℕ) → CursorReads wanted old a x → CursorReads wanted old b y → (a ≡ b) × (x ≡ y)
CursorReads-same (Tag bytes) old a b x y s t = (s.0 ∙ sym t.0, append_cancel_left bytes x y (sym s.1 ∙ t.1))
CursorReads-same (First len) old a b x y s t = CursorTakesFirst-same len old a b x y s t
CursorReads-same (Until needle) old a b x y s t = TakesFrame-same needle old a b x y s t
CursorReads-same (UpTo needle) old a b x y s t = append_same a b x y (first_places_same needle old (length a) (length b) s.first t.first) (sym s.bytes ∙ t.bytes)
CursorReads-same Line old a b x y s t =
    let same = same_lines_law old (a ∷ []) (b ∷ []) x y (x, s, refl) (y, t, refl) refl in
    (ap first_item same.0, same.1)
  where
    first_item : List (List ℕ) → List ℕ
    first_item [] = []
    first_item (item ∷ items) = item

CursorReads-more : (wanted : CursorWanted) (old item rest more : List ℕ) → CursorReads wanted old item rest → CursorReads wanted (old ++ more) item (rest ++ more)
CursorReads-more (Tag bytes) old item rest more s = (s.0, ap (λ l. l ++ more) s.1 ∙ append_assoc bytes rest more)
CursorReads-more (First len) old item rest more s = record { bytes = ap (λ l. l ++ more) s.bytes ∙ append_assoc item rest more; size = s.size }
CursorReads-more (Until needle) old item rest more s = TakesFrame-more needle old item rest more s
CursorReads-more (UpTo needle) old item rest more s = record {
  bytes = ap (λ l. l ++ more) s.bytes ∙ append_assoc item rest more;
  first = first_more needle old more (length item) s.first;
}
CursorReads-more Line old item rest more s = TakesStreamLine-more old item rest more s

pub same_read_law : SameCursorLaw
same_read_law [] bytes [] [] x y a b = (refl, sym a ∙ b)
same_read_law [] bytes (f ∷ xs) ys x y a b = absurd a
same_read_law [] bytes [] (g ∷ ys) x y a b = absurd b
same_read_law (w ∷ ws) bytes [] ys x y a b = absurd a
same_read_law (w ∷ ws) bytes (f ∷ xs) [] x y a b = absurd b
same_read_law (w ∷ ws) bytes (f ∷ xs) (g ∷ ys) x y a b =
    let same = CursorReads-same w bytes f g a.0 b.0 a.1 b.1 in
    let later = same_read_law ws b.0 xs ys x y (subst (λ l. AreReadByCursor ws l xs x) same.1 a.2) b.2 in
    ((λ i. same.0 i ∷ later.0 i), later.1)

pub stays_read_law : CursorStaysLaw
stays_read_law [] bytes [] rest more are = ap (λ l. l ++ more) are
stays_read_law [] bytes (item ∷ items) rest more are = absurd are
stays_read_law (w ∷ ws) bytes [] rest more are = absurd are
stays_read_law (w ∷ ws) bytes (item ∷ items) rest more are =
    (are.0 ++ more, CursorReads-more w bytes item are.0 more are.1, stays_read_law ws are.0 items rest more are.2)

pub stays_wrong_law : CursorStaysWrongLaw
stays_wrong_law wanted bytes more never further rest same = never (more ++ further) rest (sym (append_assoc bytes more further) ∙ same)

pub one_reply_law : OneCursorReplyLaw
one_reply_law wanted bytes never = (
  λ begun. never begun.0 [] (sym begun.1 ∙ sym (append-nil wanted)),
  λ item rest reads. never [] rest (append-nil bytes ∙ reads.1),
)
