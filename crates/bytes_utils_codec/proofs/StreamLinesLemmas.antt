-- Lines from pieces.
use Rattle.std.proofs.Common.{map, IsUtf8, ◌≡◌, ℕ, zero, suc, ◌+◌, ◌<◌, List, [], ◌∷◌, ◌++◌, length, drop, None, inl, inr, ap, ◌∙◌, sym, refl, subst, arith, length-append, append_assoc, get_or}
use Rattle.std.proofs.Math.Seq.{get_or-append_seam}
use Rattle.std.proofs.lemmas.List.{append_cancel_left, take_at, drop_at}
use Rattle.std.proofs.lemmas.List.Elements.{All-nil, All-cons}
use Rattle.std.proofs.lemmas.Str.{chars-nil, chars-append, chars-IsAscii, encodes-append, encodes-chars, IsUtf8-from_ascii, IsUtf8-take, IsUtf8-drop, IsCharBoundary-before_ascii, IsCharBoundary-after_ascii}
use Rattle.std.specs.Str.{IsAscii, chars, encode_utf8_all as encodes}
use Rattle.std.specs.Char.{encode_utf8}
use Rattle.memchr.proofs.lemmas.MatchLemmas.{OccursAt-part}
use Rattle.bytes_utils.specs.Occurrence.{Occurs, OccursAt}
use Rattle.bytes_utils.specs.Lines.{lines, line_feed, carriage_return, IsFeedEnd, IsWithoutReturn}
use Rattle.bytes_utils_codec.specs.Frames.{TakesFrame}
use Rattle.bytes_utils_codec.specs.StreamLines.{TakesStreamLine, FirstStreamLinesLaw, last_stream_line, TextStreamLinesLaw, SameStreamLinesLaw}
use Rattle.bytes_utils.proofs.Boundaries.{OccursAt-fits}
use Rattle.bytes_utils.proofs.OccurrenceLemmas.{OccursAt-append}
use Rattle.bytes_utils.proofs.LinesLemmas.{LacksFeed, LacksFeed-front, lines-at_end, lines-last}
use Rattle.bytes_utils_codec.proofs.StreamRunsLemmas.{same_first_law}
use Rattle.bytes_utils.proofs.SearchLemmas.{FindsFirstOccurrence-from_needle}

-- ---- a line is taken

frame_lacks : (old frame rest : List ℕ) → TakesFrame (line_feed ∷ []) old frame rest → LacksFeed frame
frame_lacks old frame rest takes occurs =
    let fits = OccursAt-fits (line_feed ∷ []) frame occurs.0 (omega arith) occurs.1 in
    let there = OccursAt-append (line_feed ∷ []) frame (line_feed ∷ rest) occurs.0 (omega arith) occurs.1 in
    omega (arith, fits, takes.first.none_before occurs.0 (subst (λ l. OccursAt (line_feed ∷ []) l occurs.0) (sym takes.bytes) there))

-- the bytes before the first line feed, without one carriage return
pub TakesStreamLine-framed : (old frame line rest : List ℕ) → TakesFrame (line_feed ∷ []) old frame rest → IsWithoutReturn line frame → TakesStreamLine old line rest
TakesStreamLine-framed old frame line rest takes (inl returned) = record {
  end = carriage_return ∷ line_feed ∷ [];
  bytes = takes.bytes ∙ ap (λ l. l ++ line_feed ∷ rest) returned ∙ append_assoc line (carriage_return ∷ []) (line_feed ∷ rest);
  ends = inl refl;
  lacks = LacksFeed-front line (carriage_return ∷ []) (subst LacksFeed returned (frame_lacks old frame rest takes));
}
TakesStreamLine-framed old frame line rest takes (inr whole) = record {
  end = line_feed ∷ [];
  bytes = takes.bytes ∙ ap (λ l. l ++ line_feed ∷ rest) whole.0;
  ends = inr (refl, λ front e. whole.1 front (whole.0 ∙ e));
  lacks = subst LacksFeed whole.0 (frame_lacks old frame rest takes);
}

-- ---- runs

pub TakesStreamLine-more : (old line rest piece : List ℕ) → TakesStreamLine old line rest → TakesStreamLine (old ++ piece) line (rest ++ piece)
TakesStreamLine-more old line rest piece takes = record {
  end = takes.end;
  bytes = ap (λ l. l ++ piece) takes.bytes ∙ append_assoc line (takes.end ++ rest) piece ∙ ap (λ l. line ++ l) (append_assoc takes.end rest piece);
  ends = takes.ends;
  lacks = takes.lacks;
}

-- ---- the lines of the bytes

pub first_lines_law : FirstStreamLinesLaw
first_lines_law bytes [] rest are = ap lines are
first_lines_law bytes (line ∷ given) rest are =
    let takes = are.1 in
    ap lines takes.bytes ∙ lines-at_end line takes.end are.0 takes.lacks takes.ends ∙ ap (λ ls. line ∷ ls) (first_lines_law are.0 given rest are.2)

-- ---- the lines of a text

one_ascii : (c : ℕ) → c < 128 → IsAscii (c ∷ [])
one_ascii c ascii zero = ascii
one_ascii c ascii (suc i) = omega arith

-- a text is split before an ASCII character and after it
module _ (xs : List ℕ) (c : ℕ) (ys : List ℕ) (ascii : c < 128) (whole_is : IsUtf8 (xs ++ c ∷ ys)) where
  here : get_or (xs ++ c ∷ ys) (length xs) 0 < 128
  here = omega (arith, ascii, get_or-append_seam xs c ys 0)

  within : length xs < length (xs ++ c ∷ ys)
  within = omega (arith, length-append xs (c ∷ ys))

  pub before_utf8 : IsUtf8 xs
  before_utf8 = subst IsUtf8 (take_at xs (c ∷ ys) (length xs) refl)
      (IsUtf8-take (xs ++ c ∷ ys) (length xs) whole_is (IsCharBoundary-before_ascii (xs ++ c ∷ ys) (length xs) within here))

  pub after_utf8 : IsUtf8 ys
  after_utf8 = subst IsUtf8 (ap (drop (length xs + 1)) (sym (append_assoc xs (c ∷ []) ys)) ∙ drop_at (xs ++ c ∷ []) ys (length xs + 1) (omega (arith, length-append xs (c ∷ []))))
      (IsUtf8-drop (xs ++ c ∷ ys) (length xs + 1) whole_is (IsCharBoundary-after_ascii (xs ++ c ∷ ys) (length xs) whole_is within here))

  chars-around : chars (xs ++ c ∷ ys) ≡ chars xs ++ c ∷ chars ys
  chars-around = chars-append xs (c ∷ ys) before_utf8
      ∙ ap (λ cs. chars xs ++ cs) (chars-append (c ∷ []) ys (IsUtf8-from_ascii (c ∷ []) (one_ascii c ascii)) ∙ ap (λ cs. cs ++ chars ys) (chars-IsAscii (c ∷ []) (one_ascii c ascii)))

-- the end of a line is ASCII
line_cut : (line end rest : List ℕ) → IsFeedEnd line end → IsUtf8 (line ++ (end ++ rest)) → IsUtf8 line × IsUtf8 rest × (chars (line ++ (end ++ rest)) ≡ chars line ++ (end ++ chars rest))
line_cut line end rest (inl returned) is =
    let whole_is : IsUtf8 (line ++ 13 ∷ 10 ∷ rest) = rw returned at is in
    let fed : IsUtf8 (10 ∷ rest) = after_utf8 line 13 (10 ∷ rest) (omega arith) whole_is in
    let chars_are = chars-around line 13 (10 ∷ rest) (omega arith) whole_is ∙ ap (λ cs. chars line ++ 13 ∷ cs) (chars-around [] 10 rest (omega arith) fed) in
    (before_utf8 line 13 (10 ∷ rest) (omega arith) whole_is, after_utf8 [] 10 rest (omega arith) fed, rw returned (rw chars-nil at chars_are))
line_cut line end rest (inr fed) is =
    let whole_is : IsUtf8 (line ++ 10 ∷ rest) = rw fed.0 at is in
    (before_utf8 line 10 rest (omega arith) whole_is, after_utf8 line 10 rest (omega arith) whole_is, rw fed.0 (chars-around line 10 rest (omega arith) whole_is))

-- the characters contain no line feed
chars-lack : (text : List ℕ) → IsUtf8 text → (¬ Occurs (line_feed ∷ []) text) → ¬ Occurs (line_feed ∷ []) (chars text)
chars-lack text is lacks =
    let ascii : IsAscii (10 ∷ []) = one_ascii 10 (omega arith) in
    let feed_is : IsUtf8 (10 ∷ []) = IsUtf8-from_ascii (10 ∷ []) ascii in
    let feed_chars : chars (10 ∷ []) ≡ 10 ∷ [] = chars-IsAscii (10 ∷ []) ascii in
    subst (λ l. ¬ Occurs l (chars text)) feed_chars
    (FindsFirstOccurrence-from_needle text (10 ∷ []) is feed_is (omega arith) None (λ k low high here. lacks (k, OccursAt-part text (10 ∷ []) k here)))

-- the end of the line, by characters
chars-end : (line end : List ℕ) → IsUtf8 line → IsFeedEnd line end → IsFeedEnd (chars line) end
unfolding encode_utf8
chars-end line end is (inl returned) = inl returned
chars-end line end is (inr fed) =
    inr (fed.0, λ front e. fed.1 (encodes front) (sym (encodes-chars line is) ∙ ap encodes e ∙ encodes-append front (carriage_return ∷ [])))

text_line : (text line rest : List ℕ) → IsUtf8 text → TakesStreamLine text line rest → IsUtf8 line × IsUtf8 rest × (lines (chars text) ≡ chars line ∷ lines (chars rest))
text_line text line rest is takes =
    let cut = line_cut line takes.end rest takes.ends (subst IsUtf8 takes.bytes is) in (
      cut.0,
      cut.1,
      ap (λ t. lines (chars t)) takes.bytes ∙ ap lines cut.2 ∙ lines-at_end (chars line) takes.end (chars rest) (chars-lack line cut.0 takes.lacks) (chars-end line takes.end cut.0 takes.ends),
    )

lines-rest : (rest : List ℕ) → IsUtf8 rest → (¬ Occurs (line_feed ∷ []) rest) → lines (chars rest) ≡ map chars (last_stream_line rest)
lines-rest [] is lacks = ap lines chars-nil
lines-rest (c ∷ t) is lacks = lines-last (c ∷ t) is (chars-lack (c ∷ t) is lacks) (omega arith)

pub text_lines_law : TextStreamLinesLaw
text_lines_law text [] rest is are =
    let rest_is = subst IsUtf8 are is in
    record {
      given_utf8 = All-nil IsUtf8;
      rest_utf8 = rest_is;
      lines_are = ap (λ t. lines (chars t)) are;
      all = λ lacks. ap (λ t. lines (chars t)) are ∙ lines-rest rest rest_is lacks;
    }
text_lines_law text (line ∷ given) rest is are =
    let one = text_line text line are.0 is are.1 in
    let later = text_lines_law are.0 given rest one.1 are.2 in
    record {
      given_utf8 = All-cons IsUtf8 line given one.0 later.given_utf8;
      rest_utf8 = later.rest_utf8;
      lines_are = one.2 ∙ ap (λ ls. chars line ∷ ls) later.lines_are;
      all = λ lacks. one.2 ∙ ap (λ ls. chars line ∷ ls) (later.all lacks);
    }

-- ---- one list of lines

TakesStreamLine-same : (old line x y : List ℕ) → TakesStreamLine old line x → TakesStreamLine old line y → x ≡ y
TakesStreamLine-same old line x y s t = same s.end t.end s.ends t.ends (append_cancel_left line (s.end ++ x) (t.end ++ y) (sym s.bytes ∙ t.bytes))
  where
    same : (d e : List ℕ) → IsFeedEnd line d → IsFeedEnd line e → d ++ x ≡ e ++ y → x ≡ y
    same d e (inl a) (inl b) whole = append_cancel_left (13 ∷ 10 ∷ []) x y (rw (a, b) at whole)
    same d e (inr a) (inr b) whole = append_cancel_left (10 ∷ []) x y (rw (a.0, b.0) at whole)
    same d e (inl a) (inr b) whole = absurd (omega (arith, ap (λ l. get_or l 0 0) (rw (a, b.0) at whole)))
    same d e (inr a) (inl b) whole = absurd (omega (arith, ap (λ l. get_or l 0 0) (rw (a.0, b) at whole)))

pub same_lines_law : SameStreamLinesLaw
same_lines_law = same_first_law TakesStreamLine (λ old line other x y s t.
    let first : line ∷ lines x ≡ other ∷ lines y =
    sym (first_lines_law old (line ∷ []) x (x, s, refl)) ∙ first_lines_law old (other ∷ []) y (y, t, refl) in
    let same : line ≡ other = ap (λ ls. get_or ls 0 []) first in
    (same, TakesStreamLine-same old line x y s (subst (λ l. TakesStreamLine old l y) (sym same) t)))
