-- Lines that end with a line feed, a carriage return, or both.
use Rattle.std.proofs.Common.{◌≡◌, ◌≢◌, ◌==◌, ℕ, List, [], ◌∷◌, ◌++◌, ◌<◌, inl, inr, true, drop, get_or, ap, ◌∙◌, sym, refl, subst, arith, IsUtf8}
use Rattle.std.proofs.lemmas.Bool.{ne_eqb, and_left}
use Rattle.std.proofs.lemmas.List.{append_cancel_left}
use Rattle.std.proofs.lemmas.List.Elements.{All-nil, All-cons, All-head, All-tail}
use Rattle.bytes_utils.specs.Lines.{line_feed, carriage_return, first_led_by}
use Rattle.bytes_utils_codec.specs.StreamLines.{last_stream_line}
use Rattle.bytes_utils_codec.specs.UniversalLines.{universal_lines, IsInUniversalLine, LacksUniversalEnds, IsUniversalEnd, IsFirstUniversalLine, AreFirstUniversalLines, AllUniversalLinesLaw, TextUniversalLinesLaw, SameUniversalLinesLaw}
use Rattle.bytes_utils_codec.proofs.StreamLinesLemmas.{before_utf8, after_utf8}
use Rattle.bytes_utils_codec.proofs.StreamRunsLemmas.{same_first_law}

-- ---- the lines of the bytes

lines-cons : (c : ℕ) (t : List ℕ) → IsInUniversalLine c → universal_lines (c ∷ t) ≡ first_led_by c (universal_lines t)
lines-cons c t inside = rw (ne_eqb c 10 inside.0, ne_eqb c 13 inside.1) refl

-- the line that an end closes
lines-at_end : (end rest : List ℕ) → IsUniversalEnd end rest → universal_lines (end ++ rest) ≡ [] ∷ universal_lines rest
lines-at_end end rest (inl fed) = rw fed refl
lines-at_end end rest (inr (inl both)) = rw both refl
lines-at_end end rest (inr (inr returned)) = rw returned.0 (by rest returned.1)
  where
    by : (rest : List ℕ) → ((t : List ℕ) → rest ≢ line_feed ∷ t) → universal_lines (carriage_return ∷ rest) ≡ [] ∷ universal_lines rest
    by [] other = refl
    by (d ∷ r) other = rw (and_left (line_feed == d) true (ne_eqb 10 d (λ e. other r (ap (λ x. x ∷ r) (sym e))))) refl

lines-ended : (line end rest : List ℕ) → LacksUniversalEnds line → IsUniversalEnd end rest → universal_lines (line ++ (end ++ rest)) ≡ line ∷ universal_lines rest
lines-ended [] end rest lacks ends = lines-at_end end rest ends
lines-ended (c ∷ line) end rest lacks ends =
    lines-cons c (line ++ (end ++ rest)) (All-head IsInUniversalLine c line lacks) ∙ ap (first_led_by c) (lines-ended line end rest (All-tail IsInUniversalLine c line lacks) ends)

lines-last : (bytes : List ℕ) → LacksUniversalEnds bytes → universal_lines bytes ≡ last_stream_line bytes
lines-last [] lacks = refl
lines-last (c ∷ []) lacks = lines-cons c [] (All-head IsInUniversalLine c [] lacks)
lines-last (c ∷ d ∷ t) lacks =
    lines-cons c (d ∷ t) (All-head IsInUniversalLine c (d ∷ t) lacks) ∙ ap (first_led_by c) (lines-last (d ∷ t) (All-tail IsInUniversalLine c (d ∷ t) lacks))

first_lines : (bytes : List ℕ) (given : List (List ℕ)) (rest : List ℕ) → AreFirstUniversalLines bytes given rest → universal_lines bytes ≡ given ++ universal_lines rest
first_lines bytes [] rest are = ap universal_lines are
first_lines bytes (line ∷ given) rest are =
    let ended = are.1.1 in
    ap universal_lines ended.whole ∙ lines-ended line are.1.0 are.0 ended.lacks ended.ends ∙ ap (λ ls. line ∷ ls) (first_lines are.0 given rest are.2)

pub all_universal_law : AllUniversalLinesLaw
all_universal_law bytes given rest are =
    let lines_are = first_lines bytes given rest are in
    record { lines_are = lines_are; all = λ lacks. lines_are ∙ ap (λ ls. given ++ ls) (lines-last rest lacks) }

-- ---- one list of lines

same_rest : (line d e x y : List ℕ) → IsUniversalEnd d x → IsUniversalEnd e y → line ++ (d ++ x) ≡ line ++ (e ++ y) → x ≡ y
same_rest line d e x y a b whole = by d e a b (append_cancel_left line (d ++ x) (e ++ y) whole)
  where
    by : (d e : List ℕ) → IsUniversalEnd d x → IsUniversalEnd e y → d ++ x ≡ e ++ y → x ≡ y
    by d e (inl a) (inl b) whole = ap (drop 1) (rw (a, b) at whole)
    by d e (inl a) (inr (inl b)) whole = absurd (omega (arith, ap (λ l. get_or l 0 0) (rw (a, b) at whole)))
    by d e (inl a) (inr (inr b)) whole = absurd (omega (arith, ap (λ l. get_or l 0 0) (rw (a, b.0) at whole)))
    by d e (inr (inl a)) (inl b) whole = absurd (omega (arith, ap (λ l. get_or l 0 0) (rw (a, b) at whole)))
    by d e (inr (inl a)) (inr (inl b)) whole = ap (drop 2) (rw (a, b) at whole)
    by d e (inr (inl a)) (inr (inr b)) whole = absurd (b.1 x (sym (ap (drop 1) (rw (a, b.0) at whole))))
    by d e (inr (inr a)) (inl b) whole = absurd (omega (arith, ap (λ l. get_or l 0 0) (rw (a.0, b) at whole)))
    by d e (inr (inr a)) (inr (inl b)) whole = absurd (a.1 y (ap (drop 1) (rw (a.0, b) at whole)))
    by d e (inr (inr a)) (inr (inr b)) whole = ap (drop 1) (rw (a.0, b.0) at whole)

pub same_universal_law : SameUniversalLinesLaw
same_universal_law = same_first_law IsFirstUniversalLine (λ old line other x y s t.
    let first : line ∷ universal_lines x ≡ other ∷ universal_lines y =
    sym (first_lines old (line ∷ []) x (x, s, refl)) ∙ first_lines old (other ∷ []) y (y, t, refl) in
    let same : line ≡ other = ap (λ ls. get_or ls 0 []) first in
    (same, same_rest line s.0 t.0 x y s.1.ends t.1.ends (sym s.1.whole ∙ t.1.whole ∙ ap (λ l. l ++ (t.0 ++ y)) (sym same))))

-- ---- lines of a text

pub text_universal_law : TextUniversalLinesLaw
text_universal_law text [] rest is are = (All-nil IsUtf8, subst IsUtf8 are is)
text_universal_law text (line ∷ given) rest is are =
    let ended = are.1.1 in
    let one = text_line line are.1.0 are.0 ended.ends (subst IsUtf8 ended.whole is) in
    let later = text_universal_law are.0 given rest one.1 are.2 in
    (All-cons IsUtf8 line given one.0 later.0, later.1)
  where
    -- the end of a line is ASCII
    cut : (line rest : List ℕ) (c : ℕ) → c < 128 → IsUtf8 (line ++ c ∷ rest) → IsUtf8 line × IsUtf8 rest
    cut line rest c ascii is = (before_utf8 line c rest ascii is, after_utf8 line c rest ascii is)

    text_line : (line end rest : List ℕ) → IsUniversalEnd end rest → IsUtf8 (line ++ (end ++ rest)) → IsUtf8 line × IsUtf8 rest
    text_line line end rest (inl fed) is = cut line rest 10 (omega arith) (rw fed at is)
    text_line line end rest (inr (inr returned)) is = cut line rest 13 (omega arith) (rw returned.0 at is)
    text_line line end rest (inr (inl both)) is =
        let returned = cut line (10 ∷ rest) 13 (omega arith) (rw both at is) in
        (returned.0, (cut [] rest 10 (omega arith) returned.1).1)
