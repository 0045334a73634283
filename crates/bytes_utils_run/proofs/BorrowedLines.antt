-- What each run of `str::lines` gives.
use Rattle.std.proofs.Common.{◌≡◌, refl, sym, ap, subst, ◌∙◌, ℕ, zero, suc, ◌+◌, ◌<◌, List, [], ◌∷◌, ◌++◌, length, take, drop, get_or, take-append-drop, arith, ⊎_elim, inl, inr, length-append, length-drop, append_assoc, IsUtf8, IsCharBoundary, eq-or-lt_of_le, eqb-true}
use Rattle.std.proofs.lemmas.Bool.{eqb-false}
use Rattle.std.proofs.lemmas.List.{take_at, get_or-drop, nil_from_length}
use Rattle.std.proofs.Math.Seq.{get_or-append_seam, take-length}
use Rattle.std.proofs.lemmas.Str.{chars-append, encodes-append, encodes-chars, IsUtf8-nil, IsUtf8-take, IsUtf8-drop, IsUtf8-past_char, chars_past_char, IsCharBoundary-before_ascii}
use Rattle.std.specs.Char.{encode_utf8, is_newline}
use Rattle.std.specs.Str.{chars, encode_utf8_all as encodes, NonePass, NoCharPasses}
use Rattle.std.specs.Str.Lines.{IsFirstLine, StripsCarriageReturn}
use Rattle.std.specs.Str.Iter.{lines_steps, lines_rest}
use Rattle.std.specs.declared.str.Lines.{Lines}
use Rattle.bytes_utils.specs.Lines.{lines, line_feed, carriage_return}
use Rattle.bytes_utils.proofs.LinesLemmas.{LacksFeed, LacksFeed-front, lines-whole, lines-at_return, lines-at_feed, lines-none}
use Rattle.bytes_utils.proofs.Boundaries.{OccursAt-fits}
use Rattle.bytes_utils.proofs.SearchLemmas.{chars-some}
use Rattle.bytes_utils.proofs.WordsLemmas.{NonePass-chars}
use Rattle.bytes_utils_run.specs.Borrowed.{GivesBorrowedParts}
use Rattle.bytes_utils_run.proofs.BorrowedRuns.{gives_all_of}

-- if no character passes the test for a line feed, none is a line feed
LacksFeed-from_none : (cs : List ℕ) → NonePass is_newline cs → LacksFeed cs
LacksFeed-from_none [] none occurs = absurd (omega (arith, OccursAt-fits (line_feed ∷ []) [] occurs.0 (omega arith) occurs.1))
LacksFeed-from_none (c ∷ cs) none (zero, here) = let is : c ≡ 10 = cc in eqb-false c 10 none.0 is
LacksFeed-from_none (c ∷ cs) none (suc i, here) = LacksFeed-from_none cs none.1 (i, here)

-- the characters of a text in which no line feed was found
lacks_feed : (text : List ℕ) → IsUtf8 text → NoCharPasses is_newline text → LacksFeed (chars text)
lacks_feed text text_is none = LacksFeed-from_none (chars text) (NonePass-chars is_newline text text_is none)

-- if bytes end with a carriage return, their characters do
chars-with_return : (line : List ℕ) → IsUtf8 (line ++ carriage_return ∷ []) → chars (line ++ carriage_return ∷ []) ≡ chars line ++ carriage_return ∷ []
unfolding chars
chars-with_return line both_is =
    let both = line ++ carriage_return ∷ [] in
    let here : get_or both (length line) 0 ≡ 13 = get_or-append_seam line 13 [] 0 in
    let size = length-append line (13 ∷ []) in
    let boundary : IsCharBoundary both (length line) = IsCharBoundary-before_ascii both (length line) (omega (arith, size)) (omega (arith, here)) in
    let line_is : IsUtf8 line = subst IsUtf8 (take_at line (13 ∷ []) (length line) refl) (IsUtf8-take both (length line) both_is boundary) in
    chars-append line (13 ∷ []) line_is

module _ (text x rest : List ℕ) (text_is : IsUtf8 text) (some : 0 < length text) (first : IsFirstLine text x rest) where
  -- the text ends with this line
  at_end : first.0 ≡ length text → IsUtf8 rest × (lines (chars text) ≡ chars x ∷ lines (chars rest))
  at_end end =
      let all : take first.0 text ≡ text = ap (λ k. take k text) end ∙ take-length text in
      let lacks = lacks_feed text text_is (subst (NoCharPasses is_newline) all first.1) in
      let nothing : length rest ≡ 0 = omega (arith, first.3, end) in
      (rw (nil_from_length rest nothing) IsUtf8-nil, lines-whole (chars text) (chars-some text text_is some) lacks ∙ ap (λ z. chars z ∷ []) (sym (first.4 end)) ∙ ap (λ z. chars x ∷ z) (lines-none rest nothing))

  -- a line feed ends this line
  at_feed : first.0 < length text → IsUtf8 rest × (lines (chars text) ≡ chars x ∷ lines (chars rest))
  unfolding encode_utf8
  at_feed below =
      let n = first.0 in
      let at = first.2 (omega (arith, length-drop n text, below)) in
      let feed : at.0 ≡ 10 = eqb-true at.0 10 at.1 in
      let split : drop n text ≡ encode_utf8 10 ++ rest = at.2 ∙ ap (λ c. encode_utf8 c ++ rest) feed in
      let byte : get_or text n 0 ≡ 10 = ap (λ k. get_or text k 0) (omega arith) ∙ sym (get_or-drop n text 0 0) ∙ ap (λ z. get_or z 0 0) split in
      let boundary : IsCharBoundary text n = IsCharBoundary-before_ascii text n below (omega (arith, byte)) in
      let front_is : IsUtf8 (take n text) = IsUtf8-take text n text_is boundary in
      let back_is : IsUtf8 (drop n text) = IsUtf8-drop text n text_is boundary in
      let lacks = lacks_feed (take n text) front_is first.1 in
      let whole : chars text ≡ chars (take n text) ++ 10 ∷ chars rest =
      ap chars (sym (take-append-drop n text)) ∙ chars-append (take n text) (drop n text) front_is ∙ ap (λ z. chars (take n text) ++ z) (chars_past_char (drop n text) rest 10 back_is split) in
      (IsUtf8-past_char (drop n text) rest 10 back_is split, ap lines whole ∙ line (take n text) front_is lacks (first.5 below))
    where
      line : (l : List ℕ) → IsUtf8 l → LacksFeed (chars l) → StripsCarriageReturn l x → lines (chars l ++ 10 ∷ chars rest) ≡ chars x ∷ lines (chars rest)
      line l l_is lacks (inl same) =
          lines-at_feed (chars l) (chars rest) lacks (λ front e.
          let bytes : l ≡ encodes front ++ 13 ∷ [] = sym (encodes-chars l l_is) ∙ ap encodes e ∙ encodes-append front (13 ∷ []) in
          let size : length l ≡ length (encodes front) + 1 = ap length bytes ∙ length-append (encodes front) (13 ∷ []) in
          same.1 (omega (arith, size)) (ap (λ k. get_or l k 0) (omega (arith, size)) ∙ ap (λ z. get_or z (length (encodes front)) 0) bytes ∙ get_or-append_seam (encodes front) 13 [] 0))
          ∙ ap (λ z. chars z ∷ lines (chars rest)) (sym same.0)
      line l l_is lacks (inr with_return) =
          let split : chars l ≡ chars x ++ 13 ∷ [] = ap chars with_return ∙ chars-with_return x (subst IsUtf8 with_return l_is) in
          ap (λ z. lines (z ++ 10 ∷ chars rest)) split ∙ ap lines (append_assoc (chars x) (13 ∷ []) (10 ∷ chars rest))
          ∙ lines-at_return (chars x) (chars rest) (LacksFeed-front (chars x) (13 ∷ []) (subst LacksFeed split lacks))

  first_line : IsUtf8 rest × (lines (chars text) ≡ chars x ∷ lines (chars rest))
  first_line = ⊎_elim at_end at_feed (eq-or-lt_of_le (omega (arith, first.3)))

pub lines-gives : (s : Lines) (text : List ℕ) → lines_rest s ≡ text → IsUtf8 text → GivesBorrowedParts lines_steps s (λ parts. parts ≡ lines (chars text))
lines-gives = gives_all_of lines_steps lines_rest lines (λ s u s_is step. lines-none (lines_rest s) step.0.0)
    (λ s t x s_is step. first_line (lines_rest s) x.now (lines_rest t) s_is step.0.0 step.0.2)
