-- The first line of a text, from the byte place of its first line feed.
use Rattle.std.proofs.Common.{◌≡◌, ◌≢◌, refl, sym, ap, subst, ◌∙◌, ℕ, suc, ◌+◌, ◌<◌, ◌≤◌, ◌==◌, ◌&&◌, if◌then◌else◌, List, [], ◌∷◌, ◌++◌, Option, None, Some, true, false, length, take, drop, take-add, take-append-drop, arith, MatchOption, unwrap_or, Bor, nat_eq, Bool, ◌⊎◌, inl, inr, length-append, length-drop, length-take, append_assoc, append-nil, IsUtf8, IsCharBoundary}
use Rattle.std.proofs.lemmas.List.{take_at}
use Rattle.std.proofs.lemmas.Bool.{ne_eqb, and_left, and_right}
use Rattle.std.proofs.lemmas.Str.{chars-nil, chars-append, encodes-append, encodes-chars, IsUtf8-take, IsUtf8-drop, IsCharBoundary-from_take}
use Rattle.std.specs.List.{starts_with}
use Rattle.std.specs.Char.{encode_utf8}
use Rattle.std.specs.Str.{chars, encode_utf8_all as encodes}
use Rattle.bytes_utils.specs.Characters.{character_place}
use Rattle.bytes_utils.specs.Occurrence.{Occurs, OccursFirstAt}
use Rattle.bytes_utils.specs.Lines.{lines, line_feed, carriage_return, first_led_by, text_after_line, IsFeedEnd, IsWithoutReturn}
use Rattle.bytes_utils.proofs.Boundaries.{OccursAt-fits}
use Rattle.bytes_utils.proofs.OccurrenceLemmas.{cut_whole, OccursAt-append}
use Rattle.bytes_utils.proofs.SearchLemmas.{chars-some}
use Rattle.bytes_utils.proofs.Places.{boundary_at_place, chars-take_place, chars-drop_place}

-- what is left after one carriage return at the end was stripped, or all if there was none
pub IsWithoutReturn-stripped : (stripped : Option (Bor (List ℕ))) (all line : Bor (List ℕ)) → line ≡ unwrap_or stripped all
    → MatchOption stripped ((front : List ℕ) → all.now ≢ front ++ carriage_return ∷ []) (λ x. all.now ≡ x.now ++ carriage_return ∷ []) → IsWithoutReturn line.now all.now
IsWithoutReturn-stripped None all line line_is none = inr (ap (λ z. z.now) (sym line_is), none)
IsWithoutReturn-stripped (Some x) all line line_is stripped = inl (stripped ∙ ap (λ z. z.now ++ carriage_return ∷ []) (sym line_is))

-- where no character follows a boundary the text ends
pub ends-at_boundary : (text : List ℕ) (next : ℕ) → IsUtf8 text → IsCharBoundary text next → chars (drop next text) ≡ [] → next ≡ length text
ends-at_boundary text next text_is boundary none =
    let not_less : next < length text → ⊥ = λ less.
    omega (arith, ap length none, chars-some (drop next text) (IsUtf8-drop text next text_is boundary) (omega (arith, less, length-drop next text))) in
    omega (arith, boundary.0)

-- no line feed is among these
abbrev pub LacksFeed : List ℕ → Type 0
LacksFeed cs = ¬ Occurs (line_feed ∷ []) cs

LacksFeed-tail : (c : ℕ) (cs : List ℕ) → LacksFeed (c ∷ cs) → LacksFeed cs
LacksFeed-tail c cs lacks occurs = lacks (suc occurs.0, occurs.1)

pub LacksFeed-front : (front back : List ℕ) → LacksFeed (front ++ back) → LacksFeed front
LacksFeed-front front back lacks occurs = lacks (occurs.0, OccursAt-append (line_feed ∷ []) front back occurs.0 (omega arith) occurs.1)

not_feed : (c : ℕ) (cs : List ℕ) → LacksFeed (c ∷ cs) → c ≢ 10
not_feed c cs lacks e = lacks (0, ap (λ z. z ∷ []) e)

-- these don't begin with a line feed
abbrev BeginsOtherwise : List ℕ → Type 0
BeginsOtherwise t = starts_with nat_eq t (line_feed ∷ []) ≡ false

BeginsOtherwise-cons : (c : ℕ) (t : List ℕ) → c ≢ 10 → BeginsOtherwise (c ∷ t)
BeginsOtherwise-cons c t other = and_left _ _ (ne_eqb 10 c (λ e. other (sym e)))

-- a character that ends no line is the first of the first line
lines-cons : (c : ℕ) (t : List ℕ) → c ≢ 10 → (c ≢ 13) ⊎ BeginsOtherwise t → lines (c ∷ t) ≡ first_led_by c (lines t)
lines-cons c t other h = grind (arith, and_right, ne_eqb)

-- without a line feed, all is one line
pub lines-whole : (cs : List ℕ) → 0 < length cs → LacksFeed cs → lines cs ≡ cs ∷ []
lines-whole [] some lacks = absurd (omega arith)
lines-whole (c ∷ []) some lacks = lines-cons c [] (not_feed c [] lacks) (inr refl)
lines-whole (c ∷ d ∷ cs) some lacks =
    let others = LacksFeed-tail c (d ∷ cs) lacks in
    lines-cons c (d ∷ cs) (not_feed c (d ∷ cs) lacks) (inr (BeginsOtherwise-cons d cs (not_feed d cs others)))
    ∙ ap (first_led_by c) (lines-whole (d ∷ cs) (omega arith) others)

-- a carriage return right before the line feed isn't part of the line
pub lines-at_return : (cs t : List ℕ) → LacksFeed cs → lines (cs ++ carriage_return ∷ line_feed ∷ t) ≡ cs ∷ lines t
lines-at_return [] t lacks = refl
lines-at_return (c ∷ []) t lacks = lines-cons c (13 ∷ 10 ∷ t) (not_feed c [] lacks) (inr refl)
lines-at_return (c ∷ d ∷ cs) t lacks =
    let others = LacksFeed-tail c (d ∷ cs) lacks in
    lines-cons c (d ∷ cs ++ 13 ∷ 10 ∷ t) (not_feed c (d ∷ cs) lacks) (inr (BeginsOtherwise-cons d (cs ++ 13 ∷ 10 ∷ t) (not_feed d cs others)))
    ∙ ap (first_led_by c) (lines-at_return (d ∷ cs) t others)

-- any other character before the line feed is
pub lines-at_feed : (cs t : List ℕ) → LacksFeed cs → ((front : List ℕ) → cs ≡ front ++ carriage_return ∷ [] → ⊥) → lines (cs ++ line_feed ∷ t) ≡ cs ∷ lines t
lines-at_feed [] t lacks no_return = refl
lines-at_feed (c ∷ []) t lacks no_return =
    lines-cons c (10 ∷ t) (not_feed c [] lacks) (inl (λ e. no_return [] (ap (λ z. z ∷ []) e)))
lines-at_feed (c ∷ d ∷ cs) t lacks no_return =
    let others = LacksFeed-tail c (d ∷ cs) lacks in
    lines-cons c (d ∷ cs ++ 10 ∷ t) (not_feed c (d ∷ cs) lacks) (inr (BeginsOtherwise-cons d (cs ++ 10 ∷ t) (not_feed d cs others)))
    ∙ ap (first_led_by c) (lines-at_feed (d ∷ cs) t others (λ front e. no_return (c ∷ front) (ap (λ z. c ∷ z) e)))

-- the text after the first line feed, and that of a text without one
text_after_line-feed : (cs t : List ℕ) → LacksFeed cs → text_after_line (cs ++ line_feed ∷ t) ≡ t
text_after_line-feed [] t lacks = refl
text_after_line-feed (c ∷ cs) t lacks = rw (ne_eqb c 10 (not_feed c cs lacks)) (text_after_line-feed cs t (LacksFeed-tail c cs lacks))

pub text_after_line-none : (cs : List ℕ) → LacksFeed cs → text_after_line cs ≡ []
text_after_line-none [] lacks = refl
text_after_line-none (c ∷ cs) lacks = rw (ne_eqb c 10 (not_feed c cs lacks)) (text_after_line-none cs (LacksFeed-tail c cs lacks))

-- a line, its line feed, and what is after it
pub lines-at_end : (line end rest : List ℕ) → LacksFeed line → IsFeedEnd line end → lines (line ++ (end ++ rest)) ≡ line ∷ lines rest
lines-at_end line end rest lacks (inl returned) = ap (λ z. lines (line ++ (z ++ rest))) returned ∙ lines-at_return line rest lacks
lines-at_end line end rest lacks (inr fed) = ap (λ z. lines (line ++ (z ++ rest))) fed.0 ∙ lines-at_feed line rest lacks fed.1

-- a text without one is its only line
pub lines-last : (text : List ℕ) → IsUtf8 text → LacksFeed (chars text) → 0 < length text → lines (chars text) ≡ chars text ∷ []
lines-last text text_is lacks some = lines-whole (chars text) (chars-some text text_is some) lacks

-- a character makes lines in one of three ways, two of which give at least one
no_way_is_empty : (ends returns : Bool) (c : ℕ) (ls : List (List ℕ)) → (returns ≡ true → ls ≡ [] → ⊥)
    → (if ends then [] ∷ ls else if returns then ls else first_led_by c ls) ≡ [] → ⊥
no_way_is_empty ends returns c ls some e = grind arith

and_false : (a : Bool) → (a && false) ≡ true → ⊥
and_false true e = cc
and_false false e = cc

has_line : (cs : List ℕ) → 0 < length cs → lines cs ≡ [] → ⊥
has_line [] some e = omega arith
has_line (c ∷ []) some e = no_way_is_empty (c == line_feed) (c == carriage_return && false) c [] (λ both _. and_false (c == carriage_return) both) e
has_line (c ∷ d ∷ t) some e =
    no_way_is_empty (c == line_feed) (c == carriage_return && starts_with nat_eq (d ∷ t) (line_feed ∷ [])) c (lines (d ∷ t)) (λ _ none. has_line (d ∷ t) (omega arith) none) e

-- a text that isn't empty has a line
pub lines-some : (text : List ℕ) → IsUtf8 text → 0 < length text → [] ≢ lines (chars text)
lines-some text text_is some none = has_line (chars text) (chars-some text text_is some) (sym none)

-- an empty text has none
pub lines-none : (text : List ℕ) → length text ≡ 0 → [] ≡ lines (chars text)
lines-none [] e = sym (ap lines chars-nil)
lines-none (b ∷ text) e = absurd (omega (arith, e))

-- a text whose first line feed is at this byte place
module _ (text : List ℕ) (text_is : IsUtf8 text) (at : ℕ) (found : (i : ℕ) × (at ≡ character_place (chars text) i) × OccursFirstAt (line_feed ∷ []) (chars text) i) where
  around : chars text ≡ take found.0 (chars text) ++ line_feed ∷ drop (found.0 + 1) (chars text)
  around = sym (cut_whole (line_feed ∷ []) (chars text) found.0 found.2.here)

  front_lacks : LacksFeed (take found.0 (chars text))
  front_lacks occurs =
      let front = take found.0 (chars text) in
      let fits = OccursAt-fits (line_feed ∷ []) front occurs.0 (omega arith) occurs.1 in
      let there = OccursAt-append (line_feed ∷ []) front (drop found.0 (chars text)) occurs.0 (omega arith) occurs.1 in
      omega (arith, fits, length-take found.0 (chars text), found.2.none_before occurs.0 (rw take-append-drop at there))

  next_place : at + 1 ≡ character_place (chars text) (found.0 + 1)
  unfolding encode_utf8
  next_place = grind (arith, encodes-append, length-append, take-add)

  pub feed-boundary : IsCharBoundary text at
  feed-boundary = subst (IsCharBoundary text) (sym found.1) (boundary_at_place text text_is found.0)

  pub next-boundary : IsCharBoundary text (at + 1)
  next-boundary = subst (IsCharBoundary text) (sym next_place) (boundary_at_place text text_is (found.0 + 1))

  front_chars : chars (take at text) ≡ take found.0 (chars text)
  front_chars = ap (λ k. chars (take k text)) found.1 ∙ chars-take_place text text_is found.0

  rest_chars : chars (drop (at + 1) text) ≡ drop (found.0 + 1) (chars text)
  rest_chars = ap (λ k. chars (drop k text)) next_place ∙ chars-drop_place text text_is (found.0 + 1)

  around_text : chars text ≡ chars (take at text) ++ line_feed ∷ chars (drop (at + 1) text)
  around_text = rw (front_chars, rest_chars) around

  line_lacks : LacksFeed (chars (take at text))
  line_lacks = subst LacksFeed (sym front_chars) front_lacks

  pub text-at : chars (drop (at + 1) text) ≡ text_after_line (chars text)
  text-at = sym (ap text_after_line around_text ∙ text_after_line-feed (chars (take at text)) (chars (drop (at + 1) text)) line_lacks)

  -- if no carriage return is right before the line feed
  line-at_feed : ((front : List ℕ) → take at text ≢ front ++ carriage_return ∷ [])
      → lines (chars text) ≡ chars (take at text) ∷ lines (chars (drop (at + 1) text))
  unfolding encode_utf8
  line-at_feed other =
      let line = chars (take at text) in
      let line_is : IsUtf8 (take at text) = IsUtf8-take text at text_is feed-boundary in
      let no_return : (front : List ℕ) → line ≡ front ++ carriage_return ∷ [] → ⊥ = λ front e.
      other (encodes front) (sym (encodes-chars (take at text) line_is) ∙ ap encodes e ∙ encodes-append front (carriage_return ∷ [])) in
      ap lines around_text ∙ lines-at_feed line (chars (drop (at + 1) text)) line_lacks no_return

  -- if one is
  line-at_return : (line : List ℕ) → IsUtf8 line → take at text ≡ line ++ carriage_return ∷ []
      → lines (chars text) ≡ chars line ∷ lines (chars (drop (at + 1) text))
  unfolding chars
  line-at_return line line_is with_return =
      let t = chars (drop (at + 1) text) in
      let split : chars (take at text) ≡ chars line ++ carriage_return ∷ [] = ap chars with_return ∙ chars-append line (carriage_return ∷ []) line_is in
      let whole : chars text ≡ chars line ++ carriage_return ∷ line_feed ∷ t =
      around_text ∙ ap (λ z. z ++ line_feed ∷ t) split ∙ append_assoc (chars line) (carriage_return ∷ []) (line_feed ∷ t) in
      let lacks = LacksFeed-front (chars line) (carriage_return ∷ []) (subst LacksFeed split line_lacks) in
      ap lines whole ∙ lines-at_return (chars line) t lacks

  -- the line in the text, if it is the text before the line feed without one carriage return
  module _ (line : List ℕ) (line_utf8 : IsUtf8 line) (line_is : IsWithoutReturn line (take at text)) where
    begins : (more : List ℕ) → take at text ≡ line ++ more → (take (length line) text ≡ line) × (length line ≤ length text)
    begins more e =
        let whole : text ≡ line ++ (more ++ drop at text) = sym (take-append-drop at text) ∙ ap (λ z. z ++ drop at text) e ∙ append_assoc line more (drop at text) in
        (ap (take (length line)) whole ∙ take_at line (more ++ drop at text) (length line) refl, omega (arith, ap length whole, length-append line (more ++ drop at text)))

    line_begins : (take (length line) text ≡ line) × (length line ≤ length text)
    line_begins = elim line_is [ inl e ↦ begins (carriage_return ∷ []) e | inr e ↦ begins [] (e.0 ∙ sym (append-nil line)) ]

    pub line-boundary : IsCharBoundary text (length line)
    line-boundary = IsCharBoundary-from_take text (length line) text_is line_begins.1 (subst IsUtf8 (sym line_begins.0) line_utf8)

    pub line-at : lines (chars text) ≡ chars (take (length line) text) ∷ lines (chars (drop (at + 1) text))
    line-at = rw line_begins.0 (elim line_is [ inl e ↦ line-at_return line line_utf8 e | inr e ↦ subst (λ z. lines (chars text) ≡ chars z ∷ lines (chars (drop (at + 1) text))) e.0 (line-at_feed e.1) ])
