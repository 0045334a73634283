-- The places where std's patterns find a separator in a text, by characters.
use Rattle.std.proofs.Common.{◌≡◌, refl, sym, ap, subst, ◌∙◌, ℕ, zero, suc, ◌+◌, ◌<◌, ◌≤◌, ◌==◌, List, [], ◌∷◌, ◌++◌, Bool, true, Option, None, Some, MatchOption, length, take, drop, take-append-drop, append-nil, arith, IsUtf8, eqb-true, eq-eqb}
use Rattle.std.proofs.lemmas.Bool.{eqb-false}
use Rattle.std.proofs.lemmas.Str.{IsUtf8-take, IsUtf8-drop, IsUtf8-past_char, chars_past_char, encodes-chars, len_utf8_bounds}
use Rattle.std.proofs.lemmas.List.{take_at}
use Rattle.std.proofs.Math.Seq.{take-append_seam, drop-append-add}
use Rattle.std.specs.Str.{chars, encode_utf8_all as encodes, NonePass, NoCharPasses}
use Rattle.std.specs.Str.Pattern.{HasTextAt, LacksTextAt, FindsText, RFindsText, FindsChar, FindsBy, HasCharAt}
use Rattle.bytes_utils.specs.Characters.{character_place}
use Rattle.bytes_utils.specs.Occurrence.{OccursAt, Occurs, OccursFirstAt, OccursLastAt}
use Rattle.bytes_utils.proofs.Boundaries.{HasNeedleAt-from_occurs, OccursAt-fits}
use Rattle.bytes_utils.proofs.OccurrenceLemmas.{OccursAt-between}
use Rattle.bytes_utils.proofs.SearchLemmas.{chars-some, law, in_chars}
use Rattle.bytes_utils.proofs.Places.{character_place-less}
use Rattle.bytes_utils.proofs.PartCut.{end_boundary, next_boundary, chars_before, chars_after}
use Rattle.bytes_utils.proofs.WordsLemmas.{NonePass-chars}
use Rattle.bytes_utils_run.specs.Borrowed.{finds_borrowed_text, rfinds_borrowed_text, keeps_borrowed_text, keeps_character, finds_tested, keeps_tested}
use Rattle.bytes_utils_run.proofs.TextBeginnings.{between}

-- p occurs in the characters of the text from byte i to byte j, at the place of which Best holds, and both are character boundaries
pub record IsCutAt (Best : List ℕ → List ℕ → ℕ → Type 0) (p text : List ℕ) (i j : ℕ) : Type 0 where
  pub place : ℕ
  pub found : Best p (chars text) place
  pub longer : i < j
  pub fits : j ≤ length text
  pub before_is : IsUtf8 (take i text)
  pub after_is : IsUtf8 (drop j text)
  pub before : chars (take i text) ≡ take place (chars text)
  pub following : chars (drop j text) ≡ drop (place + length p) (chars text)

-- what was found is such a place, or p does not occur
abbrev pub FindsCut : (List ℕ → List ℕ → ℕ → Type 0) → List ℕ → List ℕ → Option (ℕ × ℕ) → Type 0
FindsCut Best p text found = MatchOption found (¬ Occurs p (chars text)) (λ ends. IsCutAt Best p text ends.0 ends.1)

-- the first place, and the last place
abbrev pub First : List ℕ → List ℕ → ℕ → Type 0
First p t i = OccursFirstAt p t i

abbrev pub Last : List ℕ → List ℕ → ℕ → Type 0
Last p t i = OccursLastAt p t i

-- patterns of which `is` holds find p, which isn't empty, and a search keeps `is`
pub record Seeks {P : Type 0} (finds : P → List ℕ → Option (ℕ × ℕ) → Type 0) (keeps : P → P → Type 0) (Best : List ℕ → List ℕ → ℕ → Type 0) (p : List ℕ) (is : P → Type 0) : Type 0 where
  pub some : 0 < length p
  pub cuts : (pattern : P) (text : List ℕ) (found : Option (ℕ × ℕ)) → is pattern → IsUtf8 text → finds pattern text found → FindsCut Best p text found
  pub kept : (pattern after : P) → is pattern → keeps pattern after → is after

-- ---- a text as the pattern

module _ (text sep : List ℕ) (text_is : IsUtf8 text) (sep_is : IsUtf8 sep) (some : 0 < length sep) where
  -- the byte place of a character
  abbrev place_of : ℕ → ℕ
  place_of = character_place (chars text)

  -- if `str` finds a text in the bytes, it occurs there
  has : (i j : ℕ) → HasTextAt sep text i j → OccursAt sep text i
  has i j here = ap (take (length sep)) here.split ∙ take-append_seam sep (drop j text)

  -- if `str` finds none in the bytes, the characters have none
  lacks : (k : ℕ) → OccursAt (chars sep) (chars text) k → (place_of k ≤ length text → LacksTextAt sep text (place_of k)) → ⊥
  lacks k here none =
      let of_text = subst (λ z. OccursAt (encodes (chars sep)) z (place_of k)) (encodes-chars text text_is) ((law text sep text_is sep_is some (place_of k)).1 (k, refl, here)) in
      let in_bytes : OccursAt sep text (place_of k) = subst (λ z. OccursAt z text (place_of k)) (encodes-chars sep sep_is) of_text in
      let fits = OccursAt-fits sep text (place_of k) some in_bytes in
      none (omega (arith, fits)) (drop (length sep) (drop (place_of k) text))
      (sym (take-append-drop (length sep) (drop (place_of k) text)) ∙ ap (λ z. z ++ drop (length sep) (drop (place_of k) text)) in_bytes)

  chars_fit : (k : ℕ) → OccursAt (chars sep) (chars text) k → k ≤ length (chars text)
  chars_fit k here =
      let fits = OccursAt-fits (chars sep) (chars text) k (chars-some sep sep_is some) here in
      omega (arith, fits)

  cut_at : (Best : List ℕ → List ℕ → ℕ → Type 0) (i j : ℕ) → HasTextAt sep text i j → (k : ℕ) → i ≡ place_of k → OccursAt (chars sep) (chars text) k → Best (chars sep) (chars text) k
      → IsCutAt Best (chars sep) text i j
  cut_at Best i j here k place_is found best =
      let fits = OccursAt-fits sep text i some (has i j here) in
      let ends : j ≡ i + length sep = here.ends in
      let next = next_boundary text sep text_is sep_is i k place_is found in
      record {
        place = k;
        found = best;
        longer = omega (arith, ends, some);
        fits = omega (arith, ends, fits);
        before_is = IsUtf8-take text i text_is (end_boundary text sep text_is sep_is i k place_is found);
        after_is = subst (λ n. IsUtf8 (drop n text)) (sym ends) (IsUtf8-drop text (i + length sep) text_is next);
        before = chars_before text sep text_is sep_is i k place_is found (take i text) refl;
        following = chars_after text sep text_is sep_is i k place_is found (drop j text) (ap (λ n. drop n text) ends);
      }

  -- a text that occurs at a byte place occurs at a place of the characters
  in_characters : (i j : ℕ) → HasTextAt sep text i j → (k : ℕ) × (i ≡ place_of k) × OccursAt (chars sep) (chars text) k
  in_characters i j here = in_chars text sep text_is sep_is some i (HasNeedleAt-from_occurs sep text i some (has i j here))

  pub finds_first : (found : Option (ℕ × ℕ)) → FindsText sep text found → FindsCut First (chars sep) text found
  finds_first None nowhere = λ occurs. lacks occurs.0 occurs.1 (λ fits. nowhere (place_of occurs.0) fits)
  finds_first (Some (i, j)) found =
      let at = in_characters i j found.1 in
      cut_at First i j found.1 at.0 at.1 at.2
      (record {
        here = at.2;
        none_before = λ m there.
            let not_before : m < at.0 → ⊥ = λ less.
            lacks m there (λ fits. found.0 (place_of m) (omega (arith, at.1, character_place-less (chars text) m at.0 less (chars_fit at.0 at.2)))) in
            omega (arith, not_before);
      })

  pub finds_last : (found : Option (ℕ × ℕ)) → RFindsText sep text found → FindsCut Last (chars sep) text found
  finds_last None nowhere = λ occurs. lacks occurs.0 occurs.1 (λ fits. nowhere (place_of occurs.0) fits)
  finds_last (Some (i, j)) found =
      let at = in_characters i j found.1 in
      cut_at Last i j found.1 at.0 at.1 at.2
      (record {
        here = at.2;
        none_after = λ m there.
            let not_after : at.0 < m → ⊥ = λ less.
            lacks m there (λ fits. found.0 (place_of m) (omega (arith, at.1, character_place-less (chars text) at.0 m less (chars_fit m there))) fits) in
            omega (arith, not_after);
      })

module _ (sep : List ℕ) (sep_is : IsUtf8 sep) (some : 0 < length sep) where
  pub Seeks-text : Seeks finds_borrowed_text keeps_borrowed_text First (chars sep) (λ pattern. pattern.now ≡ sep)
  Seeks-text = record {
    some = chars-some sep sep_is some;
    cuts = λ pattern text found is text_is finds. finds_first text sep text_is sep_is some found (subst (λ p. FindsText p text found) is finds);
    kept = λ pattern after is keeps. keeps ∙ is;
  }

  pub Seeks-text_back : Seeks rfinds_borrowed_text keeps_borrowed_text Last (chars sep) (λ pattern. pattern.now ≡ sep)
  Seeks-text_back = record {
    some = chars-some sep sep_is some;
    cuts = λ pattern text found is text_is finds. finds_last text sep text_is sep_is some found (subst (λ p. RFindsText p text found) is finds);
    kept = λ pattern after is keeps. keeps ∙ is;
  }

-- ---- a test of characters as the pattern

-- the first character of the text that passes the test is from byte i to byte j, and both are character boundaries
pub record IsCutBy (passes : ℕ → Bool) (text : List ℕ) (i j : ℕ) : Type 0 where
  pub character : ℕ
  pub passing : passes character ≡ true
  pub longer : i < j
  pub fits : j ≤ length text
  pub before_is : IsUtf8 (take i text)
  pub after_is : IsUtf8 (drop j text)
  pub before_none : NonePass passes (chars (take i text))
  pub whole : chars text ≡ chars (take i text) ++ character ∷ chars (drop j text)

pub IsCutBy-from_finds : (passes : ℕ → Bool) (text : List ℕ) (i j : ℕ) → IsUtf8 text → FindsBy passes text (Some (i, j)) → IsCutBy passes text i j
IsCutBy-from_finds passes text i j text_is found =
    let none = found.0 in
    let c = found.1.0 in
    let at : HasCharAt c text i j = found.1.2 in
    let split : text ≡ encodes [] ++ (encodes none.0 ++ drop i text) = sym (take-append-drop i text) ∙ ap (λ z. z ++ drop i text) (sym none.1) in
    let parts = between [] none.0 text (drop i text) (take i text) text_is split none.1 in
    let ends = at.ends in
    let fits = at.after.0 in
    record {
      character = c;
      passing = found.1.1;
      longer = omega (arith, ends, len_utf8_bounds c);
      fits = omega (arith, ends, fits);
      before_is = parts.0;
      after_is = IsUtf8-past_char (drop i text) (drop j text) c parts.1 at.split;
      before_none = subst (NonePass passes) (sym parts.3) none.2;
      whole = parts.2 ∙ ap (λ z. chars (take i text) ++ z) (chars_past_char (drop i text) (drop j text) c parts.1 at.split);
    }

-- if no character of `front` is c, c occurs after `front` at the earliest
none_before : (c : ℕ) (front back : List ℕ) (k : ℕ) → NonePass (λ d. d == c) front → OccursAt (c ∷ []) (front ++ back) k → length front ≤ k
none_before c [] back k none here = omega arith
none_before c (d ∷ front) back zero none here =
    let is : d ≡ c = cc in
    absurd (eqb-false d c none.0 is)
none_before c (d ∷ front) back (suc k) none here = omega (arith, none_before c front back k none.1 here)

module _ (c : ℕ) (text : List ℕ) (text_is : IsUtf8 text) where
  pub lacks_character : NoCharPasses (λ d. d == c) text → ¬ Occurs (c ∷ []) (chars text)
  lacks_character none occurs =
      let passes = NonePass-chars (λ d. d == c) text text_is none in
      let whole = subst (λ z. OccursAt (c ∷ []) z occurs.0) (sym (append-nil (chars text))) occurs.1 in
      omega (arith, none_before c (chars text) [] occurs.0 passes whole, OccursAt-fits (c ∷ []) (chars text) occurs.0 (omega arith) occurs.1)

  cut_at_character : (i j : ℕ) → IsCutBy (λ d. d == c) text i j → IsCutAt First (c ∷ []) text i j
  cut_at_character i j cut =
      let front = chars (take i text) in
      let back = chars (drop j text) in
      let is : cut.character ≡ c = eqb-true cut.character c cut.passing in
      let whole : chars text ≡ front ++ ((c ∷ []) ++ back) = cut.whole ∙ ap (λ d. front ++ d ∷ back) is in
      let here : OccursAt (c ∷ []) (chars text) (length front) = subst (λ z. OccursAt (c ∷ []) z (length front)) (sym whole) (OccursAt-between front (c ∷ []) back) in
      record {
        place = length front;
        found = record {
          here = here;
          none_before = λ k there. none_before c front ((c ∷ []) ++ back) k cut.before_none (subst (λ z. OccursAt (c ∷ []) z k) whole there);
        };
        longer = cut.longer;
        fits = cut.fits;
        before_is = cut.before_is;
        after_is = cut.after_is;
        before = sym (ap (take (length front)) whole ∙ take_at front ((c ∷ []) ++ back) (length front) refl);
        following = sym (ap (drop (length front + 1)) whole ∙ drop-append-add front ((c ∷ []) ++ back) 1);
      }

  finds_character : (found : Option (ℕ × ℕ)) → FindsBy (λ d. d == c) text found → FindsCut First (c ∷ []) text found
  finds_character None nowhere = lacks_character nowhere
  finds_character (Some (i, j)) found = cut_at_character i j (IsCutBy-from_finds (λ d. d == c) text i j text_is found)

-- what a character finds as a pattern, the test for it finds
FindsBy-from_character : (c : ℕ) (text : List ℕ) (found : Option (ℕ × ℕ)) → FindsChar c text found → FindsBy (λ d. d == c) text found
FindsBy-from_character c text None nowhere = nowhere
FindsBy-from_character c text (Some ends) found = (found.0, (c, eq-eqb c c refl, found.1))

pub Seeks-character : (c : ℕ) → Seeks FindsChar keeps_character First (c ∷ []) (λ pattern. pattern ≡ c)
Seeks-character c = record {
  some = omega arith;
  cuts = λ pattern text found is text_is finds. finds_character c text text_is found (FindsBy-from_character c text found (subst (λ p. FindsChar p text found) is finds));
  kept = λ pattern after is keeps. keeps ∙ is;
}

pub Seeks-tested : {F : Type 0} (answers : F → (ℕ → Bool) → Type 0) (c : ℕ) → Seeks (finds_tested answers) (keeps_tested answers) First (c ∷ []) (λ f. answers f (λ d. d == c))
Seeks-tested answers c = record {
  some = omega arith;
  cuts = λ f text found is text_is finds. finds_character c text text_is found (finds (λ d. d == c) is);
  kept = λ f after is keeps. keeps (λ d. d == c) is;
}
