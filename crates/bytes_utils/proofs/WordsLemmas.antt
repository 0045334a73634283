-- The first word of a text, from the byte places at which two searches found its ends.
use Rattle.std.proofs.Common.{◌≡◌, refl, sym, ap, subst, ◌∙◌, ℕ, zero, suc, ◌+◌, ◌<◌, ◌≤◌, Bool, true, false, not, List, [], ◌∷◌, ◌++◌, Option, None, Some, MatchOption, unwrap_or, length, take, drop, get_or, arith, add-one, length-append, length-drop, append_assoc, append-nil, take-append-drop, IsUtf8, IsCharBoundary}
use Rattle.std.proofs.Math.Numerals.{one-add}
use Rattle.std.proofs.lemmas.Bool.Decides.{nat_tests}
use Rattle.std.proofs.lemmas.List.Sums.{prefix_len-le-length, prefix_len_passes}
use Rattle.std.proofs.lemmas.List.{length-take-le, drop-take, drop-drop, at_drop_all}
use Rattle.std.proofs.Math.Seq.{get_or-append_seam, take-add, take-length}
use Rattle.std.proofs.lemmas.Str.{chars-nil, chars-append, chars_from_encodes, chars_past_char, IsUtf8-take, IsUtf8-drop, IsCharBoundary-start, IsCharBoundary-end, IsCharBoundary-after_ascii, IsCharBoundary-from_rest, NoCharPasses-nil, NoCharPasses-append, encode_ascii}
use Rattle.std.specs.Char.{IsAsciiGraphic, is_ascii_graphic}
use Rattle.std.specs.List.{prefix_len}
use Rattle.std.specs.Option.{option_map_or}
use Rattle.std.specs.Str.{chars, NonePass, NoCharPasses}
use Rattle.std.specs.Str.Pattern.{FindsBy}
use Rattle.bytes_utils.specs.Lines.{first_led_by}
use Rattle.bytes_utils.specs.Words.{words, ends_word, AreWordsToCome, HoldsSpaceAfterWord, HoldsSpaceBetweenWords}
use Rattle.bytes_utils.specs.Step.{StepGivesFirst}
use Rattle.bytes_utils.proofs.SearchLemmas.{chars-some}

-- if no character passes p in the text, none of its list of characters does
pub NonePass-chars : (p : ℕ → Bool) (text : List ℕ) → IsUtf8 text → NoCharPasses p text → NonePass p (chars text)
NonePass-chars p text text_is none = subst (NonePass p) (chars_from_encodes none.0 text text_is none.1) none.2

from_not_false : (b : Bool) → not b ≡ false → b ≡ true
from_not_false true e = refl
from_not_false false e = cc

-- the number of graphic ASCII characters at the front
abbrev pub graphic_run : List ℕ → ℕ
graphic_run = prefix_len is_ascii_graphic

graphic-range : (b : ℕ) → is_ascii_graphic b ≡ true → IsAsciiGraphic b
graphic-range b graphic = (grind (arith, nat_tests, graphic), grind (arith, nat_tests, graphic))

pub run-boundary : (bs : List ℕ) → IsUtf8 bs → IsCharBoundary bs (graphic_run bs)
run-boundary bs is = by (graphic_run bs) refl
  where
    by : (n : ℕ) → graphic_run bs ≡ n → IsCharBoundary bs (graphic_run bs)
    by zero none = rw none (IsCharBoundary-start bs is)
    by (suc n) some =
        let fits : n < length bs = omega (arith, some, prefix_len-le-length is_ascii_graphic bs) in
        let last = graphic-range (get_or bs n 0) (prefix_len_passes is_ascii_graphic bs n 0 (omega (arith, some))) in
        rw (some, ← add-one) (IsCharBoundary-after_ascii bs n is fits (omega (arith, last.1)))

module _ (is_space : ℕ → Bool) where
  -- whether a character isn't white space
  abbrev pub is_other : ℕ → Bool
  is_other c = not (is_space c)

  -- white space at the front isn't part of a word
  pub words-after_space : (front t : List ℕ) → NonePass is_other front → words is_space (front ++ t) ≡ words is_space t
  words-after_space [] t spaces = refl
  words-after_space (c ∷ front) t spaces = rw (from_not_false (is_space c) spaces.0) (words-after_space front t spaces.1)

  pub words-of_space : (cs : List ℕ) → NonePass is_other cs → words is_space cs ≡ []
  words-of_space [] spaces = refl
  words-of_space (c ∷ cs) spaces = rw (from_not_false (is_space c) spaces.0) (words-of_space cs spaces.1)

  -- a character of a word right before another one
  words-led : (c : ℕ) (t : List ℕ) → is_space c ≡ false → ends_word is_space t ≡ false → words is_space (c ∷ t) ≡ first_led_by c (words is_space t)
  words-led c t other goes_on = rw (other, goes_on) refl

  -- a run without white space that ends at the end of the text or at white space is a word
  pub words-run : (run t : List ℕ) → 0 < length run → NonePass is_space run → ends_word is_space t ≡ true → words is_space (run ++ t) ≡ run ∷ words is_space t
  words-run [] t some others ends = absurd (omega arith)
  words-run (c ∷ []) t some others ends = rw (others.0, ends) refl
  words-run (c ∷ d ∷ run) t some others ends =
      words-led c (d ∷ run ++ t) others.0 others.1.0 ∙ ap (first_led_by c) (words-run (d ∷ run) t (omega arith) others.1 ends)

  -- white space is among these
  abbrev HasSpace : List ℕ → Type 0
  HasSpace cs = (i : ℕ) × (i < length cs) × (is_space (get_or cs i 0) ≡ true)

  -- white space is before t
  space_before : (front t : List ℕ) → 0 < length front → NonePass is_other front → HasSpace (front ++ t)
  space_before [] t some spaces = absurd (omega arith)
  space_before (c ∷ front) t some spaces = (0, omega arith, from_not_false (is_space c) spaces.0)

  -- t begins with white space
  space_after : (front t : List ℕ) → 0 < length t → ends_word is_space t ≡ true → HasSpace (front ++ t)
  space_after front [] some ends = absurd (omega arith)
  space_after front (c ∷ t) some ends =
      (length front, omega (arith, length-append front (c ∷ t)), ap is_space (get_or-append_seam front c t 0) ∙ ends)

  -- white space follows a word
  holds_after : (front run t : List ℕ) → NonePass is_other front → 0 < length run → NonePass is_space run → 0 < length t → ends_word is_space t ≡ true → HoldsSpaceAfterWord is_space (front ++ (run ++ t))
  holds_after front run [] spaces some others more ends = absurd (omega arith)
  holds_after front run (c ∷ t) spaces some others more ends =
      let one : words is_space (front ++ run) ≡ run ∷ [] =
      words-after_space front run spaces ∙ ap (words is_space) (sym (append-nil run)) ∙ words-run run [] some others refl in
      (front ++ run, c, t, append_assoc front run (c ∷ t), ends, λ none. cc)

  -- a text of white space alone has no word
  pub words-none : (text : List ℕ) → IsUtf8 text → NoCharPasses is_other text → words is_space (chars text) ≡ []
  words-none text text_is spaces = words-of_space (chars text) (NonePass-chars is_other text text_is spaces)

  -- a word at the start of `rest` ends at this byte place
  pub record EndsWord (rest : List ℕ) (end : ℕ) : Type 0 where
    pub boundary : IsCharBoundary rest end
    pub none : NoCharPasses is_space (take end rest)
    pub ends : ends_word is_space (chars (drop end rest)) ≡ true

  -- the end of a word, from what a search for white space by a test that decides it returns
  pub EndsWord-from_find : (Decides : (ℕ → Bool) → Type 0) (rest : List ℕ) (r : Option ℕ) → IsUtf8 rest → Decides is_space
      → MatchOption r ((test : ℕ → Bool) → Decides test → FindsBy test rest None)
      (λ n. (next : ℕ) × ((test : ℕ → Bool) → Decides test → FindsBy test rest (Some (n, next))) × (n ≤ next) × IsCharBoundary rest n × IsCharBoundary rest next)
      → EndsWord rest (unwrap_or r (length rest))
  EndsWord-from_find Decides rest None rest_is by found = record {
    boundary = IsCharBoundary-end rest;
    none = rw (take-length rest) (found is_space by);
    ends = at_drop_all (λ z. ends_word is_space (chars z)) rest (length rest) (omega arith) ∙ ap (ends_word is_space) chars-nil;
  }
  EndsWord-from_find Decides rest (Some n) rest_is by found =
      let is = found.1 is_space by in
      record {
        boundary = found.3;
        none = is.0;
        ends = rw (chars_past_char (drop n rest) _ _ (IsUtf8-drop rest n rest_is found.3) is.1.2.split) is.1.1;
      }

  module _ (no_graphic : (c : ℕ) → IsAsciiGraphic c → is_space c ≡ false) where
    run-none : (bs : List ℕ) → NoCharPasses is_space (take (graphic_run bs) bs)
    run-none [] = NoCharPasses-nil is_space
    run-none (b ∷ bs) = by (is_ascii_graphic b) refl (run-none bs)
      where
        by : (v : Bool) → is_ascii_graphic b ≡ v → NoCharPasses is_space (take (graphic_run bs) bs) → NoCharPasses is_space (take (graphic_run (b ∷ bs)) (b ∷ bs))
        by false is others = rw is (NoCharPasses-nil is_space)
        by true is others =
            let graphic = graphic-range b is in
            rw (is, one-add) (NoCharPasses-append is_space (b ∷ []) (take (graphic_run bs) bs) (b ∷ [], ap (λ z. z ++ []) (encode_ascii b (omega (arith, graphic.1))), (no_graphic b graphic, tt)) others)

    -- the front that is passed by bytes and the word after it are one word
    pub EndsWord-after_run : (bs : List ℕ) (end : ℕ) → IsUtf8 bs → EndsWord (drop (graphic_run bs) bs) end → EndsWord bs (graphic_run bs + end)
    EndsWord-after_run bs end is ends =
        let run = graphic_run bs in
        record {
          boundary = IsCharBoundary-from_rest bs run end (run-boundary bs is).0 ends.boundary;
          none = rw take-add (NoCharPasses-append is_space (take run bs) (take end (drop run bs)) (run-none bs) ends.none);
          ends = rw (← drop-drop end run bs) ends.ends;
        }

  -- a text whose first character that isn't white space is at `start`, with `size` bytes in the word from there on
  module _ (text : List ℕ) (text_is : IsUtf8 text) (start next size : ℕ) (starts : IsCharBoundary text start) (found : FindsBy is_other text (Some (start, next))) (is : EndsWord (drop start text) size) where
    front_is : IsUtf8 (take start text)
    front_is = IsUtf8-take text start text_is starts

    rest_is : IsUtf8 (drop start text)
    rest_is = IsUtf8-drop text start text_is starts

    word_is : IsUtf8 (take size (drop start text))
    word_is = IsUtf8-take (drop start text) size rest_is is.boundary

    -- the text is white space, the word, and what is after it
    text_chars : chars text ≡ chars (take start text) ++ (chars (take size (drop start text)) ++ chars (drop size (drop start text)))
    text_chars =
        let rest = drop start text in
        ap chars (sym (take-append-drop start text)) ∙ chars-append (take start text) rest front_is
        ∙ ap (λ z. chars (take start text) ++ z) (ap chars (sym (take-append-drop size rest)) ∙ chars-append (take size rest) (drop size rest) word_is)

    -- the word isn't empty, since it begins with a character that isn't white space
    size_some : (n : ℕ) → ends_word is_space (chars (drop n (drop start text))) ≡ true → 0 < n
    size_some zero ends =
        let begins : chars (drop start text) ≡ found.1.0 ∷ chars (drop next text) = chars_past_char (drop start text) (drop next text) found.1.0 rest_is found.1.2.split in
        let space : is_space found.1.0 ≡ true = ap (ends_word is_space) (sym begins) ∙ ends in
        let other : is_other found.1.0 ≡ true = found.1.1 in
        let both : false ≡ true = ap not (sym space) ∙ other in
        cc
    size_some (suc n) ends = omega arith

    pub word-some : 0 < size
    word-some = size_some size is.ends

    pub space-before : 0 < start → HoldsSpaceBetweenWords is_space (Some text)
    space-before some =
        let front = take start text in
        let size_is : length front ≡ start = length-take-le start text starts.0 in
        let long : 0 < length (chars front) = chars-some front front_is (omega (arith, size_is)) in
        subst HasSpace (sym text_chars) (space_before (chars front) _ long (NonePass-chars is_other front front_is found.0))

    -- the word has characters
    word_long : 0 < length (chars (take size (drop start text)))
    word_long = chars-some (take size (drop start text)) word_is (omega (arith, length-take-le size (drop start text) is.boundary.0, word-some))

    -- and so has what is after it
    following_long : start + size < length text → 0 < length (chars (drop size (drop start text)))
    following_long some =
        let rest = drop start text in
        chars-some (drop size rest) (IsUtf8-drop rest size rest_is is.boundary) (omega (arith, some, length-drop size rest, length-drop start text))

    pub space-after_word : start + size < length text → HoldsSpaceAfterWord is_space (chars text)
    space-after_word some =
        let rest = drop start text in
        let spaces = NonePass-chars is_other (take start text) front_is found.0 in
        let others = NonePass-chars is_space (take size rest) word_is is.none in
        subst (HoldsSpaceAfterWord is_space) (sym text_chars)
        (holds_after (chars (take start text)) (chars (take size rest)) (chars (drop size rest)) spaces word_long others (following_long some) is.ends)

    pub space-following : start + size < length text → HoldsSpaceBetweenWords is_space (Some text)
    space-following some =
        let rest = drop start text in
        let following = drop size rest in
        let whole : chars text ≡ (chars (take start text) ++ chars (take size rest)) ++ chars following = text_chars ∙ sym (append_assoc (chars (take start text)) (chars (take size rest)) (chars following)) in
        subst HasSpace (sym whole) (space_after (chars (take start text) ++ chars (take size rest)) (chars following) (following_long some) is.ends)

    pub words-first : words is_space (chars text) ≡ chars (drop start (take (start + size) text)) ∷ words is_space (chars (drop (start + size) text))
    words-first =
        let rest = drop start text in
        let word : drop start (take (start + size) text) ≡ take size rest = drop-take start size text in
        let following : drop (start + size) text ≡ drop size rest = sym (drop-drop size start text) in
        rw (word, following)
        (ap (words is_space) text_chars ∙ words-after_space (chars (take start text)) _ (NonePass-chars is_other (take start text) front_is found.0)
        ∙ words-run (chars (take size rest)) (chars (drop size rest)) word_long (NonePass-chars is_space (take size rest) word_is is.none) is.ends)

  -- a step that took the word between `start` and `end`, and left what is after it, if anything
  module _ (text word : List ℕ) (rest : Option (List ℕ)) (start end : ℕ) (word_is : word ≡ drop start (take end text)) (rest_is : MatchOption rest (end ≡ length text) (λ r. r ≡ drop end text)) where
    gives_word : (left : Option (List ℕ)) → MatchOption left (end ≡ length text) (λ r. r ≡ drop end text)
        → words is_space (chars text) ≡ chars (drop start (take end text)) ∷ words is_space (chars (drop end text))
        → StepGivesFirst (AreWordsToCome is_space) (Some text) (chars word) left
    gives_word None at_end first = record {
      some = ([], refl);
      each = λ others none.
          let nothing : words is_space (chars (drop end text)) ≡ [] = at_drop_all (λ z. words is_space (chars z)) text end (omega (arith, at_end)) ∙ ap (words is_space) chars-nil in
          rw (none, word_is) (sym (first ∙ ap (λ z. chars (drop start (take end text)) ∷ z) nothing));
    }
    gives_word (Some r) r_is first = record {
      some = (words is_space (chars r), refl);
      each = λ others are. rw (are, r_is, word_is) (sym first);
    }

    pub step-word : words is_space (chars text) ≡ chars (drop start (take end text)) ∷ words is_space (chars (drop end text))
        → (¬ AreWordsToCome is_space (Some text) []) × StepGivesFirst (AreWordsToCome is_space) (Some text) (chars word) rest
    step-word first = (λ none. let both : [] ≡ chars (drop start (take end text)) ∷ words is_space (chars (drop end text)) = none ∙ first in cc, gives_word rest rest_is first)

    pub left-shorter : start < end → end ≤ length text → option_map_or length rest 0 < length text
    left-shorter some fits = grind (arith, Option, length-drop, rest_is)
