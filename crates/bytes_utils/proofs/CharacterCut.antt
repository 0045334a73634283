-- A text split by the empty separator: after its first character, or before its last one.
use Rattle.std.proofs.Common.{◌≡◌, sym, ap, subst, ◌∙◌, ℕ, ◌-◌, ◌<◌, ◌≤◌, List, [], ◌∷◌, Option, Some, length, map, take, drop, reverse, true, false, arith, length-drop, length-take, IsUtf8, IsCharBoundary}
use Rattle.std.proofs.lemmas.Str.{chars-nil}
use Rattle.std.specs.Str.{chars}
use Rattle.bytes_utils.specs.Characters.{character_place}
use Rattle.bytes_utils.specs.EmptySeparator.{by_empty_separator, by_empty_separator_backward}
use Rattle.bytes_utils.specs.Splitting.{Splitting, AreForwardPartsToCome, AreBackwardPartsToCome, ArePartsToCome, LeavesMoreToSplit, limit_after_split}
use Rattle.bytes_utils.specs.declared.split.direction.Direction.{Direction}
use Rattle.bytes_utils.specs.declared.split.direction.Direction.TheVariants.{Forward, Backward}
use Rattle.bytes_utils.specs.Step.{StepGivesFirst}
use Rattle.bytes_utils.proofs.EachCharacter.{after_first, by_empty_separator-first, suc-less, first_element, last_element}
use Rattle.bytes_utils.proofs.Places.{boundary_at_place, chars-take_place, chars-drop_place, character_place-all, character_place-less}

-- the state after the first empty part, and the state before it
abbrev following : Option (List ℕ) → Option ℕ → Splitting
following rest limit = record { rest = rest; separator = []; limit = limit; begun = true }

abbrev before : Option (List ℕ) → Option ℕ → Splitting
before rest limit = record { rest = rest; separator = []; limit = limit; begun = false }

module _ (text : List ℕ) (text_is : IsUtf8 text) (i at : ℕ) (at_is : at ≡ character_place (chars text) i) where
  pub boundary : IsCharBoundary text at
  boundary = subst (IsCharBoundary text) (sym at_is) (boundary_at_place text text_is i)

  chars_before : (part : List ℕ) → part ≡ take at text → chars part ≡ take i (chars text)
  chars_before part is = ap chars (is ∙ ap (λ k. take k text) at_is) ∙ chars-take_place text text_is i

  chars_after : (part : List ℕ) → part ≡ drop at text → chars part ≡ drop i (chars text)
  chars_after part is = ap chars (is ∙ ap (λ k. drop k text) at_is) ∙ chars-drop_place text text_is i

-- the first character, and then what is after it
module _ (text : List ℕ) (text_is : IsUtf8 text) (at : ℕ) (some : 0 < length (chars text)) where
  pub gives_first_character : at ≡ character_place (chars text) 1 → (part rest : List ℕ) → part ≡ take at text → rest ≡ drop at text → (limit : Option ℕ) → LeavesMoreToSplit limit
      → StepGivesFirst AreForwardPartsToCome (following (Some text) limit) (chars part) (following (Some rest) (limit_after_split limit))
  gives_first_character at_is part rest part_is rest_is limit more = record {
    some = (
      after_first (chars rest) limit,
      sym (by_empty_separator-first (chars rest) limit more) ∙ ap (by_empty_separator (chars rest)) (sym (suc-less limit more)),
    );
    each = λ others are.
        let left : [] ∷ others ≡ by_empty_separator (chars rest) limit = are ∙ ap (by_empty_separator (chars rest)) (suc-less limit more) in
        let left_chars : [] ∷ others ≡ by_empty_separator (drop 1 (chars text)) limit = left ∙ ap (λ z. by_empty_separator z limit) (chars_after text text_is 1 at at_is rest rest_is) in
        ap (λ z. [] ∷ z ∷ others) (chars_before text text_is 1 at at_is part part_is) ∙ first_element (chars text) limit others some more left_chars;
  }

  -- the last character, and then what is before it
  pub gives_last_character : at ≡ character_place (chars text) (length (chars text) - 1) → (part rest : List ℕ) → part ≡ drop at text → rest ≡ take at text → (limit : Option ℕ) → LeavesMoreToSplit limit
      → StepGivesFirst AreBackwardPartsToCome (following (Some text) limit) (chars part) (following (Some rest) (limit_after_split limit))
  gives_last_character at_is part rest part_is rest_is limit more =
      let i = length (chars text) - 1 in
      record {
        some = (
          map reverse (after_first (reverse (chars rest)) limit),
          ap (map reverse) (sym (by_empty_separator-first (reverse (chars rest)) limit more)) ∙ ap (by_empty_separator_backward (chars rest)) (sym (suc-less limit more)),
        );
        each = λ others are.
            let left : [] ∷ others ≡ by_empty_separator_backward (chars rest) limit = are ∙ ap (by_empty_separator_backward (chars rest)) (suc-less limit more) in
            let left_chars : [] ∷ others ≡ by_empty_separator_backward (take i (chars text)) limit = left ∙ ap (λ z. by_empty_separator_backward z limit) (chars_before text text_is i at at_is rest rest_is) in
            ap (λ z. [] ∷ z ∷ others) (chars_after text text_is i at at_is part part_is) ∙ last_element (chars text) limit others some more left_chars;
      }

  at_byte : (i : ℕ) → i < length (chars text) → at ≡ character_place (chars text) i → at < length text
  at_byte i l at_is =
      omega (arith, at_is, character_place-less (chars text) i (length (chars text)) l (omega arith), (boundary_at_place text text_is (length (chars text))).0)

  pub after_shorter : at ≡ character_place (chars text) 1 → (rest : List ℕ) → rest ≡ drop at text → length rest < length text
  after_shorter at_is rest is =
      let place = character_place-less (chars text) 0 1 (omega arith) (omega (arith, some)) in
      omega (arith, ap length is, length-drop at text, at_is, place, (boundary text text_is 1 at at_is).0)

  pub before_shorter : at ≡ character_place (chars text) (length (chars text) - 1) → (rest : List ℕ) → rest ≡ take at text → length rest < length text
  before_shorter at_is rest is =
      omega (arith, ap length is, length-take at text, at_byte (length (chars text) - 1) (omega (arith, some)) at_is)

  -- the only character takes all bytes
  pub only_first : at ≡ character_place (chars text) 1 → length (chars text) ≤ 1 → at ≡ length text
  only_first at_is few =
      let one : 1 ≡ length (chars text) = omega (arith, some, few) in
      at_is ∙ ap (character_place (chars text)) one ∙ character_place-all text text_is

  -- and none is before it
  pub only_last : at ≡ character_place (chars text) (length (chars text) - 1) → length (chars text) ≤ 1 → at ≡ 0
  only_last at_is few =
      let first : length (chars text) - 1 ≡ 0 = omega (arith, few) in
      at_is ∙ ap (character_place (chars text)) first

  pub text_some : 0 < length text
  text_some =
      omega (arith, character_place-less (chars text) 0 (length (chars text)) some (omega arith), (boundary_at_place text text_is (length (chars text))).0)

-- the first part is empty
pub gives_empty : (from : Direction) (text part : List ℕ) → part ≡ [] → (limit : Option ℕ) → LeavesMoreToSplit limit
    → StepGivesFirst (ArePartsToCome from) (before (Some text) limit) (chars part) (following (Some text) (limit_after_split limit))
gives_empty Forward text part none limit more = rw (none, chars-nil) record {
  some = (
    after_first (chars text) limit,
    sym (by_empty_separator-first (chars text) limit more) ∙ ap (by_empty_separator (chars text)) (sym (suc-less limit more)),
  );
  each = λ others are. rw chars-nil (are ∙ ap (by_empty_separator (chars text)) (suc-less limit more));
}
gives_empty Backward text part none limit more = rw (none, chars-nil) record {
  some = (
    map reverse (after_first (reverse (chars text)) limit),
    ap (map reverse) (sym (by_empty_separator-first (reverse (chars text)) limit more)) ∙ ap (by_empty_separator_backward (chars text)) (sym (suc-less limit more)),
  );
  each = λ others are. rw chars-nil (are ∙ ap (by_empty_separator_backward (chars text)) (suc-less limit more));
}
