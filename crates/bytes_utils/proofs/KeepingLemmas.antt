-- A text split after the first place at which a separator was found in it.
use Rattle.std.proofs.Common.{◌≡◌, ap, ℕ, ◌+◌, ◌<◌, ◌≤◌, List, [], ◌∷◌, Some, None, length, take, drop, arith, IsUtf8, ◌⊎◌}
use Rattle.std.proofs.lemmas.Str.{chars-nil}
use Rattle.std.specs.Str.{chars}
use Rattle.bytes_utils.specs.Characters.{character_place}
use Rattle.bytes_utils.specs.Occurrence.{Occurs, OccursFirstAt}
use Rattle.bytes_utils.specs.Parts.{PartEndsAtFirst}
use Rattle.bytes_utils.specs.Keeping.{Keeping, AreInclusivePartsToCome, CutsAfterNext}
use Rattle.bytes_utils.specs.Step.{StepGivesFirst}
use Rattle.bytes_utils.proofs.SearchLemmas.{chars-some}
use Rattle.bytes_utils.proofs.Boundaries.{OccursAt-fits}
use Rattle.bytes_utils.proofs.PartCut.{next_place}
use Rattle.bytes_utils.proofs.Places.{character_place-all, character_place-less, chars-take_place, chars-drop_place}
use Rattle.bytes_utils.proofs.Inclusive.{AreInclusiveParts-none, AreInclusiveParts-more, AreInclusiveParts-last, ends_whole, has_inclusive_parts}

-- no part of the empty text is to come
pub none_to_come : (s : Keeping) (text : List ℕ) → s.rest ≡ Some text → length text ≡ 0 → AreInclusivePartsToCome s []
none_to_come s [] is none = rw is (rw chars-nil (AreInclusiveParts-none (chars s.separator)))
none_to_come s (b ∷ bs) is none = cc

-- some part of a text that isn't empty is
pub some_to_come : (s : Keeping) (text : List ℕ) → s.rest ≡ Some text → IsUtf8 text → 0 < length text → ¬ AreInclusivePartsToCome s []
some_to_come s text is text_is some none =
    let of_text = rw is at none in
    omega (arith, chars-some text text_is some, ap length of_text.joined)

-- a text that isn't empty is given whole if it holds the separator at its end alone or not at all
pub gives_whole : (text sep : List ℕ) → IsUtf8 text → 0 < length text → PartEndsAtFirst (chars sep) (chars text) ⊎ (¬ Occurs (chars sep) (chars text))
    → StepGivesFirst AreInclusivePartsToCome (record { rest = Some text; separator = sep }) (chars text) (record { rest = None; separator = sep })
gives_whole text sep text_is some ends = grind (arith, AreInclusiveParts-last, chars-some)

module _ (text sep : List ℕ) (text_is : IsUtf8 text) (sep_is : IsUtf8 sep) (at : ℕ) (found : (i : ℕ) × (at ≡ character_place (chars text) i) × OccursFirstAt (chars sep) (chars text) i) (some : 0 < length sep) where
  long : 0 < length (chars sep)
  long = chars-some sep sep_is some

  fits : found.0 + length (chars sep) ≤ length (chars text)
  fits = OccursAt-fits (chars sep) (chars text) found.0 long found.2.here

  place : at + length sep ≡ character_place (chars text) (found.0 + length (chars sep))
  place = next_place text sep text_is sep_is at found.0 found.1 found.2.here

  -- characters follow the separator if bytes do
  less_chars : at + length sep < length text → found.0 + length (chars sep) < length (chars text)
  less_chars less =
      let not_all : found.0 + length (chars sep) ≡ length (chars text) → ⊥ = λ e. omega (arith, place, ap (character_place (chars text)) e, character_place-all text text_is) in
      omega (arith, fits)

  all_chars : at + length sep ≡ length text → found.0 + length (chars sep) ≡ length (chars text)
  all_chars whole =
      let not_less : found.0 + length (chars sep) < length (chars text) → ⊥ = λ l.
      omega (arith, place, character_place-all text text_is, character_place-less (chars text) (found.0 + length (chars sep)) (length (chars text)) l (omega arith)) in
      omega (arith, fits)

  pub ends_text : at + length sep ≡ length text → PartEndsAtFirst (chars sep) (chars text)
  ends_text whole = ends_whole (chars sep) (chars text) found.0 found.2 (all_chars whole)

  pub cuts_after : at + length sep < length text → CutsAfterNext (record { rest = Some text; separator = sep })
  cuts_after less = grind (arith, less_chars)

  pub gives_through : at + length sep < length text → (part rest : List ℕ) → part ≡ take (at + length sep) text → rest ≡ drop (at + length sep) text
      → StepGivesFirst AreInclusivePartsToCome (record { rest = Some text; separator = sep }) (chars part) (record { rest = Some rest; separator = sep })
  gives_through less part rest part_is rest_is =
      let end = found.0 + length (chars sep) in
      let part_chars : chars part ≡ take end (chars text) = rw (part_is, place) (chars-take_place text text_is end) in
      let rest_chars : chars rest ≡ drop end (chars text) = rw (rest_is, place) (chars-drop_place text text_is end) in
      record {
        some = has_inclusive_parts (chars sep) (chars rest) long;
        each = λ others are.
            rw part_chars (AreInclusiveParts-more (chars sep) (chars text) found.0 long found.2 (less_chars less) others (rw rest_chars at are));
      }
