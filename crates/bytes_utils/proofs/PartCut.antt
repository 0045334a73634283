-- A text split at a place at which a separator was found in it.
use Rattle.std.proofs.Common.{◌≡◌, sym, ap, subst, ◌∙◌, ℕ, ◌+◌, ◌<◌, ◌≤◌, List, ◌∷◌, Option, None, Some, length, take, drop, take-add, false, arith, length-append, length-drop, length-take, IsUtf8, IsCharBoundary}
use Rattle.std.proofs.lemmas.Str.{encodes-append, encodes-chars}
use Rattle.std.specs.Str.{chars}
use Rattle.bytes_utils.specs.Characters.{character_place}
use Rattle.bytes_utils.specs.Occurrence.{OccursAt, Occurs, OccursFirstAt, OccursLastAt}
use Rattle.bytes_utils.specs.Parts.{AreForwardParts, AreBackwardParts}
use Rattle.bytes_utils.specs.Splitting.{Splitting, AreForwardPartsToCome, AreBackwardPartsToCome, LeavesMoreToSplit, limit_after_split}
use Rattle.bytes_utils.specs.Step.{StepGivesFirst}
use Rattle.bytes_utils.proofs.SearchLemmas.{chars-some}
use Rattle.bytes_utils.proofs.Forward.{AreForwardParts-more, has_forward_parts}
use Rattle.bytes_utils.proofs.Backward.{AreBackwardParts-more, has_backward_parts}
use Rattle.bytes_utils.proofs.FromEnds.{positive, positive-less, front-from, front-to, back-from, back-to}
use Rattle.bytes_utils.proofs.Places.{boundary_at_place, chars-take_place, chars-drop_place}

-- the state before the first empty part by an empty separator
abbrev left_to_cut : Option (List ℕ) → List ℕ → Option ℕ → Splitting
left_to_cut rest sep limit = record { rest = rest; separator = sep; limit = limit; begun = false }

module _ (text sep : List ℕ) (text_is : IsUtf8 text) (sep_is : IsUtf8 sep) (at i : ℕ) (at_is : at ≡ character_place (chars text) i) (here : OccursAt (chars sep) (chars text) i) where
  -- the separator ends where its characters end
  pub next_place : at + length sep ≡ character_place (chars text) (i + length (chars sep))
  next_place = grind (arith, encodes-append, encodes-chars, length-append, take-add)

  pub end_boundary : IsCharBoundary text at
  end_boundary = subst (IsCharBoundary text) (sym at_is) (boundary_at_place text text_is i)

  pub next_boundary : IsCharBoundary text (at + length sep)
  next_boundary = subst (IsCharBoundary text) (sym next_place) (boundary_at_place text text_is (i + length (chars sep)))

  pub chars_before : (before : List ℕ) → before ≡ take at text → chars before ≡ take i (chars text)
  chars_before before is = ap chars (is ∙ ap (λ k. take k text) at_is) ∙ chars-take_place text text_is i

  pub chars_after : (following : List ℕ) → following ≡ drop (at + length sep) text → chars following ≡ drop (i + length (chars sep)) (chars text)
  chars_after following is = ap chars (is ∙ ap (λ k. drop k text) next_place) ∙ chars-drop_place text text_is (i + length (chars sep))

  pub after_shorter : (rest : List ℕ) → 0 < length sep → rest ≡ drop (at + length sep) text → length rest < length text
  after_shorter rest some is = omega (arith, some, next_boundary.0, ap length is, length-drop (at + length sep) text)

  pub before_shorter : (rest : List ℕ) → 0 < length sep → rest ≡ take at text → length rest < length text
  before_shorter rest some is = omega (arith, some, next_boundary.0, ap length is, length-take at text)

  -- split at the first place: the part before it, and then the parts of what is after
  pub gives_first : (none_before : (j : ℕ) → OccursAt (chars sep) (chars text) j → i ≤ j) (part rest : List ℕ) → 0 < length sep → part ≡ take at text → rest ≡ drop (at + length sep) text
      → (limit : Option ℕ) → LeavesMoreToSplit limit
      → StepGivesFirst AreForwardPartsToCome (left_to_cut (Some text) sep limit) (chars part) (left_to_cut (Some rest) sep (limit_after_split limit))
  gives_first none_before part rest some part_is rest_is limit more =
      let long = chars-some sep sep_is some in
      let less = positive-less limit more in
      let first : OccursFirstAt (chars sep) (chars text) i = record { here = here; none_before = none_before } in
      let has = has_forward_parts (chars sep) (chars rest) (limit_after_split limit) long less in
      record {
        some = (has.0, front-from (chars rest) (chars sep) (limit_after_split limit) has.0 long less has.1);
        each = λ others are.
            let following = subst (λ z. AreForwardParts z (chars sep) (limit_after_split limit) others) (chars_after rest rest_is)
            (front-to (chars rest) (chars sep) (limit_after_split limit) others long less are) in
            front-from (chars text) (chars sep) limit (chars part ∷ others) long (positive limit more)
            (subst (λ z. AreForwardParts (chars text) (chars sep) limit (z ∷ others)) (sym (chars_before part part_is))
            (AreForwardParts-more (chars sep) (chars text) i long first limit more others following));
      }

  -- split at the last place: the part after it, and then the parts of what is before
  pub gives_last : (none_after : (j : ℕ) → OccursAt (chars sep) (chars text) j → j ≤ i) (part rest : List ℕ) → 0 < length sep → part ≡ drop (at + length sep) text → rest ≡ take at text
      → (limit : Option ℕ) → LeavesMoreToSplit limit
      → StepGivesFirst AreBackwardPartsToCome (left_to_cut (Some text) sep limit) (chars part) (left_to_cut (Some rest) sep (limit_after_split limit))
  gives_last none_after part rest some part_is rest_is limit more =
      let long = chars-some sep sep_is some in
      let less = positive-less limit more in
      let last : OccursLastAt (chars sep) (chars text) i = record { here = here; none_after = none_after } in
      let has = has_backward_parts (chars sep) (chars rest) (limit_after_split limit) long less in
      record {
        some = (has.0, back-from (chars rest) (chars sep) (limit_after_split limit) has.0 long less has.1);
        each = λ others are.
            let before = subst (λ z. AreBackwardParts z (chars sep) (limit_after_split limit) others) (chars_before rest rest_is)
            (back-to (chars rest) (chars sep) (limit_after_split limit) others long less are) in
            back-from (chars text) (chars sep) limit (chars part ∷ others) long (positive limit more)
            (subst (λ z. AreBackwardParts (chars text) (chars sep) limit (z ∷ others)) (sym (chars_after part part_is))
            (AreBackwardParts-more (chars sep) (chars text) i long last limit more others before));
      }

-- a text without the separator is given whole, from the front
pub gives_whole : (text sep : List ℕ) → 0 < length (chars sep) → (¬ Occurs (chars sep) (chars text)) → (limit : Option ℕ) → LeavesMoreToSplit limit
    → StepGivesFirst AreForwardPartsToCome (left_to_cut (Some text) sep limit) (chars text) (left_to_cut None sep (limit_after_split limit))
gives_whole text sep long lacks limit more = grind arith

-- and from the back
pub gives_whole_back : (text sep : List ℕ) → 0 < length (chars sep) → (¬ Occurs (chars sep) (chars text)) → (limit : Option ℕ) → LeavesMoreToSplit limit
    → StepGivesFirst AreBackwardPartsToCome (left_to_cut (Some text) sep limit) (chars text) (left_to_cut None sep (limit_after_split limit))
gives_whole_back text sep long lacks limit more = grind arith
