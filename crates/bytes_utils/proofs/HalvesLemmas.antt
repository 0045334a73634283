-- A text split at a place at which a separator was found in it.
use Rattle.std.proofs.Common.{◌≡◌, refl, sym, ap, subst, ◌∙◌, ℕ, ◌+◌, ◌-◌, ◌<◌, ◌≤◌, List, [], ◌∷◌, ◌++◌, ⊎_elim, Option, Some, MatchOption, length, take, drop, arith, length-take, IsUtf8}
use Rattle.std.proofs.Math.Seq.{drop-append-add}
use Rattle.std.proofs.lemmas.Bool.{cases_lt}
use Rattle.std.proofs.lemmas.List.{take_all, drop_all}
use Rattle.std.proofs.lemmas.Str.{IsUtf8-take, IsUtf8-drop, encodes-append, encodes-chars, chars-nil}
use Rattle.std.specs.Str.{chars, encode_utf8_all as encodes}
use Rattle.bytes_utils.specs.Characters.{character_place}
use Rattle.bytes_utils.specs.Halves.{AreHalvesAtFirst, AreHalvesAtLast}
use Rattle.bytes_utils.specs.Occurrence.{OccursAt, Occurs, OccursLastAt, FindsLastOccurrence}
use Rattle.bytes_utils.proofs.Boundaries.{OccursAt-fits}
use Rattle.bytes_utils.proofs.OccurrenceLemmas.{cut_whole, OccursAt-between}
use Rattle.bytes_utils.proofs.PartCut.{end_boundary, next_boundary, chars_before, chars_after}
use Rattle.bytes_utils.proofs.SearchLemmas.{chars-some}

-- what p follows in a text holds no p, if that p is the last one and isn't empty
pub lacks-after : {X : Type 0} (p before following : List X) → 0 < length p → OccursLastAt p (before ++ (p ++ following)) (length before) → ¬ Occurs p following
lacks-after p before following some last = grind (arith, drop-append-add)

-- and conversely, if p is one element
pub last-from_lacks : {X : Type 0} (p before following : List X) → length p ≡ 1 → (¬ Occurs p following) → OccursLastAt p (before ++ (p ++ following)) (length before)
last-from_lacks p before following one lacks = record {
  here = OccursAt-between before p following;
  none_after = λ j there. ⊎_elim (λ after. absurd (lacks (j - (length before + 1), within j there after))) (λ to. to) (cases_lt (length before) j);
}
  where
    within : (j : ℕ) → OccursAt p (before ++ (p ++ following)) j → length before < j → OccursAt p following (j - (length before + 1))
    within j there after =
        let k = j - (length before + 1) in
        let j_is : length before + (length p + k) ≡ j = omega (arith, one, after) in
        let same = ap (λ n. drop n (before ++ (p ++ following))) (sym j_is) ∙ drop-append-add before (p ++ following) (length p + k) ∙ drop-append-add p following k in
        ap (take (length p)) (sym same) ∙ there

-- t is what is before a place at which p occurs, p, and what is after it
module _ {X : Type 0} (t p before following : List X) (i : ℕ) (here : OccursAt p t i) (before_is : before ≡ take i t) (after_is : following ≡ drop (i + length p) t) where
  around : before ++ (p ++ following) ≡ t
  around = (λ k. before_is k ++ (p ++ after_is k)) ∙ cut_whole p t i here

  at_seam : OccursAt p t (length before)
  at_seam = subst (λ z. OccursAt p z (length before)) around (OccursAt-between before p following)

  size : length before ≤ i
  size = omega (arith, ap length before_is, length-take i t)

  pub AreHalvesAtFirst-at : ((j : ℕ) → OccursAt p t j → i ≤ j) → AreHalvesAtFirst t p before following
  AreHalvesAtFirst-at none_before = grind (arith, around, at_seam, size)

  pub AreHalvesAtLast-at : (0 < length p → (j : ℕ) → OccursAt p t j → j ≤ i) → (length p ≡ 0 → following ≡ []) → AreHalvesAtLast t p before following
  AreHalvesAtLast-at none_after at_end = grind (arith, OccursAt-fits, around, at_seam, length-take)

module _ (text sep : List ℕ) (text_is : IsUtf8 text) (sep_is : IsUtf8 sep) (at i : ℕ) (at_is : at ≡ character_place (chars text) i) (here : OccursAt (chars sep) (chars text) i) where
  module _ (before following : List ℕ) (before_is : before ≡ take at text) (after_is : following ≡ drop (at + length sep) text) where
    chars_before_is : chars before ≡ take i (chars text)
    chars_before_is = chars_before text sep text_is sep_is at i at_is here before before_is

    chars_after_is : chars following ≡ drop (i + length (chars sep)) (chars text)
    chars_after_is = chars_after text sep text_is sep_is at i at_is here following after_is

    before_utf8 : IsUtf8 before
    before_utf8 = subst IsUtf8 (sym before_is) (IsUtf8-take text at text_is (end_boundary text sep text_is sep_is at i at_is here))

    after_utf8 : IsUtf8 following
    after_utf8 = subst IsUtf8 (sym after_is) (IsUtf8-drop text (at + length sep) text_is (next_boundary text sep text_is sep_is at i at_is here))

    -- the bytes of the halves and of the separator are those of the text
    pub bytes_around : before ++ (sep ++ following) ≡ text
    bytes_around =
        rw (← encodes-chars text text_is, ← around (chars text) (chars sep) (chars before) (chars following) i here chars_before_is chars_after_is)
        (simp (encodes-append, encodes-chars before before_utf8, encodes-chars sep sep_is, encodes-chars following after_utf8))

    pub halves_at_first : ((j : ℕ) → OccursAt (chars sep) (chars text) j → i ≤ j) → AreHalvesAtFirst (chars text) (chars sep) (chars before) (chars following)
    halves_at_first none_before =
        AreHalvesAtFirst-at (chars text) (chars sep) (chars before) (chars following) i here chars_before_is chars_after_is none_before

    pub halves_at_last : (0 < length (chars sep) → (j : ℕ) → OccursAt (chars sep) (chars text) j → j ≤ i) → (length (chars sep) ≡ 0 → at ≡ length text)
        → AreHalvesAtLast (chars text) (chars sep) (chars before) (chars following)
    halves_at_last none_after at_end =
        AreHalvesAtLast-at (chars text) (chars sep) (chars before) (chars following) i here chars_before_is chars_after_is none_after
        (λ none. ap chars (after_is ∙ drop_all (at + length sep) text (omega (arith, at_end none))) ∙ chars-nil)

-- a separator was found last at a byte place, an empty one at the end
pub record IsFoundLast (text sep : List ℕ) (at : ℕ) : Type 0 where
  pub place : ℕ
  pub at_is : at ≡ character_place (chars text) place
  pub here : OccursAt (chars sep) (chars text) place
  pub none_after : 0 < length (chars sep) → (j : ℕ) → OccursAt (chars sep) (chars text) j → j ≤ place
  pub at_end : length (chars sep) ≡ 0 → at ≡ length text

pub found_last : (text sep : List ℕ) → IsUtf8 text → IsUtf8 sep → (r : Option ℕ) → (0 < length sep → FindsLastOccurrence (chars sep) (chars text) r) → (length sep ≡ 0 → r ≡ Some (length text))
    → MatchOption r (¬ Occurs (chars sep) (chars text)) (IsFoundLast text sep)
found_last text [] text_is sep_is r last empty =
    subst (λ o. MatchOption o (¬ Occurs (chars []) (chars text)) (IsFoundLast text [])) (sym (empty refl))
    (record {
      place = length (chars text);
      at_is = sym (ap (λ z. length (encodes z)) (take_all (length (chars text)) (chars text) (omega arith)) ∙ ap length (encodes-chars text text_is));
      here = rw chars-nil refl;
      none_after = λ some. absurd (omega (arith, some, ap length chars-nil));
      at_end = λ _. refl;
    })
found_last text (b ∷ sep) text_is sep_is r last empty = grind (arith, chars-nil, chars-some, encodes-chars, take_all)
