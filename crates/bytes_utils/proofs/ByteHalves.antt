-- What is found in the characters of a text is found in its bytes, too.
use Rattle.std.proofs.Common.{◌≡◌, refl, sym, ap, subst, ◌∙◌, ℕ, ◌+◌, ◌-◌, ◌<◌, ◌≤◌, List, [], ◌∷◌, ◌++◌, ⊎_elim, length, take, drop, slice_range, arith, length-append, IsUtf8}
use Rattle.std.proofs.lemmas.Bool.{cases_lt}
use Rattle.std.proofs.lemmas.List.{append-nil, drop_all}
use Rattle.std.proofs.lemmas.Str.{encodes-chars, chars-nil}
use Rattle.std.specs.Str.{chars, encode_utf8_all as encodes}
use Rattle.bytes_utils.specs.Characters.{character_place}
use Rattle.bytes_utils.specs.Ends.{EndsWith}
use Rattle.bytes_utils.specs.Halves.{AreHalvesAtFirst, AreHalvesAtLast}
use Rattle.bytes_utils.specs.Occurrence.{OccursAt, Occurs, OccursFirstAt}
use Rattle.bytes_utils.proofs.Boundaries.{OccursAt-fits}
use Rattle.bytes_utils.proofs.HalvesLemmas.{AreHalvesAtFirst-at, AreHalvesAtLast-at, IsFoundLast}
use Rattle.bytes_utils.proofs.OccurrenceLemmas.{OccursAt-between}
use Rattle.bytes_utils.proofs.Places.{character_place-less}
use Rattle.bytes_utils.proofs.SearchLemmas.{chars-some, law}

place_le : (t : List ℕ) (i j : ℕ) → i ≤ j → j ≤ length t → character_place t i ≤ character_place t j
place_le t i j le within = ⊎_elim
    (λ (less : i < j). omega (arith, character_place-less t i j less within))
    (λ (more : j ≤ i). omega (arith, ap (character_place t) (same more)))
    (cases_lt i j)
  where
    same : j ≤ i → i ≡ j
    same more = omega (arith, le, more)

module _ (text sep : List ℕ) (text_is : IsUtf8 text) (sep_is : IsUtf8 sep) (some : 0 < length sep) where
  from_encoded : (k : ℕ) → OccursAt (encodes (chars sep)) (encodes (chars text)) k → OccursAt sep text k
  from_encoded k here =
      subst (λ z. OccursAt z text k) (encodes-chars sep sep_is) (subst (λ z. OccursAt (encodes (chars sep)) z k) (encodes-chars text text_is) here)

  to_encoded : (k : ℕ) → OccursAt sep text k → OccursAt (encodes (chars sep)) (encodes (chars text)) k
  to_encoded k here =
      subst (λ z. OccursAt (encodes (chars sep)) z k) (sym (encodes-chars text text_is)) (subst (λ z. OccursAt z text k) (sym (encodes-chars sep sep_is)) here)

  occurs_in_bytes : (at i : ℕ) → at ≡ character_place (chars text) i → OccursAt (chars sep) (chars text) i → OccursAt sep text at
  occurs_in_bytes at i at_is here = from_encoded at ((law text sep text_is sep_is some at).1 (i, at_is, here))

  occurs_in_chars : (k : ℕ) → OccursAt sep text k → (i : ℕ) × (k ≡ character_place (chars text) i) × OccursAt (chars sep) (chars text) i
  occurs_in_chars k here = (law text sep text_is sep_is some k).0 (to_encoded k here)

  within : (i : ℕ) → OccursAt (chars sep) (chars text) i → i ≤ length (chars text)
  within i here = omega (arith, OccursAt-fits (chars sep) (chars text) i (chars-some sep sep_is some) here)

  module _ (at i : ℕ) (at_is : at ≡ character_place (chars text) i) where
    none_before_in_bytes : ((j : ℕ) → OccursAt (chars sep) (chars text) j → i ≤ j) → (k : ℕ) → OccursAt sep text k → at ≤ k
    none_before_in_bytes none_before k there =
        let other = occurs_in_chars k there in
        omega (arith, at_is, other.1, place_le (chars text) i other.0 (none_before other.0 other.2) (within other.0 other.2))

    none_after_in_bytes : OccursAt (chars sep) (chars text) i → ((j : ℕ) → OccursAt (chars sep) (chars text) j → j ≤ i) → (k : ℕ) → OccursAt sep text k → k ≤ at
    none_after_in_bytes here none_after k there =
        let other = occurs_in_chars k there in
        omega (arith, at_is, other.1, place_le (chars text) other.0 i (none_after other.0 other.2) (within i here))

pub lacks_in_bytes : (text sep : List ℕ) → IsUtf8 text → IsUtf8 sep → (¬ Occurs (chars sep) (chars text)) → ¬ Occurs sep text
lacks_in_bytes text [] text_is sep_is lacks = absurd (lacks (0, rw chars-nil refl))
lacks_in_bytes text (b ∷ sep) text_is sep_is lacks = λ occurs.
    let found = occurs_in_chars text (b ∷ sep) text_is sep_is (omega arith) occurs.0 occurs.1 in
    lacks (found.0, found.2)

pub first_in_bytes : (text sep : List ℕ) → IsUtf8 text → IsUtf8 sep → (at i : ℕ) → at ≡ character_place (chars text) i → OccursFirstAt (chars sep) (chars text) i
    → OccursFirstAt sep text at
first_in_bytes text [] text_is sep_is at i at_is first =
    let at_start : i ≤ 0 = first.none_before 0 (rw chars-nil refl) in
    let zero : i ≡ 0 = omega (arith, at_start) in
    record { here = refl; none_before = λ j there. omega (arith, at_is, ap (character_place (chars text)) zero) }
first_in_bytes text (b ∷ sep) text_is sep_is at i at_is first = record {
  here = occurs_in_bytes text (b ∷ sep) text_is sep_is (omega arith) at i at_is first.here;
  none_before = none_before_in_bytes text (b ∷ sep) text_is sep_is (omega arith) at i at_is first.none_before;
}

-- what occurs at a place is what the text has from there on
pub slice_there : (text part : List ℕ) (at : ℕ) → OccursAt part text at → slice_range text at (at + length part) ≡ part
slice_there text part at here = ap (λ n. take n (drop at text)) (size at (length part)) ∙ here
  where
    size : (a b : ℕ) → (a + b) - a ≡ b
    size a b = omega arith

-- the halves of a text are also those of its bytes
module _ (text sep : List ℕ) (text_is : IsUtf8 text) (sep_is : IsUtf8 sep) (at : ℕ) (before following : List ℕ) (before_is : before ≡ take at text) (after_is : following ≡ drop (at + length sep) text) where
  pub byte_halves_at_first : (i : ℕ) → at ≡ character_place (chars text) i → OccursFirstAt (chars sep) (chars text) i → AreHalvesAtFirst text sep before following
  byte_halves_at_first i at_is found =
      let first = first_in_bytes text sep text_is sep_is at i at_is found in
      AreHalvesAtFirst-at text sep before following at first.here before_is after_is first.none_before

pub byte_halves_at_last : (text sep : List ℕ) → IsUtf8 text → IsUtf8 sep → (at : ℕ) (before following : List ℕ) → before ≡ take at text → following ≡ drop (at + length sep) text
    → IsFoundLast text sep at → AreHalvesAtLast text sep before following
byte_halves_at_last text [] text_is sep_is at before following before_is after_is found =
    let end : at ≡ length text = found.at_end (ap length chars-nil) in
    AreHalvesAtLast-at text [] before following at refl before_is after_is (λ some. absurd (omega (arith, some)))
    (λ none. after_is ∙ drop_all (at + 0) text (omega (arith, end)))
byte_halves_at_last text (b ∷ sep) text_is sep_is at before following before_is after_is found =
    let some : 0 < length (b ∷ sep) = omega arith in
    let long : 0 < length (chars (b ∷ sep)) = chars-some (b ∷ sep) sep_is some in
    AreHalvesAtLast-at text (b ∷ sep) before following at (occurs_in_bytes text (b ∷ sep) text_is sep_is some at found.place found.at_is found.here) before_is after_is
    (λ _. none_after_in_bytes text (b ∷ sep) text_is sep_is some at found.place found.at_is found.here (found.none_after long))
    (λ none. absurd (omega (arith, none, some)))

-- an empty separator occurs first at the start
pub empty_first : (text sep : List ℕ) (at : ℕ) → OccursFirstAt sep text at → sep ≡ [] → at + length sep ≡ 0
empty_first text [] at found none = omega (arith, found.none_before 0 refl)
empty_first text (b ∷ sep) at found none = absurd (omega (arith, ap length none))

-- a first separator after which nothing comes was found where it ends the text
pub first_ends : (text sep before : List ℕ) (at : ℕ) → OccursFirstAt sep text at → AreHalvesAtFirst text sep before [] → at + length sep ≡ length text
first_ends text sep before at found halves =
    omega (
      arith,
      found.none_before (length before) halves.first.here,
      halves.first.none_before at found.here,
      ap length halves.joined,
      length-append before (sep ++ []),
      length-append sep [],
    )

-- a separator that ends the text was found last where it ends the text
pub last_ends : (text sep : List ℕ) → IsUtf8 text → IsUtf8 sep → (at : ℕ) → IsFoundLast text sep at → EndsWith sep text → at + length sep ≡ length text
last_ends text [] text_is sep_is at found ends = omega (arith, found.at_end (ap length chars-nil))
last_ends text (b ∷ sep) text_is sep_is at found ends =
    let some : 0 < length (b ∷ sep) = omega arith in
    let long : 0 < length (chars (b ∷ sep)) = chars-some (b ∷ sep) sep_is some in
    let here = occurs_in_bytes text (b ∷ sep) text_is sep_is some at found.place found.at_is found.here in
    let there : OccursAt (b ∷ sep) text (length ends.0) =
    subst (λ z. OccursAt (b ∷ sep) z (length ends.0)) (ap (λ z. ends.0 ++ z) (append-nil (b ∷ sep)) ∙ ends.1) (OccursAt-between ends.0 (b ∷ sep) []) in
    let last = none_after_in_bytes text (b ∷ sep) text_is sep_is some at found.place found.at_is found.here (found.none_after long) (length ends.0) there in
    omega (arith, last, OccursAt-fits (b ∷ sep) text at some here, ap length ends.1, length-append ends.0 (b ∷ sep))
