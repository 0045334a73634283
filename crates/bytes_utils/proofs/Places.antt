-- A place in a text's bytes at which a character begins, and the text split there.
use Rattle.std.proofs.Common.{◌≡◌, refl, sym, ap, ◌∙◌, ℕ, ◌+◌, ◌-◌, ◌<◌, ◌≤◌, List, [], ◌∷◌, ◌++◌, length, take, drop, arith, true, length-append, length-drop, length-take, take-add, take-append-drop, IsUtf8, IsCharBoundary}
use Rattle.std.proofs.Math.Seq.{take-length}
use Rattle.std.proofs.lemmas.List.{take_at, drop_at, take_all, length-take-le}
use Rattle.std.proofs.lemmas.List.Elements.{All-nil, All-cons}
use Rattle.std.proofs.lemmas.Bool.{and_from, and_parts}
use Rattle.std.proofs.lemmas.Bool.Decides.{nat_tests}
use Rattle.std.proofs.lemmas.Str.{IsCharBoundary-at_seam, IsUtf8-take, chars-append, encodes-append, encodes-chars, scalars-chars, chars_from_encodes, length-le-encodes}
use Rattle.std.specs.Str.{chars, encode_utf8_all as encodes, all_scalars as scalars}
use Rattle.std.specs.Char.{IsScalar, InScalarRange}
use Rattle.bytes_utils.specs.Characters.{AreCharacters, character_place}

InScalarRange-from : (c : ℕ) → IsScalar c → InScalarRange c
InScalarRange-from c is = grind (arith, nat_tests)

-- what a text holds are real characters
pub AreCharacters-from_scalars : (cs : List ℕ) → scalars cs ≡ true → AreCharacters cs
AreCharacters-from_scalars [] all = All-nil InScalarRange
AreCharacters-from_scalars (c ∷ cs) all =
    All-cons InScalarRange c cs (InScalarRange-from c (and_parts _ _ all).0) (AreCharacters-from_scalars cs (and_parts _ _ all).1)

pub AreCharacters-chars : (text : List ℕ) → IsUtf8 text → AreCharacters (chars text)
AreCharacters-chars text text_is = AreCharacters-from_scalars (chars text) (scalars-chars text text_is)

pub scalars-part : (xs ys : List ℕ) → scalars (xs ++ ys) ≡ true → (scalars xs ≡ true) × (scalars ys ≡ true)
scalars-part [] ys all = (refl, all)
scalars-part (x ∷ xs) ys all =
    let more = scalars-part xs ys (and_parts _ _ all).1 in
    (and_from _ _ (and_parts _ _ all).0 more.0, more.1)

-- all characters take all bytes
pub character_place-all : (text : List ℕ) → IsUtf8 text → character_place (chars text) (length (chars text)) ≡ length text
character_place-all text text_is = ap (λ z. length (encodes z)) (take-length (chars text)) ∙ ap length (encodes-chars text text_is)

-- fewer characters take fewer bytes
pub character_place-less : (t : List ℕ) (j i : ℕ) → j < i → i ≤ length t → character_place t j < character_place t i
character_place-less t j i l le =
    let m : j + (i - j) ≡ i = omega arith in
    let more = take (i - j) (drop j t) in
    let split : take i t ≡ take j t ++ more = ap (λ n. take n t) (sym m) ∙ take-add j (i - j) t in
    let sum : character_place t i ≡ character_place t j + length (encodes more) = rw (split, encodes-append, length-append) refl in
    omega (arith, sum, length-le-encodes more, length-take (i - j) (drop j t), length-drop j t)

module _ (text : List ℕ) (text_is : IsUtf8 text) (i : ℕ) where
  both_scalars : (scalars (take i (chars text)) ≡ true) × (scalars (drop i (chars text)) ≡ true)
  both_scalars =
      scalars-part (take i (chars text)) (drop i (chars text)) (ap scalars (take-append-drop i (chars text)) ∙ scalars-chars text text_is)

  front_is : IsUtf8 (encodes (take i (chars text)))
  front_is = (take i (chars text), (both_scalars.0, refl))

  after_is : IsUtf8 (encodes (drop i (chars text)))
  after_is = (drop i (chars text), (both_scalars.1, refl))

  -- the text is the bytes of the characters before the place and of those from it on
  pub split_at_place : text ≡ encodes (take i (chars text)) ++ encodes (drop i (chars text))
  split_at_place =
      sym (encodes-chars text text_is) ∙ ap encodes (sym (take-append-drop i (chars text))) ∙ encodes-append (take i (chars text)) (drop i (chars text))

  pub boundary_at_place : IsCharBoundary text (character_place (chars text) i)
  boundary_at_place = IsCharBoundary-at_seam text _ _ split_at_place after_is

  pub chars-take_place : chars (take (character_place (chars text) i) text) ≡ take i (chars text)
  chars-take_place = grind (arith, chars_from_encodes, front_is, split_at_place, take_at)

  pub chars-drop_place : chars (drop (character_place (chars text) i) text) ≡ drop i (chars text)
  chars-drop_place = grind (arith, after_is, chars_from_encodes, drop_at, split_at_place)

-- a boundary is a place at which some character begins, or the end
pub place_of_boundary : (text : List ℕ) → IsUtf8 text → (at : ℕ) → IsCharBoundary text at
    → at ≡ character_place (chars text) (length (chars (take at text)))
place_of_boundary text text_is at boundary =
    let front_is = IsUtf8-take text at text_is boundary in
    let front = chars (take at text) in
    let whole : chars text ≡ front ++ chars (drop at text) = ap chars (sym (take-append-drop at text)) ∙ chars-append (take at text) (drop at text) front_is in
    let first : take (length front) (chars text) ≡ front = ap (take (length front)) whole ∙ take_at front (chars (drop at text)) (length front) refl in
    sym (ap (λ z. length (encodes z)) first ∙ ap length (encodes-chars (take at text) front_is) ∙ length-take-le at text boundary.0)

-- the last boundary before the end is the place at which the last character begins
pub last_place : (text : List ℕ) → IsUtf8 text → (at : ℕ) → at < length text → IsCharBoundary text at
    → ((i : ℕ) → at < i → i < length text → ¬ IsCharBoundary text i)
    → (0 < length (chars text)) × (at ≡ character_place (chars text) (length (chars text) - 1))
last_place text text_is at within boundary nearest =
    let n = length (chars text) in
    let i = length (chars (take at text)) in
    let place = place_of_boundary text text_is at boundary in
    let all = (λ (k : ℕ) (l : n ≤ k). ap (λ z. length (encodes z)) (take_all k (chars text) l) ∙ ap length (encodes-chars text text_is)) in
    let past : n ≤ i → ⊥ = λ l. omega (arith, place, within, all i l) in
    let inside : i < n = omega (arith, past) in
    let last_inside : character_place (chars text) (n - 1) < length text =
    omega (arith, all n (omega arith), character_place-less (chars text) (n - 1) n (omega (arith, inside)) (omega arith)) in
    let lower : i < n - 1 → ⊥ = λ l. nearest (character_place (chars text) (n - 1)) (omega (arith, place, character_place-less (chars text) i (n - 1) l (omega arith))) last_inside
    (boundary_at_place text text_is (n - 1)) in
    let same : i ≡ n - 1 = omega (arith, lower, inside) in
    (omega (arith, inside), place ∙ ap (character_place (chars text)) same)
