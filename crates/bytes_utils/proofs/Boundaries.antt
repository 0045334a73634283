-- The bytes of a separator occur in the bytes of a text exactly where its characters occur in the text.
use Rattle.std.proofs.Common.{◌≡◌, refl, sym, ap, ◌∙◌, ℕ, ◌+◌, ◌<◌, ◌≤◌, List, [], ◌∷◌, ◌++◌, length, take, drop, arith, true, append_assoc, length-drop, length-take, take-append-drop, IsUtf8, IsCharBoundary}
use Rattle.std.proofs.lemmas.List.{take_at, drop_at, length-take-le}
use Rattle.std.proofs.lemmas.List.Elements.{All-head, All-tail}
use Rattle.std.proofs.lemmas.Bool.{and_from}
use Rattle.std.proofs.lemmas.Bool.Decides.{nat_tests}
use Rattle.std.proofs.lemmas.Str.{IsUtf8-take, IsUtf8-drop, IsCharBoundary-start, encodes-append, encodes-chars, length-le-encodes, encodes_same, cons_from_encodes}
use Rattle.std.specs.Str.{chars, encode_utf8_all as encodes, all_scalars as scalars}
use Rattle.std.specs.Char.{IsScalar, InScalarRange, encode_utf8 as encode}
use Rattle.memchr.specs.Find.{OccursAt as HasNeedleAt}
use Rattle.memchr.proofs.lemmas.MatchLemmas.{OccursAt-from_part, OccursAt-split}
use Rattle.bytes_utils.specs.Characters.{AreCharacters, character_place}
use Rattle.bytes_utils.specs.Occurrence.{OccursAt, OccurrenceBoundariesLaw}

-- an occurrence of a list that isn't empty ends within the list that was searched
pub OccursAt-fits : {X : Type 0} (p t : List X) (i : ℕ) → 0 < length p → OccursAt p t i → i + length p ≤ length t
OccursAt-fits p t i some here =
    omega (arith, ap length here, length-take (length p) (drop i t), length-drop i t, some)

-- an occurrence in bytes, in the words of the search
pub HasNeedleAt-from_occurs : (needle hay : List ℕ) (k : ℕ) → 0 < length needle → OccursAt needle hay k → HasNeedleAt hay needle k
HasNeedleAt-from_occurs needle hay k some here = OccursAt-from_part hay needle k (OccursAt-fits needle hay k some here) here

IsScalar-from_range : (c : ℕ) → InScalarRange c → IsScalar c
IsScalar-from_range c in_range = grind (arith, nat_tests)

scalars-from_characters : (cs : List ℕ) → AreCharacters cs → scalars cs ≡ true
scalars-from_characters [] all = refl
scalars-from_characters (c ∷ cs) all =
    and_from _ _ (IsScalar-from_range c (All-head InScalarRange c cs all)) (scalars-from_characters cs (All-tail InScalarRange c cs all))

-- if the bytes of cs begin with the bytes of p, the characters cs begin with p
chars_begin : (p cs : List ℕ) (rest : List ℕ) → encodes cs ≡ encodes p ++ rest → (others : List ℕ) × (cs ≡ p ++ others) × (encodes others ≡ rest)
chars_begin [] cs rest e = (cs, refl, e)
chars_begin (c ∷ p) cs rest e =
    let one = cons_from_encodes cs (encodes p ++ rest) c (e ∙ append_assoc (encode c) (encodes p) rest) in
    let more = chars_begin p one.0 rest one.2 in
    (more.0, one.1 ∙ ap (λ z. c ∷ z) more.1, more.2)

-- a separator occurs in a text's bytes only where a character begins
pub boundary_at : (text sep : List ℕ) → IsUtf8 sep → 0 < length sep → (k : ℕ) → HasNeedleAt text sep k → IsCharBoundary text k
boundary_at text sep sep_is some k occurs = grind (arith, IsCharBoundary-start)

module _ (p t : List ℕ) (some : 0 < length p) (p_is : scalars p ≡ true) (t_is : scalars t ≡ true) where
  text_is : IsUtf8 (encodes t)
  text_is = (t, (t_is, refl))

  sep_is : IsUtf8 (encodes p)
  sep_is = (p, (p_is, refl))

  pub chars_at : (k : ℕ) → HasNeedleAt (encodes t) (encodes p) k → (i : ℕ) × (k ≡ character_place t i) × OccursAt p t i
  chars_at k occurs =
      let long = length-le-encodes p in
      let boundary = boundary_at (encodes t) (encodes p) sep_is (omega arith) k occurs in
      let front_is = IsUtf8-take (encodes t) k text_is boundary in
      let back_is = IsUtf8-drop (encodes t) k text_is boundary in
      let front = chars (take k (encodes t)) in
      let back = back_is.0 in
      let begins = chars_begin p back _ (back_is.1.1 ∙ OccursAt-split (encodes t) (encodes p) k occurs) in
      let bytes : encodes t ≡ encodes (front ++ back) =
      sym (take-append-drop k (encodes t)) ∙ (λ j. sym (encodes-chars (take k (encodes t)) front_is) j ++ sym back_is.1.1 j) ∙ sym (encodes-append front back) in
      let whole : t ≡ front ++ (p ++ begins.0) = encodes_same t (front ++ back) bytes ∙ ap (λ z. front ++ z) begins.1 in
      let fronts : take (length front) t ≡ front = ap (take (length front)) whole ∙ take_at front _ (length front) refl in
      let place : length (take k (encodes t)) ≡ k = length-take-le k (encodes t) boundary.0 in (
        length front,
        sym (ap (λ z. length (encodes z)) fronts ∙ ap length (encodes-chars (take k (encodes t)) front_is) ∙ place),
        ap (λ z. take (length p) (drop (length front) z)) whole ∙ ap (take (length p)) (drop_at front _ (length front) refl) ∙ take_at p begins.0 (length p) refl,
      )

  pub bytes_at : (k i : ℕ) → k ≡ character_place t i → OccursAt p t i → OccursAt (encodes p) (encodes t) k
  bytes_at k i place here =
      let front = take i t in
      let back = drop (length p) (drop i t) in
      let whole : t ≡ front ++ (p ++ back) =
      sym (take-append-drop i t) ∙ ap (λ z. front ++ z) (sym (take-append-drop (length p) (drop i t)) ∙ ap (λ z. z ++ back) here) in
      let bytes : encodes t ≡ encodes front ++ (encodes p ++ encodes back) = rw (encodes-append, encodes-append) at (ap encodes whole) in
      let after : drop k (encodes t) ≡ encodes p ++ encodes back = ap (drop k) bytes ∙ drop_at (encodes front) _ k (sym place) in
      ap (take (length (encodes p))) after ∙ take_at (encodes p) (encodes back) (length (encodes p)) refl

pub boundaries_law : OccurrenceBoundariesLaw
boundaries_law p t k some p_is t_is = grind (arith, HasNeedleAt-from_occurs, bytes_at, chars_at, length-le-encodes, scalars-from_characters)
