-- What a search for bytes says of characters, by the law of boundaries.
use Rattle.std.proofs.Common.{◌≡◌, ◌↔◌, ◌+◌, ◌-◌, ◌∙◌, get_or, take, length-take, refl, sym, ap, subst, ℕ, ◌<◌, ◌≤◌, List, [], ◌∷◌, Option, None, Some, length, arith, IsUtf8}
use Rattle.std.proofs.lemmas.Str.{encodes-chars, chars-nil}
use Rattle.std.specs.Str.{chars, encode_utf8_all as encodes}
use Rattle.std.proofs.lemmas.Bool.{eq-eqb}
use Rattle.std.proofs.lemmas.List.{get_or-take}
use Rattle.memchr.specs.Find.{OccursAt as HasNeedleAt, FindsNeedle, FindsLastNeedle, Nowhere, NoneAfter, Passes, is_byte}
use Rattle.memchr.proofs.lemmas.MatchLemmas.{OccursAt-part}
use Rattle.bytes_utils.specs.Characters.{character_place}
use Rattle.bytes_utils.specs.Occurrence.{OccursAt, FindsFirstOccurrence, FindsLastOccurrence}
use Rattle.bytes_utils.proofs.Boundaries.{OccursAt-fits, HasNeedleAt-from_occurs, boundaries_law}
use Rattle.bytes_utils.proofs.Places.{AreCharacters-chars, character_place-less}

-- a separator with bytes has characters
pub chars-some : (text : List ℕ) → IsUtf8 text → 0 < length text → 0 < length (chars text)
chars-some text text_is some = some_chars (chars text) (ap length (encodes-chars text text_is))
  where
    some_chars : (cs : List ℕ) → length (encodes cs) ≡ length text → 0 < length cs
    some_chars [] e = absurd (omega (arith, e, some))
    some_chars (c ∷ cs) e = omega arith

module _ (text sep : List ℕ) (text_is : IsUtf8 text) (sep_is : IsUtf8 sep) (some : 0 < length sep) where
  long : 0 < length (chars sep)
  long = chars-some sep sep_is some

  pub law : (k : ℕ) → OccursAt (encodes (chars sep)) (encodes (chars text)) k ↔ ((i : ℕ) × (k ≡ character_place (chars text) i) × OccursAt (chars sep) (chars text) i)
  law k = boundaries_law (chars sep) (chars text) k long (AreCharacters-chars sep sep_is) (AreCharacters-chars text text_is)

  -- an occurrence in bytes is one in characters
  pub in_chars : (k : ℕ) → HasNeedleAt text sep k → (i : ℕ) × (k ≡ character_place (chars text) i) × OccursAt (chars sep) (chars text) i
  in_chars k here =
      (law k).0 (subst (λ z. OccursAt z (encodes (chars text)) k) (sym (encodes-chars sep sep_is))
      (subst (λ z. OccursAt sep z k) (sym (encodes-chars text text_is)) (OccursAt-part text sep k here)))

  -- and conversely
  in_bytes : (i : ℕ) → OccursAt (chars sep) (chars text) i → HasNeedleAt text sep (character_place (chars text) i)
  in_bytes i here =
      HasNeedleAt-from_occurs sep text (character_place (chars text) i) some
      (subst (λ z. OccursAt z text (character_place (chars text) i)) (encodes-chars sep sep_is)
      (subst (λ z. OccursAt (encodes (chars sep)) z (character_place (chars text) i)) (encodes-chars text text_is)
      ((law (character_place (chars text) i)).1 (i, refl, here))))

  pub FindsFirstOccurrence-from_needle : (r : Option ℕ) → FindsNeedle text sep 0 r → FindsFirstOccurrence (chars sep) (chars text) r
  FindsFirstOccurrence-from_needle None nowhere = λ occurs.
      let here = in_bytes occurs.0 occurs.1 in
      nowhere (character_place (chars text) occurs.0) (omega arith) (omega arith) here
  FindsFirstOccurrence-from_needle (Some k) found =
      let here = in_chars k found.1 in (
        here.0,
        here.1,
        record {
          here = here.2;
          none_before = λ j there.
              let occurs = in_bytes j there in
              let not_before : character_place (chars text) j < k → ⊥ = λ l. found.0.before _ (omega arith) l occurs in
              let fits = OccursAt-fits _ _ here.0 long here.2 in
              let not_below : j < here.0 → ⊥ = λ l. not_before (omega (arith, here.1, character_place-less (chars text) j here.0 l (omega arith))) in
              omega arith;
        },
      )

  pub FindsLastOccurrence-from_needle : (r : Option ℕ) → FindsLastNeedle text sep r → FindsLastOccurrence (chars sep) (chars text) r
  FindsLastOccurrence-from_needle None nowhere = λ occurs.
      let here = in_bytes occurs.0 occurs.1 in
      nowhere (character_place (chars text) occurs.0) (omega arith) (omega arith) here
  FindsLastOccurrence-from_needle (Some k) found =
      let here = in_chars k found.1 in (
        here.0,
        here.1,
        record {
          here = here.2;
          none_after = λ j there.
              let occurs = in_bytes j there in
              let not_after : k < character_place (chars text) j → ⊥ = λ l. found.0.after _ (omega (arith, l)) (omega (arith, occurs.fits)) occurs in
              let fits = OccursAt-fits _ _ j long there in
              let not_above : here.0 < j → ⊥ = λ l. not_after (omega (arith, here.1, character_place-less (chars text) here.0 j l (omega (arith, fits)))) in
              omega (arith, not_above);
        },
      )

-- the empty separator occurs everywhere, first at the start
needle-empty : (text : List ℕ) (k : ℕ) → k ≤ length text → HasNeedleAt text [] k
needle-empty text k within = grind arith

FindsFirstOccurrence-empty : (text : List ℕ) (r : Option ℕ) → FindsNeedle text [] 0 r → FindsFirstOccurrence (chars []) (chars text) r
FindsFirstOccurrence-empty text r nowhere = grind (arith, chars-nil, needle-empty)

-- what is found first, by any separator
pub FindsFirstOccurrence-from_any : (text sep : List ℕ) → IsUtf8 text → IsUtf8 sep → (r : Option ℕ) → FindsNeedle text sep 0 r → FindsFirstOccurrence (chars sep) (chars text) r
FindsFirstOccurrence-from_any text [] text_is sep_is r found = FindsFirstOccurrence-empty text r found
FindsFirstOccurrence-from_any text (b ∷ sep) text_is sep_is r found = FindsFirstOccurrence-from_needle text (b ∷ sep) text_is sep_is (omega arith) r found

-- the empty separator is found last at the end
pub FindsLastNeedle-empty : (text sep : List ℕ) → length sep ≡ 0 → (r : Option ℕ) → FindsLastNeedle text sep r → r ≡ Some (length text)
FindsLastNeedle-empty text sep none r found = grind arith

-- a needle at the end is the last
pub found_at_end : (p bytes : List ℕ) (at : ℕ) → at ≡ length bytes - length p → (length p ≤ length bytes) × HasNeedleAt bytes p (length bytes - length p) → FindsLastNeedle bytes p (Some at)
found_at_end p bytes at same h = grind arith

-- the last byte of the needle is nowhere
pub missed_by_last_byte : (p bytes : List ℕ) → 0 < length p → Nowhere (Passes (is_byte (get_or p (length p - 1) 0)) bytes) 0 (length bytes) → FindsLastNeedle bytes p None
missed_by_last_byte p bytes some missed j low high here =
    missed (j + (length p - 1)) (omega arith) (omega (arith, here.fits, some)) (eq-eqb _ _ (here.reads (length p - 1) (omega (arith, some))))

-- The last place of the needle's last byte. Each occurrence ends there or before.
module _ (p bytes : List ℕ) (at : ℕ) (some : 0 < length p) (last : NoneAfter (Passes (is_byte (get_or p (length p - 1) 0)) bytes) 0 (length bytes) at) where
  ends_by : (j : ℕ) → HasNeedleAt bytes p j → j + length p ≤ at + 1
  ends_by j here = grind arith

  size : length (take (at + 1) bytes) ≡ at + 1
  size = omega (arith, length-take (at + 1) bytes, last.high)

  in_front : (j : ℕ) → HasNeedleAt bytes p j → HasNeedleAt (take (at + 1) bytes) p j
  in_front j here = grind (arith, ends_by, get_or-take, size)

  in_all : (j : ℕ) → HasNeedleAt (take (at + 1) bytes) p j → HasNeedleAt bytes p j
  in_all j here =
      record { fits = omega (arith, here.fits, size, last.high); reads = λ i l. sym (get_or-take (at + 1) bytes (j + i) 0 (omega (arith, here.fits, size, l))) ∙ here.reads i l }

  pub FindsLastNeedle-from_front : (r : Option ℕ) → FindsLastNeedle (take (at + 1) bytes) p r → FindsLastNeedle bytes p r
  FindsLastNeedle-from_front None missed = λ j low high here. missed j low (omega (arith, ends_by j here, size)) (in_front j here)
  FindsLastNeedle-from_front (Some k) found = (
    record {
      low = omega arith;
      high = omega (arith, found.0.high, size, last.high);
      after = λ j low high here. found.0.after j low (omega (arith, ends_by j here, size)) (in_front j here);
    },
    in_all k found.1,
  )
