-- What each run of `str::split_inclusive` gives, by a pattern that finds a separator that isn't empty.
use Rattle.std.proofs.Common.{◌≡◌, sym, ap, subst, ◌∙◌, ℕ, ◌+◌, ◌<◌, List, [], ◌∷◌, ◌++◌, Option, None, Some, length, take, drop, take-append-drop, arith, length-append, length-drop, IsUtf8, eq-or-lt_of_le, ◌⊎◌, inl, inr}
use Rattle.std.proofs.Math.Seq.{take-length}
use Rattle.std.proofs.lemmas.List.{length-take-le, nil_from_length, take_at, drop_at}
use Rattle.std.proofs.lemmas.Str.{IsUtf8-nil, IsUtf8-take, IsCharBoundary-from_drop, chars-append}
use Rattle.std.specs.Str.{chars}
use Rattle.std.specs.Str.Pattern.{EndsAtFirstMatch}
use Rattle.std.specs.Str.Iter.{split_inclusive_steps, split_inclusive_text, split_inclusive_pattern}
use Rattle.std.specs.declared.str.SplitInclusive.{SplitInclusive}
use Rattle.bytes_utils.specs.Occurrence.{Occurs}
use Rattle.bytes_utils.specs.Parts.{AreInclusiveParts, PartEndsAtFirst}
use Rattle.bytes_utils.proofs.Boundaries.{OccursAt-fits}
use Rattle.bytes_utils.proofs.Inclusive.{AreInclusiveParts-none, AreInclusiveParts-more, AreInclusiveParts-last, ends_whole, has_inclusive_parts}
use Rattle.bytes_utils.proofs.NextPart.{no_chars}
use Rattle.bytes_utils.proofs.SearchLemmas.{chars-some}
use Rattle.bytes_utils.proofs.Unique.{inclusive_same}
use Rattle.bytes_utils_run.specs.Borrowed.{GivesBorrowedParts}
use Rattle.bytes_utils_run.proofs.BorrowedRuns.{GivesBorrowedParts-from_steps}
use Rattle.bytes_utils_run.proofs.BorrowedCuts.{FindsCut, First, IsCutAt, Seeks}

-- the empty text has no parts
no_parts : (p : List ℕ) → 0 < length p → (parts : List (List ℕ)) → AreInclusiveParts [] p parts → parts ≡ []
no_parts p some parts are = inclusive_same p some [] parts [] are (AreInclusiveParts-none p)

none_to_come : (p text : List ℕ) → length text ≡ 0 → AreInclusiveParts (chars text) p []
none_to_come p text none = subst (λ z. AreInclusiveParts z p []) (sym (no_chars text none)) (AreInclusiveParts-none p)

module _ (p : List ℕ) (some : 0 < length p) where
  -- what is left after a part is text, and its parts follow that part
  abbrev Follows : List ℕ → List ℕ → List ℕ → Type 0
  Follows text part rest = IsUtf8 rest × ((others : List (List ℕ)) → AreInclusiveParts (chars rest) p others → AreInclusiveParts (chars text) p (chars part ∷ others))

  -- the last part is all of the text
  Follows-last : (text part rest : List ℕ) → IsUtf8 text → text ≡ part ++ rest → part ≡ text → 0 < length text → PartEndsAtFirst p (chars text) ⊎ (¬ Occurs p (chars text)) → Follows text part rest
  Follows-last text part rest text_is whole part_is long ends =
      let nothing : length rest ≡ 0 = omega (arith, ap length whole, length-append part rest, ap length part_is) in (
        subst IsUtf8 (sym (nil_from_length rest nothing)) IsUtf8-nil,
        λ others are.
            let none : others ≡ [] = no_parts p some others (subst (λ z. AreInclusiveParts z p others) (no_chars rest nothing) are) in
            rw (part_is, none) (AreInclusiveParts-last p (chars text) (chars-some text text_is long) ends),
      )

  module _ (text : List ℕ) (text_is : IsUtf8 text) (i j : ℕ) (cut : IsCutAt First p text i j) where
    -- the characters up to the end of the separator, and those after it
    parted : chars text ≡ chars (take j text) ++ chars (drop j text)
    parted =
        let boundary = IsCharBoundary-from_drop text j cut.fits cut.after_is in
        ap chars (sym (take-append-drop j text)) ∙ chars-append (take j text) (drop j text) (IsUtf8-take text j text_is boundary)

    size_after : length (chars (drop j text)) + (cut.place + length p) ≡ length (chars text)
    size_after =
        let fits = OccursAt-fits p (chars text) cut.place some cut.found.here in
        omega (arith, fits, ap length cut.following, length-drop (cut.place + length p) (chars text))

    through : chars (take j text) ≡ take (cut.place + length p) (chars text)
    through =
        let sizes = ap length parted ∙ length-append (chars (take j text)) (chars (drop j text)) in
        let size : length (chars (take j text)) ≡ cut.place + length p = omega (arith, sizes, size_after) in
        sym (ap (take (cut.place + length p)) parted ∙ take_at (chars (take j text)) (chars (drop j text)) (cut.place + length p) size)

    -- a separator at the end of the text ends the last part
    at_end : j ≡ length text → PartEndsAtFirst p (chars text)
    at_end end =
        let nothing : length (drop j text) ≡ 0 = omega (arith, length-drop j text, end) in
        ends_whole p (chars text) cut.place cut.found (omega (arith, size_after, ap length (no_chars (drop j text) nothing)))

    Follows-through : (part rest : List ℕ) → text ≡ part ++ rest → part ≡ take j text → Follows text part rest
    Follows-through part rest whole part_is = elim (eq-or-lt_of_le cut.fits) [
      | inl end ↦ (let longer = cut.longer in
          Follows-last text part rest text_is whole (part_is ∙ ap (λ k. take k text) end ∙ take-length text) (omega (arith, longer, end)) (inl (at_end end)))
      | inr less ↦ (let size : length part ≡ j = ap length part_is ∙ length-take-le j text cut.fits in
          let rest_is : rest ≡ drop j text = sym (ap (drop j) whole ∙ drop_at part rest j size) in
          let long : 0 < length (chars (drop j text)) = chars-some (drop j text) cut.after_is (omega (arith, length-drop j text, less)) in (
            rw rest_is cut.after_is,
            λ others are.
                let following = subst (λ z. AreInclusiveParts z p others) (ap chars rest_is ∙ cut.following) are in
                rw (part_is, through) (AreInclusiveParts-more p (chars text) cut.place some cut.found (omega (arith, size_after, long)) others following),
          ))
    ]

  follows : (text part rest : List ℕ) (F : List ℕ → Option (ℕ × ℕ) → Type 0) → ((found : Option (ℕ × ℕ)) → F text found → FindsCut First p text found)
      → IsUtf8 text → text ≡ part ++ rest → EndsAtFirstMatch F text part → Follows text part rest
  follows text part rest F cuts text_is whole (None, finds, is) = Follows-last text part rest text_is whole is.0 is.1 (inr (cuts None finds))
  follows text part rest F cuts text_is whole (Some (i, j), finds, is) =
      let cut = cuts (Some (i, j)) finds in
      let longer = cut.longer in
      Follows-through text text_is i j cut part rest whole (is (omega (arith, longer)))

module _ {P : Type 0} {finds : P → List ℕ → Option (ℕ × ℕ) → Type 0} {keeps : P → P → Type 0} {p : List ℕ} {is : P → Type 0} where
  pub split_inclusive-gives : Seeks finds keeps First p is → (s : SplitInclusive P) (text : List ℕ) → split_inclusive_text s ≡ text → IsUtf8 text → is (split_inclusive_pattern s)
      → GivesBorrowedParts (split_inclusive_steps finds keeps) s (AreInclusiveParts (chars text) p)
  split_inclusive-gives seeks s text text_is utf8 pattern_is =
      subst (λ t. GivesBorrowedParts (split_inclusive_steps finds keeps) s (AreInclusiveParts (chars t) p)) text_is
      (GivesBorrowedParts-from_steps (split_inclusive_steps finds keeps) (λ s. IsUtf8 (split_inclusive_text s) × is (split_inclusive_pattern s))
      (λ s. AreInclusiveParts (chars (split_inclusive_text s)) p)
      (λ s s_is. has_inclusive_parts p (chars (split_inclusive_text s)) seeks.some)
      (λ s u s_is step. none_to_come p (split_inclusive_text s) step.1.0)
      (λ s t x s_is step.
      let pattern = split_inclusive_pattern s in
      let text = split_inclusive_text s in
      let one = follows p seeks.some text x.now (split_inclusive_text t) (finds pattern) (λ found. seeks.cuts pattern text found s_is.1 s_is.0) s_is.0 step.1.0 step.1.1 in
      ((one.0, seeks.kept pattern (split_inclusive_pattern t) s_is.1 step.0), one.1))
      s (subst IsUtf8 (sym text_is) utf8, pattern_is))
