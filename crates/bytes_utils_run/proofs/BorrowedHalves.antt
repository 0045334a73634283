-- The borrowed halves that `str::split_once` and `str::rsplit_once` return, by characters.
use Rattle.std.proofs.Common.{ap, ◌∙◌, ℕ, ◌<◌, List, Option, None, Some, MatchOption, length, arith, IsUtf8}
use denote.Ref.{Bor}
use Rattle.std.specs.Str.{chars}
use Rattle.std.specs.Str.Pattern.{FindsText, RFindsText, SplitsAroundMatch}
use Rattle.bytes_utils.specs.Halves.{AreHalvesAtFirst, AreHalvesAtLast}
use Rattle.bytes_utils.specs.Occurrence.{Occurs}
use Rattle.bytes_utils.proofs.HalvesLemmas.{AreHalvesAtFirst-at, AreHalvesAtLast-at}
use Rattle.bytes_utils.proofs.SearchLemmas.{chars-some}
use Rattle.bytes_utils_run.proofs.BorrowedCuts.{finds_first, finds_last}

-- the halves are right by the relation Are, or there are none and the separator does not occur
abbrev IsLentOnce : (List ℕ → List ℕ → List ℕ → List ℕ → Type 0) → List ℕ → List ℕ → Option (Bor (List ℕ) × Bor (List ℕ)) → Type 0
IsLentOnce Are text sep lent = MatchOption lent (¬ Occurs (chars sep) (chars text)) (λ halves. Are (chars text) (chars sep) (chars halves.0.now) (chars halves.1.now))

-- what std says of a text that is split around a match
abbrev IsCutAround : (List ℕ → List ℕ → Option (ℕ × ℕ) → Type 0) → List ℕ → List ℕ → Option (Bor (List ℕ) × Bor (List ℕ)) → Type 0
IsCutAround Finds text sep lent = MatchOption lent (Finds sep text None) (λ halves. SplitsAroundMatch (Finds sep) text halves.0.now halves.1.now)

module _ (text sep : List ℕ) (text_is : IsUtf8 text) (sep_is : IsUtf8 sep) (some : 0 < length sep) where
  pub lent_at_first : (lent : Option (Bor (List ℕ) × Bor (List ℕ))) → IsCutAround FindsText text sep lent → IsLentOnce AreHalvesAtFirst text sep lent
  lent_at_first None nowhere = finds_first text sep text_is sep_is some None nowhere
  lent_at_first (Some halves) cut =
      let at = finds_first text sep text_is sep_is some (Some (cut.0, cut.1)) cut.2 in
      AreHalvesAtFirst-at (chars text) (chars sep) (chars halves.0.now) (chars halves.1.now) at.place at.found.here (ap chars cut.3 ∙ at.before) (ap chars cut.4 ∙ at.following)
      at.found.none_before

  pub lent_at_last : (lent : Option (Bor (List ℕ) × Bor (List ℕ))) → IsCutAround RFindsText text sep lent → IsLentOnce AreHalvesAtLast text sep lent
  lent_at_last None nowhere = finds_last text sep text_is sep_is some None nowhere
  lent_at_last (Some halves) cut =
      let at = finds_last text sep text_is sep_is some (Some (cut.0, cut.1)) cut.2 in
      AreHalvesAtLast-at (chars text) (chars sep) (chars halves.0.now) (chars halves.1.now) at.place at.found.here (ap chars cut.3 ∙ at.before) (ap chars cut.4 ∙ at.following)
      (λ _. at.found.none_after) (λ none. absurd (omega (arith, none, chars-some sep sep_is some)))
