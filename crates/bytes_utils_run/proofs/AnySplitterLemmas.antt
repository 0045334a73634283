-- What a loop over any splitter keeps.
use Rattle.std.proofs.Common.{◌≡◌, refl, sym, ap, subst, ◌∙◌, ℕ, List, [], ◌∷◌, ◌++◌, length, length-append, arith}
use Rattle.bytes_utils.specs.Step.{StepGivesFirst}
use Rattle.bytes_utils.proofs.StepLemmas.{LeavesEnd-self, LeavesEnd-trans, StepsHaveGiven-none, StepsHaveGiven-more}
use Rattle.bytes_utils_run.specs.AnySplitter.{AreToCome, GoesOnTo, HasGiven}
use Rattle.bytes_utils_run.specs.declared.splitter.AnySplitter.{AnySplitter}
use Rattle.bytes_utils_run.specs.declared.splitter.AnySplitter.TheVariants.{Words, AsciiWords, Lines, Split, RSplit, Inclusive}

GoesOnTo-self : {S C : Type 0} (s : AnySplitter S C) → GoesOnTo s s
GoesOnTo-self (Words rest) = (rest, refl, LeavesEnd-self rest)
GoesOnTo-self (AsciiWords rest) = (rest, refl, LeavesEnd-self rest)
GoesOnTo-self (Lines rest) = (rest, refl, LeavesEnd-self rest)
GoesOnTo-self (Split s) = (s, refl)
GoesOnTo-self (RSplit s) = (s, refl, refl)
GoesOnTo-self (Inclusive s) = (s, refl)

GoesOnTo-trans : {S C : Type 0} (s t u : AnySplitter S C) → GoesOnTo s t → GoesOnTo t u → GoesOnTo s u
GoesOnTo-trans (Words left) t u first next =
    let last : GoesOnTo (Words first.0) u = subst (λ s. GoesOnTo s u) first.1 next in (last.0, last.1, LeavesEnd-trans left first.0 last.0 first.2 last.2)
GoesOnTo-trans (AsciiWords left) t u first next =
    let last : GoesOnTo (AsciiWords first.0) u = subst (λ s. GoesOnTo s u) first.1 next in (last.0, last.1, LeavesEnd-trans left first.0 last.0 first.2 last.2)
GoesOnTo-trans (Lines left) t u first next =
    let last : GoesOnTo (Lines first.0) u = subst (λ s. GoesOnTo s u) first.1 next in (last.0, last.1, LeavesEnd-trans left first.0 last.0 first.2 last.2)
GoesOnTo-trans (Split _) t u first next = subst (λ s. GoesOnTo s u) first.1 next
GoesOnTo-trans (RSplit _) t u first next =
    let last : GoesOnTo (RSplit first.0) u = subst (λ s. GoesOnTo s u) first.1 next in (last.0, last.1, last.2 ∙ first.2)
GoesOnTo-trans (Inclusive _) t u first next = subst (λ s. GoesOnTo s u) first.1 next

module _ {S C : Type 0} (start : AnySplitter S C) where
  -- no part was given yet
  pub HasGiven-none : {parts : List (List ℕ)} {now : AnySplitter S C} → (more : List (List ℕ)) × AreToCome start more → parts ≡ [] → now ≡ start → HasGiven start parts now
  HasGiven-none some none is = record {
    had = StepsHaveGiven-none AreToCome start some none is;
    goes = subst (GoesOnTo start) (sym is) (GoesOnTo-self start);
    first = λ _. is;
  }

  -- one more part
  pub HasGiven-more : {parts : List (List ℕ)} {s t : AnySplitter S C} (part : List ℕ) → HasGiven start parts s → GoesOnTo s t → StepGivesFirst AreToCome s part t
      → HasGiven start (parts ++ part ∷ []) t
  HasGiven-more {parts} {s} {t} part before goes gives = record {
    had = StepsHaveGiven-more AreToCome start part before.had gives;
    goes = GoesOnTo-trans start s t before.goes goes;
    first = λ none. absurd (omega (arith, ap length none, length-append parts (part ∷ [])));
  }
