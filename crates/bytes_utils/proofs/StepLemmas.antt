-- What a caller concludes from the steps of a splitter.
use Rattle.std.proofs.Common.{◌≡◌, refl, sym, ap, subst, ◌∙◌, ℕ, ◌<◌, List, [], ◌∷◌, ◌++◌, Option, None, Some, MatchOption, Result, Ok, MatchResult, length, map, take, drop, arith, append_assoc, append-nil, take-append-drop}
use Rattle.std.proofs.lemmas.List.{map-append}
use Rattle.std.specs.Str.{chars}
use Rattle.bytes_utils.specs.Step.{LeavesEnd, StepGivesFirst, StepGivesItem, StepsHaveGiven}

-- a step that gave a part gives the first of those to come
pub given : {S E : Type 0} {coming : S → List (List ℕ) → Type 0} {refuses : S → E → Type 0} {s t : S} {item : Result (List ℕ) E} {part : List ℕ}
    → item ≡ Ok part → StepGivesItem chars coming refuses s item t → StepGivesFirst coming s (chars part) t
given {coming} {refuses} {s} {t} is step =
    subst (λ i. MatchResult i (λ p. StepGivesFirst coming s (chars p) t) (λ reason. refuses s reason × coming t [])) is step.gives

-- what is left ends itself
pub LeavesEnd-self : (s : Option (List ℕ)) → LeavesEnd s s
LeavesEnd-self None = tt
LeavesEnd-self (Some text) = ([], refl)

-- an end of an end is an end
pub LeavesEnd-trans : (s t u : Option (List ℕ)) → LeavesEnd s t → LeavesEnd t u → LeavesEnd s u
LeavesEnd-trans s t None first next = tt
LeavesEnd-trans s None (Some rest) first next = absurd next
LeavesEnd-trans None (Some middle) (Some rest) first next = absurd first
LeavesEnd-trans (Some text) (Some middle) (Some rest) first next =
    (first.0 ++ next.0, append_assoc first.0 next.0 rest ∙ ap (λ z. first.0 ++ z) next.1 ∙ first.1)

-- what is after a byte place, if anything, is an end
pub LeavesEnd-after : (text : List ℕ) (end : ℕ) (left : Option (List ℕ)) → MatchOption left (end ≡ length text) (λ rest. rest ≡ drop end text) → LeavesEnd (Some text) left
LeavesEnd-after text end None at_end = tt
LeavesEnd-after text end (Some rest) is = (take end text, ap (λ z. take end text ++ z) is ∙ take-append-drop end text)

-- Steps of a loop over a splitter.
module _ {S X : Type 0} (coming : S → List X → Type 0) (start : S) where
  -- no part was given yet
  pub StepsHaveGiven-none : {parts : List X} {now : S} → (more : List X) × coming start more → parts ≡ [] → now ≡ start → StepsHaveGiven coming start parts now
  StepsHaveGiven-none some none is = grind arith

  -- one more part
  pub StepsHaveGiven-more : {parts : List X} {s t : S} (part : X) → StepsHaveGiven coming start parts s → StepGivesFirst coming s part t → StepsHaveGiven coming start (parts ++ part ∷ []) t
  StepsHaveGiven-more {parts} part had gives = grind (arith, append_assoc)

  -- the same for parts of which each is seen in an item that is pushed
  pub StepsHaveGiven-pushed : {Y : Type 0} (seen : Y → X) (items new : List Y) {s t : S} (item : Y) → StepsHaveGiven coming start (map seen items) s → StepGivesFirst coming s (seen item) t
      → new ≡ items ++ item ∷ [] → StepsHaveGiven coming start (map seen new) t
  StepsHaveGiven-pushed seen items new {s} {t} item had gives is =
      subst (λ parts. StepsHaveGiven coming start parts t) (sym (ap (map seen) is ∙ map-append seen items (item ∷ []))) (StepsHaveGiven-more (seen item) had gives)

  -- nothing is to come: the parts are all
  pub StepsHaveGiven-all : {parts : List X} {now : S} → StepsHaveGiven coming start parts now → coming now [] → coming start parts
  StepsHaveGiven-all {parts} had none = subst (coming start) (append-nil parts) (had.each [] none)

  -- a split is refused: others were to come
  pub StepsHaveGiven-refused : {parts : List X} {now : S} → StepsHaveGiven coming start parts now → ¬ coming now [] → (others : List X) × (0 < length others) × coming start (parts ++ others)
  StepsHaveGiven-refused {parts} {now} had some = others had.some.0 had.some.1
    where
      others : (more : List X) → coming now more → (others : List X) × (0 < length others) × coming start (parts ++ others)
      others [] none = absurd (some none)
      others (part ∷ more) to_come = (part ∷ more, omega arith, had.each (part ∷ more) to_come)

  -- a part that was given is not kept: it and others were to come
  pub StepsHaveGiven-dropped : {parts : List X} {s t : S} (part : X) → StepsHaveGiven coming start parts s → StepGivesFirst coming s part t
      → (others : List X) × (0 < length others) × coming start (parts ++ others)
  StepsHaveGiven-dropped part had gives = (part ∷ gives.some.0, omega arith, had.each (part ∷ gives.some.0) (gives.each gives.some.0 gives.some.1))
