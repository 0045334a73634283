-- The parts to come of a text by any of the ways to split, one part a step.
use Rattle.std.specs.Prelude.{◌≡◌, ℕ, List, [], length, Option, None, Some}
use Rattle.std.specs.Char.{is_whitespace, is_ascii_whitespace}
use Rattle.std.specs.Option.{option_map_or}
use Rattle.bytes_utils.specs.Keeping.{Keeping, AreInclusivePartsToCome, RefusesInclusive, most_inclusive_parts}
use Rattle.bytes_utils.specs.Lines.{AreLinesToCome, RefusesLine}
use Rattle.bytes_utils.specs.Splitting.{Splitting, AreForwardPartsToCome, AreBackwardPartsToCome, RefusesSplit, all_of, most_parts}
use Rattle.bytes_utils.specs.Step.{LeavesEnd, StepsHaveGiven}
use Rattle.bytes_utils.specs.Words.{AreWordsToCome, RefusesWord}
use Rattle.bytes_utils.specs.declared.split.direction.Direction.TheVariants.{Forward, Backward}
use Rattle.bytes_utils_run.specs.declared.how.How.{How}
use Rattle.bytes_utils_run.specs.declared.how.How.TheVariants.{Words as InWords, AsciiWords as InAsciiWords, Lines as InLines, Split as AtEach, SplitN as AtMost}
use Rattle.bytes_utils_run.specs.declared.how.How.TheVariants.{RSplit as AtEachFromBack, RSplitN as AtMostFromBack, Inclusive as AfterEach}
use Rattle.bytes_utils_run.specs.declared.splitter.AnySplitter.{AnySplitter}
use Rattle.bytes_utils_run.specs.declared.splitter.AnySplitter.TheVariants.{Words, AsciiWords, Lines, Split, RSplit, Inclusive}

-- these parts are to come
abbrev pub AreToCome : {S C : Type 0} → AnySplitter S C → List (List ℕ) → Type 0
AreToCome (Words rest) = AreWordsToCome is_whitespace rest
AreToCome (AsciiWords rest) = AreWordsToCome is_ascii_whitespace rest
AreToCome (Lines rest) = AreLinesToCome rest
AreToCome (Split s) = AreForwardPartsToCome s
AreToCome (RSplit s) = AreBackwardPartsToCome s
AreToCome (Inclusive s) = AreInclusivePartsToCome s

-- the reasons for which the next step may be refused
abbrev pub RefusesNext : {S C E : Type 0} → (E → Type 0) → (E → Type 0) → (E → Type 0) → AnySplitter S C → E → Type 0
RefusesNext refuses refuses_empty refuses_side (Words rest) = RefusesWord refuses refuses_side is_whitespace rest
RefusesNext refuses refuses_empty refuses_side (AsciiWords rest) = RefusesWord refuses refuses_side is_ascii_whitespace rest
RefusesNext refuses refuses_empty refuses_side (Lines rest) = RefusesLine refuses refuses_empty refuses_side rest
RefusesNext refuses refuses_empty refuses_side (Split s) = RefusesSplit refuses refuses_empty refuses_side Forward s
RefusesNext refuses refuses_empty refuses_side (RSplit s) = RefusesSplit refuses refuses_empty refuses_side Backward s
RefusesNext refuses refuses_empty refuses_side (Inclusive s) = RefusesInclusive refuses s

-- the splitter of a text, in bytes, for a way to split
abbrev pub splitter_of : {S C : Type 0} → How → List ℕ → AnySplitter S C
splitter_of InWords text = Words (Some text)
splitter_of InAsciiWords text = AsciiWords (Some text)
splitter_of InLines text = Lines (Some text)
splitter_of (AtEach separator) text = Split (all_of text separator.now None)
splitter_of (AtMost most separator) text = Split (all_of text separator.now (Some most))
splitter_of (AtEachFromBack separator) text = RSplit (all_of text separator.now None)
splitter_of (AtMostFromBack most separator) text = RSplit (all_of text separator.now (Some most))
splitter_of (AfterEach separator) text = Inclusive (record { rest = Some text; separator = separator.now })

-- Steps of the first splitter may lead to the second. It is of the same kind. Of words and lines, what it has left is an
-- end of what the first had left; from the back it has the same separator.
abbrev pub GoesOnTo : {S C : Type 0} → AnySplitter S C → AnySplitter S C → Type 0
GoesOnTo (Words left) s = (rest : Option (List ℕ)) × (s ≡ Words rest) × LeavesEnd left rest
GoesOnTo (AsciiWords left) s = (rest : Option (List ℕ)) × (s ≡ AsciiWords rest) × LeavesEnd left rest
GoesOnTo (Lines left) s = (rest : Option (List ℕ)) × (s ≡ Lines rest) × LeavesEnd left rest
GoesOnTo (Split _) s = (state : Splitting) × (s ≡ Split state)
GoesOnTo (RSplit first) s = (state : Splitting) × (s ≡ RSplit state) × (state.separator ≡ first.separator)
GoesOnTo (Inclusive _) s = (state : Keeping) × (s ≡ Inclusive state)

-- since the splitter `start` these parts were given, up to `now`, which is the start if none was
pub record HasGiven {S C : Type 0} (start : AnySplitter S C) (parts : List (List ℕ)) (now : AnySplitter S C) : Type 0 where
  pub had : StepsHaveGiven AreToCome start parts now
  pub goes : GoesOnTo start now
  pub first : parts ≡ [] → now ≡ start

-- after these parts a step may be refused for this reason
abbrev pub MayRefuseAfter : {S C E : Type 0} → (E → Type 0) → (E → Type 0) → (E → Type 0) → AnySplitter S C → List (List ℕ) → E
    → Type 0
MayRefuseAfter {S} {C} refuses refuses_empty refuses_side start parts reason =
    (last : AnySplitter S C) × HasGiven start parts last × RefusesNext refuses refuses_empty refuses_side last reason

-- a bound on the number of parts to come
abbrev pub most_to_come : {S C : Type 0} → AnySplitter S C → ℕ
most_to_come (Words rest) = option_map_or length rest 0
most_to_come (AsciiWords rest) = option_map_or length rest 0
most_to_come (Lines rest) = option_map_or length rest 0
most_to_come (Split s) = most_parts s
most_to_come (RSplit s) = most_parts s
most_to_come (Inclusive s) = most_inclusive_parts s
