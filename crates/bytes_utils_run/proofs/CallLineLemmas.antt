-- Call lines read one after the other.
use Rattle.std.proofs.Common.{◌≡◌, refl, sym, subst, ℕ, List, [], ◌∷◌, ◌++◌, Option, Some}
use Rattle.std.specs.Str.{chars}
use Rattle.bytes_utils.specs.Lines.{AreLinesToCome, lines}
use Rattle.bytes_utils.specs.Step.{StepGivesFirst, StepsHaveGiven}
use Rattle.bytes_utils.proofs.StepLemmas.{StepsHaveGiven-none, StepsHaveGiven-more}
use Rattle.bytes_utils_run.specs.CallLine.{AreCallLines, IsCallLine}
use Rattle.bytes_utils_run.specs.declared.calls.call.Call.{Call}
use Rattle.bytes_utils_run.specs.declared.calls.call.Call.TheVariants.{Push, Segments, Read}
use Rattle.bytes_utils_run.specs.declared.calls.call.ReadCall.TheVariants.{Remaining, Chunk, Advance, CopyOut, Chunks}

-- one more line asks for one more call
AreCallLines-push : (calls : List (Call (List ℕ))) (lines : List (List ℕ)) (call : Call (List ℕ)) (line : List ℕ)
    → AreCallLines calls lines → IsCallLine call line → AreCallLines (calls ++ call ∷ []) (lines ++ line ∷ [])
AreCallLines-push [] [] call line are is = (is, tt)
AreCallLines-push [] (other ∷ lines) call line are is = absurd are
AreCallLines-push (other ∷ calls) [] call line are is = absurd are
AreCallLines-push (other ∷ calls) (first ∷ lines) call line are is = (are.0, AreCallLines-push calls lines call line are.1 is)

-- if one line asks for no call, the lines are not all call lines
no-call : (calls : List (Call (List ℕ))) (lines : List (List ℕ)) (line : List ℕ) (more : List (List ℕ)) → ((call : Call (List ℕ)) → ¬ IsCallLine call line)
    → ¬ AreCallLines calls (lines ++ line ∷ more)
no-call [] [] line more none are = are
no-call [] (other ∷ lines) line more none are = are
no-call (call ∷ calls) [] line more none are = none call are.0
no-call (call ∷ calls) (other ∷ lines) line more none are = no-call calls lines line more none are.1

-- a line that asks for none of the kinds of calls asks for no call
pub no-kind : (line : List ℕ)
    → (¬ IsCallLine Segments line) × (¬ IsCallLine (Read Remaining) line) × (¬ IsCallLine (Read Chunk) line)
    → ((n : ℕ) → (¬ IsCallLine (Read (Advance n)) line) × (¬ IsCallLine (Read (CopyOut n)) line) × (¬ IsCallLine (Read (Chunks n)) line))
    → ((bytes : List ℕ) → ¬ IsCallLine (Push bytes) line)
    → (call : Call (List ℕ)) → ¬ IsCallLine call line
no-kind line plain call_line_number pushed (Push bytes) = pushed bytes
no-kind line plain call_line_number pushed Segments = plain.0
no-kind line plain call_line_number pushed (Read Remaining) = plain.1
no-kind line plain call_line_number pushed (Read Chunk) = plain.2
no-kind line plain call_line_number pushed (Read (Advance n)) = (call_line_number n).0
no-kind line plain call_line_number pushed (Read (CopyOut n)) = (call_line_number n).1
no-kind line plain call_line_number pushed (Read (Chunks n)) = (call_line_number n).2

-- The calls read so far: the splitter gave lines that ask for them.
pub record HasRead (text : List ℕ) (calls : List (Call (List ℕ))) (state : Option (List ℕ)) : Type 0 where
  pub read : List (List ℕ)
  pub asked : AreCallLines calls read
  pub had : StepsHaveGiven AreLinesToCome (Some text) read state

-- no call yet
pub HasRead-none : (text : List ℕ) (calls : List (Call (List ℕ))) (state : Option (List ℕ)) → calls ≡ [] → state ≡ Some text → HasRead text calls state
HasRead-none text calls state none is = record {
  read = [];
  asked = subst (λ cs. AreCallLines cs []) (sym none) tt;
  had = StepsHaveGiven-none AreLinesToCome (Some text) (lines (chars text), refl) refl is;
}

-- one more call
pub HasRead-more : (text : List ℕ) (calls new : List (Call (List ℕ))) (state next : Option (List ℕ)) (call : Call (List ℕ)) (line : List ℕ)
    → HasRead text calls state → StepGivesFirst AreLinesToCome state line next → IsCallLine call line → new ≡ calls ++ call ∷ [] → HasRead text new next
HasRead-more text calls new state next call line old gives is pushed = record {
  read = old.read ++ line ∷ [];
  asked = subst (λ cs. AreCallLines cs (old.read ++ line ∷ [])) (sym pushed) (AreCallLines-push calls old.read call line old.asked is);
  had = StepsHaveGiven-more AreLinesToCome (Some text) line old.had gives;
}

-- if the next line asks for no call, the lines of the text are not all call lines
pub no-calls-read : (text : List ℕ) (calls : List (Call (List ℕ))) (state next : Option (List ℕ)) (line : List ℕ)
    → HasRead text calls state → StepGivesFirst AreLinesToCome state line next → ((call : Call (List ℕ)) → ¬ IsCallLine call line)
    → (all : List (Call (List ℕ))) → ¬ AreCallLines all (lines (chars text))
no-calls-read text calls state next line old gives none all are =
    let whole = old.had.each (line ∷ gives.some.0) (gives.each gives.some.0 gives.some.1) in
    no-call all old.read line gives.some.0 none (subst (AreCallLines all) (sym whole) are)
