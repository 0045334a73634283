-- What an input asks for, by the request that was read from it.
use Rattle.std.proofs.Common.{◌≡◌, refl, ℕ, List, ◌++◌, Option, None, Some, map}
use Rattle.std.proofs.lemmas.List.{map-append}
use Rattle.std.proofs.lemmas.List.Folds.{concat-append}
use Rattle.std.specs.Io.KnownBytes.{Appends}
use Rattle.std.specs.List.{concat}
use Rattle.bytes_utils.specs.Lines.{text_after_line}
use Rattle.bytes_utils.specs.Outcome.{Outcome}
use Rattle.bytes_utils_run.specs.Answer.{ComesOf, PrintsBeginning}
use Rattle.bytes_utils_run.specs.Command.{IsCommand, command_line}
use Rattle.bytes_utils_run.specs.Cutting.{Cutting, ArePartsBy}
use Rattle.bytes_utils_run.specs.AppendsAndConsumes.{AppendsBeginning}
use Rattle.bytes_utils_run.specs.Printed.{printed_part, printed_reply}
use Rattle.bytes_utils_run.specs.Request.{AreRequested, AreRequestedReplies, ForParts, ForReplies, IsRequest}
use Rattle.bytes_utils_run.specs.Run.{RunAsksFor}
use Rattle.bytes_utils_run.proofs.Beginnings.{AppendsBeginning-all, AppendsBeginning-more}
use Rattle.bytes_utils_run.proofs.OutcomeLemmas.{Outcome-map}
use Rattle.bytes_utils_buf.specs.declared.refused.Reason.{Reason}
use Rattle.bytes_utils_run.specs.declared.program.answer.Answer.{Answer}
use Rattle.bytes_utils_run.specs.declared.program.answer.Answer.TheVariants.{Splitter, Replies}
use Rattle.bytes_utils_run.specs.declared.calls.call.Call.{Call}
use Rattle.bytes_utils_run.specs.declared.calls.call.Reply.{Reply}

-- a list that is still to come is right for this way to split
pub Outcome-parts : {E : Type 0} (way : Cutting) (line text : List ℕ) → IsCommand way line
    → (coming : List (List ℕ) → Type 0) → ((parts : List (List ℕ)) → coming parts → ArePartsBy way text parts)
    → (parts : List (List ℕ)) (refused : Option E) → Outcome coming parts refused
    → Outcome (AreRequested line text) (map printed_part parts) refused
Outcome-parts way line text command coming right parts refused are =
    Outcome-map printed_part coming (AreRequested line text)
    (λ all is. record { request = ForParts way; is = command; right = (all, right all is, refl) }) parts refused are

pub Outcome-replies : {E : Type 0} (calls : List (Call (List ℕ))) (line text : List ℕ) → IsRequest (ForReplies calls) line text
    → (given : List Reply) (refused : Option E) → Outcome (AreRequestedReplies calls) given refused
    → Outcome (AreRequested line text) (map printed_reply given) refused
Outcome-replies calls line text asked given refused are =
    Outcome-map printed_reply (AreRequestedReplies calls) (AreRequested line text) (λ all is. record { request = ForReplies calls; is = asked; right = (all, is, refl) }) given refused are

-- the outcome for a line and a text is the outcome for the input that has them
pub Outcome-input : {E : Type 0} (input line text : List ℕ) → line ≡ command_line input → text ≡ text_after_line input
    → (entries : List (List ℕ)) (refused : Option E) → Outcome (AreRequested line text) entries refused → Outcome (RunAsksFor input) entries refused
Outcome-input input line text line_is text_is entries refused are = rw (← line_is, ← text_is) are

-- first bytes of what was given are first bytes of a list that is right for the whole
begun-outcome : {E : Type 0} (Is : List (List ℕ) → Type 0) (given : List (List ℕ)) (refused : Option E) → Outcome Is given refused
    → (a b : Option (List ℕ)) → AppendsBeginning a b (concat given) → (all : List (List ℕ)) × Is all × AppendsBeginning a b (concat all)
begun-outcome Is given None is a b begun = (given, is, begun)
begun-outcome Is given (Some e) more a b begun =
    (given ++ more.0, more.2, rw (concat-append given more.0) (AppendsBeginning-more a b (concat given) (concat more.0) begun))

-- first bytes of the results are first bytes of what the input asks for
pub begun-asked : (Is : List (List ℕ) → Type 0) (answer : Answer)
    → ((given : List (List ℕ)) (refused : Option Reason) → ComesOf answer given refused → Outcome Is given refused)
    → (a b : Option (List ℕ)) → PrintsBeginning answer a b → (all : List (List ℕ)) × Is all × AppendsBeginning a b (concat all)
begun-asked Is (Splitter splitter) right a b begun =
    let parts = map printed_part begun.0 in (parts, right parts None (begun.0, refl, begun.1), begun.2)
begun-asked Is (Replies replies missing) right a b begun =
    let given = map printed_reply replies.items in begun-outcome Is given missing (right given missing (refl, refl)) a b begun

-- the results that were printed are first results
pub given-begun : (answer : Answer) (given : List (List ℕ)) (refused : Option Reason) → ComesOf answer given refused
    → (a b : Option (List ℕ)) → Appends a b (concat given) → PrintsBeginning answer a b
given-begun (Splitter splitter) given None (parts, is, are) a b written = (parts, are, rw (← is) (AppendsBeginning-all a b _ written))
given-begun (Splitter splitter) given (Some e) (parts, is, (others, some, are)) a b written = (
  parts ++ others,
  are,
  rw (map-append printed_part parts others, concat-append (map printed_part parts), ← is) (AppendsBeginning-more a b _ _ (AppendsBeginning-all a b _ written)),
)
given-begun (Replies replies missing) given refused came a b written = rw (← came.0) (AppendsBeginning-all a b _ written)
