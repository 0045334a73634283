use Rattle.std.proofs.Common.{◌≡◌, [], ap, ◌∙◌, subst, rules}
use Rattle.std.specs.Str.{chars}
use Rattle.bytes_utils.specs.Lines.{text_after_line}
use Rattle.bytes_utils_run.specs.AnySplitter.{AreToCome}
use Rattle.bytes_utils_run.specs.Command.{IsReadFrom, command_line}
use Rattle.bytes_utils_run.specs.Cutting.{cutting}
use Rattle.bytes_utils_run.proofs.Asked.{Outcome-input, Outcome-parts, Outcome-replies}
use Rattle.bytes_utils_run.proofs.CommandLemmas.{no-empty_command}
use Rattle.bytes_utils_run.proofs.Replying.{first-given}
use Rattle.bytes_utils_run.proofs.program.answer.answer_to.Goals as goal

pub returns-in-Cut-clause-ok : goal.returns-in-Cut-clause-ok
returns-in-Cut-clause-ok c = λ given refused came.
    let line : chars c.range.result.now ≡ command_line (chars c.args.input.now) = search rules in
    let text : chars c.in_ok-text.text ≡ text_after_line (chars c.args.input.now) = search rules in
    let command = subst (IsReadFrom (chars c.range.result.now)) c.in-Cut.is c.in-Some.ensures in
    rw came.1 (Outcome-input (chars c.args.input.now) _ _ line text _ _
    (Outcome-parts (cutting c.in-Cut.how) (chars c.range.result.now) (chars c.in_ok-text.text) command.1 (AreToCome c.new.result) (search rules) came.0 refused came.2))

-- an empty input has an empty command line, which is no command
pub returns-in-Cut-clause-empty : goal.returns-in-Cut-clause-empty
unfolding chars
returns-in-Cut-clause-empty c = λ none.
    let line : chars c.range.result.now ≡ command_line (chars c.args.input.now) = search rules in
    let empty : chars c.range.result.now ≡ [] = line ∙ ap (λ input. command_line (chars input)) none in
    absurd (no-empty_command c.in-Some.command (subst (λ line. IsReadFrom line c.in-Some.command) empty c.in-Some.ensures))

pub returns-in_ok-given-in-Buf-clause-ok : goal.returns-in_ok-given-in-Buf-clause-ok
returns-in_ok-given-in-Buf-clause-ok c = λ given refused came.
    let line : chars c.range.result.now ≡ command_line (chars c.args.input.now) = search rules in
    let text : chars c.in_ok-text.text ≡ text_after_line (chars c.args.input.now) = search rules in
    let command = subst (IsReadFrom (chars c.range.result.now)) c.in-Buf.is c.in-Some.ensures in
    rw (came.0, came.1) (Outcome-input (chars c.args.input.now) _ _ line text _ _
    (Outcome-replies c.in_ok-calls-in-Buf.calls.items _ _ (command, c.in_ok-calls-in-Buf.ensures.ok) _ _
    (first-given c.in_ok-calls-in-Buf.calls _ _ _ c.in_ok-given-in-Buf.ensures.ok)))
