use Rattle.std.proofs.Common.{◌≡◌, ◌∙◌, ◌++◌, ◌∷◌, [], rules}
use Rattle.bytes_utils.proofs.StepLemmas.{given}
use Rattle.bytes_utils_run.proofs.CallLineLemmas.{HasRead-none, HasRead-more, no-calls-read}
use Rattle.bytes_utils_run.proofs.program.call_line.calls_of_lines.Goals as goal

pub loop-line-init : goal.loop-line-init
loop-line-init c =
    HasRead-none _ _ _ c.new-calls.ensures.items (c.into_iter-line-iterator.ensures.into_iter_gives ∙ c.lines_bytes-line-items.ensures.value)

pub loop-line-preserved : goal.loop-line-preserved
loop-line-preserved c =
    let gives = given c.in-Ok.is c.in-Some.ensures.steps.1 in
    let pushed : c.push.new.self.items ≡ c.loop-line.calls.items ++ c.in_ok-call.call ∷ [] = search rules in
    HasRead-more _ _ _ _ _ c.in_ok-call.call _ c.loop-line.invariant gives c.in_ok-call.ensures.ok pushed

pub returns-in_err-call-clause-unknown : goal.returns-in_err-call-clause-unknown
returns-in_err-call-clause-unknown c is =
    let gives = given c.in-Ok.is c.in-Some.ensures.steps.1 in
    no-calls-read _ _ _ _ _ c.loop-line.invariant gives (c.in_err-call.ensures.unknown (search rules))
