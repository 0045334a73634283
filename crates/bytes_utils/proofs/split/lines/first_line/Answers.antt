use Rattle.std.proofs.Common.{◌≡◌, ◌∙◌, Some, length, rules}
use Rattle.bytes_utils.proofs.LinesLemmas.{ends-at_boundary}
use Rattle.bytes_utils.proofs.StepLemmas.{LeavesEnd-after}
use Rattle.bytes_utils.proofs.split.lines.first_line.Goals as goal

pub returns-clause-leaves : goal.returns-clause-leaves
returns-clause-leaves g c = LeavesEnd-after c.args.text c.in-Some.next (Some c.in_ok-line.rest) c.in_ok-line.ensures.after

pub returns-in_err-line-clause-ends : goal.returns-in_err-line-clause-ends
returns-in_err-line-clause-ends g c = λ none.
    let text_is = rw c.as_str.ensures.value at c.as_str.utf8 in
    let place = rw c.as_str.ensures.value at c.in-Some.ensures in
    let at_end : c.in-Some.next ≡ length c.args.text = ends-at_boundary _ _ text_is place.next (place.after ∙ none) in
    search rules
