use Rattle.std.proofs.Common.{◌≡◌, ◌∙◌, sym, Some}
use Rattle.bytes_utils.proofs.StepLemmas.{LeavesEnd-after}
use Rattle.bytes_utils.proofs.WordsLemmas.{step-word, left-shorter}
use Rattle.bytes_utils.proofs.split.words.next_word.Goals as goal

pub returns-in-Ok-clause-step : goal.returns-in-Ok-clause-step
returns-in-Ok-clause-step g c =
    let rest_is : c.args.rest.now ≡ Some c.in_ok-text.text = sym c.take.ensures.value ∙ c.in_ok-text.was in
    let first = rw c.as_str.ensures.value at c.in_ok-start.ensures.word in
    let step = step-word g.W.WhiteSpace.is_space _ _ _ _ _ c.in-Ok.ensures.word c.in-Ok.ensures.rest first in
    rw rest_is (record { some = step.0; gives = step.1 })

pub returns-in-Ok-clause-leaves : goal.returns-in-Ok-clause-leaves
returns-in-Ok-clause-leaves g c =
    let rest_is : c.args.rest.now ≡ Some c.in_ok-text.text = sym c.take.ensures.value ∙ c.in_ok-text.was in
    rw rest_is (LeavesEnd-after _ _ _ c.in-Ok.ensures.rest)

pub returns-in-Ok-clause-shorter : goal.returns-in-Ok-clause-shorter
returns-in-Ok-clause-shorter g c =
    let rest_is : c.args.rest.now ≡ Some c.in_ok-text.text = sym c.take.ensures.value ∙ c.in_ok-text.was in
    let fits = rw c.as_str.ensures.value at c.in_ok-start.ensures.end in
    rw rest_is (left-shorter g.W.WhiteSpace.is_space _ _ _ _ _ c.in-Ok.ensures.word c.in-Ok.ensures.rest c.in_ok-start.ensures.order fits.0)
