use Rattle.std.proofs.Common.{◌==◌, subst, sym}
use Rattle.bytes_utils_run.specs.Borrowed.{AnswersBy}
use Rattle.bytes_utils_run.proofs.BorrowedCuts.{Seeks-tested}
use Rattle.bytes_utils_run.proofs.BorrowedParts.{split-gives}
use Rattle.bytes_utils_run.proofs.BorrowedClosure.{split_tested-gives}
use Rattle.bytes_utils_run.proofs.laws.borrowed.split_tested.Goals as goal

pub returns-clause-tested : goal.returns-clause-tested
returns-clause-tested g c = λ passes answers.
    split_tested-gives passes (AnswersBy g.F.FnMut) c.split.result c.args.text.now c.split.ensures.text c.split.ensures.has_more c.utf8.text
    (subst (λ f. AnswersBy g.F.FnMut f passes) (sym c.split.ensures.pattern) answers)

pub returns-clause-one : goal.returns-clause-one
returns-clause-one g c = λ separator answers.
    split-gives (Seeks-tested (AnswersBy g.F.FnMut) separator) c.split.result c.args.text.now c.split.ensures.text c.split.ensures.has_more c.utf8.text
    (subst (λ f. AnswersBy g.F.FnMut f (λ c. c == separator)) (sym c.split.ensures.pattern) answers)
