use Rattle.std.proofs.Common.{ap}
use Rattle.bytes_utils_run.proofs.BorrowedCuts.{Seeks-text_back}
use Rattle.bytes_utils_run.proofs.BorrowedLimits.{rsplitn-gives}
use Rattle.bytes_utils_run.proofs.laws.borrowed.rsplitn.Goals as goal

pub returns : goal.returns
returns c =
    rsplitn-gives (Seeks-text_back c.args.separator.now c.utf8.separator c.requires) c.rsplitn.result c.args.text.now c.args.most c.rsplitn.ensures.text c.rsplitn.ensures.has_more
    c.rsplitn.ensures.count c.utf8.text (ap (λ p. p.now) c.rsplitn.ensures.pattern)
