use Rattle.std.proofs.Common.{ap}
use Rattle.bytes_utils_run.proofs.BorrowedCuts.{Seeks-text}
use Rattle.bytes_utils_run.proofs.BorrowedLimits.{splitn-gives}
use Rattle.bytes_utils_run.proofs.laws.borrowed.splitn.Goals as goal

pub returns : goal.returns
returns c =
    splitn-gives (Seeks-text c.args.separator.now c.utf8.separator c.requires) c.splitn.result c.args.text.now c.args.most c.splitn.ensures.text c.splitn.ensures.has_more
    c.splitn.ensures.count c.utf8.text (ap (λ p. p.now) c.splitn.ensures.pattern)
