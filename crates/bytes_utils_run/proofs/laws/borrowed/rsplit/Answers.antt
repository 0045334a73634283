use Rattle.std.proofs.Common.{ap}
use Rattle.bytes_utils_run.proofs.BorrowedCuts.{Seeks-text_back}
use Rattle.bytes_utils_run.proofs.BorrowedParts.{rsplit-gives}
use Rattle.bytes_utils_run.proofs.laws.borrowed.rsplit.Goals as goal

pub returns : goal.returns
returns c =
    rsplit-gives (Seeks-text_back c.args.separator.now c.utf8.separator c.requires) c.rsplit.result c.args.text.now c.rsplit.ensures.text c.rsplit.ensures.has_more c.utf8.text
    (ap (λ p. p.now) c.rsplit.ensures.pattern)
