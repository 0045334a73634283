use Rattle.std.proofs.Common.{ap}
use Rattle.bytes_utils_run.proofs.BorrowedCuts.{Seeks-text}
use Rattle.bytes_utils_run.proofs.BorrowedKeeping.{split_inclusive-gives}
use Rattle.bytes_utils_run.proofs.laws.borrowed.split_inclusive.Goals as goal

pub returns : goal.returns
returns c =
    split_inclusive-gives (Seeks-text c.args.separator.now c.utf8.separator c.requires) c.split_inclusive.result c.args.text.now c.split_inclusive.ensures.text c.utf8.text
    (ap (λ p. p.now) c.split_inclusive.ensures.pattern)
