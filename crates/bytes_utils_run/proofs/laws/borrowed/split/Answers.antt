use Rattle.std.proofs.Common.{ap}
use Rattle.bytes_utils_run.proofs.BorrowedCuts.{Seeks-text}
use Rattle.bytes_utils_run.proofs.BorrowedParts.{split-gives}
use Rattle.bytes_utils_run.proofs.laws.borrowed.split.Goals as goal

pub returns : goal.returns
returns c =
    split-gives (Seeks-text c.args.separator.now c.utf8.separator c.requires) c.split.result c.args.text.now c.split.ensures.text c.split.ensures.has_more c.utf8.text
    (ap (λ p. p.now) c.split.ensures.pattern)
