use Rattle.bytes_utils_run.proofs.BorrowedHalves.{lent_at_last}
use Rattle.bytes_utils_run.proofs.laws.borrowed.rsplit_once.Goals as goal

pub returns : goal.returns
returns c = lent_at_last c.args.text.now c.args.separator.now c.utf8.text c.utf8.separator c.requires c.rsplit_once.result c.rsplit_once.ensures.cases
