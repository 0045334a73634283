use Rattle.bytes_utils_run.proofs.BorrowedHalves.{lent_at_first}
use Rattle.bytes_utils_run.proofs.laws.borrowed.split_once.Goals as goal

pub returns : goal.returns
returns c = lent_at_first c.args.text.now c.args.separator.now c.utf8.text c.utf8.separator c.requires c.split_once.result c.split_once.ensures.cases
