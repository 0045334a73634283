use Rattle.bytes_utils_run.proofs.BorrowedLines.{lines-gives}
use Rattle.bytes_utils_run.proofs.laws.borrowed.lines.Goals as goal

pub returns : goal.returns
returns c = lines-gives c.lines.result c.args.text.now c.lines.ensures.rest c.utf8.text
