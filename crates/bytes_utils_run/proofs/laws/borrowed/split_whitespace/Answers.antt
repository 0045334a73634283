use Rattle.bytes_utils_run.proofs.BorrowedWords.{words-gives}
use Rattle.bytes_utils_run.proofs.laws.borrowed.split_whitespace.Goals as goal

pub returns : goal.returns
returns c = words-gives c.split_whitespace.result c.args.text.now c.split_whitespace.ensures.rest c.utf8.text
