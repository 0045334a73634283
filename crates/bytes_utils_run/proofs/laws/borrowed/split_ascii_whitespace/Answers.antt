use Rattle.bytes_utils_run.proofs.BorrowedWords.{ascii_words-gives}
use Rattle.bytes_utils_run.proofs.laws.borrowed.split_ascii_whitespace.Goals as goal

pub returns : goal.returns
returns c = ascii_words-gives c.split_ascii_whitespace.result c.args.text.now c.split_ascii_whitespace.ensures.text c.utf8.text
