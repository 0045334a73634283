use Rattle.bytes_utils_run.proofs.BorrowedCuts.{Seeks-character}
use Rattle.bytes_utils_run.proofs.BorrowedParts.{split-gives}
use Rattle.bytes_utils_run.proofs.laws.borrowed.split_character.Goals as goal

pub returns : goal.returns
returns c =
    split-gives (Seeks-character c.args.character) c.split.result c.args.text.now c.split.ensures.text c.split.ensures.has_more c.utf8.text c.split.ensures.pattern
