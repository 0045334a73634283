use Rattle.std.proofs.Common.{rules, ◌≡◌, ◌<◌, length}
use Rattle.bytes_utils.proofs.LinesLemmas.{lines-none, lines-some}
use Rattle.bytes_utils.proofs.split.lines.LinesBytesIterator.next.Goals as goal

pub returns-then-is_empty-clause-steps : goal.returns-then-is_empty-clause-steps
returns-then-is_empty-clause-steps g c =
    let empty : length c.as_str.result.now ≡ 0 = search rules in
    let none = rw c.as_str.ensures.value at (lines-none _ empty) in
    search rules

pub returns-in-Err-clause-steps : goal.returns-in-Err-clause-steps
returns-in-Err-clause-steps g c =
    let long : 0 < length c.as_str.result.now = search rules in
    let some = rw c.as_str.ensures.value at (lines-some _ c.as_str.utf8 long) in
    search rules
