use Rattle.std.proofs.Common.{rules, arith, ◌≡◌, ◌<◌, Some, length}
use Rattle.std.proofs.lemmas.Bool.Decides.{nat_tests}
use Rattle.bytes_utils.proofs.KeepingLemmas.{none_to_come, some_to_come}
use Rattle.bytes_utils.proofs.split.inclusive.SplitInclusiveBytesIterator.next.Goals as goal

pub returns-then-is_empty-clause-steps : goal.returns-then-is_empty-clause-steps
returns-then-is_empty-clause-steps g c =
    let rest_is : c.args.self.now.rest ≡ Some c.in_ok-text.text = search rules in
    let empty : length c.in_ok-text.text ≡ 0 = grind (arith, nat_tests) in
    let none = none_to_come c.args.self.now _ rest_is empty in
    search rules

pub returns-in-Ok-clause-steps : goal.returns-in-Ok-clause-steps
returns-in-Ok-clause-steps g c =
    let rest_is : c.args.self.now.rest ≡ Some c.in_ok-text.text = search rules in
    let some : 0 < length c.in_ok-text.text = grind (arith, nat_tests) in
    let coming = some_to_come c.args.self.now _ rest_is (rw c.as_str.ensures.value at c.as_str.utf8) some in
    search rules
