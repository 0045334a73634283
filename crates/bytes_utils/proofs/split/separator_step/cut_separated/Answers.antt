use Rattle.std.proofs.Common.{◌≡◌, length, rules}
use Rattle.bytes_utils.proofs.NextPart.{occurs-empty}
use Rattle.bytes_utils_buf.proofs.Results.{OnErr-always}
use Rattle.bytes_utils.proofs.split.separator_step.cut_separated.Goals as goal

pub returns-then-is_empty-clause-holds : goal.returns-then-is_empty-clause-holds
returns-then-is_empty-clause-holds g c =
    let none : length c.args.separator.now ≡ 0 = search rules in
    OnErr-always _ _ (occurs-empty _ _ none)
