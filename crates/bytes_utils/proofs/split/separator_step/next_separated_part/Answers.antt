use Rattle.std.proofs.Common.{rules, ◌≢◌, Some}
use Rattle.bytes_utils.proofs.NextPart.{at_limit}
use Rattle.bytes_utils.proofs.split.separator_step.next_separated_part.Goals as goal

pub returns-clause-gives : goal.returns-clause-gives
returns-clause-gives g c =
    let not_one : c.args.limit ≢ Some 1 = search rules in
    at_limit c.cut_separated.result _ c.args.limit c.requires.some not_one c.cut_separated.ensures.gives
