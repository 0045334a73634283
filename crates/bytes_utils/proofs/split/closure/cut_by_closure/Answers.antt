use Rattle.std.proofs.Common.{rules, ◌≡◌, take, drop}
use Rattle.bytes_utils.proofs.Chunks.{fewer_after, fewer_before}
use Rattle.bytes_utils.proofs.split.closure.cut_by_closure.Goals as goal

pub returns-in_ok-chunk-in-Forward-clause-fewer : goal.returns-in_ok-chunk-in-Forward-clause-fewer
returns-in_ok-chunk-in-Forward-clause-fewer g c =
    let cut = rw c.in-Forward.is at c.requires.cut in
    let fewer = fewer_after _ _ c.requires.text cut.1 cut.3 in
    let rest_is : c.in_ok-chunk-in-Forward.rest ≡ drop c.args.separator_edge c.args.text = search rules in
    rw rest_is fewer

pub returns-in_ok-rest-in-Backward-clause-fewer : goal.returns-in_ok-rest-in-Backward-clause-fewer
returns-in_ok-rest-in-Backward-clause-fewer g c =
    let cut = rw c.in-Backward.is at c.requires.cut in
    let fewer = fewer_before _ _ c.requires.text cut.1 cut.3 in
    let rest_is : c.in_ok-rest-in-Backward.rest ≡ take c.args.separator_edge c.args.text = search rules in
    rw rest_is fewer
