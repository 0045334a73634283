use Rattle.std.proofs.Common.{◌≤◌, ◌∙◌, ap, arith, length}
use Rattle.std.proofs.lemmas.List.{take_all, drop_all}
use Rattle.std.proofs.lemmas.Str.{IsCharBoundary-start}
use Rattle.bytes_utils.proofs.CharacterCut.{gives_empty}
use Rattle.bytes_utils.proofs.split.empty_separator.empty_part.Goals as goal

pub into_halves-requires : goal.into_halves-requires
into_halves-requires g c = rw (← c.as_str-end.ensures.value) (IsCharBoundary-start _ c.as_str-end.utf8)

pub returns-in_ok-part-in-Forward-clause-gives : goal.returns-in_ok-part-in-Forward-clause-gives
returns-in_ok-part-in-Forward-clause-gives g c =
    rw c.in_ok-part-in-Forward.ensures.right (gives_empty c.args.from c.args.text _ c.in_ok-part-in-Forward.ensures.left)

pub returns-in_ok-rest-in-Backward-clause-gives : goal.returns-in_ok-rest-in-Backward-clause-gives
returns-in_ok-rest-in-Backward-clause-gives g c =
    let whole : length c.args.text ≤ length c.as_str-end.result.now = omega (arith, ap length c.as_str-end.ensures.value) in
    let part_is = c.in_ok-rest-in-Backward.ensures.right ∙ drop_all _ _ whole in
    rw (c.in_ok-rest-in-Backward.ensures.left ∙ take_all _ _ whole) (gives_empty c.args.from c.args.text _ part_is)
