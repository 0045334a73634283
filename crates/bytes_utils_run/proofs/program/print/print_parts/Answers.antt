use Rattle.std.proofs.Common.{List, [], ◌∷◌, ◌++◌, ℕ, map, refl, sym, ap, subst}
use Rattle.std.proofs.KnownBytes.{Appends-nil}
use Rattle.std.specs.List.{concat}
use Rattle.std.specs.Str.{chars}
use Rattle.bytes_utils.proofs.StepLemmas.{StepsHaveGiven-refused}
use Rattle.bytes_utils_run.specs.AnySplitter.{AreToCome}
use Rattle.bytes_utils_run.specs.AppendsAndConsumes.{AppendsBeginning}
use Rattle.bytes_utils_run.specs.Printed.{printed_part}
use Rattle.bytes_utils_buf.proofs.Results.{OnErr-always}
use Rattle.bytes_utils_run.proofs.AnySplitterLemmas.{HasGiven-none, HasGiven-more}
use Rattle.bytes_utils_run.proofs.PrintedLemmas.{print_after, print_begun_after}
use Rattle.bytes_utils_run.proofs.program.print.print_parts.Goals as goal

pub loop-item-init : goal.loop-item-init
loop-item-init g c = record {
  parts = [];
  given = HasGiven-none c.args.splitter.now c.requires refl (ap (λ s. s.now) c.into_iter-item-iterator.ensures.into_iter_gives);
  none = λ none. subst (λ s. AreToCome s []) (sym (ap (λ s. s.now) c.into_iter-item-iterator.ensures.into_iter_gives)) none;
  printed = Appends-nil _;
}

-- a split was refused, as it may be in this state: the parts that were to come are missing
pub returns-in-Err-clause-ok : goal.returns-in-Err-clause-ok
returns-in-Err-clause-ok g c =
    let before = c.loop-item.invariant in
    let step = rw c.in-Err.is at c.in-Some.ensures.steps.1 in (
      before.parts,
      StepsHaveGiven-refused AreToCome c.args.splitter.now before.given.had step.some,
      (_, before.given, step.gives.0),
      before.printed,
    )

-- first bytes of the part were printed, and others are to come
pub returns-in_err-print-in-Ok-clause-err : goal.returns-in_err-print-in-Ok-clause-err
returns-in_err-print-in-Ok-clause-err g c =
    let before = c.loop-item.invariant in
    let part = chars c.in-Ok.part in
    let step = rw c.in-Ok.is at c.in-Some.ensures.steps.1 in
    let others = step.gives.some in
    let begun : (parts : List (List ℕ)) × AreToCome c.args.splitter.now parts
    × AppendsBeginning (g.W.Write.contents c.args.writer.now) (g.W.Write.contents c.print.new.writer) (concat (map printed_part parts)) = (
      before.parts ++ part ∷ others.0,
      before.given.had.each (part ∷ others.0) (step.gives.each others.0 others.1),
      print_begun_after printed_part before.parts part others.0 _ _ _ before.printed c.in_err-print-in-Ok.ensures.err,
    ) in
    OnErr-always _ _ begun

-- a part came
pub returns-in_err-print-in-Ok-clause-none : goal.returns-in_err-print-in-Ok-clause-none
returns-in_err-print-in-Ok-clause-none g c = λ none.
    let step = rw c.in-Ok.is at c.in-Some.ensures.steps.1 in absurd (step.some (c.loop-item.invariant.none none))

pub loop-item-preserved : goal.loop-item-preserved
loop-item-preserved g c =
    let before = c.loop-item.invariant in
    let part = chars c.in-Ok.part in
    let step = rw c.in-Ok.is at c.in-Some.ensures.steps.1 in
    record {
      parts = before.parts ++ part ∷ [];
      given = HasGiven-more c.args.splitter.now part before.given c.in-Some.ensures.steps.0 step.gives;
      none = λ none. absurd (step.some (before.none none));
      printed = print_after printed_part before.parts part _ _ _ before.printed c.in_ok-print-in-Ok.ensures.ok;
    }
