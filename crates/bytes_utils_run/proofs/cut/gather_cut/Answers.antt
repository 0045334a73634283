use Rattle.std.proofs.Common.{inl, sym, ap, ◌∙◌, subst, [], ◌∷◌, ◌++◌, ◌<◌, List, ℕ, length, map}
use Rattle.std.proofs.lemmas.List.{map-append}
use Rattle.std.specs.Str.{chars}
use Rattle.bytes_utils.proofs.StepLemmas.{StepsHaveGiven-refused, StepsHaveGiven-dropped}
use Rattle.bytes_utils_run.specs.AnySplitter.{AreToCome}
use Rattle.bytes_utils_run.proofs.AnySplitterLemmas.{HasGiven-none, HasGiven-more}
use Rattle.bytes_utils_run.proofs.OutcomeLemmas.{IfErr-same, Outcome-refused}
use Rattle.bytes_utils_run.proofs.cut.gather_cut.Goals as goal

pub loop-item-init : goal.loop-item-init
loop-item-init g c =
    HasGiven-none c.args.splitter.now c.requires.some (ap (map chars) c.requires.empty) (ap (λ s. s.now) c.into_iter-item-iterator.ensures.into_iter_gives)

-- a split was refused: the parts that were to come are missing
pub returns-in_err-part-clause-outcome : goal.returns-in_err-part-clause-outcome
returns-in_err-part-clause-outcome g c =
    let step = rw c.in_err-part.was at c.in-Some.ensures.steps.1 in
    Outcome-refused (AreToCome c.args.splitter.now) (map chars c.loop-item.given.items) c.from_residual.result c.from_residual.ensures.0
    (StepsHaveGiven-refused AreToCome c.args.splitter.now c.loop-item.invariant.had step.some)

-- as it may be after the parts before it
pub returns-in_err-part-clause-cause : goal.returns-in_err-part-clause-cause
returns-in_err-part-clause-cause g c =
    let step = rw c.in_err-part.was at c.in-Some.ensures.steps.1 in
    IfErr-same c.from_residual.result c.in_err-part.field-0.0 _ c.from_residual.ensures.1 (inl (_, c.loop-item.invariant, step.gives.0))

pub loop-item-preserved : goal.loop-item-preserved
loop-item-preserved g c =
    let step = rw c.in_ok-part.was at c.in-Some.ensures.steps.1 in
    let items = c.in_ok-push.ensures.items ∙ ap (λ given. given ++ c.in_ok-part.part ∷ []) c.in_ok-reserve.ensures.items in
    rw (items, map-append) (HasGiven-more c.args.splitter.now (chars c.in_ok-part.part) c.loop-item.invariant c.in-Some.ensures.steps.0 step.gives)

-- memory for a part was refused: that part and those after it are missing
pub returns-in_err-reserve-clause-outcome : goal.returns-in_err-reserve-clause-outcome
returns-in_err-reserve-clause-outcome g c =
    let step = rw c.in_ok-part.was at c.in-Some.ensures.steps.1 in
    let others = StepsHaveGiven-dropped AreToCome c.args.splitter.now (chars c.in_ok-part.part) c.loop-item.invariant.had step.gives in
    Outcome-refused (AreToCome c.args.splitter.now) (map chars c.reserve.new.self.items) c.from_residual-in_err-reserve.result c.from_residual-in_err-reserve.ensures.0
    (subst (λ given. (more : List (List ℕ)) × (0 < length more) × AreToCome c.args.splitter.now (map chars given ++ more)) (sym c.in_err-reserve.ensures.items) others)
