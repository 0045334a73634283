use Rattle.std.proofs.Common.{arith, map, subst, sym}
use Rattle.std.proofs.lemmas.List.{length-map}
use Rattle.std.specs.Str.{chars}
use Rattle.bytes_utils.specs.Outcome.{Outcome}
use Rattle.bytes_utils_run.specs.Cutting.{ArePartsBy, cutting}
use Rattle.bytes_utils_run.proofs.Counts.{length-outcome}
use Rattle.bytes_utils_run.proofs.Joining.{outcome_joins}
use Rattle.bytes_utils_run.proofs.OutcomeLemmas.{IfSome-error, Outcome-right}
use Rattle.bytes_utils_run.proofs.cut.cut_all.Goals as goal

pub returns-clause-outcome : goal.returns-clause-outcome
returns-clause-outcome g c =
    subst (Outcome (ArePartsBy (cutting c.args.how) (chars c.args.text)) (map chars c.gather_cut.new.given.items)) (sym c.err-refused.ensures.value)
    (Outcome-right _ _ c.new-splitter.ensures.right _ _ c.gather_cut.ensures.outcome)

pub returns-clause-few : goal.returns-clause-few
returns-clause-few g c =
    omega (arith, length-outcome _ _ _ _ (returns-clause-outcome g c), length-map c.gather_cut.new.given.items chars)

pub returns-clause-joined : goal.returns-clause-joined
returns-clause-joined g c = outcome_joins _ _ _ _ (returns-clause-outcome g c)

-- the state after the given parts may refuse a step, or the list is full
pub returns-clause-cause : goal.returns-clause-cause
returns-clause-cause g c =
    rw (← c.new-splitter.ensures.value) (IfSome-error _ c.gather_cut.result _ c.err-refused.ensures.value c.gather_cut.ensures.cause)
