use Rattle.std.proofs.Common.{◌≡◌, ◌≢◌, ◌∙◌, sym, Some, arith, rules}
use Rattle.bytes_utils.proofs.NextPart.{some_to_come}
use Rattle.bytes_utils.proofs.split.separator_step.SeparatedText.next.Goals as goal

pub returns-in-Err-clause-step : goal.returns-in-Err-clause-step
returns-in-Err-clause-step g c =
    let rest_is : c.self.inside.rest ≡ Some c.in_ok-text.text = sym c.take.ensures.value ∙ c.in_ok-text.was in
    let not_zero : c.self.inside.limit ≢ Some 0 = search rules in
    record {
      some = rw (← c.self.view_is, rest_is) (some_to_come _ _ _ _ _ not_zero);
      gives = (
        (search rules, (search rules, rw (← c.self.view_is, rest_is) c.in-Err.ensures.ends), rw (← c.self.view_is) c.in-Err.ensures.first),
        grind arith,
      );
    }
