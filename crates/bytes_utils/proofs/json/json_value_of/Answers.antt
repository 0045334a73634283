use Rattle.std.proofs.Common.{◌≡◌, [], None, Some, refl, ap, ◌∙◌}
use Rattle.serde_json.proofs.OnLiterals.{serde_json_on_literals}
use Rattle.serde_json.specs.Read.{read}
use Rattle.serde_json.specs.View.{view}
use Rattle.bytes_utils.specs.Json.{IsNotJson}
use Rattle.bytes_utils.proofs.json.json_value_of.Goals as goal

no_bytes_are_not_json : IsNotJson []
unfolding serde_json_on_literals
no_bytes_are_not_json = refl

pub returns-in-Ok-clause-empty : goal.returns-in-Ok-clause-empty
returns-in-Ok-clause-empty c empty =
    let some : read c.args.json.now ≡ Some (view c.in-Ok.value) = c.in-Ok.ensures.ok in
    let none : read c.args.json.now ≡ None = ap read empty ∙ no_bytes_are_not_json in
    absurd cc
