-- A string contains no float, so the written JSON is its compact form.
use Rattle.std.proofs.Common.{ap, ◌∙◌}
use Rattle.std.proofs.lemmas.Result.{IfOk-weaker}
use Rattle.serde_json.specs.Written.{has_float, compact_text}
use Rattle.bytes_utils.proofs.JsonText.{compact_text-json_string}
use Rattle.bytes_utils.proofs.json.write_json.Goals as goal

pub returns-clause-table : goal.returns-clause-table
returns-clause-table c =
    let string_is = c.in_ok-try_from_str.ensures in
    IfOk-weaker c.to_string.result _ _
    (λ json is_compact. is_compact (ap has_float string_is) ∙ ap compact_text string_is ∙ compact_text-json_string c.args.text.now c.utf8.text)
    c.to_string.ensures.text
