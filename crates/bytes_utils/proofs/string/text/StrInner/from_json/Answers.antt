use Rattle.std.proofs.Common.{IfOk, IsUtf8, rules}
use Rattle.serde_json.specs.View.{view}
use Rattle.bytes_utils.specs.Json.{JsonRepresents}
use Rattle.bytes_utils.proofs.JsonReading.{reads_text, refuses_other_value, refuses_other_bytes}
use Rattle.bytes_utils.proofs.string.text.StrInner.from_json.Goals as goal

pub returns-clause-text : goal.returns-clause-text
returns-clause-text g c =
    reads_text c.args.json.now (view c.in_ok-value.value) c.in_ok-value.ensures.ok c.from_json_value.result c.from_json_value.ensures.ok c.from_json_value.ensures.err

pub returns-clause-not_text : goal.returns-clause-not_text
returns-clause-not_text g c =
    refuses_other_value c.args.json.now (view c.in_ok-value.value) c.in_ok-value.ensures.ok c.from_json_value.result c.from_json_value.ensures.ok c.from_json_value.ensures.err

pub returns-clause-not_utf8 : goal.returns-clause-not_utf8
returns-clause-not_utf8 g c =
    let ok : IfOk c.from_json_value.result (λ text. JsonRepresents (view c.in_ok-value.value) text × IsUtf8 text) = search rules in
    refuses_other_bytes c.args.json.now (view c.in_ok-value.value) c.in_ok-value.ensures.ok c.from_json_value.result ok c.from_json_value.ensures.err
