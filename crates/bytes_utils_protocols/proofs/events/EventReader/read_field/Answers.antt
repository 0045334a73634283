use Rattle.std.proofs.Common.{◌≡◌, ◌<◌, false, length, inr, ap, ◌∙◌, rules, subst, sym}
use Rattle.std.specs.Prelude.{codes}
use Rattle.std.proofs.lemmas.Result.{err_from_is_err_and}
use Rattle.bytes_utils_protocols.specs.Events.{IsEndOfEventLine, event_field_name, event_field_value, has_event_zero}
use Rattle.bytes_utils_protocols.proofs.EventsLemmas.{end_end, value_end}
use Rattle.bytes_utils_protocols.proofs.events.EventReader.read_field.Goals as goal

pub add_line-requires : goal.add_line-requires
add_line-requires c =
    subst (IsEndOfEventLine c.args.line.now) (sym c.event_field_of.ensures.value)
    (end_end c.args.line.now c.args.text.now (event_field_value c.args.text.now) c.requires (value_end c.args.text.now))

pub event_name_of-requires : goal.event_name_of-requires
event_name_of-requires c =
    subst (IsEndOfEventLine c.args.line.now) (sym c.event_field_of.ensures.value)
    (end_end c.args.line.now c.args.text.now (event_field_value c.args.text.now) c.requires (value_end c.args.text.now))

pub end_of_event_line-requires : goal.end_of_event_line-requires
end_of_event_line-requires c =
    subst (IsEndOfEventLine c.args.line.now) (sym c.event_field_of.ensures.value)
    (end_end c.args.line.now c.args.text.now (event_field_value c.args.text.now) c.requires (value_end c.args.text.now))

pub returns-in_err-end_of_event_line-clause-asks : goal.returns-in_err-end_of_event_line-clause-asks
returns-in_err-end_of_event_line-clause-asks c =
    let value = event_field_value c.args.text.now in
    let name : event_field_name c.args.text.now ≡ codes "id" = search rules in
    let some : 0 < length value = search rules in
    let no_zero : has_event_zero value ≡ false =
    ap has_event_zero (sym c.event_field_of.ensures.value) ∙ ap has_event_zero (sym c.as_bytes.ensures.value) ∙ sym c.contains.ensures.value ∙ c.if-not-contains.true in
    let out = err_from_is_err_and c.from_residual-in_err-end_of_event_line.result c.from_residual-in_err-end_of_event_line.ensures.1 in
    rw out.1 (inr (inr (name, some, no_zero)))
