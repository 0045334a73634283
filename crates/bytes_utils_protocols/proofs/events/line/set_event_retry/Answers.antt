use Rattle.std.proofs.Common.{◌≡◌, ◌∙◌, None, Option, ap, rules, sym, ℕ}
use Rattle.std.specs.Option.{option_or}
use Rattle.bytes_utils_protocols.specs.Events.{event_number_of}
use Rattle.bytes_utils_protocols.proofs.EventsLemmas.{number_found}
use Rattle.bytes_utils_protocols.proofs.events.line.set_event_retry.Goals as goal

pub returns-in-Some : goal.returns-in-Some
returns-in-Some c =
    let found : c.number.result ≡ event_number_of c.args.text.now = number_found c.as_bytes.result.now c.number.result c.number.ensures ∙ ap event_number_of c.as_bytes.ensures.value in
    ap (λ (n : Option ℕ). option_or n c.args.number_so_far.now) (sym c.in-Some.is ∙ found)

pub returns-in_default : goal.returns-in_default
returns-in_default c =
    let none : c.number.result ≡ None = search rules in
    let found : c.number.result ≡ event_number_of c.args.text.now = number_found c.as_bytes.result.now c.number.result c.number.ensures ∙ ap event_number_of c.as_bytes.ensures.value in
    ap (λ (n : Option ℕ). option_or n c.args.number_so_far.now) (sym none ∙ found)
