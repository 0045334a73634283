use Rattle.std.proofs.Common.{IsUtf8, ◌≡◌, ◌≢◌, ◌==◌, [], ap, length, rules, subst, sym, tests, ◌∙◌}
use Rattle.std.proofs.lemmas.Bool.{false≢true}
use Rattle.std.proofs.lemmas.List.{nil_from_length}
use Rattle.std.proofs.lemmas.Result.{err_from_is_err_and}
use Rattle.bytes_utils_protocols.specs.Events.{Eventing, IsEndOfEventLine, event_content}
use Rattle.bytes_utils_protocols.proofs.EventsLemmas.{asks_empty, asks_field, content_end, does_empty, does_field, field_not_large, field_too_large, if_none}
use Rattle.bytes_utils_protocols.proofs.events.EventReader.read.Goals as goal
use Rattle.bytes_utils_protocols.proofs.events.EventReader.read.Goals.{then-is_empty+in_ok-event, else-is_empty+in_ok-read_field}

pub read_field-requires : goal.read_field-requires
read_field-requires c =
    let text : c.event_content-text.result.now ≡ event_content c.self.inside.at_start c.args.line.now = c.event_content-text.ensures ∙ ap (event_content c.self.inside.at_start) c.as_str.ensures.value in
    subst (IsEndOfEventLine c.args.line.now) (sym text) (content_end c.self.inside.at_start c.args.line.now)

pub returns-clause-none : goal.returns-clause-none
returns-clause-none c =
    let old = c.args.self.now in
    let line = c.args.line.now in
    let is_content : c.event_content-text.result.now ≡ event_content old.at_start line =
    c.event_content-text.ensures ∙ ap (event_content c.self.inside.at_start) c.as_str.ensures.value ∙ ap (λ (r : Eventing). event_content r.at_start line) c.self.view_is in
    elim c.if-is_empty.branch [
      | then-is_empty+in_ok-event w ↦
          let zero : length c.event_content-text.result.now ≡ 0 = search (rules, tests) in
          let empty : event_content old.at_start line ≡ [] = sym is_content ∙ nil_from_length _ zero in
          rw w.event-is (if_none w.in_ok-event.event w.in_ok-event.ensures.none
          (λ is. does_empty old _ line (subst IsUtf8 c.as_str.ensures.value c.as_str.ensures.utf8) empty is.0 (c.self-2.view_is ∙ w.self-is ∙ is.1)))
      | else-is_empty+in_ok-read_field w ↦
          let some : event_content old.at_start line ≢ [] =
          λ empty. false≢true (sym w.if-is_empty.false ∙ c.is_empty.ensures ∙ ap (λ l. length l == 0) (is_content ∙ empty)) in
          let is = c.self-2.view_is ∙ w.self-is ∙ w.in_ok-read_field.ensures.ok in
          rw w.event-is (does_field old _ line (subst IsUtf8 c.as_str.ensures.value c.as_str.ensures.utf8) some (rw is_content at is) c.self-2.invariant)
    ]

-- an error of an empty line is about no text
no_text : (c : goal.After-from_residual) → (c.event_content-text.result.now ≡ event_content c.args.self.now.at_start c.args.line.now) × (c.event_content-text.result.now ≡ [])
no_text c =
    let line = c.args.line.now in
    let zero : length c.event_content-text.result.now ≡ 0 = search (rules, tests) in
    let start = ap (event_content c.self.inside.at_start) c.as_str.ensures.value ∙ ap (λ (r : Eventing). event_content r.at_start line) c.self.view_is in
    (c.event_content-text.ensures ∙ start, nil_from_length _ zero)

-- an error of a field is about some text
some_text : (c : goal.After-from_residual-in_err-read_field) → (c.event_content-text.result.now ≡ event_content c.args.self.now.at_start c.args.line.now) × (c.event_content-text.result.now ≢ [])
some_text c =
    let line = c.args.line.now in
    let start = ap (event_content c.self.inside.at_start) c.as_str.ensures.value ∙ ap (λ (r : Eventing). event_content r.at_start line) c.self.view_is in
    (c.event_content-text.ensures ∙ start, λ empty. false≢true (sym c.if-is_empty.false ∙ c.is_empty.ensures ∙ ap (λ l. length l == 0) empty))

pub returns-in_err-event-clause-asks : goal.returns-in_err-event-clause-asks
returns-in_err-event-clause-asks c =
    let none = no_text c in
    let out = err_from_is_err_and c.from_residual.result c.from_residual.ensures.1 in
    rw out.1 (asks_empty c.args.self.now c.args.line.now _ none.0 none.1 c.in_err-event.ensures.asks)

pub returns-in_err-event-clause-small : goal.returns-in_err-event-clause-small
returns-in_err-event-clause-small c =
    let none = no_text c in
    let out = err_from_is_err_and c.from_residual.result c.from_residual.ensures.1 in
    rw out.1 (λ reason is large. large.0 (sym none.0 ∙ none.1))

pub returns-in_err-read_field-clause-too_large : goal.returns-in_err-read_field-clause-too_large
returns-in_err-read_field-clause-too_large c =
    let some = some_text c in
    let out = err_from_is_err_and c.from_residual-in_err-read_field.result c.from_residual-in_err-read_field.ensures.1 in
    rw out.1 (λ is. field_too_large c.args.self.now c.args.line.now _ some.0 some.1 (c.in_err-read_field.ensures.too_large (sym out.2 ∙ is)))

pub returns-in_err-read_field-clause-asks : goal.returns-in_err-read_field-clause-asks
returns-in_err-read_field-clause-asks c =
    let some = some_text c in
    let out = err_from_is_err_and c.from_residual-in_err-read_field.result c.from_residual-in_err-read_field.ensures.1 in
    rw out.1 (asks_field c.args.self.now c.args.line.now _ some.0 some.1 c.in_err-read_field.ensures.asks)

pub returns-in_err-read_field-clause-small : goal.returns-in_err-read_field-clause-small
returns-in_err-read_field-clause-small c =
    let some = some_text c in
    let out = err_from_is_err_and c.from_residual-in_err-read_field.result c.from_residual-in_err-read_field.ensures.1 in
    rw out.1 (λ reason is. field_not_large c.args.self.now c.args.line.now _ some.0 some.1 (c.in_err-read_field.ensures.small reason (sym out.2 ∙ is)))
