use Rattle.std.proofs.Common.{◌≡◌, None, refl, rules}
use Rattle.std.proofs.lemmas.Result.{err_from_is_err_and}
use Rattle.bytes_utils_codec.specs.UniversalReading.{keeps_universal}
use Rattle.bytes_utils_protocols.specs.EventData.{event_data_if_any}
use Rattle.bytes_utils_protocols.specs.Events.{Eventing, KeepsEvents}
use Rattle.bytes_utils_protocols.proofs.EventsLemmas.{keeps_none}
use Rattle.bytes_utils_protocols.proofs.events.EventReader.next_line.Goals.{After-next_item}
use Rattle.bytes_utils_protocols.proofs.events.EventReader.next_line.Goals as goal

-- the reader after the next line was asked for
abbrev new : After-next_item → Eventing
new c = record {
  lines = c.next_item.new.self;
  waiting = c.take.new.self;
  at_start = c.self.inside.at_start;
  buffers = record { name = c.self.inside.name; text = event_data_if_any c.self.inside.text; id = c.self.inside.id; retry = c.self.inside.retry };
  max_data = c.self.inside.max_data;
}

-- no line waited, and none was taken
keeps : (c : After-next_item) → keeps_universal c.self.inside.lines c.next_item.new.self → KeepsEvents c.args.self.now (new c)
keeps c step =
    let none : c.self.inside.waiting ≡ None = search rules in
    let waiting : c.take.new.self ≡ c.self.inside.waiting = search rules in
    rw (← c.self.view_is) (keeps_none _ (new c) none step (rw waiting refl))

pub returns-in_err-next_item-clause-refused : goal.returns-in_err-next_item-clause-refused
returns-in_err-next_item-clause-refused c =
    let out = err_from_is_err_and c.from_residual.result c.from_residual.ensures.1 in
    rw out.1 (λ reason is. keeps (goal.at.returns-in_err-next_item-clause-refused c).After-next_item c.in_err-next_item.ensures.step.1)

pub returns-in-None-clause-waits : goal.returns-in-None-clause-waits
returns-in-None-clause-waits c =
    let step = rw c.in-None.is at c.in_ok-next_item.ensures.step in
    rw (← c.self.view_is) (step.0, rw c.self.view_is (keeps (goal.at.returns-in-None-clause-waits c).After-next_item step.1))

pub returns-in_err-next_item-clause-due : goal.returns-in_err-next_item-clause-due
returns-in_err-next_item-clause-due c =
    let out = err_from_is_err_and c.from_residual.result c.from_residual.ensures.1 in
    rw (← c.self.view_is) (rw out.1 (λ reason is. (refl, c.in_err-next_item.ensures.step.0.1)))
