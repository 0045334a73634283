use Rattle.bytes_utils_protocols.specs.Events.{ReadsEventLines, events_left_to_read}
use Rattle.bytes_utils_protocols.proofs.events.EventReader.next_event.Given as goal

-- lines were read, none of which ends an event
abbrev pub invariant-loop-line : goal.invariant-loop-line
invariant-loop-line l = ReadsEventLines l.initial.self l.self

-- a line is taken off the held bytes, or waits no more
abbrev pub decreases-loop-line : goal.decreases-loop-line
decreases-loop-line l = events_left_to_read l.self
