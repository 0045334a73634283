use Rattle.bytes_utils_protocols.proofs.EventRunsLemmas.{large_event_law, no_event_law}
use Rattle.bytes_utils_protocols.proofs.events.event_laws.Goals as goal

pub returns-clause-none : goal.returns-clause-none
returns-clause-none c = no_event_law

pub returns-clause-large : goal.returns-clause-large
returns-clause-large c = large_event_law
