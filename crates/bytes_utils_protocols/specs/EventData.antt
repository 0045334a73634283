-- The data of an event while its lines are read.
use Rattle.std.specs.Prelude.{ℕ, List, Option, None, Some}
use Rattle.bytes_utils_protocols.specs.declared.events.«data».Data.{Data}
use Rattle.bytes_utils_protocols.specs.declared.events.«data».Data.TheVariants.{One, More as Several}

-- the text of the lines of data, if there are any
abbrev pub event_data_if_any : Option Data → Option (List ℕ)
event_data_if_any None = None
event_data_if_any (Some (One text)) = Some text
event_data_if_any (Some (Several lines)) = Some lines
