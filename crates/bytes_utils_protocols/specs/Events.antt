-- Event streams, as the HTML standard defines them (sections 9.2.5 and 9.2.6, https://html.spec.whatwg.org/multipage/server-sent-events.html).
use Rattle.std.specs.Prelude.{◌≡◌, ◌≢◌, ℕ, ◌+◌, Bool, false, ◌<◌, ◌≤◌, ◌⊎◌, ◌==◌, ◌&&◌, not, if◌then◌else◌, nat_eq, nat_lt, ◌^◌, List, [], ◌∷◌, ◌++◌, length, drop, codes, Option, None, Some, MatchOption, Result, Ok, Err, IsUtf8, true, ⊤}
use Rattle.std.specs.Cmp.Lexicographic.{pointwise}
use Rattle.std.specs.Char.{digit_value}
use Rattle.std.specs.List.{Contains, after_first, before_first, list_all, list_any, starts_with, flat_map}
use Rattle.std.specs.Option.{IsSomeAnd, option_or, option_to_list}
use Rattle.std.specs.Str.Parse.{digits_value}
use Rattle.bytes_utils.specs.Lines.{line_feed}
use Rattle.bytes_utils_buf.specs.Refusals.{refusal_text}
use Rattle.bytes_utils_buf.specs.declared.refused.Reason.TheVariants.{OutOfMemory}
use Rattle.bytes_utils_codec.specs.Decoding.{Decoding, HasSameNext, Item, fed, starting}
use Rattle.bytes_utils_codec.specs.StreamRuns.{AreFirstOfRun, IsRunOver, SameFirstOfRunLaw, StreamEvent, given_in_stream, pushed_in_stream}
use Rattle.bytes_utils_codec.specs.UniversalReading.{AwaitsUniversal, UniversalReading, fails_universal, gives_universal, universal_reading}
use Rattle.bytes_utils_codec.specs.declared.decode.lines.LineFault.{LineFault}
use Rattle.bytes_utils_codec.specs.declared.decode.lines.LineFault.TheVariants.{NotUtf8 as NotText, TooLong}
use Rattle.bytes_utils_protocols.specs.declared.events.Event.{Event}
use Rattle.bytes_utils_protocols.specs.declared.events.EventError.{EventError}
use Rattle.bytes_utils_protocols.specs.declared.events.EventError.TheVariants.{NotUtf8, Refused, TooLarge}
use Rattle.bytes_utils_protocols.specs.declared.events.Limits.{Limits}

-- What the lines since the last event said of the next one: its name, and its text, which is the lines of data, joined. The identifier and the time
-- to wait before connecting again, in milliseconds, are the last ones of the stream.
pub record EventBuffers : Type 0 where
  pub name : Option (List ℕ)
  pub text : Option (List ℕ)
  pub id : Option (List ℕ)
  pub retry : Option ℕ

-- What clauses see of an `EventReader`: the decoder of lines and the bytes that no line was taken off, a line that was taken and not read, if there is
-- one, whether no line was read, what the lines that were read said, and the most bytes of the data of an event.
pub record Eventing : Type 0 where
  pub lines : Decoding UniversalReading
  pub waiting : Option (List ℕ)
  pub at_start : Bool
  pub buffers : EventBuffers
  pub max_data : ℕ

abbrev pub no_event_buffers : EventBuffers
no_event_buffers = record { name = None; text = None; id = None; retry = None }

-- a piece came
abbrev pub pushed_to_events : Eventing → List ℕ → Eventing
pushed_to_events old piece = record old { lines = fed old.lines piece }

-- how much is to be read: the held bytes, and one more for a line that waits
abbrev pub waiting_event_lines : Option (List ℕ) → ℕ
waiting_event_lines None = 0
waiting_event_lines (Some line) = 1

abbrev pub events_left_to_read : Eventing → ℕ
events_left_to_read reading = length reading.lines.held + waiting_event_lines reading.waiting

-- ---- what one line says

-- U+FEFF
abbrev pub event_byte_order_mark : List ℕ
event_byte_order_mark = 0xEF ∷ 0xBB ∷ 0xBF ∷ []

-- a mark at the very start of the stream is no part of its first line
abbrev pub event_content : Bool → List ℕ → List ℕ
event_content at_start line = if at_start && starts_with nat_eq line event_byte_order_mark then drop 3 line else line

abbrev pub is_event_colon : ℕ → Bool
is_event_colon c = c == 58

-- the bytes without one space at their start, if they have one there
abbrev pub event_value_of : List ℕ → List ℕ
event_value_of [] = []
event_value_of (c ∷ t) = if c == 32 then t else c ∷ t

-- A line is a field. Its name is what is before the first colon, or all of the line if there is none. A comment is a field without a name.
abbrev pub event_field_name : List ℕ → List ℕ
event_field_name line = before_first is_event_colon line

abbrev pub event_field_value : List ℕ → List ℕ
event_field_value line = event_value_of (after_first is_event_colon line)

-- an empty name is none
abbrev pub event_name_of : List ℕ → Option (List ℕ)
event_name_of [] = None
event_name_of (c ∷ t) = Some (c ∷ t)

-- the data so far, and one more line of it
abbrev pub with_event_line : Option (List ℕ) → List ℕ → List ℕ
with_event_line None line = line
with_event_line (Some before) line = before ++ line_feed ∷ line

-- the bytes are one ASCII digit or more and nothing else, and the number that they write is below 2 ^ 64
abbrev pub is_event_number : List ℕ → Bool
is_event_number digits = nat_lt 0 (length digits) && (list_all (λ c. nat_lt (digit_value c) 10) digits && nat_lt (digits_value 10 digits) (2 ^ 64))

abbrev pub event_number_of : List ℕ → Option ℕ
event_number_of digits = if is_event_number digits then Some (digits_value 10 digits) else None

-- the value has a zero
abbrev pub has_event_zero : List ℕ → Bool
has_event_zero value = list_any (λ c. nat_eq c 0) value

-- What a field of this name and value makes of what was said. An identifier with a zero, and a time that is no number, change nothing, and neither does
-- a field of any other name.
abbrev pub after_event_field : EventBuffers → List ℕ → List ℕ → EventBuffers
after_event_field buffers name value =
    if pointwise nat_eq name (codes "data") then record buffers { text = Some (with_event_line buffers.text value) }
    else if pointwise nat_eq name (codes "event") then record buffers { name = event_name_of value }
    else if pointwise nat_eq name (codes "id") && not (has_event_zero value) then record buffers { id = Some value }
    else if pointwise nat_eq name (codes "retry") then record buffers { retry = option_or (event_number_of value) buffers.retry }
    else buffers

-- an empty line that ends no event takes the name back
abbrev pub after_event_line : EventBuffers → List ℕ → EventBuffers
after_event_line buffers [] = record buffers { name = None }
after_event_line buffers (c ∷ t) = after_event_field buffers (event_field_name (c ∷ t)) (event_field_value (c ∷ t))

-- the number of bytes of the lines of data
abbrev pub event_text_len : Option (List ℕ) → ℕ
event_text_len None = 0
event_text_len (Some text) = length text

-- ---- lines that are read

-- this is the next line: the one that waits, or the next of the stream
pub record TakesNextEventLine (old : Eventing) (line : List ℕ) (new : Eventing) : Type 0 where
  pub next : MatchOption old.waiting (gives_universal old.lines (Item (Ok line)) new.lines) (λ waiting. (line ≡ waiting) × (new.lines ≡ old.lines))
  pub others : new ≡ record old { lines = new.lines; waiting = None }

-- The line, which was taken and is a text, does what it says, within the limit of the data. It ends no event: it is not empty, or there is no data.
pub record DoesEventLine (old : Eventing) (line : List ℕ) (new : Eventing) : Type 0 where
  pub utf8 : IsUtf8 line
  pub ends_none : event_content old.at_start line ≡ [] → old.buffers.text ≡ None
  pub after : new ≡ record old { at_start = false; buffers = after_event_line old.buffers (event_content old.at_start line) }
  pub small : event_text_len new.buffers.text ≤ old.max_data

-- the line, which was taken, is empty and ends this event
pub record EndsEvent (old : Eventing) (line : List ℕ) (event : Event) (new : Eventing) : Type 0 where
  pub empty : event_content old.at_start line ≡ []
  pub text : old.buffers.text ≡ Some event.data
  pub name : event.name ≡ old.buffers.name
  pub id : event.id ≡ old.buffers.id
  pub after : new ≡ record old { at_start = false; buffers = record old.buffers { name = None; text = None } }

-- the next line is read
pub record ReadsEventLine (old : Eventing) (line : List ℕ) (new : Eventing) : Type 0 where
  pub taken : Eventing
  pub takes : TakesNextEventLine old line taken
  pub does : DoesEventLine taken line new

-- some lines are read, none of which ends an event
abbrev pub ReadsEventLines : Eventing → Eventing → Type 0
ReadsEventLines old new = (lines : List (List ℕ)) × AreFirstOfRun ReadsEventLine old lines new

-- some lines are read, and then the empty line that ends this event
pub record GivesEvent (old : Eventing) (event : Event) (new : Eventing) : Type 0 where
  pub before : Eventing
  pub reads : ReadsEventLines old before
  pub line : List ℕ
  pub taken : Eventing
  pub takes : TakesNextEventLine before line taken
  pub ends : EndsEvent taken line event new

-- ---- calls that give no event

-- no line waits and none is read, and the same lines come next
pub record KeepsEvents (old new : Eventing) : Type 0 where
  pub none : old.waiting ≡ None
  pub same : HasSameNext gives_universal old.lines new.lines
  pub others : new ≡ record old { lines = new.lines }

-- the next line is taken, and waits
pub record AwaitsEventLine (old new : Eventing) : Type 0 where
  pub line : List ℕ
  pub taken : Eventing
  pub takes : TakesNextEventLine old line taken
  pub utf8 : IsUtf8 line
  pub waits : new ≡ record taken { waiting = Some line }

-- no line is read; the next one may have been taken, and waits
abbrev pub ReadsNoEventLine : Eventing → Eventing → Type 0
ReadsNoEventLine old new = KeepsEvents old new ⊎ AwaitsEventLine old new

-- Nothing is lost: some lines are read, none of which ends an event. The line after them may have been taken, and waits.
abbrev pub LosesNoEvent : Eventing → Eventing → Type 0
LosesNoEvent old new = (mid : Eventing) × ReadsEventLines old mid × ReadsNoEventLine mid new

-- the line is not empty, and the data with it passes its limit
abbrev pub IsEventTooLarge : Eventing → List ℕ → Type 0
IsEventTooLarge old line = (event_content old.at_start line ≢ []) × (old.max_data < event_text_len (after_event_line old.buffers (event_content old.at_start line)).text)

-- One more line of data asks for memory, unless it is empty and the first one.
abbrev pub AsksForEventData : Option (List ℕ) → List ℕ → Type 0
AsksForEventData None line = 0 < length line
AsksForEventData (Some before) line = ⊤

-- A field asks for memory: data, a name that isn't empty, or an identifier that isn't empty and has no zero.
abbrev pub AsksForEventField : EventBuffers → List ℕ → List ℕ → Type 0
AsksForEventField buffers name value =
    ((name ≡ codes "data") × AsksForEventData buffers.text value)
    ⊎ ((name ≡ codes "event") × (0 < length value))
    ⊎ ((name ≡ codes "id") × (0 < length value) × (has_event_zero value ≡ false))

-- The end of an event asks for memory if its data has a line feed, as data of several lines has, or if there is an identifier that isn't empty.
abbrev pub AsksForEventEnd : List ℕ → Option (List ℕ) → Type 0
AsksForEventEnd text id = Contains text line_feed ⊎ IsSomeAnd id (λ id. 0 < length id)

-- A line asks for memory: such a field, or an empty line that is such an end. A comment, a field of another name and a time to wait ask for none.
abbrev pub AsksForEventText : EventBuffers → List ℕ → Type 0
AsksForEventText buffers [] = IsSomeAnd buffers.text (λ text. AsksForEventEnd text buffers.id)
AsksForEventText buffers (c ∷ t) = AsksForEventField buffers (event_field_name (c ∷ t)) (event_field_value (c ∷ t))

abbrev pub AsksForEventLine : Eventing → List ℕ → Type 0
AsksForEventLine old line = AsksForEventText old.buffers (event_content old.at_start line)

-- the next line is taken, and waits: it asks for memory, and the data with it is within its limit
pub record RefusesTakenEventLine (old new : Eventing) : Type 0 where
  pub awaits : AwaitsEventLine old new
  pub asks : AsksForEventLine awaits.taken awaits.line
  pub small : ¬ IsEventTooLarge awaits.taken awaits.line

-- Memory is refused: some lines are read, none of which ends an event. The end of the next one has come, and it isn't empty; or it was taken, and waits.
abbrev pub RefusesEventLine : Eventing → Eventing → Type 0
RefusesEventLine old new = (mid : Eventing) × ReadsEventLines old mid
    × ((KeepsEvents mid new × fails_universal mid.lines OutOfMemory) ⊎ RefusesTakenEventLine mid new)

-- some lines are read, none of which ends an event, and the end of the next one has not come
abbrev pub WaitsForEventLine : Eventing → Eventing → Type 0
WaitsForEventLine old new = (mid : Eventing) × ReadsEventLines old mid × AwaitsUniversal mid.lines × KeepsEvents mid new

-- why a line isn't read
abbrev pub event_error_of : LineFault → EventError
event_error_of TooLong = TooLarge
event_error_of (NotText fault) = NotUtf8

-- what an error prints
abbrev pub event_error_text : EventError → List ℕ
event_error_text (Refused reason) = refusal_text reason
event_error_text NotUtf8 = codes "the line is not UTF-8"
event_error_text TooLarge = codes "the line or the data is too large"

-- the next line of the stream is passed over, for this error: it passes its limit, or is within it and not UTF-8
pub record TakesEventFault (old : Eventing) (error : EventError) (new : Eventing) : Type 0 where
  pub none : old.waiting ≡ None
  pub fault : LineFault
  pub gives : gives_universal old.lines (Item (Err fault)) new.lines
  pub is : error ≡ event_error_of fault
  pub others : new ≡ record old { lines = new.lines; at_start = false }

-- some lines are read, none of which ends an event, and then a line is passed over
abbrev pub PassesEventFault : Eventing → EventError → Eventing → Type 0
PassesEventFault old error new = (mid : Eventing) × ReadsEventLines old mid × TakesEventFault mid error new

-- the next event, or the next line that is passed over
abbrev pub GivesEventItem : Eventing → Result Event EventError → Eventing → Type 0
GivesEventItem old (Ok event) new = GivesEvent old event new
GivesEventItem old (Err error) new = PassesEventFault old error new

-- a line waits that can't be read, whatever comes after it
abbrev pub WaitsWithEventTooLarge : Eventing → Type 0
WaitsWithEventTooLarge reading = (line : List ℕ) × (reading.waiting ≡ Some line) × IsEventTooLarge reading line

-- ---- what the code takes of a line

-- the line ends with this text
abbrev pub IsEndOfEventLine : List ℕ → List ℕ → Type 0
IsEndOfEventLine line text = (front : List ℕ) × (line ≡ front ++ text)

-- ---- runs of calls

-- before any byte
abbrev pub no_event_bytes_held : Limits → Eventing
no_event_bytes_held limits = record {
  lines = starting (universal_reading limits.line) 512;
  waiting = None;
  at_start = true;
  buffers = no_event_buffers;
  max_data = limits.data;
}

-- what a call gives: an event, the error of a line that is passed over, or nothing
abbrev pub EventGiven : Type 0
EventGiven = Option (Result Event EventError)

-- what one call does: it gives something, or it gives nothing and loses nothing
abbrev pub ReturnsEvent : Eventing → EventGiven → Eventing → Type 0
ReturnsEvent old None new = LosesNoEvent old new
ReturnsEvent old (Some item) new = GivesEventItem old item new

-- these pieces and calls lead from a reader that holds nothing to the last state
abbrev pub IsEventRun : Limits → List (StreamEvent EventGiven) → Eventing → Type 0
IsEventRun limits events end = IsRunOver pushed_to_events ReturnsEvent (no_event_bytes_held limits) events end

-- Whatever the pieces are, whenever events are asked for, and whichever of the calls are refused memory, a run gives the first events of the joined
-- pieces, with the lines that are passed over in their places, and loses nothing of what is after them.
abbrev pub EventRunLaw : Type 0
EventRunLaw = (limits : Limits) (events : List (StreamEvent EventGiven)) (end : Eventing) → IsEventRun limits events end
    → (mid : Eventing) × AreFirstOfRun GivesEventItem (pushed_to_events (no_event_bytes_held limits) (pushed_in_stream events)) (flat_map option_to_list (given_in_stream events)) mid × LosesNoEvent mid end

-- if a call gave none, and wasn't refused, none was there
abbrev pub NoEventLaw : Type 0
NoEventLaw = (old new : Eventing) → WaitsForEventLine old new → (item : Result Event EventError) (end : Eventing) → ¬ GivesEventItem old item end

-- nor if the data with the next line passes its limit
abbrev pub LargeEventLaw : Type 0
LargeEventLaw = (old new : Eventing) → LosesNoEvent old new → WaitsWithEventTooLarge new → (item : Result Event EventError) (end : Eventing) → ¬ GivesEventItem old item end

-- two lists of first events of the same bytes that have the same length are the same, with the same state after them
abbrev pub SameEventLaw : Type 0
SameEventLaw = SameFirstOfRunLaw GivesEventItem
