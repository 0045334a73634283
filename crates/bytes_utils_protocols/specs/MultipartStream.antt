-- Parts that are given as they come: heads, pieces of bodies, and their ends.
use Rattle.std.specs.Prelude.{◌≡◌, ◌≢◌, ◌⊎◌, ⊤, ℕ, ◌+◌, ◌-◌, ◌^◌, ◌<◌, ◌≤◌, max, min, Bool, true, false, List, [], ◌∷◌, ◌++◌, length, take, drop, Option, None, Some, IfSome, Result, Ok, Err, option_map, IsUtf8, if◌then◌else◌}
use Rattle.std.specs.Option.{option_to_list}
use Rattle.bytes_utils.specs.Occurrence.{Occurs, OccursAt}
use Rattle.bytes_utils_codec.specs.Frames.{TakesFrame}
use Rattle.bytes_utils_codec.specs.Search.{NoneBeginsInSearch}
use Rattle.bytes_utils_codec.specs.StreamRuns.{StreamEvent, IsRunOver, AreFirstOfRun, pushed_in_stream, given_in_stream}
use Rattle.bytes_utils_buf.specs.declared.refused.Reason.TheVariants.{OutOfMemory}
use Rattle.bytes_utils_protocols.specs.Multipart.{AreMultipartFields, ClosesMultipart, HasMultipartParameter, IsMultipartHead, IsMultipartPadding, MultipartBytes, NoMultipart, PassesMultipartRoom, TakesMultipart, multipart_bytes, multipart_dashes, multipart_file_name, multipart_head_end, multipart_line_end, multipart_name}
use Rattle.bytes_utils_protocols.specs.declared.multipart.event.PartEvent.{PartEvent}
use Rattle.bytes_utils_protocols.specs.declared.multipart.event.PartEvent.TheVariants.{Head, Body, End}
use Rattle.bytes_utils_protocols.specs.declared.multipart.head.PartHead.{PartHead}
use Rattle.bytes_utils_protocols.specs.declared.multipart.limits.Limits.{Limits}
use Rattle.bytes_utils_protocols.specs.declared.multipart.limits.PartError.{PartError}
use Rattle.bytes_utils_protocols.specs.declared.multipart.limits.PartError.TheVariants.{Refused, Malformed, NotUtf8, TooLarge}
use Rattle.bytes_utils_protocols.specs.declared.multipart.progress.Place.{Place}
use Rattle.bytes_utils_protocols.specs.declared.multipart.progress.Place.TheVariants.{Preamble, AtHead, InBody, Ended}
use Rattle.bytes_utils_protocols.specs.declared.multipart.progress.Progress.{Progress}
use Rattle.bytes_utils_protocols.specs.MultipartWaiting.{IsSearchWithin}

-- What clauses see of a `PartStream`: the delimiter; the limits; where the held bytes begin; how many more bytes of the preamble or of the body the
-- limits allow, if they begin there; and the held bytes.
pub record PartStreaming : Type 0 where
  pub delimiter : List ℕ
  pub limits : Limits
  pub place : Place
  pub room : ℕ
  pub held : List ℕ

abbrev pub part_streaming : Progress → PartStreaming
part_streaming p = record { delimiter = p.waiting.delimiter; limits = p.limits; place = p.place; room = p.room; held = p.waiting.held }

-- the search for the end of a head: after a delimiter it is within the bytes that wait
pub record IsHeadSearchWithin (p : Progress) : Type 0 where
  pub needle : p.head_end.needle ≡ multipart_head_end
  pub within : p.place ≡ AtHead → IsSearchWithin p.head_end p.waiting.held

-- the most bytes of a preamble
abbrev pub most_in_preamble : Limits → ℕ
most_in_preamble limits = min (limits.head + limits.body) (2 ^ 64 - 1)

-- the state of a new stream, which holds the line end that counts as coming before the bytes
abbrev pub part_stream_started : List ℕ → Limits → PartStreaming
part_stream_started delimiter limits = record { delimiter = delimiter; limits = limits; place = Preamble; room = most_in_preamble limits; held = multipart_line_end }

abbrev pub has_part_stream_ended : Place → Bool
has_part_stream_ended Preamble = false
has_part_stream_ended AtHead = false
has_part_stream_ended InBody = false
has_part_stream_ended Ended = true

-- a piece is held too, unless the close delimiter was read
abbrev pub part_stream_appended : PartStreaming → List ℕ → PartStreaming
part_stream_appended s piece = if has_part_stream_ended s.place then s else record s { held = s.held ++ piece }

-- ---- the preamble

-- some bytes are dropped, in which no delimiter begins, whatever comes after the held bytes
pub record DropsPreamble (old new : PartStreaming) : Type 0 where
  pub place : old.place ≡ Preamble
  pub dropped : List ℕ
  pub front : old.held ≡ dropped ++ new.held
  pub apart : NoneBeginsInSearch old.delimiter old.held (length dropped)
  pub within : old.room ≡ length dropped + new.room
  pub next : new ≡ record old { room = new.room; held = new.held }

-- the first delimiter is dropped, with what is before it
pub record PassesPreamble (old new : PartStreaming) : Type 0 where
  pub place : old.place ≡ Preamble
  pub preamble : List ℕ
  pub takes : TakesFrame old.delimiter old.held preamble new.held
  pub within : length preamble ≤ old.room
  pub next : new ≡ record old { place = AtHead; held = new.held }

-- nothing, or what has come of the preamble is dropped
abbrev pub AfterPreamble : PartStreaming → PartStreaming → Type 0
AfterPreamble old new = (new ≡ old) ⊎ (DropsPreamble old new ⊎ PassesPreamble old new)

-- ---- a head

-- The bytes after a delimiter begin with this head, and its end comes before the next delimiter, whatever comes after the bytes. The rest comes after
-- that end.
pub record TakesPartHead (delimiter : List ℕ) (limits : Limits) (old head rest : List ℕ) : Type 0 where
  pub front : List ℕ
  pub cut : TakesFrame multipart_head_end old front rest
  pub apart : NoneBeginsInSearch delimiter old (length front + length multipart_head_end)
  pub is : IsMultipartHead front head
  pub small : length front + length multipart_head_end ≤ limits.head

-- no head whose lines are header fields comes, whatever comes after the bytes
abbrev pub NoPartFieldsCome : List ℕ → List ℕ → Type 0
NoPartFieldsCome delimiter held = (limits : Limits) (more head rest : List ℕ) → TakesPartHead delimiter limits (held ++ more) head rest → ¬ AreMultipartFields head

-- no head within the limits comes
abbrev pub NoPartHeadComes : List ℕ → Limits → List ℕ → Type 0
NoPartHeadComes delimiter limits held = (more head rest : List ℕ) → ¬ TakesPartHead delimiter limits (held ++ more) head rest

-- a head has come that isn't UTF-8
abbrev pub HasPartHeadNotUtf8 : List ℕ → Limits → List ℕ → Type 0
HasPartHeadNotUtf8 delimiter limits held = (head : List ℕ) × (rest : List ℕ) × TakesPartHead delimiter limits held head rest × (¬ IsUtf8 head)

-- Neither the next delimiter nor a head with all bytes has come that a delimiter has after its first one. If the end of a head has come, that head is
-- within the limit; if not, fewer bytes wait than the limit allows or two dashes have.
pub record AwaitsPartHead (delimiter : List ℕ) (limits : Limits) (held : List ℕ) : Type 0 where
  pub none : ¬ Occurs delimiter held
  pub short : (front rest : List ℕ) → TakesFrame multipart_head_end held front rest → length rest + 1 < length delimiter
  pub small : (front rest : List ℕ) → TakesFrame multipart_head_end held front rest → length front + length multipart_head_end ≤ limits.head
  pub few : (¬ Occurs multipart_head_end held) → length held < max limits.head (length multipart_dashes)

-- Neither the next delimiter nor the end of a head has come, and no fewer bytes wait than the limit allows and two dashes have.
pub record LacksPartHeadEnd (delimiter : List ℕ) (limits : Limits) (held : List ℕ) : Type 0 where
  pub no_next : ¬ Occurs delimiter held
  pub no_end : ¬ Occurs multipart_head_end held
  pub many : max limits.head (length multipart_dashes) ≤ length held

-- The end of a head has come, which is over the limit with it. No delimiter has come that begins before that end is over.
pub record HasLongPartHead (delimiter : List ℕ) (limits : Limits) (held : List ℕ) : Type 0 where
  pub front : List ℕ
  pub rest : List ℕ
  pub cut : TakesFrame multipart_head_end held front rest
  pub apart : (place : ℕ) → OccursAt delimiter held place → length front + length multipart_head_end ≤ place
  pub over : limits.head < length front + length multipart_head_end

-- a head is over the limit, whether its end has come or not
abbrev pub IsPartHeadOverLimit : List ℕ → Limits → List ℕ → Type 0
IsPartHeadOverLimit delimiter limits held = LacksPartHeadEnd delimiter limits held ⊎ HasLongPartHead delimiter limits held

-- what is found of a head: `len` bytes are before its end
pub record HasPartHeadEnd (delimiter : List ℕ) (limits : Limits) (held : List ℕ) (len : ℕ) : Type 0 where
  pub within : len + length multipart_head_end ≤ length held
  pub cut : TakesFrame multipart_head_end held (take len held) (drop (len + length multipart_head_end) held)
  pub apart : NoneBeginsInSearch delimiter held (len + length multipart_head_end)
  pub small : len + length multipart_head_end ≤ limits.head

-- why there is no head
abbrev pub IsPartHeadFault : PartError → List ℕ → Limits → List ℕ → Type 0
IsPartHeadFault Malformed delimiter limits held = NoPartFieldsCome delimiter held
IsPartHeadFault TooLarge delimiter limits held = NoPartHeadComes delimiter limits held × IsPartHeadOverLimit delimiter limits held
IsPartHeadFault NotUtf8 delimiter limits held = HasPartHeadNotUtf8 delimiter limits held
IsPartHeadFault (Refused reason) delimiter limits held = ⊥

-- what is found of a head: how many bytes are before its end; that more are awaited; or why there is none. Only in the second case more are awaited.
abbrev pub FindsPartHead : List ℕ → Limits → List ℕ → Result (Option ℕ) PartError → Type 0
FindsPartHead delimiter limits held (Ok (Some len)) = HasPartHeadEnd delimiter limits held len × (¬ AwaitsPartHead delimiter limits held)
FindsPartHead delimiter limits held (Ok None) = AwaitsPartHead delimiter limits held
FindsPartHead delimiter limits held (Err e) = IsPartHeadFault e delimiter limits held × (¬ AwaitsPartHead delimiter limits held)

-- ---- what a call gives

-- the head of a part; its body comes next
pub record GivesPartHead (old : PartStreaming) (head : PartHead) (new : PartStreaming) : Type 0 where
  pub place : old.place ≡ AtHead
  pub takes : TakesPartHead old.delimiter old.limits old.held head.text new.held
  pub fields : AreMultipartFields head.text
  pub name : HasMultipartParameter multipart_name head.text head.name
  pub file_name : HasMultipartParameter multipart_file_name head.text head.file_name
  pub next : new ≡ record old { place = InBody; room = old.limits.body; held = new.held }

-- A piece of a body: it has some bytes and is within the limit, and no delimiter begins in it, whatever comes after the held bytes.
pub record GivesPartPiece (old : PartStreaming) (piece : List ℕ) (new : PartStreaming) : Type 0 where
  pub place : old.place ≡ InBody
  pub some : 0 < length piece
  pub front : old.held ≡ piece ++ new.held
  pub apart : NoneBeginsInSearch old.delimiter old.held (length piece)
  pub within : old.room ≡ length piece + new.room
  pub next : new ≡ record old { room = new.room; held = new.held }

-- the end of a body, which is where the held bytes begin with the delimiter; that is dropped
pub record GivesPartEnd (old new : PartStreaming) : Type 0 where
  pub place : old.place ≡ InBody
  pub some : 0 < length old.delimiter
  pub delimiter : old.held ≡ old.delimiter ++ new.held
  pub next : new ≡ record old { place = AtHead; held = new.held }

abbrev pub GivesPartEvent : PartStreaming → PartEvent → PartStreaming → Type 0
GivesPartEvent old (Head head) new = GivesPartHead old head new
GivesPartEvent old (Body piece) new = GivesPartPiece old piece new
GivesPartEvent old End new = GivesPartEnd old new

-- the delimiter before the held bytes is the close delimiter: two dashes follow it
pub record ClosesPartStream (old new : PartStreaming) : Type 0 where
  pub place : old.place ≡ AtHead
  pub dashes : take (length multipart_dashes) old.held ≡ multipart_dashes
  pub next : new ≡ record old { place = Ended; held = [] }

-- after the preamble, an event is given; or none is, and the close delimiter is read or nothing more changes
abbrev pub GivesNextOfPart : PartStreaming → Option PartEvent → PartStreaming → Type 0
GivesNextOfPart old (Some event) new = GivesPartEvent old event new
GivesNextOfPart old None new = (new ≡ old) ⊎ ClosesPartStream old new

-- what a call did that returned an event, or none
abbrev pub IsPartStreamCall : PartStreaming → Option PartEvent → PartStreaming → Type 0
IsPartStreamCall old next new = (at : PartStreaming) × AfterPreamble old at × GivesNextOfPart at next new

-- What is awaited when a call gives nothing. Before the first delimiter and in a body fewer bytes wait than a delimiter has.
abbrev pub IsPartAwaited : Place → PartStreaming → Type 0
IsPartAwaited Preamble s = length s.held < length s.delimiter
IsPartAwaited AtHead s = (take (length multipart_dashes) s.held ≢ multipart_dashes) × AwaitsPartHead s.delimiter s.limits s.held
IsPartAwaited InBody s = length s.held < length s.delimiter
IsPartAwaited Ended s = ⊤

-- before the next delimiter come more bytes of a preamble or of a body than the limits allow, whatever comes after the held bytes
abbrev pub PassesPartRoom : PartStreaming → Type 0
PassesPartRoom s = PassesMultipartRoom s.delimiter s.room s.held

-- In a body some bytes have come in which no delimiter begins, whatever comes after the held bytes.
abbrev pub HasPartPiece : List ℕ → List ℕ → Type 0
HasPartPiece delimiter held = (0 < length held) × NoneBeginsInSearch delimiter held 1

-- No more bytes have come before the next delimiter than the limits allow: it has come after so few, or fewer wait than these and a delimiter have.
abbrev pub IsWithinPartRoom : PartStreaming → Type 0
IsWithinPartRoom s =
    ((frame : List ℕ) × (rest : List ℕ) × TakesFrame s.delimiter s.held frame rest × (length frame ≤ s.room)) ⊎ (length s.held < s.room + length s.delimiter)

-- When a call asks for memory: a head that isn't empty and that no dashes begin has come with its end, or a piece of a body that isn't over its limit
abbrev pub PartStreamAsks : Place → PartStreaming → Type 0
PartStreamAsks Preamble s = ⊥
PartStreamAsks AtHead s =
    (take (length multipart_dashes) s.held ≢ multipart_dashes) × (len : ℕ) × HasPartHeadEnd s.delimiter s.limits s.held len × (¬ IsMultipartPadding (take len s.held))
PartStreamAsks InBody s = HasPartPiece s.delimiter s.held × IsWithinPartRoom s
PartStreamAsks Ended s = ⊥

-- a head comes next: after a delimiter that no two dashes follow
abbrev pub IsAtPartHead : PartStreaming → Type 0
IsAtPartHead s = (s.place ≡ AtHead) × (take (length multipart_dashes) s.held ≢ multipart_dashes)

-- what is wrong, after the preamble
abbrev pub IsPartStreamWrong : PartError → PartStreaming → Type 0
IsPartStreamWrong Malformed s = IsAtPartHead s × NoPartFieldsCome s.delimiter s.held
IsPartStreamWrong NotUtf8 s = IsAtPartHead s × HasPartHeadNotUtf8 s.delimiter s.limits s.held
IsPartStreamWrong TooLarge s =
    (IsAtPartHead s × NoPartHeadComes s.delimiter s.limits s.held × IsPartHeadOverLimit s.delimiter s.limits s.held)
    ⊎ (((s.place ≡ Preamble) ⊎ (s.place ≡ InBody)) × PassesPartRoom s)
IsPartStreamWrong (Refused reason) s = (reason ≡ OutOfMemory) × PartStreamAsks s.place s

-- Why a call fails, after the preamble. A call that waits doesn't fail.
abbrev pub IsPartStreamFault : PartError → PartStreaming → Type 0
IsPartStreamFault e s = IsPartStreamWrong e s × (¬ IsPartAwaited s.place s)

-- a call after the preamble, whatever it returns
abbrev pub IsPartStreamStep : PartStreaming → Result (Option PartEvent) PartError → PartStreaming → Type 0
IsPartStreamStep old (Ok (Some event)) new = GivesPartEvent old event new
IsPartStreamStep old (Ok None) new = GivesNextOfPart old None new × IsPartAwaited new.place new
IsPartStreamStep old (Err e) new = (new ≡ old) × IsPartStreamFault e new

-- a call, whatever it returns
abbrev pub IsPartStreamReturn : PartStreaming → Result (Option PartEvent) PartError → PartStreaming → Type 0
IsPartStreamReturn old result new = (at : PartStreaming) × AfterPreamble old at × IsPartStreamStep at result new

-- ---- a run of calls

-- what was given so far: the parts that have ended, and what was given of the part after them
pub record GivenParts : Type 0 where
  pub whole : List MultipartBytes
  pub begun : Option MultipartBytes

abbrev pub no_given_parts : GivenParts
no_given_parts = record { whole = []; begun = None }

-- a body is all its pieces, joined
abbrev pub given_next_of_part : GivenParts → Option PartEvent → GivenParts
given_next_of_part g None = g
given_next_of_part g (Some (Head head)) = record { whole = g.whole; begun = Some (multipart_bytes head.text []) }
given_next_of_part g (Some (Body piece)) = record { whole = g.whole; begun = option_map (λ part. multipart_bytes part.head (part.body ++ piece)) g.begun }
given_next_of_part g (Some End) = record { whole = g.whole ++ option_to_list g.begun; begun = None }

abbrev pub given_of_parts : GivenParts → List (Option PartEvent) → GivenParts
given_of_parts g [] = g
given_of_parts g (next ∷ others) = given_of_parts (given_next_of_part g next) others

-- pushed pieces and calls lead from a state to the last one
abbrev pub IsPartStreamRun : PartStreaming → List (StreamEvent (Option PartEvent)) → PartStreaming → Type 0
IsPartStreamRun s events end = IsRunOver part_stream_appended IsPartStreamCall s events end

-- the part has this head, and its body begins with these bytes
pub record BeginsPart (given part : MultipartBytes) : Type 0 where
  pub head : part.head ≡ given.head
  pub others : List ℕ
  pub body : part.body ≡ given.body ++ others

-- The parts that have ended are the first parts of the bytes, and once a call gives nothing, no other part is there. What was given of the next part is
-- right, whatever comes after the bytes. If the stream has ended, the close delimiter is there.
pub record ArePartsGiven (delimiter : List ℕ) (limits : Limits) (bytes : List ℕ) (given : GivenParts) (end : PartStreaming) : Type 0 where
  pub rest : List ℕ
  pub are : AreFirstOfRun (TakesMultipart delimiter limits) bytes given.whole rest
  pub all : IsPartAwaited end.place end → NoMultipart delimiter limits rest
  pub begun : (more : List ℕ) (part : MultipartBytes) (next : List ℕ) → TakesMultipart delimiter limits (rest ++ more) part next → IfSome given.begun (λ begun. BeginsPart begun part)
  pub closed : end.place ≡ Ended → ClosesMultipart delimiter rest

-- Whatever the pieces are and whenever events are asked for, the heads and the joined pieces of bodies that a run gives are the first parts of the
-- joined pieces.
abbrev pub PartStreamLaw : Type 0
PartStreamLaw = (delimiter : List ℕ) (limits : Limits) (events : List (StreamEvent (Option PartEvent))) (end : PartStreaming) → IsPartStreamRun (part_stream_started delimiter limits) events end
    → ArePartsGiven delimiter limits (multipart_line_end ++ pushed_in_stream events) (given_of_parts no_given_parts (given_in_stream events)) end
