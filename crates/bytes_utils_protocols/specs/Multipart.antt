-- Parts between boundaries: multipart/form-data (RFC 2046, 5.1.1; RFC 7578).
use Rattle.std.specs.Prelude.{◌≡◌, ◌≢◌, ◌⊎◌, ℕ, ◌+◌, ◌<◌, ◌≤◌, ◌==◌, ◌||◌, not, Bool, true, false, List, [], ◌∷◌, ◌++◌, length, take, drop, codes, Option, None, Some, MatchOption, All, IsUtf8, if◌then◌else◌}
use Rattle.std.specs.Bool.{MatchBool}
use Rattle.std.specs.List.{AllPass, concat, prefix_len, position_or_len, before_first, after_first, flat_map}
use Rattle.std.specs.Option.{option_to_list}
use Rattle.std.specs.Str.{str_to_ascii_lowercase}
use Rattle.std.specs.Str.Lines.{lines}
use Rattle.bytes_utils_buf.specs.Refusals.{refusal_text}
use Rattle.bytes_utils_buf.specs.declared.refused.Reason.TheVariants.{OutOfMemory}
use Rattle.bytes_utils_codec.specs.Frames.{TakesFrame}
use Rattle.bytes_utils.specs.Occurrence.{Occurs}
use Rattle.bytes_utils.specs.Lines.{carriage_return, line_feed}
use Rattle.bytes_utils_codec.specs.StreamRuns.{StreamEvent, IsRunOver, AreFirstOfRun, SameFirstOfRunLaw, pushed_in_stream, given_in_stream}
use Rattle.bytes_utils_protocols.specs.Digits.{colon}
use Rattle.bytes_utils_protocols.specs.Disposition.{ReadsDispositionParameter}
use Rattle.bytes_utils_protocols.specs.Headers.{IsHeader, is_header_blank, without_header_blanks}
use Rattle.bytes_utils_protocols.specs.declared.multipart.limits.Limits.{Limits}
use Rattle.bytes_utils_protocols.specs.declared.multipart.limits.PartError.{PartError}
use Rattle.bytes_utils_protocols.specs.declared.multipart.limits.PartError.TheVariants.{Refused, Malformed, NotUtf8, TooLarge}
use Rattle.bytes_utils_protocols.specs.declared.multipart.Part.{Part}
use Rattle.bytes_utils_protocols.specs.declared.multipart.sections.Sections.{Sections}
use Rattle.bytes_utils_protocols.specs.declared.multipart.sections.Stage.{Stage}
use Rattle.bytes_utils_protocols.specs.declared.multipart.sections.Stage.TheVariants.{Preamble, Waiting, Found, Ended}

-- What clauses see of a `PartReader`: the delimiter before and after each part, the limits, whether the close delimiter was read, and the held bytes.
-- The next part comes after the first delimiter in these. Of the bytes before that delimiter the reader keeps the number alone.
pub record MultipartReading : Type 0 where
  pub delimiter : List ℕ
  pub limits : Limits
  pub ended : Bool
  pub held : List ℕ

abbrev pub multipart_line_end : List ℕ
multipart_line_end = carriage_return ∷ line_feed ∷ []

abbrev pub multipart_dashes : List ℕ
multipart_dashes = 45 ∷ 45 ∷ []

-- a line end, two dashes and the boundary
abbrev pub multipart_delimiter : List ℕ → List ℕ
multipart_delimiter boundary = multipart_line_end ++ (multipart_dashes ++ boundary)

-- the end of the last line of a head, and the empty line after it
abbrev pub multipart_head_end : List ℕ
multipart_head_end = multipart_line_end ++ multipart_line_end

-- ---- one part

-- the head and the body of a part, as bytes
pub record MultipartBytes : Type 0 where
  pub head : List ℕ
  pub body : List ℕ

abbrev pub multipart_bytes : List ℕ → List ℕ → MultipartBytes
multipart_bytes head body = record { head = head; body = body }

abbrev pub bytes_of_multipart : Part → MultipartBytes
bytes_of_multipart part = multipart_bytes part.head (concat part.body.segments)

-- padding: spaces and tabs
abbrev pub IsMultipartPadding : List ℕ → Type 0
IsMultipartPadding front = without_header_blanks front ≡ []

-- between a delimiter and the end of the head: padding, a line end and the head, or padding alone, if there is no header
abbrev pub IsMultipartHead : List ℕ → List ℕ → Type 0
IsMultipartHead front head = (IsMultipartPadding front × (head ≡ [])) ⊎ (without_header_blanks front ≡ multipart_line_end ++ head)

-- What is between two delimiters is a front, the end of a head, which is nowhere before, and a body. Front and body are within the limits.
pub record HasMultipartHeadEnd (limits : Limits) (raw front body : List ℕ) : Type 0 where
  pub cut : TakesFrame multipart_head_end raw front body
  pub small : length front + length multipart_head_end ≤ limits.head
  pub short : length body ≤ limits.body

-- the same, with a front of this many bytes
abbrev pub HasMultipartHeadAt : Limits → List ℕ → ℕ → Type 0
HasMultipartHeadAt limits raw len =
    (len + length multipart_head_end ≤ length raw) × HasMultipartHeadEnd limits raw (take len raw) (drop (len + length multipart_head_end) raw)

-- what is between two delimiters: up to the first empty line the head, and after it the body
pub record IsMultipartPart (limits : Limits) (raw : List ℕ) (part : MultipartBytes) : Type 0 where
  pub front : List ℕ
  pub ends : HasMultipartHeadEnd limits raw front part.body
  pub head : IsMultipartHead front part.head

-- The old bytes are a preamble, a delimiter, what is between this one and the next, and that next one with the bytes after it, which are left.
pub record TakesMultipart (delimiter : List ℕ) (limits : Limits) (old : List ℕ) (part : MultipartBytes) (rest : List ℕ) : Type 0 where
  pub preamble : List ℕ
  pub after : List ℕ
  pub begins : TakesFrame delimiter old preamble after
  pub raw : List ℕ
  pub next : List ℕ
  pub ends : TakesFrame delimiter after raw next
  pub is : IsMultipartPart limits raw part
  pub few : length preamble ≤ limits.head + limits.body
  pub left : rest ≡ delimiter ++ next

-- The delimiters before and after the next part have come, and the bytes before the first of them are within the limits. That one is no close
-- delimiter: no two dashes follow it.
pub record IsMultipartDue (delimiter : List ℕ) (limits : Limits) (bytes : List ℕ) : Type 0 where
  pub preamble : List ℕ
  pub after : List ℕ
  pub begins : TakesFrame delimiter bytes preamble after
  pub raw : List ℕ
  pub next : List ℕ
  pub ends : TakesFrame delimiter after raw next
  pub goes_on : take (length multipart_dashes) (raw ++ delimiter) ≢ multipart_dashes
  pub few : length preamble ≤ limits.head + limits.body

-- When a call asks for memory: the next part is due, its head has an end, and what is before and after that is within the limits.
abbrev pub AsksForMultipart : List ℕ → Limits → List ℕ → Type 0
AsksForMultipart delimiter limits bytes = (due : IsMultipartDue delimiter limits bytes) × (front : List ℕ) × (body : List ℕ) × HasMultipartHeadEnd limits due.raw front body

-- more bytes come before the first delimiter than there is room for, whatever comes after the bytes
abbrev pub PassesMultipartRoom : List ℕ → ℕ → List ℕ → Type 0
PassesMultipartRoom delimiter room bytes = (more frame rest : List ℕ) → TakesFrame delimiter (bytes ++ more) frame rest → room < length frame

-- What is between two delimiters has the end of a head. What comes before the body is over its limit, or the body is.
pub record IsMultipartRawOverLimit (limits : Limits) (raw : List ℕ) : Type 0 where
  pub front : List ℕ
  pub body : List ℕ
  pub cut : TakesFrame multipart_head_end raw front body
  pub over : (limits.head < length front + length multipart_head_end) ⊎ (limits.body < length body)

-- `P` is true of each part that is in the bytes
abbrev pub EachMultipart : (MultipartBytes → Type 0) → List ℕ → Limits → List ℕ → Type 0
EachMultipart P delimiter limits bytes = (part : MultipartBytes) (rest : List ℕ) → TakesMultipart delimiter limits bytes part rest → P part

-- no part is in the bytes
abbrev pub NoMultipart : List ℕ → Limits → List ℕ → Type 0
NoMultipart = EachMultipart (λ _. ⊥)

-- the first delimiter is a close delimiter: two dashes follow it
abbrev pub ClosesMultipart : List ℕ → List ℕ → Type 0
ClosesMultipart delimiter bytes = (preamble : List ℕ) × (rest : List ℕ) × TakesFrame delimiter bytes preamble (multipart_dashes ++ rest)

-- the delimiter after the first one has not come
abbrev pub LacksNextInMultipart : List ℕ → List ℕ → Type 0
LacksNextInMultipart delimiter bytes = (preamble after : List ℕ) → TakesFrame delimiter bytes preamble after → ¬ Occurs delimiter after

-- After the first delimiter, which is no close delimiter, the next one has not come, and more bytes come before it than both limits allow.
pub record IsMultipartNextOverLimit (delimiter : List ℕ) (limits : Limits) (bytes : List ℕ) : Type 0 where
  pub goes_on : ¬ ClosesMultipart delimiter bytes
  pub lacks : LacksNextInMultipart delimiter bytes
  pub preamble : List ℕ
  pub after : List ℕ
  pub begins : TakesFrame delimiter bytes preamble after
  pub passes : PassesMultipartRoom delimiter (limits.head + limits.body) after

-- A limit is passed. More bytes come before the first delimiter than both limits allow, or between it and the next one, which has not come; or the
-- next part is due, and its head or its body is over its own limit.
abbrev pub IsMultipartOverLimit : List ℕ → Limits → List ℕ → Type 0
IsMultipartOverLimit delimiter limits bytes =
    PassesMultipartRoom delimiter (limits.head + limits.body) bytes
    ⊎ (IsMultipartNextOverLimit delimiter limits bytes ⊎ ((due : IsMultipartDue delimiter limits bytes) × IsMultipartRawOverLimit limits due.raw))

-- Few bytes wait: those before the first delimiter are within the limits, and those that wait for a delimiter pass them by at most the length of one.
pub record FewWaitInMultipart (delimiter : List ℕ) (limits : Limits) (bytes : List ℕ) : Type 0 where
  pub for_first : (¬ Occurs delimiter bytes) → length bytes ≤ limits.head + limits.body + length delimiter
  pub before : (preamble after : List ℕ) → TakesFrame delimiter bytes preamble after → length preamble ≤ limits.head + limits.body
  pub for_next : (preamble after : List ℕ) → TakesFrame delimiter bytes preamble after → length after ≤ limits.head + limits.body + length delimiter

-- ---- the header fields

-- the line goes on with the one before it: it begins with a space or a tab (RFC 5322, 2.2.3)
abbrev pub IsMultipartFolded : List ℕ → Type 0
IsMultipartFolded line = 0 < prefix_len is_header_blank line

-- neither a carriage return nor a NUL is in a field (RFC 9110, 5.5), nor is a line feed, since a line has none
abbrev pub is_multipart_field_byte : ℕ → Bool
is_multipart_field_byte b = not (b == carriage_return || b == 0)

-- the line begins a header field, or goes on with one
pub record IsMultipartFieldLine (line : List ℕ) : Type 0 where
  pub bytes : AllPass is_multipart_field_byte line
  pub is : IsMultipartFolded line ⊎ ((name : List ℕ) × (value : List ℕ) × IsHeader line name value)

-- Each line of the head begins a header field or is folded, and the first one isn't folded.
pub record AreMultipartFields (head : List ℕ) : Type 0 where
  pub first : ¬ IsMultipartFolded head
  pub each : All IsMultipartFieldLine (lines head)

-- no part whose head is header fields is in the bytes
abbrev pub NoMultipartWithFields : List ℕ → Limits → List ℕ → Type 0
NoMultipartWithFields = EachMultipart (λ part. ¬ AreMultipartFields part.head)

-- ---- the name

abbrev pub content_disposition : List ℕ
content_disposition = codes "content-disposition"

-- the line is this header, whatever the case of its name (RFC 5322, 1.2.2), with this value
pub record IsMultipartDisposition (line value : List ℕ) : Type 0 where
  pub colon_is : position_or_len (λ b. b == colon) line < length line
  pub name : str_to_ascii_lowercase (before_first (λ b. b == colon) line) ≡ content_disposition
  pub value_is : value ≡ after_first (λ b. b == colon) line

abbrev pub NoMultipartDisposition : List ℕ → Type 0
NoMultipartDisposition line = (value : List ℕ) → ¬ IsMultipartDisposition line value

-- the first of the lines that is this header, and the folded lines after it, have this value; these lines are left
pub record ReadsMultipartDisposition (all : List (List ℕ)) (value : List ℕ) (left : List (List ℕ)) : Type 0 where
  pub before : List (List ℕ)
  pub line : List ℕ
  pub folded : List (List ℕ)
  pub parts : all ≡ before ++ line ∷ (folded ++ left)
  pub none : All NoMultipartDisposition before
  pub begins : List ℕ
  pub is : IsMultipartDisposition line begins
  pub goes_on : All IsMultipartFolded folded
  pub value_is : value ≡ begins ++ concat folded

-- the same, and no folded line comes after these
pub record IsFirstMultipartDisposition (all : List (List ℕ)) (value : List ℕ) : Type 0 where
  pub left : List (List ℕ)
  pub reads : ReadsMultipartDisposition all value left
  pub ends : (line : List ℕ) (others : List (List ℕ)) → left ≡ line ∷ others → ¬ IsMultipartFolded line

-- the unfolded value of that header, or `None` if no line is this header
abbrev pub HasMultipartDisposition : List (List ℕ) → Option (List ℕ) → Type 0
HasMultipartDisposition all r = MatchOption r (All NoMultipartDisposition all) (λ value. IsFirstMultipartDisposition all value)

-- what the disposition of a head has as the parameter of a name
abbrev pub HasMultipartParameter : List ℕ → List ℕ → Option (List ℕ) → Type 0
HasMultipartParameter name head r = (disposition : Option (List ℕ)) × HasMultipartDisposition (lines head) disposition × ReadsDispositionParameter name disposition r

abbrev pub multipart_name : List ℕ
multipart_name = codes "name"

abbrev pub multipart_file_name : List ℕ
multipart_file_name = codes "filename"

-- ---- what the reader holds

-- The bytes that are held: those that wait, or the preamble and a delimiter before them, or what was found after that, too, with the delimiter after
-- it.
abbrev pub held_in_multipart_sections : Stage → List ℕ → List ℕ → List ℕ → List ℕ → List ℕ
held_in_multipart_sections Preamble delimiter preamble found waiting = waiting
held_in_multipart_sections Waiting delimiter preamble found waiting = preamble ++ (delimiter ++ waiting)
held_in_multipart_sections Found delimiter preamble found waiting = preamble ++ (delimiter ++ (found ++ (delimiter ++ waiting)))
held_in_multipart_sections Ended delimiter preamble found waiting = []

-- The bytes that wait for a delimiter are all that are held, or those after the first delimiter, or those after the next one.
abbrev pub WaitsInMultipart : List ℕ → List ℕ → List ℕ → Type 0
WaitsInMultipart delimiter held waiting =
    (waiting ≡ held) ⊎ (((preamble : List ℕ) × TakesFrame delimiter held preamble waiting) ⊎ ((preamble : List ℕ) × (after : List ℕ) × (raw : List ℕ) × TakesFrame delimiter held preamble after × TakesFrame delimiter after raw waiting))

-- Each delimiter is the first one there, and no dashes follow it where the next one was found. Before the first one, and after the close delimiter,
-- nothing else is kept.
abbrev pub AreMultipartSectionsApart : Stage → List ℕ → List ℕ → List ℕ → List ℕ → Type 0
AreMultipartSectionsApart Preamble delimiter preamble found waiting = preamble ≡ []
AreMultipartSectionsApart Waiting delimiter preamble found waiting = TakesFrame delimiter (preamble ++ (delimiter ++ waiting)) preamble waiting
AreMultipartSectionsApart Found delimiter preamble found waiting =
    TakesFrame delimiter (preamble ++ (delimiter ++ (found ++ (delimiter ++ waiting)))) preamble (found ++ (delimiter ++ waiting))
    × TakesFrame delimiter (found ++ (delimiter ++ waiting)) found waiting
    × (take (length multipart_dashes) (found ++ delimiter) ≢ multipart_dashes)
AreMultipartSectionsApart Ended delimiter preamble found waiting = (preamble ≡ []) × (waiting ≡ [])

abbrev pub multipart_sections_have_ended : Stage → Bool
multipart_sections_have_ended Preamble = false
multipart_sections_have_ended Waiting = false
multipart_sections_have_ended Found = false
multipart_sections_have_ended Ended = true

abbrev pub held_by_multipart : Sections → List ℕ
held_by_multipart s = held_in_multipart_sections s.stage s.waiting.delimiter s.preamble (concat s.found.segments) s.waiting.held

abbrev pub IsMultipartDivided : Sections → Type 0
IsMultipartDivided s = AreMultipartSectionsApart s.stage s.waiting.delimiter s.preamble (concat s.found.segments) s.waiting.held

-- What was found is within the limits, with the end of its head where it was noted.
abbrev pub IsMultipartWithin : Limits → Sections → Type 0
IsMultipartWithin limits s = s.stage ≡ Found → HasMultipartHeadAt limits (concat s.found.segments) s.head_len

-- the same delimiter, end and bytes
pub record SameMultipartSections (old new : Sections) : Type 0 where
  pub delimiter : new.waiting.delimiter ≡ old.waiting.delimiter
  pub ended : multipart_sections_have_ended new.stage ≡ multipart_sections_have_ended old.stage
  pub held : held_by_multipart new ≡ held_by_multipart old

-- after a search, by what was found
abbrev pub AfterMultipartSearch : Stage → Sections → Sections → Type 0
AfterMultipartSearch Preamble old new =
    SameMultipartSections old new × (¬ Occurs old.waiting.delimiter new.waiting.held) × (¬ ClosesMultipart old.waiting.delimiter (held_by_multipart old)) × LacksNextInMultipart old.waiting.delimiter (held_by_multipart old)
AfterMultipartSearch Waiting old new =
    SameMultipartSections old new × (¬ Occurs old.waiting.delimiter new.waiting.held) × (¬ ClosesMultipart old.waiting.delimiter (held_by_multipart old)) × LacksNextInMultipart old.waiting.delimiter (held_by_multipart old)
AfterMultipartSearch Found old new = SameMultipartSections old new
AfterMultipartSearch Ended old new = (old.stage ≡ Ended) ⊎ ClosesMultipart old.waiting.delimiter (held_by_multipart old)

-- what an error prints
abbrev pub part_error_text : PartError → List ℕ
part_error_text (Refused reason) = refusal_text reason
part_error_text Malformed = codes "the part is malformed"
part_error_text NotUtf8 = codes "the head is not UTF-8"
part_error_text TooLarge = codes "the part is too large"

-- why what is between two delimiters is no part, or isn't read
abbrev pub IsMultipartRawFault : PartError → Limits → List ℕ → Type 0
IsMultipartRawFault Malformed limits raw = (any : Limits) (part : MultipartBytes) → IsMultipartPart any raw part → ¬ AreMultipartFields part.head
IsMultipartRawFault NotUtf8 limits raw = (part : MultipartBytes) × IsMultipartPart limits raw part × (¬ IsUtf8 part.head)
IsMultipartRawFault TooLarge limits raw = IsMultipartRawOverLimit limits raw
IsMultipartRawFault (Refused reason) limits raw = (reason ≡ OutOfMemory) × (front : List ℕ) × (body : List ℕ) × HasMultipartHeadEnd limits raw front body

-- why there is no part in the held bytes
abbrev pub IsMultipartFault : PartError → List ℕ → Limits → List ℕ → Type 0
IsMultipartFault Malformed delimiter limits held = IsMultipartDue delimiter limits held × ((any : Limits) (more : List ℕ) → NoMultipartWithFields delimiter any (held ++ more))
IsMultipartFault NotUtf8 delimiter limits held =
    IsMultipartDue delimiter limits held × (part : MultipartBytes) × (rest : List ℕ) × TakesMultipart delimiter limits held part rest × (¬ IsUtf8 part.head)
IsMultipartFault TooLarge delimiter limits held = IsMultipartOverLimit delimiter limits held
IsMultipartFault (Refused reason) delimiter limits held = (reason ≡ OutOfMemory) × AsksForMultipart delimiter limits held

-- ---- a run of calls

-- a piece is held too, unless the close delimiter was read
abbrev pub multipart_appended : MultipartReading → List ℕ → MultipartReading
multipart_appended s piece = if s.ended then s else record s { held = s.held ++ piece }

-- the close delimiter was read, and nothing is held
abbrev pub multipart_closed : MultipartReading → MultipartReading
multipart_closed s = record s { ended = true; held = [] }

-- Without a part the close delimiter is read, or nothing changes: then the first delimiter is no close delimiter, and the next one has not come.
abbrev pub IsMultipartIdle : MultipartReading → MultipartReading → Type 0
IsMultipartIdle old new = MatchBool new.ended ((new ≡ multipart_closed old) × ((old.ended ≡ true) ⊎ ClosesMultipart old.delimiter old.held))
    ((new ≡ old) × (¬ ClosesMultipart old.delimiter old.held) × LacksNextInMultipart old.delimiter old.held)

-- what a call did that returned a part, or none
abbrev pub IsMultipartCall : MultipartReading → Option MultipartBytes → MultipartReading → Type 0
IsMultipartCall old None new = IsMultipartIdle old new
IsMultipartCall old (Some part) new = TakesMultipart old.delimiter old.limits old.held part new.held × (old.ended ≡ false) × (new ≡ record old { held = new.held })

-- pushed pieces and calls for the next part lead from a state to the last one
abbrev pub IsMultipartRun : MultipartReading → List (StreamEvent (Option MultipartBytes)) → MultipartReading → Type 0
IsMultipartRun s events end = IsRunOver multipart_appended IsMultipartCall s events end

-- the state of a new reader
abbrev pub multipart_started : List ℕ → Limits → MultipartReading
multipart_started delimiter limits = record { delimiter = delimiter; limits = limits; ended = false; held = multipart_line_end }

-- These are the first parts of the bytes. The bytes after them are held, or the close delimiter was read there.
pub record AreMultipartParts (delimiter : List ℕ) (limits : Limits) (bytes : List ℕ) (parts : List MultipartBytes) (ended : Bool) (held : List ℕ) : Type 0 where
  pub rest : List ℕ
  pub are : AreFirstOfRun (TakesMultipart delimiter limits) bytes parts rest
  pub left : MatchBool ended (ClosesMultipart delimiter rest) (rest ≡ held)

-- Whatever the pieces are and whenever parts are asked for, a run gives the first parts of the joined pieces.
abbrev pub MultipartLaw : Type 0
MultipartLaw = (delimiter : List ℕ) (limits : Limits) (events : List (StreamEvent (Option MultipartBytes))) (end : MultipartReading) → IsMultipartRun (multipart_started delimiter limits) events end
    → AreMultipartParts delimiter limits (multipart_line_end ++ pushed_in_stream events) (flat_map option_to_list (given_in_stream events)) end.ended end.held

-- two lists of first parts of the same bytes that have the same length are the same, with the same bytes after them
abbrev pub SameMultipartLaw : Type 0
SameMultipartLaw = (delimiter : List ℕ) (limits : Limits) → SameFirstOfRunLaw (TakesMultipart delimiter limits)
