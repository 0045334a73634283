-- Lines of a decoder, as texts. Each is ended by a line feed, and the last one also by the end of the stream.
use Rattle.std.specs.Prelude.{◌≡◌, ℕ, suc, ◌<◌, ◌≤◌, Bool, true, false, List, [], ◌∷◌, ◌++◌, length, codes, IsUtf8, Option, None, Some, Result, Ok, Err}
use Rattle.std.specs.Bool.{OnTrue}
use Rattle.std.specs.Option.{option_to_list}
use Rattle.std.specs.Str.{valid_up_to, error_len}
use Rattle.std.specs.Str.Lossy.{utf8_lossy}
use Rattle.bytes_utils_buf.specs.declared.refused.Reason.{Reason}
use Rattle.bytes_utils_buf.specs.declared.refused.Reason.TheVariants.{OutOfMemory}
use Rattle.bytes_utils.specs.Errors.{IsUtf8ErrorOf, utf8_error_fault, utf8_error_storage, utf8_error_text}
use Rattle.bytes_utils.specs.Lines.{IsWithoutReturn, line_feed, lines}
use Rattle.bytes_utils.specs.Occurrence.{Occurs}
use Rattle.bytes_utils_codec.specs.Decoding.{Decoding, Gives, Item, Last, AreItems, fed, starting}
use Rattle.bytes_utils_codec.specs.Skipping.{skipping_ended}
use Rattle.bytes_utils_codec.specs.Delimited.{AwaitsDelimitedFrame, Delimiting, StopsDelimited, delimiting, gives_delimited, keeps_delimited, delimited_left, ready_delimited}
use Rattle.bytes_utils_codec.specs.Frames.{AreFrames}
use Rattle.bytes_utils_codec.specs.Search.{NoneBeginsInSearch}
use Rattle.bytes_utils_codec.specs.StreamLines.{AreFirstStreamLines, last_stream_line}
use Rattle.bytes_utils_codec.specs.declared.decode.too_long.FrameTooLong.{FrameTooLong}
use Rattle.bytes_utils_codec.specs.declared.decode.lines.LineFault.{LineFault}
use Rattle.bytes_utils_codec.specs.declared.decode.lines.LineFault.TheVariants.{NotUtf8, TooLong}

-- What clauses see of a `Lines`: the decoder of its frames, each a line with its carriage return, and whether bytes
-- that are no character become U+FFFD.
pub record LineReading : Type 0 where
  pub frames : Delimiting
  pub lossy : Bool

-- a new decoder of lines of at most this many bytes
abbrev pub line_reading : ℕ → LineReading
line_reading limit = record { frames = delimiting (line_feed ∷ []) limit; lossy = false }

-- the same decoder at the front of a line
abbrev pub ready_line : LineReading → LineReading
ready_line d = record d { frames = ready_delimited d.frames }

-- the frames that come next
abbrev pub frames_of_lines : Decoding LineReading → Decoding Delimiting
frames_of_lines s = record { decoder = s.decoder.frames; held = s.held; threshold = s.threshold }

-- a text, or why there is none
abbrev pub LineItem : Type 0
LineItem = Result (List ℕ) LineFault

-- The item for these bytes: their text, or if they are not UTF-8 an error that has them. If it is lossy there is always
-- a text, with U+FFFD for those that are no character.
abbrev pub IsTextLineItem : Bool → LineItem → List ℕ → Type 0
IsTextLineItem true (Ok text) bytes = text ≡ utf8_lossy bytes
IsTextLineItem true (Err fault) bytes = ⊥
IsTextLineItem false (Ok text) bytes = (text ≡ bytes) × IsUtf8 bytes
IsTextLineItem false (Err (NotUtf8 fault)) bytes = (utf8_error_storage fault ≡ bytes) × (¬ IsUtf8 bytes) × IsUtf8ErrorOf (utf8_error_fault fault) bytes
IsTextLineItem false (Err TooLong) bytes = ⊥

-- the item for a frame: that for its bytes without a carriage return at their end, or that it is longer than the limit
abbrev pub IsLineOf : Bool → LineItem → Result (List ℕ) FrameTooLong → Type 0
IsLineOf lossy item (Ok frame) = (line : List ℕ) × IsWithoutReturn line frame × IsTextLineItem lossy item line
IsLineOf lossy item (Err over) = item ≡ Err TooLong

-- the item for the bytes that are left at the end of the stream, if there are any
abbrev pub IsLastLineOf : Bool → Option LineItem → List ℕ → Type 0
IsLastLineOf lossy None bytes = bytes ≡ []
IsLastLineOf lossy (Some item) bytes = (0 < length bytes) × IsTextLineItem lossy item bytes

-- at the end of the stream these bytes are left: none of a line that is skipped
abbrev pub IsLeftLine : Decoding LineReading → List ℕ → Decoding LineReading → Type 0
IsLeftLine old bytes new =
    (mid : Decoding Delimiting) × gives_delimited (frames_of_lines old) (Last None) mid × (mid.held ≡ bytes)
    × (new ≡ record old { decoder = record old.decoder { frames = mid.decoder }; held = [] })

-- What comes next: the line of a frame; or at the end of the stream the bytes that are left, as they are, if there are
-- any.
abbrev pub gives_line : Gives LineReading LineItem
gives_line old (Item item) new = (frame : Result (List ℕ) FrameTooLong) × gives_delimited (frames_of_lines old) (Item frame) (frames_of_lines new)
    × IsLineOf old.decoder.lossy item frame × (new.decoder.lossy ≡ old.decoder.lossy)
gives_line old (Last last) new = (bytes : List ℕ) × IsLeftLine old bytes new × IsLastLineOf old.decoder.lossy last bytes

-- the end of the next line has not come, or that of a line that is skipped
abbrev pub AwaitsLine : Decoding LineReading → Type 0
AwaitsLine s = AwaitsDelimitedFrame (frames_of_lines s)

-- at the end of the stream some bytes are left
abbrev pub HasLastLine : Decoding LineReading → Type 0
HasLastLine s = (mid : Decoding Delimiting) × gives_delimited (frames_of_lines s) (Last None) mid × (0 < length mid.held)

-- a line within the limit has come that isn't empty
abbrev pub HasLine : Decoding LineReading → Type 0
HasLine s = (frame : List ℕ) × (after : Decoding Delimiting) × gives_delimited (frames_of_lines s) (Item (Ok frame)) after
    × ((line : List ℕ) × IsWithoutReturn line frame × (0 < length line))

-- memory was refused for a line that has come, is within the limit and isn't empty
abbrev pub fails_line : Decoding LineReading → Reason → Type 0
fails_line s reason = (reason ≡ OutOfMemory) × HasLine s

-- memory was refused at the end of the stream, for the bytes that are left
abbrev pub fails_line_at_end : Decoding LineReading → Reason → Type 0
fails_line_at_end s reason = (reason ≡ OutOfMemory) × HasLastLine s

-- what a call that gives no item leaves, as of the frames
abbrev pub keeps_line : Decoding LineReading → Decoding LineReading → Type 0
keeps_line old new = keeps_delimited (frames_of_lines old) (frames_of_lines new) × (new.decoder.lossy ≡ old.decoder.lossy)

-- What a call for the next line did, by what it returned. With none, the frames say what is left.
abbrev pub TakesLineItem : Decoding LineReading → Result (Option LineItem) Reason → Decoding LineReading → Type 0
TakesLineItem old (Ok (Some item)) new = gives_line old (Item item) new
TakesLineItem old (Ok None) new = StopsDelimited (frames_of_lines old) (frames_of_lines new) × AwaitsLine old × keeps_line old new
TakesLineItem old (Err reason) new = fails_line old reason × keeps_line old new

-- what a call for the last line did, by what it returned
abbrev pub TakesLastLine : Decoding LineReading → Result (Option LineItem) Reason → Decoding LineReading → Type 0
TakesLastLine old (Ok last) new = IsLastLineOf old.decoder.lossy last (delimited_left old.decoder.frames.skipping old.held)
    × (new ≡ skipping_ended ready_line old)
TakesLastLine old (Err reason) new = (reason ≡ OutOfMemory) × (0 < length old.held) × (old.decoder.frames.skipping ≡ false) × (new ≡ old)

-- the text of a `LineFault`
abbrev pub line_fault_text : LineFault → List ℕ
line_fault_text TooLong = codes "the line is too long"
line_fault_text (NotUtf8 fault) = utf8_error_text (valid_up_to (utf8_error_fault fault)) (error_len (utf8_error_fault fault))

-- ---- the items of a new decoder

-- The item for a line that comes from this frame: for a frame within the limit that for the bytes of the line, for a
-- longer one that it is too long.
pub record IsLineItemOf (lossy : Bool) (limit : ℕ) (item : LineItem) (line frame : List ℕ) : Type 0 where
  pub within : length frame ≤ limit → IsTextLineItem lossy item line
  pub over : limit < length frame → item ≡ Err TooLong

-- each item is that for the line at the same place, which comes from the frame there
abbrev pub AreLineItemsOf : Bool → ℕ → List LineItem → List (List ℕ) → List (List ℕ) → Type 0
AreLineItemsOf lossy limit [] [] [] = Unit {0}
AreLineItemsOf lossy limit (item ∷ items) (line ∷ lines) (frame ∷ frames) = IsLineItemOf lossy limit item line frame × AreLineItemsOf lossy limit items lines frames
AreLineItemsOf lossy limit items lines frames = ⊥

-- what is given of a line whose end has not come
abbrev pub begun_line : Bool → List LineItem
begun_line true = Err TooLong ∷ []
begun_line false = []

-- These items are given of the bytes: that for each first line, in order; and if the end of the next line has not come
-- and its frame is certain to be over the limit, perhaps that it is too long.
pub record AreFirstLineItems (lossy : Bool) (limit : ℕ) (bytes : List ℕ) (items : List LineItem) : Type 0 where
  pub given : List LineItem
  pub lines : List (List ℕ)
  pub frames : List (List ℕ)
  pub rest : List ℕ
  pub over : Bool
  pub are : AreLineItemsOf lossy limit given lines frames
  pub are_lines : AreFirstStreamLines bytes lines rest
  pub are_frames : AreFrames (line_feed ∷ []) bytes frames rest
  pub all : items ≡ given ++ begun_line over
  pub long : OnTrue over (NoneBeginsInSearch (line_feed ∷ []) rest (suc limit))

-- these are the items of these bytes, of a new decoder
abbrev pub AreLineItems : Bool → ℕ → ℕ → List ℕ → List LineItem → Decoding LineReading → Type 0
AreLineItems lossy limit threshold bytes items end =
    AreItems gives_line (fed (starting (record { frames = delimiting (line_feed ∷ []) limit; lossy = lossy }) threshold) bytes) items end

-- The items are those for the first lines of the bytes.
abbrev pub LineReadingLaw : Type 0
LineReadingLaw = (lossy : Bool) (limit threshold : ℕ) (bytes : List ℕ) (items : List LineItem) (end : Decoding LineReading)
    → AreLineItems lossy limit threshold bytes items end → AreFirstLineItems lossy limit bytes items

-- With the last item at the end of the stream, if there is one, they are those for all lines of the bytes. The frames
-- are those of the lines that a line feed ends, and the bytes after these.
abbrev pub WholeLineReadingLaw : Type 0
WholeLineReadingLaw = (lossy : Bool) (limit threshold : ℕ) (bytes : List ℕ) (items : List LineItem) (end : Decoding LineReading)
    (last : Option LineItem) (after : Decoding LineReading)
    → AreLineItems lossy limit threshold bytes items end → gives_line end (Last last) after
    → (frames : List (List ℕ)) × (rest : List ℕ) × AreFrames (line_feed ∷ []) bytes frames rest × (¬ Occurs (line_feed ∷ []) rest)
    × AreLineItemsOf lossy limit (items ++ option_to_list last) (lines bytes) (frames ++ last_stream_line rest)
