-- Texts of a stream of bytes that comes in pieces, which may be cut inside a character.
use Rattle.std.specs.Prelude.{◌≡◌, ◌⊎◌, ℕ, ◌≤◌, ◌<◌, Bool, true, false, List, [], ◌++◌, length, map, take, IsUtf8, Some, None, Result, Ok, Err}
use Rattle.std.specs.List.{concat}
use Rattle.std.specs.Str.Lossy.{replacement_bytes, utf8_lossy, utf8_valid_len, utf8_error_len}
use Rattle.bytes_utils.specs.Errors.{IsUtf8ErrorOf, utf8_error_fault, utf8_error_storage}
use Rattle.bytes_utils.specs.declared.string.utf8_error.Utf8Error.{Utf8Error}
use Rattle.bytes_utils_codec.specs.StreamRuns.{StreamEvent, IsRunOver, AreFirstOfRun, pushed_in_stream, given_in_stream}
use Rattle.bytes_utils_codec.specs.declared.texts.Front.{Front}
use Rattle.bytes_utils_codec.specs.declared.texts.Front.TheVariants.{Text, Fault, Unfinished}

-- What clauses see of a `Texts`: the pieces that were pushed and not yet taken, and whether bytes that are no text become U+FFFD.
pub record TextPieces : Type 0 where
  pub pieces : List (List ℕ)
  pub lossy : Bool

-- the same, wherever the pieces are cut
pub record TextReading : Type 0 where
  pub held : List ℕ
  pub lossy : Bool

abbrev pub reading_of_pieces : TextPieces → TextReading
reading_of_pieces r = record { held = concat r.pieces; lossy = r.lossy }

-- a reader that holds no bytes
abbrev pub text_reading : Bool → TextReading
text_reading lossy = record { held = []; lossy = lossy }

-- a piece is appended
abbrev pub text_fed : TextReading → List ℕ → TextReading
text_fed r piece = record r { held = r.held ++ piece }

-- a text, or an error that has bytes that are none
abbrev pub TextItem : Type 0
TextItem = Result (List ℕ) (Utf8Error (List ℕ))

-- ---- what is taken off the front of the held bytes

-- a text that isn't empty
pub record TakesText (old text rest : List ℕ) : Type 0 where
  pub bytes : old ≡ text ++ rest
  pub some : 0 < length text
  pub utf8 : IsUtf8 text

-- bytes that are no character, whatever follows them: as many as one U+FFFD replaces
pub record TakesTextFault (old fault rest : List ℕ) : Type 0 where
  pub bytes : old ≡ fault ++ rest
  pub none : utf8_valid_len old ≡ 0
  pub size : utf8_error_len old ≡ Some (length fault)

-- whatever follows them, the bytes aren't UTF-8
abbrev pub IsFaultyText : List ℕ → Type 0
IsFaultyText bytes = (following : List ℕ) → ¬ IsUtf8 (bytes ++ following)

-- The bytes are the first of a character, or none: they begin with no text, what follows may make a text of all of them, and they are few.
pub record IsUnfinishedText (bytes : List ℕ) : Type 0 where
  pub none : utf8_valid_len bytes ≡ 0
  pub may_end : (following : List ℕ) × IsUtf8 (bytes ++ following)
  pub few : length bytes ≤ 3

-- the item for bytes that are no text: an error that has them, or U+FFFD
abbrev pub IsTextFaultItem : Bool → TextItem → List ℕ → Type 0
IsTextFaultItem true item bytes = item ≡ Ok replacement_bytes
IsTextFaultItem false (Ok text) bytes = ⊥
IsTextFaultItem false (Err fault) bytes = (utf8_error_storage fault ≡ bytes) × IsUtf8ErrorOf (utf8_error_fault fault) bytes

-- the next item is taken: a text, or the item for bytes that are none
pub record TakesTextItem (old : TextReading) (item : TextItem) (new : TextReading) : Type 0 where
  pub lossy : new.lossy ≡ old.lossy
  pub taken : ((text : List ℕ) × (item ≡ Ok text) × TakesText old.held text new.held)
      ⊎ ((fault : List ℕ) × IsTextFaultItem old.lossy item fault × TakesTextFault old.held fault new.held)

-- the same at the end of the stream, where the bytes of a character that isn't whole are no text, too
abbrev pub TakesLastText : TextReading → TextItem → TextReading → Type 0
TakesLastText old item new = TakesTextItem old item new
    ⊎ (IsUnfinishedText old.held × (0 < length old.held) × IsTextFaultItem old.lossy item old.held × (new ≡ record old { held = [] }))

-- the next item asks for memory: a text, or bytes that are none, if these are given
abbrev pub asks_for_text : TextReading → Type 0
asks_for_text r = (0 < utf8_valid_len r.held) ⊎ ((r.lossy ≡ false) × ((n : ℕ) × (utf8_error_len r.held ≡ Some n)))

-- the same at the end of the stream
abbrev pub asks_for_text_at_end : TextReading → Type 0
asks_for_text_at_end r = (0 < utf8_valid_len r.held) ⊎ ((r.lossy ≡ false) × (0 < length r.held))

-- What the bytes begin with: a text; bytes that are none, whatever follows; or no byte, or the first of a character.
abbrev pub IsTextFront : List ℕ → Front → Type 0
IsTextFront bytes (Text len) = (0 < len) × (len ≤ length bytes) × IsUtf8 (take len bytes)
IsTextFront bytes (Fault len) = (utf8_valid_len bytes ≡ 0) × (utf8_error_len bytes ≡ Some len)
IsTextFront bytes Unfinished = (utf8_valid_len bytes ≡ 0) × (utf8_error_len bytes ≡ None)

-- what a fault is taken off is no UTF-8, whatever follows
abbrev pub TextFaultLaw : Type 0
TextFaultLaw = (old fault rest : List ℕ) → TakesTextFault old fault rest → IsFaultyText old

-- ---- runs of a reader that is new

-- these events lead from a reader that holds no bytes to this one
abbrev pub IsTextRun : Bool → List (StreamEvent TextItem) → TextReading → Type 0
IsTextRun lossy events end = IsRunOver text_fed TakesTextItem (text_reading lossy) events end

-- the bytes of an item
abbrev pub bytes_of_text_item : TextItem → List ℕ
bytes_of_text_item (Ok text) = text
bytes_of_text_item (Err fault) = utf8_error_storage fault

-- Whatever the pieces are and whenever items are asked for: no byte is lost. Of the bytes of a text only texts come.
pub record AreTextItems (events : List (StreamEvent TextItem)) (end : TextReading) : Type 0 where
  pub all : pushed_in_stream events ≡ concat (map bytes_of_text_item (given_in_stream events)) ++ end.held
  pub texts : IsUtf8 (pushed_in_stream events) → ((texts : List (List ℕ)) × (given_in_stream events ≡ map Ok texts)) × IsUtf8 end.held

abbrev pub TextItemsLaw : Type 0
TextItemsLaw = (events : List (StreamEvent TextItem)) (end : TextReading) → IsTextRun false events end → AreTextItems events end

-- If only texts have come, and what is held begins with none, they are the longest text at the start of the joined pieces.
abbrev pub TextFrontLaw : Type 0
TextFrontLaw = (events : List (StreamEvent TextItem)) (end : TextReading) (texts : List (List ℕ)) → IsTextRun false events end
    → given_in_stream events ≡ map Ok texts → utf8_valid_len end.held ≡ 0 → concat texts ≡ take (utf8_valid_len (pushed_in_stream events)) (pushed_in_stream events)

-- the text of an item, with U+FFFD for bytes that are none
abbrev pub text_of : TextItem → List ℕ
text_of (Ok text) = text
text_of (Err fault) = replacement_bytes

-- Of any bytes `utf8_lossy` is the text that Rust's `String::from_utf8_lossy` makes of them. Whatever the pieces are, wherever they are cut and whenever
-- items are asked for: the texts of the items, and then the lossy text of what is held, are the lossy text of the joined pieces.
abbrev pub LossyTextLaw : Type 0
LossyTextLaw = (lossy : Bool) (events : List (StreamEvent TextItem)) (end : TextReading) → IsTextRun lossy events end
    → utf8_lossy (pushed_in_stream events) ≡ concat (map text_of (given_in_stream events)) ++ utf8_lossy end.held

-- If the items at the end of the stream are taken too, until no byte is held, then the texts of all items are the lossy text of the joined pieces.
abbrev pub WholeLossyTextLaw : Type 0
WholeLossyTextLaw = (lossy : Bool) (events : List (StreamEvent TextItem)) (end after : TextReading) (last : List TextItem) → IsTextRun lossy events end
    → AreFirstOfRun TakesLastText end last after → after.held ≡ [] → utf8_lossy (pushed_in_stream events) ≡ concat (map text_of (given_in_stream events)) ++ concat (map text_of last)
