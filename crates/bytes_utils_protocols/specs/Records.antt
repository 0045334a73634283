-- Records of a stream, each ended by an empty line.
use Rattle.std.specs.Prelude.{◌≡◌, List, ℕ, codes, IsUtf8, Result, Ok, Err}
use Rattle.bytes_utils_codec.specs.Decoding.{Decoding, Item}
use Rattle.bytes_utils_codec.specs.Delimited.{Delimiting, gives_delimited}
use Rattle.bytes_utils_codec.specs.declared.decode.too_long.FrameTooLong.{FrameTooLong}
use Rattle.bytes_utils_protocols.specs.declared.records.RecordFault.{RecordFault}
use Rattle.bytes_utils_protocols.specs.declared.records.RecordFault.TheVariants.{NotUtf8, TooLong}

-- the end of a record
abbrev pub record_end : List ℕ
record_end = codes "\r\n\r\n"

-- what a fault prints
abbrev pub record_fault_text : RecordFault → List ℕ
record_fault_text TooLong = codes "the record is too long"
record_fault_text (NotUtf8 bytes) = codes "the record is not UTF-8"

-- the record of a frame: its bytes as a text, or that they are none, or that the frame is longer than the limit
abbrev pub IsRecordOf : Result (List ℕ) FrameTooLong → Result (List ℕ) RecordFault → Type 0
IsRecordOf (Ok bytes) (Ok text) = (text ≡ bytes) × IsUtf8 bytes
IsRecordOf (Ok bytes) (Err (NotUtf8 back)) = (back ≡ bytes) × (¬ IsUtf8 bytes)
IsRecordOf (Ok bytes) (Err TooLong) = ⊥
IsRecordOf (Err over) given = given ≡ Err TooLong

-- the next frame is given, as a record
abbrev pub GivesRecord : Decoding Delimiting → Result (List ℕ) RecordFault → Decoding Delimiting → Type 0
GivesRecord old given new = (frame : Result (List ℕ) FrameTooLong) × gives_delimited old (Item frame) new × IsRecordOf frame given
