-- What the program prints.
use Rattle.std.specs.Prelude.{ℕ, List, [], ◌++◌, length, map, codes, decimal}
use Rattle.std.specs.List.{concat}
use Rattle.std.specs.Str.{encode_utf8_all}
use Rattle.bytes_utils_run.specs.declared.calls.call.Reply.{Reply}
use Rattle.bytes_utils_run.specs.declared.calls.call.Reply.TheVariants.{Done, PastEnd, TooLong, NoMemory, CopyStopped, Number, Piece, Shown, Slices}

-- bytes that were taken out or are shown: their length, a colon, the bytes, a line feed
abbrev pub printed : List ℕ → List ℕ
printed bytes = decimal (length bytes) ++ codes ":" ++ bytes ++ codes "\n"

-- a part, as characters
abbrev pub printed_part : List ℕ → List ℕ
printed_part part = printed (encode_utf8_all part)

-- a number, on a line of its own
abbrev pub printed_number : ℕ → List ℕ
printed_number n = decimal n ++ codes "\n"

-- a reply; nothing is printed if memory was refused for it
abbrev pub printed_reply : Reply → List ℕ
printed_reply Done = codes "ok\n"
printed_reply PastEnd = codes "past end\n"
printed_reply TooLong = codes "too long\n"
printed_reply NoMemory = []
printed_reply (CopyStopped taken) = []
printed_reply (Number n) = printed_number n
printed_reply (Piece piece) = printed piece
printed_reply (Shown chunk) = printed chunk.items
printed_reply (Slices slices) = printed_number (length slices.items) ++ concat (map (λ slice. printed slice.items) slices.items)
