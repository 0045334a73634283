-- Lines of a stream of bytes that comes in pieces. Each is ended by a line feed, by a carriage return, or by a carriage return and a line feed.
use Rattle.std.specs.Prelude.{◌≡◌, ◌≢◌, ◌⊎◌, ℕ, List, [], ◌∷◌, ◌++◌, ◌==◌, if◌then◌else◌, nat_eq, All, IsUtf8, Option, length, slice_index}
use Rattle.std.specs.List.{starts_with}
use Rattle.memchr.specs.Find.{IsFirst}
use Rattle.bytes_utils.specs.Lines.{line_feed, carriage_return, first_led_by}
use Rattle.bytes_utils_codec.specs.StreamLines.{last_stream_line}
use Rattle.bytes_utils_codec.specs.StreamRuns.{AreFirstOfRun, SameFirstOfRunLaw}

-- The lines of the bytes, with the last one, if it has no end and isn't empty. A carriage return before a line feed is a part of the end that this makes.
abbrev pub universal_lines : List ℕ → List (List ℕ)
universal_lines [] = []
universal_lines (c ∷ t) =
    if c == line_feed then [] ∷ universal_lines t
    else if c == carriage_return then (if starts_with nat_eq t (line_feed ∷ []) then universal_lines t else [] ∷ universal_lines t)
    else first_led_by c (universal_lines t)

-- the byte is neither a line feed nor a carriage return
abbrev pub IsInUniversalLine : ℕ → Type 0
IsInUniversalLine c = (c ≢ line_feed) × (c ≢ carriage_return)

-- no line ends in these bytes
abbrev pub LacksUniversalEnds : List ℕ → Type 0
LacksUniversalEnds bytes = All IsInUniversalLine bytes

-- The end of a line, by the bytes after it: a line feed, a carriage return and a line feed, or a carriage return that no line feed follows.
abbrev pub IsUniversalEnd : List ℕ → List ℕ → Type 0
IsUniversalEnd end rest = (end ≡ line_feed ∷ [])
    ⊎ ((end ≡ carriage_return ∷ line_feed ∷ []) ⊎ ((end ≡ carriage_return ∷ []) × ((t : List ℕ) → rest ≢ line_feed ∷ t)))

-- the bytes are the line, its end and the rest, and no line ends in the line
pub record EndsUniversalLine (bytes line end rest : List ℕ) : Type 0 where
  pub whole : bytes ≡ line ++ (end ++ rest)
  pub ends : IsUniversalEnd end rest
  pub lacks : LacksUniversalEnds line

-- this is the first line of the bytes, and what is after its end
abbrev pub IsFirstUniversalLine : List ℕ → List ℕ → List ℕ → Type 0
IsFirstUniversalLine bytes line rest = (end : List ℕ) × EndsUniversalLine bytes line end rest

-- a line feed or a carriage return is at this place
abbrev pub IsUniversalEndAt : List ℕ → ℕ → Type 0
IsUniversalEndAt bytes k = (slice_index bytes k ≡ line_feed) ⊎ (slice_index bytes k ≡ carriage_return)

-- the first place from `from` on at which one is, if there is one
abbrev pub FindsUniversalEnd : List ℕ → ℕ → Option ℕ → Type 0
FindsUniversalEnd bytes from at = IsFirst (IsUniversalEndAt bytes) from (length bytes) at

-- these are the first lines of the bytes, in order, and the bytes after them
abbrev pub AreFirstUniversalLines : List ℕ → List (List ℕ) → List ℕ → Type 0
AreFirstUniversalLines bytes lines rest = AreFirstOfRun IsFirstUniversalLine bytes lines rest

-- Together with the lines of the bytes after them they are the lines of all bytes. If no line ends in the bytes after them, these are the last line.
pub record AreAllUniversalLines (bytes : List ℕ) (given : List (List ℕ)) (rest : List ℕ) : Type 0 where
  pub lines_are : universal_lines bytes ≡ given ++ universal_lines rest
  pub all : LacksUniversalEnds rest → universal_lines bytes ≡ given ++ last_stream_line rest

abbrev pub AllUniversalLinesLaw : Type 0
AllUniversalLinesLaw = (bytes : List ℕ) (given : List (List ℕ)) (rest : List ℕ) → AreFirstUniversalLines bytes given rest → AreAllUniversalLines bytes given rest

-- if the bytes are those of a text, then so are each line and the bytes after the lines
abbrev pub TextUniversalLinesLaw : Type 0
TextUniversalLinesLaw = (text : List ℕ) (given : List (List ℕ)) (rest : List ℕ) → IsUtf8 text → AreFirstUniversalLines text given rest → All IsUtf8 given × IsUtf8 rest

-- two lists of first lines of the same bytes that have the same length are the same, with the same bytes after them
abbrev pub SameUniversalLinesLaw : Type 0
SameUniversalLinesLaw = SameFirstOfRunLaw IsFirstUniversalLine
