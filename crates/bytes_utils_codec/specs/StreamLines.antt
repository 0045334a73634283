-- Lines of a stream of bytes that comes in pieces, each ended by a line feed.
use Rattle.std.specs.Prelude.{◌≡◌, ℕ, ◌<◌, List, [], ◌∷◌, ◌++◌, length, map, All, IsUtf8}
use Rattle.std.specs.Str.{chars}
use Rattle.bytes_utils.specs.Occurrence.{Occurs}
use Rattle.bytes_utils.specs.Lines.{lines, line_feed, IsFeedEnd}
use Rattle.bytes_utils_codec.specs.StreamRuns.{AreFirstOfRun, SameFirstOfRunLaw}

-- the old bytes are the line, its end and the rest, and the line has no line feed
pub record TakesStreamLine (old line rest : List ℕ) : Type 0 where
  pub end : List ℕ
  pub bytes : old ≡ line ++ (end ++ rest)
  pub ends : IsFeedEnd line end
  pub lacks : ¬ Occurs (line_feed ∷ []) line

-- the first line has come, and isn't empty
abbrev pub HasStreamLine : List ℕ → Type 0
HasStreamLine bytes = (line : List ℕ) × (rest : List ℕ) × TakesStreamLine bytes line rest × (0 < length line)

-- these are the first lines of the bytes, in order, and the bytes after them
abbrev pub AreFirstStreamLines : List ℕ → List (List ℕ) → List ℕ → Type 0
AreFirstStreamLines bytes lines rest = AreFirstOfRun TakesStreamLine bytes lines rest

-- together with the lines of the bytes after them they are the lines of all bytes, of which there is one list
abbrev pub FirstStreamLinesLaw : Type 0
FirstStreamLinesLaw = (bytes : List ℕ) (given : List (List ℕ)) (rest : List ℕ) → AreFirstStreamLines bytes given rest → lines bytes ≡ given ++ lines rest

-- the bytes after all lines that a line feed ends are a line, if they are not empty
abbrev pub last_stream_line : List ℕ → List (List ℕ)
last_stream_line [] = []
last_stream_line (c ∷ t) = (c ∷ t) ∷ []

-- If the bytes are those of a text, then so are each line and the bytes after the lines. By characters, the lines and those of the bytes after them
-- are the lines of the text. If no line feed is left, the bytes after the lines are the last line.
pub record AreTextStreamLines (text : List ℕ) (given : List (List ℕ)) (rest : List ℕ) : Type 0 where
  pub given_utf8 : All IsUtf8 given
  pub rest_utf8 : IsUtf8 rest
  pub lines_are : lines (chars text) ≡ map chars given ++ lines (chars rest)
  pub all : (¬ Occurs (line_feed ∷ []) rest) → lines (chars text) ≡ map chars (given ++ last_stream_line rest)

abbrev pub TextStreamLinesLaw : Type 0
TextStreamLinesLaw = (text : List ℕ) (given : List (List ℕ)) (rest : List ℕ) → IsUtf8 text → AreFirstStreamLines text given rest → AreTextStreamLines text given rest

-- two lists of first lines of the same bytes that have the same length are the same, with the same bytes after them
abbrev pub SameStreamLinesLaw : Type 0
SameStreamLinesLaw = SameFirstOfRunLaw TakesStreamLine
