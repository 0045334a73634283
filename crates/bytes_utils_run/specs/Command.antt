-- The language of the program's input: a command line, the text after it, and the commands that split that text (the other command is in
-- `Request`). Inputs and lines are lists of characters here.
use Rattle.std.specs.Prelude.{◌≡◌, ℕ, ◌<◌, List, [], ◌++◌, length, codes, None, Some, unwrap_or, slice_get}
use Rattle.bytes_utils.specs.Lines.{lines}
use Rattle.bytes_utils_run.specs.Cutting.{Cutting, ByWords, ByAsciiWords, ByLines, FromFront, FromBack, Keeping, IsCuttingAllowed, cutting}
use Rattle.bytes_utils_run.specs.Number.{IsNumber}
use Rattle.bytes_utils_run.specs.declared.program.command.Command.{Command}
use Rattle.bytes_utils_run.specs.declared.program.command.Command.TheVariants.{Cut, Buf}

-- the first line of the input, or an empty line, which is no command, if the input has no line
abbrev pub command_line : List ℕ → List ℕ
command_line input = unwrap_or (slice_get (lines input) 0) []

-- the text is the digits of a number, one space, and then the rest
abbrev pub IsCommandCount : List ℕ → ℕ → List ℕ → Type 0
IsCommandCount text n rest = (digits : List ℕ) × IsNumber digits n × (text ≡ digits ++ (codes " " ++ rest))

-- the line is a word with its space, then the digits of a number, one space, and then the rest
abbrev pub IsCommandCountAfter : List ℕ → List ℕ → ℕ → List ℕ → Type 0
IsCommandCountAfter word line n rest = (counted : List ℕ) × IsCommandCount counted n rest × (line ≡ word ++ counted)

-- The line is a command that asks for this way to split. There is one space between a word and what follows it. A separator is all of the
-- line after its space.
abbrev pub IsCommand : Cutting → List ℕ → Type 0
IsCommand ByWords line = line ≡ codes "words"
IsCommand ByAsciiWords line = line ≡ codes "ascii"
IsCommand ByLines line = line ≡ codes "lines"
IsCommand (FromFront p None) line = line ≡ codes "split " ++ p
IsCommand (FromFront p (Some most)) line = IsCommandCountAfter (codes "splitn ") line most p
IsCommand (FromBack p None) line = line ≡ codes "rsplit " ++ p
IsCommand (FromBack p (Some most)) line = IsCommandCountAfter (codes "rsplitn ") line most p
IsCommand (Keeping p) line = (0 < length p) × (line ≡ codes "inclusive " ++ p)

-- the line is this command
abbrev pub IsReadFrom : List ℕ → Command → Type 0
IsReadFrom line (Cut how) = IsCuttingAllowed how × IsCommand (cutting how) line
IsReadFrom line Buf = line ≡ codes "buf"
