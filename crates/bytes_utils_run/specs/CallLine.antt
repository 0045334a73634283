-- The lines of the program's input that ask for calls on a buffer. A line is a list of characters here, and the bytes to push are bytes.
use Rattle.std.specs.Prelude.{◌≡◌, ℕ, List, [], ◌∷◌, ◌++◌, codes, IsUtf8, ⊤}
use Rattle.std.specs.Str.{chars}
use Rattle.bytes_utils_run.specs.Number.{IsNumber}
use Rattle.bytes_utils_run.specs.declared.calls.call.Call.{Call}
use Rattle.bytes_utils_run.specs.declared.calls.call.Call.TheVariants.{Push, Segments, Read}
use Rattle.bytes_utils_run.specs.declared.calls.call.ReadCall.TheVariants.{Remaining, Chunk, Advance, CopyOut, Chunks}

-- the line is a word with its space, and then a number
abbrev pub IsNumberedCallLine : List ℕ → ℕ → List ℕ → Type 0
IsNumberedCallLine word n line = (digits : List ℕ) × IsNumber digits n × (line ≡ word ++ digits)

-- The line asks for this call. There is one space between a word and what follows it. The bytes to push are those of the
-- text after its space.
abbrev pub IsCallLine : Call (List ℕ) → List ℕ → Type 0
IsCallLine (Push bytes) line = IsUtf8 bytes × (line ≡ codes "push " ++ chars bytes)
IsCallLine Segments line = line ≡ codes "segments"
IsCallLine (Read Remaining) line = line ≡ codes "remaining"
IsCallLine (Read Chunk) line = line ≡ codes "chunk"
IsCallLine (Read (Advance n)) line = IsNumberedCallLine (codes "advance ") n line
IsCallLine (Read (CopyOut n)) line = IsNumberedCallLine (codes "copy ") n line
IsCallLine (Read (Chunks n)) line = IsNumberedCallLine (codes "chunks ") n line

-- the lines ask for these calls, one call a line
abbrev pub AreCallLines : List (Call (List ℕ)) → List (List ℕ) → Type 0
AreCallLines [] [] = ⊤
AreCallLines (call ∷ calls) (line ∷ lines) = IsCallLine call line × AreCallLines calls lines
AreCallLines calls lines = ⊥
