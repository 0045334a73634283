-- A second definition of the lines of a text: where they are in it, and what ends them.
use Rattle.std.specs.Prelude.{◌≡◌, ◌⊎◌, ◌↔◌, ℕ, ◌<◌, List, [], ◌∷◌, ◌++◌, length}
use Rattle.bytes_utils.specs.Lines.{lines, line_feed, IsFeedEnd}
use Rattle.bytes_utils.specs.Occurrence.{Occurs}

-- A line's end, with `rest` after it: the end of a line that a line feed ends; or nothing, if the line isn't empty and is the last of the
-- text.
abbrev pub IsLineEnd : List ℕ → List ℕ → List ℕ → Type 0
IsLineEnd line end rest = IsFeedEnd line end ⊎ ((end ≡ []) × (rest ≡ []) × (0 < length line))

-- these lines, each without a line feed and followed by a line's end, make up t
abbrev pub AreEndedLines : List ℕ → List (List ℕ) → Type 0
AreEndedLines t [] = t ≡ []
AreEndedLines t (line ∷ lines) = (end : List ℕ) × (rest : List ℕ) × (t ≡ line ++ (end ++ rest)) × (¬ Occurs (line_feed ∷ []) line)
    × IsLineEnd line end rest × AreEndedLines rest lines

-- the lines of a text are the lines that, with their ends, make up the text, and no other list is
abbrev pub LineEndsLaw : Type 0
LineEndsLaw = (t : List ℕ) (parts : List (List ℕ)) → (parts ≡ lines t) ↔ AreEndedLines t parts
