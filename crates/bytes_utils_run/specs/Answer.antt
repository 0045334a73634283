-- What the program prints of the results.
use Rattle.std.specs.Prelude.{◌≡◌, ℕ, List, Option, map, ⊤}
use Rattle.std.specs.Io.KnownBytes.{Appends}
use Rattle.std.specs.List.{concat}
use Rattle.bytes_utils.specs.Outcome.{Outcome}
use Rattle.bytes_utils_run.specs.AnySplitter.{AreToCome}
use Rattle.bytes_utils_run.specs.AppendsAndConsumes.{AppendsBeginning}
use Rattle.bytes_utils_run.specs.Printed.{printed_part, printed_reply}
use Rattle.bytes_utils_run.specs.declared.program.answer.Answer.{Answer}
use Rattle.bytes_utils_run.specs.declared.program.answer.Answer.TheVariants.{Splitter, Replies}
use Rattle.bytes_utils_buf.specs.declared.refused.Reason.{Reason}

-- These are the results so far, each as it is printed, and the reason if some are missing. Parts are an outcome of the parts to come;
-- replies are as they are.
abbrev pub ComesOf : Answer → List (List ℕ) → Option Reason → Type 0
ComesOf (Splitter splitter) given refused = (parts : List (List ℕ)) × (given ≡ map printed_part parts) × Outcome (AreToCome splitter) parts refused
ComesOf (Replies replies missing) given refused = (given ≡ map printed_reply replies.items) × (refused ≡ missing)

-- if the results are parts, some list of parts is to come
abbrev pub HasParts : Answer → Type 0
HasParts (Splitter splitter) = (parts : List (List ℕ)) × AreToCome splitter parts
HasParts (Replies replies missing) = ⊤

-- the results were printed, to a writer that held `held` before and holds `held'` after, if these are known
abbrev pub PrintsGiven : Answer → Option Reason → Option (List ℕ) → Option (List ℕ) → Type 0
PrintsGiven answer refused held held' = (given : List (List ℕ)) × ComesOf answer given refused × Appends held held' (concat given)

-- the first bytes of some results were printed: none, some or all of the bytes
abbrev pub PrintsBeginning : Answer → Option (List ℕ) → Option (List ℕ) → Type 0
PrintsBeginning (Splitter splitter) held held' =
    (parts : List (List ℕ)) × AreToCome splitter parts × AppendsBeginning held held' (concat (map printed_part parts))
PrintsBeginning (Replies replies missing) held held' = AppendsBeginning held held' (concat (map printed_reply replies.items))
