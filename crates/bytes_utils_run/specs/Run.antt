-- What a run of the program does, from the bytes of the reader to those of the writer. If they are known, `unread` and `unread'` are the
-- bytes that the reader has before and after, and `held` and `held'` those that the writer holds.
use Rattle.std.specs.Prelude.{ℕ, ◌<◌, List, ◌++◌, length, Option, IsUtf8}
use Rattle.std.specs.List.{concat}
use Rattle.std.specs.Io.KnownBytes.{Appends, Keeps}
use Rattle.std.specs.Str.{chars}
use Rattle.bytes_utils.specs.Lines.{text_after_line}
use Rattle.bytes_utils_run.specs.Command.{command_line}
use Rattle.bytes_utils_run.specs.AppendsAndConsumes.{AppendsBeginning, ConsumesWhole}
use Rattle.bytes_utils_run.specs.Request.{AreRequested, IsRequest, Request}

-- these entries are right for the input, as characters: for its first line and the text after it
abbrev pub RunAsksFor : List ℕ → List (List ℕ) → Type 0
RunAsksFor input entries = AreRequested (command_line input) (text_after_line input) entries

-- all of the input was read; these are its bytes, and they are UTF-8
pub record RunReadsText (unread unread' : Option (List ℕ)) (input : List ℕ) : Type 0 where
  pub whole : ConsumesWhole unread unread' input
  pub utf8 : IsUtf8 input

-- all entries that are right for the input were printed
pub record RunPrintsAll (unread unread' held held' : Option (List ℕ)) : Type 0 where
  pub input : List ℕ
  pub entries : List (List ℕ)
  pub read : RunReadsText unread unread' input
  pub asked : RunAsksFor (chars input) entries
  pub written : Appends held held' (concat entries)

-- the first of the entries that are right for the input were printed, perhaps none, but not all
pub record RunPrintsFirst (unread unread' held held' : Option (List ℕ)) : Type 0 where
  pub input : List ℕ
  pub given : List (List ℕ)
  pub others : List (List ℕ)
  pub some : 0 < length others
  pub read : RunReadsText unread unread' input
  pub asked : RunAsksFor (chars input) (given ++ others)
  pub written : Appends held held' (concat given)

-- the first bytes of the entries that are right for the input were written: none, some or all of them
pub record RunWritesBeginning (unread unread' held held' : Option (List ℕ)) : Type 0 where
  pub input : List ℕ
  pub entries : List (List ℕ)
  pub read : RunReadsText unread unread' input
  pub asked : RunAsksFor (chars input) entries
  pub written : AppendsBeginning held held' (concat entries)

-- the input asks for nothing that the program knows, and nothing was written
pub record RunFindsNoRequest (unread unread' held held' : Option (List ℕ)) : Type 0 where
  pub input : List ℕ
  pub read : RunReadsText unread unread' input
  pub none : (request : Request) → ¬ IsRequest request (command_line (chars input)) (text_after_line (chars input))
  pub unwritten : Keeps held held'

-- the input isn't UTF-8, and nothing was written
pub record RunFindsNotUtf8 (unread unread' held held' : Option (List ℕ)) : Type 0 where
  pub input : List ℕ
  pub whole : ConsumesWhole unread unread' input
  pub not_utf8 : ¬ IsUtf8 input
  pub unwritten : Keeps held held'
