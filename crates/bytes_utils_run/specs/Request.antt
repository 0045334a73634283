-- What an input asks for, and what is right to print for it. Command lines and texts are lists of characters here.
use Rattle.std.specs.Prelude.{◌≡◌, ℕ, List, false, Option, None, Some, MatchOption, All, map, take, codes}
use Rattle.std.specs.List.{position}
use Rattle.bytes_utils.specs.Lines.{lines}
use Rattle.bytes_utils_buf.specs.Segments.{HeldSegments, nothing_held}
use Rattle.bytes_utils_run.specs.CallLine.{AreCallLines}
use Rattle.bytes_utils_run.specs.Calls.{IsCallOnBytes, IsRunOfCalls, reply_lacks_memory}
use Rattle.bytes_utils_run.specs.Command.{IsCommand}
use Rattle.bytes_utils_run.specs.Cutting.{Cutting, ArePartsBy}
use Rattle.bytes_utils_run.specs.Printed.{printed_part, printed_reply}
use Rattle.bytes_utils_buf.specs.declared.refused.Reason.{Reason}
use Rattle.bytes_utils_buf.specs.declared.refused.Reason.TheVariants.{OutOfMemory}
use Rattle.bytes_utils_run.specs.declared.calls.call.Call.{Call}
use Rattle.bytes_utils_run.specs.declared.calls.call.Reply.{Reply}

-- the parts of a text by one way to split, or the replies to calls on a new buffer
pub data Request : Type 0 where
  ForParts : Cutting → Request
  ForReplies : List (Call (List ℕ)) → Request

-- a command line and the text after it ask for this; the lines of the text are the calls
abbrev pub IsRequest : Request → List ℕ → List ℕ → Type 0
IsRequest (ForParts way) line text = IsCommand way line
IsRequest (ForReplies calls) line text = (line ≡ codes "buf") × AreCallLines calls (lines text)

-- the replies are right for these calls on a new buffer, and none says that memory was refused
pub record AreRequestedReplies (calls : List (Call (List ℕ))) (replies : List Reply) : Type 0 where
  pub left : HeldSegments
  pub run : IsRunOfCalls IsCallOnBytes calls nothing_held replies left
  pub whole : All (λ reply. reply_lacks_memory reply ≡ false) replies

-- The replies that are given for these calls on a new buffer, and why if there are more. `all` are right replies, one for
-- each call. If memory was refused for one of them, those before the first such reply are given; otherwise all are.
pub record AreFirstRequestedReplies (calls : List (Call (List ℕ))) (given : List Reply) (refused : Option Reason) : Type 0 where
  pub all : List Reply
  pub left : HeldSegments
  pub run : IsRunOfCalls IsCallOnBytes calls nothing_held all left
  pub first : MatchOption (position reply_lacks_memory all) ((given ≡ all) × (refused ≡ None)) (λ count. (given ≡ take count all) × (refused ≡ Some OutOfMemory))

-- these entries, parts or replies as they are printed, are right for this request on this text
abbrev pub AreEntries : Request → List ℕ → List (List ℕ) → Type 0
AreEntries (ForParts way) text entries = (parts : List (List ℕ)) × ArePartsBy way text parts × (entries ≡ map printed_part parts)
AreEntries (ForReplies calls) text entries = (replies : List Reply) × AreRequestedReplies calls replies × (entries ≡ map printed_reply replies)

-- the line asks for something, and these entries are right for it
pub record AreRequested (line text : List ℕ) (entries : List (List ℕ)) : Type 0 where
  pub request : Request
  pub is : IsRequest request line text
  pub right : AreEntries request text entries
