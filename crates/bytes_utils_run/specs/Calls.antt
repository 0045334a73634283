-- Lists of calls on a buffer, and the replies to them. The lists of bytes below are the unread bytes of each segment of
-- a `SegmentedBuf`, first segment first. For `read_calls` every buffer, segmented or not, is one list, or none if it is
-- empty.
use Rattle.std.specs.Prelude.{⊤, ◌≡◌, ◌⊎◌, ℕ, ◌+◌, ◌^◌, ◌<◌, ◌≤◌, List, [], ◌∷◌, Option, None, Some, Bool, true, false, length, map, take}
use Rattle.std.specs.List.{concat}
use Rattle.bytes.specs.Unread.{IsChunkOf}
use Rattle.bytes_utils_buf.specs.Copies.{CountsCopy}
use Rattle.bytes_utils_buf.specs.Segments.{CountsPass, HeldSegments, NoSegmentEmpty, SkipsSegments, after_accepting, front_segment, unread_segments}
use Rattle.bytes_utils_run.specs.declared.calls.call.Call.{Call}
use Rattle.bytes_utils_run.specs.declared.calls.call.Call.TheVariants.{Push, Segments, Read}
use Rattle.bytes_utils_run.specs.declared.calls.call.ReadCall.{ReadCall}
use Rattle.bytes_utils_run.specs.declared.calls.call.ReadCall.TheVariants.{Remaining, Chunk, Advance, CopyOut, Chunks}
use Rattle.bytes_utils_run.specs.declared.calls.call.Reply.{Reply}
use Rattle.bytes_utils_run.specs.declared.calls.call.Reply.TheVariants.{Done, PastEnd, TooLong, NoMemory, CopyStopped, Number, Piece, Shown, Slices}

-- the unread bytes of a buffer as one list, or none if there are no bytes
abbrev pub lists_for_calls : List ℕ → List (List ℕ)
lists_for_calls unread = unread_segments (unread ∷ [])

-- at most n slices of the unread bytes: none is empty, and joined they are the first of these bytes, or all of them if
-- there are fewer than n slices
pub record AreCallSlices (n : ℕ) (slices : List (List ℕ)) (unread : List ℕ) : Type 0 where
  pub count : length slices ≤ n
  pub some : NoSegmentEmpty slices
  pub front : concat slices ≡ take (length (concat slices)) unread
  pub whole : length slices < n → concat slices ≡ unread

-- the reply to a read of these unread bytes; memory is refused only for some bytes, or for places for them
abbrev pub IsReply : ReadCall → List ℕ → Reply → Type 0
IsReply Remaining unread (Number n) = n ≡ length unread
IsReply Chunk unread (Shown chunk) = IsChunkOf chunk.items unread
IsReply Chunk unread NoMemory = 0 < length unread
IsReply (Advance n) unread Done = n ≤ length unread
IsReply (Advance n) unread PastEnd = length unread < n
IsReply (CopyOut n) unread (Piece piece) = (n ≤ length unread) × (piece ≡ take n unread)
IsReply (CopyOut n) unread (CopyStopped taken) = (0 < n) × (n ≤ length unread) × (taken ≤ n)
IsReply (CopyOut n) unread PastEnd = length unread < n
IsReply (Chunks n) unread (Slices slices) = AreCallSlices n (map (λ s. s.items) slices.items) unread
IsReply (Chunks n) unread NoMemory = (0 < n) × (0 < length unread)
IsReply call unread reply = ⊥

-- how many bytes a read with this reply skipped, or `None` if it left the buffer as it was
abbrev pub skipped_by_read : ReadCall → Reply → Option ℕ
skipped_by_read (Advance n) Done = Some n
skipped_by_read (CopyOut n) (Piece piece) = Some n
skipped_by_read (CopyOut n) (CopyStopped taken) = Some taken
skipped_by_read call reply = None

-- n bytes are skipped, or nothing changes
abbrev pub CallSkipsOrKeeps : Option ℕ → List (List ℕ) → List (List ℕ) → Type 0
CallSkipsOrKeeps (Some n) old new = SkipsSegments n old new
CallSkipsOrKeeps None old new = new ≡ old

-- a refused copy took as many bytes as `loses` allows
abbrev pub LosesByRead : (ℕ → ℕ → Type 0) → ReadCall → Reply → Type 0
LosesByRead loses (CopyOut n) (CopyStopped taken) = loses n taken
LosesByRead loses call reply = ⊤

-- The reply to a read of these lists, and the lists after it. `loses lists n taken` says whether a refused copy of n bytes out of the lists may have
-- taken `taken`.
abbrev pub IsRead : (List (List ℕ) → ℕ → ℕ → Type 0) → ReadCall → List (List ℕ) → Reply → List (List ℕ) → Type 0
IsRead loses call old reply new = IsReply call (concat old) reply × LosesByRead (loses old) call reply × CallSkipsOrKeeps (skipped_by_read call reply) old new

-- what a refused copy may have taken out of lists that are one buffer: `loses` is the buffer's own law
abbrev pub LosesOfBuffer : (ℕ → ℕ → ℕ → Type 0) → List (List ℕ) → ℕ → ℕ → Type 0
LosesOfBuffer loses lists n taken = loses (length (concat lists)) n taken

-- the same of lists each of which is a buffer with that law: if the first one has n bytes, as many as its law allows; otherwise none or all
abbrev pub LosesOfSegments : (ℕ → ℕ → ℕ → Type 0) → List (List ℕ) → ℕ → ℕ → Type 0
LosesOfSegments loses lists n taken = (n ≤ length (front_segment lists) → loses (length (front_segment lists)) n taken)
    × (length (front_segment lists) < n → (taken ≡ 0) ⊎ (taken ≡ n))

-- What a read adds to the tally. An advance that was done counts as a call, with one turn for each segment that it
-- passed. A copy that was made or stopped counts as `CountsCopy` says. Nothing else counts.
abbrev pub CountsRead : ReadCall → HeldSegments → Reply → HeldSegments → Type 0
CountsRead (Advance n) old Done new = CountsPass 1 old new
CountsRead (CopyOut n) old (Piece piece) new = CountsCopy n n old new
CountsRead (CopyOut n) old (CopyStopped taken) new = CountsCopy n taken old new
CountsRead call old reply new = new.tally ≡ old.tally

-- the reply to a call on a `SegmentedBuf`, and the buffer after it
abbrev pub IsCall : {B : Type 0} → (B → List ℕ) → (ℕ → ℕ → ℕ → Type 0) → Call B → HeldSegments → Reply → HeldSegments → Type 0
IsCall unread loses (Push buf) old Done new =
    (length (concat old.segments) + length (unread buf) < 2 ^ 64) × (new ≡ after_accepting old (unread buf ∷ []))
IsCall unread loses (Push buf) old TooLong new = (2 ^ 64 ≤ length (concat old.segments) + length (unread buf)) × (new ≡ old)
IsCall unread loses (Push buf) old NoMemory new =
    (length (concat old.segments) + length (unread buf) < 2 ^ 64) × (0 < length (unread buf)) × (new ≡ old)
IsCall unread loses Segments old (Number n) new = (n ≡ length old.segments) × (new ≡ old)
IsCall unread loses (Read call) old reply new = IsRead (LosesOfSegments loses) call old.segments reply new.segments × CountsRead call old reply new
IsCall unread loses call old reply new = ⊥

-- the same of buffers that are `Bytes`: a refused copy out of one takes none of its bytes, and wasn't of all of them
abbrev pub IsCallOnBytes : Call (List ℕ) → HeldSegments → Reply → HeldSegments → Type 0
IsCallOnBytes call old reply new = IsCall (λ bytes. bytes) (λ held n taken. (taken ≡ 0) × (n < held)) call old reply new

-- a run of calls, one after another, each with its reply, from the first state to the last
abbrev pub IsRunOfCalls : {C S : Type 0} → (C → S → Reply → S → Type 0) → List C → S → List Reply → S → Type 0
IsRunOfCalls Is [] old [] new = new ≡ old
IsRunOfCalls {C} {S} Is (call ∷ calls) old (reply ∷ replies) new = (next : S) × Is call old reply next × IsRunOfCalls Is calls next replies new
IsRunOfCalls Is calls old replies new = ⊥

-- the reply says that memory was refused
abbrev pub reply_lacks_memory : Reply → Bool
reply_lacks_memory NoMemory = true
reply_lacks_memory (CopyStopped taken) = true
reply_lacks_memory reply = false
