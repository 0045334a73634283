-- What a copy of bytes takes, and what one out of many buffers adds to the tally.
use Rattle.std.specs.Prelude.{◌≡◌, ℕ, ◌+◌, ◌<◌, ◌≤◌, length, Result, Ok, Err, ◌⊎◌}
use Rattle.bytes_utils_buf.specs.Segments.{HeldSegments, count_unread_segments, front_segment}
use Rattle.bytes_utils_buf.specs.Tally.{lined_up}
use Rattle.bytes_utils_buf.specs.declared.parts.CopyRefused.{CopyRefused}

-- how many bytes a copy of len bytes took: all of them, or as many as its error reports
abbrev pub taken_by_copy : {T : Type 0} → ℕ → Result T CopyRefused → ℕ
taken_by_copy len (Ok copy) = len
taken_by_copy len (Err refused) = refused.taken

-- A refused copy of len of `held` bytes, which are those of many lists, may have taken `taken`: as many as the first list may lose, if that has len bytes,
-- or none or all.
abbrev pub LosesAcross : (ℕ → ℕ → ℕ → Type 0) → ℕ → ℕ → ℕ → Type 0
LosesAcross loses held len taken = ((front : ℕ) × (len ≤ front) × (front ≤ held) × loses front len taken) ⊎ (taken ≡ 0) ⊎ (taken ≡ len)

-- A copy was asked for len bytes and took `taken` of them. It counts as one call, and as one more for each of its advances. A chunk may be shorter
-- than its list, so the number of advances is only known to lie between the bounds below.
pub record CountsCopy (len taken : ℕ) (old new : HeldSegments) : Type 0 where
  pub given : new.tally.given ≡ old.tally.given
  pub dropped : new.tally.dropped ≡ old.tally.dropped
  pub least : old.tally.calls + 1 ≤ new.tally.calls
  -- each advance took at least one byte
  pub most : new.tally.calls ≤ old.tally.calls + 1 + taken
  -- there is no advance if the first list alone has the bytes
  pub alone : len ≤ length (front_segment old.segments) → new.tally.calls ≡ old.tally.calls + 1
  -- otherwise there is at least one for each list that lost its last byte
  pub across : length (front_segment old.segments) < len → old.tally.calls + 1 + count_unread_segments old.segments ≤ new.tally.calls + count_unread_segments new.segments
  -- each removed list was passed by one turn
  pub turns : lined_up new.segments new.tally ≡ lined_up old.segments old.tally
