-- Borrowed buffers as one. Those before the reading place are passed, and those from it on are the segments to read.
use Rattle.std.specs.Prelude.{◌≡◌, ℕ, ◌+◌, List, [], ◌++◌, length, drop, replicate}
use Rattle.std.specs.List.{concat}
use Rattle.bytes_utils_buf.specs.Segments.{HeldSegments, SkipsSegments}
use Rattle.bytes_utils_buf.specs.Tally.{Tallied, lined_up}

-- what clauses see of a `SegmentedSlice`
pub record Lent : Type 0 where
  -- the unread lists of the borrowed buffers before any read
  pub handed_in : List (List ℕ)
  -- the reading place: the number of passed buffers
  pub place : ℕ
  -- the unread lists of the buffers from the reading place on
  pub segments : List (List ℕ)
  pub tally : Tallied
  -- the name of the borrow
  pub name : ℕ

-- the unread lists of all borrowed buffers: the passed ones are empty
abbrev pub lists_of : Lent → List (List ℕ)
lists_of lent = replicate lent.place [] ++ lent.segments

-- held segments as borrowed buffers: those passed count as empty
abbrev pub as_lent : HeldSegments → Lent
as_lent held = record { handed_in = []; place = held.tally.turns; segments = held.segments; tally = held.tally; name = 0 }

-- borrowed buffers as held segments: those to read
abbrev pub held_of : Lent → HeldSegments
held_of lent = record { segments = lent.segments; tally = lent.tally }

-- `read` bytes were read: they are skipped in what was handed in, and the buffers removed from the front are passed
pub record IsLentReading (lent : Lent) : Type 0 where
  pub read : ℕ
  pub skips : SkipsSegments read lent.handed_in lent.segments
  pub place : lent.place + length lent.segments ≡ length lent.handed_in

-- n bytes are skipped: the buffers removed from the front of the segments are now passed
pub record SkipsLent (n : ℕ) (old new : Lent) : Type 0 where
  pub segments : SkipsSegments n old.segments new.segments
  pub place : new.place + length new.segments ≡ old.place + length old.segments
  pub handed_in : new.handed_in ≡ old.handed_in
  pub name : new.name ≡ old.name

-- n bytes are skipped by calls that are given no segment: each buffer removed from the front was passed by one turn
pub record Passes (n : ℕ) (old new : Lent) : Type 0 where
  pub skips : SkipsLent n old new
  pub given : new.tally.given ≡ old.tally.given
  pub dropped : new.tally.dropped ≡ old.tally.dropped
  pub turns : lined_up new.segments new.tally ≡ lined_up old.segments old.tally

-- all borrowed buffers were given, none was dropped, and each passed one was passed by one turn
pub record IsPassedOnce (lent : Lent) : Type 0 where
  pub given : lent.tally.given ≡ length lent.handed_in
  pub dropped : lent.tally.dropped ≡ 0
  pub turns : lent.tally.turns ≡ lent.place

-- borrowed buffers whose unread lists are `now`, read from a place on
abbrev pub lent_at : ℕ → List (List ℕ) → List (List ℕ) → Tallied → ℕ → Lent
lent_at place handed_in now tally name =
    record { handed_in = handed_in; place = place; segments = drop place now; tally = tally; name = name }

-- what is true of every `SegmentedSlice` whose borrowed buffers have the unread lists `now`
pub record IsLent (now : List (List ℕ)) (remaining : ℕ) (lent : Lent) : Type 0 where
  pub lists : now ≡ lists_of lent
  pub sum : remaining ≡ length (concat lent.segments)
  pub reading : IsLentReading lent
  pub passed : IsPassedOnce lent
