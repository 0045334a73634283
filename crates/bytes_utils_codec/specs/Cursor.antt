-- Reading on in held bytes, which stay held.
use Rattle.std.specs.Prelude.{◌≡◌, ◌≢◌, ℕ, ◌+◌, ◌<◌, ◌≤◌, List, [], ◌∷◌, ◌++◌, length, take, drop, Option, Result, IfOk, IfSome, IfNone, OnErr}
use Rattle.std.specs.List.{concat}
use Rattle.bytes_utils_buf.specs.Segments.{HeldSegments, IsInOneSegment, SkipsSegments, newly_held, take_from_segments}
use Rattle.bytes_utils.specs.Occurrence.{OccursFirstAt}
use Rattle.bytes_utils_codec.specs.Frames.{TakesFrame}
use Rattle.bytes_utils_codec.specs.StreamLines.{TakesStreamLine}

-- what clauses see of a `Cursor`: the segments of the buffer, and the number of bytes that were passed
pub record CursorReading : Type 0 where
  pub segments : List (List ℕ)
  pub at : ℕ

-- the bytes that were not passed
abbrev pub unread : CursorReading → List ℕ
unread reading = drop reading.at (concat reading.segments)

-- n more bytes are passed
abbrev pub passed_on : ℕ → CursorReading → CursorReading
passed_on n reading = record { segments = reading.segments; at = reading.at + n }

-- these are the next bytes, this number of them, in the segments that have them
pub record AreNextSegments (len : ℕ) (reading : CursorReading) (part : HeldSegments) : Type 0 where
  pub rest : List (List ℕ)
  pub skips : SkipsSegments reading.at reading.segments rest
  pub are : part ≡ newly_held (take_from_segments len rest)

-- one segment has all of the next n bytes
abbrev pub AreInOneSegment : ℕ → CursorReading → Type 0
AreInOneSegment n reading = IsInOneSegment reading.at (reading.at + n) reading.segments

-- the old bytes are a front of this length, and the rest
pub record CursorTakesFirst (len : ℕ) (old front rest : List ℕ) : Type 0 where
  pub bytes : old ≡ front ++ rest
  pub size : length front ≡ len

-- the old bytes are a front and the rest, which begins with the needle; it occurs nowhere before that
pub record CursorTakesUpTo (needle old front rest : List ℕ) : Type 0 where
  pub bytes : old ≡ front ++ rest
  pub first : OccursFirstAt needle old (length front)

-- the bytes are a beginning of the wanted ones, of which some are missing
abbrev pub IsBegunAtCursor : List ℕ → List ℕ → Type 0
IsBegunAtCursor wanted bytes = (missing : List ℕ) × (wanted ≡ bytes ++ missing) × (0 < length missing)

-- whatever comes after the bytes, they don't begin with the wanted ones
abbrev pub NeverBeginsAtCursor : List ℕ → List ℕ → Type 0
NeverBeginsAtCursor wanted bytes = (more rest : List ℕ) → bytes ++ more ≢ wanted ++ rest

-- as many bytes have come as the limit and the needle have, and whatever comes after them, more than the limit are before the first needle
abbrev pub CursorHasNoFrameWithin : ℕ → List ℕ → List ℕ → Type 0
CursorHasNoFrameWithin most needle bytes = (most + length needle ≤ length bytes)
    × ((more front rest : List ℕ) → TakesFrame needle (bytes ++ more) front rest → most < length front)

-- what a call that reads a part returns: the part, and then the cursor is after it; none, if the bytes lack it, or an error, and then the cursor stays
pub record CursorReadsPart {A E : Type 0} (IsPart : A → List ℕ → List ℕ → Type 0) (Lack : List ℕ → Type 0) (old new : CursorReading) (result : Result (Option A) E) : Type 0 where
  pub bytes : IfOk result (λ next. IfSome next (λ part. IsPart part (unread old) (unread new)))
  pub waits : IfOk result (λ next. IfNone next ((new ≡ old) × Lack (unread old)))
  pub segments : new.segments ≡ old.segments
  pub err : OnErr result (new ≡ old)

-- what a call that reads the value of the next bytes returns: it, and then the cursor is after them; none, if fewer are unread, and then it stays
pub record CursorReadsValue {A : Type 0} (len : ℕ) (value_of : List ℕ → A) (old new : CursorReading) (result : Option A) : Type 0 where
  pub value : IfSome result (λ value. value ≡ value_of (take len (unread old)))
  pub bytes : IfSome result (λ _. CursorTakesFirst len (unread old) (take len (unread old)) (unread new))
  pub waits : IfNone result ((new ≡ old) × (length (unread old) < len))
  pub segments : new.segments ≡ old.segments

-- what a caller asks a cursor for
pub data CursorWanted : Type 0 where
  Tag : List ℕ → CursorWanted
  First : ℕ → CursorWanted
  Until : List ℕ → CursorWanted
  UpTo : List ℕ → CursorWanted
  Line : CursorWanted

-- the bytes that a cursor returns for what is wanted, by the unread bytes before the call and those after it
abbrev pub CursorReads : CursorWanted → List ℕ → List ℕ → List ℕ → Type 0
CursorReads (Tag bytes) old item rest = (item ≡ bytes) × (old ≡ bytes ++ rest)
CursorReads (First len) old item rest = CursorTakesFirst len old item rest
CursorReads (Until needle) old item rest = TakesFrame needle old item rest
CursorReads (UpTo needle) old item rest = CursorTakesUpTo needle old item rest
CursorReads Line old item rest = TakesStreamLine old item rest

-- one after another, what is wanted is read off the bytes, and the rest is left
abbrev pub AreReadByCursor : List CursorWanted → List ℕ → List (List ℕ) → List ℕ → Type 0
AreReadByCursor [] bytes [] rest = bytes ≡ rest
AreReadByCursor [] bytes (item ∷ items) rest = ⊥
AreReadByCursor (wanted ∷ others) bytes [] rest = ⊥
AreReadByCursor (wanted ∷ others) bytes (item ∷ items) rest = (left : List ℕ) × CursorReads wanted bytes item left × AreReadByCursor others left items rest

-- the same bytes, however they are cut into segments, give the same items, with the same bytes after them
abbrev pub SameCursorLaw : Type 0
SameCursorLaw = (wanted : List CursorWanted) (bytes : List ℕ) (xs ys : List (List ℕ)) (x y : List ℕ) → AreReadByCursor wanted bytes xs x → AreReadByCursor wanted bytes ys y
    → (xs ≡ ys) × (x ≡ y)

-- what was read stays read when more bytes come
abbrev pub CursorStaysLaw : Type 0
CursorStaysLaw = (wanted : List CursorWanted) (bytes : List ℕ) (items : List (List ℕ)) (rest more : List ℕ) → AreReadByCursor wanted bytes items rest
    → AreReadByCursor wanted (bytes ++ more) items (rest ++ more)

-- what is a wrong beginning stays one when more bytes come
abbrev pub CursorStaysWrongLaw : Type 0
CursorStaysWrongLaw = (wanted bytes more : List ℕ) → NeverBeginsAtCursor wanted bytes → NeverBeginsAtCursor wanted (bytes ++ more)

-- bytes that don't begin with the wanted ones and may yet are no wrong beginning, and no wrong beginning is read
abbrev pub OneCursorReplyLaw : Type 0
OneCursorReplyLaw = (wanted bytes : List ℕ) → NeverBeginsAtCursor wanted bytes → (¬ IsBegunAtCursor wanted bytes) × ((item rest : List ℕ) → ¬ CursorReads (Tag wanted) bytes item rest)
