-- Many buffers as one. Their unread lists, front first, are a list of byte lists, and the bytes to read are these joined.
use Rattle.std.specs.Prelude.{◌≡◌, ℕ, zero, suc, ◌+◌, ◌-◌, ◌<◌, ◌≤◌, List, [], ◌∷◌, ◌++◌, length, take, drop, get_or, All}
use Rattle.std.specs.List.{concat}
use Rattle.bytes_utils_buf.specs.Tally.{Tallied, cost_of, lined_up, nothing_counted, pay_of}

-- what clauses see of a `SegmentedBuf`: the unread lists of the segments that it holds, and its tally
pub record HeldSegments : Type 0 where
  pub segments : List (List ℕ)
  pub tally : Tallied

-- no list is empty
abbrev pub NoSegmentEmpty : List (List ℕ) → Type 0
NoSegmentEmpty = All (λ s. 0 < length s)

-- the lists without the empty ones
abbrev pub unread_segments : List (List ℕ) → List (List ℕ)
unread_segments [] = []
unread_segments ([] ∷ segments) = unread_segments segments
unread_segments ((b ∷ s) ∷ segments) = (b ∷ s) ∷ unread_segments segments

-- how many lists have bytes to read
abbrev pub count_unread_segments : List (List ℕ) → ℕ
count_unread_segments segments = length (unread_segments segments)

-- the first list, or no bytes if there is none
abbrev pub front_segment : List (List ℕ) → List ℕ
front_segment [] = []
front_segment (s ∷ segments) = s

-- there is no list, or the first one is not empty
abbrev pub FrontSegmentUnread : List (List ℕ) → Type 0
FrontSegmentUnread segments = 0 < length segments → 0 < length (front_segment segments)

-- the first list loses its first n bytes
abbrev pub cut_front_segment : ℕ → List (List ℕ) → List (List ℕ)
cut_front_segment n [] = []
cut_front_segment n (s ∷ segments) = drop n s ∷ segments

-- the list at place k loses its first n bytes
abbrev pub cut_segment_at : ℕ → ℕ → List (List ℕ) → List (List ℕ)
cut_segment_at k n [] = []
cut_segment_at zero n (s ∷ segments) = drop n s ∷ segments
cut_segment_at (suc k) n (s ∷ segments) = s ∷ cut_segment_at k n segments

-- n bytes are skipped: some lists are removed from the front, the next one loses its first bytes, the bytes to read lose their first n, and the first
-- list is not empty
pub record SkipsSegments (n : ℕ) (old new : List (List ℕ)) : Type 0 where
  pub passed : ℕ
  pub cut : ℕ
  pub within : passed ≤ length old
  pub rest : new ≡ cut_front_segment cut (drop passed old)
  pub bytes : concat new ≡ drop n (concat old)
  pub front : FrontSegmentUnread new

-- the lists from a place on: without the passed ones, and without the first bytes of the next one
abbrev pub segments_from : ℕ → ℕ → List (List ℕ) → List (List ℕ)
segments_from passed offset segments = cut_front_segment offset (drop passed segments)

-- the byte at this place of the joined bytes is in the list at `index`, after `offset` bytes of it; if there is none, the index is after all lists
pub record IsPlace (place index offset : ℕ) (segments : List (List ℕ)) : Type 0 where
  pub within : index ≤ length segments
  pub before : length (concat (take index segments)) + offset ≡ place
  pub inside : index < length segments → offset < length (get_or segments index [])

-- one list has all bytes of this range of the joined bytes: the list that comes after `before` others
pub record IsInOneSegment (start end : ℕ) (segments : List (List ℕ)) : Type 0 where
  pub before : ℕ
  pub from : length (concat (take before segments)) ≤ start
  pub to : end ≤ length (concat (take (before + 1) segments))

-- the place is inside that list, or after all of them
abbrev pub IsInsideSegment : ℕ → ℕ → List (List ℕ) → Type 0
IsInsideSegment passed offset segments = offset ≤ length (get_or segments passed [])

-- a value after a counted call that accepts buffers with these unread lists, in order: empty ones are given too, but dropped and not held
abbrev pub after_accepting : HeldSegments → List (List ℕ) → HeldSegments
after_accepting held lists =
    record {
      segments = held.segments ++ unread_segments lists;
      tally = record {
        given = held.tally.given + length lists;
        dropped = held.tally.dropped + (length lists - count_unread_segments lists);
        calls = held.tally.calls + 1;
        turns = held.tally.turns;
      };
    }

-- what calls that are given no segment add to the tally: each segment that they removed from the front was passed by one turn
pub record CountsPass (counted : ℕ) (old new : HeldSegments) : Type 0 where
  pub turns : lined_up new.segments new.tally ≡ lined_up old.segments old.tally
  pub given : new.tally.given ≡ old.tally.given
  pub dropped : new.tally.dropped ≡ old.tally.dropped
  pub calls : new.tally.calls ≡ old.tally.calls + counted

-- a call that leads from old to new adds at most as much cost as pay, so it pays for itself
abbrev pub IsPaid : HeldSegments → HeldSegments → Type 0
IsPaid old new = cost_of new.segments new.tally + pay_of old.tally ≤ cost_of old.segments old.tally + pay_of new.tally

-- the first n bytes of these lists: whole lists, and the first bytes of the last one
abbrev pub take_from_segments : ℕ → List (List ℕ) → List (List ℕ)
take_from_segments zero segments = []
take_from_segments (suc n) [] = []
take_from_segments (suc n) (s ∷ segments) = take (suc n) s ∷ take_from_segments (suc n - length s) segments

-- a value that holds these lists, none of which is empty, with a tally of its own
abbrev pub newly_held : List (List ℕ) → HeldSegments
newly_held lists = record { segments = lists; tally = record { given = length lists; dropped = 0; calls = 0; turns = 0 } }

-- a new value, which holds nothing
abbrev pub nothing_held : HeldSegments
nothing_held = record { segments = []; tally = nothing_counted }
