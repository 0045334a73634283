-- What calls leave of a table of slices.
use Rattle.std.specs.Prelude.{◌≡◌, ℕ, ◌<◌, ◌≤◌, List, ◌++◌, length, map, take, drop, All}
use Rattle.std.specs.List.{concat}
use Rattle.std.specs.Borrow.{Bor}

-- the bytes of these slices, joined
abbrev pub joined_slices : List (Bor (List ℕ)) → List ℕ
joined_slices slices = concat (map (λ s. s.now) slices)

-- the first n places of the table hold slices of the unread bytes, and the other places are unchanged
pub record FillsSlices (n : ℕ) (old new : List (Bor (List ℕ))) (unread : List ℕ) : Type 0 where
  -- the table has at least n places
  pub count : n ≤ length old
  -- no slice is empty
  pub some : All (λ s. 0 < length s.now) (take n new)
  -- joined, they are the first of the unread bytes
  pub front : joined_slices (take n new) ++ drop (length (joined_slices (take n new))) unread ≡ unread
  -- they are all of the unread bytes, unless the table is full
  pub whole : n < length old → joined_slices (take n new) ≡ unread
  pub tail : drop n new ≡ drop n old
