-- A search that goes on where it stopped.
use Rattle.std.specs.Prelude.{ℕ, ◌-◌, ◌≤◌, max, List, ◌++◌, length}
use Rattle.bytes_utils.specs.Occurrence.{OccursAt}

-- what clauses see of a `Search`: the needle, and the place from which it is searched for
pub record Searching : Type 0 where
  pub needle : List ℕ
  pub searched : ℕ

-- a search that has looked at no byte, as a new one
abbrev pub searching : List ℕ → Searching
searching needle = record { needle = needle; searched = 0 }

-- the same search, from the front
abbrev pub search_from_front : Searching → Searching
search_from_front s = record s { searched = 0 }

-- All these bytes were looked at: only those will be looked at again in which the needle may begin, fewer than it has.
abbrev pub searched_all : Searching → List ℕ → Searching
searched_all s bytes = record s { searched = max s.searched (length bytes - (length s.needle - 1)) }

-- whatever comes after the bytes, the needle begins at no place before this one
abbrev pub NoneBeginsInSearch : List ℕ → List ℕ → ℕ → Type 0
NoneBeginsInSearch needle bytes place = (more : List ℕ) (k : ℕ) → OccursAt needle (bytes ++ more) k → place ≤ k
