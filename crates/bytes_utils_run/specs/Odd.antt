-- What clauses see of the odd buffers and storages.
use Rattle.std.specs.Prelude.{ℕ, zero, suc, List, [], ◌∷◌, take, drop}

-- a storage of these bytes, and the number of splits that it grants
pub record OddStorage : Type 0 where
  pub stored : List ℕ
  pub granted : ℕ

-- the first `count` pieces of these bytes, one after another, each of `size` bytes or of what is left
abbrev pub odd_pieces : (size count : ℕ) → List ℕ → List (List ℕ)
odd_pieces size zero bytes = []
odd_pieces size (suc count) bytes = take size bytes ∷ odd_pieces size count (drop size bytes)
