-- The search for a separator that a splitter keeps: what it searches for, and from which end.
use Rattle.std.specs.Prelude.{ℕ, List}
use Rattle.bytes_utils.specs.declared.split.direction.Direction.{Direction}
use Rattle.bytes_utils.specs.declared.split.direction.Direction.TheVariants.{Forward, Backward}
use Rattle.bytes_utils.specs.declared.split.search.SeparatorSearch.{SeparatorSearch}
use Rattle.bytes_utils.specs.declared.split.search.SeparatorSearch.TheVariants.{First, FirstLong, Last, LastLong}

-- the bytes that the search looks for
abbrev pub needle_of : SeparatorSearch → List ℕ
needle_of (First finder) = finder
needle_of (FirstLong finder) = finder
needle_of (Last finder) = finder
needle_of (LastLong finder) = finder

-- the end at which the search begins
abbrev pub end_of : SeparatorSearch → Direction
end_of (First _) = Forward
end_of (FirstLong _) = Forward
end_of (Last _) = Backward
end_of (LastLong _) = Backward
