-- The parts of a text by the empty separator.
use Rattle.std.specs.Prelude.{ℕ, zero, suc, List, [], ◌∷◌, ◌++◌, length, map, take, drop, reverse, Option, None, Some, if◌then◌else◌, nat_lt}

-- each element as a part, and an empty part
abbrev pub each_by_empty_separator : {X : Type 0} → List X → List (List X)
each_by_empty_separator t = map (λ x. x ∷ []) t ++ ([] ∷ [])

-- The parts by the empty separator from the front, as Rust's `"ab".split("")` gives them: an empty part, each element as
-- a part, and an empty part. A limit of 0 gives no part, and a limit of 1 gives t whole. A limit `most + 2` that is less
-- than their number leaves the empty part and the first `most` elements, and then what is left of t.
abbrev pub by_empty_separator : {X : Type 0} → List X → Option ℕ → List (List X)
by_empty_separator t None = [] ∷ each_by_empty_separator t
by_empty_separator t (Some zero) = []
by_empty_separator t (Some (suc zero)) = t ∷ []
by_empty_separator t (Some (suc (suc most))) = [] ∷ (if nat_lt most (length t) then take most (each_by_empty_separator t) ++ (drop most t ∷ []) else each_by_empty_separator t)

-- the parts by the empty separator from the back: the mirror
abbrev pub by_empty_separator_backward : {X : Type 0} → List X → Option ℕ → List (List X)
by_empty_separator_backward t limit = map reverse (by_empty_separator (reverse t) limit)
