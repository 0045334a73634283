-- A second definition of the words of a text: where they are in it, and what is between them.
use Rattle.std.specs.Prelude.{◌≡◌, ◌↔◌, ℕ, ◌<◌, Bool, true, List, [], ◌∷◌, ◌++◌, length}
use Rattle.std.specs.List.{AllPass}
use Rattle.std.specs.Str.{NonePass}
use Rattle.bytes_utils.specs.Words.{words, ends_word}

-- These are the maximal runs of characters of t that aren't white space, in order. Before each run is white space or nothing. A run is not
-- empty and holds no white space. After it is white space or the end of t. After the last run is white space or nothing.
abbrev pub AreWordRuns : (ℕ → Bool) → List ℕ → List (List ℕ) → Type 0
AreWordRuns is_space t [] = AllPass is_space t
AreWordRuns is_space t (run ∷ runs) = (gap : List ℕ) × (rest : List ℕ) × (t ≡ gap ++ (run ++ rest)) × AllPass is_space gap
    × (0 < length run) × NonePass is_space run × (ends_word is_space rest ≡ true) × AreWordRuns is_space rest runs

-- the words of a text are its maximal runs, and no other list is
abbrev pub WordRunsLaw : Type 0
WordRunsLaw = (is_space : ℕ → Bool) (t : List ℕ) (parts : List (List ℕ)) → (parts ≡ words is_space t) ↔ AreWordRuns is_space t parts
