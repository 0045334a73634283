-- The words of a text, as Rust's `str::split_whitespace` and `str::split_ascii_whitespace` give them: the maximal runs
-- of one or more characters that aren't white space.
use Rattle.std.specs.Prelude.{◌≡◌, ◌≢◌, ℕ, ◌<◌, Bool, true, List, [], ◌∷◌, ◌++◌, length, get_or, Option, MatchOption, IsSomeAnd, IsTrue, if◌then◌else◌}
use Rattle.std.specs.Str.{chars}
use Rattle.bytes_utils.specs.Lines.{first_led_by}

-- nothing follows, or white space does
abbrev pub ends_word : (ℕ → Bool) → List ℕ → Bool
ends_word is_space [] = true
ends_word is_space (c ∷ t) = is_space c

-- `is_space` says which characters are white space: std's `is_whitespace`, those with Unicode's property White_Space,
-- or its `is_ascii_whitespace`, which are U+0009, U+000A, U+000C, U+000D and U+0020.
abbrev pub words : (ℕ → Bool) → List ℕ → List (List ℕ)
words is_space [] = []
words is_space (c ∷ t) =
    if is_space c then words is_space t
    else if ends_word is_space t then (c ∷ []) ∷ words is_space t
    else first_led_by c (words is_space t)

-- The state of a splitter by words is what is still to be split, if anything. These words are to come.
abbrev pub AreWordsToCome : (ℕ → Bool) → Option (List ℕ) → List (List ℕ) → Type 0
AreWordsToCome is_space rest parts = MatchOption rest (parts ≡ []) (λ text. parts ≡ words is_space (chars text))

-- what is left holds white space; without any, no step splits the storage
abbrev pub HoldsSpaceBetweenWords : (ℕ → Bool) → Option (List ℕ) → Type 0
HoldsSpaceBetweenWords is_space rest = IsSomeAnd rest (λ text. (i : ℕ) × (i < length (chars text)) × IsTrue (is_space (get_or (chars text) i 0)))

-- white space comes after a word
abbrev pub HoldsSpaceAfterWord : (ℕ → Bool) → List ℕ → Type 0
HoldsSpaceAfterWord is_space t = (before : List ℕ) × (c : ℕ) × (following : List ℕ) × (before ++ c ∷ following ≡ t) × IsTrue (is_space c) × (words is_space before ≢ [])

-- the reasons for which the next step may be refused: those of a cut, and only those of one side alone if no white space
-- comes after a word, since the step then makes no split
abbrev pub RefusesWord : {E : Type 0} → (E → Type 0) → (E → Type 0) → (ℕ → Bool) → Option (List ℕ) → E → Type 0
RefusesWord refuses refuses_side is_space rest reason = HoldsSpaceBetweenWords is_space rest × refuses reason
    × (IsSomeAnd rest (λ text. ¬ HoldsSpaceAfterWord is_space (chars text)) → refuses_side reason)
