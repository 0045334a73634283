-- The lines of a text, as Rust's `str::lines` gives them. A line ends at each line feed, without one carriage return
-- directly before it. A last line without a line feed counts if it isn't empty. std has a `lines` too, on bytes,
-- defined by the parts between line feeds; this one is on characters, defined one character at a time.
use Rattle.std.specs.Prelude.{◌≡◌, ◌≢◌, ◌⊎◌, ℕ, List, [], ◌∷◌, ◌++◌, ◌==◌, ◌&&◌, if◌then◌else◌, nat_eq, Option, MatchOption, IsSomeAnd}
use Rattle.std.specs.List.{starts_with}
use Rattle.std.specs.Str.{chars}
use Rattle.bytes_utils.specs.Ends.{RefusesCut}
use Rattle.bytes_utils.specs.Occurrence.{Occurs}

-- the codes of a line feed and a carriage return
abbrev pub line_feed : ℕ
line_feed = 10

abbrev pub carriage_return : ℕ
carriage_return = 13

-- c added at the front of the first of these lines, or as a line of its own if there is none
abbrev pub first_led_by : ℕ → List (List ℕ) → List (List ℕ)
first_led_by c [] = (c ∷ []) ∷ []
first_led_by c (line ∷ lines) = (c ∷ line) ∷ lines

abbrev pub lines : List ℕ → List (List ℕ)
lines [] = []
lines (c ∷ t) =
    if c == line_feed then [] ∷ lines t
    else if c == carriage_return && starts_with nat_eq t (line_feed ∷ []) then lines t
    else first_led_by c (lines t)

-- The end of a line that a line feed ends: a carriage return and the line feed, or the line feed alone if no carriage
-- return is at the end of the line.
abbrev pub IsFeedEnd : List ℕ → List ℕ → Type 0
IsFeedEnd line end = (end ≡ carriage_return ∷ line_feed ∷ [])
    ⊎ ((end ≡ line_feed ∷ []) × ((front : List ℕ) → line ≢ front ++ carriage_return ∷ []))

-- the line is t without one carriage return at its end, if t has one there
abbrev pub IsWithoutReturn : List ℕ → List ℕ → Type 0
IsWithoutReturn line t = (t ≡ line ++ carriage_return ∷ []) ⊎ ((t ≡ line) × ((front : List ℕ) → t ≢ front ++ carriage_return ∷ []))

-- the text after the first line feed, empty if there is none
abbrev pub text_after_line : List ℕ → List ℕ
text_after_line [] = []
text_after_line (c ∷ t) = if c == line_feed then t else text_after_line t

-- The state of a splitter by lines is what is still to be split, if anything. These lines are to come.
abbrev pub AreLinesToCome : Option (List ℕ) → List (List ℕ) → Type 0
AreLinesToCome rest parts = MatchOption rest (parts ≡ []) (λ text. parts ≡ lines (chars text))

-- what is left holds a line feed; without one, no step splits the storage
abbrev pub HoldsLineFeed : Option (List ℕ) → Type 0
HoldsLineFeed rest = IsSomeAnd rest (λ text. Occurs (line_feed ∷ []) (chars text))

-- the reasons for which the next step may be refused: those of a cut, at the end if nothing follows the first line feed
abbrev pub RefusesLine : {E : Type 0} → (E → Type 0) → (E → Type 0) → (E → Type 0) → Option (List ℕ) → E → Type 0
RefusesLine refuses refuses_empty refuses_side rest reason = HoldsLineFeed rest
    × RefusesCut refuses refuses_empty refuses_side (IsSomeAnd rest (λ text. text_after_line (chars text) ≡ [])) reason
