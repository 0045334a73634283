-- The outcome of splitting a text into a list of parts, in which a split may be refused.
use Rattle.std.specs.Prelude.{◌<◌, List, ◌++◌, length, Option, MatchOption}

-- `Is` says which list is right. Without a refusal the whole list was given; with one, a proper beginning of it.
abbrev pub Outcome : {X E : Type 0} → (List X → Type 0) → List X → Option E → Type 0
Outcome {X} Is given refused = MatchOption refused (Is given) (λ _. (others : List X) × (0 < length others) × Is (given ++ others))
