-- What one call of a splitter's `next` does.
use Rattle.std.specs.Prelude.{ℕ, List, [], ◌∷◌, ◌++◌, Option, Result, MatchOption, MatchResult, IfSome, IsSomeAnd}
use Rattle.std.specs.Str.{chars}
use Rattle.bytes_utils.specs.Ends.{EndsWith}

-- Below, `coming s parts` says that in the state s of a splitter these parts are to come; at most one list is. `seen`
-- maps an item to the member of such a list, a text to its characters. `refuses s reason` says that a step from s may be
-- refused for this reason.

-- the part is the first to come in s: some list is to come in t, and the part followed by each such list is to come in
-- s
pub record StepGivesFirst {S X : Type 0} (coming : S → List X → Type 0) (s : S) (part : X) (t : S) : Type 0 where
  pub some : (others : List X) × coming t others
  pub each : (others : List X) → coming t others → coming s (part ∷ others)

-- A step from s to t that gives an item: the first part that is to come, or an error for a refused split, with a reason
-- for which this step may be refused, after which nothing comes.
pub record StepGivesItem {S X Y E : Type 0} (seen : Y → X) (coming : S → List X → Type 0) (refuses : S → E → Type 0) (s : S) (item : Result Y E) (t : S) : Type 0 where
  pub some : ¬ coming s []
  pub gives : MatchResult item (λ part. StepGivesFirst coming s (seen part) t) (λ reason. refuses s reason × coming t [])

-- A step from s to t that returns r: `None` exactly if no part is to come, else an item.
abbrev pub IsStepOf : {S X Y E : Type 0} → (Y → X) → (S → List X → Type 0) → (S → E → Type 0) → S → Option (Result Y E) → S → Type 0
IsStepOf seen coming refuses s r t = MatchOption r (coming s [] × coming t []) (λ item. StepGivesItem seen coming refuses s item t)

-- a step of a splitter whose items are texts
abbrev pub IsStep : {S E : Type 0} → (S → List (List ℕ) → Type 0) → (S → E → Type 0) → S → Option (Result (List ℕ) E) → S → Type 0
IsStep coming refuses s r t = IsStepOf chars coming refuses s r t

-- Here a state is what is still to be split, if anything. What is left in t, if anything, is an end of what is left in s.
abbrev pub LeavesEnd : Option (List ℕ) → Option (List ℕ) → Type 0
LeavesEnd s t = IfSome t (λ rest. IsSomeAnd s (EndsWith rest))

-- What a loop over a splitter keeps: since the state `start` the splitter has given these parts, and it is in the state
-- `now`. Some list is to come, and the parts followed by each such list were to come at the start.
pub record StepsHaveGiven {S X : Type 0} (coming : S → List X → Type 0) (start : S) (parts : List X) (now : S) : Type 0 where
  pub some : (more : List X) × coming now more
  pub each : (more : List X) → coming now more → coming start (parts ++ more)
