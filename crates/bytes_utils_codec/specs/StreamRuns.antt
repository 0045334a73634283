-- Runs of calls on a reader of a stream that comes in pieces. The state of a reader is of any type: the bytes that it holds, or more. `push` says what
-- a piece makes of a state. `Takes` says what one call takes: the state before it, the item that it returns, and the state after it.
use Rattle.std.specs.Prelude.{◌≡◌, ℕ, List, [], ◌∷◌, ◌++◌, length}

-- what a caller did: it pushed a piece, or took an item
pub data StreamEvent (A : Type 0) : Type 0 where
  Pushed : List ℕ → StreamEvent A
  Taken : A → StreamEvent A

-- these events lead from a state to the last one
abbrev pub IsRunOver : {S A : Type 0} → (S → List ℕ → S) → (S → A → S → Type 0) → S → List (StreamEvent A) → S → Type 0
IsRunOver push Takes s [] end = end ≡ s
IsRunOver push Takes s (Pushed piece ∷ events) end = IsRunOver push Takes (push s piece) events end
IsRunOver {S} push Takes s (Taken item ∷ events) end = (next : S) × Takes s item next × IsRunOver push Takes next events end

-- the same if the state is the held bytes
abbrev pub IsStreamRun : {A : Type 0} → (List ℕ → A → List ℕ → Type 0) → List ℕ → List (StreamEvent A) → List ℕ → Type 0
IsStreamRun Takes held events end = IsRunOver (λ bytes piece. bytes ++ piece) Takes held events end

-- all pushed pieces, joined
abbrev pub pushed_in_stream : {A : Type 0} → List (StreamEvent A) → List ℕ
pushed_in_stream [] = []
pushed_in_stream (Pushed piece ∷ events) = piece ++ pushed_in_stream events
pushed_in_stream (Taken item ∷ events) = pushed_in_stream events

-- all taken items
abbrev pub given_in_stream : {A : Type 0} → List (StreamEvent A) → List A
given_in_stream [] = []
given_in_stream (Pushed piece ∷ events) = given_in_stream events
given_in_stream (Taken item ∷ events) = item ∷ given_in_stream events

-- these are the first items of a state, such as the held bytes, in order, and the state after them
abbrev pub AreFirstOfRun : {S A : Type 0} → (S → A → S → Type 0) → S → List A → S → Type 0
AreFirstOfRun Takes s [] rest = s ≡ rest
AreFirstOfRun {S} Takes s (item ∷ items) rest = (following : S) × Takes s item following × AreFirstOfRun Takes following items rest

-- Whatever the pieces are and whenever items are asked for, a run gives the first items of the state that the joined pieces make, and leads to the
-- state after them.
abbrev pub StreamRunLaw : {S A : Type 0} → (S → List ℕ → S) → (S → A → S → Type 0) → Type 0
StreamRunLaw {S} {A} push Takes =
    (s : S) (events : List (StreamEvent A)) (end : S) → IsRunOver push Takes s events end → AreFirstOfRun Takes (push s (pushed_in_stream events)) (given_in_stream events) end

-- the same of a run from an empty reader, if the state is the held bytes
abbrev pub StreamLaw : {A : Type 0} → (List ℕ → A → List ℕ → Type 0) → Type 0
StreamLaw {A} Takes =
    (events : List (StreamEvent A)) (end : List ℕ) → IsStreamRun Takes [] events end → AreFirstOfRun Takes (pushed_in_stream events) (given_in_stream events) end

-- two lists of first items of the same state that have the same length are the same, with the same state after them
abbrev pub SameFirstOfRunLaw : {S A : Type 0} → (S → A → S → Type 0) → Type 0
SameFirstOfRunLaw {S} {A} Takes = (s : S) (xs ys : List A) (x y : S) → AreFirstOfRun Takes s xs x → AreFirstOfRun Takes s ys y → length xs ≡ length ys → (xs ≡ ys) × (x ≡ y)

-- two lists of first items of the same state after which no item is there are the same, with the same state after them
abbrev pub AllFirstOfRunLaw : {S A : Type 0} → (S → A → S → Type 0) → Type 0
AllFirstOfRunLaw {S} {A} Takes = (s : S) (xs ys : List A) (x y : S) → AreFirstOfRun Takes s xs x → AreFirstOfRun Takes s ys y
    → ((item : A) (next : S) → ¬ Takes x item next) → ((item : A) (next : S) → ¬ Takes y item next) → (xs ≡ ys) × (x ≡ y)
