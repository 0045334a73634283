-- A text split at the places that a closure of the caller returns.
use Rattle.std.specs.Prelude.{◌≡◌, ◌⊎◌, ℕ, ◌+◌, ◌<◌, ◌≤◌, List, [], ◌∷◌, ◌++◌, length, map, take, drop, Option, None, Some, Result, Ok, MatchOption, MatchResult, IsSomeAnd, IsCharBoundary, IsUtf8, ⊤}
use Rattle.std.specs.Option.{option_map_or}
use Rattle.std.specs.Fn.{Mut, TakesAt, CalledAt}
use Rattle.std.specs.Str.{chars}
use denote.Ref.{Bor}
use Rattle.bytes_utils.specs.declared.split.direction.Direction.{Direction}
use Rattle.bytes_utils.specs.declared.split.direction.Direction.TheVariants.{Forward, Backward}

-- Two places in a text at which characters begin or the text ends, which take something off. Forward, a is the end of a
-- chunk and b the end of the separator after it. Backward, a is the start of a chunk and b the start of the separator
-- before it.
abbrev pub IsLawfulClosureCut : Direction → List ℕ → ℕ → ℕ → Type 0
IsLawfulClosureCut Forward text a b = IsCharBoundary text a × IsCharBoundary text b × (a ≤ b) × (0 < b)
IsLawfulClosureCut Backward text a b = IsCharBoundary text a × IsCharBoundary text b × (b ≤ a) × (b < length text)

-- A closure that, in any state, may be called on each text, and returns `None` or a lawful cut of it.
pub record IsLawfulClosure {F : Type 0} (f : Mut F (Bor (List ℕ) × Unit {0}) (Option (ℕ × ℕ))) (direction : Direction) : Type 0 where
  pub called : (state : F) (text : List ℕ) → IsUtf8 text → TakesAt f state text
  pub lawful : (state : F) (text : List ℕ) (a b : ℕ) (after : F) → IsUtf8 text → CalledAt f state text (Some (a, b)) after → IsLawfulClosureCut direction text a b

-- the chunk that a cut gives
abbrev pub walk_chunk_at : Direction → List ℕ → ℕ → ℕ → List ℕ
walk_chunk_at Forward text a b = take a text
walk_chunk_at Backward text a b = drop a text

-- the text that a cut leaves
abbrev pub walk_rest_at : Direction → List ℕ → ℕ → ℕ → List ℕ
walk_rest_at Forward text a b = drop b text
walk_rest_at Backward text a b = take b text

-- what a cut leaves out, between its chunk and what it leaves
abbrev pub walk_gap_at : Direction → List ℕ → ℕ → ℕ → List ℕ
walk_gap_at Forward text a b = drop a (take b text)
walk_gap_at Backward text a b = drop b (take a text)

-- the cut is at an end of the text: it leaves no rest forward; backward its chunk is empty or all of the text
abbrev pub IsClosureCutAtEnd : Direction → List ℕ → ℕ → ℕ → Type 0
IsClosureCutAtEnd Forward text a b = b ≡ length text
IsClosureCutAtEnd Backward text a b = (a ≡ 0) ⊎ (a ≡ length text)

-- The effect of a closure's result on a text. After `None` the whole text is the item, and nothing is left. After a cut
-- its chunk is the item and its rest is left; or the item is an error, with a reason for which this cut may be refused,
-- and nothing is left.
abbrev pub FollowsClosureAnswer : {E : Type 0} → (Type 0 → E → Type 0) → Direction → List ℕ → Option (ℕ × ℕ) → Result (List ℕ) E → Option (List ℕ) → Type 0
FollowsClosureAnswer refuses_cut direction text None item rest = (item ≡ Ok text) × (rest ≡ None)
FollowsClosureAnswer refuses_cut direction text (Some (a, b)) item rest =
    MatchResult item (λ chunk. (chunk ≡ walk_chunk_at direction text a b) × (rest ≡ Some (walk_rest_at direction text a b)))
    (λ reason. refuses_cut (IsClosureCutAtEnd direction text a b) reason × (rest ≡ None))

-- The state of such a splitter: what is still to be split, if anything, the end from which it splits, and the closure's
-- state.
pub record Walk (F : Type 0) : Type 0 where
  pub rest : Option (List ℕ)
  pub direction : Direction
  pub closure : F

-- A step from s to t that returns r: `None` if nothing is left, else the closure is called once, on what is left, and
-- its result has its effect.
pub record IsWalkStep {F E : Type 0} (f : Mut F (Bor (List ℕ) × Unit {0}) (Option (ℕ × ℕ))) (refuses_cut : Type 0 → E → Type 0) (s : Walk F) (r : Option (Result (List ℕ) E)) (t : Walk F) : Type 0 where
  pub direction : t.direction ≡ s.direction
  pub follows : MatchOption s.rest ((r ≡ None) × (t.rest ≡ None) × (t.closure ≡ s.closure))
      (λ text. (answer : Option (ℕ × ℕ)) × CalledAt f s.closure text answer t.closure × IsSomeAnd r (λ item. FollowsClosureAnswer refuses_cut s.direction text answer item t.rest))

-- a bound on the number of items to come: one more than the characters left
abbrev pub most_chunks : {F : Type 0} → Walk F → ℕ
most_chunks s = option_map_or (λ text. length (chars text) + 1) s.rest 0

-- what a cut took off: a chunk, and what was left out next to it
pub record TakenInWalk : Type 0 where
  pub chunk : List ℕ
  pub gap : List ℕ

-- what cuts took off, in the order in which they were made, and the text that they left, joined in the order of the
-- text
abbrev pub laid_out : Direction → List TakenInWalk → List ℕ → List ℕ
laid_out direction [] last = last
laid_out Forward (cut ∷ cuts) last = cut.chunk ++ (cut.gap ++ laid_out Forward cuts last)
laid_out Backward (cut ∷ cuts) last = laid_out Backward cuts last ++ (cut.gap ++ cut.chunk)

-- called on this text, the closure returned the cut that takes these off
pub record IsAnswered {F : Type 0} (f : Mut F (Bor (List ℕ) × Unit {0}) (Option (ℕ × ℕ))) (direction : Direction) (text : List ℕ) (cut : TakenInWalk) : Type 0 where
  pub state : F
  pub after : F
  pub chunk_edge : ℕ
  pub separator_edge : ℕ
  pub called : CalledAt f state text (Some (chunk_edge, separator_edge)) after
  pub chunk : cut.chunk ≡ walk_chunk_at direction text chunk_edge separator_edge
  pub gap : cut.gap ≡ walk_gap_at direction text chunk_edge separator_edge

-- the closure returned each cut, called on what the cuts before it left
abbrev pub AreAnswered : {F : Type 0} → Mut F (Bor (List ℕ) × Unit {0}) (Option (ℕ × ℕ)) → Direction → List TakenInWalk → List ℕ → Type 0
AreAnswered f direction [] last = ⊤
AreAnswered f direction (cut ∷ cuts) last = IsAnswered f direction (laid_out direction (cut ∷ cuts) last) cut × AreAnswered f direction cuts last

-- These items are a whole run over a text: the chunks of cuts that the closure returned, and at last an item that ends
-- the run. What the cuts took off and what they left, joined in order, are the text. What they left is the last chunk,
-- for which the closure returned `None`; or the cut that it returned was refused, and what they left is missing from the
-- items.
pub record IsWholeWalk {F E : Type 0} (f : Mut F (Bor (List ℕ) × Unit {0}) (Option (ℕ × ℕ))) (refuses_cut : Type 0 → E → Type 0) (direction : Direction) (text : List ℕ) (items : List (Result (List ℕ) E)) : Type 0 where
  pub cuts : List TakenInWalk
  pub last : List ℕ
  pub joined : laid_out direction cuts last ≡ text
  pub answered : AreAnswered f direction cuts last
  pub end : Result (List ℕ) E
  pub gives : items ≡ map (λ cut. Ok cut.chunk) cuts ++ (end ∷ [])
  pub ends : MatchResult end (λ chunk. (chunk ≡ last) × (state : F) × (after : F) × CalledAt f state last None after)
      (λ reason. (state : F) × (after : F) × (a : ℕ) × (b : ℕ) × CalledAt f state last (Some (a, b)) after × refuses_cut (IsClosureCutAtEnd direction last a b) reason)
