use Rattle.std.proofs.Common.{ℕ, ◌-◌, ◌<◌, ◌≤◌, List, [], ◌∷◌, ◌++◌, Some, length, take, drop, reverse, subst, arith}
use Rattle.std.proofs.lemmas.Bool.{cond_both, ltb-true, ltb-false}
use Rattle.std.specs.Prelude.{nat_lt}
use Rattle.bytes_utils.specs.Parts.{join, AreForwardParts, AreBackwardParts}
use Rattle.bytes_utils.proofs.Limits.{forward_within, forward_beyond, backward_within, backward_beyond}
use Rattle.bytes_utils_run.specs.Laws.{limited}
use Rattle.bytes_utils_run.proofs.laws.limits.Goals as goal

module _ {X : Type 0} (uncut : List (List X) → List X) (most : ℕ) (parts : List (List X)) where
  -- as many parts as the limit, the last one not split
  abbrev cut_short : List (List X)
  cut_short = take (most - 1) parts ++ (uncut (drop (most - 1) parts) ∷ [])

  limited-is : (P : List (List X) → Type 0) → (most < length parts → P cut_short) → (length parts ≤ most → P parts) → P (limited uncut most parts)
  limited-is P more few =
      cond_both (nat_lt most (length parts)) cut_short parts P (λ e. more (ltb-true most (length parts) e)) (λ e. few (ltb-false most (length parts) e))

-- the rest that isn't split, of parts that are given from the back
abbrev join_back : {X : Type 0} → List X → List (List X) → List X
join_back p rest = join p (reverse rest)

pub returns-clause-forward : goal.returns-clause-forward
returns-clause-forward g c = λ t p most parts some positive are.
    limited-is (join p) most parts (AreForwardParts t p (Some most))
    (λ more. subst (λ n. AreForwardParts t p (Some n) (cut_short (join p) most parts)) (omega arith) (forward_beyond p some (most - 1) t parts are (omega arith)))
    (forward_within t p most parts are)

pub returns-clause-backward : goal.returns-clause-backward
returns-clause-backward g c = λ t p most parts some positive are.
    limited-is (join_back p) most parts (AreBackwardParts t p (Some most))
    (λ more. subst (λ n. AreBackwardParts t p (Some n) (cut_short (join_back p) most parts)) (omega arith) (backward_beyond p some (most - 1) t parts are (omega arith)))
    (backward_within t p most parts are)
