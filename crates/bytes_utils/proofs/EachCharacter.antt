-- The parts by the empty separator, one after another.
use Rattle.std.proofs.Common.{◌≡◌, refl, sym, ap, ◌∙◌, ℕ, suc, ◌-◌, ◌<◌, List, [], ◌∷◌, ◌++◌, Option, None, Some, length, map, take, drop, reverse, arith, length-drop, take-append-drop, ◌⊎◌, inl, inr}
use Rattle.std.specs.Option.{option_map, IfSome}
use Rattle.std.proofs.lemmas.Bool.{lt-ltb, cond-true}
use Rattle.std.proofs.lemmas.List.{reverse-append, length-reverse, take_at, drop_at}
use Rattle.bytes_utils.specs.EmptySeparator.{by_empty_separator, by_empty_separator_backward}
use Rattle.bytes_utils.specs.Splitting.{LeavesMoreToSplit, limit_after_split}
use Rattle.bytes_utils.proofs.Forward.{one_or_more}
use Rattle.bytes_utils.proofs.Mirror.{reversed_twice}

-- the parts after the first one by the empty separator
abbrev pub after_first : {X : Type 0} → List X → Option ℕ → List (List X)
after_first t limit = drop 1 (by_empty_separator t limit)

-- the first part is empty, if there may be more than one
pub by_empty_separator-first : {X : Type 0} (t : List X) (limit : Option ℕ) → LeavesMoreToSplit limit → by_empty_separator t limit ≡ [] ∷ after_first t limit
by_empty_separator-first t limit more = grind arith

-- after it come the first character, and then what comes after the empty part in the rest
pub by_empty_separator-more : {X : Type 0} (x : X) (t : List X) (limit : Option ℕ) → LeavesMoreToSplit limit
    → by_empty_separator (x ∷ t) (option_map suc limit) ≡ [] ∷ (x ∷ []) ∷ after_first t limit
by_empty_separator-more x t limit h = grind arith

-- after all characters the last part is empty
pub by_empty_separator-nothing_left : {X : Type 0} (limit : Option ℕ) → LeavesMoreToSplit limit → by_empty_separator {X = X} [] (option_map suc limit) ≡ [] ∷ [] ∷ []
by_empty_separator-nothing_left limit more = grind arith

-- a limit of two leaves the text after the empty part
pub by_empty_separator-two : {X : Type 0} (t : List X) → by_empty_separator t (Some 2) ≡ [] ∷ t ∷ []
by_empty_separator-two [] = refl
by_empty_separator-two (x ∷ t) = ap (λ z. [] ∷ z) (cond-true _ _ _ (lt-ltb 0 (length (x ∷ t)) (omega arith)))

-- and one after the first
pub by_empty_separator-following : {X : Type 0} (t : List X) (limit : Option ℕ) → IfSome limit (λ most. 0 < most) → 1 < length (by_empty_separator t (option_map suc limit))
by_empty_separator-following {X = X} t limit some = from t (one_or_more limit some)
  where
    from : (u : List X) → (limit ≡ Some 1) ⊎ LeavesMoreToSplit limit → 1 < length (by_empty_separator u (option_map suc limit))
    from u (inl one) = omega (arith, ap length (ap (λ l. by_empty_separator u (option_map suc l)) one ∙ by_empty_separator-two u))
    from [] (inr more) = omega (arith, ap length (by_empty_separator-nothing_left {X = X} limit more))
    from (x ∷ u) (inr more) = omega (arith, ap length (by_empty_separator-more x u limit more))

-- one more than what is left of a limit of more than one part is the limit
pub suc-less : (limit : Option ℕ) → LeavesMoreToSplit limit → option_map suc (limit_after_split limit) ≡ limit
suc-less None more = refl
suc-less (Some n) more = ap Some (omega (arith, more))

-- The first character of a list that isn't empty, and what is after it.
pub first_element : {X : Type 0} (t : List X) (limit : Option ℕ) (others : List (List X)) → 0 < length t → LeavesMoreToSplit limit
    → [] ∷ others ≡ by_empty_separator (drop 1 t) limit → [] ∷ take 1 t ∷ others ≡ by_empty_separator t (option_map suc limit)
first_element [] limit others some more are = absurd (omega (arith, some))
first_element (x ∷ t) limit others some more are = ap (λ z. [] ∷ (x ∷ []) ∷ drop 1 z) are ∙ sym (by_empty_separator-more x t limit more)

-- The last character, and what is before it, from the back.
module _ {X : Type 0} where
  -- the parts given from the back, each reversed, are those that the reverse gives from the front
  pub mirrored : (t : List X) (limit : Option ℕ) (parts : List (List X)) → parts ≡ by_empty_separator_backward t limit → map reverse parts ≡ by_empty_separator (reverse t) limit
  mirrored t limit parts are = ap (map reverse) are ∙ reversed_twice (by_empty_separator (reverse t) limit)

  single_end : (t : List X) → length t ≡ 1 → reverse t ≡ t
  single_end [] one = absurd (omega (arith, one))
  single_end (x ∷ []) one = refl
  single_end (x ∷ y ∷ t) one = absurd (omega (arith, one))

  pub last_element : (t : List X) (limit : Option ℕ) (others : List (List X)) → 0 < length t → LeavesMoreToSplit limit
      → [] ∷ others ≡ by_empty_separator_backward (take (length t - 1) t) limit → [] ∷ drop (length t - 1) t ∷ others ≡ by_empty_separator_backward t (option_map suc limit)
  last_element t limit others some more are =
      let front = take (length t - 1) t in
      let last = drop (length t - 1) t in
      let size : length last ≡ 1 = omega (arith, some, length-drop (length t - 1) t) in
      let whole : reverse t ≡ last ++ reverse front =
      ap reverse (sym (take-append-drop (length t - 1) t)) ∙ reverse-append front last ∙ ap (λ z. z ++ reverse front) (single_end last size) in
      let first : take 1 (reverse t) ≡ last = ap (take 1) whole ∙ take_at last (reverse front) 1 size in
      let following : drop 1 (reverse t) ≡ reverse front = ap (drop 1) whole ∙ drop_at last (reverse front) 1 size in
      let left : [] ∷ map reverse others ≡ by_empty_separator (drop 1 (reverse t)) limit =
      mirrored front limit ([] ∷ others) are ∙ ap (λ z. by_empty_separator z limit) (sym following) in
      let all = first_element (reverse t) limit (map reverse others) (omega (arith, some, length-reverse t)) more left in
      let parts : [] ∷ last ∷ others ≡ map reverse ([] ∷ take 1 (reverse t) ∷ map reverse others) =
      (λ k. [] ∷ sym (single_end last size) k ∷ sym (reversed_twice others) k) ∙ ap (λ z. [] ∷ reverse z ∷ map reverse (map reverse others)) (sym first) in
      parts ∙ ap (map reverse) all
