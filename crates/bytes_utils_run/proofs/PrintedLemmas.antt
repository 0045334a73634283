-- Entries printed one after another.
use Rattle.std.proofs.Common.{◌≡◌, sym, ap, subst, ◌∙◌, ℕ, ◌+◌, ◌<◌, List, [], ◌∷◌, ◌++◌, Option, length, map, take, drop, get_or, append-nil, take-append-drop}
use Rattle.std.proofs.KnownBytes.{Appends-trans}
use Rattle.std.proofs.lemmas.List.{drop_more, map-append, take_more}
use Rattle.std.proofs.lemmas.List.Folds.{concat-append}
use Rattle.std.specs.Io.KnownBytes.{Appends}
use Rattle.std.specs.List.{concat}
use Rattle.bytes_utils_run.specs.AppendsAndConsumes.{AppendsBeginning}
use Rattle.bytes_utils_run.proofs.Beginnings.{AppendsBeginning-after, AppendsBeginning-more}

module _ {X : Type 0} (f : X → List ℕ) (xs : List X) (x : X) where
  -- one more entry was printed after those
  pub print_after : (a b c : Option (List ℕ)) → Appends a b (concat (map f xs)) → Appends b c (f x) → Appends a c (concat (map f (xs ++ x ∷ [])))
  print_after a b c before one =
      let all : concat (map f (xs ++ x ∷ [])) ≡ concat (map f xs) ++ f x =
      ap concat (map-append f xs (x ∷ [])) ∙ concat-append (map f xs) (f x ∷ []) ∙ ap (λ z. concat (map f xs) ++ z) (append-nil (f x)) in
      subst (Appends a c) (sym all) (Appends-trans a b c _ _ before one)

  -- the first bytes of one more entry were printed after those, and others were to follow
  pub print_begun_after : (others : List X) (a b c : Option (List ℕ)) → Appends a b (concat (map f xs)) → AppendsBeginning b c (f x)
      → AppendsBeginning a c (concat (map f (xs ++ x ∷ others)))
  print_begun_after others a b c before begun =
      let all : concat (map f (xs ++ x ∷ others)) ≡ concat (map f xs) ++ (f x ++ concat (map f others)) =
      ap concat (map-append f xs (x ∷ others)) ∙ concat-append (map f xs) (map f (x ∷ others)) in
      subst (AppendsBeginning a c) (sym all) (AppendsBeginning-after a b c _ _ before (AppendsBeginning-more b c (f x) _ begun))

module _ {X : Type 0} (f : X → List ℕ) (xs : List X) (i : ℕ) (x : X) (within : i < length xs) (is : x ≡ get_or xs i x) where
  -- one more entry was printed
  pub print_more : (a b c : Option (List ℕ)) → Appends a b (concat (map f (take i xs))) → Appends b c (f x) → Appends a c (concat (map f (take (i + 1) xs)))
  print_more a b c before one =
      let taken : take (i + 1) xs ≡ take i xs ++ x ∷ [] = take_more xs i x within ∙ ap (λ z. take i xs ++ z ∷ []) (sym is) in
      subst (λ l. Appends a c (concat (map f l))) (sym taken) (print_after f (take i xs) x a b c before one)

  -- the first bytes of the next entry were printed
  pub print_begun : (a b c : Option (List ℕ)) → Appends a b (concat (map f (take i xs))) → AppendsBeginning b c (f x) → AppendsBeginning a c (concat (map f xs))
  print_begun a b c before begun =
      let following : drop i xs ≡ x ∷ drop (i + 1) xs = drop_more xs i x within ∙ ap (λ z. z ∷ drop (i + 1) xs) (sym is) in
      subst (λ l. AppendsBeginning a c (concat (map f l))) (ap (λ l. take i xs ++ l) (sym following) ∙ take-append-drop i xs)
      (print_begun_after f (take i xs) x (drop (i + 1) xs) a b c before begun)
