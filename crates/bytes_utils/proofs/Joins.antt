-- Joined lists of parts.
use Rattle.std.proofs.Common.{◌≡◌, refl, sym, ap, ◌∙◌, ℕ, suc, ◌+◌, ◌<◌, get_or, List, [], ◌∷◌, ◌++◌, length, map, take, drop, arith, append_assoc}
use Rattle.std.proofs.lemmas.List.{append-nil, map_push, take_more, take_at, drop_at, take-append-drop}
use Rattle.bytes_utils.specs.Parts.{join}

pub join-append : {X : Type 0} (p : List X) (xs ys : List (List X)) → 0 < length xs → 0 < length ys → join p (xs ++ ys) ≡ join p xs ++ (p ++ join p ys)
join-append p [] ys some others = absurd (omega arith)
join-append p (x ∷ xs) [] some others = absurd (omega arith)
join-append p (x ∷ []) (y ∷ ys) some others = refl
join-append p (x ∷ z ∷ xs) (y ∷ ys) some others =
    rw (join-append p (z ∷ xs) (y ∷ ys) (omega arith) others) (simp append_assoc)

-- the separator before the next part
abbrev pub gap : {X : Type 0} → List X → List (List X) → List X
gap p [] = []
gap p (part ∷ parts) = p

-- one part more
pub join-push : {X : Type 0} (p : List X) (parts : List (List X)) (part : List X) → join p (parts ++ part ∷ []) ≡ (join p parts ++ gap p parts) ++ part
join-push p parts part = grind (arith, append_assoc, join-append)

-- the same for the images under f of the items so far and one more
pub join-more : {X Y : Type 0} (p : List X) (f : Y → List X) (ys : List Y) (y : Y) → (join p (map f ys) ++ gap p (map f ys)) ++ f y ≡ join p (map f (ys ++ y ∷ []))
join-more p f ys y = sym (join-push p (map f ys) (f y)) ∙ ap (join p) (sym (map_push f ys y))

pub gap-more : {X Y : Type 0} (p : List X) (f : Y → List X) (ys : List Y) (y : Y) → p ≡ gap p (map f (ys ++ y ∷ []))
gap-more p f [] y = refl
gap-more p f (first ∷ ys) y = refl

-- if two joined lists are the same and their first parts have the same length, both parts are the same
pub append_same : {X : Type 0} (a b c d : List X) → length a ≡ length b → a ++ c ≡ b ++ d → (a ≡ b) × (c ≡ d)
append_same a b c d size whole = (
  sym (take_at a c (length a) refl) ∙ ap (take (length a)) whole ∙ take_at b d (length a) (sym size),
  sym (drop_at a c (length a) refl) ∙ ap (drop (length a)) whole ∙ drop_at b d (length a) (sym size),
)

-- the same for the first elements of a list and the next one
pub join-next : {X : Type 0} (p : List X) (xs : List (List X)) (i : ℕ) (x : List X) → i < length xs → x ≡ get_or xs i x
    → (join p (take i xs) ++ gap p (take i xs)) ++ x ≡ join p (take (i + 1) xs)
join-next p xs i x inside is =
    sym (join-push p (take i xs) x) ∙ ap (join p) (sym (take_more xs i x inside ∙ ap (λ y. take i xs ++ y ∷ []) (sym is)))

pub gap-next : {X : Type 0} (p : List X) (xs : List (List X)) (i : ℕ) → i < length xs → p ≡ gap p (take (i + 1) xs)
gap-next p [] i inside = absurd (omega (arith, inside))
gap-next p (first ∷ xs) i inside = ap (λ n. gap p (take n (first ∷ xs))) (one_more i)
  where
    one_more : (i : ℕ) → suc i ≡ i + 1
    one_more i = omega arith

-- both halves of an empty list are empty
pub empty_front : {X : Type 0} (a b : List X) → a ++ b ≡ [] → a ≡ []
empty_front [] b none = refl
empty_front (x ∷ a) b none = cc

pub empty_back : {X : Type 0} (a b : List X) → a ++ b ≡ [] → b ≡ []
empty_back [] b none = none
empty_back (x ∷ a) b none = cc

-- the first parts of what is empty when joined are so too
pub join-front_empty : {X : Type 0} (p : List X) (xs ys : List (List X)) → join p (xs ++ ys) ≡ [] → join p xs ≡ []
join-front_empty p [] ys none = refl
join-front_empty p (x ∷ xs) [] none = ap (join p) (sym (append-nil (x ∷ xs))) ∙ none
join-front_empty p (x ∷ xs) (y ∷ ys) none =
    empty_front _ _ (sym (join-append p (x ∷ xs) (y ∷ ys) (omega arith) (omega arith)) ∙ none)

-- where nothing is in the joined items and one more, nothing is in the separator before it and in itself
pub gap-empty : {X Y : Type 0} (p : List X) (f : Y → List X) (ys : List Y) (y : Y) → join p (map f (ys ++ y ∷ [])) ≡ [] → gap p (map f ys) ≡ []
gap-empty p f ys y none = empty_back _ _ (empty_front _ _ (join-more p f ys y ∙ none))

pub item-empty : {X Y : Type 0} (p : List X) (f : Y → List X) (ys : List Y) (y : Y) → join p (map f (ys ++ y ∷ [])) ≡ [] → f y ≡ []
item-empty p f ys y none = empty_back _ _ (join-more p f ys y ∙ none)

-- the same for the first elements of a list and the next one
joined_next : {X : Type 0} (p : List X) (xs : List (List X)) (i : ℕ) → join p xs ≡ [] → join p (take (i + 1) xs) ≡ []
joined_next p xs i none = join-front_empty p (take (i + 1) xs) (drop (i + 1) xs) (ap (join p) (take-append-drop (i + 1) xs) ∙ none)

pub gap_next-empty : {X : Type 0} (p : List X) (xs : List (List X)) (i : ℕ) (x : List X) → i < length xs → x ≡ get_or xs i x → join p xs ≡ [] → gap p (take i xs) ≡ []
gap_next-empty p xs i x inside is none =
    empty_back _ _ (empty_front _ _ (join-next p xs i x inside is ∙ joined_next p xs i none))

pub item_next-empty : {X : Type 0} (p : List X) (xs : List (List X)) (i : ℕ) (x : List X) → i < length xs → x ≡ get_or xs i x → join p xs ≡ [] → x ≡ []
item_next-empty p xs i x inside is none = empty_back _ _ (join-next p xs i x inside is ∙ joined_next p xs i none)
