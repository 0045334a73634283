-- What each run of an iterator over a text gives, from its steps.
use Rattle.std.proofs.Common.{◌≡◌, refl, sym, ap, subst, ◌∙◌, ℕ, List, [], ◌∷◌, ◌++◌, append-nil, Option, None, Some, Bor, IsUtf8}
use Rattle.std.specs.Iterator.{Yields}
use Rattle.std.specs.Str.{chars}
use Rattle.bytes_utils_run.specs.Borrowed.{borrowed_characters, GivesBorrowedParts}

-- `is s` holds of each state; `coming s parts` says that these parts are to come, and there is always such a list
module _ {S : Type 0} (steps : S → Option (Bor (List ℕ)) → S → Type 0) (is : S → Type 0) (coming : S → List (List ℕ) → Type 0)
    (some : (s : S) → is s → (parts : List (List ℕ)) × coming s parts)
    (last : (s u : S) → is s → steps s None u → coming s [])
    (first : (s t : S) (x : Bor (List ℕ)) → is s → steps s (Some x) t → is t × ((others : List (List ℕ)) → coming t others → coming s (chars x.now ∷ others))) where
  -- the items so far, followed by whatever is then to come
  along : (s t : S) (items : List (Bor (List ℕ))) → is s → Yields steps s items t
      → is t × ((others : List (List ℕ)) → coming t others → coming s (borrowed_characters items ++ others))
  along s t [] s_is run = (subst is run s_is, λ others are. subst (λ z. coming z others) (sym run) are)
  along s t (x ∷ items) s_is run =
      let one = first s run.0 x s_is run.1 in
      let later = along run.0 t items one.0 run.2 in
      (later.0, λ others are. one.1 _ (later.1 others are))

  pub GivesBorrowedParts-from_steps : (s : S) → is s → GivesBorrowedParts steps s (coming s)
  GivesBorrowedParts-from_steps s s_is = record {
    whole = λ items run.
        let so_far = along s run.1.0 items s_is run.1.1 in
        subst (coming s) (append-nil (borrowed_characters items)) (so_far.1 [] (last run.1.0 run.0 so_far.0 run.1.2));
    stopped = λ items t run.
        let so_far = along s t items s_is run in
        let more = some t so_far.0 in
        (more.0, so_far.1 more.0 more.1);
  }

-- what holds of each right list holds of the lists that are given
pub GivesBorrowedParts-map : {S : Type 0} (steps : S → Option (Bor (List ℕ)) → S → Type 0) (s : S) (Is Are : List (List ℕ) → Type 0) → ((parts : List (List ℕ)) → Is parts → Are parts)
    → GivesBorrowedParts steps s Is → GivesBorrowedParts steps s Are
GivesBorrowedParts-map steps s Is Are each gives = record {
  whole = λ items run. each (borrowed_characters items) (gives.whole items run);
  stopped = λ items t run.
      let more = gives.stopped items t run in
      (more.0, each (borrowed_characters items ++ more.0) more.1);
}

-- the items are those that a function of the text gives
module _ {S : Type 0} (steps : S → Option (Bor (List ℕ)) → S → Type 0) (text : S → List ℕ) (parts_of : List ℕ → List (List ℕ))
    (last : (s u : S) → IsUtf8 (text s) → steps s None u → [] ≡ parts_of (chars (text s)))
    (first : (s t : S) (x : Bor (List ℕ)) → IsUtf8 (text s) → steps s (Some x) t → IsUtf8 (text t) × (parts_of (chars (text s)) ≡ chars x.now ∷ parts_of (chars (text t)))) where
  pub gives_all_of : (s : S) (t : List ℕ) → text s ≡ t → IsUtf8 t → GivesBorrowedParts steps s (λ parts. parts ≡ parts_of (chars t))
  gives_all_of s t text_is utf8 =
      subst (λ t. GivesBorrowedParts steps s (λ parts. parts ≡ parts_of (chars t))) text_is
      (GivesBorrowedParts-from_steps steps (λ s. IsUtf8 (text s)) (λ s parts. parts ≡ parts_of (chars (text s))) (λ s s_is. (parts_of (chars (text s)), refl)) last
      (λ s t x s_is step. let one = first s t x s_is step in (one.0, λ others are. ap (λ z. chars x.now ∷ z) are ∙ sym one.1))
      s (subst IsUtf8 (sym text_is) utf8))
