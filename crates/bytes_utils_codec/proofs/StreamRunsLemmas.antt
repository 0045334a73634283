-- Runs over pieces are runs over the joined bytes.
use Rattle.std.proofs.Common.{◌≡◌, ℕ, List, [], ◌∷◌, ◌++◌, ap, ◌∙◌, sym, refl, subst, arith, append_assoc, append-nil}
use Rattle.bytes_utils_codec.specs.StreamRuns.{StreamEvent, Pushed, Taken, IsRunOver, pushed_in_stream, given_in_stream, AreFirstOfRun, StreamRunLaw, StreamLaw, SameFirstOfRunLaw, AllFirstOfRunLaw}

module _ {S A : Type 0} (Takes : S → A → S → Type 0) where
  -- more items
  pub AreFirstOfRun-append : (s : S) (xs : List A) (mid : S) (ys : List A) (end : S)
      → AreFirstOfRun Takes s xs mid → AreFirstOfRun Takes mid ys end → AreFirstOfRun Takes s (xs ++ ys) end
  AreFirstOfRun-append s [] mid ys end first later = subst (λ l. AreFirstOfRun Takes l ys end) (sym first) later
  AreFirstOfRun-append s (x ∷ xs) mid ys end first later = (first.0, first.1, AreFirstOfRun-append first.0 xs mid ys end first.2 later)

  pub AreFirstOfRun-next : (s : S) (items : List A) (held : S) (item : A) (rest : S) → AreFirstOfRun Takes s items held → Takes held item rest → AreFirstOfRun Takes s (items ++ item ∷ []) rest
  AreFirstOfRun-next s items held item rest are takes = AreFirstOfRun-append s items held (item ∷ []) rest are (rest, takes, refl)

  -- what is taken first is one item, with the same state after it
  module _ (one : (old : S) (item other : A) (x y : S) → Takes old item x → Takes old other y → (item ≡ other) × (x ≡ y)) where
    pub same_first_law : SameFirstOfRunLaw Takes
    same_first_law s [] [] x y a b size = (refl, sym a ∙ b)
    same_first_law s (f ∷ xs) (g ∷ ys) x y a b size =
        let same = one s f g a.0 b.0 a.1 b.1 in
        let later = same_first_law b.0 xs ys x y (subst (λ l. AreFirstOfRun Takes l xs x) same.1 a.2) b.2 (omega (arith, size)) in
        ((λ i. same.0 i ∷ later.0 i), later.1)
    same_first_law s xs ys x y a b size = absurd (omega (arith, size))

    pub all_first_law : AllFirstOfRunLaw Takes
    all_first_law s [] [] x y a b none_x none_y = (refl, sym a ∙ b)
    all_first_law s [] (g ∷ ys) x y a b none_x none_y = absurd (none_x g b.0 (subst (λ l. Takes l g b.0) a b.1))
    all_first_law s (f ∷ xs) [] x y a b none_x none_y = absurd (none_y f a.0 (subst (λ l. Takes l f a.0) b a.1))
    all_first_law s (f ∷ xs) (g ∷ ys) x y a b none_x none_y =
        let same = one s f g a.0 b.0 a.1 b.1 in
        let later = all_first_law b.0 xs ys x y (subst (λ l. AreFirstOfRun Takes l xs x) same.1 a.2) b.2 none_x none_y in
        ((λ i. same.0 i ∷ later.0 i), later.1)

-- events, and others after them
pub pushed_in_stream-append : {A : Type 0} (xs ys : List (StreamEvent A)) → pushed_in_stream (xs ++ ys) ≡ pushed_in_stream xs ++ pushed_in_stream ys
pushed_in_stream-append [] ys = refl
pushed_in_stream-append (Pushed piece ∷ xs) ys = ap (λ l. piece ++ l) (pushed_in_stream-append xs ys) ∙ sym (append_assoc piece (pushed_in_stream xs) (pushed_in_stream ys))
pushed_in_stream-append (Taken item ∷ xs) ys = pushed_in_stream-append xs ys

pub given_in_stream-append : {A : Type 0} (xs ys : List (StreamEvent A)) → given_in_stream (xs ++ ys) ≡ given_in_stream xs ++ given_in_stream ys
given_in_stream-append [] ys = refl
given_in_stream-append (Pushed piece ∷ xs) ys = given_in_stream-append xs ys
given_in_stream-append (Taken item ∷ xs) ys = ap (λ l. item ∷ l) (given_in_stream-append xs ys)

module _ {S A : Type 0} (push : S → List ℕ → S) (Takes : S → A → S → Type 0) where
  pub IsRunOver-append : (s : S) (xs : List (StreamEvent A)) (mid : S) (ys : List (StreamEvent A)) (end : S) → IsRunOver push Takes s xs mid
      → IsRunOver push Takes mid ys end → IsRunOver push Takes s (xs ++ ys) end
  IsRunOver-append s [] mid ys end first later = subst (λ l. IsRunOver push Takes l ys end) first later
  IsRunOver-append s (Pushed piece ∷ xs) mid ys end first later = IsRunOver-append (push s piece) xs mid ys end first later
  IsRunOver-append s (Taken item ∷ xs) mid ys end first later = (first.0, first.1, IsRunOver-append first.0 xs mid ys end first.2 later)

  -- what each piece and each item keep, a run keeps
  module _ (Holds : List ℕ → List A → S → Type 0)
      (pushed : (bytes : List ℕ) (items : List A) (s : S) (piece : List ℕ) → Holds bytes items s → Holds (bytes ++ piece) items (push s piece))
      (taken : (bytes : List ℕ) (items : List A) (s : S) (item : A) (next : S) → Holds bytes items s → Takes s item next → Holds bytes (items ++ item ∷ []) next) where
    pub run_keeps : (bytes : List ℕ) (items : List A) (s : S) (events : List (StreamEvent A)) (end : S) → Holds bytes items s → IsRunOver push Takes s events end
        → Holds (bytes ++ pushed_in_stream events) (items ++ given_in_stream events) end
    run_keeps bytes items s [] end holds run = rw (append-nil bytes, append-nil items) (subst (Holds bytes items) (sym run) holds)
    run_keeps bytes items s (Pushed piece ∷ events) end holds run =
        rw (← append_assoc bytes piece (pushed_in_stream events)) (run_keeps (bytes ++ piece) items (push s piece) events end (pushed bytes items s piece holds) run)
    run_keeps bytes items s (Taken item ∷ events) end holds run =
        let later = run_keeps bytes (items ++ item ∷ []) run.0 events end (taken bytes items s item run.0 holds run.1) run.2 in
        rw (append_assoc items (item ∷ []) (given_in_stream events)) at later

  -- each item is taken from more bytes, too
  module _ (more : (old : S) (item : A) (rest : S) (piece : List ℕ) → Takes old item rest → Takes (push old piece) item (push rest piece)) where
    pub AreFirstOfRun-more : (s : S) (items : List A) (rest : S) (piece : List ℕ) → AreFirstOfRun Takes s items rest → AreFirstOfRun Takes (push s piece) items (push rest piece)
    AreFirstOfRun-more s [] rest piece are = ap (λ l. push l piece) are
    AreFirstOfRun-more s (item ∷ items) rest piece are = (push are.0 piece, more s item are.0 piece are.1, AreFirstOfRun-more are.0 items rest piece are.2)

    -- two pieces are pushed as one, and no bytes change nothing
    module _ (joined : (s : S) (one two : List ℕ) → push (push s one) two ≡ push s (one ++ two)) (none : (s : S) → push s [] ≡ s) where
      pub run_law : StreamRunLaw push Takes
      run_law s events end run = run_keeps (λ bytes items t. AreFirstOfRun Takes (push s bytes) items t)
          (λ bytes items t piece are. subst (λ l. AreFirstOfRun Takes l items (push t piece)) (joined s bytes piece) (AreFirstOfRun-more (push s bytes) items t piece are))
          (λ bytes items t item next are takes. AreFirstOfRun-next Takes (push s bytes) items t item next are takes) [] [] s events end (none s) run

-- the same if the state is the held bytes
module _ {A : Type 0} (Takes : List ℕ → A → List ℕ → Type 0) where
  pub stream_law : ((old : List ℕ) (item : A) (rest piece : List ℕ) → Takes old item rest → Takes (old ++ piece) item (rest ++ piece)) → StreamLaw Takes
  stream_law more events end run = run_law (λ bytes piece. bytes ++ piece) Takes more append_assoc append-nil [] events end run
