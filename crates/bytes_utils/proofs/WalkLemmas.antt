-- A whole run of an iterator that splits at the places that a closure returns.
use Rattle.std.proofs.Common.{◌≡◌, refl, sym, ap, subst, ◌∙◌, ℕ, zero, suc, ◌≤◌, List, [], ◌∷◌, ◌++◌, map, take, drop, take-append-drop, Option, None, Some, Result, Ok, Err, MatchOption, MatchResult, IsUtf8, All, arith}
use Rattle.std.specs.Option.{IsSomeAnd}
use Rattle.std.specs.Fn.{Mut, CalledAt}
use Rattle.std.specs.Iterator.{Yields, Drains}
use Rattle.std.proofs.lemmas.List.{map-append}
use Rattle.std.proofs.lemmas.List.Elements.{All-nil, All-cons}
use Rattle.std.proofs.lemmas.Str.{IsUtf8-take, IsUtf8-drop}
use denote.Ref.{Bor}
use Rattle.bytes_utils.specs.declared.split.direction.Direction.{Direction}
use Rattle.bytes_utils.specs.declared.split.direction.Direction.TheVariants.{Forward, Backward}
use Rattle.bytes_utils.specs.ClosureWalk.{Walk, TakenInWalk, IsLawfulClosureCut, IsLawfulClosure, IsWalkStep, FollowsClosureAnswer, IsAnswered, AreAnswered, IsWholeWalk, walk_chunk_at, walk_gap_at, walk_rest_at, laid_out}

-- a list is what is before one place, what is between it and a later one, and what is after that
three_pieces : {X : Type 0} (t : List X) (a b : ℕ) → a ≤ b → take a t ++ (drop a (take b t) ++ drop b t) ≡ t
three_pieces t zero b order = take-append-drop b t
three_pieces t (suc a) zero order = absurd (omega arith)
three_pieces [] (suc a) (suc b) order = refl
three_pieces (x ∷ t) (suc a) (suc b) order = ap (λ l. x ∷ l) (three_pieces t a b (omega arith))

rest-text : (direction : Direction) (text : List ℕ) (a b : ℕ) → IsUtf8 text → IsLawfulClosureCut direction text a b → IsUtf8 (walk_rest_at direction text a b)
rest-text Forward text a b text_is cut = IsUtf8-drop text b text_is cut.1
rest-text Backward text a b text_is cut = IsUtf8-take text b text_is cut.1

-- one more cut, before those of the rest
laid_out-more : (direction : Direction) (text : List ℕ) (a b : ℕ) → IsLawfulClosureCut direction text a b → (chunk : List ℕ) → chunk ≡ walk_chunk_at direction text a b
    → (cuts : List TakenInWalk) (last : List ℕ) → laid_out direction cuts last ≡ walk_rest_at direction text a b
    → laid_out direction (record { chunk = chunk; gap = walk_gap_at direction text a b } ∷ cuts) last ≡ text
laid_out-more direction text a b cut chunk is cuts last rest = grind (arith, three_pieces)

module _ {F E : Type 0} (f : Mut F (Bor (List ℕ) × Unit {0}) (Option (ℕ × ℕ))) (refuses_cut : Type 0 → E → Type 0) where
  -- what a step says of what is left and of the closure, besides the direction
  abbrev Steps : Direction → F → Option (Result (List ℕ) E) → Option (List ℕ) → F → Option (List ℕ) → Type 0
  Steps direction state r left after rest = MatchOption rest ((r ≡ None) × (left ≡ None) × (after ≡ state))
      (λ text. (answer : Option (ℕ × ℕ)) × CalledAt f state text answer after × IsSomeAnd r (λ item. FollowsClosureAnswer refuses_cut direction text answer item left))

  -- if nothing is left, no item comes
  nothing_more : (items : List (Result (List ℕ) E)) (s t : Walk F) → s.rest ≡ None → Yields (IsWalkStep f refuses_cut) s items t → items ≡ []
  nothing_more [] s t none run = refl
  nothing_more (item ∷ items) s t none run =
      let step = subst (Steps s.direction s.closure (Some item) run.0.rest run.0.closure) none run.1.follows in
      cc (step.0)

  module _ (direction : Direction) (lawful : IsLawfulClosure f direction) where
    -- an item that follows a result of the closure, and the run over what it left
    from_answer : (items : List (Result (List ℕ) E)) (item : Result (List ℕ) E) (text : List ℕ) → IsUtf8 text → (state after : F) (answer : Option (ℕ × ℕ)) (rest : Option (List ℕ))
        → CalledAt f state text answer after → FollowsClosureAnswer refuses_cut direction text answer item rest → (rest ≡ None → items ≡ [])
        → ((next : List ℕ) → IsUtf8 next → rest ≡ Some next → IsWholeWalk f refuses_cut direction next items) → IsWholeWalk f refuses_cut direction text (item ∷ items)
    from_answer items item text text_is state after None rest called follows nothing more =
        let done = nothing follows.1 in
        let first = follows.0 in
        record { cuts = []; last = text; joined = refl; answered = tt; end = Ok text; gives = λ k. first k ∷ done k; ends = (refl, state, after, called) }
    from_answer items (Ok chunk) text text_is state after (Some (a, b)) rest called follows nothing more =
        let cut = lawful.lawful state text a b after text_is called in
        let inner = more (walk_rest_at direction text a b) (rest-text direction text a b text_is cut) follows.1 in
        let whole = laid_out-more direction text a b cut chunk follows.0 inner.cuts inner.last inner.joined in
        let taken : TakenInWalk = record { chunk = chunk; gap = walk_gap_at direction text a b } in
        let first : IsAnswered f direction text taken =
        record { state = state; after = after; chunk_edge = a; separator_edge = b; called = called; chunk = follows.0; gap = refl } in
        record {
          cuts = taken ∷ inner.cuts;
          last = inner.last;
          joined = whole;
          answered = (subst (λ t. IsAnswered f direction t taken) (sym whole) first, inner.answered);
          end = inner.end;
          gives = ap (λ l. Ok chunk ∷ l) inner.gives;
          ends = inner.ends;
        }
    from_answer items (Err reason) text text_is state after (Some (a, b)) rest called follows nothing more =
        let done = nothing follows.1 in
        record { cuts = []; last = text; joined = refl; answered = tt; end = Err reason; gives = λ k. Err reason ∷ done k; ends = (state, after, a, b, called, follows.0) }

    -- the chunks of a whole run and what it left out make the text
    pub whole-walk : (items : List (Result (List ℕ) E)) (s : Walk F) (text : List ℕ) → IsUtf8 text → s.rest ≡ Some text → s.direction ≡ direction
        → Drains (IsWalkStep f refuses_cut) s items → IsWholeWalk f refuses_cut direction text items
    whole-walk [] s text text_is rest_is same run =
        let left = ap (λ (w : Walk F). w.rest) (sym run.1.1) ∙ rest_is in
        let step = subst (Steps run.1.0.direction run.1.0.closure None run.0.rest run.0.closure) left run.1.2.follows in
        absurd step.2
    whole-walk (item ∷ items) s text text_is rest_is same run =
        let next : Walk F = run.1.1.0 in
        let step = subst (Steps s.direction s.closure (Some item) next.rest next.closure) rest_is run.1.1.1.follows in
        let follows = subst (λ d. FollowsClosureAnswer refuses_cut d text step.0 item next.rest) same step.2 in
        from_answer items item text text_is s.closure next.closure step.0 next.rest step.1 follows
        (λ none. nothing_more items next run.1.0 none run.1.1.2)
        (λ rest rest_text left. whole-walk items next rest rest_text left (run.1.1.1.direction ∙ same) (run.0, (run.1.0, run.1.1.2, run.1.2)))

-- A step that gave a chunk, if each result of the closure meets Q: the closure returned a result for what was left,
-- which meets Q, and the chunk and what is left now follow from it.
pub chunk-given : {F E : Type 0} {f : Mut F (Bor (List ℕ) × Unit {0}) (Option (ℕ × ℕ))} {refuses_cut : Type 0 → E → Type 0} {s t : Walk F} {item : Result (List ℕ) E} {chunk : List ℕ}
    (Q : List ℕ → Option (ℕ × ℕ) → Type 0) → ((state after : F) (text : List ℕ) (answer : Option (ℕ × ℕ)) → CalledAt f state text answer after → Q text answer)
    → item ≡ Ok chunk → IsWalkStep f refuses_cut s (Some item) t
    → (text : List ℕ) × (answer : Option (ℕ × ℕ)) × (s.rest ≡ Some text) × Q text answer × FollowsClosureAnswer refuses_cut s.direction text answer (Ok chunk) t.rest
chunk-given {F} {E} {f} {refuses_cut} {s} {t} {item} {chunk} Q meets is step = from s.rest refl step.follows
  where
    from : (rest : Option (List ℕ)) → s.rest ≡ rest → Steps f refuses_cut s.direction s.closure (Some item) t.rest t.closure rest
        → (text : List ℕ) × (answer : Option (ℕ × ℕ)) × (s.rest ≡ Some text) × Q text answer × FollowsClosureAnswer refuses_cut s.direction text answer (Ok chunk) t.rest
    from None none h = let no_item = h.0 in cc
    from (Some text) rest_is h =
        (text, h.0, rest_is, meets s.closure t.closure text h.0 h.1, subst (λ i. FollowsClosureAnswer refuses_cut s.direction text h.0 i t.rest) is h.2)

-- what holds of the chunk and the gap of each cut that the closure may return holds of all that it returned
pub each-taken : {F : Type 0} {f : Mut F (Bor (List ℕ) × Unit {0}) (Option (ℕ × ℕ))} (direction : Direction) (P : List ℕ → List ℕ → Type 0)
    → ((state after : F) (text : List ℕ) (a b : ℕ) → CalledAt f state text (Some (a, b)) after → P (walk_chunk_at direction text a b) (walk_gap_at direction text a b))
    → (cuts : List TakenInWalk) (last : List ℕ) → AreAnswered f direction cuts last → All (λ cut. P cut.chunk cut.gap) cuts
each-taken direction P meets [] last are = All-nil (λ cut. P cut.chunk cut.gap)
each-taken direction P meets (cut ∷ cuts) last are =
    let first = are.0 in
    let text : List ℕ = laid_out direction (cut ∷ cuts) last in
    let here : P cut.chunk cut.gap =
    subst (λ c. P c cut.gap) (sym first.chunk) (subst (λ g. P (walk_chunk_at direction text first.chunk_edge first.separator_edge) g) (sym first.gap)
    (meets first.state first.after text first.chunk_edge first.separator_edge first.called)) in
    All-cons (λ c. P c.chunk c.gap) cut cuts here (each-taken direction P meets cuts last are.1)

-- the items of a run without a refusal are the chunks of its cuts, and then what these left
all_ok : {E : Type 0} (chunks : List (List ℕ)) (cuts : List TakenInWalk) (end : Result (List ℕ) E) (last : List ℕ) → map (λ chunk. Ok chunk) chunks ≡ map (λ cut. Ok cut.chunk) cuts ++ (end ∷ [])
    → ((chunk : List ℕ) → end ≡ Ok chunk → chunk ≡ last) → chunks ≡ map (λ cut. cut.chunk) cuts ++ (last ∷ [])
all_ok [] [] end last e is = cc
all_ok (chunk ∷ []) [] end last e is = ap (λ c. c ∷ []) (is chunk (cc))
all_ok (chunk ∷ next ∷ chunks) [] end last e is = cc
all_ok [] (cut ∷ cuts) end last e is = cc
all_ok (chunk ∷ chunks) (cut ∷ cuts) end last e is =
    let same : chunk ≡ cut.chunk = cc in
    let more = all_ok chunks cuts end last (cc) is in
    λ k. same k ∷ more k

-- Without a refusal no chunk is missing: they are the chunks of the cuts that the closure returned, and at last what
-- these left. With what was left out, joined in order, they are the text.
pub none-missing : {F E : Type 0} {f : Mut F (Bor (List ℕ) × Unit {0}) (Option (ℕ × ℕ))} {refuses_cut : Type 0 → E → Type 0} {direction : Direction} {text : List ℕ} (chunks : List (List ℕ))
    → IsWholeWalk f refuses_cut direction text (map (λ chunk. Ok chunk) chunks)
    → (cuts : List TakenInWalk) × (last : List ℕ) × (laid_out direction cuts last ≡ text) × AreAnswered f direction cuts last × (chunks ≡ map (λ cut. cut.chunk) cuts ++ (last ∷ []))
none-missing {F} {E} {f} {refuses_cut} chunks run = grind (arith, MatchResult, all_ok)

-- The invariant of a loop over such an iterator: the chunks so far are those of cuts that, laid out with what they
-- left, are the text. What they left is still to be split, or was the last chunk.
pub record HasTaken (direction : Direction) (text : List ℕ) (chunks : List (List ℕ)) (rest : Option (List ℕ)) : Type 0 where
  pub cuts : List TakenInWalk
  pub left : List ℕ
  pub left_text : IsUtf8 left
  pub joined : laid_out direction cuts left ≡ text
  pub taken : MatchOption rest (chunks ≡ map (λ cut. cut.chunk) cuts ++ (left ∷ [])) (λ more. (more ≡ left) × (chunks ≡ map (λ cut. cut.chunk) cuts))

-- before the first step
pub HasTaken-none : (direction : Direction) (text : List ℕ) (rest : Option (List ℕ)) → IsUtf8 text → rest ≡ Some text → HasTaken direction text [] rest
HasTaken-none direction text rest text_is is = rw is record { cuts = []; left = text; left_text = text_is; joined = refl; taken = (refl, refl) }

laid_out-push : (direction : Direction) (cuts : List TakenInWalk) (cut : TakenInWalk) (left : List ℕ)
    → laid_out direction (cuts ++ (cut ∷ [])) left ≡ laid_out direction cuts (laid_out direction (cut ∷ []) left)
laid_out-push direction [] cut left = refl
laid_out-push Forward (first ∷ cuts) cut left = ap (λ l. first.chunk ++ (first.gap ++ l)) (laid_out-push Forward cuts cut left)
laid_out-push Backward (first ∷ cuts) cut left = ap (λ l. l ++ (first.gap ++ first.chunk)) (laid_out-push Backward cuts cut left)

-- after a step that gave a chunk
module _ {F : Type 0} {f : Mut F (Bor (List ℕ) × Unit {0}) (Option (ℕ × ℕ))} {direction : Direction} (lawful : IsLawfulClosure f direction) {text : List ℕ} {chunks : List (List ℕ)} where
  one_more : {E : Type 0} (refuses_cut : Type 0 → E → Type 0) (chunk left : List ℕ) (h : HasTaken direction text chunks (Some left)) (state after : F) (answer : Option (ℕ × ℕ)) (new : Option (List ℕ))
      → CalledAt f state left answer after → FollowsClosureAnswer refuses_cut direction left answer (Ok chunk) new → HasTaken direction text (chunks ++ (chunk ∷ [])) new
  one_more refuses_cut chunk left h state after None new called follows =
      let is = follows.0 in
      let old = h.taken.0 in
      let same : chunk ≡ h.left = cc in
      let all : chunks ++ (chunk ∷ []) ≡ map (λ cut. cut.chunk) h.cuts ++ (h.left ∷ []) = λ k. h.taken.1 k ++ (same k ∷ []) in
      rw follows.1 record { cuts = h.cuts; left = h.left; left_text = h.left_text; joined = h.joined; taken = all }
  one_more refuses_cut chunk left h state after (Some (a, b)) new called follows =
      let text_is = subst IsUtf8 (sym h.taken.0) h.left_text in
      let cut = lawful.lawful state left a b after text_is called in
      let taken : TakenInWalk = record { chunk = chunk; gap = walk_gap_at direction left a b } in
      let cuts : List TakenInWalk = h.cuts ++ (taken ∷ []) in
      let rest : List ℕ = walk_rest_at direction left a b in
      let all : chunks ++ (chunk ∷ []) ≡ map (λ c. c.chunk) cuts = ap (λ l. l ++ (chunk ∷ [])) h.taken.1 ∙ sym (map-append (λ (c : TakenInWalk). c.chunk) h.cuts (taken ∷ [])) in
      rw follows.1 record {
        cuts = cuts;
        left = rest;
        left_text = rest-text direction left a b text_is cut;
        joined = laid_out-push direction h.cuts taken rest ∙ ap (laid_out direction h.cuts) (laid_out-more direction left a b cut chunk follows.0 [] rest refl ∙ h.taken.0) ∙ h.joined;
        taken = (refl, all);
      }

pub HasTaken-more : {F E : Type 0} {f : Mut F (Bor (List ℕ) × Unit {0}) (Option (ℕ × ℕ))} {refuses_cut : Type 0 → E → Type 0} {text : List ℕ} {chunks : List (List ℕ)} {s t : Walk F} {item : Result (List ℕ) E} {chunk : List ℕ}
    → IsWalkStep f refuses_cut s (Some item) t → item ≡ Ok chunk → IsLawfulClosure f s.direction → HasTaken s.direction text chunks s.rest
    → HasTaken t.direction text (chunks ++ (chunk ∷ [])) t.rest
HasTaken-more {F} {E} {f} {refuses_cut} {text} {chunks} {s} {t} {item} {chunk} step is lawful h =
    let follows = subst (λ i. Steps f refuses_cut s.direction s.closure (Some i) t.rest t.closure s.rest) is step.follows in
    subst (λ d. HasTaken d text (chunks ++ (chunk ∷ [])) t.rest) (sym step.direction) (from s.rest h follows)
  where
    from : (rest : Option (List ℕ)) → HasTaken s.direction text chunks rest → Steps f refuses_cut s.direction s.closure (Some (Ok chunk)) t.rest t.closure rest
        → HasTaken s.direction text (chunks ++ (chunk ∷ [])) t.rest
    from None old taken = let no_item = taken.0 in cc
    from (Some left) old taken = one_more lawful refuses_cut chunk left old s.closure t.closure taken.0 t.rest taken.1 taken.2

-- after the last step: the chunks, with what was left out, joined in order, are the text
pub HasTaken-all : {direction : Direction} {text : List ℕ} {chunks : List (List ℕ)} {rest : Option (List ℕ)} → HasTaken direction text chunks rest → rest ≡ None
    → (cuts : List TakenInWalk) × (last : List ℕ) × (laid_out direction cuts last ≡ text) × (chunks ≡ map (λ cut. cut.chunk) cuts ++ (last ∷ []))
HasTaken-all {chunks = chunks} h none =
    (h.cuts, h.left, h.joined, rw none at h.taken)

-- a step that gave no item had nothing left
pub nothing-left : {F E : Type 0} {f : Mut F (Bor (List ℕ) × Unit {0}) (Option (ℕ × ℕ))} {refuses_cut : Type 0 → E → Type 0} {s t : Walk F} → IsWalkStep f refuses_cut s None t → s.rest ≡ None
nothing-left {F} {E} {f} {refuses_cut} {s} {t} step = grind arith
