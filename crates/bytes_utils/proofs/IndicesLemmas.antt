-- A step of a splitter gives its part with the place at which it begins.
use Rattle.std.proofs.Common.{◌≡◌, refl, sym, ap, ◌∙◌, ℕ, suc, ◌+◌, ◌-◌, ◌<◌, ◌≤◌, Bool, true, false, List, [], ◌∷◌, ◌++◌, Option, None, Some, Result, Ok, Err, IfSome, length, length-append, append_assoc, append-nil, arith, subst, All, IsUtf8}
use Rattle.std.proofs.lemmas.List.Elements.{All-nil, All-cons}
use Rattle.std.proofs.lemmas.Str.{encodes-append, encodes-chars}
use Rattle.std.specs.Bool.{OnTrue}
use Rattle.std.specs.Option.{option_map, option_map_or}
use Rattle.std.specs.Str.{chars, encode_utf8_all as encodes}
use Rattle.bytes_utils.specs.Indices.{Indexing, indexed, AreIndexedPartsToCome, index_and_chars}
use Rattle.bytes_utils.specs.Occurrence.{OccursAt}
use Rattle.bytes_utils.specs.Parts.{join, ArePartsFromFront}
use Rattle.bytes_utils.specs.Splitting.{Splitting, splitting, AreForwardPartsToCome, ArePartsToCome, most_parts}
use Rattle.bytes_utils.specs.Step.{StepGivesFirst, StepGivesItem, IsStepOf}
use Rattle.bytes_utils.specs.declared.split.direction.Direction.{Direction}
use Rattle.bytes_utils.specs.declared.split.direction.Direction.TheVariants.{Forward}
use Rattle.bytes_utils.proofs.FromEnds.{front-none}
use Rattle.bytes_utils.proofs.NextPart.{no_chars}
use Rattle.bytes_utils.proofs.OccurrenceLemmas.{OccursAt-between}
use Rattle.bytes_utils.proofs.Rejoining.{front_rejoins}

positive-suc : (limit : Option ℕ) → IfSome (option_map suc limit) (λ most. 0 < most)
positive-suc None = tt
positive-suc (Some most) = omega arith

-- the parts to come, joined, are what is left
left_joined : (rest separator : List ℕ) (limit : Option ℕ) (begun : Bool) (part : List ℕ) (others : List (List ℕ)) → OnTrue begun (length separator ≡ 0)
    → AreForwardPartsToCome (splitting (Some rest) separator limit begun) (part ∷ others) → join (chars separator) (part ∷ others) ≡ chars rest
left_joined rest separator limit true part others empty are =
    ap (λ p. join p (part ∷ others)) (no_chars separator empty) ∙ front_rejoins (chars rest) [] (option_map suc limit) ([] ∷ part ∷ others) (positive-suc limit) are
left_joined rest separator None false part others empty are = front_rejoins (chars rest) (chars separator) None (part ∷ others) tt are
left_joined rest separator limit false part others empty are = grind (arith, front-none, front_rejoins, no_chars, positive-suc)

-- so what is left before a step is the part, a separator, and what is left after it
module _ (rest separator left part next : List ℕ) (others : List (List ℕ)) (rest_is : IsUtf8 rest) (separator_is : IsUtf8 separator) (left_is : IsUtf8 left)
    (before : join (chars separator) (part ∷ next ∷ others) ≡ chars rest) (following : join (chars separator) (next ∷ others) ≡ chars left) where
  left_bytes : encodes part ++ (separator ++ left) ≡ rest
  left_bytes =
      rw (← encodes-chars rest rest_is, ← before, following) (simp (encodes-append, encodes-chars separator separator_is, encodes-chars left left_is))

  left_length : length rest ≡ length (encodes part) + (length separator + length left)
  left_length =
      omega (arith, ap length left_bytes, length-append (encodes part) (separator ++ left), length-append separator left)

-- What a splitter with places keeps: what is left ends at the text's length.
pub record IsMeasured (size : ℕ) (s : Indexing) : Type 0 where
  pub separator : IsUtf8 s.parts.separator
  pub rest : IfSome s.parts.rest (λ rest. IsUtf8 rest × (s.at + length rest ≡ size) × OnTrue s.parts.begun (length s.parts.separator ≡ 0))

abbrev indexing : Option (List ℕ) → List ℕ → Option ℕ → Bool → ℕ → Indexing
indexing rest separator limit begun at = record { parts = splitting rest separator limit begun; at = at }

-- after a part, what is left begins one separator later
moved : (rest left : Option (List ℕ)) (separator : List ℕ) (limit limit' : Option ℕ) (begun begun' : Bool) (at at' size : ℕ) (part next : List ℕ) (others : List (List ℕ))
    → IsMeasured size (indexing rest separator limit begun at) → IsMeasured size (indexing left separator limit' begun' at')
    → AreForwardPartsToCome (splitting rest separator limit begun) (part ∷ next ∷ others) → AreForwardPartsToCome (splitting left separator limit' begun') (next ∷ others)
    → at' ≡ at + length (encodes part) + length separator
moved None left separator limit limit' begun begun' at at' size part next others is also are left_are = absurd (omega (arith, ap length are))
moved (Some rest) left separator limit limit' begun begun' at at' size part next others is also are left_are = grind (arith, left_joined, left_length)

module _ (s t : Indexing) (size : ℕ) (part : List ℕ) (same : t.parts.separator ≡ s.parts.separator) (is : IsMeasured size s) (also : IsMeasured size t)
    (gives : StepGivesFirst AreForwardPartsToCome s.parts part t.parts) where
  after_indexed : (others : List (List ℕ)) → AreForwardPartsToCome t.parts others
      → indexed t.parts.separator t.at others ≡ indexed s.parts.separator (s.at + length (encodes part) + length s.parts.separator) others
  after_indexed [] are = refl
  after_indexed (next ∷ others) are =
      let at = moved s.parts.rest t.parts.rest s.parts.separator s.parts.limit t.parts.limit s.parts.begun t.parts.begun s.at t.at size part next others
      is (subst (λ z. IsMeasured size (indexing t.parts.rest z t.parts.limit t.parts.begun t.at)) same also)
      (gives.each (next ∷ others) are)
      (subst (λ z. AreForwardPartsToCome (splitting t.parts.rest z t.parts.limit t.parts.begun) (next ∷ others)) same are) in
      λ k. indexed (same k) (at k) (next ∷ others)

  -- the part is given with its place
  pub gives_indexed : StepGivesFirst AreIndexedPartsToCome s (s.at, part) t
  gives_indexed = record {
    some = (indexed t.parts.separator t.at gives.some.0, (gives.some.0, gives.some.1, refl));
    each = λ items to_come.
        (part ∷ to_come.0, gives.each to_come.0 to_come.1, ap (λ l. (s.at, part) ∷ l) (to_come.2 ∙ after_indexed to_come.0 to_come.1));
  }

-- no part with a place is to come exactly if no part is to come
pub none_indexed : (s : Indexing) → AreForwardPartsToCome s.parts [] → AreIndexedPartsToCome s []
none_indexed s none = ([], none, refl)

pub some_indexed : (s : Indexing) → (¬ AreForwardPartsToCome s.parts []) → ¬ AreIndexedPartsToCome s []
some_indexed s some none = some (no_parts none.0 none.1 none.2)
  where
    no_parts : (parts : List (List ℕ)) → AreForwardPartsToCome s.parts parts → [] ≡ indexed s.parts.separator s.at parts → AreForwardPartsToCome s.parts []
    no_parts [] are is = are
    no_parts (part ∷ parts) are is = absurd (omega (arith, ap length is))

-- a step leaves no more bytes than there were
left_within : (rest left : Option (List ℕ)) (begun begun' : Bool) (separator : List ℕ) (limit limit' : Option ℕ) (at size : ℕ)
    → most_parts (splitting left separator limit' begun') < most_parts (splitting rest separator limit begun)
    → IsMeasured size (indexing rest separator limit begun at) → option_map_or length left 0 ≤ size
left_within rest left begun begun' separator limit limit' at size fewer is = grind arith

pub step_within : (s : Indexing) (t : Splitting) (size : ℕ) → t.separator ≡ s.parts.separator → most_parts t < most_parts s.parts → IsMeasured size s → option_map_or length t.rest 0 ≤ size
step_within s t size same fewer is = left_within s.parts.rest t.rest s.parts.begun t.begun s.parts.separator s.parts.limit t.limit s.at size fewer is

-- so the place at which what is left begins is measured again
pub measured_after : (rest : Option (List ℕ)) (separator : List ℕ) (begun : Bool) (at size left : ℕ) → IfSome rest IsUtf8 → IfSome rest (λ _. OnTrue begun (length separator ≡ 0))
    → left ≡ option_map_or length rest 0 → option_map_or length rest 0 ≤ size → at ≡ size - left
    → IfSome rest (λ r. IsUtf8 r × (at + length r ≡ size) × OnTrue begun (length separator ≡ 0))
measured_after None separator begun at size left is empty left_is within at_is = tt
measured_after (Some r) separator begun at size left is empty left_is within at_is = (is, omega (arith, left_is, within, at_is), empty)

-- a step that gives an item gives it with its place
module _ {E : Type 0} (refuses : Direction → Splitting → E → Type 0) (from : Direction) (forward : from ≡ Forward) (s t : Indexing) (item : Result (List ℕ) E)
    (gives : StepGivesItem chars (ArePartsToCome from) (refuses from) s.parts item t.parts) where
  abbrev IsIndexedStep : Option (Result (ℕ × List ℕ) E) → Type 0
  IsIndexedStep r = IsStepOf index_and_chars AreIndexedPartsToCome (λ i. refuses Forward i.parts) s r t

  forward_item : (it : Result (List ℕ) E) → item ≡ it → StepGivesItem chars AreForwardPartsToCome (refuses Forward) s.parts it t.parts
  forward_item it is = grind arith

  pub ok_indexed : (size at : ℕ) (part : List ℕ) → t.parts.separator ≡ s.parts.separator → IsMeasured size s → IsMeasured size t → item ≡ Ok part → at ≡ s.at
      → (r : Option (Result (ℕ × List ℕ) E)) → r ≡ Some (Ok (at, part)) → IsIndexedStep r
  ok_indexed size at part same is also part_is at_is r r_is =
      let step = forward_item (Ok part) part_is in
      let found : IsIndexedStep (Some (Ok (s.at, part))) =
      record { some = some_indexed s step.some; gives = gives_indexed s t size (chars part) same is also step.gives } in
      subst IsIndexedStep (ap (λ a. Some (Ok (a, part))) (sym at_is) ∙ sym r_is) found

  pub err_indexed : (reason : E) → item ≡ Err reason → (r : Option (Result (ℕ × List ℕ) E)) → r ≡ Some (Err reason) → IsIndexedStep r
  err_indexed reason reason_is r r_is = grind (arith, forward_item, none_indexed, some_indexed)

-- each of the parts of a text occurs in it at its place
module _ (separator : List ℕ) (separator_is : IsUtf8 separator) where
  abbrev Stands : List ℕ → ℕ × List ℕ → Type 0
  Stands text item = OccursAt (encodes item.1) text item.0

  stand_after : (front text : List ℕ) (parts : List (List ℕ)) → text ≡ front ++ encodes (join (chars separator) parts) → All (Stands text) (indexed separator (length front) parts)
  stand_after front text [] is = All-nil (Stands text)
  stand_after front text (part ∷ []) is =
      let whole : text ≡ front ++ (encodes part ++ []) = is ∙ ap (λ z. front ++ z) (sym (append-nil (encodes part))) in
      All-cons (Stands text) (length front, part) []
      (subst (λ t. OccursAt (encodes part) t (length front)) (sym whole) (OccursAt-between front (encodes part) []))
      (All-nil (Stands text))
  stand_after front text (part ∷ next ∷ parts) is =
      let more = encodes (join (chars separator) (next ∷ parts)) in
      let whole : text ≡ front ++ (encodes part ++ (separator ++ more)) = rw (encodes-append, encodes-append, encodes-chars separator separator_is) at is in
      let following : text ≡ (front ++ (encodes part ++ separator)) ++ more = rw (append_assoc, append_assoc) whole in
      let at : length (front ++ (encodes part ++ separator)) ≡ length front + length (encodes part) + length separator =
      omega (arith, length-append front (encodes part ++ separator), length-append (encodes part) separator) in
      All-cons (Stands text) (length front, part) (indexed separator (length front + length (encodes part) + length separator) (next ∷ parts))
      (subst (λ t. OccursAt (encodes part) t (length front)) (sym whole) (OccursAt-between front (encodes part) (separator ++ more)))
      (subst (λ n. All (Stands text) (indexed separator n (next ∷ parts))) at (stand_after (front ++ (encodes part ++ separator)) text (next ∷ parts) following))

  module _ (text : List ℕ) (text_is : IsUtf8 text) where
    stand_joined : (parts : List (List ℕ)) → join (chars separator) parts ≡ chars text → All (Stands text) (indexed separator 0 parts)
    stand_joined parts joined = stand_after [] text parts (sym (ap encodes joined ∙ encodes-chars text text_is))

    pub part_places : (limit : Option ℕ) (parts : List (List ℕ)) → ArePartsFromFront (chars text) (chars separator) limit parts → All (Stands text) (indexed separator 0 parts)
    part_places limit parts are = grind (arith, All-nil, front-none, front_rejoins, stand_joined)
