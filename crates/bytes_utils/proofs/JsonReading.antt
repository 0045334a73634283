-- A JSON value represents at most one list of bytes, so each result of reading comes exactly if its cause holds.
use Rattle.std.proofs.Common.{◌≡◌, ◌≢◌, ◌⊎◌, inl, inr, ℕ, ◌<◌, List, [], ◌∷◌, Some, Result, Ok, Err, IfOk, IfErr, IsOk, IsUtf8, map, refl, sym, ap, subst}
use Rattle.std.specs.Prelude.{◌↔◌, All}
use Rattle.std.specs.Result.{is_ok}
use Rattle.std.proofs.lemmas.Result.{IfErr-at_err}
use Rattle.serde_json.specs.Data.{Data, null, boolean, number, string, array, object, Items}
use Rattle.serde_json.specs.Find.{as_array}
use Rattle.serde_json.specs.Read.{read}
use Rattle.serde_json.specs.View.{items_of}
use Rattle.bytes_utils.specs.declared.json.JsonRefused.{JsonRefused}
use Rattle.bytes_utils.specs.declared.json.JsonRefused.TheVariants.{OutOfMemory, NotJson, NotText, NotUtf8}
use Rattle.bytes_utils.specs.Json.{json_number, JsonRepresents, IsJsonRefusal, JsonHoldsBytes, JsonHoldsText, JsonHoldsNoBytes, JsonHoldsOtherBytes}

-- equal JSON lists have equal members
pub same_members : (xs ys : List Data) → items_of xs ≡ items_of ys → xs ≡ ys
same_members [] [] e = refl
same_members [] (y ∷ ys) e = absurd cc
same_members (x ∷ xs) [] e = absurd cc
same_members (x ∷ xs) (y ∷ ys) e =
    cc (same_members xs ys (cc))

same_numbers : (a b : List ℕ) → map json_number a ≡ map json_number b → a ≡ b
same_numbers [] [] e = refl
same_numbers [] (n ∷ b) e = absurd cc
same_numbers (m ∷ a) [] e = absurd cc
same_numbers (m ∷ a) (n ∷ b) e =
    cc (same_numbers a b (cc))

-- a value represents at most one list of bytes
pub same_bytes : (value : Data) (a b : List ℕ) → JsonRepresents value a → JsonRepresents value b → a ≡ b
same_bytes value a b (inl is_a) (inl is_b) = cc
same_bytes value a b (inl is_a) (inr is_b) = let list_is = is_b.0 in absurd cc
same_bytes value a b (inr is_a) (inl is_b) = let list_is = is_a.0 in absurd cc
same_bytes value a b (inr is_a) (inr is_b) =
    let same : items_of (map json_number a) ≡ items_of (map json_number b) = cc (is_a.0, is_b.0) in
    same_numbers a b (same_members _ _ same)

-- the value of a JSON list is a list
pub array_from : (value : Data) (members : Items) → Some members ≡ as_array value → value ≡ array members
array_from null members e = absurd cc
array_from (boolean b) members e = absurd cc
array_from (number n) members e = absurd cc
array_from (string s) members e = absurd cc
array_from (array ds) members e = cc
array_from (object ms) members e = absurd cc

-- a list that is not one of bytes represents no bytes
pub represents_nothing : (value : Data) (members : List Data) → value ≡ array (items_of members)
    → ((ns : List ℕ) → All (λ n. n < 256) ns → members ≢ map json_number ns) → (bytes : List ℕ) → ¬ JsonRepresents value bytes
represents_nothing value members is other bytes (inl is_string) = absurd cc
represents_nothing value members is other bytes (inr is_list) =
    let same : items_of members ≡ items_of (map json_number bytes) = cc (is_list.0) in
    other bytes is_list.1 (same_members _ _ same)

-- the error, if the only cause of one is that U fails
pub refused_where_not : {T E F U : Type 0} (P : F → Type 0) (f : F) (r : Result T E) (s : Result T F) → is_ok s ≡ is_ok r → (U → IsOk r)
    → IfErr s (λ e. e ≡ f) → (¬ U → P f) → IfErr s P
refused_where_not P f r (Ok x) same holds is refused = tt
refused_where_not P f (Ok x) (Err e) same holds is refused = absurd cc
refused_where_not P f (Err d) (Err e) same holds is refused = subst P (sym is) (refused (λ u. let is_ok = holds u in cc))

module _ (json : List ℕ) (value : Data) (has : read json ≡ Some value) where
  same : (other : Data) → read json ≡ Some other → other ≡ value
  same other one = cc

  stands : (bytes : List ℕ) → JsonHoldsBytes json bytes → JsonRepresents value bytes
  stands bytes holds = rw (same holds.0 holds.1) at holds.2

  nothing : JsonHoldsNoBytes json → (bytes : List ℕ) → ¬ JsonRepresents value bytes
  nothing holds bytes = rw (same holds.0 holds.1) at (holds.2 bytes)

  pub reads_text : (r : Result (List ℕ) JsonRefused) → IfOk r (λ text. JsonRepresents value text) → IfErr r (λ e. IsJsonRefusal value e)
      → (text : List ℕ) → JsonHoldsText json text → (r ≡ Ok text) ⊎ (r ≡ Err OutOfMemory)
  reads_text (Ok t) ok err text holds = inl (ap Ok (same_bytes value t text ok (stands text holds.0)))
  reads_text (Err OutOfMemory) ok err text holds = inr refl
  reads_text (Err NotJson) ok err text holds = absurd err
  reads_text (Err NotText) ok err text holds = absurd (err text (stands text holds.0))
  reads_text (Err NotUtf8) ok err text holds =
      absurd (err.2 (subst IsUtf8 (same_bytes value text err.0 (stands text holds.0) err.1) holds.1))

  is_not_text : (r : Result (List ℕ) JsonRefused) → IfOk r (λ text. JsonRepresents value text) → IfErr r (λ e. IsJsonRefusal value e)
      → r ≢ Err OutOfMemory → JsonHoldsNoBytes json → r ≡ Err NotText
  is_not_text (Ok t) ok err other holds = absurd (nothing holds t ok)
  is_not_text (Err OutOfMemory) ok err other holds = absurd (other refl)
  is_not_text (Err NotJson) ok err other holds = absurd err
  is_not_text (Err NotText) ok err other holds = refl
  is_not_text (Err NotUtf8) ok err other holds = absurd (nothing holds err.0 err.1)

  is_not_utf8 : (r : Result (List ℕ) JsonRefused) → IfOk r (λ text. JsonRepresents value text × IsUtf8 text) → IfErr r (λ e. IsJsonRefusal value e)
      → r ≢ Err OutOfMemory → JsonHoldsOtherBytes json → r ≡ Err NotUtf8
  is_not_utf8 (Ok t) ok err other holds =
      absurd (holds.2 (subst IsUtf8 (same_bytes value t holds.0 ok.0 (stands holds.0 holds.1)) ok.1))
  is_not_utf8 (Err OutOfMemory) ok err other holds = absurd (other refl)
  is_not_utf8 (Err NotJson) ok err other holds = absurd err
  is_not_utf8 (Err NotText) ok err other holds = absurd (err holds.0 (stands holds.0 holds.1))
  is_not_utf8 (Err NotUtf8) ok err other holds = refl

  pub refuses_other_value : (r : Result (List ℕ) JsonRefused) → IfOk r (λ text. JsonRepresents value text) → IfErr r (λ e. IsJsonRefusal value e)
      → r ≢ Err OutOfMemory → (r ≡ Err NotText) ↔ JsonHoldsNoBytes json
  refuses_other_value r ok err other = (λ is. (value, has, IfErr-at_err _ is err), is_not_text r ok err other)

  pub refuses_other_bytes : (r : Result (List ℕ) JsonRefused) → IfOk r (λ text. JsonRepresents value text × IsUtf8 text) → IfErr r (λ e. IsJsonRefusal value e)
      → r ≢ Err OutOfMemory → (r ≡ Err NotUtf8) ↔ JsonHoldsOtherBytes json
  refuses_other_bytes r ok err other =
      (λ is. let bytes = IfErr-at_err (λ e. IsJsonRefusal value e) is err in (bytes.0, (value, has, bytes.1), bytes.2), is_not_utf8 r ok err other)
