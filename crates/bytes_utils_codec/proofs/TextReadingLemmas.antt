-- What a reader of texts holds, and its runs.
use Rattle.std.proofs.Common.{◌≡◌, ℕ, ◌<◌, ◌≤◌, Bool, true, false, List, [], ◌∷◌, ◌++◌, length, map, take, drop, Option, None, Some, Ok, Err, IsUtf8, inl, inr, ⊎_elim, arith, ap, ◌∙◌, sym, refl, subst, true≢false, append_assoc, append-nil, take_at, drop_at, length-append, length-take, take-append-drop, IfOk}
use Rattle.std.proofs.lemmas.Bool.{cases_lt}
use Rattle.std.proofs.lemmas.List.{take-append-le, take-take}
use Rattle.std.proofs.lemmas.Str.{IsUtf8-append, IsUtf8-nil, utf8_lossy_empty, utf8_valid_len_le}
use Rattle.std.specs.List.{concat}
use Rattle.std.specs.Str.Lossy.{replacement_bytes, utf8_lossy, utf8_valid_len, utf8_error_len}
use Rattle.bytes_utils_buf.specs.Segments.{front_segment}
use Rattle.bytes_utils_codec.specs.declared.texts.Front.{Front}
use Rattle.bytes_utils_codec.specs.declared.texts.Front.TheVariants.{Text, Fault, Unfinished}
use Rattle.bytes_utils_codec.specs.StreamRuns.{StreamEvent, AreFirstOfRun, pushed_in_stream, given_in_stream}
use Rattle.bytes_utils_codec.specs.TextReading.{IsTextFaultItem, IsTextFront, IsTextRun, IsUnfinishedText, LossyTextLaw, TakesTextItem, TakesLastText, TakesText, TextFaultLaw, TextFrontLaw, TextItem, TextItemsLaw, TextReading, WholeLossyTextLaw, asks_for_text_at_end, asks_for_text, bytes_of_text_item, text_fed, text_of, text_reading}
use Rattle.bytes_utils_codec.proofs.CharacterBegins.{faulty}
use Rattle.bytes_utils_codec.proofs.CharacterCompletes.{may_end}
use Rattle.bytes_utils_codec.proofs.CharacterEnds.{few}
use Rattle.bytes_utils_codec.proofs.FaultLen.{error_len_of_four, fault_more, fault_of_four, fault_some, fault_within}
use Rattle.bytes_utils_codec.proofs.LossyFronts.{lossy_fault, lossy_text, lossy_unfinished, none_more}
use Rattle.bytes_utils_codec.proofs.StreamRunsLemmas.{run_law}
use Rattle.bytes_utils_codec.proofs.ValidLen.{behind_text, front, no_front, none_of_four, valid_len_at}

-- ---- what the held bytes begin with

-- a text at the start of the first piece is one at the start of all
pub text_in_front : (pieces : List (List ℕ)) (len : ℕ) → 0 < len → len ≤ length (front_segment pieces) → IsUtf8 (take len (front_segment pieces))
    → IsTextFront (concat pieces) (Text len)
text_in_front [] len some within utf8 = (some, within, utf8)
text_in_front (piece ∷ pieces) len some within utf8 =
    (some, omega (arith, within, length-append piece (concat pieces)), subst IsUtf8 (sym (take-append-le len piece (concat pieces) within)) utf8)

-- if the pieces begin with no text, the first one doesn't either
pub none_in_front : (pieces : List (List ℕ)) → utf8_valid_len (concat pieces) ≡ 0 → utf8_valid_len (front_segment pieces) ≡ 0
none_in_front [] none = none
none_in_front (piece ∷ pieces) none =
    let len = utf8_valid_len piece in
    let within : len ≤ length piece = utf8_valid_len_le piece in
    ⊎_elim
    (λ some. absurd (no_front (piece ++ concat pieces) none len some (omega (arith, within, length-append piece (concat pieces)))
    (subst IsUtf8 (sym (take-append-le len piece (concat pieces) within)) (front piece))))
    (λ few. omega (arith, few))
    (cases_lt 0 len)

-- four bytes show what all begin with
pub front_of_four : (bytes : List ℕ) (front : Front) → IsTextFront (take 4 bytes) front → IsTextFront bytes front
front_of_four bytes (Text len) is =
    let within : len ≤ length (take 4 bytes) = is.1 in
    let size = length-take 4 bytes in
    (is.0, omega (arith, within, size), subst IsUtf8 (take-take len 4 bytes (omega (arith, within, size))) is.2)
front_of_four bytes (Fault len) is = (none_of_four bytes is.0, sym (error_len_of_four bytes) ∙ is.1)
front_of_four bytes Unfinished is = (none_of_four bytes is.0, sym (error_len_of_four bytes) ∙ is.1)

-- the item for bytes that are no text is at least as long as the text at the start of the first piece, which is empty
pub fault_longest : (pieces : List (List ℕ)) (item : TextItem) → utf8_valid_len (concat pieces) ≡ 0
    → IfOk item (λ text. utf8_valid_len (front_segment pieces) ≤ length text)
fault_longest pieces (Ok text) none = omega (arith, none_in_front pieces none)
fault_longest pieces (Err fault) none = tt

pub is_unfinished : (bytes : List ℕ) → IsTextFront bytes Unfinished → IsUnfinishedText bytes
is_unfinished bytes is = record { none = is.0; may_end = may_end bytes is.0 is.1; few = few bytes is.1 }

pub front_some : (old : List ℕ) (len : ℕ) → IsTextFront old (Text len) → 0 < utf8_valid_len old
front_some old len is = ⊎_elim
    (λ (some : 0 < utf8_valid_len old). some)
    (λ (none : utf8_valid_len old ≤ 0). absurd (no_front old (omega (arith, none)) len is.0 is.1 is.2))
    (cases_lt 0 (utf8_valid_len old))

-- first bytes of what begins with no text are none
pub no_text_in : (old : List ℕ) (len : ℕ) → utf8_valid_len old ≡ 0 → 0 < len → len ≤ length old → ¬ IsUtf8 (take len old)
no_text_in old len none some within = no_front old none len some within

pub text_taken : (old new : TextReading) (len : ℕ) (text : List ℕ) → IsTextFront old.held (Text len) → text ≡ take len old.held
    → new ≡ record old { held = drop len old.held } → TakesTextItem old (Ok text) new
text_taken old new len text is text_is new_is = record {
  lossy = ap (λ (r : TextReading). r.lossy) new_is;
  taken = inl (
    text,
    refl,
    record {
      bytes = sym (take-append-drop len old.held) ∙ (λ i. sym text_is i ++ sym (ap (λ (r : TextReading). r.held) new_is) i);
      some = omega (arith, is.0, is.1, ap length text_is, length-take len old.held);
      utf8 = subst IsUtf8 (sym text_is) is.2;
    },
  );
}

pub fault_taken : (old new : TextReading) (len : ℕ) (item : TextItem) → IsTextFront old.held (Fault len) → IsTextFaultItem old.lossy item (take len old.held)
    → new ≡ record old { held = drop len old.held } → TakesTextItem old item new
fault_taken old new len item is given new_is =
    let size : length (take len old.held) ≡ len = length-take len old.held ∙ omega (arith, fault_within old.held len is.1) in
    record {
      lossy = ap (λ (r : TextReading). r.lossy) new_is;
      taken = inr (
        take len old.held,
        given,
        record {
          bytes = sym (take-append-drop len old.held) ∙ ap (λ l. take len old.held ++ l) (sym (ap (λ (r : TextReading). r.held) new_is));
          none = is.0;
          size = is.1 ∙ ap Some (sym size);
        },
      );
    }

-- ---- more bytes

item_more : (old : TextReading) (item : TextItem) (new : TextReading) (piece : List ℕ) → TakesTextItem old item new
    → TakesTextItem (text_fed old piece) item (text_fed new piece)
item_more old item new piece takes = record {
  lossy = takes.lossy;
  taken = ⊎_elim
      (λ (text, is, took). inl (
        text,
        is,
        record {
          bytes = ap (λ l. l ++ piece) took.bytes ∙ append_assoc text new.held piece;
          some = took.some;
          utf8 = took.utf8;
        },
      ))
      (λ (fault, is, took). inr (
        fault,
        is,
        record {
          bytes = ap (λ l. l ++ piece) took.bytes ∙ append_assoc fault new.held piece;
          none = none_more old.held piece took.none (faulty old.held took.none (fault_of_four old.held (length fault) took.size));
          size = fault_more old.held piece (length fault) took.size;
        },
      ))
      takes.taken;
}

pub text_fault : TextFaultLaw
text_fault old fault rest took = faulty old took.none (fault_of_four old (length fault) took.size)

-- ---- lists of items

abbrev Items : TextReading → List TextItem → TextReading → Type 0
Items r items end = AreFirstOfRun TakesTextItem r items end

ran : (lossy : Bool) (events : List (StreamEvent TextItem)) (end : TextReading) → IsTextRun lossy events end
    → Items (record { held = pushed_in_stream events; lossy = lossy }) (given_in_stream events) end
ran lossy events end run =
    run_law text_fed TakesTextItem item_more (λ r one two. ap (λ l. record r { held = l }) (append_assoc r.held one two))
    (λ r. ap (λ l. record r { held = l }) (append-nil r.held)) (text_reading lossy) events end run

-- of an item for bytes that are none
fault_text : (lossy : Bool) (item : TextItem) (fault : List ℕ) → IsTextFaultItem lossy item fault → text_of item ≡ replacement_bytes
fault_text true item fault is = ap text_of is
fault_text false (Ok text) fault is = absurd is
fault_text false (Err e) fault is = refl

fault_bytes : (lossy : Bool) (item : TextItem) (fault : List ℕ) → lossy ≡ false → IsTextFaultItem lossy item fault → bytes_of_text_item item ≡ fault
fault_bytes true item fault strict is = absurd (true≢false strict)
fault_bytes false (Ok text) fault strict is = absurd is
fault_bytes false (Err e) fault strict is = is.0

no_ok : (lossy : Bool) (text fault : List ℕ) → lossy ≡ false → ¬ IsTextFaultItem lossy (Ok text) fault
no_ok true text fault strict is = true≢false strict
no_ok false text fault strict is = is

-- ---- no byte is lost

item_all : (old : TextReading) (item : TextItem) (new : TextReading) → old.lossy ≡ false → TakesTextItem old item new → old.held ≡ bytes_of_text_item item ++ new.held
item_all old item new strict takes = ⊎_elim
    (λ (text, is, took). took.bytes ∙ ap (λ i. bytes_of_text_item i ++ new.held) (sym is))
    (λ (fault, is, took). took.bytes ∙ ap (λ l. l ++ new.held) (sym (fault_bytes old.lossy item fault strict is)))
    takes.taken

items_all : (r : TextReading) (items : List TextItem) (end : TextReading) → r.lossy ≡ false → Items r items end
    → r.held ≡ concat (map bytes_of_text_item items) ++ end.held
items_all r [] end strict is = ap (λ (t : TextReading). t.held) is
items_all r (item ∷ items) end strict (next, takes, more) =
    item_all r item next strict takes ∙ ap (λ l. bytes_of_text_item item ++ l) (items_all next items end (takes.lossy ∙ strict) more)
    ∙ sym (append_assoc (bytes_of_text_item item) (concat (map bytes_of_text_item items)) end.held)

-- ---- texts

-- of a text only texts come
items_texts : (r : TextReading) (items : List TextItem) (end : TextReading) → Items r items end → IsUtf8 r.held
    → ((texts : List (List ℕ)) × (items ≡ map Ok texts)) × IsUtf8 end.held
items_texts r [] end is utf8 = (([], refl), subst (λ (t : TextReading). IsUtf8 t.held) is utf8)
items_texts r (item ∷ items) end (next, takes, more) utf8 = ⊎_elim
    (λ (text, is, took).
    let later = items_texts next items end more (behind_text text next.held r.held took.bytes took.utf8 utf8) in
    ((text ∷ later.0.0, (λ i. is i ∷ later.0.1 i)), later.1))
    (λ (fault, is, took). absurd (text_fault r.held fault next.held took [] (subst IsUtf8 (sym (append-nil r.held)) utf8)))
    takes.taken

pub text_items : TextItemsLaw
text_items events end run = record {
  all = items_all (record { held = pushed_in_stream events; lossy = false }) (given_in_stream events) end refl (ran false events end run);
  texts = items_texts (record { held = pushed_in_stream events; lossy = false }) (given_in_stream events) end (ran false events end run);
}

is_text : (r : TextReading) (text : List ℕ) (next : TextReading) → r.lossy ≡ false → TakesTextItem r (Ok text) next → TakesText r.held text next.held
is_text r text next strict takes = ⊎_elim
    (λ (other, is, took). subst (λ x. TakesText r.held x next.held) (sym (ap text_of is)) took)
    (λ (fault, is, took). absurd (no_ok r.lossy text fault strict is))
    takes.taken

texts_joined : (r : TextReading) (texts : List (List ℕ)) (end : TextReading) → r.lossy ≡ false → Items r (map Ok texts) end
    → (r.held ≡ concat texts ++ end.held) × IsUtf8 (concat texts)
texts_joined r [] end strict is = (ap (λ (t : TextReading). t.held) is, IsUtf8-nil)
texts_joined r (text ∷ texts) end strict (next, takes, more) =
    let took = is_text r text next strict takes in
    let others = texts_joined next texts end (takes.lossy ∙ strict) more in (
      took.bytes ∙ ap (λ l. text ++ l) others.0 ∙ sym (append_assoc text (concat texts) end.held),
      IsUtf8-append text (concat texts) took.utf8 others.1,
    )

pub text_front : TextFrontLaw
text_front events end texts run are none =
    let bytes = pushed_in_stream events in
    let whole = concat texts in
    let start : TextReading = record { held = bytes; lossy = false } in
    let parts = texts_joined start texts end refl (subst (λ items. Items start items end) are (ran false events end run)) in
    let size : utf8_valid_len bytes ≡ length whole = ap utf8_valid_len parts.0 ∙ valid_len_at whole end.held parts.1 none in
    sym (take_at whole end.held (utf8_valid_len bytes) (sym size)) ∙ ap (take (utf8_valid_len bytes)) (sym parts.0)

-- ---- lossy texts

item_lossy : (old : TextReading) (item : TextItem) (new : TextReading) → TakesTextItem old item new → utf8_lossy old.held ≡ text_of item ++ utf8_lossy new.held
item_lossy old item new takes = ⊎_elim
    (λ (text, is, took). ap utf8_lossy took.bytes ∙ lossy_text text new.held took.utf8 ∙ ap (λ i. text_of i ++ utf8_lossy new.held) (sym is))
    (λ (fault, is, took).
    let rest : drop (length fault) old.held ≡ new.held = ap (drop (length fault)) took.bytes ∙ drop_at fault new.held (length fault) refl in
    lossy_fault old.held (length fault) took.none took.size
    ∙ (λ i. sym (fault_text old.lossy item fault is) i ++ utf8_lossy (rest i)))
    takes.taken

-- a fault is none of a character
no_fault : (old : List ℕ) → IsUnfinishedText old → utf8_error_len old ≡ None
no_fault old is = by (utf8_error_len old) refl
  where
    by : (o : Option ℕ) → utf8_error_len old ≡ o → utf8_error_len old ≡ None
    by None none = none
    by (Some n) some = absurd (faulty old is.none (fault_of_four old n some) is.may_end.0 is.may_end.1)

last_lossy : (old : TextReading) (item : TextItem) (new : TextReading) → TakesLastText old item new → utf8_lossy old.held ≡ text_of item ++ utf8_lossy new.held
last_lossy old item new (inl takes) = item_lossy old item new takes
last_lossy old item new (inr (is, some, given, new_is)) =
    lossy_unfinished old.held is.none (no_fault old.held is) some
    ∙ (λ i. sym (fault_text old.lossy item old.held given) i ++ utf8_lossy (sym (ap (λ (t : TextReading). t.held) new_is) i))

module _ (Takes : TextReading → TextItem → TextReading → Type 0)
    (one : (old : TextReading) (item : TextItem) (new : TextReading) → Takes old item new → utf8_lossy old.held ≡ text_of item ++ utf8_lossy new.held) where
  items_lossy : (r : TextReading) (items : List TextItem) (end : TextReading) → AreFirstOfRun Takes r items end
      → utf8_lossy r.held ≡ concat (map text_of items) ++ utf8_lossy end.held
  items_lossy r [] end is = ap (λ (t : TextReading). utf8_lossy t.held) is
  items_lossy r (item ∷ items) end (next, takes, more) =
      one r item next takes ∙ ap (λ l. text_of item ++ l) (items_lossy next items end more)
      ∙ sym (append_assoc (text_of item) (concat (map text_of items)) (utf8_lossy end.held))

pub lossy_runs : LossyTextLaw
lossy_runs lossy events end run =
    items_lossy TakesTextItem item_lossy (record { held = pushed_in_stream events; lossy = lossy }) (given_in_stream events) end (ran lossy events end run)

pub whole_lossy : WholeLossyTextLaw
whole_lossy lossy events end after last run are none =
    lossy_runs lossy events end run
    ∙ ap (λ l. concat (map text_of (given_in_stream events)) ++ l)
    (items_lossy TakesLastText last_lossy end last after are ∙ ap (λ l. concat (map text_of last) ++ l) (utf8_lossy_empty after.held (ap length none))
    ∙ append-nil (concat (map text_of last)))

-- ---- requests for memory

pub asks_also_at_end : (r : TextReading) → asks_for_text r → asks_for_text_at_end r
asks_also_at_end r (inl some) = inl some
asks_also_at_end r (inr (strict, (n, is))) = inr (strict, omega (arith, fault_some r.held n is, fault_within r.held n is))
