-- Event streams.
use Rattle.std.proofs.Common.{◌≡◌, ◌≢◌, ℕ, ◌+◌, ◌-◌, ◌==◌, ◌<◌, ◌≤◌, List, [], ◌∷◌, ◌++◌, inl, inr, Bool, true, false, length, take, drop, Option, None, Some, Ok, Err, ap, ◌∙◌, sym, refl, subst, arith, append_assoc, length-append, if◌then◌else◌, IsUtf8, unwrap_or}
use Rattle.std.specs.Prelude.{IfNone, MatchOption, codes, nat_eq, nat_lt, not, ◌^◌, ◌&&◌}
use Rattle.std.specs.Cmp.Lexicographic.{pointwise}
use Rattle.std.specs.Option.{IsSomeAnd, option_or}
use Rattle.std.specs.Char.{digit_value}
use Rattle.std.specs.List.{after_first, list_all, list_any, position_or_len, starts_with}
use Rattle.std.specs.Str.Parse.{AllDigits, digits_value}
use Rattle.std.specs.Str.{IsCharBoundary}
use Rattle.std.proofs.Math.Seq.{drop-append_seam}
use Rattle.std.proofs.lemmas.Bool.{and_from, and_parts, cases_Bool, cond-false, cond-true, lt-ltb, ltb-true, ne_eqb}
use Rattle.std.proofs.lemmas.List.{take-append-drop}
use Rattle.std.proofs.lemmas.Str.{IsCharBoundary-at_seam}
use denote.Ref.{Bor}
use Rattle.bytes_utils_codec.specs.StreamRuns.{AreFirstOfRun}
use Rattle.bytes_utils_codec.specs.Decoding.{Item}
use Rattle.bytes_utils_codec.specs.LineReading.{LineItem}
use Rattle.bytes_utils_codec.specs.UniversalReading.{gives_universal, keeps_universal}
use Rattle.bytes_utils_codec.specs.UniversalReadingLaws.{universal_same, universal_shortens}
use Rattle.bytes_utils_codec.specs.declared.decode.lines.LineFault.{LineFault}
use Rattle.bytes_utils_codec.specs.declared.decode.lines.LineFault.TheVariants.{NotUtf8 as NotText, TooLong}
use Rattle.bytes_utils_codec.proofs.StreamRunsLemmas.{AreFirstOfRun-next}
use Rattle.bytes_utils_protocols.specs.Events.{AsksForEventData, AsksForEventEnd, AsksForEventField, AsksForEventLine, AsksForEventText, DoesEventLine, Eventing, GivesEvent, IsEndOfEventLine, IsEventTooLarge, KeepsEvents, LosesNoEvent, PassesEventFault, ReadsEventLines, ReadsEventLine, TakesNextEventLine, EventBuffers, WaitsWithEventTooLarge, event_error_of, events_left_to_read, waiting_event_lines, after_event_field, after_event_line, event_byte_order_mark, event_content, event_field_name, event_field_value, is_event_colon, is_event_number, event_name_of, event_number_of, event_text_len, event_value_of, with_event_line}
use Rattle.bytes_utils_protocols.specs.Digits.{WriteNumber}
use Rattle.bytes_utils_protocols.specs.declared.events.Event.{Event}
use Rattle.bytes_utils_protocols.specs.declared.events.EventError.TheVariants.{NotUtf8}

-- one more line is read
pub reads_more : (start old taken new : Eventing) (line : List ℕ) → ReadsEventLines start old → TakesNextEventLine old line taken → DoesEventLine taken line new → ReadsEventLines start new
reads_more start old taken new line reads takes does =
    (reads.0 ++ line ∷ [], AreFirstOfRun-next ReadsEventLine start reads.0 old line new reads.1 (record { taken = taken; takes = takes; does = does }))

-- ---- what a line does

pub if_none : {A P Q : Type 0} → (o : Option A) → IfNone o P → (P → Q) → IfNone o Q
if_none None is so = so is
if_none (Some x) is so = is

-- an empty line where there is no data
pub does_empty : (old mid : Eventing) (line : List ℕ) → IsUtf8 line → event_content old.at_start line ≡ [] → old.buffers.text ≡ None
    → mid ≡ record old { buffers = record old.buffers { name = None } } → DoesEventLine old line (record mid { at_start = false })
does_empty old mid line utf8 empty none is = record {
  utf8 = utf8;
  ends_none = λ _. none;
  after = rw (is, empty) refl;
  small = rw (is, none) (omega arith);
}

buffers_after_field : (buffers : EventBuffers) (text : List ℕ) → text ≢ [] → after_event_line buffers text ≡ after_event_field buffers (event_field_name text) (event_field_value text)
buffers_after_field buffers [] some = absurd (some refl)
buffers_after_field buffers (c ∷ t) some = refl

-- a field with which the data would be too large
pub field_too_large : (old : Eventing) (line text : List ℕ) → text ≡ event_content old.at_start line → text ≢ []
    → old.max_data < event_text_len (after_event_field old.buffers (event_field_name text) (event_field_value text)).text → IsEventTooLarge old line
field_too_large old line text is some large =
    let buffers : old.max_data < event_text_len (after_event_line old.buffers text).text = subst (λ (t : EventBuffers). old.max_data < event_text_len t.text) (sym (buffers_after_field old.buffers text some)) large in
    ((λ e. some (is ∙ e)), subst (λ t. old.max_data < event_text_len (after_event_line old.buffers t).text) is buffers)

-- a field with which the data is not too large
pub field_not_large : (old : Eventing) (line text : List ℕ) → text ≡ event_content old.at_start line → text ≢ []
    → event_text_len (after_event_field old.buffers (event_field_name text) (event_field_value text)).text ≤ old.max_data → ¬ IsEventTooLarge old line
field_not_large old line text is some small large =
    let here = subst (λ t. old.max_data < event_text_len (after_event_line old.buffers t).text) (sym is) large.1 in
    let buffers = subst (λ (t : EventBuffers). old.max_data < event_text_len t.text) (buffers_after_field old.buffers text some) here in
    omega (arith, small, buffers)

-- only a field of data changes the text
pub text_after_other : (buffers : EventBuffers) (name value : List ℕ) → pointwise nat_eq name (codes "data") ≡ false
    → (after_event_field buffers name value).text ≡ buffers.text
text_after_other buffers name value other =
    ap (λ (t : EventBuffers). t.text) (cond-false (pointwise nat_eq name (codes "data")) (record buffers { text = Some (with_event_line buffers.text value) }) rest other)
    ∙ by (pointwise nat_eq name (codes "event")) (pointwise nat_eq name (codes "id") && not (list_any (λ c. nat_eq c 0) value)) (pointwise nat_eq name (codes "retry"))
  where
    after : Bool → Bool → Bool → EventBuffers
    after is_name is_id is_time =
        if is_name then record buffers { name = event_name_of value }
        else if is_id then record buffers { id = Some value }
        else if is_time then record buffers { retry = option_or (event_number_of value) buffers.retry }
        else buffers

    rest : EventBuffers
    rest = after (pointwise nat_eq name (codes "event")) (pointwise nat_eq name (codes "id") && not (list_any (λ c. nat_eq c 0) value)) (pointwise nat_eq name (codes "retry"))

    by : (a b c : Bool) → (after a b c).text ≡ buffers.text
    by true b c = refl
    by false true c = refl
    by false false true = refl
    by false false false = refl

-- a line that is no field asks for memory where the end of the event does
pub asks_empty : (old : Eventing) (line text : List ℕ) → text ≡ event_content old.at_start line → text ≡ []
    → IsSomeAnd old.buffers.text (λ before. AsksForEventEnd before old.buffers.id) → AsksForEventLine old line
asks_empty old line text is empty asks = subst (AsksForEventText old.buffers) (sym empty ∙ is) asks

pub asks_field : (old : Eventing) (line text : List ℕ) → text ≡ event_content old.at_start line → text ≢ []
    → AsksForEventField old.buffers (event_field_name text) (event_field_value text) → AsksForEventLine old line
asks_field old line text is some asks = subst (AsksForEventText old.buffers) is (by text some asks)
  where
    by : (t : List ℕ) → t ≢ [] → AsksForEventField old.buffers (event_field_name t) (event_field_value t) → AsksForEventText old.buffers t
    by [] none asks = absurd (none refl)
    by (c ∷ t) none asks = asks

-- data that is too large is not empty, or comes after other data
pub large_asks : (text : Option (List ℕ)) (line : List ℕ) (limit : ℕ) → limit < length (with_event_line text line) → AsksForEventData text line
large_asks None line limit large = omega (arith, large)
large_asks (Some before) line limit large = tt

-- a field
pub does_field : (old mid : Eventing) (line : List ℕ) → IsUtf8 line → event_content old.at_start line ≢ []
    → mid ≡ record old { buffers = after_event_field old.buffers (event_field_name (event_content old.at_start line)) (event_field_value (event_content old.at_start line)) }
    → event_text_len mid.buffers.text ≤ mid.max_data → DoesEventLine old line (record mid { at_start = false })
does_field old mid line utf8 some is small =
    let buffers = buffers_after_field old.buffers (event_content old.at_start line) some in
    let limits : mid.max_data ≡ old.max_data = ap (λ (r : Eventing). r.max_data) is in
    record {
      utf8 = utf8;
      ends_none = λ empty. absurd (some empty);
      after = ap (λ (r : Eventing). record r { at_start = false }) (is ∙ ap (λ t. record old { buffers = t }) (sym buffers));
      small = subst (λ l. event_text_len mid.buffers.text ≤ l) limits small;
    }

-- ---- less is left to read

-- a line is taken off the held bytes, or waits no more
taken_less : (old taken : Eventing) (line : List ℕ) → TakesNextEventLine old line taken → events_left_to_read taken < events_left_to_read old
taken_less old taken line takes =
    by old.waiting takes.next
  where
    none : taken.waiting ≡ None
    none = ap (λ (r : Eventing). r.waiting) takes.others

    by : (waiting : Option (List ℕ)) → MatchOption waiting (gives_universal old.lines (Item (Ok line)) taken.lines) (λ w. (line ≡ w) × (taken.lines ≡ old.lines))
        → events_left_to_read taken < length old.lines.held + waiting_event_lines waiting
    by None next = rw none (omega (arith, universal_shortens old.lines (Ok line) taken.lines next (λ e. absurd cc)))
    by (Some w) next = rw (none, next.1) (omega arith)

same_left : (old new : Eventing) → new.lines ≡ old.lines → new.waiting ≡ old.waiting → events_left_to_read new ≡ events_left_to_read old
same_left old new lines waiting = rw (lines, waiting) refl

pub reads_less : (old taken new : Eventing) (line : List ℕ) → TakesNextEventLine old line taken → DoesEventLine taken line new → events_left_to_read new < events_left_to_read old
reads_less old taken new line takes does =
    let same = same_left taken new (ap (λ (r : Eventing). r.lines) does.after) (ap (λ (r : Eventing). r.waiting) does.after) in
    omega (arith, same, taken_less old taken line takes)

reads_no_more : (lines : List (List ℕ)) (old new : Eventing) → AreFirstOfRun ReadsEventLine old lines new → events_left_to_read new ≤ events_left_to_read old
reads_no_more [] old new are = omega (arith, ap events_left_to_read are)
reads_no_more (line ∷ lines) old new are =
    omega (arith, reads_less old are.1.taken are.0 line are.1.takes are.1.does, reads_no_more lines are.0 new are.2)

pub gives_less : (old : Eventing) (event : Event) (new : Eventing) → GivesEvent old event new → events_left_to_read new < events_left_to_read old
gives_less old event new gives =
    let same = same_left gives.taken new (ap (λ (r : Eventing). r.lines) gives.ends.after) (ap (λ (r : Eventing). r.waiting) gives.ends.after) in
    omega (arith, same, taken_less gives.before gives.taken gives.line gives.takes, reads_no_more gives.reads.0 old gives.before gives.reads.1)

not_long : (fault : LineFault) (item : LineItem) → item ≡ Err fault → NotUtf8 ≡ event_error_of fault → item ≡ Err TooLong → ⊥
not_long TooLong item one is e = absurd cc
not_long (NotText fault) item one is e = absurd cc

-- a line that isn't UTF-8 is passed over
pub fault_less : (old new : Eventing) → PassesEventFault old NotUtf8 new → events_left_to_read new < events_left_to_read old
fault_less old new passes =
    let mid = passes.0 in
    let fault = passes.2 in
    let waiting : new.waiting ≡ mid.waiting = ap (λ (r : Eventing). r.waiting) fault.others in
    let less = universal_shortens mid.lines (Err fault.fault) new.lines fault.gives (not_long fault.fault (Err fault.fault) refl fault.is) in
    omega (arith, ap waiting_event_lines waiting, less, reads_no_more passes.1.0 old mid passes.1.1)

-- ---- what a call of the decoder did

-- with no line
pub keeps_none : (old new : Eventing) → old.waiting ≡ None → keeps_universal old.lines new.lines → new ≡ record old { lines = new.lines } → KeepsEvents old new
keeps_none old new none keeps is = record { none = none; same = universal_same old.lines new.lines keeps; others = is }

-- a line that can't be read is kept
pub over_kept : (old mid taken new : Eventing) (line : List ℕ) → ReadsEventLines old mid → TakesNextEventLine mid line taken → IsUtf8 line → new ≡ record taken { waiting = Some line }
    → IsEventTooLarge taken line → LosesNoEvent old new × WaitsWithEventTooLarge new
over_kept old mid taken new line reads takes utf8 waits large = (
  (mid, reads, inr (record { line = line; taken = taken; takes = takes; utf8 = utf8; waits = waits })),
  (line, ap (λ (r : Eventing). r.waiting) waits, subst (λ r. IsEventTooLarge r line) (sym waits) large),
)

-- ---- the ends of a line

end_self : (text : List ℕ) → IsEndOfEventLine text text
end_self text = ([], refl)

end_drop : (text : List ℕ) (n : ℕ) → IsEndOfEventLine text (drop n text)
end_drop text n = (take n text, sym (take-append-drop n text))

pub end_end : (line text value : List ℕ) → IsEndOfEventLine line text → IsEndOfEventLine text value → IsEndOfEventLine line value
end_end line text value first second =
    (first.0 ++ second.0, first.1 ∙ ap (λ l. first.0 ++ l) second.1 ∙ sym (append_assoc first.0 second.0 value))

pub content_end : (at_start : Bool) (line : List ℕ) → IsEndOfEventLine line (event_content at_start line)
content_end at_start line = by (at_start && starts_with nat_eq line event_byte_order_mark)
  where
    by : (marked : Bool) → IsEndOfEventLine line (if marked then drop 3 line else line)
    by true = end_drop line 3
    by false = end_self line

space_end : (text : List ℕ) → IsEndOfEventLine text (event_value_of text)
space_end [] = end_self []
space_end (c ∷ t) = by (c == 32)
  where
    by : (is : Bool) → IsEndOfEventLine (c ∷ t) (if is then t else c ∷ t)
    by true = (c ∷ [], refl)
    by false = end_self (c ∷ t)

pub value_end : (text : List ℕ) → IsEndOfEventLine text (event_field_value text)
value_end text = end_end text (after_first is_event_colon text) (event_field_value text) (end_drop text (position_or_len is_event_colon text + 1)) (space_end (after_first is_event_colon text))

-- where an end may be cut off
pub end_boundary : (line end : List ℕ) → IsEndOfEventLine line end → IsUtf8 end → IsCharBoundary line (length line - length end)
end_boundary line end is utf8 =
    let place : length line - length end ≡ length is.0 = omega (arith, ap length is.1, length-append is.0 end) in
    subst (IsCharBoundary line) (sym place) (IsCharBoundary-at_seam line is.0 end is.1 utf8)

pub end_dropped : (line end : List ℕ) → IsEndOfEventLine line end → drop (length line - length end) line ≡ end
end_dropped line end is =
    let place : length line - length end ≡ length is.0 = omega (arith, ap length is.1, length-append is.0 end) in
    rw (place) (ap (drop (length is.0)) is.1 ∙ drop-append_seam is.0 end)

-- by what a search for a space found
pub without_space_found : (text : List ℕ) (found : Option (Bor (List ℕ))) → MatchOption found ((rest : List ℕ) → text ≢ 32 ∷ rest) (λ x. text ≡ 32 ∷ x.now)
    → (other : Bor (List ℕ)) → other.now ≡ text → (unwrap_or found other).now ≡ event_value_of text
without_space_found text (Some x) is other same = rw is refl
without_space_found [] None none other same = same
without_space_found (c ∷ t) None none other same = rw (ne_eqb c 32 (λ e. none t (ap (λ x. x ∷ t) e))) same

-- ---- a time to wait

digits_listed : (text : List ℕ) → AllDigits 10 text → list_all (λ c. nat_lt (digit_value c) 10) text ≡ true
digits_listed [] all = refl
digits_listed (c ∷ t) all = and_from (nat_lt (digit_value c) 10) _ (lt-ltb (digit_value c) 10 all.0) (digits_listed t all.1)

listed_digits : (text : List ℕ) → list_all (λ c. nat_lt (digit_value c) 10) text ≡ true → AllDigits 10 text
listed_digits [] all = tt
listed_digits (c ∷ t) all =
    let parts = and_parts (nat_lt (digit_value c) 10) (list_all (λ c. nat_lt (digit_value c) 10) t) all in
    (ltb-true (digit_value c) 10 parts.0, listed_digits t parts.1)

pub number_found : (text : List ℕ) (found : Option ℕ) → MatchOption found ((n : ℕ) → WriteNumber text n → ⊥) (λ n. WriteNumber text n) → found ≡ event_number_of text
number_found text (Some n) writes =
    let below : nat_lt (digits_value 10 text) (2 ^ 64) ≡ true = lt-ltb (digits_value 10 text) (2 ^ 64) (omega (arith, writes.1, writes.2)) in
    let is : is_event_number text ≡ true =
    and_from (nat_lt 0 (length text)) _ (lt-ltb 0 (length text) writes.0.0) (and_from (list_all (λ c. nat_lt (digit_value c) 10) text) _ (digits_listed text writes.0.1) below) in
    ap Some (sym writes.1) ∙ sym (cond-true (is_event_number text) (Some (digits_value 10 text)) None is)
number_found text None none = elim (cases_Bool (is_event_number text)) [
  | inl is ↦
      let parts = and_parts (nat_lt 0 (length text)) _ is in
      let others = and_parts (list_all (λ c. nat_lt (digit_value c) 10) text) _ parts.1 in
      absurd (none (digits_value 10 text) ((ltb-true 0 (length text) parts.0, listed_digits text others.0), refl, ltb-true (digits_value 10 text) (2 ^ 64) others.1))
  | inr is_not ↦ sym (cond-false (is_event_number text) (Some (digits_value 10 text)) None is_not)
]
