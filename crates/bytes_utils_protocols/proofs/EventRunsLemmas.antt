-- Runs of calls for events.
use Rattle.std.proofs.Common.{◌≡◌, ℕ, List, [], ◌∷◌, ◌++◌, inl, inr, true, false, Option, None, Some, Result, Ok, Err, ap, ◌∙◌, sym, refl, subst, arith, append-nil, unwrap_or}
use Rattle.std.specs.Prelude.{MatchOption}
use Rattle.std.specs.List.{flat_map}
use Rattle.std.specs.Option.{option_to_list}
use Rattle.std.proofs.lemmas.Bool.{true≢false}
use Rattle.std.proofs.lemmas.List.Concat.{flat_map-append}
use Rattle.bytes_utils_codec.specs.Decoding.{Item, fed}
use Rattle.bytes_utils_codec.specs.StreamRuns.{AreFirstOfRun}
use Rattle.bytes_utils_codec.specs.UniversalReading.{AwaitsUniversal, gives_universal}
use Rattle.bytes_utils_codec.specs.UniversalReadingLaws.{universal_single, universal_stable, universal_waits}
use Rattle.bytes_utils_codec.proofs.DecodingLemmas.{SameNext-fed, SameNext-now, SameNext-refl, SameNext-trans, fed-joined}
use Rattle.bytes_utils_codec.proofs.StreamRunsLemmas.{AreFirstOfRun-more, AreFirstOfRun-next, run_keeps, same_first_law}
use Rattle.bytes_utils_protocols.specs.Events.{DoesEventLine, EndsEvent, Eventing, GivesEventItem, IsEventTooLarge, KeepsEvents, LosesNoEvent, ReadsEventLines, ReadsEventLine, ReadsNoEventLine, TakesEventFault, TakesNextEventLine, WaitsWithEventTooLarge, after_event_line, event_content, event_error_of, pushed_to_events, event_text_len, EventRunLaw, EventGiven, LargeEventLaw, NoEventLaw, ReturnsEvent, SameEventLaw, no_event_bytes_held}
use Rattle.bytes_utils_protocols.specs.declared.events.Event.{Event}
use Rattle.bytes_utils_protocols.specs.declared.events.EventError.{EventError}
use Rattle.bytes_utils_protocols.specs.declared.events.Limits.{Limits}

-- what a call gives
abbrev EventItem : Type 0
EventItem = Result Event EventError

-- ---- the line that gives something

-- the next line ends this event
record Ends (old : Eventing) (event : Event) (new : Eventing) : Type 0 where
  line : List ℕ
  taken : Eventing
  takes : TakesNextEventLine old line taken
  ends : EndsEvent taken line event new

-- the next line ends this event, or is passed over
abbrev Stops : Eventing → EventItem → Eventing → Type 0
Stops old (Ok event) new = Ends old event new
Stops old (Err error) new = TakesEventFault old error new

-- some lines are read before it
record Comes (old : Eventing) (item : EventItem) (new : Eventing) : Type 0 where
  lines : List (List ℕ)
  before : Eventing
  reads : AreFirstOfRun ReadsEventLine old lines before
  stops : Stops before item new

comes : (old : Eventing) (item : EventItem) (new : Eventing) → GivesEventItem old item new → Comes old item new
comes old (Ok event) new gives = record {
  lines = gives.reads.0;
  before = gives.before;
  reads = gives.reads.1;
  stops = record { line = gives.line; taken = gives.taken; takes = gives.takes; ends = gives.ends };
}
comes old (Err error) new gives = record { lines = gives.1.0; before = gives.0; reads = gives.1.1; stops = gives.2 }

given : (old : Eventing) (item : EventItem) (new : Eventing) → Comes old item new → GivesEventItem old item new
given old (Ok event) new c = record {
  before = c.before;
  reads = (c.lines, c.reads);
  line = c.stops.line;
  taken = c.stops.taken;
  takes = c.stops.takes;
  ends = c.stops.ends;
}
given old (Err error) new c = (c.before, (c.lines, c.reads), c.stops)

-- ---- more bytes

next_more : (old : Eventing) (line : List ℕ) (new : Eventing) (piece : List ℕ) → TakesNextEventLine old line new → TakesNextEventLine (pushed_to_events old piece) line (pushed_to_events new piece)
next_more old line new piece takes =
    record { next = by old.waiting takes.next; others = ap (λ r. pushed_to_events r piece) takes.others }
  where
    by : (waiting : Option (List ℕ)) → MatchOption waiting (gives_universal old.lines (Item (Ok line)) new.lines) (λ w. (line ≡ w) × (new.lines ≡ old.lines))
        → MatchOption waiting (gives_universal (fed old.lines piece) (Item (Ok line)) (fed new.lines piece))
        (λ w. (line ≡ w) × (fed new.lines piece ≡ fed old.lines piece))
    by None next = universal_stable old.lines (Ok line) new.lines piece next
    by (Some w) next = (next.0, ap (λ l. fed l piece) next.1)

does_more : (old : Eventing) (line : List ℕ) (new : Eventing) (piece : List ℕ) → DoesEventLine old line new → DoesEventLine (pushed_to_events old piece) line (pushed_to_events new piece)
does_more old line new piece does =
    record { utf8 = does.utf8; ends_none = does.ends_none; after = ap (λ r. pushed_to_events r piece) does.after; small = does.small }

line_more : (old : Eventing) (line : List ℕ) (new : Eventing) (piece : List ℕ) → ReadsEventLine old line new → ReadsEventLine (pushed_to_events old piece) line (pushed_to_events new piece)
line_more old line new piece reads = record {
  taken = pushed_to_events reads.taken piece;
  takes = next_more old line reads.taken piece reads.takes;
  does = does_more reads.taken line new piece reads.does;
}

ends_more : (old : Eventing) (line : List ℕ) (event : Event) (new : Eventing) (piece : List ℕ) → EndsEvent old line event new
    → EndsEvent (pushed_to_events old piece) line event (pushed_to_events new piece)
ends_more old line event new piece ends =
    record { empty = ends.empty; text = ends.text; name = ends.name; id = ends.id; after = ap (λ r. pushed_to_events r piece) ends.after }

stops_more : (old : Eventing) (item : EventItem) (new : Eventing) (piece : List ℕ) → Stops old item new → Stops (pushed_to_events old piece) item (pushed_to_events new piece)
stops_more old (Ok event) new piece stops = record {
  line = stops.line;
  taken = pushed_to_events stops.taken piece;
  takes = next_more old stops.line stops.taken piece stops.takes;
  ends = ends_more stops.taken stops.line event new piece stops.ends;
}
stops_more old (Err error) new piece stops = record {
  none = stops.none;
  fault = stops.fault;
  gives = universal_stable old.lines (Err stops.fault) new.lines piece stops.gives;
  is = stops.is;
  others = ap (λ r. pushed_to_events r piece) stops.others;
}

reads_fed : (old : Eventing) (lines : List (List ℕ)) (new : Eventing) (piece : List ℕ) → AreFirstOfRun ReadsEventLine old lines new
    → AreFirstOfRun ReadsEventLine (pushed_to_events old piece) lines (pushed_to_events new piece)
reads_fed old lines new piece are = AreFirstOfRun-more pushed_to_events ReadsEventLine line_more old lines new piece are

item_more : (old : Eventing) (item : EventItem) (new : Eventing) (piece : List ℕ) → GivesEventItem old item new → GivesEventItem (pushed_to_events old piece) item (pushed_to_events new piece)
item_more old item new piece gives =
    let c = comes old item new gives in
    given (pushed_to_events old piece) item (pushed_to_events new piece) (record {
      lines = c.lines;
      before = pushed_to_events c.before piece;
      reads = reads_fed old c.lines c.before piece c.reads;
      stops = stops_more c.before item new piece c.stops;
    })

none_more : (old new : Eventing) (piece : List ℕ) → ReadsNoEventLine old new → ReadsNoEventLine (pushed_to_events old piece) (pushed_to_events new piece)
none_more old new piece (inl keeps) = inl (record {
  none = keeps.none;
  same = SameNext-fed gives_universal old.lines new.lines piece keeps.same;
  others = ap (λ r. pushed_to_events r piece) keeps.others;
})
none_more old new piece (inr awaits) = inr (record {
  line = awaits.line;
  taken = pushed_to_events awaits.taken piece;
  takes = next_more old awaits.line awaits.taken piece awaits.takes;
  utf8 = awaits.utf8;
  waits = ap (λ r. pushed_to_events r piece) awaits.waits;
})

loses_more : (old new : Eventing) (piece : List ℕ) → LosesNoEvent old new → LosesNoEvent (pushed_to_events old piece) (pushed_to_events new piece)
loses_more old new piece loses =
    (pushed_to_events loses.0 piece, (loses.1.0, reads_fed old loses.1.0 loses.0 piece loses.1.1), none_more loses.0 new piece loses.2)

-- ---- after a call that lost nothing

no_line : (o : Option (List ℕ)) (line : List ℕ) → o ≡ None → o ≡ Some line → ⊥
no_line o line none some = true≢false (ap (λ (o : Option (List ℕ)). elim o [ None ↦ true | Some x ↦ false ]) (sym none ∙ some))

-- a line that no line waits before is the next one of the stream
from_stream : (old : Eventing) (line : List ℕ) (new : Eventing) → old.waiting ≡ None → TakesNextEventLine old line new → gives_universal old.lines (Item (Ok line)) new.lines
from_stream old line new none takes =
    subst (λ w. MatchOption w (gives_universal old.lines (Item (Ok line)) new.lines) (λ waiting. (line ≡ waiting) × (new.lines ≡ old.lines))) none takes.next

waiting_next : (old : Eventing) (awaits_line : List ℕ) (taken : Eventing) (line : List ℕ) (new : Eventing) → TakesNextEventLine old awaits_line taken
    → TakesNextEventLine (record taken { waiting = Some awaits_line }) line new → TakesNextEventLine old line new
waiting_next old awaits_line taken line new takes next =
    let lines : new.lines ≡ taken.lines = next.next.1 in
    let same : new ≡ taken = next.others ∙ ap (λ l. record taken { lines = l; waiting = None }) lines
    ∙ ap (λ w. record taken { waiting = w }) (sym (ap (λ (r : Eventing). r.waiting) takes.others)) in
    rw (next.next.0, same) takes

kept_next : (old new : Eventing) (line : List ℕ) (taken : Eventing) → KeepsEvents old new → TakesNextEventLine new line taken → TakesNextEventLine old line taken
kept_next old new line taken keeps takes =
    let none : new.waiting ≡ None = ap (λ (r : Eventing). r.waiting) keeps.others ∙ keeps.none in
    let gives = (SameNext-now gives_universal old.lines new.lines keeps.same (Item (Ok line)) taken.lines).1 (from_stream new line taken none takes) in
    record {
      next =
          subst (λ w. MatchOption w (gives_universal old.lines (Item (Ok line)) taken.lines) (λ waiting. (line ≡ waiting) × (taken.lines ≡ old.lines)))
          (sym keeps.none) gives;
      others = takes.others ∙ ap (λ (r : Eventing). record r { lines = taken.lines; waiting = None }) keeps.others;
    }

-- what is read then is read without that call
resumed : (old new : Eventing) → ReadsNoEventLine old new → (line : List ℕ) (taken : Eventing) → TakesNextEventLine new line taken → TakesNextEventLine old line taken
resumed old new (inl keeps) line taken takes = kept_next old new line taken keeps takes
resumed old new (inr awaits) line taken takes =
    waiting_next old awaits.line awaits.taken line taken awaits.takes (subst (λ r. TakesNextEventLine r line taken) awaits.waits takes)

resumed_stop : (old new : Eventing) → ReadsNoEventLine old new → (item : EventItem) (end : Eventing) → Stops new item end → Stops old item end
resumed_stop old new none (Ok event) end stops =
    record { line = stops.line; taken = stops.taken; takes = resumed old new none stops.line stops.taken stops.takes; ends = stops.ends }
resumed_stop old new (inl keeps) (Err error) end stops = record {
  none = keeps.none;
  fault = stops.fault;
  gives = (SameNext-now gives_universal old.lines new.lines keeps.same (Item (Err stops.fault)) end.lines).1 stops.gives;
  is = stops.is;
  others = stops.others ∙ ap (λ (r : Eventing). record r { lines = end.lines; at_start = false }) keeps.others;
}
resumed_stop old new (inr awaits) (Err error) end stops =
    absurd (no_line new.waiting awaits.line stops.none (ap (λ (r : Eventing). r.waiting) awaits.waits))

none_twice : (old mid new : Eventing) → ReadsNoEventLine old mid → ReadsNoEventLine mid new → ReadsNoEventLine old new
none_twice old mid new (inl a) (inl b) = inl (record {
  none = a.none;
  same = SameNext-trans gives_universal old.lines mid.lines new.lines a.same b.same;
  others = b.others ∙ ap (λ (r : Eventing). record r { lines = new.lines }) a.others;
})
none_twice old mid new (inr a) (inl b) = absurd (no_line mid.waiting a.line b.none (ap (λ (r : Eventing). r.waiting) a.waits))
none_twice old mid new none (inr b) = inr (record {
  line = b.line;
  taken = b.taken;
  takes = resumed old mid none b.line b.taken b.takes;
  utf8 = b.utf8;
  waits = b.waits;
})

lines_append : (old : Eventing) (xs : List (List ℕ)) (mid : Eventing) (ys : List (List ℕ)) (new : Eventing) → AreFirstOfRun ReadsEventLine old xs mid → AreFirstOfRun ReadsEventLine mid ys new
    → AreFirstOfRun ReadsEventLine old (xs ++ ys) new
lines_append old [] mid ys new first later = subst (λ r. AreFirstOfRun ReadsEventLine r ys new) (sym first) later
lines_append old (x ∷ xs) mid ys new first later = (first.0, first.1, lines_append first.0 xs mid ys new first.2 later)

-- the first of the lines that are read then
resumed_lines : (old mid : Eventing) (line : List ℕ) (lines : List (List ℕ)) (new : Eventing) → (loses : LosesNoEvent old mid) → AreFirstOfRun ReadsEventLine mid (line ∷ lines) new
    → ReadsEventLines old new
resumed_lines old mid line lines new loses are =
    let one = are.1 in
    let first : ReadsEventLine loses.0 line are.0 = record { taken = one.taken; takes = resumed loses.0 mid loses.2 line one.taken one.takes; does = one.does } in
    (loses.1.0 ++ line ∷ lines, lines_append old loses.1.0 loses.0 (line ∷ lines) new loses.1.1 (are.0, first, are.2))

loses_gives : (old mid : Eventing) (item : EventItem) (new : Eventing) → LosesNoEvent old mid → GivesEventItem mid item new → GivesEventItem old item new
loses_gives old mid item new loses gives =
    let c = comes mid item new gives in
    given old item new (by c.before c.stops c.lines c.reads)
  where
    by : (before : Eventing) → Stops before item new → (lines : List (List ℕ)) → AreFirstOfRun ReadsEventLine mid lines before → Comes old item new
    by before stops [] are = record {
      lines = loses.1.0;
      before = loses.0;
      reads = loses.1.1;
      stops = resumed_stop loses.0 mid loses.2 item new (subst (λ r. Stops r item new) (sym are) stops);
    }
    by before stops (line ∷ lines) are =
        let reads = resumed_lines old mid line lines before loses are in
        record { lines = reads.0; before = before; reads = reads.1; stops = stops }

loses_twice : (old mid new : Eventing) → LosesNoEvent old mid → LosesNoEvent mid new → LosesNoEvent old new
loses_twice old mid new loses later = by later.1.0 later.1.1 later.2
  where
    by : (lines : List (List ℕ)) → AreFirstOfRun ReadsEventLine mid lines later.0 → ReadsNoEventLine later.0 new → LosesNoEvent old new
    by [] are none = (loses.0, loses.1, none_twice loses.0 mid new loses.2 (subst (λ r. ReadsNoEventLine r new) (sym are) none))
    by (line ∷ lines) are none = (later.0, resumed_lines old mid line lines later.0 loses are, none)

-- ---- runs

kept : (s : Eventing) → s.waiting ≡ None → LosesNoEvent s s
kept s none = (s, ([], refl), inl (record { none = none; same = SameNext-refl gives_universal s.lines; others = refl }))

-- after an event, or a line that is passed over, no line waits
stops_none : (old : Eventing) (item : EventItem) (new : Eventing) → Stops old item new → new.waiting ≡ None
stops_none old (Ok event) new stops =
    ap (λ (r : Eventing). r.waiting) stops.ends.after ∙ ap (λ (r : Eventing). r.waiting) stops.takes.others
stops_none old (Err error) new stops = ap (λ (r : Eventing). r.waiting) stops.others ∙ stops.none

module _ (limits : Limits) where
  abbrev start : Eventing
  start = no_event_bytes_held limits

  -- the events are the first ones of the bytes, and nothing of the bytes after them is lost
  record Holds (bytes : List ℕ) (items : List EventGiven) (reading : Eventing) : Type 0 where
    mid : Eventing
    first : AreFirstOfRun GivesEventItem (pushed_to_events start bytes) (flat_map option_to_list items) mid
    loses : LosesNoEvent mid reading

  holds_pushed : (bytes : List ℕ) (items : List EventGiven) (reading : Eventing) (piece : List ℕ) → Holds bytes items reading → Holds (bytes ++ piece) items (pushed_to_events reading piece)
  holds_pushed bytes items reading piece holds =
      let events = flat_map option_to_list items in
      let joined : pushed_to_events (pushed_to_events start bytes) piece ≡ pushed_to_events start (bytes ++ piece) = ap (λ l. record start { lines = l }) (fed-joined start.lines bytes piece) in
      record {
        mid = pushed_to_events holds.mid piece;
        first = subst (λ r. AreFirstOfRun GivesEventItem r events (pushed_to_events holds.mid piece)) joined
            (AreFirstOfRun-more pushed_to_events GivesEventItem item_more (pushed_to_events start bytes) events holds.mid piece holds.first);
        loses = loses_more holds.mid reading piece holds.loses;
      }

  holds_taken : (bytes : List ℕ) (items : List EventGiven) (reading : Eventing) (item : EventGiven) (next : Eventing) → Holds bytes items reading → ReturnsEvent reading item next
      → Holds bytes (items ++ item ∷ []) next
  holds_taken bytes items reading None next holds returns = record {
    mid = holds.mid;
    first = rw (flat_map-append option_to_list items (None ∷ []), append-nil (flat_map option_to_list items)) holds.first;
    loses = loses_twice holds.mid reading next holds.loses returns;
  }
  holds_taken bytes items reading (Some item) next holds returns =
      let gives = loses_gives holds.mid reading item next holds.loses returns in
      let c = comes holds.mid item next gives in
      record {
        mid = next;
        first = rw (flat_map-append option_to_list items (Some item ∷ []))
            (AreFirstOfRun-next GivesEventItem (pushed_to_events start bytes) (flat_map option_to_list items) holds.mid item next holds.first gives);
        loses = kept next (stops_none c.before item next c.stops);
      }

pub event_run_law : EventRunLaw
event_run_law limits events end run =
    let holds = run_keeps pushed_to_events ReturnsEvent (Holds limits) (holds_pushed limits) (holds_taken limits) [] [] (no_event_bytes_held limits) events end
    (record { mid = no_event_bytes_held limits; first = refl; loses = kept (no_event_bytes_held limits) refl }) run in
    (holds.mid, holds.first, holds.loses)

-- ---- one list of events

next_same : (old : Eventing) (line other : List ℕ) (a b : Eventing) → TakesNextEventLine old line a → TakesNextEventLine old other b → (line ≡ other) × (a ≡ b)
next_same old line other a b p q =
    let same = by old.waiting p.next q.next in
    (same.0, p.others ∙ ap (λ l. record old { lines = l; waiting = None }) same.1 ∙ sym q.others)
  where
    by : (waiting : Option (List ℕ)) → MatchOption waiting (gives_universal old.lines (Item (Ok line)) a.lines) (λ w. (line ≡ w) × (a.lines ≡ old.lines))
        → MatchOption waiting (gives_universal old.lines (Item (Ok other)) b.lines) (λ w. (other ≡ w) × (b.lines ≡ old.lines)) → (line ≡ other) × (a.lines ≡ b.lines)
    by None p q =
        let same = universal_single old.lines (Item (Ok line)) (Item (Ok other)) a.lines b.lines p q in
        (cc (same.0), same.1)
    by (Some w) p q = (p.0 ∙ sym q.0, p.1 ∙ sym q.1)

-- a line that is a text is not passed over
text_or_fault : (old : Eventing) (line : List ℕ) (error : EventError) (a b : Eventing) → TakesNextEventLine old line a → TakesEventFault old error b → ⊥
text_or_fault old line error a b takes fault =
    let same = universal_single old.lines (Item (Ok line)) (Item (Err fault.fault)) a.lines b.lines (from_stream old line a fault.none takes) fault.gives in
    cc (same.0)

-- a line that ends an event does nothing else
one_or_other : (old : Eventing) (line : List ℕ) (event : Event) (a b : Eventing) → DoesEventLine old line a → EndsEvent old line event b → ⊥
one_or_other old line event a b does ends = no_line old.buffers.text event.data (does.ends_none ends.empty) ends.text

ends_same : (old : Eventing) (line : List ℕ) (e f : Event) (a b : Eventing) → EndsEvent old line e a → EndsEvent old line f b → (e ≡ f) × (a ≡ b)
ends_same old line e f a b p q =
    let text : e.data ≡ f.data = ap (λ o. unwrap_or o []) (sym p.text ∙ q.text) in
    let name : e.name ≡ f.name = p.name ∙ sym q.name in
    let id : e.id ≡ f.id = p.id ∙ sym q.id in
    ((λ i. record { name = name i; «data» = text i; id = id i }), p.after ∙ sym q.after)

fault_same : (old : Eventing) (e f : EventError) (a b : Eventing) → TakesEventFault old e a → TakesEventFault old f b → (e ≡ f) × (a ≡ b)
fault_same old e f a b p q =
    let same = universal_single old.lines (Item (Err p.fault)) (Item (Err q.fault)) a.lines b.lines p.gives q.gives in
    let fault : p.fault ≡ q.fault = cc (same.0) in
    (p.is ∙ ap event_error_of fault ∙ sym q.is, p.others ∙ ap (λ l. record old { lines = l; at_start = false }) same.1 ∙ sym q.others)

stops_same : (old : Eventing) (x y : EventItem) (a b : Eventing) → Stops old x a → Stops old y b → (x ≡ y) × (a ≡ b)
stops_same old (Ok e) (Ok f) a b p q =
    let same = next_same old p.line q.line p.taken q.taken p.takes q.takes in
    let ends = ends_same p.taken p.line e f a b p.ends
    (subst (λ l. EndsEvent p.taken l f b) (sym same.0) (subst (λ r. EndsEvent r q.line f b) (sym same.1) q.ends)) in
    (ap Ok ends.0, ends.1)
stops_same old (Ok e) (Err f) a b p q = absurd (text_or_fault old p.line f p.taken b p.takes q)
stops_same old (Err e) (Ok f) a b p q = absurd (text_or_fault old q.line e q.taken a q.takes p)
stops_same old (Err e) (Err f) a b p q =
    let same = fault_same old e f a b p q in
    (ap Err same.0, same.1)

goes_on : (old : Eventing) (line : List ℕ) (next : Eventing) (item : EventItem) (new : Eventing) → ReadsEventLine old line next → Stops old item new → ⊥
goes_on old line next (Ok event) new p q =
    let same = next_same old line q.line p.taken q.taken p.takes q.takes in
    one_or_other p.taken line event next new p.does
    (subst (λ l. EndsEvent p.taken l event new) (sym same.0) (subst (λ r. EndsEvent r q.line event new) (sym same.1) q.ends))
goes_on old line next (Err error) new p q = text_or_fault old line error p.taken new p.takes q

reads_same : (old : Eventing) (line other : List ℕ) (a b : Eventing) → ReadsEventLine old line a → ReadsEventLine old other b → a ≡ b
reads_same old line other a b p q =
    let same = next_same old line other p.taken q.taken p.takes q.takes in
    let does : DoesEventLine p.taken line b = subst (λ l. DoesEventLine p.taken l b) (sym same.0) (subst (λ r. DoesEventLine r other b) (sym same.1) q.does) in
    p.does.after ∙ sym does.after

given_same : (old : Eventing) (xs ys : List (List ℕ)) (m n : Eventing) (e f : EventItem) (a b : Eventing) → AreFirstOfRun ReadsEventLine old xs m → AreFirstOfRun ReadsEventLine old ys n → Stops m e a
    → Stops n f b → (e ≡ f) × (a ≡ b)
given_same old [] [] m n e f a b p q s t = stops_same old e f a b (subst (λ r. Stops r e a) (sym p) s) (subst (λ r. Stops r f b) (sym q) t)
given_same old [] (y ∷ ys) m n e f a b p q s t = absurd (goes_on old y q.0 e a q.1 (subst (λ r. Stops r e a) (sym p) s))
given_same old (x ∷ xs) [] m n e f a b p q s t = absurd (goes_on old x p.0 f b p.1 (subst (λ r. Stops r f b) (sym q) t))
given_same old (x ∷ xs) (y ∷ ys) m n e f a b p q s t =
    let same = reads_same old x y p.0 q.0 p.1 q.1 in
    given_same q.0 xs ys m n e f a b (subst (λ r. AreFirstOfRun ReadsEventLine r xs m) same p.2) q.2 s t

pub same_event_law : SameEventLaw
same_event_law = same_first_law GivesEventItem (λ old e f a b p q.
    let x = comes old e a p in
    let y = comes old f b q in
    given_same old x.lines y.lines x.before y.before e f a b x.reads y.reads x.stops y.stops)

-- ---- no event is there

-- no line is there
no_text : (s : Eventing) (line : List ℕ) (taken : Eventing) → s.waiting ≡ None → AwaitsUniversal s.lines → TakesNextEventLine s line taken → ⊥
no_text s line taken none awaits takes = universal_waits s.lines awaits (Ok line) taken.lines (from_stream s line taken none takes)

no_stop : (s : Eventing) (item : EventItem) (end : Eventing) → s.waiting ≡ None → AwaitsUniversal s.lines → Stops s item end → ⊥
no_stop s (Ok event) end none awaits stops = no_text s stops.line stops.taken none awaits stops.takes
no_stop s (Err error) end none awaits stops = universal_waits s.lines awaits (Err stops.fault) end.lines stops.gives

-- after some lines nothing is read, and nothing comes
record Ended (old : Eventing) : Type 0 where
  lines : List (List ℕ)
  end : Eventing
  reads : AreFirstOfRun ReadsEventLine old lines end
  no_more : (line : List ℕ) (next : Eventing) → ReadsEventLine end line next → ⊥
  none : (item : EventItem) (next : Eventing) → Stops end item next → ⊥

none_there : (old : Eventing) (xs ys : List (List ℕ)) (m n : Eventing) (item : EventItem) (end : Eventing) → AreFirstOfRun ReadsEventLine old xs m
    → ((line : List ℕ) (next : Eventing) → ReadsEventLine m line next → ⊥) → ((item : EventItem) (next : Eventing) → Stops m item next → ⊥)
    → AreFirstOfRun ReadsEventLine old ys n → Stops n item end → ⊥
none_there old [] [] m n item end p no_more none q stops = none item end (subst (λ r. Stops r item end) (sym q ∙ p) stops)
none_there old [] (y ∷ ys) m n item end p no_more none q stops = no_more y q.0 (subst (λ r. ReadsEventLine r y q.0) p q.1)
none_there old (x ∷ xs) [] m n item end p no_more none q stops = goes_on old x p.0 item end p.1 (subst (λ r. Stops r item end) (sym q) stops)
none_there old (x ∷ xs) (y ∷ ys) m n item end p no_more none q stops =
    let same = reads_same old x y p.0 q.0 p.1 q.1 in
    none_there q.0 xs ys m n item end (subst (λ r. AreFirstOfRun ReadsEventLine r xs m) same p.2) no_more none q.2 stops

no_item : (old : Eventing) → Ended old → (item : EventItem) (end : Eventing) → ¬ GivesEventItem old item end
no_item old ended item end gives =
    let c = comes old item end gives in
    none_there old ended.lines c.lines ended.end c.before item end ended.reads ended.no_more ended.none c.reads c.stops

pub no_event_law : NoEventLaw
no_event_law old new waits = no_item old (record {
  lines = waits.1.0;
  end = waits.0;
  reads = waits.1.1;
  no_more = λ line next reads. no_text waits.0 line reads.taken waits.3.none waits.2 reads.takes;
  none = λ item next stops. no_stop waits.0 item next waits.3.none waits.2 stops;
})

-- ---- a line that can't be read

-- the line that is taken next can't be read
module _ (mid taken : Eventing) (line : List ℕ) (takes : TakesNextEventLine mid line taken) (large : IsEventTooLarge taken line) where
  not_read : (other : List ℕ) (next : Eventing) → ReadsEventLine mid other next → ⊥
  not_read other next reads =
      let same = next_same mid line other taken reads.taken takes reads.takes in
      let does : DoesEventLine taken line next = subst (λ l. DoesEventLine taken l next) (sym same.0) (subst (λ r. DoesEventLine r other next) (sym same.1) reads.does) in
      let buffers : event_text_len next.buffers.text ≡ event_text_len (after_event_line taken.buffers (event_content taken.at_start line)).text =
      ap (λ (r : Eventing). event_text_len r.buffers.text) does.after in
      omega (arith, buffers, does.small, large.1)

  not_stopped : (item : EventItem) (next : Eventing) → Stops mid item next → ⊥
  not_stopped (Ok event) next stops =
      let same = next_same mid line stops.line taken stops.taken takes stops.takes in
      let ends : EndsEvent taken line event next =
      subst (λ l. EndsEvent taken l event next) (sym same.0) (subst (λ r. EndsEvent r stops.line event next) (sym same.1) stops.ends) in
      large.0 ends.empty
  not_stopped (Err error) next stops = text_or_fault mid line error taken next takes stops

large_ended : (old mid new : Eventing) → ReadsEventLines old mid → ReadsNoEventLine mid new → WaitsWithEventTooLarge new → Ended old
large_ended old mid new reads (inl keeps) large =
    absurd (no_line new.waiting large.0 (ap (λ (r : Eventing). r.waiting) keeps.others ∙ keeps.none) large.1)
large_ended old mid new reads (inr awaits) (line, waits, is) =
    let same : line ≡ awaits.line = ap (λ o. unwrap_or o []) (sym waits ∙ ap (λ (r : Eventing). r.waiting) awaits.waits) in
    let large : IsEventTooLarge awaits.taken awaits.line = subst (λ l. IsEventTooLarge awaits.taken l) same (subst (λ r. IsEventTooLarge r line) awaits.waits is) in
    record {
      lines = reads.0;
      end = mid;
      reads = reads.1;
      no_more = not_read mid awaits.taken awaits.line awaits.takes large;
      none = not_stopped mid awaits.taken awaits.line awaits.takes large;
    }

pub large_event_law : LargeEventLaw
large_event_law old new loses large = no_item old (large_ended old loses.0 new loses.1 loses.2 large)

pub ruleset event_laws = (event_run_law, same_event_law)
