-- What the decoder of lines with three ends did, by what it returned, and the items of one that is new.
use Rattle.std.proofs.Common.{◌≡◌, ◌⊎◌, ◌==◌, ℕ, suc, ◌+◌, ◌<◌, Bool, true, false, List, [], ◌∷◌, ◌++◌, length, take, drop, get_or, slice_index, Option, None, Some, Result, Ok, Err, inl, inr, sym, ap, ◌∙◌, refl, subst, arith, append_assoc, append-nil, length-take, take-append-drop, drop-drop, ◌-◌, ⊎_elim}
use Rattle.std.proofs.lemmas.Bool.{cases_eq, cases_lt, ne_eqb}
use Rattle.std.proofs.lemmas.List.{drop_all, get_or-drop, get_or-take}
use Rattle.std.proofs.lemmas.List.Elements.{All-from_get_or}
use Rattle.std.proofs.Math.Seq.{drop-cons}
use Rattle.std.specs.Bool.{OnTrue}
use Rattle.std.specs.Option.{option_to_list}
use Rattle.memchr.specs.Find.{Nowhere}
use Rattle.bytes_utils_codec.specs.Decoding.{Item, Last}
use Rattle.bytes_utils_codec.specs.LineReading.{AreLineItemsOf, IsLineItemOf, IsLastLineOf, LineItem, begun_line}
use Rattle.bytes_utils_codec.specs.StreamLines.{last_stream_line}
use Rattle.bytes_utils_codec.specs.StreamRuns.{AreFirstOfRun}
use Rattle.bytes_utils_codec.specs.UniversalReading.{AreFirstOfUniversalReading, AreUniversalItems, AwaitsUniversalEnd, UniversalReadingFinds, GivesUniversalFrom, HasUniversalLineOf, IsUniversalComing, PassesLongUniversal, PassesLongUniversalBy, ReachesUniversal, SkipsUniversal, UniversalReadingLaw, WholeUniversalReadingLaw, after_universal_end, after_universal_feed, dropped_universal, universal_feed_passed, gives_universal, universal_place_after}
use Rattle.bytes_utils_codec.specs.UniversalReadingLaws.{IsUniversalPassed, ReachesUniversal-feed, ReachesUniversal-one, UniversalState, universal_state, if_universal_passed}
use Rattle.bytes_utils_codec.specs.UniversalLines.{AreFirstUniversalLines, FindsUniversalEnd, IsUniversalEndAt, IsFirstUniversalLine, IsInUniversalLine, IsUniversalEnd, LacksUniversalEnds, universal_lines}
use Rattle.bytes_utils_codec.specs.declared.decode.too_long.FrameTooLong.{FrameTooLong}
use Rattle.bytes_utils_codec.specs.declared.decode.lines.LineFault.TheVariants.{TooLong}
use Rattle.bytes_utils_codec.specs.declared.decode.universal_lines.Place.{Place}
use Rattle.bytes_utils_codec.specs.declared.decode.universal_lines.Place.TheVariants.{AfterReturn, Line, LongLine}
use Rattle.bytes_utils_codec.proofs.DecodingLemmas.{SameNext-now}
use Rattle.bytes_utils_codec.proofs.LineReadingLemmas.{items_append, last_items}
use Rattle.bytes_utils_codec.proofs.StreamRunsLemmas.{AreFirstOfRun-append}
use Rattle.bytes_utils_codec.proofs.UniversalLinesLemmas.{all_universal_law}

-- ---- the parts of a call

-- a line feed is passed, and then a line that is skipped
passes_then : (limit threshold from : ℕ) (lossy : Bool) (place : Place) (held : List ℕ) (mid : UniversalState)
    → PassesLongUniversal (after_universal_feed (universal_state limit threshold from lossy place held)) mid
    → ReachesUniversal (universal_state limit threshold from lossy place held) mid
passes_then limit threshold from lossy LongLine held mid (len, ends, is) =
    record { ending = after_universal_end len (universal_state limit threshold from lossy LongLine held); ends = (len, ends, refl); is = is }
passes_then limit threshold from lossy AfterReturn (c ∷ t) mid is =
    record { ending = universal_state limit threshold from lossy AfterReturn (c ∷ t); ends = refl; is = is }
passes_then limit threshold from lossy place held mid is = record { ending = universal_state limit threshold from lossy place held; ends = refl; is = is }

pub reaches_then : (s fed : UniversalState) → fed ≡ after_universal_feed s → (mid : UniversalState) → PassesLongUniversal fed mid → ReachesUniversal s mid
reaches_then s fed is mid passes =
    passes_then s.decoder.max_length s.threshold s.decoder.searched s.decoder.lossy s.decoder.place s.held mid
    (subst (λ t. PassesLongUniversal t mid) is passes)

-- a line is dropped, and then its end
pub after_end_is : (s : UniversalState) (len : ℕ) → after_universal_end 0 (record s { held = drop len s.held }) ≡ after_universal_end len s
after_end_is s len =
    let next : suc len ≡ len + 1 = omega arith in
    let held : drop 1 (drop len s.held) ≡ drop (suc len) s.held = drop-drop 1 len s.held ∙ ap (λ n. drop n s.held) (sym next) in
    let whole : len + 0 ≡ len = omega arith in
    let byte : slice_index (drop len s.held) 0 ≡ slice_index s.held len = get_or-drop len s.held 0 0 ∙ ap (slice_index s.held) whole in
    (λ i. record s { decoder = record s.decoder { searched = 0; place = universal_place_after (byte i) }; held = held i })

-- a line that is skipped, whose end has come or has not
passes_long : (place : Place) (s mid : UniversalState) (len : ℕ) → place ≡ LongLine → FindsUniversalEnd s.held s.decoder.searched (Some len) → mid ≡ after_universal_feed (after_universal_end len s)
    → PassesLongUniversalBy place s mid
passes_long LongLine s mid len is found there = (len, found, there)
passes_long place s mid len is found there = absurd cc

module _ (s : UniversalState) (long : s.decoder.place ≡ LongLine) where
  pub long_found : (ending mid : UniversalState) (len : ℕ) → FindsUniversalEnd s.held s.decoder.searched (Some len)
      → ending ≡ after_universal_end 0 (record s { held = drop len s.held }) → mid ≡ after_universal_feed ending → PassesLongUniversal s mid
  long_found ending mid len found ends is =
      passes_long s.decoder.place s mid len long found (is ∙ ap after_universal_feed (ends ∙ after_end_is s len))

  pub long_missed : (new : UniversalState) (len : ℕ) → FindsUniversalEnd s.held s.decoder.searched None → len ≡ length s.held
      → new ≡ record s { decoder = record s.decoder { searched = s.decoder.searched - len }; held = drop len s.held } → SkipsUniversal s × (new ≡ dropped_universal s)
  long_missed new len missed all is =
      let none : drop len s.held ≡ [] = drop_all len s.held (omega (arith, all)) in
      ((long, missed), is ∙ (λ i. record s { decoder = record s.decoder { searched = s.decoder.searched - all i }; held = none i }))

pub finds_then : (s mid : UniversalState) (r : Option (Result ℕ FrameTooLong)) (new : UniversalState) → ReachesUniversal s mid → IsUniversalComing mid r new → UniversalReadingFinds s r new
finds_then s mid (Some (Ok len)) new reaches coming =
    (subst (ReachesUniversal s) (sym coming.0) reaches, subst (λ t. HasUniversalLineOf t len) (sym coming.0) coming.1)
finds_then s mid (Some (Err over)) new reaches coming = inr (mid, reaches, inr (refl, coming.0, coming.1))
finds_then s mid None new reaches coming = inr (mid, reaches, coming.0, coming.1)

-- ---- the first line of bytes

-- the bytes after the end that begins with this byte
abbrev Ended : ℕ → List ℕ → List ℕ → Type 0
Ended c after rest = (end : List ℕ) × IsUniversalEnd end rest × (c ∷ after ≡ end ++ rest)

ends_returned : (after : List ℕ) → Ended 13 after (universal_feed_passed AfterReturn after).1
ends_returned [] = (13 ∷ [], inr (inr (refl, λ t e. absurd (omega (arith, ap length e)))), refl)
ends_returned (d ∷ t) = elim (cases_eq d 10) [
  | inl e ↦ rw e (13 ∷ 10 ∷ [], inr (inl refl), refl)
  | inr other ↦ rw (ne_eqb d 10 other) (13 ∷ [], inr (inr (refl, λ u e. other (ap (λ l. get_or l 0 0) e))), refl)
]

ends_with : (c : ℕ) (after : List ℕ) → (c ≡ 10) ⊎ (c ≡ 13) → Ended c after (universal_feed_passed (universal_place_after c) after).1
ends_with c after (inl e) = rw e (10 ∷ [], inl refl, refl)
ends_with c after (inr e) = rw e (ends_returned after)

in_line : (bytes : List ℕ) (i : ℕ) → ¬ IsUniversalEndAt bytes i → IsInUniversalLine (slice_index bytes i)
in_line bytes i none = ((λ e. none (inl e)), (λ e. none (inr e)))

lacks_before : (bytes : List ℕ) (n : ℕ) → Nowhere (IsUniversalEndAt bytes) 0 n → LacksUniversalEnds (take n bytes)
lacks_before bytes n none =
    All-from_get_or IsInUniversalLine (take n bytes) 0 (λ i inside.
    let below : i < n = omega (arith, inside, length-take n bytes) in
    rw (get_or-take n bytes i 0 below) (in_line bytes i (none i (omega arith) below)))

lacks_all : (bytes : List ℕ) → FindsUniversalEnd bytes 0 None → LacksUniversalEnds bytes
lacks_all bytes none = All-from_get_or IsInUniversalLine bytes 0 (λ i inside. in_line bytes i (none i (omega arith) inside))

first_line : (bytes : List ℕ) (len : ℕ) → FindsUniversalEnd bytes 0 (Some len)
    → IsFirstUniversalLine bytes (take len bytes) (universal_feed_passed (universal_place_after (slice_index bytes len)) (drop (suc len) bytes)).1
first_line bytes len found =
    let end = ends_with (slice_index bytes len) (drop (suc len) bytes) found.1 in (
      end.0,
      record {
        whole = sym (take-append-drop len bytes) ∙ ap (λ l. take len bytes ++ l) (drop-cons bytes len 0 found.0.high ∙ end.2);
        ends = end.1;
        lacks = lacks_before bytes len found.0.before;
      },
    )

-- ---- the items of a new decoder

abbrev Gives : UniversalState → LineItem → UniversalState → Type 0
Gives old item new = gives_universal old (Item item) new

module _ (lossy : Bool) (limit threshold : ℕ) where
  -- what was read so far: all lines up to the front of one, or up to one that was reported to be too long
  data Front : Type 0 where
    AtFront : (place : Place) → IsUniversalPassed place → List ℕ → Front
    InLong : (bytes : List ℕ) → limit < length bytes → Nowhere (IsUniversalEndAt bytes) 0 (suc limit) → Front

  abbrev state_at : Front → UniversalState
  state_at (AtFront place passed held) = universal_state limit threshold 0 lossy place held
  state_at (InLong bytes many none) = universal_state limit threshold (suc limit) lossy LongLine bytes

  -- the bytes from there on
  abbrev rest_at : Front → List ℕ
  rest_at (AtFront place passed held) = (universal_feed_passed place held).1
  rest_at (InLong bytes many none) = bytes

  abbrev is_long : Front → Bool
  is_long (AtFront place passed held) = false
  is_long (InLong bytes many none) = true

  -- these items are those of the first lines of the bytes from the first place on, and perhaps that the next one is too long, up to the second place
  record Reports (front : Front) (items : List LineItem) (end : Front) : Type 0 where
    given : List LineItem
    lines : List (List ℕ)
    are : AreLineItemsOf lossy limit given lines lines
    are_lines : AreFirstUniversalLines (rest_at front) lines (rest_at end)
    all : begun_line (is_long front) ++ items ≡ given ++ begun_line (is_long end)

  none_more : (front : Front) → Reports front [] front
  none_more front = record { given = []; lines = []; are = tt; are_lines = refl; all = append-nil (begun_line (is_long front)) }

  -- one line, and its item
  one_line : (front end : Front) (items : List LineItem) (line : List ℕ) (item : LineItem) → IsFirstUniversalLine (rest_at front) line (rest_at end)
      → IsLineItemOf lossy limit item line line → begun_line (is_long front) ++ items ≡ item ∷ begun_line (is_long end) → Reports front items end
  one_line front end items line item first is all = record {
    given = item ∷ [];
    lines = line ∷ [];
    are = (is, tt);
    are_lines = (rest_at end, first, refl);
    all = all;
  }

  then_more : (front mid end : Front) (xs ys : List LineItem) → Reports front xs mid → Reports mid ys end → Reports front (xs ++ ys) end
  then_more front mid end xs ys a b = record {
    given = a.given ++ b.given;
    lines = a.lines ++ b.lines;
    are = items_append lossy limit a.given b.given a.lines b.lines a.lines b.lines a.are b.are;
    are_lines = AreFirstOfRun-append IsFirstUniversalLine (rest_at front) a.lines (rest_at mid) b.lines (rest_at end) a.are_lines b.are_lines;
    all = sym (append_assoc (begun_line (is_long front)) xs ys) ∙ ap (λ l. l ++ ys) a.all ∙ append_assoc a.given (begun_line (is_long mid)) ys
        ∙ ap (λ l. a.given ++ l) b.all ∙ sym (append_assoc a.given b.given (begun_line (is_long end)));
  }

  -- after a line
  abbrev after_line : ℕ → List ℕ → Front
  after_line len bytes = AtFront (universal_place_after (slice_index bytes len)) (if_universal_passed (slice_index bytes len == 13)) (drop (suc len) bytes)

  -- the line that is skipped is passed
  long_passed : (bytes : List ℕ) (many : limit < length bytes) (none : Nowhere (IsUniversalEndAt bytes) 0 (suc limit)) (len : ℕ)
      → FindsUniversalEnd bytes (suc limit) (Some len) → Reports (InLong bytes many none) [] (after_line len bytes)
  long_passed bytes many none len found =
      let from_front : FindsUniversalEnd bytes 0 (Some len) = (
        record {
          low = omega arith;
          high = found.0.high;
          before = λ k low below here. ⊎_elim (λ within. none k low within here) (λ above. found.0.before k above below here)
              (cases_lt k (suc limit));
        },
        found.1,
      ) in
      one_line (InLong bytes many none) (after_line len bytes) [] (take len bytes) (Err TooLong) (first_line bytes len from_front)
      (record { within = λ few. absurd (omega (arith, few, length-take len bytes, found.0.low, found.0.high)); over = λ long. refl }) refl

  -- the state after these items
  record Ends (front : Front) (items : List LineItem) (end : UniversalState) : Type 0 where
    last : Front
    is : end ≡ state_at last
    reports : Reports front items last

  next_front : (place : Place) (passed : IsUniversalPassed place) (held : List ℕ) (item : LineItem) (next : UniversalState)
      → GivesUniversalFrom (after_universal_feed (universal_state limit threshold 0 lossy place held)) (Item item) next → Ends (AtFront place passed held) (item ∷ []) next
  next_front place passed held item next (inl (len, has, text, is)) =
      let bytes = (universal_feed_passed place held).1 in
      let line : IsLineItemOf lossy limit item (take len bytes) (take len bytes) =
      record { within = λ few. text; over = λ many. absurd (omega (arith, many, length-take len bytes, has.fits)) } in
      record {
        last = after_line len bytes;
        is = is;
        reports = one_line (AtFront place passed held) (after_line len bytes) (item ∷ []) (take len bytes) item
            (first_line bytes len has.ends) line refl;
      }
  next_front place passed held item next (inr (long, over, is)) =
      let end = InLong (universal_feed_passed place held).1 over.many over.none in
      record { last = end; is = is; reports = record { given = []; lines = []; are = tt; are_lines = refl; all = ap (λ i. i ∷ []) long } }

  -- the front that a state reaches
  record Reached (front : Front) (mid : UniversalState) : Type 0 where
    place : Place
    passed : IsUniversalPassed place
    held : List ℕ
    is : mid ≡ after_universal_feed (universal_state limit threshold 0 lossy place held)
    reports : Reports front [] (AtFront place passed held)

  reached_by : (front : Front) (mid : UniversalState) → ReachesUniversal (state_at front) mid → Reached front mid
  reached_by (AtFront place passed held) mid reaches = record {
    place = place;
    passed = passed;
    held = held;
    is = ReachesUniversal-one (universal_state limit threshold 0 lossy place held) mid _ reaches (ReachesUniversal-feed (universal_state limit threshold 0 lossy place held) passed);
    reports = none_more (AtFront place passed held);
  }
  reached_by (InLong bytes many none) mid reaches =
      let (len, found, ends) = reaches.ends in
      record {
        place = universal_place_after (slice_index bytes len);
        passed = if_universal_passed (slice_index bytes len == 13);
        held = drop (suc len) bytes;
        is = reaches.is ∙ ap after_universal_feed ends;
        reports = long_passed bytes many none len found;
      }

  next_item : (front : Front) (item : LineItem) (next : UniversalState) → Gives (state_at front) item next → Ends front (item ∷ []) next
  next_item front item next (inl g) = absurd cc
  next_item front item next (inr (mid, reaches, gives)) =
      let at = reached_by front mid reaches in
      let later = next_front at.place at.passed at.held item next (subst (λ t. GivesUniversalFrom t (Item item) next) at.is gives) in
      record {
        last = later.last;
        is = later.is;
        reports = then_more front (AtFront at.place at.passed at.held) later.last [] (item ∷ []) at.reports later.reports;
      }

  ends_after : (items : List LineItem) (front : Front) (end : UniversalState) → AreFirstOfRun Gives (state_at front) items end → Ends front items end
  ends_after [] front end are = record { last = front; is = sym are; reports = none_more front }
  ends_after (item ∷ items) front end (next, gives, later) =
      let first = next_item front item next gives in
      let others = ends_after items first.last end (subst (λ t. AreFirstOfRun Gives t items end) first.is later) in
      record {
        last = others.last;
        is = others.is;
        reports = then_more front first.last others.last (item ∷ []) items first.reports others.reports;
      }

  long_at : (front : Front) → OnTrue (is_long front) ((limit < length (rest_at front)) × LacksUniversalEnds (take (suc limit) (rest_at front)))
  long_at (AtFront place passed held) = tt
  long_at (InLong bytes many none) = (many, lacks_before bytes (suc limit) none)

  items_of : (bytes : List ℕ) (items : List LineItem) (end : UniversalState) → AreUniversalItems lossy limit threshold bytes items end
      → AreFirstOfUniversalReading lossy limit bytes items
  items_of bytes items end are =
      let all = ends_after items (AtFront Line tt bytes) are.rest are.are in
      record {
        given = all.reports.given;
        lines = all.reports.lines;
        rest = rest_at all.last;
        over = is_long all.last;
        are = all.reports.are;
        are_lines = all.reports.are_lines;
        all = all.reports.all;
        long = long_at all.last;
      }

  -- ---- with the last one

  module _ (bytes : List ℕ) (items : List LineItem) (last : Option LineItem) where
    abbrev AreAll : Type 0
    AreAll = AreLineItemsOf lossy limit (items ++ option_to_list last) (universal_lines bytes) (universal_lines bytes)

    -- the first lines are given, and what is left has no end
    all_given : (end : Front) → Reports (AtFront Line tt bytes) items end → LacksUniversalEnds (rest_at end)
        → AreLineItemsOf lossy limit (begun_line (is_long end) ++ option_to_list last) (last_stream_line (rest_at end)) (last_stream_line (rest_at end)) → AreAll
    all_given end reports lacks tail =
        let rest = rest_at end in
        let over = begun_line (is_long end) in
        let lines_are : universal_lines bytes ≡ reports.lines ++ last_stream_line rest =
        (all_universal_law bytes reports.lines rest reports.are_lines).all lacks in
        let items_are : items ++ option_to_list last ≡ reports.given ++ (over ++ option_to_list last) =
        ap (λ l. l ++ option_to_list last) reports.all ∙ append_assoc reports.given over (option_to_list last) in
        rw (items_are, lines_are)
        (items_append lossy limit reports.given (over ++ option_to_list last) reports.lines (last_stream_line rest)
        reports.lines (last_stream_line rest) reports.are tail)

    -- at the end of the stream
    last_given : (end : Front) (after : UniversalState) → Reports (AtFront Line tt bytes) items end → gives_universal (state_at end) (Last last) after → AreAll
    last_given (AtFront place passed held) after reports (inl g) = absurd (subst IsUniversalPassed g.0.0 passed)
    last_given (InLong rest many none) after reports (inl (skips, is, there)) =
        let lacks : FindsUniversalEnd rest 0 None = λ k low high here.
        ⊎_elim (λ within. none k low within here) (λ above. skips.1 k above high here) (cases_lt k (suc limit)) in
        let tail = last_items lossy limit true None rest refl many (omega arith) in
        let no_last : last ≡ None = cc (is) in
        all_given (InLong rest many none) reports (lacks_all rest lacks)
        (subst (λ l. AreLineItemsOf lossy limit (begun_line true ++ option_to_list l) (last_stream_line rest) (last_stream_line rest)) (sym no_last) tail)
    last_given end after reports (inr (mid, reaches, (awaits, ends, there))) =
        let at = reached_by end mid reaches in
        let front = AtFront at.place at.passed at.held in
        let rest = (universal_feed_passed at.place at.held).1 in
        let whole : Reports (AtFront Line tt bytes) items front =
        rw append-nil at (then_more (AtFront Line tt bytes) end front items [] reports at.reports) in
        let waits = subst AwaitsUniversalEnd at.is awaits in
        all_given front whole (lacks_all rest waits.lacks)
        (last_items lossy limit false last rest (subst (λ (t : UniversalState). IsLastLineOf t.decoder.lossy last t.held) at.is ends) tt waits.few)

    whole_of : (end after : UniversalState) → AreUniversalItems lossy limit threshold bytes items end → gives_universal end (Last last) after → AreAll
    whole_of end after are gives =
        let all = ends_after items (AtFront Line tt bytes) are.rest are.are in
        let ends = (SameNext-now gives_universal are.rest end are.same (Last last) after).1 gives in
        last_given all.last after all.reports (subst (λ t. gives_universal t (Last last) after) all.is ends)

pub universal_items_law : UniversalReadingLaw
universal_items_law = items_of

pub whole_universal_law : WholeUniversalReadingLaw
whole_universal_law lossy limit threshold bytes items end last after are gives = whole_of lossy limit threshold bytes items last end after are gives
