-- What the decoder of lines did, by what it returned, and the items of one that is new.
use Rattle.std.proofs.Common.{◌≡◌, ℕ, suc, ◌<◌, ◌≤◌, Bool, true, false, List, [], ◌∷◌, ◌++◌, length, take, map, Option, None, Some, Result, Ok, Err, inl, inr, sym, ap, ◌∙◌, refl, subst, arith, append_assoc, length-append, take-append-drop, get_or, ◌-◌, IsUtf8, nat_le, if◌then◌else◌}
use Rattle.std.proofs.Math.Seq.{drop-cons, get_or-append_seam}
use Rattle.std.proofs.lemmas.Bool.{cases_eq, leb-false, leb-true}
use Rattle.std.proofs.lemmas.List.{drop_all, drop_at}
use Rattle.std.specs.Bool.{OnTrue}
use Rattle.std.specs.Option.{option_to_list}
use Rattle.std.proofs.lemmas.Str.{utf8_lossy-IsUtf8}
use Rattle.bytes_utils_buf.specs.declared.refused.Reason.{Reason}
use Rattle.bytes_utils.specs.Lines.{IsWithoutReturn, carriage_return, line_feed, lines}
use Rattle.bytes_utils.specs.Occurrence.{Occurs}
use Rattle.bytes_utils.proofs.LinesLemmas.{lines-whole}
use Rattle.bytes_utils_codec.specs.Decoding.{AreItems, Decoding, Item, Last, DecodesAtEnd, fed, starting}
use Rattle.bytes_utils_codec.specs.Delimited.{Delimiting, StopsDelimitedAt, delimited_begun, delimiting, gives_delimited, delimited_left, ready_delimited, delimited_within}
use Rattle.bytes_utils_codec.specs.DelimitedLaws.{delimited_keeps_threshold}
use Rattle.bytes_utils_codec.specs.Frames.{AreFrames}
use Rattle.bytes_utils_codec.specs.LineReading.{AreLineItemsOf, IsLineItemOf, IsLastLineOf, IsLeftLine, IsLineOf, IsTextLineItem, LineItem, LineReadingLaw, LineReading, TakesLastLine, TakesLineItem, WholeLineReadingLaw, begun_line, fails_line, fails_line_at_end, frames_of_lines, gives_line, keeps_line, ready_line}
use Rattle.bytes_utils_codec.specs.Search.{NoneBeginsInSearch}
use Rattle.bytes_utils_codec.specs.Skipping.{skipping_ended}
use Rattle.bytes_utils_codec.specs.StreamLines.{AreFirstStreamLines, last_stream_line}
use Rattle.bytes_utils_codec.specs.StreamRuns.{AreFirstOfRun}
use Rattle.bytes_utils_codec.specs.declared.decode.too_long.FrameTooLong.{FrameTooLong}
use Rattle.bytes_utils_codec.specs.declared.decode.lines.LineFault.TheVariants.{NotUtf8, TooLong}
use Rattle.bytes_utils_codec.proofs.DecodingLemmas.{SameNext-now, SameNext-refl}
use Rattle.bytes_utils_codec.proofs.DelimitedLemmas.{delimited_ends, delimited_frames_law}
use Rattle.bytes_utils_codec.proofs.StreamLinesLemmas.{TakesStreamLine-framed, first_lines_law}

-- ---- the end of the stream

ends_at : (b : Bool) (old new : Decoding Delimiting) → StopsDelimitedAt b old new
    → gives_delimited old (Last None) (record new { decoder = ready_delimited new.decoder; held = delimited_left b new.held })
ends_at true old new (skips, inl drops) = inl (skips, refl, ap (skipping_ended ready_delimited) drops.is)
ends_at true old new (skips, inr (short, same)) = inl (skips, refl, ap (skipping_ended ready_delimited) same)
ends_at false old new (mid, passes, awaits, is) =
    inr (mid, passes, (awaits, ap (λ (s : Decoding Delimiting). record s { decoder = ready_delimited s.decoder }) is))

module _ (s mid t : Decoding LineReading) (took : TakesLineItem s (Ok None) mid) where
  abbrev at_end : Decoding Delimiting
  at_end = record (frames_of_lines mid) { decoder = ready_delimited mid.decoder.frames; held = delimited_left mid.decoder.frames.skipping mid.held }

  left : t ≡ skipping_ended ready_line mid → IsLeftLine s (delimited_left mid.decoder.frames.skipping mid.held) t
  left is = (
    at_end,
    ends_at mid.decoder.frames.skipping (frames_of_lines s) (frames_of_lines mid) took.0,
    refl,
    is ∙ (λ i. record {
      decoder = record { frames = ready_delimited mid.decoder.frames; lossy = took.2.1 i };
      held = [];
      threshold = delimited_keeps_threshold (frames_of_lines s) (frames_of_lines mid) took.2.0 i;
    }),
  )

  last : (line : Option LineItem) → TakesLastLine mid (Ok line) t → gives_line s (Last line) t
  last line end = (
    delimited_left mid.decoder.frames.skipping mid.held,
    left end.1,
    subst (λ b. IsLastLineOf b line (delimited_left mid.decoder.frames.skipping mid.held)) took.2.1 end.0,
  )

  pub ends_line : (r : Result (Option LineItem) Reason) → TakesLastLine mid r t → DecodesAtEnd gives_line fails_line fails_line_at_end keeps_line s r t
  ends_line (Ok (Some item)) end = inr (last (Some item) end)
  ends_line (Ok None) end = last None end
  ends_line (Err reason) end = (
    inr (
      end.0,
      (
        at_end,
        ends_at mid.decoder.frames.skipping (frames_of_lines s) (frames_of_lines mid) took.0,
        subst (λ b. 0 < length (delimited_left b mid.held)) (sym end.2) end.1,
      ),
    ),
    subst (keeps_line s) (sym end.3) took.2,
  )

-- ---- a line that is lossy

-- of a text the lossy item is the strict one
pub lossy_item : (lossy : Bool) (item : LineItem) (bytes : List ℕ) → (lossy ≡ true → IsUtf8 bytes) → IsTextLineItem false item bytes → IsTextLineItem lossy item bytes
lossy_item false item bytes utf8 is = is
lossy_item true (Ok text) bytes utf8 is = is.0 ∙ sym (utf8_lossy-IsUtf8 bytes is.1)
lossy_item true (Err (NotUtf8 fault)) bytes utf8 is = absurd (is.1 (utf8 refl))
lossy_item true (Err TooLong) bytes utf8 is = absurd is

-- ---- the frames of the items

-- each item is the line of the frame at the same place
abbrev AreLinesOf : Bool → List LineItem → List (Result (List ℕ) FrameTooLong) → Type 0
AreLinesOf lossy [] [] = Unit {0}
AreLinesOf lossy (item ∷ items) (frame ∷ frames) = IsLineOf lossy item frame × AreLinesOf lossy items frames
AreLinesOf lossy items frames = ⊥

-- the frames of which these items are the lines
record FramesOf (s : Decoding LineReading) (items : List LineItem) (rest : Decoding LineReading) : Type 0 where
  frames : List (Result (List ℕ) FrameTooLong)
  are : AreFirstOfRun (λ old frame new. gives_delimited old (Item frame) new) (frames_of_lines s) frames (frames_of_lines rest)
  lines : AreLinesOf s.decoder.lossy items frames
  lossy : rest.decoder.lossy ≡ s.decoder.lossy

frames_of_items : (items : List LineItem) (s rest : Decoding LineReading)
    → AreFirstOfRun (λ old item new. gives_line old (Item item) new) s items rest → FramesOf s items rest
frames_of_items [] s rest are = record {
  frames = [];
  are = ap frames_of_lines are;
  lines = tt;
  lossy = ap (λ (u : Decoding LineReading). u.decoder.lossy) (sym are);
}
frames_of_items (item ∷ items) s rest are =
    let given = are.1 in
    let others = frames_of_items items are.0 rest are.2 in
    record {
      frames = given.0 ∷ others.frames;
      are = (frames_of_lines are.0, given.1, others.are);
      lines = (given.2, subst (λ b. AreLinesOf b items others.frames) given.3 others.lines);
      lossy = others.lossy ∙ given.3;
    }

-- ---- the lines of frames

last_return : (frame front : List ℕ) → frame ≡ front ++ carriage_return ∷ [] → get_or frame (length frame - 1) 0 ≡ carriage_return
last_return frame front is =
    let size : length frame - 1 ≡ length front = omega (arith, ap length is, length-append front (carriage_return ∷ [])) in
    ap (λ k. get_or frame k 0) size ∙ ap (λ l. get_or l (length front) 0) is ∙ get_or-append_seam front carriage_return [] 0

before_return : (frame : List ℕ) → get_or frame (length frame - 1) 0 ≡ carriage_return → frame ≡ take (length frame - 1) frame ++ carriage_return ∷ []
before_return [] is = absurd (omega (arith, is))
before_return (c ∷ t) is =
    let frame = c ∷ t in
    let last = length frame - 1 in
    sym (take-append-drop last frame)
    ∙ ap (λ l. take last frame ++ l) (drop-cons frame last 0 (omega arith) ∙ (λ i. is i ∷ drop_all (suc last) frame (omega arith) i))

-- a frame has a line
line_in : (frame : List ℕ) → (line : List ℕ) × IsWithoutReturn line frame
line_in frame = elim (cases_eq (get_or frame (length frame - 1) 0) carriage_return) [
  | inl is ↦ (take (length frame - 1) frame, inl (before_return frame is))
  | inr other ↦ (frame, inr (refl, λ front e. other (last_return frame front e)))
]

-- each line is the frame at the same place without a carriage return at its end
abbrev AreWithoutReturns : List (List ℕ) → List (List ℕ) → Type 0
AreWithoutReturns [] [] = Unit {0}
AreWithoutReturns (line ∷ lines) (frame ∷ frames) = IsWithoutReturn line frame × AreWithoutReturns lines frames
AreWithoutReturns lines frames = ⊥

first_lines : (bytes : List ℕ) (frames lines : List (List ℕ)) (rest : List ℕ) → AreFrames (line_feed ∷ []) bytes frames rest → AreWithoutReturns lines frames
    → AreFirstStreamLines bytes lines rest
first_lines bytes [] [] rest are without = are
first_lines bytes (frame ∷ frames) (line ∷ lines) rest are without =
    (are.0, TakesStreamLine-framed bytes frame line are.0 are.1 without.0, first_lines are.0 frames lines rest are.2 without.1)
first_lines bytes frames lines rest are without = absurd without

module _ (lossy : Bool) (limit : ℕ) where
  line_by : (item : LineItem) (frame : List ℕ) (b : Bool) → nat_le (length frame) limit ≡ b
      → IsLineOf lossy item (if b then Ok frame else Err (record {})) → (line : List ℕ) × IsWithoutReturn line frame × IsLineItemOf lossy limit item line frame
  line_by item frame true fits is = (
    is.0,
    is.1,
    record { within = λ few. is.2; over = λ many. absurd (omega (arith, many, leb-true (length frame) limit fits)) },
  )
  line_by item frame false fits is =
      let line = line_in frame in (
        line.0,
        line.1,
        record { within = λ few. absurd (omega (arith, few, leb-false (length frame) limit fits)); over = λ many. is },
      )

  -- the items of these frames, and of one that has begun
  record ItemsOf (frames : List (List ℕ)) (over : Bool) (items : List LineItem) : Type 0 where
    given : List LineItem
    lines : List (List ℕ)
    without : AreWithoutReturns lines frames
    are : AreLineItemsOf lossy limit given lines frames
    all : items ≡ given ++ begun_line over

  items_of_frames : (frames : List (List ℕ)) (over : Bool) (items : List LineItem) → AreLinesOf lossy items (map (delimited_within limit) frames ++ delimited_begun over)
      → ItemsOf frames over items
  items_of_frames [] true (item ∷ []) lines = record { given = []; lines = []; without = tt; are = tt; all = ap (λ i. i ∷ []) lines.0 }
  items_of_frames [] true (item ∷ other ∷ items) lines = absurd lines.1
  items_of_frames [] false [] lines = record { given = []; lines = []; without = tt; are = tt; all = refl }
  items_of_frames (frame ∷ frames) over (item ∷ items) lines =
      let line = line_by item frame (nat_le (length frame) limit) refl lines.0 in
      let others = items_of_frames frames over items lines.1 in
      record {
        given = item ∷ others.given;
        lines = line.0 ∷ others.lines;
        without = (line.1, others.without);
        are = (line.2, others.are);
        all = ap (λ l. item ∷ l) others.all;
      }
  items_of_frames frames over items lines = absurd lines

-- ---- the items of a new decoder

abbrev new_lines : Bool → ℕ → ℕ → List ℕ → Decoding LineReading
new_lines lossy limit threshold bytes = fed (starting (record { frames = delimiting (line_feed ∷ []) limit; lossy = lossy }) threshold) bytes

-- the frames up to a state, and no more
frames_up_to : (s rest : Decoding LineReading) (items : List LineItem) (of : FramesOf s items rest)
    → AreItems gives_delimited (frames_of_lines s) of.frames (frames_of_lines rest)
frames_up_to s rest items of = record { rest = frames_of_lines rest; are = of.are; same = SameNext-refl gives_delimited (frames_of_lines rest) }

pub line_items_law : LineReadingLaw
line_items_law lossy limit threshold bytes items end are =
    let s = new_lines lossy limit threshold bytes in
    let of = frames_of_items items s are.rest are.are in
    let reports = delimited_frames_law (line_feed ∷ []) limit threshold bytes of.frames (frames_of_lines are.rest) (frames_up_to s are.rest items of) in
    let got = items_of_frames lossy limit reports.frames reports.over items (subst (AreLinesOf lossy items) reports.reported of.lines) in
    record {
      given = got.given;
      lines = got.lines;
      frames = reports.frames;
      rest = reports.rest;
      over = reports.over;
      are = got.are;
      are_lines = first_lines bytes reports.frames got.lines reports.rest reports.are got.without;
      are_frames = reports.are;
      all = got.all;
      long = reports.long;
    }

-- ---- with the last one

pub items_append : (lossy : Bool) (limit : ℕ) (a b : List LineItem) (l m f g : List (List ℕ)) → AreLineItemsOf lossy limit a l f → AreLineItemsOf lossy limit b m g
    → AreLineItemsOf lossy limit (a ++ b) (l ++ m) (f ++ g)
items_append lossy limit [] b [] m [] g one two = two
items_append lossy limit (item ∷ a) b (line ∷ l) m (frame ∷ f) g one two = (one.0, items_append lossy limit a b l m f g one.1 two)
items_append lossy limit a b l m f g one two = absurd one

lines_of_last : (rest : List ℕ) → ¬ Occurs (line_feed ∷ []) rest → lines rest ≡ last_stream_line rest
lines_of_last [] lacks = refl
lines_of_last (c ∷ rest) lacks = lines-whole (c ∷ rest) (omega arith) lacks

module _ (lossy : Bool) (limit : ℕ) where
  pub last_items : (over : Bool) (last : Option LineItem) (rest : List ℕ) → IsLastLineOf lossy last (delimited_left over rest) → OnTrue over (limit < length rest)
      → length (delimited_left over rest) ≤ limit → AreLineItemsOf lossy limit (begun_line over ++ option_to_list last) (last_stream_line rest) (last_stream_line rest)
  last_items true None [] is many few = absurd (omega (arith, many))
  last_items true None (c ∷ rest) is many few = (record { within = λ fits. absurd (omega (arith, many, fits)); over = λ long. refl }, tt)
  last_items true (Some item) rest is many few = absurd (omega (arith, is.0))
  last_items false None [] is many few = tt
  last_items false None (c ∷ rest) is many few = absurd (omega (arith, ap length is))
  last_items false (Some item) [] is many few = absurd (omega (arith, is.0))
  last_items false (Some item) (c ∷ rest) is many few = (record { within = λ fits. is.1; over = λ long. absurd (omega (arith, long, few)) }, tt)

  -- bytes in the first of which no line feed begins, whatever comes after them, are as many
  many_over : (over : Bool) (rest : List ℕ) → OnTrue over (NoneBeginsInSearch (line_feed ∷ []) rest (suc limit)) → OnTrue over (limit < length rest)
  many_over true rest long = long (line_feed ∷ []) (length rest) (ap (take 1) (drop_at rest (line_feed ∷ []) (length rest) refl))
  many_over false rest long = tt

pub whole_lines_law : WholeLineReadingLaw
whole_lines_law lossy limit threshold bytes items end last after are gives =
    let s = new_lines lossy limit threshold bytes in
    let of = frames_of_items items s are.rest are.are in
    let ends = (SameNext-now gives_line are.rest end are.same (Last last) after).1 gives in
    let mid = ends.1.0 in
    let whole = delimited_ends (line_feed ∷ []) limit threshold bytes of.frames (frames_of_lines are.rest) mid (frames_up_to s are.rest items of) ends.1.1 in
    let reports = whole.reports in
    let over = reports.over in
    let rest = reports.rest in
    let got = items_of_frames lossy limit reports.frames over items (subst (AreLinesOf lossy items) reports.reported of.lines) in
    let first = first_lines bytes reports.frames got.lines rest reports.are got.without in
    let all : lines bytes ≡ got.lines ++ last_stream_line rest =
    first_lines_law bytes got.lines rest first ∙ ap (λ l. got.lines ++ l) (lines_of_last rest whole.lacks) in
    let given : items ++ option_to_list last ≡ got.given ++ (begun_line over ++ option_to_list last) =
    ap (λ l. l ++ option_to_list last) got.all ∙ append_assoc got.given (begun_line over) (option_to_list last) in
    let is = subst (λ b. IsLastLineOf b last (delimited_left over rest)) of.lossy
    (subst (IsLastLineOf are.rest.decoder.lossy last) (sym ends.1.2 ∙ whole.left) ends.2) in
    let few : length (delimited_left over rest) ≤ limit = omega (arith, whole.few, ap length whole.left) in
    let tail = last_items lossy limit over last rest is (many_over lossy limit over rest reports.long) few in
    let joined = items_append lossy limit got.given (begun_line over ++ option_to_list last) got.lines (last_stream_line rest)
    reports.frames (last_stream_line rest) got.are tail in (
      reports.frames,
      rest,
      reports.are,
      whole.lacks,
      subst (λ l. AreLineItemsOf lossy limit l (lines bytes) (reports.frames ++ last_stream_line rest)) (sym given)
          (subst (λ l. AreLineItemsOf lossy limit (got.given ++ (begun_line over ++ option_to_list last)) l (reports.frames ++ last_stream_line rest)) (sym all) joined),
    )
