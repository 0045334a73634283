-- Lines of a decoder, as texts. Each is ended by a line feed, by a carriage return, or by both; the last one also by the end of the stream.
use Rattle.std.specs.Prelude.{◌≡◌, ◌⊎◌, ℕ, suc, ◌-◌, ◌<◌, ◌≤◌, ◌==◌, max, Bool, false, List, [], ◌∷◌, ◌++◌, length, take, drop, slice_index, Option, None, Some, Result, Ok, Err, if◌then◌else◌}
use Rattle.std.specs.Bool.{OnTrue}
use Rattle.std.specs.Option.{option_to_list}
use Rattle.memchr.specs.Find.{Nowhere}
use Rattle.bytes_utils_buf.specs.declared.refused.Reason.{Reason}
use Rattle.bytes_utils_buf.specs.declared.refused.Reason.TheVariants.{OutOfMemory}
use Rattle.bytes_utils.specs.Lines.{line_feed, carriage_return}
use Rattle.bytes_utils_codec.specs.Decoding.{Decoding, Gives, Next, Item, Last, AreItems, fed, starting}
use Rattle.bytes_utils_codec.specs.Skipping.{skipping_ended, gives_skipping}
use Rattle.bytes_utils_codec.specs.LineReading.{LineItem, IsTextLineItem, IsLastLineOf, AreLineItemsOf, begun_line}
use Rattle.bytes_utils_codec.specs.UniversalLines.{AreFirstUniversalLines, FindsUniversalEnd, IsUniversalEndAt, LacksUniversalEnds, universal_lines}
use Rattle.bytes_utils_codec.specs.declared.decode.too_long.FrameTooLong.{FrameTooLong}
use Rattle.bytes_utils_codec.specs.declared.decode.lines.LineFault.TheVariants.{TooLong}
use Rattle.bytes_utils_codec.specs.declared.decode.universal_lines.Place.{Place}
use Rattle.bytes_utils_codec.specs.declared.decode.universal_lines.Place.TheVariants.{AfterReturn, Line, LongLine}

-- What clauses see of a `UniversalLines`: the greatest length of a line, the number of held bytes among which no end is looked for, where the held bytes
-- begin, and whether bytes that are no character become U+FFFD.
pub record UniversalReading : Type 0 where
  pub max_length : ℕ
  pub searched : ℕ
  pub place : Place
  pub lossy : Bool

-- a new decoder of lines of at most this many bytes
abbrev pub universal_reading : ℕ → UniversalReading
universal_reading limit = record { max_length = limit; searched = 0; place = Line; lossy = false }

-- the same decoder at the front of a line
abbrev pub ready_universal : UniversalReading → UniversalReading
ready_universal d = record d { searched = 0; place = Line }

-- the next line is reported to be longer than the limit: it is skipped up to the first end after the limit
abbrev pub skipping_universal : UniversalReading → UniversalReading
skipping_universal d = record d { searched = suc d.max_length; place = LongLine }

-- ---- the front of a line

-- the bytes without one line feed at their start, if they have one there
abbrev pub without_universal_feed : List ℕ → List ℕ
without_universal_feed [] = []
without_universal_feed (c ∷ t) = if c == line_feed then t else c ∷ t

-- a line feed that belongs to the end of the line before is passed; as long as no byte is held it may still come
abbrev pub universal_feed_passed : Place → List ℕ → Place × List ℕ
universal_feed_passed AfterReturn (c ∷ t) = (Line, without_universal_feed (c ∷ t))
universal_feed_passed place held = (place, held)

abbrev pub after_universal_feed : Decoding UniversalReading → Decoding UniversalReading
after_universal_feed s =
    let passed = universal_feed_passed s.decoder.place s.held in
    record s { decoder = record s.decoder { place = passed.0 }; held = passed.1 }

-- where the bytes begin that come after this end
abbrev pub universal_place_after : ℕ → Place
universal_place_after c = if c == carriage_return then AfterReturn else Line

-- the state after a line of this length, and the byte that ends it
abbrev pub after_universal_end : ℕ → Decoding UniversalReading → Decoding UniversalReading
after_universal_end len s =
    record s { decoder = record s.decoder { searched = 0; place = universal_place_after (slice_index s.held len) }; held = drop (suc len) s.held }

-- of the ends that are looked for the first one is there; or none is there
abbrev pub UniversalEndsAt : Decoding UniversalReading → ℕ → Type 0
UniversalEndsAt s at = FindsUniversalEnd s.held s.decoder.searched (Some at)

abbrev pub LacksUniversalEnd : Decoding UniversalReading → Type 0
LacksUniversalEnd s = FindsUniversalEnd s.held s.decoder.searched None

-- a line that is skipped, if there is one, is passed with its end
abbrev pub PassesLongUniversalBy : Place → Decoding UniversalReading → Decoding UniversalReading → Type 0
PassesLongUniversalBy LongLine old new = (len : ℕ) × UniversalEndsAt old len × (new ≡ after_universal_feed (after_universal_end len old))
PassesLongUniversalBy place old new = new ≡ old

abbrev pub PassesLongUniversal : Decoding UniversalReading → Decoding UniversalReading → Type 0
PassesLongUniversal old new = PassesLongUniversalBy old.decoder.place old new

-- the new state is after the byte that ends the line that is skipped, if there is one
abbrev pub EndsLongUniversalBy : Place → Decoding UniversalReading → Decoding UniversalReading → Type 0
EndsLongUniversalBy LongLine old new = (len : ℕ) × UniversalEndsAt old len × (new ≡ after_universal_end len old)
EndsLongUniversalBy place old new = new ≡ old

-- the new state is at the front of the next line: the rest of an end, or a line that is skipped, is passed
pub record ReachesUniversal (old new : Decoding UniversalReading) : Type 0 where
  pub ending : Decoding UniversalReading
  pub ends : EndsLongUniversalBy old.decoder.place old ending
  pub is : new ≡ after_universal_feed ending

-- the end of the line that is skipped has not come
abbrev pub SkipsUniversal : Decoding UniversalReading → Type 0
SkipsUniversal s = (s.decoder.place ≡ LongLine) × LacksUniversalEnd s

-- its bytes that have come are dropped
abbrev pub dropped_universal : Decoding UniversalReading → Decoding UniversalReading
dropped_universal s = record s { decoder = record s.decoder { searched = s.decoder.searched - length s.held }; held = [] }

-- ---- a line

-- no end is there, and the line may still be within the limit
pub record AwaitsUniversalEnd (s : Decoding UniversalReading) : Type 0 where
  pub lacks : LacksUniversalEnd s
  pub few : length s.held ≤ s.decoder.max_length

-- more bytes than the limit have come, and no end is at a place within it
pub record IsUniversalOverLimit (s : Decoding UniversalReading) : Type 0 where
  pub many : s.decoder.max_length < length s.held
  pub none : Nowhere (IsUniversalEndAt s.held) s.decoder.searched (suc s.decoder.max_length)

-- a line within the limit has come, of this length
pub record HasUniversalLineOf (s : Decoding UniversalReading) (len : ℕ) : Type 0 where
  pub ends : UniversalEndsAt s len
  pub fits : len ≤ s.decoder.max_length

-- What comes next at the front of a line: the line, that it is longer than the limit, or at the end of the stream the bytes that are left.
abbrev pub GivesUniversalFrom : Decoding UniversalReading → Next LineItem → Decoding UniversalReading → Type 0
GivesUniversalFrom s (Item item) new =
    ((len : ℕ) × HasUniversalLineOf s len × IsTextLineItem s.decoder.lossy item (take len s.held) × (new ≡ after_universal_end len s))
    ⊎ ((item ≡ Err TooLong) × IsUniversalOverLimit s × (new ≡ record s { decoder = skipping_universal s.decoder }))
GivesUniversalFrom s (Last last) new = AwaitsUniversalEnd s × IsLastLineOf s.decoder.lossy last s.held × (new ≡ skipping_ended ready_universal s)

-- What comes next: that of the next line. Of a line that is skipped up to the end of the stream nothing is left.
abbrev pub gives_universal : Gives UniversalReading LineItem
gives_universal = gives_skipping ReachesUniversal SkipsUniversal ready_universal GivesUniversalFrom

-- the end of the next line has not come, or that of a line that is skipped
abbrev pub AwaitsUniversal : Decoding UniversalReading → Type 0
AwaitsUniversal s = SkipsUniversal s ⊎ ((mid : Decoding UniversalReading) × ReachesUniversal s mid × AwaitsUniversalEnd mid)

-- a line within the limit has come that isn't empty
abbrev pub HasUniversalLine : Decoding UniversalReading → Type 0
HasUniversalLine s = (mid : Decoding UniversalReading) × ReachesUniversal s mid × ((len : ℕ) × HasUniversalLineOf mid len × (0 < len))

-- at the end of the stream some bytes are left
abbrev pub HasUniversalRest : Decoding UniversalReading → Type 0
HasUniversalRest s = (mid : Decoding UniversalReading) × ReachesUniversal s mid × AwaitsUniversalEnd mid × (0 < length mid.held)

-- memory was refused for a line that has come, is within the limit and isn't empty
abbrev pub fails_universal : Decoding UniversalReading → Reason → Type 0
fails_universal s reason = (reason ≡ OutOfMemory) × HasUniversalLine s

-- memory was refused at the end of the stream, for the bytes that are left
abbrev pub fails_universal_at_end : Decoding UniversalReading → Reason → Type 0
fails_universal_at_end s reason = (reason ≡ OutOfMemory) × HasUniversalRest s

-- all held bytes are searched
abbrev pub all_universal_searched : Decoding UniversalReading → Decoding UniversalReading
all_universal_searched s = record s { decoder = record s.decoder { searched = max s.decoder.searched (length s.held) } }

-- More bytes have to come. Those of a line that is skipped are dropped; those of the next line are all searched.
abbrev pub StopsUniversal : Decoding UniversalReading → Decoding UniversalReading → Type 0
StopsUniversal old new = (SkipsUniversal old × (new ≡ dropped_universal old))
    ⊎ ((mid : Decoding UniversalReading) × ReachesUniversal old mid × AwaitsUniversalEnd mid × (new ≡ all_universal_searched mid))

-- what a call that gives no item leaves: it stopped, or it is at the front of the next line
abbrev pub keeps_universal : Decoding UniversalReading → Decoding UniversalReading → Type 0
keeps_universal old new = StopsUniversal old new ⊎ ReachesUniversal old new

-- ---- what the parts of a call do, by what they returned

-- at the front of a line: the length of the next one
abbrev pub IsUniversalComing : Decoding UniversalReading → Option (Result ℕ FrameTooLong) → Decoding UniversalReading → Type 0
IsUniversalComing old (Some (Ok len)) new = (new ≡ old) × HasUniversalLineOf old len
IsUniversalComing old (Some (Err over)) new = IsUniversalOverLimit old × (new ≡ record old { decoder = skipping_universal old.decoder })
IsUniversalComing old None new = AwaitsUniversalEnd old × (new ≡ all_universal_searched old)

-- anywhere: the line can be taken then, by its length
abbrev pub UniversalReadingFinds : Decoding UniversalReading → Option (Result ℕ FrameTooLong) → Decoding UniversalReading → Type 0
UniversalReadingFinds old (Some (Ok len)) new = ReachesUniversal old new × HasUniversalLineOf new len
UniversalReadingFinds old (Some (Err over)) new = gives_universal old (Item (Err TooLong)) new
UniversalReadingFinds old None new = StopsUniversal old new

-- the next line is taken
abbrev pub TakesUniversal : Decoding UniversalReading → Result (Option LineItem) Reason → Decoding UniversalReading → Type 0
TakesUniversal old (Ok (Some item)) new = gives_universal old (Item item) new
TakesUniversal old (Ok None) new = StopsUniversal old new
TakesUniversal old (Err reason) new = (reason ≡ OutOfMemory) × HasUniversalLine old × ReachesUniversal old new

-- ---- the items of a new decoder

-- These items are given of the bytes: that for each first line, in order; and if the end of the next line has not come and it is over the limit, perhaps
-- that it is too long.
pub record AreFirstOfUniversalReading (lossy : Bool) (limit : ℕ) (bytes : List ℕ) (items : List LineItem) : Type 0 where
  pub given : List LineItem
  pub lines : List (List ℕ)
  pub rest : List ℕ
  pub over : Bool
  pub are : AreLineItemsOf lossy limit given lines lines
  pub are_lines : AreFirstUniversalLines bytes lines rest
  pub all : items ≡ given ++ begun_line over
  pub long : OnTrue over ((limit < length rest) × LacksUniversalEnds (take (suc limit) rest))

-- these are the items of these bytes, of a new decoder
abbrev pub AreUniversalItems : Bool → ℕ → ℕ → List ℕ → List LineItem → Decoding UniversalReading → Type 0
AreUniversalItems lossy limit threshold bytes items end =
    AreItems gives_universal (fed (starting (record (universal_reading limit) { lossy = lossy }) threshold) bytes) items end

-- The items are those for the first lines of the bytes.
abbrev pub UniversalReadingLaw : Type 0
UniversalReadingLaw = (lossy : Bool) (limit threshold : ℕ) (bytes : List ℕ) (items : List LineItem) (end : Decoding UniversalReading)
    → AreUniversalItems lossy limit threshold bytes items end → AreFirstOfUniversalReading lossy limit bytes items

-- With the last item at the end of the stream, if there is one, they are those for all lines of the bytes.
abbrev pub WholeUniversalReadingLaw : Type 0
WholeUniversalReadingLaw = (lossy : Bool) (limit threshold : ℕ) (bytes : List ℕ) (items : List LineItem) (end : Decoding UniversalReading) (last : Option LineItem)
    (after : Decoding UniversalReading) → AreUniversalItems lossy limit threshold bytes items end → gives_universal end (Last last) after
    → AreLineItemsOf lossy limit (items ++ option_to_list last) (universal_lines bytes) (universal_lines bytes)
