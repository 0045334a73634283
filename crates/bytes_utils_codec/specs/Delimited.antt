-- Frames of a decoder that a separator ends, up to a limit. A longer frame is an item that says so, and then it is
-- skipped.
use Rattle.std.specs.Prelude.{◌≡◌, ◌⊎◌, ℕ, suc, ◌+◌, ◌-◌, ◌<◌, ◌≤◌, max, Bool, true, false, List, [], ◌∷◌, ◌++◌, length, map, take, nat_le, Option, None, Some, Result, Ok, Err, if◌then◌else◌}
use Rattle.std.specs.Bool.{OnTrue}
use Rattle.bytes_utils_buf.specs.declared.refused.Reason.{Reason}
use Rattle.bytes_utils_buf.specs.declared.refused.Reason.TheVariants.{OutOfMemory, TooLong}
use Rattle.bytes_utils.specs.Occurrence.{Occurs, OccursAt}
use Rattle.bytes_utils_codec.specs.Skipping.{gives_skipping}
use Rattle.bytes_utils_codec.specs.Frames.{AreFrames}
use Rattle.bytes_utils_codec.specs.Search.{NoneBeginsInSearch}
use Rattle.bytes_utils_codec.specs.Decoding.{Decoding, Gives, Item, Last, AreItems, Decodes, fed, passed, starting}
use Rattle.bytes_utils_codec.specs.StreamRuns.{StreamEvent, IsRunOver}
use Rattle.bytes_utils_codec.specs.declared.decode.too_long.FrameTooLong.{FrameTooLong}

-- What clauses see of a `Delimited`: the separator, the greatest length of a frame, the number of held bytes before
-- which no separator is looked for, and whether the next frame is skipped, since it was reported to be longer.
pub record Delimiting : Type 0 where
  pub separator : List ℕ
  pub max_length : ℕ
  pub searched : ℕ
  pub skipping : Bool

-- a decoder at the front of a frame, as a new one
abbrev pub delimiting : List ℕ → ℕ → Delimiting
delimiting separator limit = record { separator = separator; max_length = limit; searched = 0; skipping = false }

-- the same decoder at the front of a frame
abbrev pub ready_delimited : Delimiting → Delimiting
ready_delimited d = record d { searched = 0; skipping = false }

-- The old bytes are the frame, the separator and the rest. Of the separators that begin at place `from` or after it,
-- this is the first.
pub record TakesDelimitedFrameFrom (separator : List ℕ) (from : ℕ) (old frame rest : List ℕ) : Type 0 where
  pub bytes : old ≡ frame ++ (separator ++ rest)
  pub low : from ≤ length frame
  pub first : (k : ℕ) → from ≤ k → OccursAt separator old k → length frame ≤ k

-- the held bytes begin with this frame, which its separator ends
abbrev pub TakesDelimitedFrame : Decoding Delimiting → List ℕ → List ℕ → Type 0
TakesDelimitedFrame s frame rest = TakesDelimitedFrameFrom s.decoder.separator s.decoder.searched s.held frame rest

-- no separator begins at or after the place up to which was searched
abbrev pub LacksDelimitedSeparator : Decoding Delimiting → Type 0
LacksDelimitedSeparator s = (k : ℕ) → s.decoder.searched ≤ k → ¬ OccursAt s.decoder.separator s.held k

-- the frame that is skipped, if there is one, is passed with its separator
abbrev pub PassesSkippedDelimited : Bool → Decoding Delimiting → Decoding Delimiting → Type 0
PassesSkippedDelimited false old new = new ≡ old
PassesSkippedDelimited true old new = (gone : List ℕ) × TakesDelimitedFrame old gone new.held × (new ≡ record old { decoder = ready_delimited old.decoder; held = new.held })

abbrev pub PassesDelimited : Decoding Delimiting → Decoding Delimiting → Type 0
PassesDelimited old new = PassesSkippedDelimited old.decoder.skipping old new

-- no separator is there, and the next frame may still be within the limit
pub record AwaitsDelimitedSeparator (s : Decoding Delimiting) : Type 0 where
  pub lacks : LacksDelimitedSeparator s
  pub few : length s.held < s.decoder.max_length + length s.decoder.separator

-- all places within the limit at which a separator may begin have come, and none begins there
pub record IsDelimitedOverLimit (s : Decoding Delimiting) : Type 0 where
  pub many : s.decoder.max_length + length s.decoder.separator ≤ length s.held
  pub none : (k : ℕ) → s.decoder.searched ≤ k → OccursAt s.decoder.separator s.held k → s.decoder.max_length < k

-- the frame over the limit was reported: it is skipped up to the first separator that begins after the limit
abbrev pub skipping_delimited_from : Delimiting → Delimiting
skipping_delimited_from d = record d { searched = suc d.max_length; skipping = true }

-- the end of the frame that is skipped has not come
abbrev pub SkipsDelimited : Decoding Delimiting → Type 0
SkipsDelimited s = (s.decoder.skipping ≡ true) × LacksDelimitedSeparator s

-- the end of the next frame has not come, or that of the frame that is skipped
abbrev pub AwaitsDelimitedFrame : Decoding Delimiting → Type 0
AwaitsDelimitedFrame s = SkipsDelimited s ⊎ ((mid : Decoding Delimiting) × PassesDelimited s mid × AwaitsDelimitedSeparator mid)

-- What comes next at the front of a frame: it, if it is within the limit, or that it is longer. At the end of the stream
-- none, and what is held is left.
abbrev pub GivesDelimitedFrame : Gives Delimiting (Result (List ℕ) FrameTooLong)
GivesDelimitedFrame s (Item (Ok frame)) new = TakesDelimitedFrame s frame new.held × (length frame ≤ s.decoder.max_length)
    × (new ≡ record s { decoder = ready_delimited s.decoder; held = new.held })
GivesDelimitedFrame s (Item (Err e)) new = IsDelimitedOverLimit s × (new ≡ record s { decoder = skipping_delimited_from s.decoder })
GivesDelimitedFrame s (Last None) new = AwaitsDelimitedSeparator s × (new ≡ record s { decoder = ready_delimited s.decoder })
GivesDelimitedFrame s (Last (Some item)) new = ⊥

-- What comes next: that of the next frame. Of a frame that is skipped up to the end of the stream nothing is left.
abbrev pub gives_delimited : Gives Delimiting (Result (List ℕ) FrameTooLong)
gives_delimited = gives_skipping PassesDelimited SkipsDelimited ready_delimited GivesDelimitedFrame

-- Memory was refused for the next frame, which has come, is within the limit and isn't empty.
abbrev pub fails_delimited : Decoding Delimiting → Reason → Type 0
fails_delimited s TooLong = ⊥
fails_delimited s OutOfMemory = (mid : Decoding Delimiting) × PassesDelimited s mid
    × ((frame : List ℕ) × (rest : List ℕ) × TakesDelimitedFrame mid frame rest × (length frame ≤ s.decoder.max_length) × (0 < length frame))

-- The first bytes of the frame that is skipped are dropped: its separator begins in none of them, whatever comes after
-- those held. Fewer are left than the separator has.
pub record DropsDelimited (old new : Decoding Delimiting) : Type 0 where
  pub gone : List ℕ
  pub bytes : old.held ≡ gone ++ new.held
  pub skipping : old.decoder.skipping ≡ true
  pub is : new ≡ record old { decoder = record old.decoder { searched = 0 }; held = new.held }
  pub none : (more : List ℕ) (k : ℕ) → old.decoder.searched ≤ k → OccursAt old.decoder.separator (old.held ++ more) k → length gone ≤ k
  pub low : old.decoder.searched ≤ length gone
  pub few : length new.held < length old.decoder.separator

-- bytes of the frame that is skipped are dropped, unless no separator is looked for in those held
abbrev pub SkipsMoreDelimited : Decoding Delimiting → Decoding Delimiting → Type 0
SkipsMoreDelimited old new = DropsDelimited old new ⊎ ((length old.held < old.decoder.searched) × (new ≡ old))

-- all held bytes are searched: only those will be searched again in which a separator may begin, fewer than it has
abbrev pub all_delimited_searched : Decoding Delimiting → Decoding Delimiting
all_delimited_searched s =
    record s { decoder = record s.decoder { searched = max s.decoder.searched (length s.held - (length s.decoder.separator - 1)) } }

-- What a call that gives no item leaves: the frame that is skipped is skipped on; or it is passed, and nothing more has
-- changed, or all held bytes are searched.
abbrev pub keeps_delimited : Decoding Delimiting → Decoding Delimiting → Type 0
keeps_delimited old new =
    SkipsMoreDelimited old new ⊎ ((mid : Decoding Delimiting) × PassesDelimited old mid × ((new ≡ mid) ⊎ (AwaitsDelimitedSeparator mid × (new ≡ all_delimited_searched mid))))

-- More bytes have to come, for the end of the frame that is skipped, if one is still, or of the next one: then all held
-- bytes are searched.
abbrev pub StopsDelimitedAt : Bool → Decoding Delimiting → Decoding Delimiting → Type 0
StopsDelimitedAt true old new = SkipsDelimited old × SkipsMoreDelimited old new
StopsDelimitedAt false old new = (mid : Decoding Delimiting) × PassesDelimited old mid × AwaitsDelimitedSeparator mid × (new ≡ all_delimited_searched mid)

abbrev pub StopsDelimited : Decoding Delimiting → Decoding Delimiting → Type 0
StopsDelimited old new = StopsDelimitedAt new.decoder.skipping old new

-- what a call that finds the next frame did, by what it returned: the frame can be taken then, by its length
abbrev pub FindsNextDelimited : Decoding Delimiting → Option (Result ℕ FrameTooLong) → Decoding Delimiting → Type 0
FindsNextDelimited old (Some (Ok len)) new = keeps_delimited old new × (len + length new.decoder.separator ≤ length new.held)
    × gives_delimited old (Item (Ok (take len new.held))) (passed ready_delimited (len + length new.decoder.separator) new)
FindsNextDelimited old (Some (Err over)) new = gives_delimited old (Item (Err over)) new
FindsNextDelimited old None new = StopsDelimited old new × AwaitsDelimitedFrame old × keeps_delimited old new

-- what is reported of a frame: the frame, or that it is longer than the limit
abbrev pub delimited_within : ℕ → List ℕ → Result (List ℕ) FrameTooLong
delimited_within limit frame = if nat_le (length frame) limit then Ok frame else Err (record {})

-- what is reported of a frame whose end has not come
abbrev pub delimited_begun : Bool → List (Result (List ℕ) FrameTooLong)
delimited_begun true = Err (record {}) ∷ []
delimited_begun false = []

-- These items are reported of the bytes: each frame, or that it is longer than the limit; and if the end of a frame has
-- not come that is certain to be longer, perhaps that.
pub record AreDelimitedReports (separator : List ℕ) (limit : ℕ) (bytes : List ℕ) (items : List (Result (List ℕ) FrameTooLong)) : Type 0 where
  pub frames : List (List ℕ)
  pub rest : List ℕ
  pub over : Bool
  pub are : AreFrames separator bytes frames rest
  pub reported : items ≡ map (delimited_within limit) frames ++ delimited_begun over
  pub long : OnTrue over (NoneBeginsInSearch separator rest (suc limit))

-- The items of a new decoder are reported of the bytes.
abbrev pub DelimitedFramesLaw : Type 0
DelimitedFramesLaw = (separator : List ℕ) (limit threshold : ℕ) (bytes : List ℕ) (items : List (Result (List ℕ) FrameTooLong)) (end : Decoding Delimiting)
    → AreItems gives_delimited (fed (starting (delimiting separator limit) threshold) bytes) items end → AreDelimitedReports separator limit bytes items

-- what is left of the bytes after the last frame: none, if they were reported to be too many
abbrev pub delimited_left : Bool → List ℕ → List ℕ
delimited_left true rest = []
delimited_left false rest = rest

-- If no item comes after them at the end of the stream, then the frames are all of the bytes: after them there is no
-- separator.
abbrev pub DelimitedWholeLaw : Type 0
DelimitedWholeLaw = (separator : List ℕ) (limit threshold : ℕ) (bytes : List ℕ) (items : List (Result (List ℕ) FrameTooLong)) (end after : Decoding Delimiting)
    → AreItems gives_delimited (fed (starting (delimiting separator limit) threshold) bytes) items end → gives_delimited end (Last None) after
    → (reports : AreDelimitedReports separator limit bytes items) × (¬ Occurs separator reports.rest) × (after.held ≡ delimited_left reports.over reports.rest)

-- what a call on a new decoder and the bytes that came returned, or a piece that came
abbrev pub DelimitedEvent : Type 0
DelimitedEvent = StreamEvent (Result (Option (Result (List ℕ) FrameTooLong)) Reason)

abbrev pub IsDelimitedCall : Decoding Delimiting → Result (Option (Result (List ℕ) FrameTooLong)) Reason → Decoding Delimiting → Type 0
IsDelimitedCall old result new = Decodes gives_delimited AwaitsDelimitedFrame fails_delimited keeps_delimited old result new

-- Whatever the pieces are, after a call of a new decoder's that returned nothing fewer bytes are held than the limit
-- and the separator have together.
abbrev pub DelimitedHeldLaw : Type 0
DelimitedHeldLaw = (separator : List ℕ) (limit threshold : ℕ) (events : List DelimitedEvent) (before end : Decoding Delimiting) → 0 < length separator
    → IsRunOver fed IsDelimitedCall (starting (delimiting separator limit) threshold) events before → IsDelimitedCall before (Ok None) end
    → length end.held < limit + length separator
