-- Frames of a decoder that come after their lengths, up to a limit. A longer frame is an item that says so, and then it is skipped.
use Rattle.std.specs.Prelude.{◌≡◌, ◌⊎◌, ℕ, suc, ◌+◌, ◌-◌, ◌<◌, ◌≤◌, nat_lt, if◌then◌else◌, ℤ, pos, negsuc, Bool, true, false, List, length, reverse, take, drop, Option, None, Some, unwrap_or, Result, Ok, Err}
use Rattle.std.specs.Int.Digits.{number_from_digits}
use Rattle.bytes_utils_buf.specs.declared.refused.Reason.{Reason}
use Rattle.bytes_utils_buf.specs.declared.refused.Reason.TheVariants.{OutOfMemory, TooLong}
use Rattle.bytes_utils_codec.specs.Decoding.{Decoding, Gives, Item, Last}
use Rattle.bytes_utils_codec.specs.declared.decode.too_long.FrameTooLong.{FrameTooLong}

-- What clauses see of a `LengthPrefixed`: the greatest number of bytes after the head, which ends with the length; the place of the length and its number
-- of bytes, of which the least significant one may come first; what is added to the length; how many bytes are dropped from the front of a frame, or that
-- these are the head; how many of the next bytes are skipped, since they are of a frame that was reported to be too long; and how many bytes have to be
-- held before it looks at them: 0, or as many as a frame has with its head, once that is read, until the frame is taken.
pub record Prefixing : Type 0 where
  pub max_length : ℕ
  pub offset : ℕ
  pub width : ℕ
  pub is_little_endian : Bool
  pub adjustment : ℤ
  pub dropped : Option ℕ
  pub skipped : ℕ
  pub needed : ℕ

-- a new decoder: of frames after four bytes, the most significant one first
abbrev pub prefixing : ℕ → Prefixing
prefixing limit =
    record { max_length = limit; offset = 0; width = 4; is_little_endian = false; adjustment = pos 0; dropped = None; skipped = 0; needed = 0 }

-- the same decoder at the front of a frame
abbrev pub ready_prefixed : Prefixing → Prefixing
ready_prefixed d = record d { skipped = 0; needed = 0 }

-- ---- the length of a frame

-- the number of bytes up to the end of the length
abbrev pub prefixed_head_len : Prefixing → ℕ
prefixed_head_len d = d.offset + d.width

-- the number that these bytes write, the most significant one first, or the least significant one
abbrev pub prefixed_number_of : Bool → List ℕ → ℕ
prefixed_number_of false bytes = number_from_digits 256 bytes
prefixed_number_of true bytes = number_from_digits 256 (reverse bytes)

-- the number in the length; it has no meaning until the head has come
abbrev pub stated_prefixed_len : Prefixing → List ℕ → ℕ
stated_prefixed_len d bytes = prefixed_number_of d.is_little_endian (take d.width (drop d.offset bytes))

-- n and what is added to it, if that is not below zero
abbrev pub adjusted_prefixed_len : ℕ → ℤ → Option ℕ
adjusted_prefixed_len n (pos more) = Some (n + more)
adjusted_prefixed_len n (negsuc less) = if nat_lt less n then Some (n - suc less) else None

-- the number of bytes after the head of the frame, if there can be such a frame
abbrev pub prefixed_body_len : Prefixing → List ℕ → Option ℕ
prefixed_body_len d bytes = adjusted_prefixed_len (stated_prefixed_len d bytes) d.adjustment

-- the number of bytes that are dropped from the front of a frame
abbrev pub dropped_prefixed_len : Prefixing → ℕ
dropped_prefixed_len d = unwrap_or d.dropped (prefixed_head_len d)

-- the head has come, and n bytes come after it, which are within the limit
pub record IsPrefixedWithinLimit (d : Prefixing) (bytes : List ℕ) (n : ℕ) : Type 0 where
  pub head : prefixed_head_len d ≤ length bytes
  pub len : prefixed_body_len d bytes ≡ Some n
  pub within : n ≤ d.max_length

-- as many bytes as these are skipped after the head of a frame over the limit; none, if the length is below zero
abbrev pub IsPrefixedOver : ℕ → Option ℕ → ℕ → Type 0
IsPrefixedOver limit (Some len) n = (limit < len) × (n ≡ len)
IsPrefixedOver limit None n = n ≡ 0

-- the head has come, and the frame is over the limit: it is skipped with n bytes after the head
pub record IsPrefixedOverLimit (d : Prefixing) (bytes : List ℕ) (n : ℕ) : Type 0 where
  pub head : prefixed_head_len d ≤ length bytes
  pub over : IsPrefixedOver d.max_length (prefixed_body_len d bytes) n

-- ---- what comes next, where no byte of a frame that is skipped is held

-- the old bytes are the head, the n bytes after it, and the rest; the frame is what is left of them without the bytes that are dropped
pub record TakesPrefixed (d : Prefixing) (old frame rest : List ℕ) : Type 0 where
  pub len : ℕ
  pub within : IsPrefixedWithinLimit d old len
  pub whole : prefixed_head_len d + len ≤ length old
  pub frame_is : frame ≡ drop (dropped_prefixed_len d) (take (prefixed_head_len d + len) old)
  pub rest_is : rest ≡ drop (prefixed_head_len d + len) old

-- some bytes of a frame within the limit are still to come
abbrev pub IsPrefixedPart : Prefixing → List ℕ → Type 0
IsPrefixedPart d bytes = (n : ℕ) × IsPrefixedWithinLimit d bytes n × (length bytes < prefixed_head_len d + n)

-- the held bytes are looked at: none of them is skipped, and they are as many as are needed
abbrev pub IsPrefixedLookedAt : Decoding Prefixing → Type 0
IsPrefixedLookedAt s = (s.decoder.skipped ≡ 0) × (s.decoder.needed ≤ length s.held)

-- no head is read: bytes are skipped, or fewer are held than are needed, or than the head has
abbrev pub IsPrefixedUnread : Decoding Prefixing → Type 0
IsPrefixedUnread s = (0 < s.decoder.skipped) ⊎ ((length s.held < s.decoder.needed) ⊎ (length s.held < prefixed_head_len s.decoder))

-- some bytes are still to come: of those that are skipped or needed, of a head, or of a frame within the limit
abbrev pub awaits_prefixed_front : Decoding Prefixing → Type 0
awaits_prefixed_front s = IsPrefixedUnread s ⊎ IsPrefixedPart s.decoder s.held

-- memory was refused for the next frame, which has come, is within the limit and isn't empty
abbrev pub fails_prefixed_front : Decoding Prefixing → Reason → Type 0
fails_prefixed_front s TooLong = ⊥
fails_prefixed_front s OutOfMemory = IsPrefixedLookedAt s × ((n : ℕ) × IsPrefixedWithinLimit s.decoder s.held n
    × (prefixed_head_len s.decoder + n ≤ length s.held) × (dropped_prefixed_len s.decoder < prefixed_head_len s.decoder + n))

-- the same, where n bytes are needed
abbrev pub needing_prefixed : ℕ → Decoding Prefixing → Decoding Prefixing
needing_prefixed n s = record s { decoder = record s.decoder { needed = n } }

-- A call that gives no item changes nothing, but if it has read the head of a frame within the limit: then all bytes of that frame are needed.
abbrev pub keeps_prefixed_front : Decoding Prefixing → Decoding Prefixing → Type 0
keeps_prefixed_front old new =
    (IsPrefixedUnread old × (new ≡ old))
    ⊎ (IsPrefixedLookedAt old × ((n : ℕ) × IsPrefixedWithinLimit old.decoder old.held n × (new ≡ needing_prefixed (prefixed_head_len old.decoder + n) old)))

-- the frame over the limit was reported: its head is gone, and n bytes after it are skipped
abbrev pub skipping_prefixed : ℕ → Decoding Prefixing → Decoding Prefixing
skipping_prefixed n s = record s { decoder = record s.decoder { skipped = n; needed = 0 }; held = drop (prefixed_head_len s.decoder) s.held }

abbrev pub gives_prefixed_front : Gives Prefixing (Result (List ℕ) FrameTooLong)
gives_prefixed_front old (Item (Ok frame)) new =
    IsPrefixedLookedAt old × TakesPrefixed old.decoder old.held frame new.held × (new ≡ record (needing_prefixed 0 old) { held = new.held })
gives_prefixed_front old (Item (Err e)) new = IsPrefixedLookedAt old × ((n : ℕ) × IsPrefixedOverLimit old.decoder old.held n × (new ≡ skipping_prefixed n old))
gives_prefixed_front old (Last None) new = awaits_prefixed_front old × (new ≡ record old { decoder = ready_prefixed old.decoder })
gives_prefixed_front old (Last (Some item)) new = ⊥

-- ---- the same, after the bytes that are skipped

-- the bytes that are skipped are dropped, as many of them as are held
abbrev pub after_skipped_prefixed : Decoding Prefixing → Decoding Prefixing
after_skipped_prefixed s = record s {
  decoder = record s.decoder { skipped = s.decoder.skipped - length s.held };
  held = drop s.decoder.skipped s.held;
}

abbrev pub awaits_prefixed : Decoding Prefixing → Type 0
awaits_prefixed s = awaits_prefixed_front (after_skipped_prefixed s)

-- What comes next: a frame within the limit, or that it is longer. At the end of the stream none, and what is held is left, but for the bytes of a
-- frame that is skipped.
abbrev pub gives_prefixed : Gives Prefixing (Result (List ℕ) FrameTooLong)
gives_prefixed old next new = gives_prefixed_front (after_skipped_prefixed old) next new

abbrev pub fails_prefixed : Decoding Prefixing → Reason → Type 0
fails_prefixed s reason = fails_prefixed_front (after_skipped_prefixed s) reason

-- a call that gives no item drops what is skipped, and then changes nothing but how many bytes are needed
abbrev pub keeps_prefixed : Decoding Prefixing → Decoding Prefixing → Type 0
keeps_prefixed old new = keeps_prefixed_front (after_skipped_prefixed old) new
