-- Lines of a reply of the Redis protocol, which are read as their bytes come.
use Rattle.std.specs.Prelude.{◌≡◌, ◌≢◌, ⊤, ℕ, ℤ, pos, neg_ℤ, ◌+◌, ◌<◌, ◌≤◌, List, [], ◌∷◌, ◌++◌, length, take, drop, Option, None, Some, MatchOption}
use Rattle.bytes_utils_codec.specs.Frames.{TakesFrame}
use Rattle.bytes_utils.specs.Lines.{carriage_return}
use Rattle.bytes_utils.specs.Occurrence.{OccursAt}
use Rattle.bytes_utils_protocols.specs.Digits.{WriteNumber}
use Rattle.bytes_utils_protocols.specs.Redis.{redis_line_end, redis_no_length, IsRedisLineOf, IsRedisTextLine, after_redis_line, redis_body, redis_items_in}
use Rattle.bytes_utils_protocols.specs.declared.redis.item.Item.{Item}
use Rattle.bytes_utils_protocols.specs.declared.redis.limits.Limits.{Limits}
use Rattle.bytes_utils_protocols.specs.declared.redis.line.BegunLine.{BegunLine}
use Rattle.bytes_utils_protocols.specs.declared.redis.line.Counted.{Counted}
use Rattle.bytes_utils_protocols.specs.declared.redis.line.Counted.TheVariants.{Bytes, Items}
use Rattle.bytes_utils_protocols.specs.declared.redis.line.LineHead.{LineHead}
use Rattle.bytes_utils_protocols.specs.declared.redis.line.LineHead.TheVariants.{Whole, Plain, Body}
use Rattle.bytes_utils_protocols.specs.declared.redis.line.Line.{Line}
use Rattle.bytes_utils_protocols.specs.declared.redis.line.Line.TheVariants.{Empty, Text, Signed, Length, Dash, Null}
use Rattle.bytes_utils_protocols.specs.declared.redis.line.Sign.{Sign}
use Rattle.bytes_utils_protocols.specs.declared.redis.pending.LineEnd.{LineEnd}
use Rattle.bytes_utils_protocols.specs.declared.redis.pending.LineEnd.TheVariants.{Missing, Half, Here}
use Rattle.bytes_utils_protocols.specs.declared.redis.line.Sign.TheVariants.{Unsigned, Plus, Minus}

-- no byte is a carriage return
abbrev pub NoLineReturn : List ℕ → Type 0
NoLineReturn [] = ⊤
NoLineReturn (c ∷ t) = (c ≢ carriage_return) × NoLineReturn t

abbrev pub line_sign_bytes : Sign → List ℕ
line_sign_bytes Unsigned = []
line_sign_bytes Plus = 43 ∷ []
line_sign_bytes Minus = 45 ∷ []

-- the number with the sign
abbrev pub signed_line_number : Sign → ℕ → ℤ
signed_line_number Unsigned n = pos n
signed_line_number Plus n = pos n
signed_line_number Minus n = neg_ℤ (pos n)

-- the first byte of the line of a bulk item, and of that of an array
abbrev pub line_length_byte : Counted → ℕ
line_length_byte Bytes = 36
line_length_byte Items = 42

-- the digits write this number, or there is none of them
abbrev pub AreLineDigits : Option ℕ → List ℕ → Type 0
AreLineDigits None digits = digits ≡ []
AreLineDigits (Some n) digits = WriteNumber digits n

-- these bytes of a line were read
abbrev pub IsRedisLineReadAs : Line → List ℕ → Type 0
IsRedisLineReadAs Empty bytes = bytes ≡ []
IsRedisLineReadAs Text bytes = IsRedisTextLine bytes
IsRedisLineReadAs (Signed sign value) bytes = (digits : List ℕ) × (bytes ≡ 58 ∷ (line_sign_bytes sign ++ digits)) × AreLineDigits value digits
IsRedisLineReadAs (Length counted value) bytes = (digits : List ℕ) × (bytes ≡ line_length_byte counted ∷ digits) × AreLineDigits value digits
IsRedisLineReadAs (Dash counted) bytes = bytes ≡ line_length_byte counted ∷ 45 ∷ []
IsRedisLineReadAs (Null counted) bytes = bytes ≡ line_length_byte counted ∷ redis_no_length

-- after the bytes that were read these come: they are read too, or no item's line begins with all of them
abbrev pub ReadsOnRedisLine : Line → List ℕ → Option Line → Type 0
ReadsOnRedisLine line more result = (bytes : List ℕ) → IsRedisLineReadAs line bytes
    → MatchOption result ((item : Item) (rest : List ℕ) → ¬ IsRedisLineOf item (bytes ++ (more ++ rest))) (λ next. IsRedisLineReadAs next (bytes ++ more))

-- what a line reports: an item that has no more bytes, the line itself, or the number of bytes of a bulk item
abbrev pub IsRedisLineHeadOf : LineHead → List ℕ → Type 0
IsRedisLineHeadOf (Whole item) line = IsRedisLineOf item line × (after_redis_line item ≡ []) × (redis_body item ≡ [])
IsRedisLineHeadOf Plain line = IsRedisTextLine line
IsRedisLineHeadOf (Body len) line = (said : List ℕ) × (line ≡ 36 ∷ said) × WriteNumber said len

-- what the line reports is within the limits: a bulk item of at most this many bytes, or an item with at most `room` items of its own
abbrev pub IsRedisLineHeadWithin : ℕ → ℕ → LineHead → Type 0
IsRedisLineHeadWithin most room (Whole item) = redis_items_in item ≤ room
IsRedisLineHeadWithin most room Plain = ⊤
IsRedisLineHeadWithin most room (Body len) = len ≤ most

-- what the line reports that was read, or that it is that of no item
abbrev pub LineReports : Line → Option LineHead → Type 0
LineReports line result = (bytes : List ℕ) → IsRedisLineReadAs line bytes → MatchOption result ((item : Item) → ¬ IsRedisLineOf item bytes) (λ head. IsRedisLineHeadOf head bytes)

-- the first bytes were read as the beginning of a line
abbrev pub IsRedisLineReadTo : List ℕ → BegunLine → Type 0
IsRedisLineReadTo bytes begun = (begun.len ≤ length bytes) × IsRedisLineReadAs begun.line (take begun.len bytes)

-- no line end begins before this place
abbrev pub NoLineEnds : ℕ → List ℕ → Type 0
NoLineEnds place bytes = (k : ℕ) → k < place → ¬ OccursAt redis_line_end bytes k

-- what has come of the end of a line: nothing, its first byte, or all of it
abbrev pub RedisLineEndsAt : LineEnd → ℕ → List ℕ → Type 0
RedisLineEndsAt Missing at bytes = length bytes ≡ at
RedisLineEndsAt Half at bytes = bytes ≡ take at bytes ++ carriage_return ∷ []
RedisLineEndsAt Here at bytes = bytes ≡ take at bytes ++ (redis_line_end ++ drop (at + 2) bytes)

-- the first bytes are a line within the limits that reports this, and its end follows
pub record IsRedisLineHead (limits : Limits) (room : ℕ) (bytes : List ℕ) (head : LineHead) (len : ℕ) : Type 0 where
  pub framed : TakesFrame redis_line_end bytes (take len bytes) (drop (len + 2) bytes)
  pub is : IsRedisLineHeadOf head (take len bytes)
  pub short : len ≤ limits.line
  pub within : IsRedisLineHeadWithin limits.bulk room head
  pub fits : len + 2 ≤ length bytes
