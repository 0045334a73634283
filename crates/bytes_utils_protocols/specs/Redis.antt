-- Replies of the Redis protocol, version 2 (https://redis.io/docs/latest/develop/reference/protocol-spec/).
use Rattle.std.specs.Prelude.{◌≡◌, ◌≢◌, ◌⊎◌, ⊤, ℕ, ℤ, ◌+◌, ◌-◌, ◌<◌, ◌≤◌, List, [], ◌∷◌, ◌++◌, length, codes, Option, None, Some, option_map, FitsSigned}
use Rattle.std.specs.Int.{w64}
use Rattle.std.specs.Str.Parse.{IsNumeral, signed_digits_value, without_leading_sign}
use Rattle.memchr.specs.Find.{Nowhere, Passes, is_byte2}
use Rattle.bytes_utils_codec.specs.Frames.{TakesFrame}
use Rattle.bytes_utils.specs.Lines.{carriage_return, line_feed}
use Rattle.bytes_utils.specs.Occurrence.{OccursAt}
use Rattle.bytes_utils_codec.specs.StreamRuns.{AreFirstOfRun}
use Rattle.bytes_utils_buf.specs.Refusals.{refusal_text}
use Rattle.bytes_utils_protocols.specs.Digits.{WriteNumber}
use Rattle.bytes_utils_protocols.specs.declared.redis.item.Item.{Item}
use Rattle.bytes_utils_protocols.specs.declared.redis.item.Item.TheVariants.{Simple, Error, Integer, Bulk, Array}
use Rattle.bytes_utils_protocols.specs.declared.redis.limits.Limits.{Limits}
use Rattle.bytes_utils_protocols.specs.declared.redis.limits.ReplyError.{ReplyError}
use Rattle.bytes_utils_protocols.specs.declared.redis.limits.ReplyError.TheVariants.{Malformed, Refused, TooLarge}

-- what clauses see of a `ReplyReader`; `seen` is how many of the held bytes a call that returned `None` has looked at
pub record RedisReplying : Type 0 where
  pub held : List ℕ
  pub limits : Limits
  pub seen : ℕ

-- what an error prints
abbrev pub reply_error_text : ReplyError → List ℕ
reply_error_text (Refused reason) = refusal_text reason
reply_error_text Malformed = codes "the reply is malformed"
reply_error_text TooLarge = codes "the reply is too large"

-- the end of each line
abbrev pub redis_line_end : List ℕ
redis_line_end = carriage_return ∷ line_feed ∷ []

-- the text of a length that says that nothing is there: `-1`
abbrev pub redis_no_length : List ℕ
redis_no_length = 45 ∷ 49 ∷ []

-- no byte is a carriage return or a line feed
abbrev pub IsRedisPlain : List ℕ → Type 0
IsRedisPlain text = Nowhere (Passes (is_byte2 carriage_return line_feed) text) 0 (length text)

-- the bytes are digits after a sign, if there is one, and they write the number n, which is an `i64`
abbrev pub WriteRedisInteger : List ℕ → ℤ → Type 0
WriteRedisInteger text n = IsNumeral 10 (without_leading_sign text) × FitsSigned w64 (signed_digits_value 10 text) × (n ≡ signed_digits_value 10 text)

-- the bytes write this length, or that nothing is there
abbrev pub WriteRedisLength : List ℕ → Option ℕ → Type 0
WriteRedisLength text None = text ≡ redis_no_length
WriteRedisLength text (Some n) = WriteNumber text n

-- the first byte of the item's line
abbrev pub redis_first_byte : Item → ℕ
redis_first_byte (Simple text) = 43
redis_first_byte (Error text) = 45
redis_first_byte (Integer n) = 58
redis_first_byte (Bulk body) = 36
redis_first_byte (Array count) = 42

-- the first byte of the line of a text or of an error
abbrev pub IsRedisText : ℕ → Type 0
IsRedisText kind = (kind ≡ 43) ⊎ (kind ≡ 45)

-- the bytes of the item's line after the first one
abbrev pub IsRedisLineRest : Item → List ℕ → Type 0
IsRedisLineRest (Simple text) said = (text ≡ said) × IsRedisPlain said
IsRedisLineRest (Error text) said = (text ≡ said) × IsRedisPlain said
IsRedisLineRest (Integer n) said = WriteRedisInteger said n
IsRedisLineRest (Bulk body) said = WriteRedisLength said (option_map length body)
IsRedisLineRest (Array count) said = WriteRedisLength said count

abbrev pub IsRedisLineOf : Item → List ℕ → Type 0
IsRedisLineOf item line = (said : List ℕ) × (line ≡ redis_first_byte item ∷ said) × IsRedisLineRest item said

-- the bytes of a bulk text
abbrev pub redis_body : Item → List ℕ
redis_body (Simple text) = []
redis_body (Error text) = []
redis_body (Integer n) = []
redis_body (Bulk None) = []
redis_body (Bulk (Some bytes)) = bytes
redis_body (Array count) = []

-- what follows the line: these bytes and the end of a line
abbrev pub after_redis_line : Item → List ℕ
after_redis_line (Simple text) = []
after_redis_line (Error text) = []
after_redis_line (Integer n) = []
after_redis_line (Bulk None) = []
after_redis_line (Bulk (Some bytes)) = bytes ++ redis_line_end
after_redis_line (Array count) = []

-- the number of items that follow as those of this one
abbrev pub redis_items_in : Item → ℕ
redis_items_in (Simple text) = 0
redis_items_in (Error text) = 0
redis_items_in (Integer n) = 0
redis_items_in (Bulk body) = 0
redis_items_in (Array None) = 0
redis_items_in (Array (Some count)) = count

-- the old bytes are the item's line up to the first end of a line, what follows that line, and the rest
pub record TakesRedisItem (limits : Limits) (old : List ℕ) (item : Item) (rest : List ℕ) : Type 0 where
  pub line : List ℕ
  pub is : IsRedisLineOf item line
  pub bytes : TakesFrame redis_line_end old line (after_redis_line item ++ rest)
  pub short : length line ≤ limits.line
  pub small : length (redis_body item) ≤ limits.bulk

-- the line is that of a text or of an error
pub record IsRedisTextLine (line : List ℕ) : Type 0 where
  pub kind : ℕ
  pub text : List ℕ
  pub parts : line ≡ kind ∷ text
  pub is : IsRedisText kind
  pub plain : IsRedisPlain text

-- what follows the first byte of a line with a length is nothing, or a sign whose digit is to come
abbrev pub LacksRedisLength : List ℕ → Type 0
LacksRedisLength said = (said ≡ []) ⊎ (said ≡ 45 ∷ [])

-- the same of an integer's line
abbrev pub LacksRedisDigit : List ℕ → Type 0
LacksRedisDigit said = LacksRedisLength said ⊎ (said ≡ 43 ∷ [])

-- the line is that of no item, and one byte more can make it one: the first byte of all, or the first digit
abbrev pub LacksRedisByte : List ℕ → Type 0
LacksRedisByte [] = ⊤
LacksRedisByte (kind ∷ said) = ((kind ≡ 58) × LacksRedisDigit said) ⊎ (((kind ≡ 36) ⊎ (kind ≡ 42)) × LacksRedisLength said)

-- the bytes don't begin with this number of bytes and an end of a line
abbrev pub HasNoRedisBody : ℕ → List ℕ → Type 0
HasNoRedisBody len bytes = (front rest : List ℕ) → length front ≡ len → bytes ≢ front ++ (redis_line_end ++ rest)

-- with some bytes after them, the bytes are this number of bytes and an end of a line
abbrev pub BeginsRedisBody : ℕ → List ℕ → Type 0
BeginsRedisBody len bytes = (more : List ℕ) × (front : List ℕ) × (length front ≡ len) × (bytes ++ more ≡ front ++ redis_line_end)

-- the bytes don't begin with an item
abbrev pub NoRedisItem : Limits → List ℕ → Type 0
NoRedisItem limits bytes = (item : Item) (rest : List ℕ) → ¬ TakesRedisItem limits bytes item rest

-- with some bytes after them, the bytes are an item that has at most `room` items of its own
abbrev pub BeginsRedisItem : Limits → ℕ → List ℕ → Type 0
BeginsRedisItem limits room bytes = (more : List ℕ) × (item : Item) × TakesRedisItem limits (bytes ++ more) item [] × (redis_items_in item ≤ room)

-- n items are to come, and these are all of them: each is one of those to come, and after an array its own come too
abbrev pub AreWholeRedisItems : ℕ → List Item → Type 0
AreWholeRedisItems n [] = n ≡ 0
AreWholeRedisItems n (item ∷ items) = (0 < n) × AreWholeRedisItems ((n - 1) + redis_items_in item) items

-- n items were to come, and after these items this number still is
abbrev pub LeaveRedisItemsDue : ℕ → List Item → ℕ → Type 0
LeaveRedisItemsDue n [] due = n ≡ due
LeaveRedisItemsDue n (item ∷ items) due = (0 < n) × LeaveRedisItemsDue ((n - 1) + redis_items_in item) items due

-- the old bytes are one whole item, an array with its items, and the rest
pub record TakesRedisReply (limits : Limits) (old : List ℕ) (items : List Item) (rest : List ℕ) : Type 0 where
  pub are : AreFirstOfRun (TakesRedisItem limits) old items rest
  pub whole : AreWholeRedisItems 1 items
  pub few : length items ≤ limits.items

-- the bytes don't begin with a reply
abbrev pub NoRedisReply : Limits → List ℕ → Type 0
NoRedisReply limits bytes = (items : List Item) (rest : List ℕ) → ¬ TakesRedisReply limits bytes items rest

-- the bytes are a beginning of a reply: with some bytes after them, they are one whole reply
abbrev pub BeginsRedisReply : Limits → List ℕ → Type 0
BeginsRedisReply limits bytes = (more : List ℕ) × (items : List Item) × TakesRedisReply limits (bytes ++ more) items []

-- What has come of the first line of the bytes, and the bytes after it: its end, of which all or a part may be to come, and what follows. Whatever
-- comes, no line ends earlier.
pub record HasFirstRedisLine (bytes line after : List ℕ) : Type 0 where
  pub parts : bytes ≡ line ++ after
  pub end : (more rest : List ℕ) × (after ++ more ≡ redis_line_end ++ rest)
  pub first : (more : List ℕ) (place : ℕ) → OccursAt redis_line_end (bytes ++ more) place → length line ≤ place

-- memory may be asked for to look at what has come of the first line: it has two bytes or more, and is within the limit
pub record AsksForRedisLine (limits : Limits) (bytes after : List ℕ) : Type 0 where
  pub line : List ℕ
  pub has : HasFirstRedisLine bytes line after
  pub some : 1 < length line
  pub short : length line ≤ limits.line

-- memory may be asked for to look at the first line, or to keep the item that the bytes begin with; after it these bytes come
abbrev pub AsksForRedisItem : Limits → List ℕ → List ℕ → Type 0
AsksForRedisItem limits bytes after = AsksForRedisLine limits bytes after ⊎ ((item : Item) × TakesRedisItem limits bytes item after)

-- Memory may be asked for: after these items, within the limit, a further one is due. Not all bytes of its line, or of the whole item, were seen.
pub record AsksForRedisReply (limits : Limits) (held : List ℕ) (seen : ℕ) : Type 0 where
  pub items : List Item
  pub rest : List ℕ
  pub due : ℕ
  pub after : List ℕ
  pub are : AreFirstOfRun (TakesRedisItem limits) held items rest
  pub leave : LeaveRedisItemsDue 1 items due
  pub some : 0 < due
  pub few : length items + due ≤ limits.items
  pub asks : AsksForRedisItem limits rest after
  pub unseen : seen + length after < length held

-- What has come of an item's line is over a limit: the line is too long; or nothing comes after it yet, it has as many bytes as it may, and lacks one;
-- or it is the line of a bulk item that is too long, or of an array with more than `room` items of its own.
abbrev pub IsRedisLineOverLimit : Limits → ℕ → List ℕ → List ℕ → Type 0
IsRedisLineOverLimit limits room line after =
    (limits.line < length line)
    ⊎ (((after ≡ []) × (limits.line ≤ length line) × LacksRedisByte line)
    ⊎ ((item : Item) × IsRedisLineOf item line × ((limits.bulk < length (redis_body item)) ⊎ (room < redis_items_in item))))

-- the first line of the bytes is over a limit
pub record IsRedisItemOverLimit (limits : Limits) (room : ℕ) (bytes : List ℕ) : Type 0 where
  pub line : List ℕ
  pub after : List ℕ
  pub has : HasFirstRedisLine bytes line after
  pub over : IsRedisLineOverLimit limits room line after

-- After these items a further one is due. With those that are due there are more items than the limit allows, or that one is over a limit.
pub record IsRedisReplyOverLimit (limits : Limits) (held : List ℕ) : Type 0 where
  pub items : List Item
  pub rest : List ℕ
  pub due : ℕ
  pub are : AreFirstOfRun (TakesRedisItem limits) held items rest
  pub leave : LeaveRedisItemsDue 1 items due
  pub some : 0 < due
  pub over : (limits.items < length items + due) ⊎ IsRedisItemOverLimit limits (limits.items - (length items + due)) rest
