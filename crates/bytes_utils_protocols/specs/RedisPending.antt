-- What was read of a reply of the Redis protocol whose end is to come.
use Rattle.std.specs.Prelude.{◌≡◌, ℕ, ◌+◌, ◌<◌, ◌≤◌, ◌^◌, List, ◌++◌, length, take, drop, Option, Result, MatchOption, MatchResult}
use Rattle.std.specs.List.{concat}
use Rattle.bytes_utils_buf.specs.declared.refused.Reason.{Reason}
use Rattle.bytes_utils_buf.specs.declared.refused.Reason.TheVariants.{OutOfMemory}
use Rattle.bytes_utils_codec.specs.Frames.{TakesFrame}
use Rattle.bytes_utils_codec.specs.StreamRuns.{AreFirstOfRun}
use Rattle.bytes_utils_protocols.specs.Redis.{redis_line_end, AsksForRedisItem, TakesRedisItem, LeaveRedisItemsDue, BeginsRedisItem, BeginsRedisReply, IsRedisItemOverLimit, NoRedisItem, NoRedisReply, redis_items_in}
use Rattle.bytes_utils_protocols.specs.RedisLine.{IsRedisLineHeadOf, IsRedisLineReadTo, IsRedisLineHead}
use Rattle.bytes_utils_protocols.specs.declared.redis.item.Item.{Item}
use Rattle.bytes_utils_protocols.specs.declared.redis.limits.Limits.{Limits}
use Rattle.bytes_utils_protocols.specs.declared.redis.limits.ReplyError.{ReplyError}
use Rattle.bytes_utils_protocols.specs.declared.redis.limits.ReplyError.TheVariants.{Refused, Malformed, TooLarge}
use Rattle.bytes_utils_protocols.specs.declared.redis.line.LineHead.{LineHead}
use Rattle.bytes_utils_protocols.specs.declared.redis.line.LineHead.TheVariants.{Body}
use Rattle.bytes_utils_protocols.specs.declared.redis.pending.Next.{Next}
use Rattle.bytes_utils_protocols.specs.declared.redis.pending.Next.TheVariants.{InLine, InBody}
use Rattle.bytes_utils_protocols.specs.declared.redis.pending.Pending.{Pending}

-- ---- the next item

-- the first bytes are the line of a bulk item of this length, and the end of that line
pub record AwaitsPendingBody (limits : Limits) (bytes : List ℕ) (start len : ℕ) : Type 0 where
  pub line : List ℕ
  pub framed : TakesFrame redis_line_end bytes line (drop start bytes)
  pub is : IsRedisLineHeadOf (Body len) line
  pub short : length line ≤ limits.line
  pub small : len ≤ limits.bulk
  pub within : start ≤ length bytes

-- the bytes begin with this item, which has `len` bytes, and at most `room` items of its own
pub record HasPendingItem (limits : Limits) (room : ℕ) (bytes : List ℕ) (item : Item) (len : ℕ) : Type 0 where
  pub takes : TakesRedisItem limits bytes item (drop len bytes)
  pub within : len ≤ length bytes
  pub few : redis_items_in item ≤ room

-- the bytes begin with no item yet, and with some bytes after them they are one
pub record AwaitsPendingItem (limits : Limits) (room : ℕ) (bytes : List ℕ) : Type 0 where
  pub none : NoRedisItem limits bytes
  pub begins : BeginsRedisItem limits room bytes

-- memory may be asked for to look at the line of the first item or to keep it, which has more than `seen` bytes
pub record AsksForPendingItem (limits : Limits) (bytes : List ℕ) (seen : ℕ) : Type 0 where
  pub after : List ℕ
  pub asks : AsksForRedisItem limits bytes after
  pub unseen : seen + length after < length bytes

-- why there is no item, whatever comes after the bytes; or memory is refused that may be asked for
pub record IsNoPendingItem (limits : Limits) (room : ℕ) (bytes : List ℕ) (seen : ℕ) (e : ReplyError) : Type 0 where
  pub malformed : e ≡ Malformed → (any : Limits) (more : List ℕ) → NoRedisItem any (bytes ++ more)
  pub too_large : e ≡ TooLarge → IsRedisItemOverLimit limits room bytes
  pub memory : (reason : Reason) → e ≡ Refused reason → (reason ≡ OutOfMemory) × AsksForPendingItem limits bytes seen

-- the first item of the bytes, if it has come, of which at most `seen` bytes were seen
abbrev pub FindsPendingItem : Limits → ℕ → List ℕ → ℕ → Result (Option (Item × ℕ)) ReplyError → Type 0
FindsPendingItem limits room bytes seen result =
    MatchResult result (λ found. MatchOption found (AwaitsPendingItem limits room bytes) (λ read. HasPendingItem limits room bytes read.0 read.1)) (IsNoPendingItem limits room bytes seen)

-- what the first line of the bytes reports, if it has come, with its number of bytes, of which at most `seen` were seen
abbrev pub FindsPendingHead : Limits → ℕ → List ℕ → ℕ → Result (Option LineHead) ReplyError → ℕ → Type 0
FindsPendingHead limits room bytes seen result len =
    MatchResult result (λ found. MatchOption found (AwaitsPendingItem limits room bytes) (λ head. IsRedisLineHead limits room bytes head len)) (IsNoPendingItem limits room bytes seen)

-- what was read of the first item of the bytes
abbrev pub IsPendingNext : Limits → List ℕ → Next → Type 0
IsPendingNext limits bytes (InLine begun) = IsRedisLineReadTo bytes begun
IsPendingNext limits bytes (InBody start len) = AwaitsPendingBody limits bytes start len

-- the most bytes of the next item that can have been seen: those of its line that were read and half of its end, or all but the last byte
abbrev pub most_seen_of_next : Next → ℕ
most_seen_of_next (InLine begun) = begun.len + 1
most_seen_of_next (InBody start len) = start + len + 1

-- ---- the reply

-- the bytes of which no item was read
abbrev pub unread_by_pending : Pending → List ℕ
unread_by_pending p = concat p.pieces.held.segments

-- all bytes that are of no reply yet
abbrev pub held_by_pending : Pending → List ℕ
held_by_pending p = p.passed ++ unread_by_pending p

-- the most held bytes that can have been seen
abbrev pub most_seen_by_pending : Pending → ℕ
most_seen_by_pending p = length p.passed + most_seen_of_next p.next

-- the items are those of the bytes that were passed, and the others of the reply are still due
pub record IsPending (limits : Limits) (p : Pending) : Type 0 where
  pub are : AreFirstOfRun (TakesRedisItem limits) (held_by_pending p) p.items.items (unread_by_pending p)
  pub due : LeaveRedisItemsDue 1 p.items.items p.due
  pub within : 0 < limits.items → length p.items.items + p.due ≤ limits.items
  pub next : IsPendingNext limits (unread_by_pending p) p.next
  pub fits : length (held_by_pending p) < 2 ^ 64

-- an item is due, and memory may be asked for to look at its line or to keep it, which isn't all in the first `seen` held bytes
pub record AsksForPending (limits : Limits) (p : Pending) (seen : ℕ) : Type 0 where
  pub due : 0 < p.due
  pub after : List ℕ
  pub asks : AsksForRedisItem limits (unread_by_pending p) after
  pub unseen : seen + length after < length (held_by_pending p)

-- the first bytes, this many, were seen: if there are any, they are no reply yet, and begin one
pub record AreSeen (limits : Limits) (bytes : List ℕ) (seen : ℕ) : Type 0 where
  pub within : seen ≤ length bytes
  pub none : 0 < seen → NoRedisReply limits (take seen bytes)
  pub begins : 0 < seen → BeginsRedisReply limits (take seen bytes)
