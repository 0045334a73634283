-- When a reader of replies may ask for memory.
use Rattle.std.proofs.Common.{◌≡◌, ℕ, ◌+◌, ◌<◌, ◌≤◌, inl, inr, ⊎_elim, List, [], ◌∷◌, ◌++◌, length, take, drop, Some, ap, ◌∙◌, sym, refl, subst, arith, append_assoc, length-append}
use Rattle.std.proofs.lemmas.List.{length-drop, length-take-le}
use Rattle.bytes_utils_buf.specs.declared.refused.Reason.{Reason}
use Rattle.bytes_utils_buf.specs.declared.refused.Reason.TheVariants.{OutOfMemory}
use Rattle.bytes_utils_codec.specs.Cursor.{IsBegunAtCursor, CursorTakesFirst}
use Rattle.bytes_utils_codec.specs.Frames.{TakesFrame}
use Rattle.bytes_utils_protocols.specs.Digits.{WriteNumber}
use Rattle.bytes_utils_protocols.specs.Redis.{redis_line_end, AsksForRedisReply, IsRedisLineOf, IsRedisTextLine, TakesRedisItem, after_redis_line, redis_body}
use Rattle.bytes_utils_protocols.specs.RedisLine.{IsRedisLineHead, NoLineEnds, RedisLineEndsAt}
use Rattle.bytes_utils_protocols.specs.RedisPending.{AsksForPending, AsksForPendingItem, AwaitsPendingBody, HasPendingItem, IsNoPendingItem, IsPending, held_by_pending, unread_by_pending}
use Rattle.bytes_utils_protocols.specs.declared.redis.item.Item.{Item}
use Rattle.bytes_utils_protocols.specs.declared.redis.item.Item.TheVariants.{Simple, Error, Bulk}
use Rattle.bytes_utils_protocols.specs.declared.redis.limits.Limits.{Limits}
use Rattle.bytes_utils_protocols.specs.declared.redis.limits.ReplyError.TheVariants.{Refused}
use Rattle.bytes_utils_protocols.specs.declared.redis.line.LineHead.TheVariants.{Plain}
use Rattle.bytes_utils_protocols.specs.declared.redis.pending.LineEnd.{LineEnd}
use Rattle.bytes_utils_protocols.specs.declared.redis.pending.Pending.{Pending}
use Rattle.bytes_utils_protocols.proofs.ReplyEnds.{first_line}

-- ---- a line

module _ (u : List ℕ) (len : ℕ) (fits : len ≤ length u) where
  -- two bytes or more of it are looked at
  pub asks_for_line : (limits : Limits) (read : ℕ) (end : LineEnd) → RedisLineEndsAt end len u → ((more : List ℕ) → NoLineEnds len (u ++ more)) → len ≤ limits.line → read + 1 < len
      → AsksForPendingItem limits u (read + 1)
  asks_for_line limits read end is none short some =
      let size = length-take-le len u fits in
      record {
        after = drop len u;
        asks = inl (record { line = take len u; has = first_line u len fits end is none; some = omega (arith, some, size); short = omega (arith, short, size) });
        unseen = omega (arith, some, fits, length-drop len u);
      }

-- ---- a whole item

-- the item of a text or of an error
text_item : (line : List ℕ) → IsRedisTextLine line → (item : Item) × IsRedisLineOf item line × (after_redis_line item ≡ []) × (redis_body item ≡ [])
text_item line is = ⊎_elim
    (λ plus. (Simple is.text, (is.text, is.parts ∙ ap (λ b. b ∷ is.text) plus, (refl, is.plain)), refl, refl))
    (λ minus. (Error is.text, (is.text, is.parts ∙ ap (λ b. b ∷ is.text) minus, (refl, is.plain)), refl, refl))
    is.is

module _ (limits : Limits) (u : List ℕ) (item : Item) where
  asks_for_item : (seen : ℕ) (after : List ℕ) → TakesRedisItem limits u item after → seen + length after < length u → AsksForPendingItem limits u seen
  asks_for_item seen after takes unseen = record { after = after; asks = inr (item, takes); unseen = unseen }

-- a text is copied
pub asks_for_text : (limits : Limits) (room : ℕ) (u : List ℕ) (len : ℕ) (seen : ℕ) → IsRedisLineHead limits room u Plain len → seen < len + 2 → AsksForPendingItem limits u seen
asks_for_text limits room u len seen head few =
    let item = text_item (take len u) head.is in
    let whole : after_redis_line item.0 ++ drop (len + 2) u ≡ drop (len + 2) u = ap (λ l. l ++ drop (len + 2) u) item.2 in
    asks_for_item limits u item.0 seen (drop (len + 2) u) (record {
      line = take len u;
      is = item.1;
      bytes = subst (TakesFrame redis_line_end u (take len u)) (sym whole) head.framed;
      short = omega (arith, head.short, head.fits, length-take-le len u);
      small = omega (arith, ap length item.3);
    }) (omega (arith, few, head.fits, length-drop (len + 2) u))

-- less than the bytes of a bulk item and their end have come
pub few_of_body : (len : ℕ) (old bytes mid : List ℕ) → CursorTakesFirst len old bytes mid → IsBegunAtCursor redis_line_end mid → length old ≤ len + 1
few_of_body len old bytes mid first begun =
    let two : length redis_line_end ≡ 2 = refl in
    omega (arith, two, first.size, ap length first.bytes, length-append bytes mid, ap length begun.1, length-append mid begun.0, begun.2)

-- the bytes of a bulk item are copied
module _ (limits : Limits) (u : List ℕ) (start len : ℕ) (awaits : AwaitsPendingBody limits u start len) (body rest : List ℕ) (size : length body ≡ len) (here : drop start u ≡ body ++ (redis_line_end ++ rest)) where
  bulk_here : TakesRedisItem limits u (Bulk (Some body)) rest
  bulk_here = record {
    line = awaits.line;
    is = (awaits.is.0, awaits.is.1, subst (WriteNumber awaits.is.0) (sym size) awaits.is.2);
    bytes = subst (TakesFrame redis_line_end u awaits.line) (here ∙ sym (append_assoc body redis_line_end rest)) awaits.framed;
    short = awaits.short;
    small = omega (arith, size, awaits.small);
  }

  pub asks_for_bulk : (seen : ℕ) → seen ≤ start + len + 1 → AsksForPendingItem limits u seen
  asks_for_bulk seen few =
      asks_for_item limits u (Bulk (Some body)) seen rest bulk_here
      (omega (arith, few, size, awaits.within, ap length here, length-drop start u, length-append body (redis_line_end ++ rest), length-append redis_line_end rest))

-- a further item is kept
pub asks_for_kept : (limits : Limits) (room : ℕ) (u : List ℕ) (item : Item) (len seen : ℕ) → HasPendingItem limits room u item len → seen < len → AsksForPendingItem limits u seen
asks_for_kept limits room u item len seen has few = asks_for_item limits u item seen (drop len u) has.takes (omega (arith, few, has.within, length-drop len u))

-- memory is refused
pub refused_item : (limits : Limits) (room : ℕ) (u : List ℕ) (seen : ℕ) (reason : Reason) → reason ≡ OutOfMemory → AsksForPendingItem limits u seen → IsNoPendingItem limits room u seen (Refused reason)
refused_item limits room u seen reason memory asks = record { malformed = λ is. cc; too_large = λ is. cc; memory = λ other is. (cc, asks) }

-- ---- a reply

-- after the items that were read
pub asks_in_pending : (limits : Limits) (p : Pending) (most seen : ℕ) → 0 < p.due → AsksForPendingItem limits (unread_by_pending p) most → seen ≤ length p.passed + most → AsksForPending limits p seen
asks_in_pending limits p most seen due asks few = record {
  due = due;
  after = asks.after;
  asks = asks.asks;
  unseen = omega (arith, asks.unseen, few, length-append p.passed (unread_by_pending p));
}

pub asks_for_reply : (limits : Limits) (p : Pending) (held : List ℕ) (most seen : ℕ) → IsPending limits p → 0 < limits.items → held_by_pending p ≡ held → AsksForPending limits p most → seen ≤ most
    → AsksForRedisReply limits held seen
asks_for_reply limits p held most seen is some same asks few = subst (λ l. AsksForRedisReply limits l seen) same (record {
  items = p.items.items;
  rest = unread_by_pending p;
  due = p.due;
  after = asks.after;
  are = is.are;
  leave = is.due;
  some = asks.due;
  few = is.within some;
  asks = asks.asks;
  unseen = omega (arith, few, asks.unseen);
})
