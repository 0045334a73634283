-- Beginnings of replies of the Redis protocol: what can become an item, and what can become a reply.
use Rattle.std.proofs.Common.{◌≡◌, ℕ, zero, suc, ◌+◌, ◌-◌, ◌<◌, ◌≤◌, ⊎_elim, List, [], ◌∷◌, ◌++◌, length, drop, get_or, Some, ap, ◌∙◌, sym, refl, subst, arith, append_assoc, append-nil, length-append}
use Rattle.std.specs.Prelude.{replicate}
use Rattle.std.proofs.lemmas.Bool.{cases_lt}
use Rattle.std.proofs.lemmas.List.{append_cancel_left, length-replicate}
use Rattle.bytes_utils_codec.specs.Cursor.{IsBegunAtCursor, CursorTakesFirst}
use Rattle.bytes_utils_codec.specs.Frames.{TakesFrame}
use Rattle.bytes_utils.specs.Lines.{carriage_return, line_feed}
use Rattle.bytes_utils.specs.Occurrence.{OccursAt}
use Rattle.bytes_utils_codec.specs.StreamRuns.{AreFirstOfRun}
use Rattle.bytes_utils_codec.proofs.FramesLemmas.{TakesFrame-more}
use Rattle.bytes_utils_codec.proofs.StreamRunsLemmas.{AreFirstOfRun-more}
use Rattle.bytes_utils_protocols.specs.Digits.{WriteNumber}
use Rattle.bytes_utils_protocols.specs.Redis.{redis_line_end, BeginsRedisBody, BeginsRedisItem, BeginsRedisReply, IsRedisItemOverLimit, IsRedisLineOf, IsRedisReplyOverLimit, NoRedisItem, NoRedisReply, TakesRedisItem, AreWholeRedisItems, LeaveRedisItemsDue, after_redis_line, redis_items_in}
use Rattle.bytes_utils_protocols.specs.RedisLine.{IsRedisLineHeadOf, NoLineReturn, NoLineEnds}
use Rattle.bytes_utils_protocols.specs.declared.redis.line.LineHead.TheVariants.{Body}
use Rattle.bytes_utils_protocols.specs.declared.redis.item.Item.{Item}
use Rattle.bytes_utils_protocols.specs.declared.redis.item.Item.TheVariants.{Simple, Bulk}
use Rattle.bytes_utils_protocols.specs.declared.redis.limits.Limits.{Limits}
use Rattle.bytes_utils_protocols.proofs.RedisLemmas.{NoRedisItemWithin, TakesRedisItem-more, no_room, too_many}
use Rattle.bytes_utils_protocols.proofs.ReplyLines.{IsRedisLineWithin, line_no_return, no_return_within, framed_line, over_line}

-- ---- a line can become an item

whole_item : (limits : Limits) (room : ℕ) (item : Item) (line : List ℕ) → IsRedisLineWithin limits room item line → TakesRedisItem limits (line ++ (redis_line_end ++ after_redis_line item)) item []
whole_item limits room item line within = record {
  line = line;
  is = within.is;
  bytes = subst (TakesFrame redis_line_end (line ++ (redis_line_end ++ after_redis_line item)) line) (sym (append-nil (after_redis_line item)))
      (framed_line line (after_redis_line item) (line_no_return item line within.is));
  short = within.short;
  small = within.small;
}

module _ (limits : Limits) (room : ℕ) (item : Item) where
  -- the rest of the line, its end, and what follows it are to come
  pub begun_item : (begun more : List ℕ) → IsRedisLineWithin limits room item (begun ++ more) → BeginsRedisItem limits room begun
  begun_item begun more within = (
    more ++ (redis_line_end ++ after_redis_line item),
    item,
    subst (λ l. TakesRedisItem limits l item []) (append_assoc begun more (redis_line_end ++ after_redis_line item)) (whole_item limits room item (begun ++ more) within),
    within.few,
  )

  -- the line feed, and what follows it, are to come
  pub ended_item : (line : List ℕ) → IsRedisLineWithin limits room item line → BeginsRedisItem limits room (line ++ carriage_return ∷ [])
  ended_item line within = (
    line_feed ∷ after_redis_line item,
    item,
    subst (λ l. TakesRedisItem limits l item []) (sym (append_assoc line (carriage_return ∷ []) (line_feed ∷ after_redis_line item))) (whole_item limits room item line within),
    within.few,
  )

-- ---- the bytes before any end of a line

-- bytes that begin the same, of which the shorter ones come first
front_of : (short rest long more : List ℕ) → short ++ rest ≡ long ++ more → length short ≤ length long → (x : List ℕ) × (long ≡ short ++ x)
front_of [] rest long more same le = (long, refl)
front_of (b ∷ short) rest [] more same le = absurd (omega (arith, le))
front_of (b ∷ short) rest (c ∷ long) more same le =
    let later = front_of short rest long more (ap (drop 1) same) (omega (arith, le)) in
    (later.0, λ i. ap (λ l. get_or l 0 0) (sym same) i ∷ later.1 i)

module _ (limits : Limits) (front rest more : List ℕ) (none : NoLineEnds (length front) ((front ++ rest) ++ more)) where
  -- the line of an item begins with the bytes before any end of a line
  its_line : (item : Item) (left : List ℕ) (takes : TakesRedisItem limits ((front ++ rest) ++ more) item left) → (x : List ℕ) × (takes.line ≡ front ++ x)
  its_line item left takes = ⊎_elim
      (λ ends. absurd (none (length takes.line) ends takes.bytes.first.here))
      (λ le. front_of front (rest ++ more) takes.line (redis_line_end ++ (after_redis_line item ++ left)) (sym (append_assoc front rest more) ∙ takes.bytes.bytes) le)
      (cases_lt (length takes.line) (length front))

  pub no_begun : ((item : Item) (x : List ℕ) → ¬ IsRedisLineOf item (front ++ x)) → NoRedisItem limits ((front ++ rest) ++ more)
  no_begun never item left takes = let x = its_line item left takes in never item x.0 (subst (IsRedisLineOf item) x.1 takes.is)

  large_begun : (room : ℕ) → ((item : Item) (x : List ℕ) → ¬ IsRedisLineWithin limits room item (front ++ x)) → NoRedisItemWithin limits room ((front ++ rest) ++ more)
  large_begun room never item left takes = ⊎_elim (λ large. large) (λ few. absurd (within few)) (cases_lt room (redis_items_in item))
    where
      within : redis_items_in item ≤ room → ⊥
      within few =
          let x = its_line item left takes in
          never item x.0 (subst (IsRedisLineWithin limits room item) x.1 (record { is = takes.is; short = takes.short; small = takes.small; few = few }))

  -- a carriage return comes after them: they are the line
  pub no_ended : (after : List ℕ) → rest ≡ carriage_return ∷ after → ((item : Item) → ¬ IsRedisLineOf item front) → NoRedisItem limits ((front ++ rest) ++ more)
  no_ended after ended never item left takes =
      let x = its_line item left takes in
      never item (subst (IsRedisLineOf item) (x.1 ∙ ap (λ l. front ++ l) (nothing x.0 x.1) ∙ append-nil front) takes.is)
    where
      nothing : (x : List ℕ) → takes.line ≡ front ++ x → x ≡ []
      nothing [] same = refl
      nothing (c ∷ x) same =
          let tail : rest ++ more ≡ (c ∷ x) ++ (redis_line_end ++ (after_redis_line item ++ left)) =
          append_cancel_left front (rest ++ more) ((c ∷ x) ++ (redis_line_end ++ (after_redis_line item ++ left)))
          (sym (append_assoc front rest more) ∙ takes.bytes.bytes ∙ ap (λ l. l ++ (redis_line_end ++ (after_redis_line item ++ left))) same ∙ append_assoc front (c ∷ x) (redis_line_end ++ (after_redis_line item ++ left))) in
          let return : carriage_return ≡ c = ap (λ l. get_or l 0 0) (ap (λ l. l ++ more) (sym ended) ∙ tail) in
          absurd (no_return_within front x
          (subst NoLineReturn (same ∙ ap (λ b. front ++ b ∷ x) (sym return) ∙ sym (append_assoc front (carriage_return ∷ []) x)) (line_no_return item takes.line takes.is)))

-- where a limit is passed, no item within the limits comes
none_over : (limits : Limits) (room : ℕ) (bytes : List ℕ) → IsRedisItemOverLimit limits room bytes → (more : List ℕ) → NoRedisItemWithin limits room (bytes ++ more)
none_over limits room bytes over more =
    subst (λ l. NoRedisItemWithin limits room (l ++ more)) (sym over.has.parts)
    (large_begun limits over.line over.after more none room (over_line limits room over.line over.after over.over))
  where
    none : NoLineEnds (length over.line) ((over.line ++ over.after) ++ more)
    none k low here = omega (arith, low, over.has.first more k (subst (λ l. OccursAt redis_line_end (l ++ more) k) (sym over.has.parts) here))

-- ---- the bytes of a bulk item

-- some of the bytes are to come
pub begins_body : (len : ℕ) (bytes : List ℕ) → length bytes ≤ len → BeginsRedisBody len bytes
begins_body len bytes few = (
  replicate (len - length bytes) 0 ++ redis_line_end,
  bytes ++ replicate (len - length bytes) 0,
  omega (arith, few, length-append bytes (replicate (len - length bytes) 0), length-replicate {A = ℕ} (len - length bytes) 0),
  sym (append_assoc bytes (replicate (len - length bytes) 0) redis_line_end),
)

-- some of their end is to come
pub begins_end : (len : ℕ) (old bytes mid : List ℕ) → CursorTakesFirst len old bytes mid → IsBegunAtCursor redis_line_end mid → BeginsRedisBody len old
begins_end len old bytes mid first begun =
    (begun.0, bytes, first.size, ap (λ l. l ++ begun.0) first.bytes ∙ append_assoc bytes mid begun.0 ∙ ap (λ l. bytes ++ l) (sym begun.1))

-- after a whole line
pub begins_bulk : (limits : Limits) (room : ℕ) (old line mid : List ℕ) (len : ℕ) → TakesFrame redis_line_end old line mid → IsRedisLineHeadOf (Body len) line → length line ≤ limits.line
    → len ≤ limits.bulk → BeginsRedisBody len mid → BeginsRedisItem limits room old
begins_bulk limits room old line mid len framed head short small (more, front, size, same) = (
  more,
  Bulk (Some front),
  record {
    line = line;
    is = (head.0, head.1, subst (WriteNumber head.0) (sym size) head.2);
    bytes = subst (TakesFrame redis_line_end (old ++ more) line) (same ∙ sym (append-nil (front ++ redis_line_end))) (TakesFrame-more redis_line_end old line mid more framed);
    short = short;
    small = omega (arith, size, small);
  },
  omega arith,
)

-- ---- items after one another

-- texts of no bytes, and what they are read from
abbrev texts : ℕ → List Item
texts zero = []
texts (suc n) = Simple [] ∷ texts n

abbrev text_bytes : ℕ → List ℕ
text_bytes zero = []
text_bytes (suc n) = 43 ∷ carriage_return ∷ line_feed ∷ text_bytes n

length-texts : (n : ℕ) → length (texts n) ≡ n
length-texts zero = refl
length-texts (suc n) = ap suc (length-texts n)

texts_first : (limits : Limits) (n : ℕ) → 1 ≤ limits.line → AreFirstOfRun (TakesRedisItem limits) (text_bytes n) (texts n) []
texts_first limits zero some = refl
texts_first limits (suc n) some = (
  text_bytes n,
  record {
    line = 43 ∷ [];
    is = ([], refl, (refl, λ k low high. absurd (omega (arith, low, high))));
    bytes = framed_line (43 ∷ []) (text_bytes n) (λ is. omega (arith, is), tt);
    short = some;
    small = omega arith;
  },
  texts_first limits n some,
)

texts_whole : (n : ℕ) → AreWholeRedisItems n (texts n)
texts_whole zero = refl
texts_whole (suc n) = let same : n ≡ (suc n - 1) + 0 = omega arith in (omega arith, subst (λ k. AreWholeRedisItems k (texts n)) same (texts_whole n))

module _ {A : Type 0} (Takes : List ℕ → A → List ℕ → Type 0) where
  -- items, and others after them
  first_after : (bytes : List ℕ) (xs : List A) (mid : List ℕ) (ys : List A) (rest : List ℕ) → AreFirstOfRun Takes bytes xs mid → AreFirstOfRun Takes mid ys rest → AreFirstOfRun Takes bytes (xs ++ ys) rest
  first_after bytes [] mid ys rest one other = subst (λ l. AreFirstOfRun Takes l ys rest) (sym one) other
  first_after bytes (x ∷ xs) mid ys rest one other = (one.0, one.1, first_after one.0 xs mid ys rest one.2 other)

-- all that were to come follow
whole_after : (n : ℕ) (xs : List Item) (due : ℕ) (ys : List Item) → LeaveRedisItemsDue n xs due → AreWholeRedisItems due ys → AreWholeRedisItems n (xs ++ ys)
whole_after n [] due ys pending whole = subst (λ k. AreWholeRedisItems k ys) (sym pending) whole
whole_after n (x ∷ xs) due ys pending whole = (pending.0, whole_after ((n - 1) + redis_items_in x) xs due ys pending.1 whole)

some_line : (limits : Limits) (old : List ℕ) (item : Item) (rest : List ℕ) → TakesRedisItem limits old item rest → 1 ≤ limits.line
some_line limits old item rest takes = omega (arith, takes.short, ap length takes.is.1)

module _ (limits : Limits) (bytes : List ℕ) (xs : List Item) (left : List ℕ) (due : ℕ) (are : AreFirstOfRun (TakesRedisItem limits) bytes xs left) (pending : LeaveRedisItemsDue 1 xs due) where
  -- an item is to come and begins: then come those that are due after it, as texts
  pub begins_reply : (room : ℕ) → 0 < due → length xs + due + room ≤ limits.items → BeginsRedisItem limits room left → BeginsRedisReply limits bytes
  begins_reply room some full (more, item, takes, few) =
      let n = (due - 1) + redis_items_in item in
      let later = more ++ text_bytes n in
      let front = AreFirstOfRun-more (λ l piece. l ++ piece) (TakesRedisItem limits) (TakesRedisItem-more limits) bytes xs left later are in
      let one = subst (λ l. TakesRedisItem limits l item (text_bytes n)) (append_assoc left more (text_bytes n)) (TakesRedisItem-more limits (left ++ more) item [] (text_bytes n) takes) in
      let others = texts_first limits n (some_line limits (left ++ more) item [] takes) in (
        later,
        xs ++ (item ∷ texts n),
        record {
          are = first_after (TakesRedisItem limits) (bytes ++ later) xs (left ++ later) (item ∷ texts n) [] front (text_bytes n, one, others);
          whole = whole_after 1 xs due (item ∷ texts n) pending (some, texts_whole n);
          few = omega (arith, some, full, few, length-append xs (item ∷ texts n), length-texts n);
        },
      )

-- where a limit is passed, no reply within the limits comes
pub no_reply_over : (limits : Limits) (held : List ℕ) → IsRedisReplyOverLimit limits held → (more : List ℕ) → NoRedisReply limits (held ++ more)
no_reply_over limits held passes more =
    let full : limits.items ≤ length passes.items + passes.due + (limits.items - (length passes.items + passes.due)) = omega arith in
    ⊎_elim
    (too_many limits limits more held passes.items passes.rest passes.due passes.are passes.leave)
    (λ next. no_room limits limits more held passes.items passes.rest passes.due passes.are passes.leave (limits.items - (length passes.items + passes.due)) passes.some full
    (none_over limits (limits.items - (length passes.items + passes.due)) passes.rest next more))
    passes.over
