-- What was read of a reply, as bytes and items come.
use Rattle.std.proofs.Common.{◌≡◌, ◌≢◌, ℕ, ◌+◌, ◌-◌, ◌^◌, ◌<◌, ◌≤◌, ⊎_elim, List, [], ◌∷◌, ◌++◌, length, take, drop, Result, Ok, Err, Some, ap, ◌∙◌, sym, refl, subst, arith, append_assoc, append-nil, length-append, OnOk, OnErr}
use Rattle.std.specs.Global.{Vec}
use Rattle.std.specs.List.{concat, slice_get, slice_range}
use Rattle.std.proofs.lemmas.List.{drop-append-le, length-take, take-append-le, take-append-drop}
use Rattle.std.proofs.lemmas.Option.{same_Some}
use Rattle.bytes.proofs.Ranges.{drop-take_less}
use Rattle.bytes_utils_buf.specs.Packing.{Packing}
use Rattle.bytes_utils_codec.specs.Cursor.{CursorReading, CursorTakesFirst, passed_on, unread}
use Rattle.bytes_utils_codec.specs.Frames.{TakesFrame}
use Rattle.bytes_utils_codec.specs.StreamRuns.{AreFirstOfRun}
use Rattle.bytes_utils_codec.proofs.CursorLemmas.{CursorTakesFirst-passed}
use Rattle.bytes_utils_codec.proofs.FramesLemmas.{TakesFrame-more}
use Rattle.bytes_utils_codec.proofs.StreamRunsLemmas.{AreFirstOfRun-more}
use Rattle.bytes_utils_protocols.specs.Redis.{redis_line_end, BeginsRedisBody, BeginsRedisReply, HasNoRedisBody, IsRedisLineOf, IsRedisTextLine, TakesRedisItem, TakesRedisReply, LeaveRedisItemsDue, NoRedisItem, NoRedisReply, redis_items_in}
use Rattle.bytes_utils_protocols.specs.RedisLine.{IsRedisLineReadAs}
use Rattle.bytes_utils_protocols.specs.RedisPending.{AreSeen, AwaitsPendingBody, AwaitsPendingItem, HasPendingItem, IsPendingNext, IsNoPendingItem, IsPending, held_by_pending, unread_by_pending}
use Rattle.bytes_utils_protocols.specs.declared.redis.item.Item.{Item}
use Rattle.bytes_utils_protocols.specs.declared.redis.item.Item.TheVariants.{Simple, Error}
use Rattle.bytes_utils_protocols.specs.declared.redis.limits.Limits.{Limits}
use Rattle.bytes_utils_protocols.specs.declared.redis.limits.ReplyError.TheVariants.{Malformed}
use Rattle.bytes_utils_protocols.specs.declared.redis.pending.Next.{Next}
use Rattle.bytes_utils_protocols.specs.declared.redis.pending.Next.TheVariants.{InLine, InBody}
use Rattle.bytes_utils_protocols.specs.declared.redis.pending.Pending.{Pending}
use Rattle.bytes_utils_protocols.proofs.RedisLemmas.{TakesRedisItem-more, no_body, read_one, whole_reply}
use Rattle.bytes_utils_protocols.proofs.ReplyBeginnings.{begins_bulk}

-- ---- more bytes come

still_next : (limits : Limits) (u piece : List ℕ) (next : Next) → IsPendingNext limits u next → IsPendingNext limits (u ++ piece) next
still_next limits u piece (InLine begun) is =
    (omega (arith, is.0, length-append u piece), subst (IsRedisLineReadAs begun.line) (sym (take-append-le begun.len u piece is.0)) is.1)
still_next limits u piece (InBody start len) is = record {
  line = is.line;
  framed = subst (TakesFrame redis_line_end (u ++ piece) is.line) (sym (drop-append-le start u piece is.within)) (TakesFrame-more redis_line_end u is.line (drop start u) piece is.framed);
  is = is.is;
  short = is.short;
  small = is.small;
  within = omega (arith, is.within, length-append u piece);
}

module _ (limits : Limits) (p : Pending) (pieces : Packing) (piece : List ℕ) where
  pushed : concat pieces.held.segments ≡ unread_by_pending p ++ piece → length (held_by_pending p) + length piece < 2 ^ 64 → IsPending limits p → IsPending limits (record p { pieces = pieces })
  pushed more fits is =
      let all : p.passed ++ concat pieces.held.segments ≡ held_by_pending p ++ piece = ap (λ l. p.passed ++ l) more ∙ sym (append_assoc p.passed (unread_by_pending p) piece) in
      record {
        are = subst (λ l. AreFirstOfRun (TakesRedisItem limits) l p.items.items (concat pieces.held.segments)) (sym all)
            (subst (λ l. AreFirstOfRun (TakesRedisItem limits) (held_by_pending p ++ piece) p.items.items l) (sym more)
            (AreFirstOfRun-more (λ l x. l ++ x) (TakesRedisItem limits) (TakesRedisItem-more limits) (held_by_pending p) p.items.items (unread_by_pending p) piece is.are));
        due = is.due;
        within = is.within;
        next = subst (λ l. IsPendingNext limits l p.next) (sym more) (still_next limits (unread_by_pending p) piece p.next is.next);
        fits = omega (arith, fits, ap length all, length-append (held_by_pending p) piece);
      }

  -- after a push, or a refused one
  pub still_pending : {U E : Type 0} → (result : Result U E) → OnOk result (concat pieces.held.segments ≡ unread_by_pending p ++ piece) → OnErr result (pieces ≡ p.pieces)
      → length (held_by_pending p) + length piece < 2 ^ 64 → IsPending limits p → IsPending limits (record p { pieces = pieces })
  still_pending (Ok u) more same fits is = pushed more fits is
  still_pending (Err e) more same fits is = subst (λ held. IsPending limits (record p { pieces = held })) (sym same) is

-- the same items, in whatever room
pub same_items : (limits : Limits) (p : Pending) (items : Vec Item) → items.items ≡ p.items.items → IsPending limits p → IsPending limits (record p { items = items })
same_items limits p items same is = record {
  are = subst (λ l. AreFirstOfRun (TakesRedisItem limits) (held_by_pending p) l (unread_by_pending p)) (sym same) is.are;
  due = subst (λ l. LeaveRedisItemsDue 1 l p.due) (sym same) is.due;
  within = λ some. omega (arith, is.within some, ap length same);
  next = is.next;
  fits = is.fits;
}

-- ---- nothing was read

pub nothing_read : (limits : Limits) (p : Pending) → p.passed ≡ [] → p.items.items ≡ [] → p.due ≡ 1 → IsPendingNext limits (unread_by_pending p) p.next → length (unread_by_pending p) < 2 ^ 64 → IsPending limits p
nothing_read limits p passed items due next fits =
    let all : held_by_pending p ≡ unread_by_pending p = ap (λ l. l ++ unread_by_pending p) passed in
    record {
      are = subst (λ l. AreFirstOfRun (TakesRedisItem limits) (held_by_pending p) l (unread_by_pending p)) (sym items) all;
      due = subst (λ l. LeaveRedisItemsDue 1 l p.due) (sym items) (sym due);
      within = λ some. omega (arith, some, due, ap length items);
      next = next;
      fits = omega (arith, fits, ap length all);
    }

-- ---- a text

module _ (u : List ℕ) (len : ℕ) (line : IsRedisTextLine (take len u)) where
  begins_with : slice_get u 0 ≡ Some line.kind
  begins_with = ap (λ l. slice_get l 0) (sym (take-append-drop len u) ∙ ap (λ l. l ++ drop len u) line.parts)

  its_text : slice_range u 1 len ≡ line.text
  its_text = sym (drop-take_less u 1 len some) ∙ ap (drop 1) line.parts
    where
      some : 1 ≤ len
      some = omega (arith, ap length line.parts, length-take len u)

  pub simple_text : (text : List ℕ) → text ≡ slice_range u 1 len → slice_get u 0 ≡ Some 43 → IsRedisLineOf (Simple text) (take len u)
  simple_text text is first =
      let kind : line.kind ≡ 43 = same_Some line.kind 43 (sym begins_with ∙ first) in
      (line.text, line.parts ∙ ap (λ b. b ∷ line.text) kind, (is ∙ its_text, line.plain))

  pub error_text : (text : List ℕ) → text ≡ slice_range u 1 len → slice_get u 0 ≢ Some 43 → IsRedisLineOf (Error text) (take len u)
  error_text text is first =
      let kind : line.kind ≡ 45 = ⊎_elim (λ simple. absurd (first (begins_with ∙ ap Some simple))) (λ error. error) line.is in
      (line.text, line.parts ∙ ap (λ b. b ∷ line.text) kind, (is ∙ its_text, line.plain))

-- ---- a bulk item

pub cursor_at : (segments : List (List ℕ)) (start : ℕ) (first next : CursorReading) → first ≡ record { segments = segments; at = 0 } → next ≡ passed_on start first → unread next ≡ drop start (concat segments)
cursor_at segments start first next is passed =
    let same : 0 + start ≡ start = omega arith in
    ap unread passed ∙ ap (λ r. unread (passed_on start r)) is ∙ ap (λ n. drop n (concat segments)) same

pub body_passed : (first next : CursorReading) (len : ℕ) → len ≤ length (unread first) → next ≡ passed_on len first → CursorTakesFirst len (unread first) (take len (unread first)) (unread next)
body_passed first next len some passed = subst (λ r. CursorTakesFirst len (unread first) (take len (unread first)) (unread r)) (sym passed) (CursorTakesFirst-passed first len some)

module _ (limits : Limits) (room : ℕ) (u : List ℕ) (start len : ℕ) (awaits : AwaitsPendingBody limits u start len) where
  pub wrong_bulk : (seen : ℕ) → ((more : List ℕ) → HasNoRedisBody len (drop start u ++ more)) → IsNoPendingItem limits room u seen Malformed
  wrong_bulk seen none = record {
    malformed = λ _ any more. no_body any u more awaits.line (drop start u) awaits.framed len awaits.is (none more);
    too_large = λ is. cc;
    memory = λ r is. cc;
  }

  pub awaits_bulk : HasNoRedisBody len (drop start u) → BeginsRedisBody len (drop start u) → AwaitsPendingItem limits room u
  awaits_bulk none begins = record {
    none = subst (NoRedisItem limits) (append-nil u) (no_body limits u [] awaits.line (drop start u) awaits.framed len awaits.is (subst (HasNoRedisBody len) (sym (append-nil (drop start u))) none));
    begins = begins_bulk limits room u awaits.line (drop start u) len awaits.framed awaits.is awaits.short awaits.small begins;
  }

-- ---- an item is kept

pub one_kept : (limits : Limits) (room : ℕ) (p next : Pending) (item : Item) (len : ℕ) → IsPending limits p → 0 < p.due → length p.items.items + p.due + room ≤ limits.items
    → HasPendingItem limits room (unread_by_pending p) item len → next.items.items ≡ p.items.items ++ item ∷ [] → next.due ≡ (p.due - 1) + redis_items_in item → unread_by_pending next ≡ drop len (unread_by_pending p)
    → held_by_pending next ≡ held_by_pending p → IsPendingNext limits (unread_by_pending next) next.next → IsPending limits next
one_kept limits room p next item len is some full has items due rest held at =
    let read = read_one limits limits [] (held_by_pending p) p.items.items (unread_by_pending p) p.due is.are is.due item (drop len (unread_by_pending p)) (redis_items_in item) some has.takes refl in
    record {
      are = subst (λ l. AreFirstOfRun (TakesRedisItem limits) (held_by_pending next) l (unread_by_pending next)) (sym items)
          (subst (λ l. AreFirstOfRun (TakesRedisItem limits) (held_by_pending next) (p.items.items ++ item ∷ []) l) (sym rest)
          (subst (λ l. AreFirstOfRun (TakesRedisItem limits) l (p.items.items ++ item ∷ []) (drop len (unread_by_pending p))) (sym held) read.0));
      due = subst (λ l. LeaveRedisItemsDue 1 l next.due) (sym items) (subst (LeaveRedisItemsDue 1 (p.items.items ++ item ∷ [])) (sym due) read.1);
      within = λ _. omega (arith, full, has.few, due, some, ap length items, length-append p.items.items (item ∷ []));
      next = at;
      fits = omega (arith, is.fits, ap length held);
    }

-- all items of a reply are kept
pub reply_read : (limits : Limits) (p : Pending) → IsPending limits p → 0 < limits.items → p.due ≡ 0 → TakesRedisReply limits (held_by_pending p) p.items.items (unread_by_pending p)
reply_read limits p is some none =
    whole_reply limits (held_by_pending p) p.items.items (unread_by_pending p) is.are (subst (LeaveRedisItemsDue 1 p.items.items) none is.due) (omega (arith, is.within some))

-- ---- the bytes that were seen

pub none_seen : (limits : Limits) (bytes : List ℕ) → AreSeen limits bytes 0
none_seen limits bytes = record { within = omega arith; none = λ some. absurd (omega (arith, some)); begins = λ some. absurd (omega (arith, some)) }

more_seen : (limits : Limits) (old piece : List ℕ) (seen : ℕ) → AreSeen limits old seen → AreSeen limits (old ++ piece) seen
more_seen limits old piece seen are =
    let same = take-append-le seen old piece are.within in
    record {
      within = omega (arith, are.within, length-append old piece);
      none = λ some. subst (NoRedisReply limits) (sym same) (are.none some);
      begins = λ some. subst (BeginsRedisReply limits) (sym same) (are.begins some);
    }

-- after a push, or a refused one
pub still_seen : {U E : Type 0} (limits : Limits) (old new : Pending) (piece : List ℕ) (seen : ℕ) (result : Result U E) → OnOk result (held_by_pending new ≡ held_by_pending old ++ piece) → OnErr result (new ≡ old)
    → AreSeen limits (held_by_pending old) seen → AreSeen limits (held_by_pending new) seen
still_seen limits old new piece seen (Ok u) more same are = subst (λ l. AreSeen limits l seen) (sym more) (more_seen limits (held_by_pending old) piece seen are)
still_seen limits old new piece seen (Err e) more same are = subst (λ p. AreSeen limits (held_by_pending p) seen) (sym same) are
