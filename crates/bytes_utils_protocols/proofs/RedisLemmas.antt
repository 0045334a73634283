-- Replies of the Redis protocol.
use Rattle.std.proofs.Common.{◌≡◌, ℕ, ◌+◌, ◌-◌, ◌<◌, ◌≤◌, List, [], ◌∷◌, ◌++◌, length, drop, get_or, Option, None, Some, ap, ◌∙◌, sym, refl, subst, arith, append_assoc, append-nil, length-append}
use Rattle.std.specs.Prelude.{ℤ}
use Rattle.std.specs.Option.{option_map}
use Rattle.std.proofs.lemmas.Bool.Decides.{nat_tests}
use Rattle.std.proofs.lemmas.List.{append_cancel_left}
use Rattle.std.proofs.lemmas.Str.Parse.{digit_at}
use Rattle.bytes_utils_codec.specs.Cursor.{IsBegunAtCursor, NeverBeginsAtCursor, CursorTakesFirst}
use Rattle.bytes_utils_codec.specs.Frames.{TakesFrame}
use Rattle.bytes_utils.specs.Occurrence.{Occurs}
use Rattle.bytes_utils_codec.specs.StreamRuns.{AreFirstOfRun}
use Rattle.bytes_utils_codec.proofs.FramesLemmas.{TakesFrame-more, TakesFrame-same}
use Rattle.bytes_utils.proofs.Joins.{append_same}
use Rattle.bytes_utils_codec.proofs.StreamRunsLemmas.{AreFirstOfRun-next}
use Rattle.bytes_utils_protocols.specs.Digits.{WriteNumber}
use Rattle.bytes_utils_protocols.specs.Redis.{redis_line_end, redis_no_length, IsRedisPlain, WriteRedisInteger, WriteRedisLength, redis_first_byte, IsRedisLineRest, IsRedisLineOf, redis_body, after_redis_line, redis_items_in, HasNoRedisBody, TakesRedisItem, NoRedisItem, AreWholeRedisItems, LeaveRedisItemsDue, TakesRedisReply, NoRedisReply}
use Rattle.bytes_utils_protocols.specs.RedisLine.{IsRedisLineHeadOf}
use Rattle.bytes_utils_protocols.specs.declared.redis.line.LineHead.TheVariants.{Body}
use Rattle.bytes_utils_protocols.specs.declared.redis.item.Item.{Item}
use Rattle.bytes_utils_protocols.specs.declared.redis.item.Item.TheVariants.{Simple, Error, Integer, Bulk, Array}
use Rattle.bytes_utils_protocols.specs.declared.redis.limits.Limits.{Limits}

-- ---- one item

-- what says that nothing is there is no number
no_number : (said : List ℕ) (n : ℕ) → said ≡ redis_no_length → WriteNumber said n → ⊥
no_number said n is number =
    let first = digit_at said 0 number.0.1 number.0.0 in
    let minus : get_or said 0 0 ≡ 45 = ap (λ l. get_or l 0 0) is in
    grind (arith, nat_tests, first, minus)

-- the length that is written
same_length : (said : List ℕ) (a b : Option ℕ) → WriteRedisLength said a → WriteRedisLength said b → a ≡ b
same_length said None None p q = refl
same_length said None (Some n) p q = absurd (no_number said n p q)
same_length said (Some m) None p q = absurd (no_number said m q p)
same_length said (Some m) (Some n) p q = ap Some (sym p.1 ∙ q.1)

-- the item, and what follows it
same_item : (x y : Item) (said r s : List ℕ) → redis_first_byte x ≡ redis_first_byte y → IsRedisLineRest x said → IsRedisLineRest y said → after_redis_line x ++ r ≡ after_redis_line y ++ s → (x ≡ y) × (r ≡ s)
same_item (Simple a) (Simple b) said r s e p q t = (ap Simple (p.0 ∙ sym q.0), t)
same_item (Error a) (Error b) said r s e p q t = (ap Error (p.0 ∙ sym q.0), t)
same_item (Integer a) (Integer b) said r s e p q t = (ap Integer (p.2 ∙ sym q.2), t)
same_item (Bulk None) (Bulk None) said r s e p q t = (refl, t)
same_item (Bulk None) (Bulk (Some b)) said r s e p q t = absurd (no_number said (length b) p q)
same_item (Bulk (Some a)) (Bulk None) said r s e p q t = absurd (no_number said (length a) q p)
same_item (Bulk (Some a)) (Bulk (Some b)) said r s e p q t =
    let same = append_same a b (redis_line_end ++ r) (redis_line_end ++ s) (sym p.1 ∙ q.1) (sym (append_assoc a redis_line_end r) ∙ t ∙ append_assoc b redis_line_end s) in
    (ap (λ l. Bulk (Some l)) same.0, append_cancel_left redis_line_end r s same.1)
same_item (Array a) (Array b) said r s e p q t = (ap Array (same_length said a b p q), t)
same_item (Simple a) (Error b) said r s e p q t = absurd (omega (arith, e))
same_item (Simple a) (Integer b) said r s e p q t = absurd (omega (arith, e))
same_item (Simple a) (Bulk b) said r s e p q t = absurd (omega (arith, e))
same_item (Simple a) (Array b) said r s e p q t = absurd (omega (arith, e))
same_item (Error a) (Simple b) said r s e p q t = absurd (omega (arith, e))
same_item (Error a) (Integer b) said r s e p q t = absurd (omega (arith, e))
same_item (Error a) (Bulk b) said r s e p q t = absurd (omega (arith, e))
same_item (Error a) (Array b) said r s e p q t = absurd (omega (arith, e))
same_item (Integer a) (Simple b) said r s e p q t = absurd (omega (arith, e))
same_item (Integer a) (Error b) said r s e p q t = absurd (omega (arith, e))
same_item (Integer a) (Bulk b) said r s e p q t = absurd (omega (arith, e))
same_item (Integer a) (Array b) said r s e p q t = absurd (omega (arith, e))
same_item (Bulk a) (Simple b) said r s e p q t = absurd (omega (arith, e))
same_item (Bulk a) (Error b) said r s e p q t = absurd (omega (arith, e))
same_item (Bulk a) (Integer b) said r s e p q t = absurd (omega (arith, e))
same_item (Bulk a) (Array b) said r s e p q t = absurd (omega (arith, e))
same_item (Array a) (Simple b) said r s e p q t = absurd (omega (arith, e))
same_item (Array a) (Error b) said r s e p q t = absurd (omega (arith, e))
same_item (Array a) (Integer b) said r s e p q t = absurd (omega (arith, e))
same_item (Array a) (Bulk b) said r s e p q t = absurd (omega (arith, e))

-- the first byte of a line, and the others
same_line : (x y : Item) (line : List ℕ) (p : IsRedisLineOf x line) (q : IsRedisLineOf y line) → (redis_first_byte x ≡ redis_first_byte y) × (p.0 ≡ q.0)
same_line x y line p q =
    let same : redis_first_byte x ∷ p.0 ≡ redis_first_byte y ∷ q.0 = sym p.1 ∙ q.1 in
    (ap (λ l. get_or l 0 0) same, ap (drop 1) same)

-- what bytes begin with is one item, whatever the limits are
pub TakesRedisItem-same : (limits other : Limits) (old : List ℕ) (x y : Item) (r s : List ℕ) → TakesRedisItem limits old x r → TakesRedisItem other old y s → (x ≡ y) × (r ≡ s)
TakesRedisItem-same limits other old x y r s p q =
    let same = TakesFrame-same redis_line_end old p.line q.line (after_redis_line x ++ r) (after_redis_line y ++ s) p.bytes q.bytes in
    let q_is : IsRedisLineOf y p.line = subst (IsRedisLineOf y) (sym same.0) q.is in
    let said = same_line x y p.line p.is q_is in
    same_item x y p.is.0 r s said.0 p.is.2 (subst (IsRedisLineRest y) (sym said.1) q_is.2) same.1

-- with more bytes it is the same
pub TakesRedisItem-more : (limits : Limits) (old : List ℕ) (item : Item) (rest more : List ℕ) → TakesRedisItem limits old item rest → TakesRedisItem limits (old ++ more) item (rest ++ more)
TakesRedisItem-more limits old item rest more takes = record {
  line = takes.line;
  is = takes.is;
  bytes = subst (TakesFrame redis_line_end (old ++ more) takes.line) (append_assoc (after_redis_line item) rest more)
      (TakesFrame-more redis_line_end old takes.line (after_redis_line item ++ rest) more takes.bytes);
  short = takes.short;
  small = takes.small;
}

-- ---- where there is no item

module _ (limits : Limits) (old more : List ℕ) where
  -- no line ends
  pub no_line : (¬ Occurs redis_line_end old) → NoRedisItem limits old
  no_line none item rest takes = none (length takes.line, takes.bytes.first.here)

  module _ (line mid : List ℕ) (framed : TakesFrame redis_line_end old line mid) where
    -- the line that an item has
    its_line : (item : Item) (rest : List ℕ) (takes : TakesRedisItem limits (old ++ more) item rest) → IsRedisLineOf item line × (mid ++ more ≡ after_redis_line item ++ rest)
    its_line item rest takes =
        let same = TakesFrame-same redis_line_end (old ++ more) line takes.line (mid ++ more) (after_redis_line item ++ rest) (TakesFrame-more redis_line_end old line mid more framed) takes.bytes in
        (subst (IsRedisLineOf item) (sym same.0) takes.is, same.1)

    -- the line is that of a bulk item
    module _ (len : ℕ) (head : IsRedisLineHeadOf (Body len) line) where
      its_body : (item : Item) (rest : List ℕ) (said : List ℕ) → line ≡ redis_first_byte item ∷ said → IsRedisLineRest item said → mid ++ more ≡ after_redis_line item ++ rest
          → (length (redis_body item) ≡ len) × (mid ++ more ≡ redis_body item ++ (redis_line_end ++ rest))
      its_body (Bulk (Some b)) rest said is says following =
          let same : head.0 ≡ said = ap (drop 1) (sym head.1 ∙ is) in
          let number = subst (λ l. WriteNumber l len) same head.2 in
          (sym says.1 ∙ number.1, following ∙ append_assoc b redis_line_end rest)
      its_body (Bulk None) rest said is says following =
          let same : head.0 ≡ said = ap (drop 1) (sym head.1 ∙ is) in
          absurd (no_number said len says (subst (λ l. WriteNumber l len) same head.2))
      its_body (Simple a) rest said is says following = absurd (omega (arith, ap (λ l. get_or l 0 0) (sym head.1 ∙ is)))
      its_body (Error a) rest said is says following = absurd (omega (arith, ap (λ l. get_or l 0 0) (sym head.1 ∙ is)))
      its_body (Integer a) rest said is says following = absurd (omega (arith, ap (λ l. get_or l 0 0) (sym head.1 ∙ is)))
      its_body (Array a) rest said is says following = absurd (omega (arith, ap (λ l. get_or l 0 0) (sym head.1 ∙ is)))

      -- its bytes are not there
      pub no_body : HasNoRedisBody len (mid ++ more) → NoRedisItem limits (old ++ more)
      no_body none item rest takes =
          let its = its_line item rest takes in
          let has = its_body item rest its.0.0 its.0.1 its.0.2 its.1 in
          none (redis_body item) rest has.0 has.1

module _ (len : ℕ) (old bytes mid : List ℕ) (first : CursorTakesFirst len old bytes mid) where
  -- what follows the bytes
  following : (more front rest : List ℕ) → length front ≡ len → old ++ more ≡ front ++ (redis_line_end ++ rest) → mid ++ more ≡ redis_line_end ++ rest
  following more front rest size same =
      (append_same bytes front (mid ++ more) (redis_line_end ++ rest) (first.size ∙ sym size) (sym (append_assoc bytes mid more) ∙ ap (λ l. l ++ more) (sym first.bytes) ∙ same)).1

  -- another end follows the bytes
  pub wrong_end : NeverBeginsAtCursor redis_line_end mid → (more : List ℕ) → HasNoRedisBody len (old ++ more)
  wrong_end never more front rest size same = never more rest (following more front rest size same)

  -- their end is to come
  pub no_end : IsBegunAtCursor redis_line_end mid → HasNoRedisBody len old
  no_end begun front rest size same =
      let ends : mid ++ [] ≡ redis_line_end ++ rest = following [] front rest size (append-nil old ∙ same) in
      let two : length redis_line_end ≡ 2 = refl in
      omega (arith, two, ap length ends, length-append mid [], length-append redis_line_end rest, ap length begun.1, length-append mid begun.0, begun.2)

-- ---- lines that are those of no item

pub no_item_of_none : (item : Item) → ¬ IsRedisLineOf item []
no_item_of_none item is = absurd (omega (arith, ap length is.1))

module _ (kind : ℕ) (said : List ℕ) where
  -- an item that has this line says what follows its first byte
  pub of_kind : ((item : Item) → kind ≡ redis_first_byte item → ¬ IsRedisLineRest item said) → (item : Item) → ¬ IsRedisLineOf item (kind ∷ said)
  of_kind none item is = none item (ap (λ l. get_or l 0 0) is.1) (subst (IsRedisLineRest item) (sym (ap (drop 1) is.1)) is.2)

pub no_simple : (said : List ℕ) → (¬ IsRedisPlain said) → (item : Item) → ¬ IsRedisLineOf item (43 ∷ said)
no_simple said none = of_kind 43 said no_item
  where
    no_item : (item : Item) → 43 ≡ redis_first_byte item → ¬ IsRedisLineRest item said
    no_item (Simple a) e says = none says.1
    no_item (Error a) e says = omega (arith, e)
    no_item (Integer a) e says = omega (arith, e)
    no_item (Bulk a) e says = omega (arith, e)
    no_item (Array a) e says = omega (arith, e)

pub no_error : (said : List ℕ) → (¬ IsRedisPlain said) → (item : Item) → ¬ IsRedisLineOf item (45 ∷ said)
no_error said none = of_kind 45 said no_item
  where
    no_item : (item : Item) → 45 ≡ redis_first_byte item → ¬ IsRedisLineRest item said
    no_item (Simple a) e says = omega (arith, e)
    no_item (Error a) e says = none says.1
    no_item (Integer a) e says = omega (arith, e)
    no_item (Bulk a) e says = omega (arith, e)
    no_item (Array a) e says = omega (arith, e)

pub no_integer : (said : List ℕ) → ((n : ℤ) → ¬ WriteRedisInteger said n) → (item : Item) → ¬ IsRedisLineOf item (58 ∷ said)
no_integer said none = of_kind 58 said no_item
  where
    no_item : (item : Item) → 58 ≡ redis_first_byte item → ¬ IsRedisLineRest item said
    no_item (Simple a) e says = omega (arith, e)
    no_item (Error a) e says = omega (arith, e)
    no_item (Integer a) e says = none a says
    no_item (Bulk a) e says = omega (arith, e)
    no_item (Array a) e says = omega (arith, e)

pub no_bulk : (said : List ℕ) → ((len : Option ℕ) → ¬ WriteRedisLength said len) → (item : Item) → ¬ IsRedisLineOf item (36 ∷ said)
no_bulk said none = of_kind 36 said no_item
  where
    no_item : (item : Item) → 36 ≡ redis_first_byte item → ¬ IsRedisLineRest item said
    no_item (Simple a) e says = omega (arith, e)
    no_item (Error a) e says = omega (arith, e)
    no_item (Integer a) e says = omega (arith, e)
    no_item (Bulk a) e says = none (option_map length a) says
    no_item (Array a) e says = omega (arith, e)

pub no_array : (said : List ℕ) → ((len : Option ℕ) → ¬ WriteRedisLength said len) → (item : Item) → ¬ IsRedisLineOf item (42 ∷ said)
no_array said none = of_kind 42 said no_item
  where
    no_item : (item : Item) → 42 ≡ redis_first_byte item → ¬ IsRedisLineRest item said
    no_item (Simple a) e says = omega (arith, e)
    no_item (Error a) e says = omega (arith, e)
    no_item (Integer a) e says = omega (arith, e)
    no_item (Bulk a) e says = omega (arith, e)
    no_item (Array a) e says = none a says

-- ---- items in a row

-- the bytes don't begin with an item that has at most `room` items of its own
abbrev pub NoRedisItemWithin : Limits → ℕ → List ℕ → Type 0
NoRedisItemWithin limits room bytes = (item : Item) (rest : List ℕ) → TakesRedisItem limits bytes item rest → room < redis_items_in item

pub LeaveRedisItemsDue-next : (n : ℕ) (items : List Item) (item : Item) (due : ℕ) → 0 < due → LeaveRedisItemsDue n items due → LeaveRedisItemsDue n (items ++ item ∷ []) ((due - 1) + redis_items_in item)
LeaveRedisItemsDue-next n [] item due some pending = (omega (arith, some, pending), ap (λ k. (k - 1) + redis_items_in item) pending)
LeaveRedisItemsDue-next n (x ∷ items) item due some pending = (pending.0, LeaveRedisItemsDue-next ((n - 1) + redis_items_in x) items item due some pending.1)

pub LeaveRedisItemsDue-none : (n : ℕ) (items : List Item) → LeaveRedisItemsDue n items 0 → AreWholeRedisItems n items
LeaveRedisItemsDue-none n [] pending = pending
LeaveRedisItemsDue-none n (x ∷ items) pending = (pending.0, LeaveRedisItemsDue-none ((n - 1) + redis_items_in x) items pending.1)

-- whole items are at least as many as were to come
at_least : (n : ℕ) (items : List Item) → AreWholeRedisItems n items → n ≤ length items
at_least n [] whole = omega (arith, whole)
at_least n (x ∷ items) whole = omega (arith, at_least ((n - 1) + redis_items_in x) items whole.1)

module _ (limits other : Limits) (more : List ℕ) where
  -- any whole items begin with those that were read
  walk : (n : ℕ) (bytes : List ℕ) (xs : List Item) (left : List ℕ) (due : ℕ) (zs : List Item) (rest : List ℕ) → AreFirstOfRun (TakesRedisItem limits) bytes xs left → LeaveRedisItemsDue n xs due
      → AreFirstOfRun (TakesRedisItem other) (bytes ++ more) zs rest → AreWholeRedisItems n zs → (ys : List Item) × (zs ≡ xs ++ ys) × AreWholeRedisItems due ys × AreFirstOfRun (TakesRedisItem other) (left ++ more) ys rest
  walk n bytes [] left due zs rest are pending their whole =
      (zs, refl, subst (λ k. AreWholeRedisItems k zs) pending whole, subst (λ l. AreFirstOfRun (TakesRedisItem other) (l ++ more) zs rest) are their)
  walk n bytes (x ∷ xs) left due [] rest are pending their whole = absurd (omega (arith, pending.0, whole))
  walk n bytes (x ∷ xs) left due (z ∷ zs) rest are pending their whole =
      let same = TakesRedisItem-same limits other (bytes ++ more) x z (are.0 ++ more) their.0 (TakesRedisItem-more limits bytes x are.0 more are.1) their.1 in
      let later = walk ((n - 1) + redis_items_in x) are.0 xs left due zs rest are.2 pending.1 (subst (λ l. AreFirstOfRun (TakesRedisItem other) l zs rest) (sym same.1) their.2)
      (subst (λ k. AreWholeRedisItems ((n - 1) + redis_items_in k) zs) (sym same.0) whole.1) in
      (later.0, (λ i. sym same.0 i ∷ later.1 i), later.2, later.3)

  module _ (bytes : List ℕ) (xs : List Item) (left : List ℕ) (due : ℕ) (are : AreFirstOfRun (TakesRedisItem limits) bytes xs left) (pending : LeaveRedisItemsDue 1 xs due) where
    -- the next item is read
    pub read_one : (item : Item) (rest : List ℕ) (following : ℕ) → 0 < due → TakesRedisItem limits left item rest → following ≡ redis_items_in item
        → AreFirstOfRun (TakesRedisItem limits) bytes (xs ++ item ∷ []) rest × LeaveRedisItemsDue 1 (xs ++ item ∷ []) ((due - 1) + following)
    read_one item rest following some takes is = (
      AreFirstOfRun-next (TakesRedisItem limits) bytes xs left item rest are takes,
      subst (λ n. LeaveRedisItemsDue 1 (xs ++ item ∷ []) ((due - 1) + n)) (sym is) (LeaveRedisItemsDue-next 1 xs item due some pending),
    )

    -- an item is to come, and there is none
    pub no_next : 0 < due → NoRedisItem other (left ++ more) → NoRedisReply other (bytes ++ more)
    no_next some none zs rest takes =
        let later = walk 1 bytes xs left due zs rest are pending takes.are takes.whole in
        has_none due later.0 some later.2 later.3
      where
        has_none : (k : ℕ) (ys : List Item) → 0 < k → AreWholeRedisItems k ys → AreFirstOfRun (TakesRedisItem other) (left ++ more) ys rest → ⊥
        has_none k [] some whole are = omega (arith, some, whole)
        has_none k (y ∷ ys) some whole are = none y are.0 are.1

    -- more are to come than the limit allows
    pub too_many : other.items < length xs + due → NoRedisReply other (bytes ++ more)
    too_many many zs rest takes =
        let later = walk 1 bytes xs left due zs rest are pending takes.are takes.whole in
        omega (arith, many, takes.few, ap length later.1, length-append xs later.0, at_least due later.0 later.2)

    -- an item is to come, and it has more items than the limit allows
    pub no_room : (room : ℕ) → 0 < due → other.items ≤ length xs + due + room → NoRedisItemWithin other room (left ++ more) → NoRedisReply other (bytes ++ more)
    no_room room some full none zs rest takes =
        let later = walk 1 bytes xs left due zs rest are pending takes.are takes.whole in
        let many = more_than due later.0 some later.2 later.3 in
        omega (arith, full, many, takes.few, ap length later.1, length-append xs later.0)
      where
        more_than : (k : ℕ) (ys : List Item) → 0 < k → AreWholeRedisItems k ys → AreFirstOfRun (TakesRedisItem other) (left ++ more) ys rest → k + room < length ys
        more_than k [] some whole are = absurd (omega (arith, some, whole))
        more_than k (y ∷ ys) some whole are = omega (arith, some, none y are.0 are.1, at_least ((k - 1) + redis_items_in y) ys whole.1)

-- no item is to come
pub whole_reply : (limits : Limits) (bytes : List ℕ) (items : List Item) (rest : List ℕ) → AreFirstOfRun (TakesRedisItem limits) bytes items rest → LeaveRedisItemsDue 1 items 0
    → length items ≤ limits.items → TakesRedisReply limits bytes items rest
whole_reply limits bytes items rest are pending few = record { are = are; whole = LeaveRedisItemsDue-none 1 items pending; few = few }

-- ---- a reply takes bytes

pub item_takes : (limits : Limits) (old : List ℕ) (item : Item) (rest : List ℕ) → TakesRedisItem limits old item rest → length rest < length old
item_takes limits old item rest takes =
    let two : length redis_line_end ≡ 2 = refl in
    let following = after_redis_line item ++ rest in
    omega (arith, two, ap length takes.bytes.bytes, length-append takes.line (redis_line_end ++ following), length-append redis_line_end following, length-append (after_redis_line item) rest)

items_take : (limits : Limits) (items : List Item) (old rest : List ℕ) → AreFirstOfRun (TakesRedisItem limits) old items rest → length rest ≤ length old
items_take limits [] old rest same = omega (arith, ap length same)
items_take limits (item ∷ items) old rest are = omega (arith, item_takes limits old item are.0 are.1, items_take limits items are.0 rest are.2)

pub reply_takes : (limits : Limits) (old : List ℕ) (items : List Item) (rest : List ℕ) → TakesRedisReply limits old items rest → length rest < length old
reply_takes limits old [] rest takes = absurd (omega (arith, takes.whole))
reply_takes limits old (item ∷ items) rest takes =
    omega (arith, item_takes limits old item takes.are.0 takes.are.1, items_take limits items takes.are.0 rest takes.are.2)
