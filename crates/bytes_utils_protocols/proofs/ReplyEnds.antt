-- Where a line of a reply ends, and what it reports.
use Rattle.std.proofs.Common.{◌≡◌, ◌≢◌, ℕ, zero, suc, ◌+◌, ◌-◌, Bool, true, false, ◌<◌, ◌≤◌, ◌⊎◌, inl, inr, ⊎_elim, List, [], ◌∷◌, ◌++◌, length, take, drop, get_or, Option, None, Some, Result, Ok, Err, IfOk, IfErr, IfSome, IfNone, ap, ◌∙◌, sym, refl, subst, arith, append-nil, length-append}
use Rattle.std.specs.Bool.{MatchBool}
use Rattle.std.specs.List.{concat, slice_get, slice_range}
use Rattle.std.specs.Option.{option_eq}
use Rattle.std.proofs.Math.Dec.{eqb}
use Rattle.std.proofs.lemmas.Bool.{cases_lt, eq-eqb, eqb-true, true≢false}
use Rattle.std.proofs.lemmas.List.{append_cancel_left, length-drop, length-take, length-take-le, take_all, take-append-drop}
use Rattle.std.proofs.lemmas.Option.{same_Some, slice_get-get_or}
use Rattle.std.proofs.Math.Seq.{take-add}
use Rattle.bytes_utils_buf.specs.Segments.{IsInOneSegment}
use Rattle.bytes_utils_buf.specs.declared.refused.Reason.{Reason}
use Rattle.bytes_utils_codec.specs.Frames.{TakesFrame}
use Rattle.bytes_utils.specs.Lines.{carriage_return, line_feed}
use Rattle.bytes_utils.specs.Occurrence.{Occurs, OccursAt}
use Rattle.bytes_utils_protocols.specs.Redis.{redis_line_end, BeginsRedisItem, HasFirstRedisLine, IsRedisLineOf, IsRedisLineOverLimit, LacksRedisByte, NoRedisItem}
use Rattle.bytes_utils_protocols.specs.RedisLine.{IsRedisLineHead, IsRedisLineHeadOf, IsRedisLineHeadWithin, IsRedisLineReadAs, NoLineEnds, NoLineReturn, RedisLineEndsAt}
use Rattle.bytes_utils_protocols.specs.RedisPending.{AwaitsPendingItem, FindsPendingHead, IsNoPendingItem}
use Rattle.bytes_utils_protocols.specs.declared.redis.item.Item.{Item}
use Rattle.bytes_utils_protocols.specs.declared.redis.limits.Limits.{Limits}
use Rattle.bytes_utils_protocols.specs.declared.redis.limits.ReplyError.{ReplyError}
use Rattle.bytes_utils_protocols.specs.declared.redis.limits.ReplyError.TheVariants.{Refused, Malformed, TooLarge}
use Rattle.bytes_utils_protocols.specs.declared.redis.line.LineHead.{LineHead}
use Rattle.bytes_utils_protocols.specs.declared.redis.line.Line.{Line}
use Rattle.bytes_utils_protocols.specs.declared.redis.pending.LineEnd.{LineEnd}
use Rattle.bytes_utils_protocols.specs.declared.redis.pending.LineEnd.TheVariants.{Missing, Half, Here}
use Rattle.bytes_utils_protocols.proofs.RedisLemmas.{no_line}
use Rattle.bytes_utils_protocols.proofs.ReplyLines.{IsRedisLineWithin, completed_within, framed_line, line_within}
use Rattle.bytes_utils_protocols.proofs.ReplyBeginnings.{begun_item, ended_item, no_begun, no_ended}
use Rattle.bytes_utils_protocols.proofs.LineSteps.{read_no_return}

-- ---- one byte

-- a list comes before those of which one has the range
after_list : (s : List ℕ) (segments : List (List ℕ)) (start end : ℕ) → length s ≤ start → IsInOneSegment (start - length s) (end - length s) segments → IsInOneSegment start end (s ∷ segments)
after_list s segments start end high later =
    let before = later.before in
    let next : suc before + 1 ≡ suc (before + 1) = omega arith in
    let first : length (concat (take (suc before) (s ∷ segments))) ≡ length s + length (concat (take before segments)) = length-append s (concat (take before segments)) in
    let last : length (concat (take (suc before + 1) (s ∷ segments))) ≡ length s + length (concat (take (before + 1) segments)) =
    ap (λ n. length (concat (take n (s ∷ segments)))) next ∙ length-append s (concat (take (before + 1) segments)) in
    record { before = suc before; from = omega (arith, later.from, high, first); to = omega (arith, later.to, high, last) }

-- one list has it
pub byte_in_segment : (segments : List (List ℕ)) (start end : ℕ) → end ≡ start + 1 → end ≤ length (concat segments) → IsInOneSegment start end segments
byte_in_segment [] start end one within = absurd (omega (arith, one, within))
byte_in_segment (s ∷ segments) start end one within = ⊎_elim
    (λ low. record { before = 0; from = omega arith; to = omega (arith, one, low, length-append s []) })
    (λ high. after_list s segments start end high
    (byte_in_segment segments (start - length s) (end - length s) (omega (arith, one, high)) (omega (arith, within, length-append s (concat segments)))))
    (cases_lt start (length s))

-- ---- where no line ends

-- an end that begins and ends within the bytes
within : (bytes more : List ℕ) (k : ℕ) → k + 2 ≤ length bytes → OccursAt redis_line_end (bytes ++ more) k → OccursAt redis_line_end bytes k
within [] more k fits here = absurd (omega (arith, fits))
within (b ∷ []) more k fits here = absurd (omega (arith, fits))
within (b ∷ c ∷ bytes) more zero fits here = here
within (b ∷ c ∷ bytes) more (suc k) fits here = within (c ∷ bytes) more k (omega (arith, fits)) here

-- none begins where no carriage return is
not_at : (bytes more : List ℕ) (k : ℕ) → get_or bytes k 0 ≢ carriage_return → k < length bytes → ¬ OccursAt redis_line_end (bytes ++ more) k
not_at [] more k other below here = omega (arith, below)
not_at (b ∷ bytes) more zero other below here = other (ap (λ l. get_or l 0 0) here)
not_at (b ∷ bytes) more (suc k) other below here = not_at bytes more k other (omega (arith, below)) here

not_read : (bytes more : List ℕ) (read k : ℕ) → NoLineReturn (take read bytes) → k < read → read ≤ length bytes → ¬ OccursAt redis_line_end (bytes ++ more) k
not_read [] more read k none low fits here = omega (arith, low, fits)
not_read (b ∷ bytes) more zero k none low fits here = omega (arith, low)
not_read (b ∷ bytes) more (suc read) zero none low fits here = none.0 (ap (λ l. get_or l 0 0) here)
not_read (b ∷ bytes) more (suc read) (suc k) none low fits here = not_read bytes more read k none.1 (omega (arith, low)) (omega (arith, fits)) here

abbrev bytes_none : List ℕ
bytes_none = []

after_front : (bytes : List ℕ) (read k : ℕ) → read ≤ k → OccursAt redis_line_end bytes k → (j : ℕ) × (k ≡ read + j) × OccursAt redis_line_end (drop read bytes) j
after_front bytes zero k low here = (k, omega arith, here)
after_front [] (suc read) k low here = absurd (omega (arith, ap length here, length-take 2 (drop k bytes_none), length-drop k bytes_none))
after_front (b ∷ bytes) (suc read) zero low here = absurd (omega (arith, low))
after_front (b ∷ bytes) (suc read) (suc k) low here = let later = after_front bytes read k (omega (arith, low)) here in (later.0, omega (arith, later.1), later.2)

module _ (bytes : List ℕ) (read : ℕ) (fits : read ≤ length bytes) (none : NoLineReturn (take read bytes)) where
  -- no end is in the bytes after those that were read, up to this place
  pub none_ends : (place : ℕ) → ((k : ℕ) → k < place → k + 2 ≤ length bytes) → ((j : ℕ) → OccursAt redis_line_end (drop read bytes) j → place ≤ read + j) → (more : List ℕ) → NoLineEnds place (bytes ++ more)
  none_ends place whole first more k below here = ⊎_elim
      (λ low. not_read bytes more read k none low fits here)
      (λ high. let at = after_front bytes read k high (within bytes more k (whole k below) here) in omega (arith, below, at.1, first at.0 at.2))
      (cases_lt k read)

  -- nor is one in all of them, whose last byte is no carriage return
  pub none_open : (get_or bytes (length bytes - 1) 0 ≢ carriage_return) ⊎ (length bytes ≤ read) → (¬ Occurs redis_line_end (drop read bytes)) → (more : List ℕ) → NoLineEnds (length bytes) (bytes ++ more)
  none_open (inr all) missing more k below here = not_read bytes more read k none (omega (arith, all, below)) fits here
  none_open (inl other) missing more k below here = ⊎_elim
      (λ fits. none_ends (length bytes - 1) (λ i l. omega (arith, l)) (λ j at. absurd (missing (j, at))) more k (omega (arith, fits)) here)
      (λ last. not_at bytes more k (subst (λ i. get_or bytes i 0 ≢ carriage_return) (omega (arith, last, below)) other) below here)
      (cases_lt (k + 1) (length bytes))

-- all bytes but the last one, and that one
pub last_cut : (bytes : List ℕ) (m b : ℕ) → length bytes ≡ m + 1 → slice_get bytes m ≡ Some b → bytes ≡ take m bytes ++ b ∷ []
last_cut [] m b size is = absurd (omega (arith, size))
last_cut (x ∷ []) zero b size is = cc
last_cut (x ∷ []) (suc m) b size is = absurd (omega (arith, size))
last_cut (x ∷ y ∷ bytes) zero b size is = absurd (omega (arith, size))
last_cut (x ∷ y ∷ bytes) (suc m) b size is = ap (λ l. x ∷ l) (last_cut (y ∷ bytes) m b (omega (arith, size)) is)

pub no_last_return : (bytes : List ℕ) → 0 < length bytes → slice_get bytes (length bytes - 1) ≢ Some carriage_return → get_or bytes (length bytes - 1) 0 ≢ carriage_return
no_last_return bytes some other is = other (slice_get-get_or bytes (length bytes - 1) 0 (omega (arith, some)) ∙ ap Some is)

pub option_is : (x : Option ℕ) (b : ℕ) → option_eq eqb x (Some b) ≡ true → x ≡ Some b
option_is None b is = absurd (true≢false (sym is))
option_is (Some y) b is = ap Some (eqb-true y b is)

pub option_is_not : (x : Option ℕ) (b : ℕ) → option_eq eqb x (Some b) ≡ false → x ≢ Some b
option_is_not None b is same = cc
option_is_not (Some y) b is same = true≢false (sym (eq-eqb y b (same_Some y b same)) ∙ is)

-- ---- what was read of a line

pub read_on : (bytes : List ℕ) (a b : ℕ) → a ≤ b → take a bytes ++ slice_range bytes a b ≡ take b bytes
read_on bytes a b ordered = let same : a + (b - a) ≡ b = omega (arith, ordered) in sym (take-add a (b - a) bytes) ∙ ap (λ n. take n bytes) same

-- the bytes after a line, up to any end of it
pub half_after : (u : List ℕ) (len : ℕ) → len ≤ length u → u ≡ take len u ++ carriage_return ∷ [] → drop len u ≡ carriage_return ∷ []
half_after u len fits half = append_cancel_left (take len u) (drop len u) (carriage_return ∷ []) (take-append-drop len u ∙ half)

pub end_after : (u : List ℕ) (len : ℕ) → len ≤ length u → u ≡ take len u ++ (redis_line_end ++ drop (len + 2) u) → drop len u ≡ carriage_return ∷ (10 ∷ drop (len + 2) u)
end_after u len fits whole = append_cancel_left (take len u) (drop len u) (redis_line_end ++ drop (len + 2) u) (take-append-drop len u ∙ whole)

-- ---- the first line

nothing : (bytes : List ℕ) → length bytes ≡ 0 → bytes ≡ []
nothing [] size = refl
nothing (b ∷ bytes) size = absurd (omega (arith, size))

pub none_after : (u : List ℕ) (len : ℕ) → length u ≡ len → drop len u ≡ []
none_after u len all = nothing (drop len u) (omega (arith, all, length-drop len u))

module _ (u : List ℕ) (len : ℕ) (fits : len ≤ length u) where
  -- what follows it
  its_end : (end : LineEnd) → RedisLineEndsAt end len u → (more rest : List ℕ) × (drop len u ++ more ≡ redis_line_end ++ rest)
  its_end Missing is = (redis_line_end, [], ap (λ l. l ++ redis_line_end) (none_after u len is) ∙ sym (append-nil redis_line_end))
  its_end Half is = (line_feed ∷ [], [], ap (λ l. l ++ line_feed ∷ []) (half_after u len fits is))
  its_end Here is = ([], drop (len + 2) u, append-nil (drop len u) ∙ end_after u len fits is)

  pub first_line : (end : LineEnd) → RedisLineEndsAt end len u → ((more : List ℕ) → NoLineEnds len (u ++ more)) → HasFirstRedisLine u (take len u) (drop len u)
  first_line end is none = record {
    parts = sym (take-append-drop len u);
    end = its_end end is;
    first = λ more place here. ⊎_elim
        (λ low. absurd (none more place (omega (arith, low, length-take-le len u fits)) here))
        (λ high. high)
        (cases_lt place (length (take len u)));
  }

-- ---- what it is

module _ (limits : Limits) (room : ℕ) (u : List ℕ) (len : ℕ) (fits : len ≤ length u) (none : (more : List ℕ) → NoLineEnds len (u ++ more)) where
  size : length (take len u) ≡ len
  size = length-take-le len u fits

  none_in_front : (more : List ℕ) → NoLineEnds (length (take len u)) ((take len u ++ drop len u) ++ more)
  none_in_front more = subst (λ n. NoLineEnds n ((take len u ++ drop len u) ++ more)) (sym size) (subst (λ l. NoLineEnds len (l ++ more)) (sym (take-append-drop len u)) (none more))

  -- no item's line begins with these bytes
  pub stays_none : ((item : Item) (x : List ℕ) → ¬ IsRedisLineOf item (take len u ++ x)) → (any : Limits) (more : List ℕ) → NoRedisItem any (u ++ more)
  stays_none never any more = subst (λ l. NoRedisItem any (l ++ more)) (take-append-drop len u) (no_begun any (take len u) (drop len u) more (none_in_front more) never)

  -- these bytes are a line, and that of no item
  stays_ended : (after : List ℕ) → drop len u ≡ carriage_return ∷ after → ((item : Item) → ¬ IsRedisLineOf item (take len u)) → (any : Limits) (more : List ℕ) → NoRedisItem any (u ++ more)
  stays_ended after ended never any more =
      subst (λ l. NoRedisItem any (l ++ more)) (take-append-drop len u) (no_ended any (take len u) (drop len u) more (none_in_front more) after ended never)

  -- the line is too long
  pub too_long : (seen : ℕ) (end : LineEnd) → RedisLineEndsAt end len u → limits.line < len → IsNoPendingItem limits room u seen TooLarge
  too_long seen end is long = record {
    malformed = λ other. cc;
    too_large = λ _. record { line = take len u; after = drop len u; has = first_line u len fits end is none; over = inl (omega (arith, long, size)) };
    memory = λ reason other. cc;
  }

  module _ (line : Line) (read : IsRedisLineReadAs line (take len u)) where
    -- what a check of the line found
    abbrev Gives : LineHead → Type 0
    Gives head = IsRedisLineHeadWithin limits.bulk room head × ((bytes : List ℕ) → IsRedisLineReadAs line bytes → IsRedisLineHeadOf head bytes)

    abbrev Lacks : Bool → Type 0
    Lacks ended = (len < limits.line) × (¬ (ended ≡ true)) × ((bytes : List ℕ) → IsRedisLineReadAs line bytes → LacksRedisByte bytes)

    abbrev NeverHas : Bool → Type 0
    NeverHas ended = (bytes : List ℕ) → IsRedisLineReadAs line bytes → MatchBool ended ((item : Item) → ¬ IsRedisLineOf item bytes) ((item : Item) (more : List ℕ) → ¬ IsRedisLineOf item (bytes ++ more))

    abbrev Passes : Bool → Type 0
    Passes ended =
        (bytes after : List ℕ) → IsRedisLineReadAs line bytes → length bytes ≡ len → (ended ≡ false → after ≡ []) → IsRedisLineOverLimit limits room bytes after

    -- a line that was checked is none
    pub not_checked : (seen : ℕ) (ended : Bool) → HasFirstRedisLine u (take len u) (drop len u) → MatchBool ended ((after : List ℕ) × (drop len u ≡ carriage_return ∷ after)) (drop len u ≡ []) → (e : ReplyError)
        → (e ≡ Malformed → NeverHas ended) → (e ≡ TooLarge → Passes ended) → ((reason : Reason) → ¬ (e ≡ Refused reason)) → IsNoPendingItem limits room u seen e
    not_checked seen true has return e malformed too_large reason = record {
      malformed = λ is. stays_ended return.0 return.1 (malformed is (take len u) read);
      too_large = λ is. record {
        line = take len u;
        after = drop len u;
        has = has;
        over = too_large is (take len u) (drop len u) read size (λ other. absurd (true≢false other));
      };
      memory = λ r is. absurd (reason r is);
    }
    not_checked seen false has empty e malformed too_large reason = record {
      malformed = λ is. stays_none (malformed is (take len u) read);
      too_large = λ is. record { line = take len u; after = drop len u; has = has; over = too_large is (take len u) (drop len u) read size (λ _. empty) };
      memory = λ r is. absurd (reason r is);
    }

    module _ (short : len ≤ limits.line) where
      item_within : (head : LineHead) → IsRedisLineHeadWithin limits.bulk room head → IsRedisLineHeadOf head (take len u) → (item : Item) × IsRedisLineWithin limits room item (take len u)
      item_within head small is = line_within limits room (take len u) (omega (arith, short, size)) head is small

      -- no end has come
      pub awaits_line : length u ≡ len → (next : Option LineHead) → IfSome next Gives → IfNone next (Lacks false) → AwaitsPendingItem limits room u
      awaits_line all next gives lacks = record { none = no_line limits u [] missing; begins = begins next gives lacks }
        where
          missing : ¬ Occurs redis_line_end u
          missing (k, here) = ⊎_elim
              (λ low. none [] k low (subst (λ l. OccursAt redis_line_end l k) (sym (append-nil u)) here))
              (λ high. omega (arith, high, all, ap length here, length-take 2 (drop k u), length-drop k u))
              (cases_lt k len)

          same : take len u ≡ u
          same = take_all len u (omega (arith, all))

          begins : (next : Option LineHead) → IfSome next Gives → IfNone next (Lacks false) → BeginsRedisItem limits room u
          begins None gives lacks =
              let later = completed_within limits room (take len u) (lacks.2 (take len u) read) (omega (arith, lacks.0, size)) in
              subst (BeginsRedisItem limits room) same (begun_item limits room later.1 (take len u) later.0 later.2)
          begins (Some head) gives lacks =
              let item = item_within head gives.0 (gives.1 (take len u) read) in
              subst (BeginsRedisItem limits room) same (begun_item limits room item.0 (take len u) [] (subst (IsRedisLineWithin limits room item.0) (sym (append-nil (take len u))) item.1))

      -- a carriage return has come
      pub awaits_feed : u ≡ take len u ++ carriage_return ∷ [] → (next : Option LineHead) → IfSome next Gives → IfNone next (Lacks true) → AwaitsPendingItem limits room u
      awaits_feed half next gives lacks = record { none = no_line limits u [] missing; begins = begins next gives lacks }
        where
          two : length u ≡ len + 1
          two = omega (arith, ap length half, length-append (take len u) (carriage_return ∷ []), size)

          missing : ¬ Occurs redis_line_end u
          missing (k, here) = ⊎_elim
              (λ low. none [] k low (subst (λ l. OccursAt redis_line_end l k) (sym (append-nil u)) here))
              (λ high. omega (arith, high, two, ap length here, length-take 2 (drop k u), length-drop k u))
              (cases_lt k len)

          begins : (next : Option LineHead) → IfSome next Gives → IfNone next (Lacks true) → BeginsRedisItem limits room u
          begins None gives lacks = absurd (lacks.1 refl)
          begins (Some head) gives lacks =
              let item = item_within head gives.0 (gives.1 (take len u) read) in subst (BeginsRedisItem limits room) (sym half) (ended_item limits room item.0 (take len u) item.1)

      -- the line and its end have come
      is_head : u ≡ take len u ++ (redis_line_end ++ drop (len + 2) u) → (head : LineHead) → Gives head → IsRedisLineHead limits room u head len
      is_head whole head gives = record {
        framed = subst (λ l. TakesFrame redis_line_end l (take len u) (drop (len + 2) u)) (sym whole) (framed_line (take len u) (drop (len + 2) u) (read_no_return line (take len u) read));
        is = gives.1 (take len u) read;
        short = short;
        within = gives.0;
        fits = omega (arith, ap length whole, length-append (take len u) (redis_line_end ++ drop (len + 2) u), length-append redis_line_end (drop (len + 2) u), size);
      }

      pub finds_head : (seen : ℕ) → u ≡ take len u ++ (redis_line_end ++ drop (len + 2) u) → (result : Result (Option LineHead) ReplyError) → IfOk result (λ next. IfSome next Gives) → IfOk result (λ next. IfNone next (Lacks true))
          → IfErr result (λ e. e ≡ Malformed → NeverHas true) → IfErr result (λ e. e ≡ TooLarge → Passes true) → IfErr result (λ e. (reason : Reason) → ¬ (e ≡ Refused reason))
          → FindsPendingHead limits room u seen result len
      finds_head seen whole (Ok (Some head)) gives lacks malformed too_large reason = is_head whole head gives
      finds_head seen whole (Ok None) gives lacks malformed too_large reason = absurd (lacks.1 refl)
      finds_head seen whole (Err e) gives lacks malformed too_large reason = not_checked seen true (first_line u len fits Here whole none) (10 ∷ drop (len + 2) u, end_after u len fits whole) e malformed too_large reason
