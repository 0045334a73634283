-- The laws of the decoder of lines with three ends.
use Rattle.std.proofs.Common.{◌≡◌, ◌⊎◌, ◌==◌, ℕ, suc, ◌+◌, ◌-◌, ◌<◌, ◌≤◌, max, Bool, true, false, List, [], ◌∷◌, ◌++◌, length, take, slice_index, None, Some, Err, inl, inr, ap, ◌∙◌, sym, refl, subst, arith, length-append, length-drop, zero-add, ⊎_elim, if◌then◌else◌}
use Rattle.std.proofs.lemmas.Bool.{cases_eq, cases_lt, ne_eqb}
use Rattle.std.proofs.lemmas.List.{get_or_append_left, drop-append-le, take-append-le, get_or-append-add}
use Rattle.bytes_utils_buf.proofs.Lists.{drop-append_past}
use Rattle.memchr.specs.Find.{Nowhere}
use Rattle.bytes_utils_codec.specs.Decoding.{Decoding, Next, Item, Last, fed, HasSameNext, IsStable, IsSingle, WaitsForItem, KeepsNext}
use Rattle.bytes_utils_codec.specs.Skipping.{AreSkippingFronts, SkippingLeads, skipping_ended, skipping_single, skipping_stable, skipping_waits, same_front, same_next, same_trans}
use Rattle.bytes_utils_codec.specs.LineReading.{LineItem, IsTextLineItem}
use Rattle.bytes_utils_codec.specs.LineReadingLaws.{IsTextLineItem-same, IsLastLineOf-same}
use Rattle.bytes_utils_codec.specs.UniversalReading.{AwaitsUniversalEnd, AwaitsUniversal, EndsLongUniversalBy, GivesUniversalFrom, HasUniversalLineOf, IsUniversalOverLimit, LacksUniversalEnd, ReachesUniversal, SkipsUniversal, UniversalReading, after_universal_end, after_universal_feed, all_universal_searched, dropped_universal, universal_feed_passed, gives_universal, keeps_universal, universal_place_after, ready_universal, without_universal_feed}
use Rattle.bytes_utils_codec.specs.UniversalLines.{FindsUniversalEnd, IsUniversalEndAt}
use Rattle.bytes_utils_codec.specs.declared.decode.lines.LineFault.TheVariants.{TooLong}
use Rattle.bytes_utils_codec.specs.declared.decode.universal_lines.Place.{Place}
use Rattle.bytes_utils_codec.specs.declared.decode.universal_lines.Place.TheVariants.{AfterReturn, Line, LongLine}

abbrev pub UniversalState : Type 0
UniversalState = Decoding UniversalReading

abbrev pub universal_state : ℕ → ℕ → ℕ → Bool → Place → List ℕ → UniversalState
universal_state limit threshold from lossy place held = record {
  decoder = record { max_length = limit; searched = from; place = place; lossy = lossy };
  held = held;
  threshold = threshold;
}

-- ---- the first end, of bytes after which others come

end_as : (x y : List ℕ) (j k : ℕ) → slice_index x j ≡ slice_index y k → IsUniversalEndAt x j → IsUniversalEndAt y k
end_as x y j k same here = subst (λ c. (c ≡ 10) ⊎ (c ≡ 13)) same here

module _ (held more : List ℕ) (k : ℕ) (inside : k < length held) where
  index-more : slice_index (held ++ more) k ≡ slice_index held k
  index-more = get_or_append_left held more 0 k inside

  IsUniversalEndAt-front : IsUniversalEndAt (held ++ more) k → IsUniversalEndAt held k
  IsUniversalEndAt-front here = end_as (held ++ more) held k k index-more here

FindsUniversalEnd-more : (held more : List ℕ) (from at : ℕ) → FindsUniversalEnd held from (Some at) → FindsUniversalEnd (held ++ more) from (Some at)
FindsUniversalEnd-more held more from at found = (
  record {
    low = found.0.low;
    high = omega (arith, found.0.high, length-append held more);
    before = λ k low below here. found.0.before k low below (IsUniversalEndAt-front held more k (omega (arith, below, found.0.high)) here);
  },
  end_as held (held ++ more) at at (sym (index-more held more at found.0.high)) found.1,
)

not_after : (held : List ℕ) (from a b : ℕ) → FindsUniversalEnd held from (Some a) → FindsUniversalEnd held from (Some b) → a ≤ b
not_after held from a b x y = ⊎_elim (λ below. absurd (x.0.before b y.0.low below y.1)) (λ le. le) (cases_lt b a)

FindsUniversalEnd-same : (held : List ℕ) (from a b : ℕ) → FindsUniversalEnd held from (Some a) → FindsUniversalEnd held from (Some b) → a ≡ b
FindsUniversalEnd-same held from a b x y = omega (arith, not_after held from a b x y, not_after held from b a y x)

FindsUniversalEnd-lacks : (held : List ℕ) (from at : ℕ) → FindsUniversalEnd held from (Some at) → FindsUniversalEnd held from None → ⊥
FindsUniversalEnd-lacks held from at found missed = missed at found.0.low found.0.high found.1

-- The rest is what comes after the first bytes, and the ends that are looked for in it are those that are looked for in all bytes.
record IsAfter (bytes rest : List ℕ) (gone from n : ℕ) : Type 0 where
  at : (k : ℕ) → slice_index bytes (gone + k) ≡ slice_index rest k
  size : length bytes ≡ gone + length rest
  back : from ≤ gone + n
  on : (k : ℕ) → from ≤ k → IsUniversalEndAt bytes k → gone + n ≤ k

module _ {bytes rest : List ℕ} {gone from n : ℕ} (after : IsAfter bytes rest gone from n) where
  end_on : (j k : ℕ) → j ≡ gone + k → IsUniversalEndAt bytes j → IsUniversalEndAt rest k
  end_on j k is here = end_as bytes rest j k (ap (slice_index bytes) is ∙ after.at k) here

  end_back : (j k : ℕ) → j ≡ gone + k → IsUniversalEndAt rest k → IsUniversalEndAt bytes j
  end_back j k is here = end_as rest bytes k j (sym (after.at k) ∙ ap (slice_index bytes) (sym is)) here

  none_on : (j k : ℕ) → j ≡ gone + k → Nowhere (IsUniversalEndAt bytes) from j → Nowhere (IsUniversalEndAt rest) n k
  none_on j k is none i low below here = none (gone + i) (omega (arith, after.back, low)) (omega (arith, is, below)) (end_back (gone + i) i refl here)

  none_back : (j k : ℕ) → j ≡ gone + k → Nowhere (IsUniversalEndAt rest) n k → Nowhere (IsUniversalEndAt bytes) from j
  none_back j k is none i low below here =
      let above = after.on i low here in
      none (i - gone) (omega (arith, above)) (omega (arith, is, above, below)) (end_on i (i - gone) (omega (arith, above)) here)

  finds_on : (j k : ℕ) → j ≡ gone + k → FindsUniversalEnd bytes from (Some j) → FindsUniversalEnd rest n (Some k)
  finds_on j k is found = (
    record {
      low = omega (arith, is, after.on j found.0.low found.1);
      high = omega (arith, is, after.size, found.0.high);
      before = none_on j k is found.0.before;
    },
    end_on j k is found.1,
  )

  finds_back : (j k : ℕ) → j ≡ gone + k → FindsUniversalEnd rest n (Some k) → FindsUniversalEnd bytes from (Some j)
  finds_back j k is found = (
    record {
      low = omega (arith, is, after.back, found.0.low);
      high = omega (arith, is, after.size, found.0.high);
      before = none_back j k is found.0.before;
    },
    end_back j k is found.1,
  )

-- ends that are looked for come after bytes among which there is none
past_held : (held more : List ℕ) (from : ℕ) → FindsUniversalEnd held from None → (k : ℕ) → from ≤ k → IsUniversalEndAt (held ++ more) k → length held ≤ k
past_held held more from lacks k low here =
    ⊎_elim (λ below. absurd (lacks k low below (IsUniversalEndAt-front held more k below here))) (λ above. above) (cases_lt k (length held))

-- ---- a line feed is passed

without_feed-append : (c : ℕ) (t more : List ℕ) → without_universal_feed (c ∷ t) ++ more ≡ without_universal_feed (c ∷ t ++ more)
without_feed-append c t more = elim (cases_eq c 10) [
  | inl e ↦ rw e refl
  | inr other ↦ rw (ne_eqb c 10 other) refl
]

without_feed-le : (c : ℕ) (t : List ℕ) → length (without_universal_feed (c ∷ t)) ≤ suc (length t)
without_feed-le c t = elim (cases_eq c 10) [
  | inl e ↦ rw e (omega arith)
  | inr other ↦ rw (ne_eqb c 10 other) (omega arith)
]

-- no line is skipped there
abbrev pub IsUniversalPassed : Place → Type 0
IsUniversalPassed LongLine = ⊥
IsUniversalPassed place = Unit {0}

-- what holds after a line feed is passed, by where the bytes began
feed_more : (place : Place) (held more : List ℕ) → 0 < length (universal_feed_passed place held).1
    → universal_feed_passed place (held ++ more) ≡ ((universal_feed_passed place held).0, (universal_feed_passed place held).1 ++ more)
feed_more AfterReturn [] more some = absurd (omega (arith, some))
feed_more AfterReturn (c ∷ t) more some = (λ i. (Line, sym (without_feed-append c t more) i))
feed_more place held more some = refl

feed_twice : (place : Place) (held more : List ℕ)
    → universal_feed_passed (universal_feed_passed place held).0 ((universal_feed_passed place held).1 ++ more) ≡ universal_feed_passed place (held ++ more)
feed_twice AfterReturn (c ∷ t) more = (λ i. (Line, without_feed-append c t more i))
feed_twice place held more = refl

feed_is_passed : (place : Place) (held : List ℕ) → IsUniversalPassed place → IsUniversalPassed (universal_feed_passed place held).0
feed_is_passed LongLine held passed = passed
feed_is_passed AfterReturn (c ∷ t) passed = tt
feed_is_passed place held passed = tt

feed_le : (place : Place) (held : List ℕ) → length (universal_feed_passed place held).1 ≤ length held
feed_le AfterReturn (c ∷ t) = without_feed-le c t
feed_le place held = omega arith

abbrev begun : UniversalState → Place × List ℕ → UniversalState
begun s p = record s { decoder = record s.decoder { place = p.0 }; held = p.1 }

after_universal_feed-more : (s : UniversalState) (more : List ℕ) → 0 < length (after_universal_feed s).held → after_universal_feed (fed s more) ≡ fed (after_universal_feed s) more
after_universal_feed-more s more some = ap (begun s) (feed_more s.decoder.place s.held more some)

after_universal_feed-twice : (s : UniversalState) (more : List ℕ) → after_universal_feed (fed (after_universal_feed s) more) ≡ after_universal_feed (fed s more)
after_universal_feed-twice s more = ap (begun s) (feed_twice s.decoder.place s.held more)

-- ---- an end is passed

after_universal_end-more : (s : UniversalState) (more : List ℕ) (len : ℕ) → len < length s.held → after_universal_end len (fed s more) ≡ fed (after_universal_end len s) more
after_universal_end-more s more len inside =
    let byte = index-more s.held more len inside in
    let rest = drop-append-le (suc len) s.held more (omega (arith, inside)) in
    (λ i. record s { decoder = record s.decoder { searched = 0; place = universal_place_after (byte i) }; held = rest i })

pub if_universal_passed : (b : Bool) → IsUniversalPassed (if b then AfterReturn else Line)
if_universal_passed true = tt
if_universal_passed false = tt

-- of a line that is skipped, if there is one
ends_more : (place : Place) (s ending : UniversalState) (more : List ℕ) → EndsLongUniversalBy place s ending → EndsLongUniversalBy place (fed s more) (fed ending more)
ends_more LongLine s ending more (len, ends, is) =
    (len, FindsUniversalEnd-more s.held more s.decoder.searched len ends, ap (λ t. fed t more) is ∙ sym (after_universal_end-more s more len ends.0.high))
ends_more place s ending more is = ap (λ t. fed t more) is

ends_one : (place : Place) (s x y : UniversalState) → EndsLongUniversalBy place s x → EndsLongUniversalBy place s y → x ≡ y
ends_one LongLine s x y a b = a.2 ∙ ap (λ n. after_universal_end n s) (FindsUniversalEnd-same s.held s.decoder.searched a.0 b.0 a.1 b.1) ∙ sym b.2
ends_one place s x y a b = a ∙ sym b

ends_passed : (place : Place) (s ending : UniversalState) → place ≡ s.decoder.place → EndsLongUniversalBy place s ending → IsUniversalPassed ending.decoder.place
ends_passed LongLine s ending at ends =
    subst (λ (t : UniversalState). IsUniversalPassed t.decoder.place) (sym ends.2) (if_universal_passed (slice_index s.held ends.0 == 13))
ends_passed place s ending at is = subst (λ (t : UniversalState). IsUniversalPassed t.decoder.place) (sym is) (subst IsUniversalPassed at tt)

ends_none : (place : Place) (s ending : UniversalState) → place ≡ LongLine → LacksUniversalEnd s → EndsLongUniversalBy place s ending → ⊥
ends_none LongLine s ending is lacks ends = FindsUniversalEnd-lacks s.held s.decoder.searched ends.0 ends.1 lacks
ends_none place s ending is lacks ends = absurd cc

ends_le : (place : Place) (s ending : UniversalState) → EndsLongUniversalBy place s ending → length ending.held ≤ length s.held
ends_le LongLine s ending ends = omega (arith, ap (λ (t : UniversalState). length t.held) ends.2, length-drop (suc ends.0) s.held)
ends_le place s ending is = omega (arith, ap (λ (t : UniversalState). length t.held) is)

ends_ready : (place : Place) (s ending : UniversalState) → EndsLongUniversalBy place s ending → skipping_ended ready_universal ending ≡ skipping_ended ready_universal s
ends_ready LongLine s ending ends = ap (skipping_ended ready_universal) ends.2
ends_ready place s ending is = ap (skipping_ended ready_universal) is

ends_already : (place : Place) (s : UniversalState) → IsUniversalPassed place → EndsLongUniversalBy place s s
ends_already LongLine s passed = absurd passed
ends_already place s passed = refl

-- ---- the front of the next line

-- if no line is skipped it is there
pub ReachesUniversal-feed : (s : UniversalState) → IsUniversalPassed s.decoder.place → ReachesUniversal s (after_universal_feed s)
ReachesUniversal-feed s passed = record { ending = s; ends = ends_already s.decoder.place s passed; is = refl }

pub ReachesUniversal-one : (s x y : UniversalState) → ReachesUniversal s x → ReachesUniversal s y → x ≡ y
ReachesUniversal-one s x y a b = a.is ∙ ap after_universal_feed (ends_one s.decoder.place s a.ending b.ending a.ends b.ends) ∙ sym b.is

ReachesUniversal-more : (s mid : UniversalState) (more : List ℕ) → ReachesUniversal s mid → 0 < length mid.held → ReachesUniversal (fed s more) (fed mid more)
ReachesUniversal-more s mid more reaches some = record {
  ending = fed reaches.ending more;
  ends = ends_more s.decoder.place s reaches.ending more reaches.ends;
  is = ap (λ t. fed t more) reaches.is ∙ sym (after_universal_feed-more reaches.ending more (subst (λ (t : UniversalState). 0 < length t.held) reaches.is some));
}

pub ReachesUniversal-passed : (s mid : UniversalState) → ReachesUniversal s mid → IsUniversalPassed mid.decoder.place
ReachesUniversal-passed s mid reaches =
    subst (λ (t : UniversalState). IsUniversalPassed t.decoder.place) (sym reaches.is)
    (feed_is_passed reaches.ending.decoder.place reaches.ending.held (ends_passed s.decoder.place s reaches.ending refl reaches.ends))

pub ReachesUniversal-none : (s mid : UniversalState) → SkipsUniversal s → ¬ ReachesUniversal s mid
ReachesUniversal-none s mid skips reaches = ends_none s.decoder.place s reaches.ending skips.0 skips.1 reaches.ends

pub ReachesUniversal-ready : (s mid : UniversalState) → ReachesUniversal s mid → skipping_ended ready_universal s ≡ skipping_ended ready_universal mid
ReachesUniversal-ready s mid reaches = sym (ap (skipping_ended ready_universal) reaches.is ∙ ends_ready s.decoder.place s reaches.ending reaches.ends)

ReachesUniversal-le : (s mid : UniversalState) → ReachesUniversal s mid → length mid.held ≤ length s.held
ReachesUniversal-le s mid reaches =
    let after = feed_le reaches.ending.decoder.place reaches.ending.held in
    let before = ends_le s.decoder.place s reaches.ending reaches.ends in
    omega (arith, ap (λ (t : UniversalState). length t.held) reaches.is, after, before)

-- ---- what comes next at the front of a line

item_some : (s : UniversalState) (item : LineItem) (new : UniversalState) → GivesUniversalFrom s (Item item) new → 0 < length s.held
item_some s item new (inl g) = omega (arith, g.1.ends.0.high)
item_some s item new (inr g) = omega (arith, g.1.many)

item_more : (s new : UniversalState) (item : LineItem) (more : List ℕ) → GivesUniversalFrom s (Item item) new → GivesUniversalFrom (fed s more) (Item item) (fed new more)
item_more s new item more (inl (len, has, text, is)) =
    let inside : len < length s.held = has.ends.0.high in
    inl (
      len,
      record { ends = FindsUniversalEnd-more s.held more s.decoder.searched len has.ends; fits = has.fits },
      subst (IsTextLineItem s.decoder.lossy item) (sym (take-append-le len s.held more (omega (arith, inside)))) text,
      ap (λ t. fed t more) is ∙ sym (after_universal_end-more s more len inside),
    )
item_more s new item more (inr (long, over, is)) =
    let still : IsUniversalOverLimit (fed s more) = record {
      many = omega (arith, over.many, length-append s.held more);
      none = λ k low below here. over.none k low below (IsUniversalEndAt-front s.held more k (omega (arith, below, over.many)) here);
    } in
    inr (long, still, ap (λ t. fed t more) is)

-- a line within the limit is not over it
line_not_over : (s : UniversalState) (len : ℕ) → HasUniversalLineOf s len → IsUniversalOverLimit s → ⊥
line_not_over s len has over = over.none len has.ends.0.low (omega (arith, has.fits)) has.ends.1

from_lacks : WaitsForItem GivesUniversalFrom AwaitsUniversalEnd
from_lacks s awaits item new (inl g) = FindsUniversalEnd-lacks s.held s.decoder.searched g.0 g.1.ends awaits.lacks
from_lacks s awaits item new (inr g) = omega (arith, g.1.many, awaits.few)

from_single : IsSingle GivesUniversalFrom
from_single s (Item m) (Item n) x y (inl a) (inl b) =
    let same = FindsUniversalEnd-same s.held s.decoder.searched a.0 b.0 a.1.ends b.1.ends in (
      ap Item (IsTextLineItem-same s.decoder.lossy m n (take b.0 s.held) (subst (λ k. IsTextLineItem s.decoder.lossy m (take k s.held)) same a.2) b.2),
      a.3 ∙ ap (λ k. after_universal_end k s) same ∙ sym b.3,
    )
from_single s (Item m) (Item n) x y (inl a) (inr b) = absurd (line_not_over s a.0 a.1 b.1)
from_single s (Item m) (Item n) x y (inr a) (inl b) = absurd (line_not_over s b.0 b.1 a.1)
from_single s (Item m) (Item n) x y (inr a) (inr b) = (ap Item (a.0 ∙ sym b.0), a.2 ∙ sym b.2)
from_single s (Item m) (Last n) x y a b = absurd (from_lacks s b.0 m x a)
from_single s (Last m) (Item n) x y a b = absurd (from_lacks s a.0 n y b)
from_single s (Last m) (Last n) x y a b = (ap Last (IsLastLineOf-same s.decoder.lossy m n s.held a.1 b.1), a.2 ∙ sym b.2)

fronts : AreSkippingFronts ReachesUniversal SkipsUniversal ready_universal GivesUniversalFrom AwaitsUniversalEnd
fronts = record {
  one = ReachesUniversal-one;
  none = ReachesUniversal-none;
  more = λ s mid new item bytes reaches gives. (ReachesUniversal-more s mid bytes reaches (item_some mid item new gives), item_more mid new item bytes gives);
  single = from_single;
  lacks = from_lacks;
}

pub universal_stable : IsStable gives_universal
universal_stable = skipping_stable fronts

pub universal_single : IsSingle gives_universal
universal_single = skipping_single fronts

pub universal_waits : WaitsForItem gives_universal AwaitsUniversal
universal_waits = skipping_waits fronts

-- ---- what comes after a call that gave no item

-- the front of the next line was reached
same_reached : (s mid : UniversalState) → ReachesUniversal s mid → HasSameNext gives_universal s mid
same_reached s mid reaches =
    let ending = reaches.ending in
    same_front fronts s mid (ReachesUniversal-ready s mid reaches) (λ more.
    let there : after_universal_feed (fed mid more) ≡ after_universal_feed (fed ending more) =
    ap (λ t. after_universal_feed (fed t more)) reaches.is ∙ after_universal_feed-twice ending more in (
      after_universal_feed (fed mid more),
      record { ending = fed ending more; ends = ends_more s.decoder.place s ending more reaches.ends; is = there },
      ReachesUniversal-feed (fed mid more) (ReachesUniversal-passed s mid reaches),
    ))

-- the bytes of a line that is skipped are dropped, and no end that is looked for is among them
module _ (limit threshold from : ℕ) (lossy : Bool) (held : List ℕ) (lacks : FindsUniversalEnd held from None) (more : List ℕ) where
  abbrev whole : UniversalState
  whole = universal_state limit threshold from lossy LongLine (held ++ more)

  abbrev short : UniversalState
  short = universal_state limit threshold (from - length held) lossy LongLine more

  after_held : IsAfter (held ++ more) more (length held) from (from - length held)
  after_held = record {
    at = λ k. get_or-append-add held more k 0;
    size = length-append held more;
    back = omega arith;
    on = λ k low here. omega (arith, low, past_held held more from lacks k low here);
  }

  after_rest : (j k : ℕ) → j ≡ length held + k → after_universal_end j whole ≡ after_universal_end k short
  after_rest j k is =
      let byte = ap (slice_index (held ++ more)) is ∙ after_held.at k in
      let rest = drop-append_past held more (suc k) (suc j) (omega (arith, is)) in
      (λ i. universal_state limit threshold 0 lossy (universal_place_after (byte i)) (rest i))

  ends_short : (ending : UniversalState) → EndsLongUniversalBy LongLine whole ending → EndsLongUniversalBy LongLine short ending
  ends_short ending (n, found, is) =
      let k = n - length held in
      let at : n ≡ length held + k = omega (arith, after_held.on n found.0.low found.1) in
      (k, finds_on after_held n k at found, is ∙ after_rest n k at)

  ends_whole : (ending : UniversalState) → EndsLongUniversalBy LongLine short ending → EndsLongUniversalBy LongLine whole ending
  ends_whole ending (k, found, is) =
      (length held + k, finds_back after_held (length held + k) k refl found, is ∙ sym (after_rest (length held + k) k refl))

  leads_dropped : SkippingLeads ReachesUniversal SkipsUniversal ready_universal GivesUniversalFrom whole short × SkippingLeads ReachesUniversal SkipsUniversal ready_universal GivesUniversalFrom short whole
  leads_dropped = (
    record {
      passes = λ mid to. (mid, record { ending = to.ending; ends = ends_short to.ending to.ends; is = to.is }, λ next after given. given);
      skips = λ skips. (refl, none_on after_held (length (held ++ more)) (length more) after_held.size skips.1);
      ends = refl;
    },
    record {
      passes = λ mid to. (mid, record { ending = to.ending; ends = ends_whole to.ending to.ends; is = to.is }, λ next after given. given);
      skips = λ skips. (refl, none_back after_held (length (held ++ more)) (length more) after_held.size skips.1);
      ends = refl;
    },
  )

same_dropped : (limit threshold from : ℕ) (lossy : Bool) (place : Place) (held : List ℕ) → place ≡ LongLine → FindsUniversalEnd held from None
    → HasSameNext gives_universal (universal_state limit threshold from lossy place held) (dropped_universal (universal_state limit threshold from lossy place held))
same_dropped limit threshold from lossy LongLine held is lacks =
    same_next fronts (universal_state limit threshold from lossy LongLine held) (dropped_universal (universal_state limit threshold from lossy LongLine held))
    (leads_dropped limit threshold from lossy held lacks)
same_dropped limit threshold from lossy place held is lacks = absurd cc

-- two places from which the same ends are found
module _ (limit threshold : ℕ) (lossy : Bool) (bytes : List ℕ) (from n : ℕ) (finds : (j : ℕ) → FindsUniversalEnd bytes from (Some j) → FindsUniversalEnd bytes n (Some j))
    (none : (j : ℕ) → Nowhere (IsUniversalEndAt bytes) from j → Nowhere (IsUniversalEndAt bytes) n j) where
  from_searched : (next : Next LineItem) (after : UniversalState) → GivesUniversalFrom (universal_state limit threshold from lossy Line bytes) next after
      → GivesUniversalFrom (universal_state limit threshold n lossy Line bytes) next after
  from_searched (Item item) after (inl (len, has, text, is)) = inl (len, record { ends = finds len has.ends; fits = has.fits }, text, is)
  from_searched (Item item) after (inr (long, over, is)) = inr (long, record { many = over.many; none = none (suc limit) over.none }, is)
  from_searched (Last last) after (awaits, is, end) = (record { lacks = none (length bytes) awaits.lacks; few = awaits.few }, is, end)

  leads_searched : SkippingLeads ReachesUniversal SkipsUniversal ready_universal GivesUniversalFrom (universal_state limit threshold from lossy Line bytes) (universal_state limit threshold n lossy Line bytes)
  leads_searched = record {
    passes = λ mid to.
        let there = universal_state limit threshold n lossy Line bytes in
        let is = to.is ∙ ap after_universal_feed to.ends in
        (there, ReachesUniversal-feed there tt, λ next after given. from_searched next after (subst (λ t. GivesUniversalFrom t next after) is given));
    skips = λ skips. absurd (line_not_long skips.0);
    ends = refl;
  }
    where
      line_not_long : Line ≡ LongLine → ⊥
      line_not_long is = absurd cc

same_line : (limit threshold from : ℕ) (lossy : Bool) (held : List ℕ) → FindsUniversalEnd held from None
    → HasSameNext gives_universal (universal_state limit threshold from lossy Line held) (all_universal_searched (universal_state limit threshold from lossy Line held))
same_line limit threshold from lossy held lacks =
    let n = max from (length held) in
    same_next fronts (universal_state limit threshold from lossy Line held) (universal_state limit threshold n lossy Line held) (λ more.
    let bytes = held ++ more in
    let after : IsAfter bytes bytes 0 from n = record {
      at = λ k. ap (slice_index bytes) (zero-add k);
      size = omega arith;
      back = omega arith;
      on = λ k low here. omega (arith, low, past_held held more from lacks k low here);
    } in (
      leads_searched limit threshold lossy bytes from n (λ j. finds_on after j j (omega arith)) (λ j. none_on after j j (omega arith)),
      leads_searched limit threshold lossy bytes n from (λ j. finds_back after j j (omega arith)) (λ j. none_back after j j (omega arith)),
    ))

same_searched : (limit threshold from : ℕ) (lossy : Bool) (place : Place) (held : List ℕ) → IsUniversalPassed place
    → LacksUniversalEnd (after_universal_feed (universal_state limit threshold from lossy place held))
    → HasSameNext gives_universal (after_universal_feed (universal_state limit threshold from lossy place held)) (all_universal_searched (after_universal_feed (universal_state limit threshold from lossy place held)))
same_searched limit threshold from lossy LongLine held passed lacks = absurd passed
same_searched limit threshold from lossy Line held passed lacks = same_line limit threshold from lossy held lacks
same_searched limit threshold from lossy AfterReturn (c ∷ t) passed lacks = same_line limit threshold from lossy (without_universal_feed (c ∷ t)) lacks
same_searched limit threshold from lossy AfterReturn [] passed lacks =
    let same : from ≡ max from 0 = omega arith in
    subst (λ n. HasSameNext gives_universal (universal_state limit threshold from lossy AfterReturn []) (universal_state limit threshold n lossy AfterReturn [])) same
    (λ more next after. ((λ g. g), (λ g. g)))

pub universal_same : KeepsNext gives_universal keeps_universal
universal_same old new (inl (inl (skips, is))) =
    subst (HasSameNext gives_universal old) (sym is)
    (same_dropped old.decoder.max_length old.threshold old.decoder.searched old.decoder.lossy old.decoder.place old.held skips.0 skips.1)
universal_same old new (inl (inr (mid, reaches, awaits, is))) =
    let d = reaches.ending.decoder in
    let passed = ends_passed old.decoder.place old reaches.ending refl reaches.ends in
    let searched = same_searched d.max_length reaches.ending.threshold d.searched d.lossy d.place reaches.ending.held passed (subst LacksUniversalEnd reaches.is awaits.lacks) in
    subst (HasSameNext gives_universal old) (sym is)
    (same_trans fronts old mid (all_universal_searched mid) (same_reached old mid reaches)
    (subst (λ t. HasSameNext gives_universal t (all_universal_searched t)) (sym reaches.is) searched))
universal_same old new (inr reaches) = same_reached old new reaches

-- ---- how many bytes are held

-- a line that is taken leaves fewer bytes than before
pub universal_shortens : (s : UniversalState) (item : LineItem) (new : UniversalState) → gives_universal s (Item item) new → (item ≡ Err TooLong → ⊥)
    → length new.held < length s.held
universal_shortens s item new (inl g) taken = absurd cc
universal_shortens s item new (inr (mid, reaches, inl (len, has, text, is))) taken =
    omega (arith, ReachesUniversal-le s mid reaches, ap (λ (t : UniversalState). length t.held) is, length-drop (suc len) mid.held, has.ends.0.high)
universal_shortens s item new (inr (mid, reaches, inr g)) taken = absurd (taken g.0)
