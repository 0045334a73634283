-- The laws of the decoder of frames that a separator ends.
use Rattle.std.proofs.Common.{◌≡◌, ℕ, ◌+◌, ◌-◌, ◌<◌, ◌≤◌, max, Bool, true, false, List, [], ◌∷◌, ◌++◌, length, take, drop, None, Some, Result, Ok, Err, inl, inr, ap, ◌∙◌, sym, refl, subst, arith, append_assoc, length-append, length-drop, ⊎_elim}
use Rattle.std.proofs.lemmas.Bool.{cases_lt, false≢true}
use Rattle.std.proofs.lemmas.List.{take-append-le, drop-append-le, take_at, drop_at}
use Rattle.bytes_utils_buf.proofs.Lists.{drop-append_past}
use Rattle.bytes_utils.specs.Occurrence.{OccursAt}
use Rattle.bytes_utils_codec.specs.Decoding.{Decoding, Next, Item, Last, fed, HasSameNext, IsStable, IsSingle, WaitsForItem, KeepsNext}
use Rattle.bytes_utils_codec.specs.Skipping.{AreSkippingFronts, SkippingLeads, skipping_ended, skipping_single, skipping_stable, skipping_waits, same_front, same_next, same_trans}
use Rattle.bytes_utils_codec.specs.Delimited.{Delimiting, GivesDelimitedFrame, ready_delimited, TakesDelimitedFrameFrom, TakesDelimitedFrame, LacksDelimitedSeparator, PassesSkippedDelimited, PassesDelimited, AwaitsDelimitedSeparator, IsDelimitedOverLimit, SkipsDelimited, AwaitsDelimitedFrame, gives_delimited, DropsDelimited, all_delimited_searched, keeps_delimited}
use Rattle.bytes_utils_codec.specs.declared.decode.too_long.FrameTooLong.{FrameTooLong}

-- ---- a frame is taken

-- what occurs in the whole and ends within a beginning occurs in the beginning
pub occurs_in_delimited_front : (p xs ys : List ℕ) (k : ℕ) → OccursAt p (xs ++ ys) k → k + length p ≤ length xs → OccursAt p xs k
occurs_in_delimited_front p xs ys k here fits = grind (arith, drop-append-le, length-drop, take-append-le)

module _ (p : List ℕ) (from : ℕ) (old frame rest : List ℕ) (takes : TakesDelimitedFrameFrom p from old frame rest) where
  pub ends_within : length frame + length p ≤ length old
  ends_within = omega (arith, ap length takes.bytes, length-append frame (p ++ rest), length-append p rest)

  after_frame : drop (length frame) old ≡ p ++ rest
  after_frame = ap (drop (length frame)) takes.bytes ∙ drop_at frame (p ++ rest) (length frame) refl

  pub occurs_after : OccursAt p old (length frame)
  occurs_after = ap (take (length p)) after_frame ∙ take_at p rest (length p) refl

  frame_is : take (length frame) old ≡ frame
  frame_is = ap (take (length frame)) takes.bytes ∙ take_at frame (p ++ rest) (length frame) refl

  rest_is : drop (length p) (drop (length frame) old) ≡ rest
  rest_is = ap (drop (length p)) after_frame ∙ drop_at p rest (length p) refl

  pub TakesDelimitedFrameFrom-more : (more : List ℕ) → TakesDelimitedFrameFrom p from (old ++ more) frame (rest ++ more)
  TakesDelimitedFrameFrom-more more = record {
    bytes = ap (λ l. l ++ more) takes.bytes ∙ append_assoc frame (p ++ rest) more ∙ ap (λ l. frame ++ l) (append_assoc p rest more);
    low = takes.low;
    first = λ k on here.
        ⊎_elim (λ below. takes.first k on (occurs_in_delimited_front p old more k here (omega (arith, below, ends_within)))) (λ from_on. from_on)
        (cases_lt k (length frame));
  }

pub TakesDelimitedFrameFrom-same : (p : List ℕ) (from : ℕ) (old f g x y : List ℕ) → TakesDelimitedFrameFrom p from old f x → TakesDelimitedFrameFrom p from old g y → (f ≡ g) × (x ≡ y)
TakesDelimitedFrameFrom-same p from old f g x y s t =
    let size : length f ≡ length g =
    omega (arith, s.first (length g) t.low (occurs_after p from old g y t), t.first (length f) s.low (occurs_after p from old f x s)) in (
      sym (frame_is p from old f x s) ∙ ap (λ n. take n old) size ∙ frame_is p from old g y t,
      sym (rest_is p from old f x s) ∙ ap (λ n. drop (length p) (drop n old)) size ∙ rest_is p from old g y t,
    )

-- ---- the frame that is skipped is passed

passed_same : (b : Bool) (s x y : Decoding Delimiting) → PassesSkippedDelimited b s x → PassesSkippedDelimited b s y → x ≡ y
passed_same false s x y a b = a ∙ sym b
passed_same true s x y a b =
    let same = TakesDelimitedFrameFrom-same s.decoder.separator s.decoder.searched s.held a.0 b.0 x.held y.held a.1 b.1 in
    a.2 ∙ ap (λ l. record s { decoder = ready_delimited s.decoder; held = l }) same.1 ∙ sym b.2

pub PassesDelimited-same : (s x y : Decoding Delimiting) → PassesDelimited s x → PassesDelimited s y → x ≡ y
PassesDelimited-same s x y a b = passed_same s.decoder.skipping s x y a b

passed_more : (b : Bool) (s mid : Decoding Delimiting) (more : List ℕ) → PassesSkippedDelimited b s mid → PassesSkippedDelimited b (fed s more) (fed mid more)
passed_more false s mid more passes = ap (λ t. fed t more) passes
passed_more true s mid more passes =
    (passes.0, TakesDelimitedFrameFrom-more s.decoder.separator s.decoder.searched s.held passes.0 mid.held passes.1 more, ap (λ t. fed t more) passes.2)

pub PassesDelimited-more : (s mid : Decoding Delimiting) (more : List ℕ) → PassesDelimited s mid → PassesDelimited (fed s more) (fed mid more)
PassesDelimited-more s mid more passes = passed_more s.decoder.skipping s mid more passes

passed_ready : (b : Bool) (s mid : Decoding Delimiting) → PassesSkippedDelimited b s mid → skipping_ended ready_delimited mid ≡ skipping_ended ready_delimited s
passed_ready false s mid passes = ap (skipping_ended ready_delimited) passes
passed_ready true s mid passes = ap (skipping_ended ready_delimited) passes.2

pub PassesDelimited-ready : (s mid : Decoding Delimiting) → PassesDelimited s mid → skipping_ended ready_delimited mid ≡ skipping_ended ready_delimited s
PassesDelimited-ready s mid passes = passed_ready s.decoder.skipping s mid passes

passed_front : (b : Bool) (s mid : Decoding Delimiting) → s.decoder.skipping ≡ b → PassesSkippedDelimited b s mid → mid.decoder.skipping ≡ false
passed_front false s mid is passes = ap (λ (t : Decoding Delimiting). t.decoder.skipping) passes ∙ is
passed_front true s mid is passes = ap (λ (t : Decoding Delimiting). t.decoder.skipping) passes.2

passed_not : (b : Bool) (s mid : Decoding Delimiting) → b ≡ true → LacksDelimitedSeparator s → PassesSkippedDelimited b s mid → ⊥
passed_not false s mid is lacks passes = false≢true is
passed_not true s mid is lacks passes =
    lacks (length passes.0) passes.1.low (occurs_after s.decoder.separator s.decoder.searched s.held passes.0 mid.held passes.1)

-- a call that gives no item keeps the threshold
passed_threshold : (b : Bool) (s mid : Decoding Delimiting) → PassesSkippedDelimited b s mid → mid.threshold ≡ s.threshold
passed_threshold false s mid passes = ap (λ (t : Decoding Delimiting). t.threshold) passes
passed_threshold true s mid passes = ap (λ (t : Decoding Delimiting). t.threshold) passes.2

pub delimited_keeps_threshold : (old new : Decoding Delimiting) → keeps_delimited old new → new.threshold ≡ old.threshold
delimited_keeps_threshold old new (inl (inl drops)) = ap (λ (t : Decoding Delimiting). t.threshold) drops.is
delimited_keeps_threshold old new (inl (inr waits)) = ap (λ (t : Decoding Delimiting). t.threshold) waits.1
delimited_keeps_threshold old new (inr (mid, passes, inl is)) =
    ap (λ (t : Decoding Delimiting). t.threshold) is ∙ passed_threshold old.decoder.skipping old mid passes
delimited_keeps_threshold old new (inr (mid, passes, inr (awaits, is))) =
    ap (λ (t : Decoding Delimiting). t.threshold) is ∙ passed_threshold old.decoder.skipping old mid passes

pub SkipsDelimited-passes : (s mid : Decoding Delimiting) → SkipsDelimited s → ¬ PassesDelimited s mid
SkipsDelimited-passes s mid skips passes = passed_not s.decoder.skipping s mid skips.0 skips.1 passes

-- ---- bytes that follow

pub IsDelimitedOverLimit-more : (s : Decoding Delimiting) (more : List ℕ) → IsDelimitedOverLimit s → IsDelimitedOverLimit (fed s more)
IsDelimitedOverLimit-more s more over = record {
  many = omega (arith, over.many, length-append s.held more);
  none = λ k on here.
      ⊎_elim (λ above. above) (λ within. over.none k on (occurs_in_delimited_front s.decoder.separator s.held more k here (omega (arith, over.many, within))))
      (cases_lt s.decoder.max_length k);
}

frame_more : (s new : Decoding Delimiting) (item : Result (List ℕ) FrameTooLong) (more : List ℕ) → GivesDelimitedFrame s (Item item) new
    → GivesDelimitedFrame (fed s more) (Item item) (fed new more)
frame_more s new (Ok frame) more g =
    (TakesDelimitedFrameFrom-more s.decoder.separator s.decoder.searched s.held frame new.held g.0 more, g.1, ap (λ t. fed t more) g.2)
frame_more s new (Err e) more g = (IsDelimitedOverLimit-more s more g.0, ap (λ t. fed t more) g.1)

-- ---- at most one thing comes next

frame_lacks : WaitsForItem GivesDelimitedFrame AwaitsDelimitedSeparator
frame_lacks s awaits (Ok frame) new g =
    awaits.lacks (length frame) g.0.low (occurs_after s.decoder.separator s.decoder.searched s.held frame new.held g.0)
frame_lacks s awaits (Err e) new g = omega (arith, awaits.few, g.0.many)

over_not_taken : (s : Decoding Delimiting) (frame rest : List ℕ) → TakesDelimitedFrame s frame rest → length frame ≤ s.decoder.max_length → ¬ IsDelimitedOverLimit s
over_not_taken s frame rest takes fits over =
    omega (arith, fits, over.none (length frame) takes.low (occurs_after s.decoder.separator s.decoder.searched s.held frame rest takes))

frame_single : IsSingle GivesDelimitedFrame
frame_single s (Item (Ok f)) (Item (Ok g)) x y a b =
    let same = TakesDelimitedFrameFrom-same s.decoder.separator s.decoder.searched s.held f g x.held y.held a.0 b.0 in
    ((λ i. Item (Ok (same.0 i))), a.2 ∙ ap (λ l. record s { decoder = ready_delimited s.decoder; held = l }) same.1 ∙ sym b.2)
frame_single s (Item (Ok f)) (Item (Err e)) x y a b = absurd (over_not_taken s f x.held a.0 a.1 b.0)
frame_single s (Item (Err e)) (Item (Ok g)) x y a b = absurd (over_not_taken s g y.held b.0 b.1 a.0)
frame_single s (Item (Err e)) (Item (Err d)) x y a b = (refl, a.1 ∙ sym b.1)
frame_single s (Item item) (Last None) x y a b = absurd (frame_lacks s b.0 item x a)
frame_single s (Last None) (Item item) x y a b = absurd (frame_lacks s a.0 item y b)
frame_single s (Last None) (Last None) x y a b = (refl, a.1 ∙ sym b.1)
frame_single s (Last (Some f)) next x y a b = absurd a
frame_single s next (Last (Some g)) x y a b = absurd b

fronts : AreSkippingFronts PassesDelimited SkipsDelimited ready_delimited GivesDelimitedFrame AwaitsDelimitedSeparator
fronts = record {
  one = PassesDelimited-same;
  none = SkipsDelimited-passes;
  more = λ s mid new item bytes passes given. (PassesDelimited-more s mid bytes passes, frame_more mid new item bytes given);
  single = frame_single;
  lacks = frame_lacks;
}

pub delimited_stable : IsStable gives_delimited
delimited_stable = skipping_stable fronts

pub delimited_waits : WaitsForItem gives_delimited AwaitsDelimitedFrame
delimited_waits = skipping_waits fronts

pub delimited_single : IsSingle gives_delimited
delimited_single = skipping_single fronts

-- ---- after a call that gave no item

abbrev state : List ℕ → ℕ → ℕ → ℕ → Bool → List ℕ → Decoding Delimiting
state p limit threshold from b held = record {
  decoder = record { separator = p; max_length = limit; searched = from; skipping = b };
  held = held;
  threshold = threshold;
}

-- two places from which the same separators are found
module _ (p bytes : List ℕ) (from n : ℕ) (on : (k : ℕ) → OccursAt p bytes k → from ≤ k → n ≤ k) (back : (k : ℕ) → OccursAt p bytes k → n ≤ k → from ≤ k) where
  takes_searched : (frame rest : List ℕ) → TakesDelimitedFrameFrom p from bytes frame rest → TakesDelimitedFrameFrom p n bytes frame rest
  takes_searched frame rest takes = record {
    bytes = takes.bytes;
    low = on (length frame) (occurs_after p from bytes frame rest takes) takes.low;
    first = λ k low here. takes.first k (back k here low) here;
  }

  frame_searched : (limit threshold : ℕ) (next : Next (Result (List ℕ) FrameTooLong)) (after : Decoding Delimiting)
      → GivesDelimitedFrame (state p limit threshold from false bytes) next after → GivesDelimitedFrame (state p limit threshold n false bytes) next after
  frame_searched limit threshold (Item (Ok frame)) after g = (takes_searched frame after.held g.0, g.1, g.2)
  frame_searched limit threshold (Item (Err e)) after g = (record { many = g.0.many; none = λ k low here. g.0.none k (back k here low) here }, g.1)
  frame_searched limit threshold (Last None) after g = (record { lacks = λ k low here. g.0.lacks k (back k here low) here; few = g.0.few }, g.1)
  frame_searched limit threshold (Last (Some item)) after g = g

  leads_searched : (limit threshold : ℕ) → SkippingLeads PassesDelimited SkipsDelimited ready_delimited GivesDelimitedFrame (state p limit threshold from false bytes) (state p limit threshold n false bytes)
  leads_searched limit threshold = record {
    passes = λ mid is.
        (state p limit threshold n false bytes, refl, λ next after given. frame_searched limit threshold next after (subst (λ t. GivesDelimitedFrame t next after) is given));
    skips = λ skips. absurd (false≢true skips.0);
    ends = refl;
  }

-- a separator that is not there isn't empty
some_from_lacking : (p held : List ℕ) (from : ℕ) → ((k : ℕ) → from ≤ k → ¬ OccursAt p held k) → 0 < length p
some_from_lacking [] held from lacks = absurd (lacks from (omega arith) refl)
some_from_lacking (b ∷ p) held from lacks = omega arith

-- all held bytes are searched, and no separator is there
same_searched : (p : List ℕ) (limit threshold from : ℕ) (held : List ℕ) → ((k : ℕ) → from ≤ k → ¬ OccursAt p held k)
    → HasSameNext gives_delimited (state p limit threshold from false held) (all_delimited_searched (state p limit threshold from false held))
same_searched p limit threshold from held lacks =
    let some = some_from_lacking p held from lacks in
    let n = max from (length held - (length p - 1)) in
    same_next fronts (state p limit threshold from false held) (state p limit threshold n false held) (λ more.
    let bytes = held ++ more in
    let further : (k : ℕ) → OccursAt p bytes k → from ≤ k → n ≤ k =
    λ k here low. ⊎_elim (λ below. absurd (lacks k low (occurs_in_delimited_front p held more k here (omega (arith, below, low, some))))) (λ above. above)
    (cases_lt k n) in
    let back : (k : ℕ) → OccursAt p bytes k → n ≤ k → from ≤ k = λ k here low. omega arith in
    (leads_searched p bytes from n further back limit threshold, leads_searched p bytes n from back further limit threshold))

-- the first bytes of the frame that is skipped are gone
module _ (p gone bytes : List ℕ) (from : ℕ) (low : from ≤ length gone) (none : (k : ℕ) → from ≤ k → OccursAt p (gone ++ bytes) k → length gone ≤ k) where
  occurs_following : (k : ℕ) → OccursAt p bytes k → OccursAt p (gone ++ bytes) (length gone + k)
  occurs_following k here = ap (take (length p)) (drop-append_past gone bytes k (length gone + k) refl) ∙ here

  occurs_from_after : (k : ℕ) → length gone ≤ k → OccursAt p (gone ++ bytes) k → OccursAt p bytes (k - length gone)
  occurs_from_after k above here = ap (take (length p)) (sym (drop-append_past gone bytes (k - length gone) k (omega arith))) ∙ here

  takes_dropped : (frame rest : List ℕ) → TakesDelimitedFrameFrom p from (gone ++ bytes) frame rest → TakesDelimitedFrameFrom p 0 bytes (drop (length gone) frame) rest
  takes_dropped frame rest takes =
      let long : length gone ≤ length frame = none (length frame) takes.low (occurs_after p from (gone ++ bytes) frame rest takes) in
      let size : length (drop (length gone) frame) ≡ length frame - length gone = length-drop (length gone) frame in
      record {
        bytes = sym (drop_at gone bytes (length gone) refl) ∙ ap (drop (length gone)) takes.bytes ∙ drop-append-le (length gone) frame (p ++ rest) long;
        low = omega arith;
        first = λ k on here. omega (arith, size, takes.first (length gone + k) (omega (arith, low)) (occurs_following k here));
      }

  takes_whole : (frame rest : List ℕ) → TakesDelimitedFrameFrom p 0 bytes frame rest → TakesDelimitedFrameFrom p from (gone ++ bytes) (gone ++ frame) rest
  takes_whole frame rest takes =
      let size : length (gone ++ frame) ≡ length gone + length frame = length-append gone frame in
      record {
        bytes = ap (λ l. gone ++ l) takes.bytes ∙ sym (append_assoc gone frame (p ++ rest));
        low = omega (arith, size, low);
        first = λ k on here.
            let above = none k on here in
            omega (arith, size, above, takes.first (k - length gone) (omega arith) (occurs_from_after k above here));
      }

  leads_dropped : (limit threshold : ℕ) → SkippingLeads PassesDelimited SkipsDelimited ready_delimited GivesDelimitedFrame (state p limit threshold from true (gone ++ bytes)) (state p limit threshold 0 true bytes)
      × SkippingLeads PassesDelimited SkipsDelimited ready_delimited GivesDelimitedFrame (state p limit threshold 0 true bytes) (state p limit threshold from true (gone ++ bytes))
  leads_dropped limit threshold = (
    record {
      passes = λ mid passes. (mid, (drop (length gone) passes.0, takes_dropped passes.0 mid.held passes.1, passes.2), λ next after given. given);
      skips = λ skips. (refl, λ k on here. skips.1 (length gone + k) (omega (arith, low)) (occurs_following k here));
      ends = refl;
    },
    record {
      passes = λ mid passes. (mid, (gone ++ passes.0, takes_whole passes.0 mid.held passes.1, passes.2), λ next after given. given);
      skips = λ skips. (refl, λ k on here. skips.1 (k - length gone) (omega arith) (occurs_from_after k (none k on here) here));
      ends = refl;
    },
  )

same_dropped : (p : List ℕ) (limit threshold from : ℕ) (gone held : List ℕ) → from ≤ length gone
    → ((more : List ℕ) (k : ℕ) → from ≤ k → OccursAt p ((gone ++ held) ++ more) k → length gone ≤ k)
    → HasSameNext gives_delimited (state p limit threshold from true (gone ++ held)) (state p limit threshold 0 true held)
same_dropped p limit threshold from gone held low none =
    same_next fronts (state p limit threshold from true (gone ++ held)) (state p limit threshold 0 true held) (λ more.
    let joined : (gone ++ held) ++ more ≡ gone ++ (held ++ more) = append_assoc gone held more in
    let there = subst (λ l. (k : ℕ) → from ≤ k → OccursAt p l k → length gone ≤ k) joined (none more) in
    rw joined (leads_dropped p gone (held ++ more) from low there limit threshold))

SameNext-dropped : (old new : Decoding Delimiting) → DropsDelimited old new → HasSameNext gives_delimited old new
SameNext-dropped old new drops =
    let d = old.decoder in
    let n = old.threshold in
    let before : state d.separator d.max_length n d.searched true (drops.gone ++ new.held) ≡ old =
    (λ i. state d.separator d.max_length n d.searched (sym drops.skipping i) (sym drops.bytes i)) in
    let after : state d.separator d.max_length n 0 true new.held ≡ new =
    ap (λ b. state d.separator d.max_length n 0 b new.held) (sym drops.skipping) ∙ sym drops.is in
    let none = subst (λ l. (more : List ℕ) (k : ℕ) → d.searched ≤ k → OccursAt d.separator (l ++ more) k → length drops.gone ≤ k) drops.bytes drops.none in
    let same = same_dropped d.separator d.max_length n d.searched drops.gone new.held drops.low none in
    subst (λ t. HasSameNext gives_delimited t new) before
    (subst (HasSameNext gives_delimited (state d.separator d.max_length n d.searched true (drops.gone ++ new.held))) after same)

-- the frame that is skipped is passed
SameNext-passed : (s mid : Decoding Delimiting) → PassesDelimited s mid → HasSameNext gives_delimited s mid
SameNext-passed s mid passes =
    let front = passed_front s.decoder.skipping s mid refl passes in
    same_front fronts s mid (sym (PassesDelimited-ready s mid passes)) (λ more.
    (fed mid more, PassesDelimited-more s mid more passes, subst (λ b. PassesSkippedDelimited b (fed mid more) (fed mid more)) (sym front) refl))

pub delimited_same : KeepsNext gives_delimited keeps_delimited
delimited_same old new (inl (inl drops)) = SameNext-dropped old new drops
delimited_same old new (inl (inr waits)) = subst (HasSameNext gives_delimited old) (sym waits.1) (λ more next after. ((λ g. g), (λ g. g)))
delimited_same old new (inr (mid, passes, inl is)) = subst (HasSameNext gives_delimited old) (sym is) (SameNext-passed old mid passes)
delimited_same old new (inr (mid, passes, inr (awaits, is))) =
    let d = mid.decoder in
    let front = passed_front old.decoder.skipping old mid refl passes in
    let searched = subst (λ b. HasSameNext gives_delimited (state d.separator d.max_length mid.threshold d.searched b mid.held)
    (all_delimited_searched (state d.separator d.max_length mid.threshold d.searched b mid.held))) (sym front)
    (same_searched d.separator d.max_length mid.threshold d.searched mid.held awaits.lacks) in
    subst (HasSameNext gives_delimited old) (sym is) (same_trans fronts old mid (all_delimited_searched mid) (SameNext-passed old mid passes) searched)
