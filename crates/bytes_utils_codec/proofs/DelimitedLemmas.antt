-- Frames that a separator ends, up to a limit.
use Rattle.std.proofs.Common.{◌≡◌, ℕ, suc, ◌+◌, ◌-◌, ◌<◌, ◌≤◌, max, Bool, true, false, List, [], ◌∷◌, ◌++◌, length, take, drop, map, Option, None, Some, Result, Ok, Err, inl, inr, ap, ◌∙◌, sym, refl, subst, arith, append-nil, length-drop, take-append-drop, drop-drop, ⊎_elim}
use Rattle.std.proofs.lemmas.Bool.{cases_lt, cond-true, cond-false, le-leb, lt-leb, false≢true}
use Rattle.std.proofs.lemmas.List.{length-take-le, map-append}
use Rattle.std.specs.Bool.{OnTrue}
use Rattle.memchr.specs.Find.{FindsNeedle}
use Rattle.memchr.proofs.lemmas.MatchLemmas.{OccursAt-split}
use Rattle.bytes_utils_buf.specs.declared.refused.Reason.{Reason}
use Rattle.bytes_utils.specs.Occurrence.{Occurs, OccursAt}
use Rattle.bytes_utils.proofs.Boundaries.{HasNeedleAt-from_occurs, OccursAt-fits}
use Rattle.bytes_utils_codec.specs.StreamRuns.{Pushed, Taken, AreFirstOfRun, IsRunOver}
use Rattle.bytes_utils_codec.specs.Frames.{AreFrames, TakesFrame}
use Rattle.bytes_utils_codec.specs.Search.{NoneBeginsInSearch}
use Rattle.bytes_utils_codec.specs.Decoding.{AreItems, Decoding, Item, Last, fed, starting}
use Rattle.bytes_utils_codec.specs.Delimited.{Delimiting, GivesDelimitedFrame, delimiting, ready_delimited, TakesDelimitedFrameFrom, LacksDelimitedSeparator, PassesSkippedDelimited, PassesDelimited, AwaitsDelimitedSeparator, IsDelimitedOverLimit, skipping_delimited_from, DropsDelimited, AwaitsDelimitedFrame, gives_delimited, keeps_delimited, delimited_within, delimited_begun, AreDelimitedReports, delimited_left, DelimitedFramesLaw, DelimitedWholeLaw, DelimitedEvent, IsDelimitedCall, DelimitedHeldLaw}
use Rattle.bytes_utils_codec.specs.DelimitedLaws.{occurs_in_delimited_front, occurs_after, IsDelimitedOverLimit-more, PassesDelimited-same, SkipsDelimited-passes}
use Rattle.bytes_utils_codec.specs.declared.decode.too_long.FrameTooLong.{FrameTooLong}
use Rattle.bytes_utils_codec.proofs.DecodingLemmas.{SameNext-now}
use Rattle.bytes_utils_codec.proofs.FramesLemmas.{AreFrames-next}

-- ---- what a search found

module _ (p held : List ℕ) (from : ℕ) (some : 0 < length p) where
  pub found_from : (at : ℕ) → FindsNeedle held p from (Some at) → TakesDelimitedFrameFrom p from held (take at held) (drop (at + length p) held)
  found_from at found =
      let size : length (take at held) ≡ at = length-take-le at held (omega (arith, found.1.fits)) in
      record {
        bytes = sym (take-append-drop at held) ∙ ap (λ l. take at held ++ l) (OccursAt-split held p at found.1);
        low = omega (arith, size, found.0.low);
        first = λ k on here.
            ⊎_elim (λ below. absurd (found.0.before k on (omega (arith, below, size)) (HasNeedleAt-from_occurs p held k some here))) (λ above. above)
            (cases_lt k (length (take at held)));
      }

  missed_from : FindsNeedle held p from None → (k : ℕ) → from ≤ k → ¬ OccursAt p held k
  missed_from missed k on here =
      let fits = OccursAt-fits p held k some here in
      missed k on (omega (arith, fits)) (HasNeedleAt-from_occurs p held k some here)

  -- whatever comes after bytes without the separator, it begins at no place before their last ones
  none_passed : FindsNeedle held p from None → (more : List ℕ) (k : ℕ) → from ≤ k → OccursAt p (held ++ more) k → max from (length held - (length p - 1)) ≤ k
  none_passed missed more k on here =
      ⊎_elim (λ below. absurd (missed_from missed k on (occurs_in_delimited_front p held more k here (omega (arith, below, on, some))))) (λ above. above)
      (cases_lt k (max from (length held - (length p - 1))))

-- ---- what the search of a decoder found

module _ (s : Decoding Delimiting) (some : 0 < length s.decoder.separator) where
  pub passed_found : (at : ℕ) (new : Decoding Delimiting) → FindsNeedle s.held s.decoder.separator s.decoder.searched (Some at) → s.decoder.skipping ≡ true
      → new ≡ record s { decoder = ready_delimited s.decoder; held = drop (length s.decoder.separator) (drop at s.held) } → PassesDelimited s new
  passed_found at new found skipping is =
      let rest = ap (λ (t : Decoding Delimiting). t.held) is in
      let p = s.decoder.separator in
      let takes = found_from p s.held s.decoder.searched some at found in
      subst (λ b. PassesSkippedDelimited b s new) (sym skipping) (
        take at s.held,
        subst (TakesDelimitedFrameFrom p s.decoder.searched s.held (take at s.held)) (sym (rest ∙ drop-drop (length p) at s.held)) takes,
        is ∙ ap (λ l. record s { decoder = ready_delimited s.decoder; held = l }) (sym rest),
      )

  module _ (missed : FindsNeedle s.held s.decoder.separator s.decoder.searched None) where
    pub lacks_missed : LacksDelimitedSeparator s
    lacks_missed = missed_from s.decoder.separator s.held s.decoder.searched some missed

    pub awaits_missed : length s.held < s.decoder.max_length + length s.decoder.separator → AwaitsDelimitedSeparator s
    awaits_missed few = record { lacks = lacks_missed; few = few }

    pub over_missed : s.decoder.max_length + length s.decoder.separator ≤ length s.held → IsDelimitedOverLimit s
    over_missed many = record { many = many; none = λ k low here. absurd (lacks_missed k low here) }

    module _ (begun : ℕ) (is : begun ≡ max s.decoder.searched (length s.held - (length s.decoder.separator - 1))) where
      none_begun : (more : List ℕ) (k : ℕ) → s.decoder.searched ≤ k → OccursAt s.decoder.separator (s.held ++ more) k → begun ≤ k
      none_begun more k low here = omega (arith, is, none_passed s.decoder.separator s.held s.decoder.searched some missed more k low here)

      pub same_missed : length s.held < begun → begun ≡ s.decoder.searched
      same_missed short = omega (arith, is, short)

      pub drops_missed : (new : Decoding Delimiting) → begun ≤ length s.held → s.decoder.skipping ≡ true → new.held ≡ drop begun s.held
          → new ≡ record s { decoder = record s.decoder { searched = 0 }; held = new.held } → DropsDelimited s new
      drops_missed new fits skipping rest begins =
          let size : length (take begun s.held) ≡ begun = length-take-le begun s.held fits in
          record {
            gone = take begun s.held;
            bytes = sym (take-append-drop begun s.held) ∙ ap (λ l. take begun s.held ++ l) (sym rest);
            skipping = skipping;
            is = begins;
            none = λ more k low here. omega (arith, size, none_begun more k low here);
            low = omega (arith, size, is);
            few = omega (arith, ap length rest, length-drop begun s.held, is, some);
          }

  -- the end of a frame is found, after the limit
  pub over_found : (at : ℕ) → FindsNeedle s.held s.decoder.separator s.decoder.searched (Some at) → s.decoder.max_length < at → IsDelimitedOverLimit s
  over_found at found over =
      let takes = found_from s.decoder.separator s.held s.decoder.searched some at found in
      let size : length (take at s.held) ≡ at = length-take-le at s.held (omega (arith, found.1.fits)) in
      record { many = omega (arith, found.1.fits, over); none = λ k low here. omega (arith, over, size, takes.first k low here) }

-- ---- the frames of a new decoder

-- a decoder at the front of a frame, or of one over the limit that was reported
abbrev front : List ℕ → ℕ → ℕ → Bool → List ℕ → Decoding Delimiting
front p limit threshold false bytes = fed (starting (delimiting p limit) threshold) bytes
front p limit threshold true bytes = fed (starting (skipping_delimited_from (delimiting p limit)) threshold) bytes

abbrev Gives : Decoding Delimiting → Result (List ℕ) FrameTooLong → Decoding Delimiting → Type 0
Gives old item new = gives_delimited old (Item item) new

-- these items are reported of the bytes, and then this state comes
abbrev Reaches : List ℕ → ℕ → ℕ → List ℕ → List (Result (List ℕ) FrameTooLong) → Decoding Delimiting → Type 0
Reaches p limit threshold bytes items end = (reports : AreDelimitedReports p limit bytes items) × (end ≡ front p limit threshold reports.over reports.rest)

-- this is reported of the bytes, and what is left then has no separator, and is not over the limit
pub record Ends (p : List ℕ) (limit : ℕ) (bytes : List ℕ) (items : List (Result (List ℕ) FrameTooLong)) (after : Decoding Delimiting) : Type 0 where
  pub reports : AreDelimitedReports p limit bytes items
  pub lacks : ¬ Occurs p reports.rest
  pub left : after.held ≡ delimited_left reports.over reports.rest
  pub few : length after.held ≤ limit + (length p - 1)

within-short : (limit : ℕ) (frame : List ℕ) → length frame ≤ limit → delimited_within limit frame ≡ Ok frame
within-short limit frame le = cond-true _ _ _ (le-leb (length frame) limit le)

within-long : (limit : ℕ) (frame : List ℕ) → limit < length frame → delimited_within limit frame ≡ Err (record {})
within-long limit frame lt = cond-false _ _ _ (lt-leb (length frame) limit lt)

module _ (p : List ℕ) where
  begins_past : (bytes : List ℕ) (n k : ℕ) → NoneBeginsInSearch p bytes n → OccursAt p bytes k → n ≤ k
  begins_past bytes n k none here = none [] k (subst (λ l. OccursAt p l k) (sym (append-nil bytes)) here)

  takes_long : (bytes : List ℕ) (n : ℕ) (frame rest : List ℕ) → NoneBeginsInSearch p bytes n → TakesDelimitedFrameFrom p n bytes frame rest → TakesFrame p bytes frame rest
  takes_long bytes n frame rest none takes = record {
    bytes = takes.bytes;
    first = record {
      here = occurs_after p n bytes frame rest takes;
      none_before = λ j there. takes.first j (begins_past bytes n j none there) there;
    };
  }

  takes_first : (bytes frame rest : List ℕ) → TakesDelimitedFrameFrom p 0 bytes frame rest → TakesFrame p bytes frame rest
  takes_first bytes frame rest takes = takes_long bytes 0 frame rest (λ more k here. omega arith) takes

module _ (p : List ℕ) (limit threshold : ℕ) where
  none_begins : (bytes : List ℕ) → IsDelimitedOverLimit (front p limit threshold false bytes) → NoneBeginsInSearch p bytes (suc limit)
  none_begins bytes over more k here =
      omega (arith, (IsDelimitedOverLimit-more (front p limit threshold false bytes) more over).none k (omega arith) here)

  -- one more frame, before the others
  reaches_next : (bytes frame rest : List ℕ) (item : Result (List ℕ) FrameTooLong) (items : List (Result (List ℕ) FrameTooLong)) (end : Decoding Delimiting)
      → TakesFrame p bytes frame rest → item ≡ delimited_within limit frame → Reaches p limit threshold rest items end → Reaches p limit threshold bytes (item ∷ items) end
  reaches_next bytes frame rest item items end takes is (reports, there) = (
    record {
      frames = frame ∷ reports.frames;
      rest = reports.rest;
      over = reports.over;
      are = (rest, takes, reports.are);
      reported = (λ i. is i ∷ reports.reported i);
      long = reports.long;
    },
    there,
  )

  -- the frame that is skipped is passed
  record IsPast (bytes : List ℕ) (mid : Decoding Delimiting) : Type 0 where
    gone : List ℕ
    takes : TakesFrame p bytes gone mid.held
    said : Err (record {}) ≡ delimited_within limit gone
    is : mid ≡ front p limit threshold false mid.held

  passes_long : (bytes : List ℕ) (mid : Decoding Delimiting) → NoneBeginsInSearch p bytes (suc limit)
      → PassesDelimited (front p limit threshold true bytes) mid → IsPast bytes mid
  passes_long bytes mid none (gone, takes, begins) = record {
    gone = gone;
    takes = takes_long p bytes (suc limit) gone mid.held none takes;
    said = sym (within-long limit gone (omega (arith, takes.low)));
    is = begins;
  }

  -- the items of a state are reported, after that of the frame that is skipped
  abbrev Reaching : List (Result (List ℕ) FrameTooLong) → Decoding Delimiting → Type 0
  Reaching items end = (b : Bool) (bytes : List ℕ) → OnTrue b (NoneBeginsInSearch p bytes (suc limit)) → AreFirstOfRun Gives (front p limit threshold b bytes) items end
      → Reaches p limit threshold bytes (delimited_begun b ++ items) end

  reaches_front : (bytes : List ℕ) (item : Result (List ℕ) FrameTooLong)
      (items : List (Result (List ℕ) FrameTooLong)) (next end : Decoding Delimiting)
      → GivesDelimitedFrame (front p limit threshold false bytes) (Item item) next → AreFirstOfRun Gives next items end
      → Reaching items end → Reaches p limit threshold bytes (item ∷ items) end
  reaches_front bytes (Ok frame) items next end (takes, fits, begins) later reaching =
      reaches_next bytes frame next.held (Ok frame) items end (takes_first p bytes frame next.held takes) (sym (within-short limit frame fits))
      (reaching false next.held tt (subst (λ s. AreFirstOfRun Gives s items end) begins later))
  reaches_front bytes (Err e) items next end (over, is) later reaching =
      reaching true bytes (none_begins bytes over) (subst (λ s. AreFirstOfRun Gives s items end) is later)

  reaches : (items : List (Result (List ℕ) FrameTooLong)) (end : Decoding Delimiting) → Reaching items end
  reaches [] end b bytes none are =
      (record { frames = []; rest = bytes; over = b; are = refl; reported = append-nil (delimited_begun b); long = none }, sym are)
  reaches (item ∷ items) end b bytes none (next, inl g, later) = absurd cc
  reaches (item ∷ items) end false bytes none (next, inr (mid, is, g), later) =
      reaches_front bytes item items next end (subst (λ s. GivesDelimitedFrame s (Item item) next) is g) later (reaches items end)
  reaches (item ∷ items) end true bytes none (next, inr (mid, passes, g), later) =
      let past = passes_long bytes mid none passes in
      reaches_next bytes past.gone mid.held (Err (record {})) (item ∷ items) end past.takes past.said
      (reaches_front mid.held item items next end (subst (λ s. GivesDelimitedFrame s (Item item) next) past.is g) later (reaches items end))

  -- what comes at the end of the stream
  ends_front : (bytes : List ℕ) (items : List (Result (List ℕ) FrameTooLong)) (frames : List (List ℕ)) (rest : List ℕ) (after : Decoding Delimiting)
      → AreFrames p bytes frames rest → items ≡ map (delimited_within limit) frames → GivesDelimitedFrame (front p limit threshold false rest) (Last None) after
      → Ends p limit bytes items after
  ends_front bytes items frames rest after are reported (awaits, left) =
      let all = reported ∙ sym (append-nil (map (delimited_within limit) frames)) in
      let held : after.held ≡ rest = ap (λ (s : Decoding Delimiting). s.held) left in
      record {
        reports = record { frames = frames; rest = rest; over = false; are = are; reported = all; long = tt };
        lacks = λ occurs. awaits.lacks occurs.0 (omega arith) occurs.1;
        left = held;
        few = omega (arith, awaits.few, ap length held);
      }

  ends : (bytes : List ℕ) (items : List (Result (List ℕ) FrameTooLong)) (after : Decoding Delimiting)
      (reports : AreDelimitedReports p limit bytes items) (over : Bool)
      → reports.over ≡ over → gives_delimited (front p limit threshold over reports.rest) (Last None) after → Ends p limit bytes items after
  ends bytes items after reports false is (inl g) = absurd (false≢true g.0.0)
  ends bytes items after reports false is (inr (mid, here, g)) =
      let none = reports.reported ∙ ap (λ b. map (delimited_within limit) reports.frames ++ delimited_begun b) is ∙ append-nil (map (delimited_within limit) reports.frames) in
      ends_front bytes items reports.frames reports.rest after reports.are none (subst (λ s. GivesDelimitedFrame s (Last None) after) here g)
  ends bytes items after reports true is (inl (skips, last, there)) =
      let long = subst (λ b. OnTrue b (NoneBeginsInSearch p reports.rest (suc limit))) is reports.long in
      let held : after.held ≡ [] = ap (λ (s : Decoding Delimiting). s.held) there in
      record {
        reports = reports;
        lacks = λ occurs. skips.1 occurs.0 (begins_past p reports.rest (suc limit) occurs.0 long occurs.1) occurs.1;
        left = held ∙ ap (λ b. delimited_left b reports.rest) (sym is);
        few = omega (arith, ap length held);
      }
  ends bytes items after reports true is (inr (mid, passes, g)) =
      let past = passes_long reports.rest mid (subst (λ b. OnTrue b (NoneBeginsInSearch p reports.rest (suc limit))) is reports.long) passes in
      let one = reports.reported
      ∙ ap (λ b. map (delimited_within limit) reports.frames ++ delimited_begun b) is ∙ ap (λ x. map (delimited_within limit) reports.frames ++ x ∷ []) past.said
      ∙ sym (map-append (delimited_within limit) reports.frames (past.gone ∷ [])) in
      ends_front bytes items (reports.frames ++ past.gone ∷ []) mid.held after
      (AreFrames-next p bytes reports.frames reports.rest past.gone mid.held reports.are past.takes) one
      (subst (λ s. GivesDelimitedFrame s (Last None) after) past.is g)

pub delimited_frames_law : DelimitedFramesLaw
delimited_frames_law p limit threshold bytes items end are = (reaches p limit threshold items are.rest false bytes tt are.are).0

pub delimited_ends : (p : List ℕ) (limit threshold : ℕ) (bytes : List ℕ) (items : List (Result (List ℕ) FrameTooLong)) (end after : Decoding Delimiting)
    → AreItems gives_delimited (front p limit threshold false bytes) items end → gives_delimited end (Last None) after → Ends p limit bytes items after
delimited_ends p limit threshold bytes items end after are last =
    let there = reaches p limit threshold items are.rest false bytes tt are.are in
    let now = (SameNext-now gives_delimited are.rest end are.same (Last None) after).1 last in
    ends p limit threshold bytes items after there.0 there.0.over refl (subst (λ s. gives_delimited s (Last None) after) there.1 now)

pub delimited_whole_law : DelimitedWholeLaw
delimited_whole_law p limit threshold bytes items end after are last =
    let whole = delimited_ends p limit threshold bytes items end after are last in
    (whole.reports, whole.lacks, whole.left)

-- ---- how many bytes are held

-- what the calls of a decoder keep: it looks for separators from a place on that is not after the first one over the
-- limit
record Kept (p : List ℕ) (limit : ℕ) (s : Decoding Delimiting) : Type 0 where
  begins : ready_delimited s.decoder ≡ delimiting p limit
  searched : s.decoder.searched ≤ suc limit

module _ (p : List ℕ) (limit : ℕ) where
  -- it looks for separators from the first byte on
  kept_ready : (b : Bool) (s t : Decoding Delimiting) → Kept p limit s
      → t ≡ record s { decoder = record s.decoder { searched = 0; skipping = b }; held = t.held } → Kept p limit t
  kept_ready b s t kept is = record {
    begins = ap (λ (u : Decoding Delimiting). ready_delimited u.decoder) is ∙ kept.begins;
    searched = omega (arith, ap (λ (u : Decoding Delimiting). u.decoder.searched) is);
  }

  kept_passed : (b : Bool) (s mid : Decoding Delimiting) → Kept p limit s → PassesSkippedDelimited b s mid → Kept p limit mid
  kept_passed false s mid kept passes = subst (Kept p limit) (sym passes) kept
  kept_passed true s mid kept (gone, takes, begins) = kept_ready false s mid kept begins

  kept_passes : (s mid : Decoding Delimiting) → Kept p limit s → PassesDelimited s mid → Kept p limit mid
  kept_passes s mid kept passes = kept_passed s.decoder.skipping s mid kept passes

  kept_left : (old new : Decoding Delimiting) → Kept p limit old → keeps_delimited old new → Kept p limit new
  kept_left old new kept (inl (inl drops)) = kept_ready old.decoder.skipping old new kept drops.is
  kept_left old new kept (inl (inr same)) = subst (Kept p limit) (sym same.1) kept
  kept_left old new kept (inr (mid, passes, inl is)) = subst (Kept p limit) (sym is) (kept_passes old mid kept passes)
  kept_left old new kept (inr (mid, passes, inr (awaits, is))) =
      let there = kept_passes old mid kept passes in
      let most = ap (λ (d : Delimiting). d.max_length) there.begins in
      subst (Kept p limit) (sym is) (record { begins = there.begins; searched = omega (arith, there.searched, most, awaits.few) })

  kept_call : (old new : Decoding Delimiting) (result : Result (Option (Result (List ℕ) FrameTooLong)) Reason) → Kept p limit old
      → IsDelimitedCall old result new → Kept p limit new
  kept_call old new (Ok (Some item)) kept (inl g) = absurd cc
  kept_call old new (Ok (Some (Ok frame))) kept (inr (mid, passes, (takes, fits, begins))) =
      kept_ready false mid new (kept_passes old mid kept passes) begins
  kept_call old new (Ok (Some (Err e))) kept (inr (mid, passes, (over, is))) =
      let there = kept_passes old mid kept passes in
      let most = ap (λ (d : Delimiting). d.max_length) there.begins in
      subst (Kept p limit) (sym is) (record { begins = there.begins; searched = omega (arith, most) })
  kept_call old new result kept call = kept_left old new kept call.1

  kept_run : (events : List DelimitedEvent) (s end : Decoding Delimiting) → Kept p limit s → IsRunOver fed IsDelimitedCall s events end → Kept p limit end
  kept_run [] s end kept run = subst (Kept p limit) (sym run) kept
  kept_run (Pushed piece ∷ events) s end kept run =
      kept_run events (fed s piece) end (record { begins = kept.begins; searched = kept.searched }) run
  kept_run (Taken result ∷ events) s end kept (next, call, run) = kept_run events next end (kept_call s next result kept call) run

  few_awaited : (mid : Decoding Delimiting) → Kept p limit mid → AwaitsDelimitedSeparator mid → length mid.held < limit + length p
  few_awaited mid kept awaits =
      omega (arith, awaits.few, ap (λ (d : Delimiting). d.max_length) kept.begins, ap (λ (d : Delimiting). length d.separator) kept.begins)

  few_held : (old new : Decoding Delimiting) → 0 < length p → Kept p limit old → AwaitsDelimitedFrame old → keeps_delimited old new → length new.held < limit + length p
  few_held old new some kept waits (inl (inl drops)) = omega (arith, drops.few, ap (λ (d : Delimiting). length d.separator) kept.begins)
  few_held old new some kept waits (inl (inr same)) =
      omega (arith, same.0, ap (λ (s : Decoding Delimiting). length s.held) same.1, kept.searched, some)
  few_held old new some kept (inl skips) (inr (mid, passes, left)) = absurd (SkipsDelimited-passes old mid skips passes)
  few_held old new some kept (inr (next, passed, awaits)) (inr (mid, passes, inl is)) =
      let there = subst AwaitsDelimitedSeparator (PassesDelimited-same old next mid passed passes) awaits in
      omega (arith, few_awaited mid (kept_passes old mid kept passes) there, ap (λ (s : Decoding Delimiting). length s.held) is)
  few_held old new some kept (inr waits) (inr (mid, passes, inr (awaits, is))) =
      omega (arith, few_awaited mid (kept_passes old mid kept passes) awaits, ap (λ (s : Decoding Delimiting). length s.held) is)

pub delimited_held_law : DelimitedHeldLaw
delimited_held_law p limit threshold events before end some run call =
    let kept = kept_run p limit events (front p limit threshold false []) before (record { begins = refl; searched = omega arith }) run in
    few_held p limit before end some kept call.0 call.1
