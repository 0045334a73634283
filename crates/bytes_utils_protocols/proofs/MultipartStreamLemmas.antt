-- Bytes that wait for a delimiter, and what is given of a part.
use Rattle.std.proofs.Common.{◌≡◌, ◌≢◌, ◌⊎◌, ℕ, ◌+◌, ◌-◌, ◌<◌, ◌≤◌, max, List, [], ◌++◌, length, take, drop, Option, None, Some, Result, Ok, Err, OnErr, IfOk, IfErr, IfSome, IfNone, IsUtf8, Bool, not, true, false, ap, ◌∙◌, sym, refl, subst, arith, inl, inr, append_assoc, append-nil, length-append, length-drop, take-append-drop}
use Rattle.std.proofs.lemmas.List.{drop-append-le, drop-drop, drop_at, take_at, length-take, length-take-le}
use Rattle.std.proofs.lemmas.List.Elements.{All-nil}
use Rattle.std.proofs.lemmas.Bool.{false≢true}
use Rattle.memchr.specs.Find.{FindsNeedle}
use Rattle.bytes_utils_buf.specs.declared.refused.Reason.{Reason}
use Rattle.bytes_utils_buf.specs.declared.refused.Reason.TheVariants.{OutOfMemory}
use Rattle.bytes_utils.specs.Occurrence.{Occurs, OccursAt, OccursFirstAt}
use Rattle.bytes_utils.proofs.Boundaries.{OccursAt-fits}
use Rattle.bytes_utils.proofs.OccurrenceLemmas.{OccursAt-append, OccursAt-front, OccursFirstAt-append, OccursFirstAt-front, cut_whole}
use Rattle.bytes_utils_codec.specs.Frames.{TakesFrame}
use Rattle.bytes_utils_codec.specs.Search.{NoneBeginsInSearch, Searching}
use Rattle.bytes_utils_codec.proofs.FramesLemmas.{TakesFrame-more, TakesFrame-same}
use Rattle.bytes_utils_codec.proofs.SearchLemmas.{NoneBeginsInSearch-missed, first_of_all, frame_of_all, nowhere_left}
use Rattle.bytes_utils_protocols.specs.Multipart.{AreMultipartFields, HasMultipartParameter, IsMultipartFieldLine, IsMultipartHead, IsMultipartPadding, NoMultipartDisposition, multipart_dashes, multipart_file_name, multipart_head_end, multipart_name}
use Rattle.bytes_utils_protocols.specs.MultipartWaiting.{IsAheadOfNeedle, IsSearchWithin, MultipartWaiting}
use Rattle.bytes_utils_protocols.specs.MultipartStream.{PartStreaming, DropsPreamble, PassesPreamble, AfterPreamble, TakesPartHead, NoPartFieldsCome, NoPartHeadComes, HasPartHeadNotUtf8, AwaitsPartHead, HasLongPartHead, HasPartHeadEnd, HasPartPiece, IsWithinPartRoom, GivesPartPiece, GivesPartEnd, GivesPartEvent, IsPartStreamCall, IsPartAwaited, IsAtPartHead, IsPartStreamFault, IsPartStreamStep, IsPartStreamReturn, IsPartHeadFault, PartStreamAsks, PassesPartRoom, has_part_stream_ended, part_stream_appended, part_streaming}
use Rattle.bytes_utils_protocols.specs.declared.multipart.event.PartEvent.{PartEvent}
use Rattle.bytes_utils_protocols.specs.declared.multipart.event.PartEvent.TheVariants.{Head, Body, End}
use Rattle.bytes_utils_protocols.specs.declared.multipart.head.PartHead.{PartHead}
use Rattle.bytes_utils_protocols.specs.declared.multipart.limits.Limits.{Limits}
use Rattle.bytes_utils_protocols.specs.declared.multipart.limits.PartError.{PartError}
use Rattle.bytes_utils_protocols.specs.declared.multipart.limits.PartError.TheVariants.{Malformed, NotUtf8, Refused, TooLarge}
use Rattle.bytes_utils_protocols.specs.declared.multipart.progress.Place.{Place}
use Rattle.bytes_utils_protocols.specs.declared.multipart.progress.Place.TheVariants.{Preamble, AtHead, InBody, Ended}
use Rattle.bytes_utils_protocols.specs.declared.multipart.progress.Progress.{Progress}
use Rattle.bytes_utils_protocols.specs.declared.multipart.waiting.Ahead.{Ahead}

-- ---- bytes in which no delimiter begins

module _ (d : List ℕ) where
  occurs_later : (held more : List ℕ) (k i : ℕ) → k ≤ length held → OccursAt d (drop k held ++ more) i → OccursAt d (held ++ more) (k + i)
  occurs_later held more k i within here =
      ap (take (length d)) (sym (ap (drop i) (sym (drop-append-le k held more within)) ∙ drop-drop i k (held ++ more))) ∙ here

  occurs_before : (gone t : List ℕ) (i : ℕ) → OccursAt d t i → OccursAt d (gone ++ t) (length gone + i)
  occurs_before gone t i here =
      ap (take (length d)) (sym (ap (drop i) (sym (drop_at gone t (length gone) refl)) ∙ drop-drop i (length gone) (gone ++ t))) ∙ here

  occurs_after : (gone t : List ℕ) (j : ℕ) → length gone ≤ j → OccursAt d (gone ++ t) j → OccursAt d t (j - length gone)
  occurs_after gone t j low here =
      let g = length gone in
      let sum : g + (j - g) ≡ j = omega (arith, low) in
      ap (take (length d)) (ap (drop (j - g)) (sym (drop_at gone t g refl)) ∙ drop-drop (j - g) g (gone ++ t) ∙ ap (λ n. drop n (gone ++ t)) sum) ∙ here

  pub NoneBegins-fewer : (bytes : List ℕ) (n m : ℕ) → m ≤ n → NoneBeginsInSearch d bytes n → NoneBeginsInSearch d bytes m
  NoneBegins-fewer bytes n m fewer none more k here = omega (arith, fewer, none more k here)

  -- none begins before the first one
  pub NoneBegins-before : (held : List ℕ) (at : ℕ) → 0 < length d → OccursFirstAt d held at → NoneBeginsInSearch d held at
  NoneBegins-before held at some first more k here = (OccursFirstAt-append d held more at some first).none_before k here

  -- some bytes are dropped
  pub NoneBegins-drop : (held : List ℕ) (n k : ℕ) → k ≤ length held → NoneBeginsInSearch d held n → NoneBeginsInSearch d (drop k held) (n - k)
  NoneBegins-drop held n k within none more i here = omega (arith, none more (k + i) (occurs_later held more k i within here))

  -- none begins in these bytes, and then in more of them
  pub NoneBegins-join : (gone held : List ℕ) (n : ℕ) → NoneBeginsInSearch d (gone ++ held) (length gone) → NoneBeginsInSearch d held n → NoneBeginsInSearch d (gone ++ held) (length gone + n)
  NoneBegins-join gone held n before none more k here =
      let low = before more k here in
      let there = occurs_after gone (held ++ more) k low (subst (λ l. OccursAt d l k) (append_assoc gone held more) here) in
      omega (arith, low, none more (k - length gone) there)

  -- and then comes a delimiter
  pub TakesFrame-join : (gone held frame rest : List ℕ) → NoneBeginsInSearch d (gone ++ held) (length gone) → TakesFrame d held frame rest → TakesFrame d (gone ++ held) (gone ++ frame) rest
  TakesFrame-join gone held frame rest before takes = record {
    bytes = ap (λ l. gone ++ l) takes.bytes ∙ sym (append_assoc gone frame (d ++ rest));
    first = subst (OccursFirstAt d (gone ++ held)) (sym (length-append gone frame)) joined;
  }
    where
      joined : OccursFirstAt d (gone ++ held) (length gone + length frame)
      joined = record {
        here = occurs_before gone held (length frame) takes.first.here;
        none_before = λ j here.
            let low = before [] j (subst (λ l. OccursAt d l j) (sym (append-nil (gone ++ held))) here) in
            let there = takes.first.none_before (j - length gone) (occurs_after gone held j low here) in
            omega (arith, low, there);
      }

  -- the bytes begin with a delimiter
  pub TakesFrame-at_front : (rest : List ℕ) → TakesFrame d (d ++ rest) [] rest
  TakesFrame-at_front rest = record { bytes = refl; first = record { here = take_at d rest (length d) refl; none_before = λ j there. omega arith } }

  -- more bytes than there is room for are before the next delimiter
  pub over_room : (held : List ℕ) (n room : ℕ) → NoneBeginsInSearch d held n → room < n → (more frame rest : List ℕ) → TakesFrame d (held ++ more) frame rest → room < length frame
  over_room held n room none over more frame rest takes =
      omega (arith, over, none more (length frame) takes.first.here)

-- ---- bytes that wait

-- bytes are taken off the front
pub taken_apart : (old search : Searching) (before after : List ℕ) (len : ℕ) → len ≤ length before → after ≡ drop len before → search ≡ record old { searched = old.searched - len } → IsSearchWithin old before
    → IsSearchWithin search after
taken_apart old search before after len within rest is apart = rw (is, rest) (record {
  none = NoneBegins-drop old.needle before old.searched len within apart.none;
  within = omega (arith, apart.within, within, length-drop len before);
})

module _ (d held : List ℕ) (from : ℕ) (some : 0 < length d) (none : NoneBeginsInSearch d held from) where
  -- the next delimiter has come
  pub ahead_found : (at : ℕ) → FindsNeedle held d from (Some at) → IsAheadOfNeedle d held (record { len = at; has_come = true })
  ahead_found at found =
      let fits = found.1.fits in
      record {
        within = omega (arith, fits);
        apart = NoneBegins-before d held at some (first_of_all d held from some none at found);
        here = λ _. frame_of_all d held from some none at found;
        fits = λ _. fits;
        lacks = λ e. absurd (false≢true (sym e));
        most = λ e. absurd (false≢true (sym e));
        some = some;
      }

  -- it has not
  pub ahead_missed : (n : ℕ) → n ≡ max from (length held - (length d - 1)) → from ≤ length held - (length d - 1) → FindsNeedle held d from None → IsAheadOfNeedle d held (record { len = n; has_come = false })
  ahead_missed n is within missed = record {
    within = omega (arith, is, within);
    apart = subst (NoneBeginsInSearch d held) (sym is) (NoneBeginsInSearch-missed d held from some none missed);
    here = λ e. absurd (false≢true e);
    fits = λ e. absurd (false≢true e);
    lacks = λ _. nowhere_left d held from some none missed;
    most = λ _. omega (arith, is, within);
    some = some;
  }

-- some bytes are before the next delimiter, or before where it may begin: at least as many have come as it has
pub many_ahead : (d held : List ℕ) (ahead : Ahead) → IsAheadOfNeedle d held ahead → 0 < ahead.len → (come : Bool) → ahead.has_come ≡ come → length d ≤ length held
many_ahead d held ahead is some true come = let fits = is.fits come in omega (arith, fits)
many_ahead d held ahead is some false lacks = omega (arith, is.most lacks, some)

-- ---- the first bytes

module _ (d held : List ℕ) (len : ℕ) (some : 0 < length d) where
  in_all : (i : ℕ) → OccursAt d (take len held) i → OccursAt d held i
  in_all i here = subst (λ l. OccursAt d l i) (take-append-drop len held) (OccursAt-append d (take len held) (drop len held) i some here)

  -- no delimiter is in them, if none is in all bytes
  pub none_in_front : (¬ Occurs d held) → ¬ Occurs d (take len held)
  none_in_front none occurs = none (occurs.0, in_all occurs.0 occurs.1)

  module _ (at : ℕ) (within : at + length d ≤ length held) (found : OccursFirstAt d held (length (take at held))) where
    first : OccursFirstAt d held at
    first = subst (OccursFirstAt d held) (length-take-le at held (omega (arith, within))) found

    -- nor if the first one ends after them
    pub late_in_front : len < at + length d → ¬ Occurs d (take len held)
    late_in_front late occurs =
        let fits = OccursAt-fits d (take len held) occurs.0 some occurs.1 in
        let after = first.none_before occurs.0 (in_all occurs.0 occurs.1) in
        omega (arith, late, fits, after, length-take len held)

    -- otherwise that one is the first one in them
    pub first_in_front : len ≤ length held → at + length d ≤ len → TakesFrame d (take len held) (take at (take len held)) (drop (at + length d) (take len held))
    first_in_front come early =
        let size : length (take len held) ≡ len = length-take-le len held come in
        let all = subst (λ l. OccursFirstAt d l at) (sym (take-append-drop len held)) first in
        let there = OccursFirstAt-front d (take len held) (drop len held) at some all (omega (arith, early, size)) in
        record {
          bytes = sym (cut_whole d (take len held) at there.here);
          first = subst (OccursFirstAt d (take len held)) (sym (length-take-le at (take len held) (omega (arith, early, size)))) there;
        }

-- ---- the end of a head

module _ (d held : List ℕ) (some : 0 < length d) where
  -- a delimiter begins before a head ends
  no_head_after : (at : ℕ) → OccursAt d held at → ((k : ℕ) → OccursAt multipart_head_end held k → at < k + length multipart_head_end)
      → (limits : Limits) (more head rest : List ℕ) → ¬ TakesPartHead d limits (held ++ more) head rest
  no_head_after at here late limits more head rest takes =
      let there = OccursAt-append d held more at some here in
      let before : length takes.front + length multipart_head_end ≤ at = takes.apart [] at (subst (λ l. OccursAt d l at) (sym (append-nil (held ++ more))) there) in
      let fits = OccursAt-fits d held at some here in
      let inside = OccursAt-front multipart_head_end held more (length takes.front) takes.cut.first.here (omega (arith, before, fits)) in
      let after = late (length takes.front) inside in
      omega (arith, before, after)

  -- no head ends within the limit
  no_head_within : (limits : Limits) → limits.head ≤ length held → ((k : ℕ) → OccursAt multipart_head_end held k → limits.head < k + length multipart_head_end) → NoPartHeadComes d limits held
  no_head_within limits long late more head rest takes =
      let small = takes.small in
      let inside = OccursAt-front multipart_head_end held more (length takes.front) takes.cut.first.here (omega (arith, small, long)) in
      let after = late (length takes.front) inside in
      omega (arith, small, after)

  module _ (limits : Limits) (ahead : Ahead) (is : IsAheadOfNeedle d held ahead) where
    come_at : ahead.has_come ≡ true → OccursAt d held ahead.len
    come_at come = subst (OccursAt d held) (length-take-le ahead.len held is.within) (is.here come).first.here

    come_ends : ahead.has_come ≡ true → ¬ AwaitsPartHead d limits held
    come_ends come awaits = awaits.none (ahead.len, come_at come)

    -- no head ends
    module _ (none : ¬ Occurs multipart_head_end held) where
      pub malformed_without : ahead.has_come ≡ true → IsPartHeadFault Malformed d limits held × (¬ AwaitsPartHead d limits held)
      malformed_without come =
          (λ any more head rest takes _. no_head_after ahead.len (come_at come) (λ k here. absurd (none (k, here))) any more head rest takes, come_ends come)

      pub large_without : ahead.has_come ≡ false → max limits.head (length multipart_dashes) ≤ length held → IsPartHeadFault TooLarge d limits held × (¬ AwaitsPartHead d limits held)
      large_without lacks long = (
        (no_head_within limits (omega (arith, long)) (λ k here. absurd (none (k, here))), inl (record { no_next = is.lacks lacks; no_end = none; many = long })),
        λ awaits. let few = awaits.few none in omega (arith, few, long),
      )

      pub awaits_without : ahead.has_come ≡ false → length held < max limits.head (length multipart_dashes) → AwaitsPartHead d limits held
      awaits_without lacks few = record {
        none = is.lacks lacks;
        short = λ front rest takes. absurd (none (length front, takes.first.here));
        small = λ front rest takes. absurd (none (length front, takes.first.here));
        few = λ _. few;
      }

    -- a head ends
    module _ (len : ℕ) (cut : TakesFrame multipart_head_end held (take len held) (drop (len + length multipart_head_end) held)) (within : len + length multipart_head_end ≤ length held) where
      size : length (take len held) ≡ len
      size = length-take-le len held (omega (arith, within))

      one_front : (front rest : List ℕ) → TakesFrame multipart_head_end held front rest → length front ≡ len
      one_front front rest takes =
          ap length (TakesFrame-same multipart_head_end held front (take len held) rest (drop (len + length multipart_head_end) held) takes cut).0 ∙ size

      not_before : (k : ℕ) → OccursAt multipart_head_end held k → len ≤ k
      not_before k here = let first = cut.first.none_before k here in omega (arith, first, size)

      pub malformed_late : ahead.len < len + length multipart_head_end → ahead.has_come ≡ true → IsPartHeadFault Malformed d limits held × (¬ AwaitsPartHead d limits held)
      malformed_late late come = (
        λ any more head rest takes _. no_head_after ahead.len (come_at come) (λ k here. let first = not_before k here in omega (arith, first, late)) any more head rest takes,
        come_ends come,
      )

      -- no delimiter has come that begins before that end is over
      none_inside : (come : Bool) → ahead.has_come ≡ come → (come ≡ true → len + length multipart_head_end ≤ ahead.len) → (k : ℕ) → OccursAt d held k → len + length multipart_head_end ≤ k
      none_inside true come early k here =
          let first = (is.here come).first.none_before k here in
          omega (arith, early refl, first, length-take-le ahead.len held is.within)
      none_inside false lacks early k here = absurd (is.lacks lacks (k, here))

      pub large_late : (ahead.has_come ≡ true → len + length multipart_head_end ≤ ahead.len) → limits.head < len + length multipart_head_end → IsPartHeadFault TooLarge d limits held × (¬ AwaitsPartHead d limits held)
      large_late early over =
          let rest = drop (len + length multipart_head_end) held in
          let none = no_head_within limits (omega (arith, within, over)) (λ k here. let first = not_before k here in omega (arith, first, over)) in
          let long : HasLongPartHead d limits held = record {
            front = take len held;
            rest = rest;
            cut = cut;
            apart = λ k here. let after = none_inside ahead.has_come refl early k here in omega (arith, after, size);
            over = omega (arith, over, size);
          } in (
            (none, inr long),
            λ awaits. let small = awaits.small (take len held) rest cut in omega (arith, small, over, size),
          )

      pub awaits_late : ahead.len < len + length multipart_head_end → ahead.has_come ≡ false → len + length multipart_head_end ≤ limits.head → AwaitsPartHead d limits held
      awaits_late late lacks fits = record {
        none = is.lacks lacks;
        short = λ front rest takes.
            omega (arith, is.most lacks, some, late, one_front front rest takes, ap length takes.bytes, length-append front (multipart_head_end ++ rest), length-append multipart_head_end rest);
        small = λ front rest takes. omega (arith, fits, one_front front rest takes);
        few = λ none. absurd (none (length (take len held), cut.first.here));
      }

      -- it is certain
      head_is_certain : len + length multipart_head_end ≤ ahead.len → (come : Bool) → ahead.has_come ≡ come → ¬ AwaitsPartHead d limits held
      head_is_certain early true come awaits = come_ends come awaits
      head_is_certain early false lacks awaits =
          let rest = drop (len + length multipart_head_end) held in
          omega (arith, awaits.short (take len held) rest cut, is.most lacks, early, length-drop (len + length multipart_head_end) held)

      pub head_end_found : len + length multipart_head_end ≤ ahead.len → len + length multipart_head_end ≤ limits.head → HasPartHeadEnd d limits held len × (¬ AwaitsPartHead d limits held)
      head_end_found early small = (
        record {
          within = within;
          cut = cut;
          apart = NoneBegins-fewer d held ahead.len (len + length multipart_head_end) early is.apart;
          small = small;
        },
        head_is_certain early ahead.has_come refl,
      )

module _ (d : List ℕ) (limits : Limits) (held : List ℕ) (len : ℕ) (found : HasPartHeadEnd d limits held len) where
  front_size : length (take len held) ≡ len
  front_size = let within = found.within in length-take-le len held (omega (arith, within))

  pub takes_head : (head : List ℕ) → IsMultipartHead (take len held) head → TakesPartHead d limits held head (drop (len + length multipart_head_end) held)
  takes_head head is = record {
    front = take len held;
    cut = found.cut;
    apart = rw front_size found.apart;
    is = is;
    small = rw front_size found.small;
  }

  pub no_fields_come : ((head : List ℕ) → IsMultipartHead (take len held) head → ¬ AreMultipartFields head) → NoPartFieldsCome d held
  no_fields_come none any more head rest takes =
      let rest_held = drop (len + length multipart_head_end) held in
      let same = TakesFrame-same multipart_head_end (held ++ more) (take len held) takes.front (rest_held ++ more) rest (TakesFrame-more multipart_head_end held (take len held) rest_held more found.cut) takes.cut in
      none head (subst (λ l. IsMultipartHead l head) (sym same.0) takes.is)

  pub not_utf8_come : (head : List ℕ) × IsMultipartHead (take len held) head × (¬ IsUtf8 head) → HasPartHeadNotUtf8 d limits held
  not_utf8_come not_text = (not_text.0, drop (len + length multipart_head_end) held, takes_head not_text.0 not_text.1, not_text.2)

-- ---- steps

pub unset : (b : Bool) → not b ≡ true → b ≡ false
unset true e = absurd (false≢true e)
unset false e = refl

pub is_set : (b : Bool) → not b ≡ false → b ≡ true
is_set true e = refl
is_set false e = absurd (false≢true (sym e))

-- the state with these bytes that wait
abbrev at_waiting : Limits → Place → ℕ → MultipartWaiting → PartStreaming
at_waiting limits place room w = record { delimiter = w.delimiter; limits = limits; place = place; room = room; held = w.held }

abbrev without_front : ℕ → MultipartWaiting → MultipartWaiting
without_front n w = record w { held = drop n w.held }

module _ (old : Progress) (ahead : Ahead) (is : IsAheadOfNeedle old.waiting.delimiter old.waiting.held ahead) (fits : ahead.len ≤ old.room) where
  front_len : length (take ahead.len old.waiting.held) ≡ ahead.len
  front_len = length-take-le ahead.len old.waiting.held is.within

  -- bytes of the preamble are dropped
  drops : old.place ≡ Preamble → DropsPreamble (part_streaming old) (at_waiting old.limits old.place (old.room - ahead.len) (without_front ahead.len old.waiting))
  drops place = record {
    place = place;
    dropped = take ahead.len old.waiting.held;
    front = sym (take-append-drop ahead.len old.waiting.held);
    apart = subst (NoneBeginsInSearch old.waiting.delimiter old.waiting.held) (sym front_len) is.apart;
    within = omega (arith, fits, front_len);
    next = refl;
  }

  pub preamble_dropped : (p : Progress) (w : MultipartWaiting) (room : ℕ) → p ≡ old → old.place ≡ Preamble → w ≡ without_front ahead.len p.waiting → room ≡ p.room - ahead.len
      → AfterPreamble (part_streaming old) (part_streaming (record p { waiting = w; room = room }))
  preamble_dropped p w room same place waits left = rw (waits, left, same) (inr (inl (drops place)))

  pub preamble_awaits : (p : Progress) (w : MultipartWaiting) → p ≡ old → ahead.has_come ≡ false → w ≡ without_front ahead.len p.waiting → length w.held < length w.delimiter
  preamble_awaits p w same lacks waits = rw (waits, same) (omega (arith, is.most lacks, is.some, is.within, length-drop ahead.len old.waiting.held))

  -- the delimiter is dropped too
  passes : old.place ≡ Preamble → ahead.has_come ≡ true → PassesPreamble (part_streaming old) (at_waiting old.limits AtHead old.room (without_front (ahead.len + length old.waiting.delimiter) old.waiting))
  passes place come = record { place = place; preamble = take ahead.len old.waiting.held; takes = is.here come; within = omega (arith, fits, front_len); next = refl }

  pub preamble_passed : (p : Progress) (w : MultipartWaiting) → p ≡ old → old.place ≡ Preamble → ahead.has_come ≡ true → w ≡ without_front (ahead.len + length p.waiting.delimiter) p.waiting
      → AfterPreamble (part_streaming old) (part_streaming (record p { waiting = w; place = AtHead }))
  preamble_passed p w same place come waits = rw (waits, same) (inr (inr (passes place come)))

  -- a piece is taken
  piece_taken : (piece : List ℕ) (w : MultipartWaiting) → old.place ≡ InBody → old.waiting.held ≡ piece ++ w.held → 0 < length piece → length piece ≤ ahead.len → w.delimiter ≡ old.waiting.delimiter
      → GivesPartPiece (part_streaming old) piece (at_waiting old.limits old.place (old.room - length piece) w)
  piece_taken piece w place front some most delimiter = record {
    place = place;
    some = some;
    front = front;
    apart = NoneBegins-fewer old.waiting.delimiter old.waiting.held ahead.len (length piece) most is.apart;
    within = omega (arith, fits, most);
    next = λ i. record { delimiter = delimiter i; limits = old.limits; place = old.place; room = old.room - length piece; held = w.held };
  }

  pub piece_given : (p : Progress) (piece : List ℕ) (w : MultipartWaiting) (room : ℕ) → p ≡ old → old.place ≡ InBody → p.waiting.held ≡ piece ++ w.held → 0 < length piece → length piece ≤ ahead.len
      → w.delimiter ≡ p.waiting.delimiter → room ≡ p.room - length piece → GivesPartPiece (part_streaming old) piece (part_streaming (record p { waiting = w; room = room }))
  piece_given p piece w room same place front some most delimiter left =
      let front_old = subst (λ (q : Progress). q.waiting.held ≡ piece ++ w.held) same front in
      let delimiter_old = subst (λ (q : Progress). w.delimiter ≡ q.waiting.delimiter) same delimiter in
      rw (left, same) (piece_taken piece w place front_old some most delimiter_old)

  -- no more bytes are before the next delimiter than there is room for
  within_room : (come : Bool) → ahead.has_come ≡ come → IsWithinPartRoom (part_streaming old)
  within_room true come =
      inl (take ahead.len old.waiting.held, drop (ahead.len + length old.waiting.delimiter) old.waiting.held, is.here come, omega (arith, fits, front_len))
  within_room false lacks = inr (omega (arith, is.most lacks, is.some, fits))

  -- the memory for a piece is refused
  pub asks_in_body : old.place ≡ InBody → 0 < ahead.len → PartStreamAsks old.place (part_streaming old)
  asks_in_body place some =
      let come : HasPartPiece old.waiting.delimiter old.waiting.held = (omega (arith, some, is.within), NoneBegins-fewer old.waiting.delimiter old.waiting.held ahead.len 1 some is.apart) in
      subst (λ place. PartStreamAsks place (part_streaming old)) (sym place) (come, within_room ahead.has_come refl)

  -- a piece is given: the call does not wait
  pub no_wait_in_body : old.place ≡ InBody → 0 < ahead.len → ¬ IsPartAwaited old.place (part_streaming old)
  no_wait_in_body place some awaits =
      let few : length old.waiting.held < length old.waiting.delimiter = subst (λ place. IsPartAwaited place (part_streaming old)) place awaits in
      omega (arith, few, many_ahead old.waiting.delimiter old.waiting.held ahead is some ahead.has_come refl)

  -- the body has ended
  pub end_given : (p : Progress) (w : MultipartWaiting) → p ≡ old → old.place ≡ InBody → ahead.len ≡ 0 → ahead.has_come ≡ true → w ≡ without_front (ahead.len + length p.waiting.delimiter) p.waiting
      → GivesPartEnd (part_streaming old) (part_streaming (record p { waiting = w; place = AtHead }))
  end_given p w same place none come waits = rw (waits, same) (record {
    place = place;
    some = is.some;
    delimiter =
        let d = old.waiting.delimiter in
        let rest = drop (ahead.len + length d) old.waiting.held in
        (is.here come).bytes ∙ ap (λ n. take n old.waiting.held ++ (d ++ rest)) none;
    next = refl;
  })

  pub body_awaits : (p : Progress) → p ≡ old → old.place ≡ InBody → ahead.len ≡ 0 → ahead.has_come ≡ false → IsPartStreamStep (part_streaming old) (Ok None) (part_streaming p)
  body_awaits p same place none lacks =
      let few : length old.waiting.held < length old.waiting.delimiter = omega (arith, none, is.most lacks, is.some) in
      rw same (inl refl, subst (λ place. IsPartAwaited place (part_streaming old)) (sym place) few)

-- nothing comes before the first delimiter or after the last one
pub awaits_elsewhere : (old : Progress) (place : Place) → (place ≡ Preamble → length old.waiting.held < length old.waiting.delimiter) → place ≢ AtHead → place ≢ InBody → IsPartAwaited place (part_streaming old)
awaits_elsewhere old Preamble few not_head not_body = few refl
awaits_elsewhere old AtHead few not_head not_body = absurd (not_head refl)
awaits_elsewhere old InBody few not_head not_body = absurd (not_body refl)
awaits_elsewhere old Ended few not_head not_body = tt

-- why there is no head is why the call fails
pub fault_at_head : (e : PartError) (s : PartStreaming) → IsAtPartHead s → (¬ IsPartAwaited s.place s) → IsPartHeadFault e s.delimiter s.limits s.held → IsPartStreamFault e s
fault_at_head Malformed s head certain why = ((head, why), certain)
fault_at_head NotUtf8 s head certain why = ((head, why), certain)
fault_at_head TooLarge s head certain why = (inl (head, why.0, why.1), certain)
fault_at_head (Refused reason) s head certain why = absurd why

-- the step fails, and nothing has changed
pub failed_step : (old new : PartStreaming) (result : Result (Option PartEvent) PartError) (e : PartError) → result ≡ Err e → new ≡ old → IsPartStreamFault e old → IsPartStreamStep old result new
failed_step old new result e is same why = rw (is, same) (refl, why)

-- the step fails, as memory is refused
pub refused_step : (old new : PartStreaming) (result : Result (Option PartEvent) PartError) (e : PartError) (reason : Reason) → result ≡ Err e → e ≡ Refused reason → reason ≡ OutOfMemory → PartStreamAsks old.place old
    → (¬ IsPartAwaited old.place old) → new ≡ old → IsPartStreamStep old result new
refused_step old new result e reason is refused want asks goes_on same = failed_step old new result e is same (rw refused ((want, asks), goes_on))

-- too many bytes are before the next delimiter
no_wait_over : (s : PartStreaming) (place : Place) → (place ≡ Preamble) ⊎ (place ≡ InBody) → length s.delimiter ≤ length s.held → ¬ IsPartAwaited place s
no_wait_over s place (inl is) many awaits =
    let few : length s.held < length s.delimiter = subst (λ place. IsPartAwaited place s) is awaits in
    omega (arith, few, many)
no_wait_over s place (inr is) many awaits =
    let few : length s.held < length s.delimiter = subst (λ place. IsPartAwaited place s) is awaits in
    omega (arith, few, many)

pub over_step : (s : PartStreaming) (e : PartError) → (s.place ≡ Preamble) ⊎ (s.place ≡ InBody) → e ≡ TooLarge → PassesPartRoom s → length s.delimiter ≤ length s.held → IsPartStreamFault e s
over_step s e place is over many = rw is (inr (place, over), no_wait_over s s.place place many)

-- a piece is pushed
pub stream_pushed : (old : Progress) (w : MultipartWaiting) (piece : List ℕ) → has_part_stream_ended old.place ≡ false → w ≡ record old.waiting { held = old.waiting.held ++ piece }
    → part_streaming (record old { waiting = w }) ≡ part_stream_appended (part_streaming old) piece
stream_pushed old w piece on is = rw (is, on) refl

-- ---- at a head

-- two dashes come
pub closes_step : (old : Progress) (w : MultipartWaiting) → old.place ≡ AtHead → take (length multipart_dashes) old.waiting.held ≡ multipart_dashes → w ≡ record old.waiting { held = [] }
    → IsPartStreamStep (part_streaming old) (Ok None) (part_streaming (record old { waiting = w; place = Ended }))
closes_step old w place dashes is = rw is (inr (record { place = place; dashes = dashes; next = refl }), tt)

-- no head has come
pub awaits_step : (old : Progress) (new : PartStreaming) → old.place ≡ AtHead → take (length multipart_dashes) old.waiting.held ≢ multipart_dashes → new ≡ part_streaming old → AwaitsPartHead old.waiting.delimiter old.limits old.waiting.held
    → IsPartStreamStep (part_streaming old) (Ok None) new
awaits_step old new place on same awaits = rw same (inl refl, subst (λ place. IsPartAwaited place (part_streaming old)) (sym place) (on, awaits))

-- a head has come
pub head_given : (old p new : Progress) (search : Searching) (len : ℕ) (head : PartHead) (event : PartEvent) → p ≡ record old { head_end = search } → old.place ≡ AtHead
    → HasPartHeadEnd old.waiting.delimiter old.limits old.waiting.held len → IsMultipartHead (take len old.waiting.held) head.text → AreMultipartFields head.text
    → HasMultipartParameter multipart_name head.text head.name → HasMultipartParameter multipart_file_name head.text head.file_name → event ≡ Head head
    → new ≡ record p { waiting = without_front (len + length multipart_head_end) p.waiting; place = InBody; room = p.limits.body } → IsPartStreamStep (part_streaming old) (Ok (Some event)) (part_streaming new)
head_given old p new search len head event same place found is fields name file_name gives passed = rw (passed, same, gives) (record {
  place = place;
  takes = takes_head old.waiting.delimiter old.limits old.waiting.held len found head.text is;
  fields = fields;
  name = name;
  file_name = file_name;
  next = refl;
})

-- an empty head has come
pub empty_head_given : (old p new : Progress) (search : Searching) (len : ℕ) (event : PartEvent) (head : PartHead) → p ≡ record old { head_end = search } → old.place ≡ AtHead
    → HasPartHeadEnd old.waiting.delimiter old.limits old.waiting.held len → IsMultipartPadding (take len old.waiting.held) → head ≡ record { text = []; name = None; file_name = None } → event ≡ Head head
    → new ≡ record p { waiting = without_front (len + length multipart_head_end) p.waiting; place = InBody; room = p.limits.body } → IsPartStreamStep (part_streaming old) (Ok (Some event)) (part_streaming new)
empty_head_given old p new search len event head same place found padding empty gives passed =
    head_given old p new search len (record { text = []; name = None; file_name = None }) event same place found (inl (padding, refl)) no_fields (no_parameter multipart_name) (no_parameter multipart_file_name) (gives ∙ ap Head empty) passed
  where
    no_fields : AreMultipartFields []
    no_fields = record { first = λ folded. omega (arith, folded); each = All-nil IsMultipartFieldLine }

    no_parameter : (name : List ℕ) → HasMultipartParameter name [] None
    no_parameter name = (None, All-nil NoMultipartDisposition, refl)

-- the memory for a head is refused
pub asks_at_head : (old : Progress) (len : ℕ) → old.place ≡ AtHead → take (length multipart_dashes) old.waiting.held ≢ multipart_dashes → HasPartHeadEnd old.waiting.delimiter old.limits old.waiting.held len
    → (¬ IsMultipartPadding (take len old.waiting.held)) → PartStreamAsks old.place (part_streaming old)
asks_at_head old len place on found some = subst (λ place. PartStreamAsks place (part_streaming old)) (sym place) (on, len, found, some)

pub no_wait_at_head : (old : Progress) → old.place ≡ AtHead → (¬ AwaitsPartHead old.waiting.delimiter old.limits old.waiting.held) → ¬ IsPartAwaited old.place (part_streaming old)
no_wait_at_head old place certain awaits = certain (subst (λ place. IsPartAwaited place (part_streaming old)) place awaits).1

-- the head that has come is none
pub parse_fault : (old : Progress) (len : ℕ) → old.place ≡ AtHead → take (length multipart_dashes) old.waiting.held ≢ multipart_dashes → HasPartHeadEnd old.waiting.delimiter old.limits old.waiting.held len × (¬ AwaitsPartHead old.waiting.delimiter old.limits old.waiting.held)
    → (¬ IsMultipartPadding (take len old.waiting.held)) → (e : PartError) → (e ≡ Malformed → (head : List ℕ) → IsMultipartHead (take len old.waiting.held) head → ¬ AreMultipartFields head) → e ≢ TooLarge
    → (e ≡ NotUtf8 → (head : List ℕ) × IsMultipartHead (take len old.waiting.held) head × (¬ IsUtf8 head)) → ((reason : Reason) → e ≡ Refused reason → reason ≡ OutOfMemory) → IsPartStreamFault e (part_streaming old)
parse_fault old len place on found some Malformed malformed large not_text want = (((place, on), no_fields_come old.waiting.delimiter old.limits old.waiting.held len found.0 (malformed refl)), no_wait_at_head old place found.1)
parse_fault old len place on found some NotUtf8 malformed large not_text want = (((place, on), not_utf8_come old.waiting.delimiter old.limits old.waiting.held len found.0 (not_text refl)), no_wait_at_head old place found.1)
parse_fault old len place on found some TooLarge malformed large not_text want = absurd (large refl)
parse_fault old len place on found some (Refused reason) malformed large not_text want = ((want reason refl, asks_at_head old len place on found.0 some), no_wait_at_head old place found.1)

-- ---- what a call returned

fewer_given : (at : PartStreaming) (event : PartEvent) (new : PartStreaming) → GivesPartEvent at event new → length new.held < length at.held
fewer_given at (Head head) new gives =
    omega (arith, ap length gives.takes.cut.bytes, length-append gives.takes.front (multipart_head_end ++ new.held), length-append multipart_head_end new.held)
fewer_given at (Body piece) new gives = omega (arith, gives.some, ap length gives.front, length-append piece new.held)
fewer_given at End new gives = omega (arith, gives.some, ap length gives.delimiter, length-append at.delimiter new.held)

none_more : (old at : PartStreaming) → AfterPreamble old at → length at.held ≤ length old.held
none_more old at (inl same) = rw same (omega arith)
none_more old at (inr (inl drops)) = omega (arith, ap length drops.front, length-append drops.dropped at.held)
none_more old at (inr (inr passes)) =
    omega (arith, ap length passes.takes.bytes, length-append passes.preamble (old.delimiter ++ at.held), length-append old.delimiter at.held)

module _ (old new : PartStreaming) where
  pub call_of_return : (result : Result (Option PartEvent) PartError) → IsPartStreamReturn old result new → IfOk result (λ next. IsPartStreamCall old next new)
  call_of_return (Ok (Some event)) returns = (returns.0, returns.1, returns.2)
  call_of_return (Ok None) returns = (returns.0, returns.1, returns.2.0)
  call_of_return (Err e) returns = tt

  pub waits_of_return : (result : Result (Option PartEvent) PartError) → IsPartStreamReturn old result new → IfOk result (λ next. IfNone next (IsPartAwaited new.place new))
  waits_of_return (Ok (Some event)) returns = tt
  waits_of_return (Ok None) returns = returns.2.1
  waits_of_return (Err e) returns = tt

  pub fewer_of_return : (result : Result (Option PartEvent) PartError) → IsPartStreamReturn old result new → IfOk result (λ next. IfSome next (λ _. length new.held < length old.held))
  fewer_of_return (Ok (Some event)) returns =
      let before = none_more old returns.0 returns.1 in
      let given = fewer_given returns.0 event new returns.2 in
      omega (arith, before, given)
  fewer_of_return (Ok None) returns = tt
  fewer_of_return (Err e) returns = tt

  pub err_of_return : (result : Result (Option PartEvent) PartError) → IsPartStreamReturn old result new → OnErr result (AfterPreamble old new)
  err_of_return (Ok next) returns = tt
  err_of_return (Err e) returns = subst (AfterPreamble old) (sym returns.2.0) returns.1

  pub fault_of_return : (result : Result (Option PartEvent) PartError) → IsPartStreamReturn old result new → IfErr result (λ e. IsPartStreamFault e new)
  fault_of_return (Ok next) returns = tt
  fault_of_return (Err e) returns = returns.2.1
