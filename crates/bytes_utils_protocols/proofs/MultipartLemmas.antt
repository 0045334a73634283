-- Parts between boundaries.
use Rattle.std.proofs.Common.{IfSome, IfNone, option_map, IsTrue, ◌↔◌, not, Bool, ◌≡◌, ◌≢◌, ℕ, ◌+◌, ◌<◌, ◌≤◌, List, [], ◌∷◌, ◌++◌, length, take, drop, get_or, ap, ◌∙◌, sym, refl, subst, arith, length-append, append_assoc, append-nil, ⊎_elim, inl, inr, true, false, ◌⊎◌, All, Option, None, Some, MatchOption, Result, Ok, Err, OnOk, OnErr, IsUtf8}
use Rattle.std.proofs.lemmas.Bool.{cases_lt, false≢true}
use Rattle.std.proofs.lemmas.List.Elements.{All-nil, All-push}
use Rattle.std.proofs.lemmas.List.{append_cancel_left, length-take, take-append-le}
use Rattle.std.specs.Bool.{MatchBool}
use Rattle.std.specs.List.{concat}
use Rattle.std.specs.Str.Lines.{lines}
use Rattle.std.proofs.lemmas.List.Folds.{concat-append}
use Rattle.bytes_utils_codec.specs.Frames.{TakesFrame}
use Rattle.bytes_utils.specs.Occurrence.{Occurs}
use Rattle.bytes_utils_codec.specs.Pushing.{IsPush}
use Rattle.bytes_utils_buf.specs.declared.refused.Reason.{Reason}
use Rattle.bytes_utils_buf.specs.declared.refused.Reason.TheVariants.{OutOfMemory}
use Rattle.bytes_utils_buf.specs.declared.refused.Refused.{Refused}
use Rattle.bytes_utils_codec.proofs.FramesLemmas.{TakesFrame-more, TakesFrame-same}
use Rattle.bytes_utils.proofs.OccurrenceLemmas.{OccursAt-front}
use Rattle.bytes_utils_protocols.specs.Multipart.{AreMultipartFields, IsMultipartFieldLine, FewWaitInMultipart, IsMultipartIdle, MultipartReading, multipart_appended, multipart_closed, multipart_line_end, multipart_dashes, multipart_head_end, MultipartBytes, multipart_bytes, HasMultipartHeadAt, IsMultipartHead, IsMultipartPart, TakesMultipart, IsMultipartDue, IsMultipartOverLimit, IsMultipartRawOverLimit, IsMultipartRawFault, IsMultipartFault, PassesMultipartRoom, EachMultipart, NoMultipart, ClosesMultipart, LacksNextInMultipart, held_in_multipart_sections, AreMultipartSectionsApart, multipart_sections_have_ended, held_by_multipart, IsMultipartDivided, WaitsInMultipart, SameMultipartSections, AfterMultipartSearch, HasMultipartDisposition, IsFirstMultipartDisposition, IsMultipartDisposition, IsMultipartFolded, NoMultipartDisposition, ReadsMultipartDisposition}
use Rattle.bytes_utils_protocols.specs.MultipartWaiting.{MultipartWaiting}
use Rattle.bytes_utils_protocols.specs.declared.multipart.limits.Limits.{Limits}
use Rattle.bytes_utils_protocols.specs.declared.multipart.limits.PartError.{PartError}
use Rattle.bytes_utils_protocols.specs.declared.multipart.limits.PartError.TheVariants.{Refused as RefusedPart, Malformed, NotUtf8, TooLarge}
use Rattle.bytes_utils_protocols.specs.declared.multipart.sections.Sections.{Sections}
use Rattle.bytes_utils_protocols.specs.declared.multipart.sections.Stage.{Stage}
use Rattle.bytes_utils_protocols.specs.declared.multipart.sections.Stage.TheVariants.{Preamble, Waiting, Found, Ended}

-- ---- delimiters

-- the parts of bytes that are put together again
pub apart : (d old p w : List ℕ) → TakesFrame d old p w → TakesFrame d (p ++ (d ++ w)) p w
apart d old p w takes = subst (λ l. TakesFrame d l p w) takes.bytes takes

module _ (d p w : List ℕ) (begins : TakesFrame d (p ++ (d ++ w)) p w) where
  -- two dashes do not follow
  pub not_closed : take 2 w ≢ multipart_dashes → ¬ ClosesMultipart d (p ++ (d ++ w))
  not_closed other closing = other (ap (take 2) (TakesFrame-same d (p ++ (d ++ w)) p closing.0 w (multipart_dashes ++ closing.1) begins closing.2).1)

  -- the next delimiter has not come
  pub lacks_next : (¬ Occurs d w) → LacksNextInMultipart d (p ++ (d ++ w))
  lacks_next none preamble after takes occurs = none (subst (Occurs d) (sym (TakesFrame-same d (p ++ (d ++ w)) p preamble w after begins takes).1) occurs)

-- where no dashes begin the bytes, none begin what is before the next delimiter and that
pub no_dashes_before : (d w f v : List ℕ) → TakesFrame d w f v → take 2 w ≢ multipart_dashes → take 2 (f ++ d) ≢ multipart_dashes
no_dashes_before d w f v takes other two =
    let long : 2 ≤ length (f ++ d) = omega (arith, ap length two, length-take 2 (f ++ d)) in
    other (ap (take 2) (takes.bytes ∙ sym (append_assoc f d v)) ∙ take-append-le 2 (f ++ d) v long ∙ two)

-- more bytes have come than there is room for with a delimiter
pub passes_room : (d bytes : List ℕ) (room : ℕ) → (¬ Occurs d bytes) → room + length d < length bytes → PassesMultipartRoom d room bytes
passes_room d bytes room none many more frame rest takes = ⊎_elim
    (λ below. omega (arith, below, many))
    (λ within. absurd (none (length frame, OccursAt-front d bytes more (length frame) takes.first.here within)))
    (cases_lt (length bytes) (length frame + length d))

-- ---- one part

-- before the end of a head is one head
pub one_head : (front a b : List ℕ) → IsMultipartHead front a → IsMultipartHead front b → a ≡ b
one_head front a b (inl p) (inl q) = p.1 ∙ sym q.1
one_head front a b (inl p) (inr q) = absurd (omega (arith, ap length (sym p.0 ∙ q), length-append multipart_line_end b))
one_head front a b (inr p) (inl q) = absurd (omega (arith, ap length (sym q.0 ∙ p), length-append multipart_line_end a))
one_head front a b (inr p) (inr q) = append_cancel_left multipart_line_end a b (sym p ∙ q)

-- what is between two delimiters is one part, whatever the limits are
pub IsMultipartPart-same : (limits other : Limits) (raw : List ℕ) (x y : MultipartBytes) → IsMultipartPart limits raw x → IsMultipartPart other raw y → x ≡ y
IsMultipartPart-same limits other raw x y p q =
    let same = TakesFrame-same multipart_head_end raw p.front q.front x.body y.body p.ends.cut q.ends.cut in
    let head = one_head p.front x.head y.head p.head (subst (λ l. IsMultipartHead l y.head) (sym same.0) q.head) in
    λ i. multipart_bytes (head i) (same.1 i)

part_size : (limits : Limits) (raw : List ℕ) (part : MultipartBytes) → IsMultipartPart limits raw part → length raw ≤ limits.head + limits.body
part_size limits raw part is =
    omega (arith, ap length is.ends.cut.bytes, length-append is.front (multipart_head_end ++ part.body), length-append multipart_head_end part.body, is.ends.small, is.ends.short)

module _ (d : List ℕ) (limits : Limits) where
  -- the delimiter after a part has not come
  pub no_part_yet : (bytes : List ℕ) → LacksNextInMultipart d bytes → NoMultipart d limits bytes
  no_part_yet bytes lacks part rest takes = lacks takes.preamble takes.after takes.begins (length takes.raw, takes.ends.first.here)

  module _ (old p w : List ℕ) (begins : TakesFrame d old p w) where
    -- what is before the first delimiter, and what is after it
    around : (more frame rest : List ℕ) → TakesFrame d (old ++ more) frame rest → (p ≡ frame) × (w ++ more ≡ rest)
    around more frame rest takes = TakesFrame-same d (old ++ more) p frame (w ++ more) rest (TakesFrame-more d old p w more begins) takes

    -- what is before the next one
    between : (more : List ℕ) (part : MultipartBytes) (rest : List ℕ) (takes : TakesMultipart d limits (old ++ more) part rest) → TakesFrame d (w ++ more) takes.raw takes.next
    between more part rest takes = subst (λ l. TakesFrame d l takes.raw takes.next) (sym (around more takes.preamble takes.after takes.begins).1) takes.ends

    -- the preamble is too long
    pub many_before : (room : ℕ) → room < length p → PassesMultipartRoom d room old
    many_before room long more frame rest takes = omega (arith, long, ap length (around more frame rest takes).0)

    module _ (f v : List ℕ) (ends : TakesFrame d w f v) where
      -- what was found is a part
      pub found_part : (part : MultipartBytes) → IsMultipartPart limits f part → length p ≤ limits.head + limits.body → TakesMultipart d limits old part (d ++ v)
      found_part part is few = record {
        preamble = p;
        after = w;
        begins = begins;
        raw = f;
        next = v;
        ends = ends;
        is = is;
        few = few;
        left = refl;
      }

      -- what is true of each part that was found is true of each that is there
      pub each_found : (P : MultipartBytes → Type 0) → ((part : MultipartBytes) → IsMultipartPart limits f part → P part) → (more : List ℕ) → EachMultipart P d limits (old ++ more)
      each_found P each more part rest takes =
          let raw = TakesFrame-same d (w ++ more) f takes.raw (v ++ more) takes.next (TakesFrame-more d w f v more ends) (between more part rest takes) in
          each part (subst (λ l. IsMultipartPart limits l part) (sym raw.0) takes.is)

  -- what is between two delimiters is over a limit
  none_in_raw : (raw : List ℕ) → IsMultipartRawOverLimit limits raw → (part : MultipartBytes) → ¬ IsMultipartPart limits raw part
  none_in_raw raw passes part is =
      let same = TakesFrame-same multipart_head_end raw passes.front is.front passes.body part.body passes.cut is.ends.cut in
      ⊎_elim (λ head. omega (arith, head, is.ends.small, ap length same.0)) (λ body. omega (arith, body, is.ends.short, ap length same.1)) passes.over

  -- no part comes where a limit is passed
  pub none_over : (bytes : List ℕ) → IsMultipartOverLimit d limits bytes → (more : List ℕ) → NoMultipart d limits (bytes ++ more)
  none_over bytes (inl passes) more part rest takes = omega (arith, passes more takes.preamble takes.after takes.begins, takes.few)
  none_over bytes (inr (inl next)) more part rest takes =
      let ends = between bytes next.preamble next.after next.begins more part rest takes in
      omega (arith, next.passes more takes.raw takes.next ends, part_size limits takes.raw part takes.is)
  none_over bytes (inr (inr (due, passes))) more part rest takes =
      each_found bytes due.preamble due.after due.begins due.raw due.next due.ends (λ _. ⊥) (none_in_raw due.raw passes) more part rest takes

module _ (d : List ℕ) (limits : Limits) (p f v : List ℕ) (begins : TakesFrame d (p ++ (d ++ (f ++ (d ++ v)))) p (f ++ (d ++ v))) (ends : TakesFrame d (f ++ (d ++ v)) f v) (goes_on : take 2 (f ++ d) ≢ multipart_dashes)
    (few : length p ≤ limits.head + limits.body) where
  abbrev due : IsMultipartDue d limits (p ++ (d ++ (f ++ (d ++ v))))
  due = record { preamble = p; after = f ++ (d ++ v); begins = begins; raw = f; next = v; ends = ends; goes_on = goes_on; few = few }

  -- why what is between two delimiters is no part is why there is none
  pub fault_between : (e : PartError) → IsMultipartRawFault e limits f → IsMultipartFault e d limits (p ++ (d ++ (f ++ (d ++ v))))
  fault_between Malformed why =
      (due, λ any more. each_found d any (p ++ (d ++ (f ++ (d ++ v)))) p (f ++ (d ++ v)) begins f v ends (λ part. ¬ AreMultipartFields part.head) (why any) more)
  fault_between NotUtf8 why = (due, why.0, d ++ v, found_part d limits (p ++ (d ++ (f ++ (d ++ v)))) p (f ++ (d ++ v)) begins f v ends why.0 why.1 few, why.2)
  fault_between TooLarge why = inr (inr (due, why))
  fault_between (RefusedPart reason) why = (why.0, (due, why.1, why.2, why.3))

-- ---- what is found

module _ (s : Sections) (waiting : s.stage ≡ Waiting) (divided : IsMultipartDivided s) where
  begins : TakesFrame s.waiting.delimiter (s.preamble ++ (s.waiting.delimiter ++ s.waiting.held)) s.preamble s.waiting.held
  begins = subst (λ stage. AreMultipartSectionsApart stage s.waiting.delimiter s.preamble (concat s.found.segments) s.waiting.held) waiting divided

  -- what is true of the preamble, the delimiter and the bytes after it is true of what is held
  of_waiting : (P : List ℕ → Type 0) → P (s.preamble ++ (s.waiting.delimiter ++ s.waiting.held)) → P (held_by_multipart s)
  of_waiting P here = subst (λ stage. P (held_in_multipart_sections stage s.waiting.delimiter s.preamble (concat s.found.segments) s.waiting.held)) (sym waiting) here

  -- neither the next delimiter nor the end
  pub none_found : (new : Sections) → new ≡ s → (¬ Occurs s.waiting.delimiter s.waiting.held) → take 2 s.waiting.held ≢ multipart_dashes → AfterMultipartSearch new.stage s new
  none_found new same none other =
      let d = s.waiting.delimiter in
      let not_closed = of_waiting (λ held. ¬ ClosesMultipart d held) (not_closed d s.preamble s.waiting.held begins other) in
      let lacks = of_waiting (LacksNextInMultipart d) (lacks_next d s.preamble s.waiting.held begins none) in
      subst (λ (l : Sections). AfterMultipartSearch l.stage s l) (sym same)
      (subst (λ stage. AfterMultipartSearch stage s s) (sym waiting) (record { delimiter = refl; ended = refl; held = refl }, none, not_closed, lacks))

  -- what is before the next delimiter was found
  pub found_apart : (f v : List ℕ) → TakesFrame s.waiting.delimiter s.waiting.held f v → take 2 s.waiting.held ≢ multipart_dashes → AreMultipartSectionsApart Found s.waiting.delimiter s.preamble f v
  found_apart f v takes other =
      let d = s.waiting.delimiter in (
        subst (λ w. TakesFrame d (s.preamble ++ (d ++ w)) s.preamble w) takes.bytes begins,
        apart d s.waiting.held f v takes,
        no_dashes_before d s.waiting.held f v takes other,
      )

  -- why what is before the next delimiter is no part is why there is none
  pub fault_before_next : (limits : Limits) (f v : List ℕ) → TakesFrame s.waiting.delimiter s.waiting.held f v → take 2 s.waiting.held ≢ multipart_dashes → length s.preamble ≤ limits.head + limits.body
      → (e : PartError) → IsMultipartRawFault e limits f → IsMultipartFault e s.waiting.delimiter limits (held_by_multipart s)
  fault_before_next limits f v takes other few e why =
      let d = s.waiting.delimiter in
      let parts = found_apart f v takes other in
      of_waiting (IsMultipartFault e d limits)
      (subst (λ w. IsMultipartFault e d limits (s.preamble ++ (d ++ w))) (sym takes.bytes) (fault_between d limits s.preamble f v parts.0 parts.1 parts.2 few e why))

module _ (s : Sections) (is_found : s.stage ≡ Found) (divided : IsMultipartDivided s) where
  both : AreMultipartSectionsApart Found s.waiting.delimiter s.preamble (concat s.found.segments) s.waiting.held
  both = subst (λ stage. AreMultipartSectionsApart stage s.waiting.delimiter s.preamble (concat s.found.segments) s.waiting.held) is_found divided

  -- the same with what was found and the delimiter after it
  of_found : (P : List ℕ → Type 0) → P (s.preamble ++ (s.waiting.delimiter ++ (concat s.found.segments ++ (s.waiting.delimiter ++ s.waiting.held)))) → P (held_by_multipart s)
  of_found P here = subst (λ stage. P (held_in_multipart_sections stage s.waiting.delimiter s.preamble (concat s.found.segments) s.waiting.held)) (sym is_found) here

  -- why what was found is no part is why there is none
  pub fault_in_found : (limits : Limits) → length s.preamble ≤ limits.head + limits.body → (e : PartError) → IsMultipartRawFault e limits (concat s.found.segments)
      → IsMultipartFault e s.waiting.delimiter limits (held_by_multipart s)
  fault_in_found limits few e why =
      let d = s.waiting.delimiter in
      of_found (IsMultipartFault e d limits) (fault_between d limits s.preamble (concat s.found.segments) s.waiting.held both.0 both.1 both.2 few e why)

-- ---- a piece is pushed

apart_more : (stage : Stage) (d p f w piece : List ℕ) → multipart_sections_have_ended stage ≡ false → AreMultipartSectionsApart stage d p f w → AreMultipartSectionsApart stage d p f (w ++ piece)
apart_more Preamble d p f w piece on parts = parts
apart_more Waiting d p f w piece on parts = apart d ((p ++ (d ++ w)) ++ piece) p (w ++ piece) (TakesFrame-more d (p ++ (d ++ w)) p w piece parts)
apart_more Found d p f w piece on parts =
    let joined : (f ++ (d ++ w)) ++ piece ≡ f ++ (d ++ (w ++ piece)) = append_assoc f (d ++ w) piece ∙ ap (λ l. f ++ l) (append_assoc d w piece) in
    let begins = TakesFrame-more d (p ++ (d ++ (f ++ (d ++ w)))) p (f ++ (d ++ w)) piece parts.0 in (
      apart d ((p ++ (d ++ (f ++ (d ++ w)))) ++ piece) p (f ++ (d ++ (w ++ piece))) (subst (TakesFrame d ((p ++ (d ++ (f ++ (d ++ w)))) ++ piece) p) joined begins),
      apart d ((f ++ (d ++ w)) ++ piece) f (w ++ piece) (TakesFrame-more d (f ++ (d ++ w)) f w piece parts.1),
      parts.2,
    )
apart_more Ended d p f w piece on parts = cc

-- what is held before the bytes that wait
pub held_before : Stage → List ℕ → List ℕ → List ℕ → List ℕ
held_before Preamble d p f = []
held_before Waiting d p f = p ++ d
held_before Found d p f = (p ++ d) ++ (f ++ d)
held_before Ended d p f = []

pub held_apart : (stage : Stage) (d p f w : List ℕ) → multipart_sections_have_ended stage ≡ false → held_in_multipart_sections stage d p f w ≡ held_before stage d p f ++ w
unfolding held_before
held_apart Preamble d p f w on = refl
held_apart Waiting d p f w on = sym (append_assoc p d w)
held_apart Found d p f w on = sym (append_assoc p d (f ++ (d ++ w))) ∙ ap (λ l. (p ++ d) ++ l) (sym (append_assoc f d w)) ∙ sym (append_assoc (p ++ d) (f ++ d) w)
held_apart Ended d p f w on = cc

-- what a push says of a part of the state, and of all of it
pub push_of_all : {U : Type 0} (held piece : List ℕ) (result : Result U (Refused (List ℕ))) {A B C D : Type 0} → IsPush held piece result A B → (A → C) → (B → D) → IsPush held piece result C D
push_of_all held piece (Ok u) push all same = record { ok = all push.ok; err = tt; back = tt; too_long = tt; empty = push.empty }
push_of_all held piece (Err e) push all same = record { ok = tt; err = same push.err; back = push.back; too_long = push.too_long; empty = push.empty }

-- what clauses see
abbrev seen : Limits → Sections → MultipartReading
seen limits s = record { delimiter = s.waiting.delimiter; limits = limits; ended = multipart_sections_have_ended s.stage; held = held_by_multipart s }

-- the same state, with a piece after the bytes that wait
abbrev waits_more : Sections → List ℕ → MultipartWaiting
waits_more s piece = record s.waiting { held = s.waiting.held ++ piece }

pub still_divided : {E : Type 0} (s : Sections) (w : MultipartWaiting) (piece : List ℕ) (result : Result (Unit {0}) E) → OnOk result (w ≡ waits_more s piece) → OnErr result (w ≡ s.waiting) → multipart_sections_have_ended s.stage ≡ false
    → IsMultipartDivided s → IsMultipartDivided (record s { waiting = w })
still_divided s w piece (Ok u) more same on parts = rw more (apart_more s.stage s.waiting.delimiter s.preamble (concat s.found.segments) s.waiting.held piece on parts)
still_divided s w piece (Err e) more same on parts = rw same parts

pub seen_more : (s : Sections) (w : MultipartWaiting) (piece : List ℕ) (limits : Limits) → w ≡ waits_more s piece → multipart_sections_have_ended s.stage ≡ false → seen limits (record s { waiting = w }) ≡ multipart_appended (seen limits s) piece
seen_more s w piece limits is on =
    let d = s.waiting.delimiter in
    let p = s.preamble in
    let f = concat s.found.segments in
    let before = held_before s.stage d p f in
    let more : held_in_multipart_sections s.stage d p f (s.waiting.held ++ piece) ≡ held_by_multipart s ++ piece =
    held_apart s.stage d p f (s.waiting.held ++ piece) on ∙ sym (append_assoc before s.waiting.held piece) ∙ ap (λ l. l ++ piece) (sym (held_apart s.stage d p f s.waiting.held on)) in
    rw (is, on) (λ i. record { delimiter = d; limits = limits; ended = false; held = more i })

-- which of the held bytes wait
pub waits_in : (stage : Stage) (d p f w : List ℕ) → AreMultipartSectionsApart stage d p f w → WaitsInMultipart d (held_in_multipart_sections stage d p f w) w
waits_in Preamble d p f w parts = inl refl
waits_in Waiting d p f w parts = inr (inl (p, parts))
waits_in Found d p f w parts = inr (inr (p, f ++ (d ++ w), f, parts.0, parts.1))
waits_in Ended d p f w parts = inl parts.1

pub is_pushed : (s : Sections) (w : MultipartWaiting) (limits : Limits) (piece : List ℕ) (result : Result (Unit {0}) (Refused (List ℕ))) → IsPush s.waiting.held piece result (w ≡ waits_more s piece) (w ≡ s.waiting)
    → multipart_sections_have_ended s.stage ≡ false → IsMultipartDivided s → (waiting : List ℕ) × WaitsInMultipart s.waiting.delimiter (held_by_multipart s) waiting
    × IsPush waiting piece result (seen limits (record s { waiting = w }) ≡ multipart_appended (seen limits s) piece) (seen limits (record s { waiting = w }) ≡ seen limits s)
is_pushed s w limits piece result push on parts = (
  s.waiting.held,
  waits_in s.stage s.waiting.delimiter s.preamble (concat s.found.segments) s.waiting.held parts,
  push_of_all s.waiting.held piece result push (λ more. seen_more s w piece limits more on) (ap (λ (w : MultipartWaiting). seen limits (record s { waiting = w }))),
)

-- ---- without a part

-- no part begins as a close delimiter goes on
no_dashes : (limits : Limits) (raw : List ℕ) (part : MultipartBytes) (after : List ℕ) → IsMultipartPart limits raw part → raw ++ after ≢ multipart_dashes ++ drop 2 (raw ++ after)
no_dashes limits raw part after is same = not_first is.front is.head (sym (ap (λ l. l ++ after) is.ends.cut.bytes) ∙ same)
  where
    follows : List ℕ
    follows = drop 2 (raw ++ after)

    not_first : (front : List ℕ) → IsMultipartHead front part.head → (front ++ (multipart_head_end ++ part.body)) ++ after ≡ multipart_dashes ++ follows → ⊥
    not_first [] head same = omega (arith, ap (λ l. get_or l 0 0) same)
    not_first (c ∷ front) head same = let first : c ≡ 45 = ap (λ l. get_or l 0 0) same in dash front (subst (λ b. IsMultipartHead (b ∷ front) part.head) first head)
      where
        dash : (front : List ℕ) → IsMultipartHead (45 ∷ front) part.head → ⊥
        dash front (inl p) = omega (arith, ap length p.0)
        dash front (inr p) = omega (arith, ap (λ l. get_or l 0 0) p)

module _ (d : List ℕ) (limits : Limits) where
  pub none_in_nothing : NoMultipart d limits []
  none_in_nothing part rest takes =
      omega (
        arith,
        ap length takes.begins.bytes,
        length-append takes.preamble (d ++ takes.after),
        length-append d takes.after,
        ap length takes.ends.bytes,
        length-append takes.raw (d ++ takes.next),
        ap length takes.is.ends.cut.bytes,
        length-append takes.is.front (multipart_head_end ++ part.body),
        length-append multipart_head_end part.body,
      )

  pub none_closed : (bytes : List ℕ) → ClosesMultipart d bytes → NoMultipart d limits bytes
  none_closed bytes closing part rest takes =
      let same = TakesFrame-same d bytes closing.0 takes.preamble (multipart_dashes ++ closing.1) takes.after closing.2 takes.begins in
      let whole : takes.raw ++ (d ++ takes.next) ≡ multipart_dashes ++ closing.1 = sym takes.ends.bytes ∙ sym same.1 in
      no_dashes limits takes.raw part (d ++ takes.next) takes.is (whole ∙ ap (λ l. multipart_dashes ++ l) (sym (ap (drop 2) whole)))

-- ---- few bytes wait

module _ (limits : Limits) (d : List ℕ) where
  few_in_nothing : FewWaitInMultipart d limits []
  few_in_nothing = record {
    for_first = λ _. omega arith;
    before = λ preamble after takes. omega (arith, ap length takes.bytes, length-append preamble (d ++ after));
    for_next = λ preamble after takes. omega (arith, ap length takes.bytes, length-append preamble (d ++ after), length-append d after);
  }

  few_before : (w : List ℕ) → (¬ Occurs d w) → length w ≤ limits.head + limits.body + length d → FewWaitInMultipart d limits w
  few_before w none few = record {
    for_first = λ _. few;
    before = λ preamble after takes. absurd (none (length preamble, takes.first.here));
    for_next = λ preamble after takes. absurd (none (length preamble, takes.first.here));
  }

  few_after : (p w : List ℕ) → TakesFrame d (p ++ (d ++ w)) p w → length p ≤ limits.head + limits.body → length w ≤ limits.head + limits.body + length d
      → FewWaitInMultipart d limits (p ++ (d ++ w))
  few_after p w begins short few = record {
    for_first = λ none. absurd (none (length p, begins.first.here));
    before = λ preamble after takes. omega (arith, short, ap length (TakesFrame-same d (p ++ (d ++ w)) p preamble w after begins takes).0);
    for_next = λ preamble after takes. omega (arith, few, ap length (TakesFrame-same d (p ++ (d ++ w)) p preamble w after begins takes).1);
  }

-- ---- after a search

-- why there is no part is the same where the same bytes are held
pub fault_of_same : (old new : Sections) → SameMultipartSections old new → (limits : Limits) (e : PartError) → IsMultipartFault e new.waiting.delimiter limits (held_by_multipart new)
    → IsMultipartFault e old.waiting.delimiter limits (held_by_multipart old)
fault_of_same old new same limits e why =
    subst (λ d. IsMultipartFault e d limits (held_by_multipart old)) same.delimiter (subst (IsMultipartFault e new.waiting.delimiter limits) same.held why)

module _ (limits : Limits) (old s : Sections) where
  -- if it found no part, there is none
  pub none_after : (stage : Stage) → AfterMultipartSearch stage old s → stage ≢ Found → NoMultipart old.waiting.delimiter limits (held_by_multipart old)
  none_after Preamble after not_found = no_part_yet old.waiting.delimiter limits (held_by_multipart old) after.3
  none_after Waiting after not_found = no_part_yet old.waiting.delimiter limits (held_by_multipart old) after.3
  none_after Found after not_found = absurd (not_found refl)
  none_after Ended (inl before) not_found =
      subst (λ stage. NoMultipart old.waiting.delimiter limits (held_in_multipart_sections stage old.waiting.delimiter old.preamble (concat old.found.segments) old.waiting.held)) (sym before)
      (none_in_nothing old.waiting.delimiter limits)
  none_after Ended (inr closing) not_found = none_closed old.waiting.delimiter limits (held_by_multipart old) closing

  abbrev Kept : Type 0
  Kept = (seen limits s ≡ seen limits old) × (¬ ClosesMultipart old.waiting.delimiter (held_by_multipart old)) × LacksNextInMultipart old.waiting.delimiter (held_by_multipart old)

  abbrev End : Type 0
  End = (seen limits s ≡ multipart_closed (seen limits old)) × ((multipart_sections_have_ended old.stage ≡ true) ⊎ ClosesMultipart old.waiting.delimiter (held_by_multipart old))

  idle_kept : multipart_sections_have_ended s.stage ≡ false → SameMultipartSections old s → (¬ ClosesMultipart old.waiting.delimiter (held_by_multipart old)) → LacksNextInMultipart old.waiting.delimiter (held_by_multipart old)
      → IsMultipartIdle (seen limits old) (seen limits s)
  idle_kept on same still_open lacks =
      let unchanged : seen limits s ≡ seen limits old =
      λ i. record { delimiter = same.delimiter i; limits = limits; ended = same.ended i; held = same.held i } in
      subst (λ b. MatchBool b End Kept) (sym on) (unchanged, still_open, lacks)

  -- then it changed nothing, or the close delimiter was read
  pub idle_after : (stage : Stage) → s.stage ≡ stage → s.waiting.delimiter ≡ old.waiting.delimiter → AfterMultipartSearch stage old s → stage ≢ Found → IsMultipartIdle (seen limits old) (seen limits s)
  idle_after Preamble is delimiter after not_found = idle_kept (ap multipart_sections_have_ended is) after.0 after.2 after.3
  idle_after Waiting is delimiter after not_found = idle_kept (ap multipart_sections_have_ended is) after.0 after.2 after.3
  idle_after Found is delimiter after not_found = absurd (not_found refl)
  idle_after Ended is delimiter after not_found =
      let nothing : held_by_multipart s ≡ [] = ap (λ stage. held_in_multipart_sections stage s.waiting.delimiter s.preamble (concat s.found.segments) s.waiting.held) is in
      let ended : seen limits s ≡ multipart_closed (seen limits old) =
      λ i. record { delimiter = delimiter i; limits = limits; ended = ap multipart_sections_have_ended is i; held = nothing i } in
      let why : (multipart_sections_have_ended old.stage ≡ true) ⊎ ClosesMultipart old.waiting.delimiter (held_by_multipart old) = elim after [ inl before ↦ inl (ap multipart_sections_have_ended before) | inr closing ↦ inr closing ] in
      subst (λ b. MatchBool b End Kept) (sym (ap multipart_sections_have_ended is)) (ended, why)

  -- few bytes wait then, if they are within the limits
  module _ (short : length s.preamble ≤ limits.head + limits.body) (few : length s.waiting.held ≤ limits.head + limits.body + length s.waiting.delimiter) where
    pub few_wait : (stage : Stage) → AfterMultipartSearch stage old s → stage ≢ Found → AreMultipartSectionsApart stage s.waiting.delimiter s.preamble (concat s.found.segments) s.waiting.held
        → FewWaitInMultipart s.waiting.delimiter limits (held_in_multipart_sections stage s.waiting.delimiter s.preamble (concat s.found.segments) s.waiting.held)
    few_wait Preamble after not_found parts =
        few_before limits s.waiting.delimiter s.waiting.held (subst (λ d. ¬ Occurs d s.waiting.held) (sym after.0.delimiter) after.1) few
    few_wait Waiting after not_found parts = few_after limits s.waiting.delimiter s.preamble s.waiting.held parts short few
    few_wait Found after not_found parts = absurd (not_found refl)
    few_wait Ended after not_found parts = few_in_nothing limits s.waiting.delimiter

  -- a limit that the bytes pass that are held now is passed by those that were held
  over_of_same : (stage : Stage) → s.stage ≡ stage → SameMultipartSections old s
      → IsMultipartOverLimit s.waiting.delimiter limits (held_in_multipart_sections stage s.waiting.delimiter s.preamble (concat s.found.segments) s.waiting.held)
      → IsMultipartOverLimit old.waiting.delimiter limits (held_by_multipart old)
  over_of_same stage is same over =
      fault_of_same old s same limits TooLarge
      (subst (λ stage. IsMultipartOverLimit s.waiting.delimiter limits (held_in_multipart_sections stage s.waiting.delimiter s.preamble (concat s.found.segments) s.waiting.held)) (sym is) over)

  -- too many bytes are before the first delimiter
  pub much_before : (stage : Stage) → s.stage ≡ stage → SameMultipartSections old s → AreMultipartSectionsApart stage s.waiting.delimiter s.preamble (concat s.found.segments) s.waiting.held
      → limits.head + limits.body < length s.preamble → IsMultipartOverLimit old.waiting.delimiter limits (held_by_multipart old)
  much_before Preamble is same parts much = absurd (omega (arith, much, ap length parts))
  much_before Waiting is same parts much =
      over_of_same Waiting is same (inl (many_before s.waiting.delimiter limits _ s.preamble s.waiting.held parts (limits.head + limits.body) much))
  much_before Found is same parts much =
      over_of_same Found is same
      (inl (many_before s.waiting.delimiter limits _ s.preamble (concat s.found.segments ++ (s.waiting.delimiter ++ s.waiting.held)) parts.0 (limits.head + limits.body) much))
  much_before Ended is same parts much = absurd (omega (arith, much, ap length parts.0))

  -- too many bytes wait for the next one
  pub over_limits : (stage : Stage) → s.stage ≡ stage → AfterMultipartSearch stage old s → AreMultipartSectionsApart stage s.waiting.delimiter s.preamble (concat s.found.segments) s.waiting.held
      → s.stage ≢ Found → limits.head + limits.body + length s.waiting.delimiter < length s.waiting.held → IsMultipartOverLimit old.waiting.delimiter limits (held_by_multipart old)
  over_limits Preamble is after parts not_found long =
      over_of_same Preamble is after.0
      (inl (passes_room s.waiting.delimiter s.waiting.held (limits.head + limits.body) (subst (λ d. ¬ Occurs d s.waiting.held) (sym after.0.delimiter) after.1) long))
  over_limits Waiting is after parts not_found long =
      let d = s.waiting.delimiter in
      let held = s.preamble ++ (d ++ s.waiting.held) in
      let none : ¬ Occurs d s.waiting.held = subst (λ d. ¬ Occurs d s.waiting.held) (sym after.0.delimiter) after.1 in
      let same : held ≡ held_by_multipart old =
      sym (ap (λ stage. held_in_multipart_sections stage d s.preamble (concat s.found.segments) s.waiting.held) is) ∙ after.0.held in
      over_of_same Waiting is after.0 (inr (inl (record {
        goes_on = subst (λ l. ¬ ClosesMultipart d l) (sym same) (subst (λ l. ¬ ClosesMultipart l (held_by_multipart old)) (sym after.0.delimiter) after.2);
        lacks = lacks_next d s.preamble s.waiting.held parts none;
        preamble = s.preamble;
        after = s.waiting.held;
        begins = parts;
        passes = passes_room d s.waiting.held (limits.head + limits.body) none long;
      })))
  over_limits Found is after parts not_found long = absurd (not_found is)
  over_limits Ended is after parts not_found long = absurd (omega (arith, long, ap length parts.1))

-- ---- why there is no part

module _ (s : Sections) (limits : Limits) where
  -- the same of an error that is this one
  pub fault_is : (e other : PartError) → IsMultipartFault e s.waiting.delimiter limits (held_by_multipart s) → e ≡ other → IsMultipartFault other s.waiting.delimiter limits (held_by_multipart s)
  fault_is e other why is = subst (λ e. IsMultipartFault e s.waiting.delimiter limits (held_by_multipart s)) is why

  -- if a limit is passed, no part comes within the limits
  pub none_by_fault : (e : PartError) → IsMultipartFault e s.waiting.delimiter limits (held_by_multipart s) → e ≡ TooLarge → (more : List ℕ) → NoMultipart s.waiting.delimiter limits (held_by_multipart s ++ more)
  none_by_fault e why is = none_over s.waiting.delimiter limits (held_by_multipart s) (fault_is e TooLarge why is)

  -- but for one that is too large, a part is due
  pub due_by_fault : (e : PartError) → IsMultipartFault e s.waiting.delimiter limits (held_by_multipart s) → e ≢ TooLarge → IsMultipartDue s.waiting.delimiter limits (held_by_multipart s)
  due_by_fault Malformed why not_large = why.0
  due_by_fault NotUtf8 why not_large = why.0
  due_by_fault TooLarge why not_large = absurd (not_large refl)
  due_by_fault (RefusedPart reason) why not_large = why.1.0

-- ---- what is in a raw part

-- no head ends
pub no_head_end : (limits : Limits) (raw : List ℕ) (part : MultipartBytes) → (¬ Occurs multipart_head_end raw) → ¬ IsMultipartPart limits raw part
no_head_end limits raw part none is = none (length is.front, is.ends.cut.first.here)

-- what is before the end of the head is no head of header fields
pub no_head_fields : (limits : Limits) (raw front body : List ℕ) (part : MultipartBytes) → TakesFrame multipart_head_end raw front body → ((head : List ℕ) → IsMultipartHead front head → ¬ AreMultipartFields head) → IsMultipartPart limits raw part → ¬ AreMultipartFields part.head
no_head_fields limits raw front body part cut none is =
    let same = TakesFrame-same multipart_head_end raw front is.front body part.body cut is.ends.cut in
    none part.head (subst (λ l. IsMultipartHead l part.head) (sym same.0) is.head)

-- why what is before the end of the head isn't read
pub raw_fault : (limits : Limits) (raw : List ℕ) (len : ℕ) → HasMultipartHeadAt limits raw len → (e : PartError)
    → (e ≡ Malformed → (head : List ℕ) → IsMultipartHead (take len raw) head → ¬ AreMultipartFields head) → e ≢ TooLarge
    → (e ≡ NotUtf8 → (head : List ℕ) × IsMultipartHead (take len raw) head × (¬ IsUtf8 head))
    → ((reason : Reason) → e ≡ RefusedPart reason → reason ≡ OutOfMemory) → IsMultipartRawFault e limits raw
raw_fault limits raw len at Malformed lines large text refused = λ any part is. no_head_fields any raw (take len raw) (drop (len + length multipart_head_end) raw) part at.1.cut (lines refl) is
raw_fault limits raw len at NotUtf8 lines large text refused =
    let head = text refl in
    (multipart_bytes head.0 (drop (len + length multipart_head_end) raw), record { front = take len raw; ends = at.1; head = head.1 }, head.2)
raw_fault limits raw len at TooLarge lines large text refused = absurd (large refl)
raw_fault limits raw len at (RefusedPart reason) lines large text refused = (refused reason refl, take len raw, drop (len + length multipart_head_end) raw, at.1)

-- ---- the disposition

-- these lines are left: the disposition is in none before them, or it is in some of them, and has this value so far
pub record BeforeDispositionLines (all left : List (List ℕ)) : Type 0 where
  pub before : List (List ℕ)
  pub parts : all ≡ before ++ left
  pub none : All NoMultipartDisposition before

abbrev pub ReadsDispositionLines : List (List ℕ) → Option (List ℕ) → List (List ℕ) → Type 0
ReadsDispositionLines all r left = MatchOption r (BeforeDispositionLines all left) (λ value. ReadsMultipartDisposition all value left)

no_disposition_line : (all : List (List ℕ)) (line : List ℕ) (left : List (List ℕ)) → BeforeDispositionLines all (line ∷ left) → NoMultipartDisposition line → BeforeDispositionLines all left
no_disposition_line all line left h none = record {
  before = h.before ++ line ∷ [];
  parts = h.parts ∙ sym (append_assoc h.before (line ∷ []) left);
  none = All-push NoMultipartDisposition h.before line h.none none;
}

first_disposition_line : (all : List (List ℕ)) (line value : List ℕ) (left : List (List ℕ)) → BeforeDispositionLines all (line ∷ left) → IsMultipartDisposition line value
    → ReadsMultipartDisposition all value left
first_disposition_line all line value left h is = record {
  before = h.before;
  line = line;
  folded = [];
  parts = h.parts;
  none = h.none;
  begins = value;
  is = is;
  goes_on = All-nil IsMultipartFolded;
  value_is = sym (append-nil value);
}

pub begun_disposition_line : {S : Type 0} (bytes : S → List ℕ) (all : List (List ℕ)) (line : List ℕ) (left : List (List ℕ)) (r : Option S) → BeforeDispositionLines all (line ∷ left)
    → IfSome r (λ value. IsMultipartDisposition line (bytes value)) → IfNone r (NoMultipartDisposition line) → ReadsDispositionLines all (option_map bytes r) left
begun_disposition_line bytes all line left None h is none = no_disposition_line all line left h none
begun_disposition_line bytes all line left (Some value) h is none = first_disposition_line all line (bytes value) left h is

pub folded_disposition_line : (all : List (List ℕ)) (line value : List ℕ) (left : List (List ℕ)) → ReadsMultipartDisposition all value (line ∷ left) → IsMultipartFolded line
    → ReadsMultipartDisposition all (value ++ line) left
folded_disposition_line all line value left h is = record {
  before = h.before;
  line = h.line;
  folded = h.folded ++ line ∷ [];
  parts = h.parts ∙ ap (λ l. h.before ++ h.line ∷ l) (sym (append_assoc h.folded (line ∷ []) left));
  none = h.none;
  begins = h.begins;
  is = h.is;
  goes_on = All-push IsMultipartFolded h.folded line h.goes_on is;
  value_is = ap (λ l. l ++ line) h.value_is ∙ append_assoc h.begins (concat h.folded) line ∙ ap (λ l. h.begins ++ l) (sym (concat-append h.folded (line ∷ []) ∙ ap (λ l. concat h.folded ++ l) (append-nil line)));
}

-- no line is left, or one that isn't folded
pub last_disposition_line : (all left : List (List ℕ)) (r : Option (List ℕ)) → ReadsDispositionLines all r left → left ≡ [] → HasMultipartDisposition all r
last_disposition_line all left None h none = subst (All NoMultipartDisposition) (sym (h.parts ∙ ap (λ l. h.before ++ l) none ∙ append-nil h.before)) h.none
last_disposition_line all left (Some value) h none = record { left = left; reads = h; ends = λ line others is. let e = ap length (sym none ∙ is) in absurd (omega (arith, e)) }

pub other_disposition_line : (all : List (List ℕ)) (line value : List ℕ) (left : List (List ℕ)) → ReadsMultipartDisposition all value (line ∷ left) → (¬ IsMultipartFolded line)
    → IsFirstMultipartDisposition all value
other_disposition_line all line value left h other = record {
  left = line ∷ left;
  reads = h;
  ends = λ next others is. subst (λ l. ¬ IsMultipartFolded l) (ap (λ l. get_or l 0 line) is) other;
}

-- ---- header fields

-- each line is one of a field, and the first line begins one
pub fields_are : (head : List ℕ) (folded : Bool) → (IsTrue folded ↔ IsMultipartFolded head) → All IsMultipartFieldLine (lines head) → IsTrue (not folded) ↔ AreMultipartFields head
fields_are head true is each = (λ f. absurd (false≢true f), λ are. absurd (are.first (is.0 refl)))
fields_are head false is each = (λ _. record { first = λ folded. false≢true (is.1 folded); each = each }, λ _. refl)
