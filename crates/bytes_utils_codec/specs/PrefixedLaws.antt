-- The laws of the decoder of frames that come after their lengths.
use Rattle.std.proofs.Common.{◌≡◌, inl, inr, ℕ, ◌+◌, ◌-◌, ◌<◌, ◌≤◌, List, ◌++◌, length, take, drop, Option, None, Some, Ok, Err, ap, ◌∙◌, sym, refl, subst, arith, length-append, length-drop, ⊎_elim}
use Rattle.std.proofs.lemmas.Bool.{cases_lt}
use Rattle.std.proofs.lemmas.List.{take-append-le, drop-append-le, drop_all}
use Rattle.std.specs.Prelude.{Result, unwrap_or}
use Rattle.bytes_utils_buf.proofs.Lists.{drop-append_past}
use Rattle.bytes_utils_codec.specs.Decoding.{Decodes, Decoding, Next, Item, Last, fed, IsStable, IsSingle, KeepsNext, WaitsForItem}
use Rattle.bytes_utils_buf.specs.declared.refused.Reason.{Reason}
use Rattle.bytes_utils_codec.specs.declared.decode.too_long.FrameTooLong.{FrameTooLong}
use Rattle.bytes_utils_codec.specs.Prefixed.{Prefixing, adjusted_prefixed_len, prefixed_body_len, prefixed_head_len, prefixed_number_of, dropped_prefixed_len, IsPrefixedLookedAt, IsPrefixedWithinLimit, IsPrefixedOver, IsPrefixedOverLimit, TakesPrefixed, after_skipped_prefixed, awaits_prefixed_front, awaits_prefixed, fails_prefixed_front, fails_prefixed, gives_prefixed_front, gives_prefixed, keeps_prefixed_front, keeps_prefixed, needing_prefixed, skipping_prefixed}

-- ---- more bytes

module _ (d : Prefixing) (bytes more : List ℕ) (head : prefixed_head_len d ≤ length bytes) where
  prefixed_body_len-more : prefixed_body_len d (bytes ++ more) ≡ prefixed_body_len d bytes
  prefixed_body_len-more =
      let after : drop d.offset (bytes ++ more) ≡ drop d.offset bytes ++ more = drop-append-le d.offset bytes more (omega (arith, head)) in
      let field : take d.width (drop d.offset (bytes ++ more)) ≡ take d.width (drop d.offset bytes) =
      ap (take d.width) after ∙ take-append-le d.width (drop d.offset bytes) more (omega (arith, head, length-drop d.offset bytes)) in
      ap (λ l. adjusted_prefixed_len (prefixed_number_of d.is_little_endian l) d.adjustment) field

  head-more : prefixed_head_len d ≤ length (bytes ++ more)
  head-more = omega (arith, head, length-append bytes more)

  rest-more : drop (prefixed_head_len d) (bytes ++ more) ≡ drop (prefixed_head_len d) bytes ++ more
  rest-more = drop-append-le (prefixed_head_len d) bytes more head

within-more : (d : Prefixing) (bytes more : List ℕ) (n : ℕ) → IsPrefixedWithinLimit d bytes n → IsPrefixedWithinLimit d (bytes ++ more) n
within-more d bytes more n is =
    record { head = head-more d bytes more is.head; len = prefixed_body_len-more d bytes more is.head ∙ is.len; within = is.within }

over-more : (d : Prefixing) (bytes more : List ℕ) (n : ℕ) → IsPrefixedOverLimit d bytes n → IsPrefixedOverLimit d (bytes ++ more) n
over-more d bytes more n is =
    record { head = head-more d bytes more is.head; over = subst (λ len. IsPrefixedOver d.max_length len n) (sym (prefixed_body_len-more d bytes more is.head)) is.over }

takes-more : (d : Prefixing) (old frame rest more : List ℕ) → TakesPrefixed d old frame rest → TakesPrefixed d (old ++ more) frame (rest ++ more)
takes-more d old frame rest more takes =
    let end = prefixed_head_len d + takes.len in
    record {
      len = takes.len;
      within = within-more d old more takes.len takes.within;
      whole = omega (arith, takes.whole, length-append old more);
      frame_is = takes.frame_is ∙ ap (drop (dropped_prefixed_len d)) (sym (take-append-le end old more takes.whole));
      rest_is = ap (λ l. l ++ more) takes.rest_is ∙ sym (drop-append-le end old more takes.whole);
    }

looked_at-more : (s : Decoding Prefixing) (more : List ℕ) → IsPrefixedLookedAt s → IsPrefixedLookedAt (fed s more)
looked_at-more s more is = (is.0, omega (arith, is.1, length-append s.held more))

front_stable : IsStable gives_prefixed_front
front_stable old (Ok frame) new more given =
    (looked_at-more old more given.0, takes-more old.decoder old.held frame new.held more given.1, ap (λ s. fed s more) given.2)
front_stable old (Err e) new more given =
    let n = given.1.0 in
    let over = given.1.1 in (
      looked_at-more old more given.0,
      (
        n,
        over-more old.decoder old.held more n over,
        ap (λ s. fed s more) given.1.2 ∙ ap (λ l. record (skipping_prefixed n old) { held = l }) (sym (rest-more old.decoder old.held more over.head)),
      ),
    )

-- ---- at most one thing comes next

same_len : (d : Prefixing) (bytes : List ℕ) (n m : ℕ) → IsPrefixedWithinLimit d bytes n → IsPrefixedWithinLimit d bytes m → n ≡ m
same_len d bytes n m one two = ap (λ len. unwrap_or len 0) (sym one.len ∙ two.len)

not_both : (d : Prefixing) (bytes : List ℕ) (n m : ℕ) → IsPrefixedWithinLimit d bytes n → ¬ IsPrefixedOverLimit d bytes m
not_both d bytes n m one two =
    let over = subst (λ len. IsPrefixedOver d.max_length len m) one.len two.over in omega (arith, one.within, over.0)

over_same : (limit : ℕ) (len : Option ℕ) (n m : ℕ) → IsPrefixedOver limit len n → IsPrefixedOver limit len m → n ≡ m
over_same limit (Some len) n m one two = one.1 ∙ sym two.1
over_same limit None n m one two = one ∙ sym two

takes_same : (d : Prefixing) (old f g x y : List ℕ) → TakesPrefixed d old f x → TakesPrefixed d old g y → (f ≡ g) × (x ≡ y)
takes_same d old f g x y one two =
    let same = same_len d old one.len two.len one.within two.within in (
      one.frame_is ∙ ap (λ n. drop (dropped_prefixed_len d) (take (prefixed_head_len d + n) old)) same ∙ sym two.frame_is,
      one.rest_is ∙ ap (λ n. drop (prefixed_head_len d + n) old) same ∙ sym two.rest_is,
    )

front_waits : WaitsForItem gives_prefixed_front awaits_prefixed_front
front_waits s (inl (inl some)) (Ok frame) after given = omega (arith, some, given.0.0)
front_waits s (inl (inl some)) (Err e) after given = omega (arith, some, given.0.0)
front_waits s (inl (inr (inl few))) (Ok frame) after given = omega (arith, few, given.0.1)
front_waits s (inl (inr (inl few))) (Err e) after given = omega (arith, few, given.0.1)
front_waits s (inl (inr (inr few))) (Ok frame) after given = omega (arith, few, given.1.within.head)
front_waits s (inl (inr (inr few))) (Err e) after given = omega (arith, few, given.1.1.head)
front_waits s (inr part) (Ok frame) after given =
    omega (arith, same_len s.decoder s.held part.0 given.1.len part.1 given.1.within, part.2, given.1.whole)
front_waits s (inr part) (Err e) after given = not_both s.decoder s.held part.0 given.1.0 part.1 given.1.1

front_single : IsSingle gives_prefixed_front
front_single s (Item (Ok f)) (Item (Ok g)) x y a b =
    let same = takes_same s.decoder s.held f g x.held y.held a.1 b.1 in
    ((λ i. Item (Ok (same.0 i))), a.2 ∙ ap (λ l. record (needing_prefixed 0 s) { held = l }) same.1 ∙ sym b.2)
front_single s (Item (Ok f)) (Item (Err e)) x y a b = absurd (not_both s.decoder s.held a.1.len b.1.0 a.1.within b.1.1)
front_single s (Item (Err e)) (Item (Ok g)) x y a b = absurd (not_both s.decoder s.held b.1.len a.1.0 b.1.within a.1.1)
front_single s (Item (Err e)) (Item (Err f)) x y a b =
    let same = over_same s.decoder.max_length (prefixed_body_len s.decoder s.held) a.1.0 b.1.0 a.1.1.over b.1.1.over in
    (refl, a.1.2 ∙ ap (λ n. skipping_prefixed n s) same ∙ sym b.1.2)
front_single s (Item item) (Last None) x y a b = absurd (front_waits s b.0 item x a)
front_single s (Last None) (Item item) x y a b = absurd (front_waits s a.0 item y b)
front_single s (Last None) (Last None) x y a b = (refl, a.1 ∙ sym b.1)
front_single s (Last (Some f)) next x y a b = absurd a
front_single s next (Last (Some g)) x y a b = absurd b

-- ---- as many bytes as a frame has are needed

-- the same of a decoder that needs another number of bytes
within-needing : (d : Prefixing) (k : ℕ) (bytes : List ℕ) (n : ℕ) → IsPrefixedWithinLimit d bytes n → IsPrefixedWithinLimit (record d { needed = k }) bytes n
within-needing d k bytes n is = record { head = is.head; len = is.len; within = is.within }

takes-needing : (d : Prefixing) (k : ℕ) (old frame rest : List ℕ) → TakesPrefixed d old frame rest → TakesPrefixed (record d { needed = k }) old frame rest
takes-needing d k old frame rest takes = record {
  len = takes.len;
  within = within-needing d k old takes.len takes.within;
  whole = takes.whole;
  frame_is = takes.frame_is;
  rest_is = takes.rest_is;
}

-- After the head of a frame was read, the same comes next if all of the frame is needed.
module _ (s : Decoding Prefixing) (n : ℕ) (is : IsPrefixedLookedAt s) (within : IsPrefixedWithinLimit s.decoder s.held n) (more : List ℕ) where
  abbrev needed : Decoding Prefixing
  needed = needing_prefixed (prefixed_head_len s.decoder + n) s

  same : IsPrefixedWithinLimit s.decoder (s.held ++ more) n
  same = within-more s.decoder s.held more n within

  needs : (m : ℕ) → IsPrefixedWithinLimit s.decoder (s.held ++ more) m → n ≡ m
  needs m other = same_len s.decoder (s.held ++ more) n m same other

  needed-waits : awaits_prefixed_front (fed s more) → awaits_prefixed_front (fed needed more)
  needed-waits (inl (inl some)) = inl (inl some)
  needed-waits (inl (inr (inl few))) = absurd (omega (arith, few, is.1, length-append s.held more))
  needed-waits (inl (inr (inr few))) = inl (inr (inr few))
  needed-waits (inr part) = inl (inr (inl (omega (arith, needs part.0 part.1, part.2))))

  needed-awaits : awaits_prefixed_front (fed needed more) → awaits_prefixed_front (fed s more)
  needed-awaits (inl (inl some)) = inl (inl some)
  needed-awaits (inl (inr (inl few))) = inr (n, same, few)
  needed-awaits (inl (inr (inr few))) = inl (inr (inr few))
  needed-awaits (inr part) = inr (part.0, within-needing needed.decoder s.decoder.needed (s.held ++ more) part.0 part.1, part.2)

  needed-gives : (next : Next (Result (List ℕ) FrameTooLong)) (after : Decoding Prefixing) → gives_prefixed_front (fed s more) next after → gives_prefixed_front (fed needed more) next after
  needed-gives (Item (Ok frame)) after given = (
    (is.0, omega (arith, needs given.1.len given.1.within, given.1.whole)),
    takes-needing s.decoder needed.decoder.needed (s.held ++ more) frame after.held given.1,
    given.2,
  )
  needed-gives (Item (Err e)) after given = absurd (not_both s.decoder (s.held ++ more) n given.1.0 same given.1.1)
  needed-gives (Last None) after given = (needed-waits given.0, given.1)
  needed-gives (Last (Some item)) after given = given

  needed-given : (next : Next (Result (List ℕ) FrameTooLong)) (after : Decoding Prefixing) → gives_prefixed_front (fed needed more) next after → gives_prefixed_front (fed s more) next after
  needed-given (Item (Ok frame)) after given =
      (looked_at-more s more is, takes-needing needed.decoder s.decoder.needed (s.held ++ more) frame after.held given.1, given.2)
  needed-given (Item (Err e)) after given =
      absurd (not_both needed.decoder (s.held ++ more) n given.1.0 (within-needing s.decoder needed.decoder.needed (s.held ++ more) n same) given.1.1)
  needed-given (Last None) after given = (needed-awaits given.0, given.1)
  needed-given (Last (Some item)) after given = given

-- ---- the bytes that are skipped

drop-split : (k : ℕ) (held more : List ℕ) → drop (k - length held) (drop k held ++ more) ≡ drop k (held ++ more)
drop-split k held more = ⊎_elim
    (λ (below : k < length held).
    let none : k - length held ≡ 0 = omega (arith, below) in
    ap (λ n. drop n (drop k held ++ more)) none ∙ sym (drop-append-le k held more (omega (arith, below))))
    (λ (past : length held ≤ k).
    ap (λ l. drop (k - length held) (l ++ more)) (drop_all k held past) ∙ sym (drop-append_past held more (k - length held) k (omega (arith, past))))
    (cases_lt k (length held))

-- the bytes that follow are skipped as if they had been there
after_skipped_prefixed-fed : (s : Decoding Prefixing) (more : List ℕ) → after_skipped_prefixed (fed (after_skipped_prefixed s) more) ≡ after_skipped_prefixed (fed s more)
after_skipped_prefixed-fed s more =
    let k = s.decoder.skipped in
    let skipped : (k - length s.held) - length (drop k s.held ++ more) ≡ k - length (s.held ++ more) =
    omega (arith, length-append (drop k s.held) more, length-append s.held more, length-drop k s.held) in
    (λ i. record s { decoder = record s.decoder { skipped = skipped i }; held = drop-split k s.held more i })

-- with all of them gone, they are bytes like any other
after_skipped_prefixed-more : (s : Decoding Prefixing) (more : List ℕ) → (after_skipped_prefixed s).decoder.skipped ≡ 0 → after_skipped_prefixed (fed s more) ≡ fed (after_skipped_prefixed s) more
after_skipped_prefixed-more s more gone =
    let k = s.decoder.skipped in
    let skipped : k - length (s.held ++ more) ≡ k - length s.held = omega (arith, gone, length-append s.held more) in
    let held : drop k (s.held ++ more) ≡ drop k s.held ++ more = drop-append-le k s.held more (omega (arith, gone)) in
    (λ i. record s { decoder = record s.decoder { skipped = skipped i }; held = held i })

-- where nothing is skipped nothing changes
after_skipped_prefixed-none : (s : Decoding Prefixing) → s.decoder.skipped ≡ 0 → after_skipped_prefixed s ≡ s
after_skipped_prefixed-none s none =
    let skipped : s.decoder.skipped - length s.held ≡ s.decoder.skipped = omega (arith, none) in
    let held : drop s.decoder.skipped s.held ≡ s.held = ap (λ n. drop n s.held) none in
    (λ i. record s { decoder = record s.decoder { skipped = skipped i }; held = held i })

-- ---- the laws of the decoder

pub prefixed_stable : IsStable gives_prefixed
prefixed_stable old (Ok frame) new more given =
    subst (λ s. gives_prefixed_front s (Item (Ok frame)) (fed new more)) (sym (after_skipped_prefixed-more old more given.0.0))
    (front_stable (after_skipped_prefixed old) (Ok frame) new more given)
prefixed_stable old (Err e) new more given =
    subst (λ s. gives_prefixed_front s (Item (Err e)) (fed new more)) (sym (after_skipped_prefixed-more old more given.0.0))
    (front_stable (after_skipped_prefixed old) (Err e) new more given)

pub prefixed_single : IsSingle gives_prefixed
prefixed_single s next other x y a b = front_single (after_skipped_prefixed s) next other x y a b

pub prefixed_waits : WaitsForItem gives_prefixed awaits_prefixed
prefixed_waits s awaits item after given = front_waits (after_skipped_prefixed s) awaits item after given

pub prefixed_same : KeepsNext gives_prefixed keeps_prefixed
prefixed_same old new (inl unread) more next after =
    let same : after_skipped_prefixed (fed old more) ≡ after_skipped_prefixed (fed new more) =
    sym (after_skipped_prefixed-fed old more) ∙ ap (λ s. after_skipped_prefixed (fed s more)) (sym unread.1) in
    (subst (λ s. gives_prefixed_front s next after) same, subst (λ s. gives_prefixed_front s next after) (sym same))
prefixed_same old new (inr read) more next after =
    let s = after_skipped_prefixed old in
    let n = read.1.0 in
    let needed = needing_prefixed (prefixed_head_len s.decoder + n) s in
    let left : after_skipped_prefixed (fed old more) ≡ fed s more = after_skipped_prefixed-more old more read.0.0 in
    let right : after_skipped_prefixed (fed new more) ≡ fed needed more =
    ap (λ t. after_skipped_prefixed (fed t more)) read.1.2 ∙ after_skipped_prefixed-none (fed needed more) read.0.0 in (
      λ given. subst (λ t. gives_prefixed_front t next after) (sym right)
          (needed-gives s n read.0 read.1.1 more next after (subst (λ t. gives_prefixed_front t next after) left given)),
      λ given. subst (λ t. gives_prefixed_front t next after) (sym left)
          (needed-given s n read.0 read.1.1 more next after (subst (λ t. gives_prefixed_front t next after) right given)),
    )

-- ---- the calls of the decoder

-- one that first drops what is skipped does the rest at the front
pub decodes_prefixed : (old front new : Decoding Prefixing) (r : Result (Option (Result (List ℕ) FrameTooLong)) Reason) → front ≡ after_skipped_prefixed old
    → Decodes gives_prefixed_front awaits_prefixed_front fails_prefixed_front keeps_prefixed_front front r new
    → Decodes gives_prefixed awaits_prefixed fails_prefixed keeps_prefixed old r new
decodes_prefixed old front new (Ok (Some item)) is did = subst (λ s. gives_prefixed_front s (Item item) new) is did
decodes_prefixed old front new (Ok None) is did = subst (λ s. awaits_prefixed_front s × keeps_prefixed_front s new) is did
decodes_prefixed old front new (Err error) is did = subst (λ s. fails_prefixed_front s error × keeps_prefixed_front s new) is did
