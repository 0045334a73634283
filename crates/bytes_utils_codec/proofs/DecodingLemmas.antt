-- Runs of any decoder.
use Rattle.std.proofs.Common.{◌≡◌, ◌↔◌, ℕ, List, [], ◌∷◌, ◌++◌, Option, None, Some, Result, Ok, ap, subst, append_assoc, append-nil}
use Rattle.std.proofs.lemmas.Grind.{flat_map-append}
use Rattle.std.specs.Prelude.{⊤}
use Rattle.std.specs.List.{flat_map}
use Rattle.bytes_utils_codec.specs.StreamRuns.{AreFirstOfRun}
use Rattle.bytes_utils_codec.specs.Decoding.{Decoding, Next, Item, Last, Gives, fed, HasSameNext, LacksItem, KeepsNext, Decodes, IsStable, IsSingle, AreItems, decoded_item, DecoderRunLaw, DecoderAllLaw, DecoderWholeLaw}
use Rattle.bytes_utils_codec.proofs.StreamRunsLemmas.{run_keeps, AreFirstOfRun-next, AreFirstOfRun-more, all_first_law}

-- ---- what comes next

abbrev is_item : {A : Type 0} → Next A → Type 0
is_item (Item item) = ⊤
is_item (Last last) = ⊥

abbrev item_or : {A : Type 0} → A → Next A → A
item_or other (Item item) = item
item_or other (Last last) = other

abbrev last_in : {A : Type 0} → Next A → Option A
last_in (Item item) = None
last_in (Last last) = last

module _ {D : Type 0} where
  pub fed-none : (s : Decoding D) → fed s [] ≡ s
  fed-none s = ap (λ l. record s { held = l }) (append-nil s.held)

  pub fed-joined : (s : Decoding D) (one two : List ℕ) → fed (fed s one) two ≡ fed s (one ++ two)
  fed-joined s one two = ap (λ l. record s { held = l }) (append_assoc s.held one two)

module _ {D A : Type 0} (gives : Gives D A) where
  pub SameNext-refl : (s : Decoding D) → HasSameNext gives s s
  SameNext-refl s more next after = ((λ g. g), (λ g. g))

  SameNext-sym : (s t : Decoding D) → HasSameNext gives s t → HasSameNext gives t s
  SameNext-sym s t same more next after = ((same more next after).1, (same more next after).0)

  pub SameNext-trans : (s t u : Decoding D) → HasSameNext gives s t → HasSameNext gives t u → HasSameNext gives s u
  SameNext-trans s t u first later more next after =
      ((λ g. (later more next after).0 ((first more next after).0 g)), (λ g. (first more next after).1 ((later more next after).1 g)))

  pub SameNext-fed : (s t : Decoding D) (piece : List ℕ) → HasSameNext gives s t → HasSameNext gives (fed s piece) (fed t piece)
  SameNext-fed s t piece same more next after = rw (fed-joined s piece more, fed-joined t piece more) (same (piece ++ more) next after)

  pub SameNext-now : (s t : Decoding D) → HasSameNext gives s t → (next : Next A) (after : Decoding D) → gives s next after ↔ gives t next after
  SameNext-now s t same next after =
      let there = same [] next after in
      rw (fed-none s, fed-none t) at there

-- ---- runs

module _ {D A : Type 0} (gives : Gives D A) (s : Decoding D) where
  pub items_fed : IsStable gives → (bytes : List ℕ) (items : List A) (t : Decoding D) (piece : List ℕ) → AreItems gives (fed s bytes) items t
      → AreItems gives (fed s (bytes ++ piece)) items (fed t piece)
  items_fed stable bytes items t piece a = record {
    rest = fed a.rest piece;
    are = subst (λ l. AreFirstOfRun (λ old item new. gives old (Item item) new) l items (fed a.rest piece)) (fed-joined s bytes piece)
        (AreFirstOfRun-more fed (λ old item new. gives old (Item item) new) stable (fed s bytes) items a.rest piece a.are);
    same = SameNext-fed gives a.rest t piece a.same;
  }

  items_next : {E : Type 0} (waits : Decoding D → Type 0) (fails : Decoding D → E → Type 0) (keeps : Decoding D → Decoding D → Type 0) → KeepsNext gives keeps → (items : List A) (t : Decoding D) (result : Result (Option A) E) (next : Decoding D)
      → AreItems gives s items t → Decodes gives waits fails keeps t result next → AreItems gives s (items ++ decoded_item result) next
  items_next waits fails keeps same_after items t (Ok (Some item)) next a step = record {
    rest = next;
    are = AreFirstOfRun-next (λ old item new. gives old (Item item) new) s items a.rest item next a.are ((SameNext-now gives a.rest t a.same (Item item) next).1 step);
    same = SameNext-refl gives next;
  }
  items_next waits fails keeps same_after items t result next a step =
      rw (append-nil items) (record { rest = a.rest; are = a.are; same = SameNext-trans gives a.rest t next a.same (same_after t next step.1) })

module _ {D A : Type 0} (gives : Gives D A) where
  pub decoder_run : {E : Type 0} (waits : Decoding D → Type 0) (fails : Decoding D → E → Type 0) (keeps : Decoding D → Decoding D → Type 0) → IsStable gives → KeepsNext gives keeps → DecoderRunLaw E gives waits fails keeps
  decoder_run waits fails keeps stable same_after s events end run = run_keeps fed (Decodes gives waits fails keeps) (λ bytes results t. AreItems gives (fed s bytes) (flat_map decoded_item results) t)
      (λ bytes results t piece a. items_fed gives s stable bytes (flat_map decoded_item results) t piece a)
      (λ bytes results t result next a step. rw (flat_map-append decoded_item results (result ∷ []), append-nil (decoded_item result))
      (items_next gives (fed s bytes) waits fails keeps same_after (flat_map decoded_item results) t result next a step))
      [] [] s events end (record { rest = s; are = fed-none s; same = SameNext-refl gives s }) run

  module _ (single : IsSingle gives) where
    pub decoder_all : DecoderAllLaw gives
    decoder_all s xs ys x y a b none_x none_y =
        let same = all_first_law (λ old item new. gives old (Item item) new)
        (λ old item other p q one two. let next = single old (Item item) (Item other) p q one two in (ap (item_or item) next.0, next.1))
        s xs ys a.rest b.rest a.are b.are
        (λ item after g. none_x item after ((SameNext-now gives a.rest x a.same (Item item) after).0 g))
        (λ item after g. none_y item after ((SameNext-now gives b.rest y b.same (Item item) after).0 g)) in
        (same.0, SameNext-trans gives x b.rest y (subst (λ t. HasSameNext gives x t) same.1 (SameNext-sym gives a.rest x a.same)) b.same)

    lacks_at_end : (s : Decoding D) (last : Option A) (p : Decoding D) → gives s (Last last) p → LacksItem gives s
    lacks_at_end s last p ends item after g = subst is_item (single s (Item item) (Last last) after p g ends).0 tt

    pub decoder_whole : DecoderWholeLaw gives
    decoder_whole s xs ys x y last other p q a b ends_x ends_y =
        let all = decoder_all s xs ys x y a b (lacks_at_end x last p ends_x) (lacks_at_end y other q ends_y) in
        let ends = single y (Last last) (Last other) p q ((SameNext-now gives x y all.1 (Last last) p).0 ends_x) ends_y in
        (all.0, ap last_in ends.0, ends.1)
