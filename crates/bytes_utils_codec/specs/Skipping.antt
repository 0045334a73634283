-- A decoder by what comes next at the front of an item, for one that may first have to pass the rest of the item before it. `Passes` says which
-- state is at that front, and `From` what comes next there. While the end of that rest has not come (`Skips`) no item is there, and at the end of
-- the stream nothing is left. `Delimited` and `UniversalLines` are such decoders.
use Rattle.std.specs.Prelude.{◌≡◌, ◌⊎◌, ℕ, List, [], None}
use Rattle.std.proofs.Common.{inl, inr, ◌∙◌, sym, subst}
use Rattle.bytes_utils_codec.specs.Decoding.{Decoding, Gives, Next, Item, Last, fed, HasSameNext, IsStable, IsSingle, WaitsForItem}

-- of what is skipped up to the end of the stream nothing is left
abbrev pub skipping_ended : {D : Type 0} → (D → D) → Decoding D → Decoding D
skipping_ended restarted s = record s { decoder = restarted s.decoder; held = [] }

module _ {D A : Type 0} (Passes : Decoding D → Decoding D → Type 0) (Skips : Decoding D → Type 0) (restarted : D → D) (From : Gives D A) where
  -- what comes next: that of the front, or at the end of the stream nothing
  abbrev pub gives_skipping : Gives D A
  gives_skipping old next new = (Skips old × (next ≡ Last None) × (new ≡ skipping_ended restarted old))
      ⊎ ((mid : Decoding D) × Passes old mid × From mid next new)

  -- the facts from which the laws of the decoder follow
  pub record AreSkippingFronts (Awaits : Decoding D → Type 0) : Type 0 where
    -- at most one state is at the front, and none while something is skipped
    pub one : (s x y : Decoding D) → Passes s x → Passes s y → x ≡ y
    pub none : (s mid : Decoding D) → Skips s → ¬ Passes s mid
    -- bytes that follow change no item that is there
    pub more : (s mid new : Decoding D) (item : A) (bytes : List ℕ) → Passes s mid → From mid (Item item) new
        → Passes (fed s bytes) (fed mid bytes) × From (fed mid bytes) (Item item) (fed new bytes)
    -- at the front at most one thing comes next, and no item while more bytes have to come
    pub single : IsSingle From
    pub lacks : WaitsForItem From Awaits

  -- what comes next after one state comes next after another
  pub record SkippingLeads (s t : Decoding D) : Type 0 where
    pub passes : (mid : Decoding D) → Passes s mid
        → (there : Decoding D) × Passes t there × ((next : Next A) (after : Decoding D) → From mid next after → From there next after)
    pub skips : Skips s → Skips t
    pub ends : skipping_ended restarted s ≡ skipping_ended restarted t

-- ---- the laws of the decoder

module _ {D A : Type 0} {Passes : Decoding D → Decoding D → Type 0} {Skips : Decoding D → Type 0} {restarted : D → D} {From : Gives D A}
    {Awaits : Decoding D → Type 0} (facts : AreSkippingFronts Passes Skips restarted From Awaits) where
  abbrev gives : Gives D A
  gives = gives_skipping Passes Skips restarted From

  abbrev Leading : Decoding D → Decoding D → Type 0
  Leading = SkippingLeads Passes Skips restarted From

  leads_next : (s t : Decoding D) → Leading s t → (next : Next A) (after : Decoding D) → gives s next after → gives t next after
  leads_next s t leads next after (inl (skips, last, is)) =
      inl (leads.skips skips, last, is ∙ leads.ends)
  leads_next s t leads next after (inr (mid, passes, given)) =
      let there = leads.passes mid passes in
      inr (there.0, there.1, there.2 next after given)

  pub same_next : (s t : Decoding D) → ((more : List ℕ) → Leading (fed s more) (fed t more) × Leading (fed t more) (fed s more))
      → HasSameNext gives s t
  same_next s t leads more next after =
      (leads_next (fed s more) (fed t more) (leads more).0 next after, leads_next (fed t more) (fed s more) (leads more).1 next after)

  pub same_trans : (s t u : Decoding D) → HasSameNext gives s t → HasSameNext gives t u → HasSameNext gives s u
  same_trans s t u first later more next after =
      ((λ g. (later more next after).0 ((first more next after).0 g)), (λ g. (first more next after).1 ((later more next after).1 g)))

  pub skipping_stable : IsStable gives
  skipping_stable old item new bytes (inl (skips, last, is)) = absurd cc
  skipping_stable old item new bytes (inr (mid, passes, given)) =
      let more = facts.more old mid new item bytes passes given in
      inr (fed mid bytes, more.0, more.1)

  pub skipping_single : IsSingle gives
  skipping_single s next other x y (inl a) (inl b) = (a.1 ∙ sym b.1, a.2 ∙ sym b.2)
  skipping_single s next other x y (inl a) (inr b) = absurd (facts.none s b.0 a.0 b.1)
  skipping_single s next other x y (inr a) (inl b) = absurd (facts.none s a.0 b.0 a.1)
  skipping_single s next other x y (inr a) (inr b) =
      facts.single b.0 next other x y (subst (λ t. From t next x) (facts.one s a.0 b.0 a.1 b.1) a.2) b.2

  pub skipping_waits : WaitsForItem gives (λ s. Skips s ⊎ ((mid : Decoding D) × Passes s mid × Awaits mid))
  skipping_waits s waits item after (inl (skips, last, is)) = absurd cc
  skipping_waits s (inl skips) item after (inr (mid, passes, given)) = facts.none s mid skips passes
  skipping_waits s (inr (front, there, awaits)) item after (inr (mid, passes, given)) =
      facts.lacks mid (subst Awaits (facts.one s front mid there passes) awaits) item after given

  -- two states that lead to the same front
  one_leads : (s t mid : Decoding D) → Passes s mid → Passes t mid → skipping_ended restarted s ≡ skipping_ended restarted t → Leading s t
  one_leads s t mid from to is = record {
    passes = λ front passes. (front, subst (Passes t) (facts.one s mid front from passes) to, λ next after given. given);
    skips = λ skips. absurd (facts.none s mid skips from);
    ends = is;
  }

  pub same_front : (s t : Decoding D) → skipping_ended restarted s ≡ skipping_ended restarted t
      → ((more : List ℕ) → (mid : Decoding D) × Passes (fed s more) mid × Passes (fed t more) mid) → HasSameNext gives s t
  same_front s t is front =
      same_next s t (λ more.
      let (mid, from, to) = front more in
      (one_leads (fed s more) (fed t more) mid from to is, one_leads (fed t more) (fed s more) mid to from (sym is)))
