-- A decoder from one relation, for one whose state never changes but for the bytes that it holds. `Takes` says what the next item is, and what is left;
-- `waits` says when more bytes have to come. At the end of the stream nothing more is taken, and what is held is left.
--
-- State them with the three facts of `AreTaken`, as `facts : AreTaken Takes waits`. The members of the decoder are then
--     ghost gives = { gives_by Takes waits };       ghost stable = { taken_stable facts };
--     ghost waits = { waits };                      ghost single = { taken_single facts };
--     ghost fails = { .. };                         ghost awaits = { taken_waits facts };
--     ghost keeps = { keeps_same };                 ghost same = { taken_same facts };
--     ghost restarted = { λ decoder. decoder };
-- Its `decode` and `decode_eof` both call one function, whose clauses are those that `decodes_by` and `ends_by` take. They then need no proof file:
--     #[tactic(auto, using(bytes_utils_codec::specs::Taking::decodes_by))]     at `decode`
--     #[tactic(auto, using(bytes_utils_codec::specs::Taking::ends_by))]        at `decode_eof`
-- The decoder of netstrings in `bytes_utils_protocols` is written so.
use Rattle.std.specs.Prelude.{◌≡◌, ℕ, List, Option, None, Some, Result, Ok, Err, IfOk, IfErr, IfSome, IfNone}
use Rattle.std.proofs.Common.{inl, ap, ◌∙◌, sym, refl, subst}
use Rattle.bytes_utils_codec.specs.Decoding.{Decoding, Gives, Item, Last, fed, HasSameNext, KeepsNext, Decodes, DecodesAtEnd, IsStable, IsSingle, WaitsForItem}

-- what a decoder D of items A takes: the state before, the item, and what is left
abbrev pub Taking : Type 0 → Type 0 → Type 1
Taking D A = Decoding D → A → Decoding D → Type 0

-- what comes next: an item; or at the end of the stream none, and what is held is left
abbrev pub gives_by : {D A : Type 0} → Taking D A → (Decoding D → Type 0) → Gives D A
gives_by Takes waits old (Item item) new = Takes old item new
gives_by Takes waits old (Last None) new = waits old × (new ≡ old)
gives_by Takes waits old (Last (Some item)) new = ⊥

-- a call that gives no item changes nothing
abbrev pub keeps_same : {D : Type 0} → Decoding D → Decoding D → Type 0
keeps_same old new = new ≡ old

-- The facts of a relation that is a decoder's.
pub record AreTaken {D A : Type 0} (Takes : Taking D A) (waits : Decoding D → Type 0) : Type 0 where
  -- bytes that follow change no item that is there
  pub more : (old : Decoding D) (item : A) (new : Decoding D) (bytes : List ℕ) → Takes old item new → Takes (fed old bytes) item (fed new bytes)
  -- two items of the same state are the same, and so is what is left
  pub same : (s : Decoding D) (a b : A) (x y : Decoding D) → Takes s a x → Takes s b y → (a ≡ b) × (x ≡ y)
  -- while more bytes have to come there is none
  pub lacks : (s : Decoding D) → waits s → (item : A) (after : Decoding D) → ¬ Takes s item after

-- ---- the laws of the decoder

module _ {D A : Type 0} {Takes : Taking D A} {waits : Decoding D → Type 0} (facts : AreTaken Takes waits) where
  pub taken_stable : IsStable (gives_by Takes waits)
  taken_stable = facts.more

  pub taken_single : IsSingle (gives_by Takes waits)
  taken_single s (Item a) (Item b) x y p q = let same = facts.same s a b x y p q in (ap Item same.0, same.1)
  taken_single s (Item a) (Last None) x y p q = absurd (facts.lacks s q.0 a x p)
  taken_single s (Last None) (Item b) x y p q = absurd (facts.lacks s p.0 b y q)
  taken_single s (Last None) (Last None) x y p q = (refl, p.1 ∙ sym q.1)
  taken_single s (Last (Some a)) next x y p q = absurd p
  taken_single s next (Last (Some b)) x y p q = absurd q

  pub taken_waits : WaitsForItem (gives_by Takes waits) waits
  taken_waits = facts.lacks

  pub taken_same : KeepsNext (gives_by Takes waits) keeps_same
  taken_same old new is = subst (HasSameNext (gives_by Takes waits) old) (sym is) (λ more next after. ((λ g. g), (λ g. g)))

-- ---- the calls, from the clauses of the function that they both call

module _ {D A E : Type 0} (Takes : Taking D A) (waits : Decoding D → Type 0) (fails : Decoding D → E → Type 0) (old new : Decoding D) where
  pub decodes_by : (r : Result (Option A) E) → IfOk r (λ next. IfSome next (λ item. Takes old item new))
      → IfOk r (λ next. IfNone next (waits old × (new ≡ old))) → IfErr r (λ error. fails old error × (new ≡ old))
      → Decodes (gives_by Takes waits) waits fails keeps_same old r new
  decodes_by (Ok (Some item)) takes none err = takes
  decodes_by (Ok None) takes none err = none
  decodes_by (Err error) takes none err = err

  pub ends_by : (fails_at_end : Decoding D → E → Type 0) (r : Result (Option A) E) → IfOk r (λ next. IfSome next (λ item. Takes old item new))
      → IfOk r (λ next. IfNone next (waits old × (new ≡ old))) → IfErr r (λ error. fails old error × (new ≡ old))
      → DecodesAtEnd (gives_by Takes waits) fails fails_at_end keeps_same old r new
  ends_by fails_at_end (Ok (Some item)) takes none err = inl takes
  ends_by fails_at_end (Ok None) takes none err = none
  ends_by fails_at_end (Err error) takes none err = (inl err.0, err.1)
