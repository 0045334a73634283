-- Bytes from a reader, and the items taken from them.
use Rattle.std.proofs.Common.{◌≡◌, refl, sym, subst, ◌∙◌, ℕ, List, [], ◌∷◌, ◌++◌, Option, None, Some, Result, Ok, Err, inl, inr}
use Rattle.std.proofs.KnownBytes.{Consumes-nil, Consumes-trans, Consumes-whole}
use Rattle.std.specs.Prelude.{◌⊎◌, IfOk, IfErr, IfSome, IfNone, OnErr}
use Rattle.std.specs.Io.KnownBytes.{Consumes, IsAtEnd, Keeps}
use Rattle.bytes_utils_codec.specs.Decoding.{Decoding, IsFedBy, Next, Item, Last, Gives, fed, Decodes, DecodesAtEnd, HasSameNext, KeepsNext, IsStable, IsSingle, AreItems}
use Rattle.bytes_utils_codec.specs.ReadItem.{ReadsNext, ReadsMore, IsItemDue, IsLeftWaiting, IsReadDue, IsReadItemErrorOfDecoder, read_items_of, ReadItemsLaw, ReadWholeLaw, ReadSameLaw}
use Rattle.bytes_utils_codec.specs.declared.decode.read.error.ReadItemError.{ReadItemError}
use Rattle.bytes_utils_codec.specs.declared.decode.read.error.ReadItemError.TheVariants.{Decoder, Io, TooManyReads}
use Rattle.bytes_utils_codec.proofs.DecodingLemmas.{fed-none, fed-joined, SameNext-refl, SameNext-trans, SameNext-fed, SameNext-now, items_fed, decoder_whole}

-- a read that failed gave no byte
pub fed_by_none : {D : Type 0} (b c : Option (List ℕ)) (old new : Decoding D) → Keeps b c → new ≡ old → IsFedBy b c old new
fed_by_none b c old new keeps same = record { got = []; consumed = none b c keeps; are = same ∙ sym (fed-none old) }
  where
    none : (b c : Option (List ℕ)) → Keeps b c → Consumes b c []
    none None c keeps = tt
    none (Some xs) None keeps = absurd keeps
    none (Some xs) (Some ys) keeps = sym keeps

-- ---- the cause of an error

module _ {D A E : Type 0} (gives : Gives D A) (waits : Decoding D → Type 0) (fails fails_at_end : Decoding D → E → Type 0)
    (keeps : Decoding D → Decoding D → Type 0) (left : Option (List ℕ)) (s t : Decoding D) where
  pub held_due : (e : ReadItemError E) → Decodes gives waits (IsReadItemErrorOfDecoder fails) keeps s (Err e) t → IsItemDue waits fails fails_at_end keeps left t e
  held_due (Decoder e) took = (s, inl took.0, took.1)
  held_due (Io e) took = absurd took.0
  held_due TooManyReads took = absurd took.0

  -- a read failed, and changed nothing
  pub read_due : t ≡ s → IsLeftWaiting waits keeps s → (e : ReadItemError E) → IsReadDue e → IsItemDue waits fails fails_at_end keeps left t e
  read_due same waiting (Decoder e) due = absurd due
  read_due same waiting (Io e) due = (subst (IsLeftWaiting waits keeps) (sym same) waiting, due)
  read_due same waiting TooManyReads due = absurd due

  pub last_due : IsAtEnd left → (r : Result (Option A) (ReadItemError E))
      → DecodesAtEnd gives (IsReadItemErrorOfDecoder fails) (IsReadItemErrorOfDecoder fails_at_end) keeps s r t → IfErr r (IsItemDue waits fails fails_at_end keeps left t)
  last_due ends (Ok last) took = tt
  last_due ends (Err (Decoder e)) (inl fault, keep) = (s, inl fault, keep)
  last_due ends (Err (Decoder e)) (inr fault, keep) = (s, inr (ends, fault), keep)
  last_due ends (Err (Io e)) (inl fault, keep) = absurd fault
  last_due ends (Err (Io e)) (inr fault, keep) = absurd fault
  last_due ends (Err TooManyReads) (inl fault, keep) = absurd fault
  last_due ends (Err TooManyReads) (inr fault, keep) = absurd fault

-- ---- what was read

module _ {D A : Type 0} (gives : Gives D A) where
  -- nothing was read yet
  pub ReadsMore-none : (known : Option (List ℕ)) (old new : Decoding D) → HasSameNext gives old new → ReadsMore gives known known old new
  ReadsMore-none known old new same = record {
    got = [];
    consumed = Consumes-nil known;
    same = subst (λ s. HasSameNext gives s new) (sym (fed-none old)) same;
  }

  module _ {a b : Option (List ℕ)} {old mid : Decoding D} (reads : ReadsMore gives a b old mid) where
    -- more bytes were read
    pub ReadsMore-read : (c : Option (List ℕ)) (new : Decoding D) → IsFedBy b c mid new → ReadsMore gives a c old new
    ReadsMore-read c new read = record {
      got = reads.got ++ read.got;
      consumed = Consumes-trans a b c reads.got read.got reads.consumed read.consumed;
      same = subst (λ s. HasSameNext gives s new) (fed-joined old reads.got read.got)
          (subst (HasSameNext gives (fed (fed old reads.got) read.got)) (sym read.are) (SameNext-fed gives (fed old reads.got) mid read.got reads.same));
    }

    -- the same comes next as before
    pub ReadsMore-same : (new : Decoding D) → HasSameNext gives mid new → ReadsMore gives a b old new
    ReadsMore-same new same = record {
      got = reads.got;
      consumed = reads.consumed;
      same = SameNext-trans gives (fed old reads.got) mid new reads.same same;
    }

    -- what comes next was taken
    pub ReadsNext-taken : (next : Next A) (new : Decoding D) → gives mid next new → ReadsNext gives a b old next new
    ReadsNext-taken next new given = record {
      got = reads.got;
      consumed = reads.consumed;
      given = (SameNext-now gives (fed old reads.got) mid reads.same next new).1 given;
    }

  -- ---- the end of the input

  module _ {E : Type 0} (fails fails_at_end : Decoding D → ReadItemError E → Type 0) (keeps : Decoding D → Decoding D → Type 0) {a b : Option (List ℕ)}
      {old s : Decoding D} (t : Decoding D) (reads : ReadsMore gives a b old s) where
    pub last_some : IsAtEnd b → (r : Result (Option A) (ReadItemError E)) → DecodesAtEnd gives fails fails_at_end keeps s r t
        → IfOk r (λ next. IfSome next (λ item. ReadsNext gives a b old (Item item) t ⊎ (IsAtEnd b × ReadsNext gives a b old (Last (Some item)) t)))
    last_some ends (Ok (Some item)) (inl given) = inl (ReadsNext-taken reads (Item item) t given)
    last_some ends (Ok (Some item)) (inr given) = inr (ends, ReadsNext-taken reads (Last (Some item)) t given)
    last_some ends (Ok None) took = tt
    last_some ends (Err e) took = tt

    pub last_none : IsAtEnd b → (r : Result (Option A) (ReadItemError E)) → DecodesAtEnd gives fails fails_at_end keeps s r t
        → IfOk r (λ next. IfNone next (IsAtEnd b × ReadsNext gives a b old (Last None) t))
    last_none ends (Ok (Some item)) took = tt
    last_none ends (Ok None) took = (ends, ReadsNext-taken reads (Last None) t took)
    last_none ends (Err e) took = tt

    pub last_lost : KeepsNext gives keeps → (r : Result (Option A) (ReadItemError E)) → DecodesAtEnd gives fails fails_at_end keeps s r t
        → OnErr r (ReadsMore gives a b old t)
    last_lost law (Ok last) took = tt
    last_lost law (Err e) took = ReadsMore-same reads t (law s t took.1)

  -- ---- runs

  items_same : (s t : Decoding D) (items : List A) (end : Decoding D) → HasSameNext gives s t → AreItems gives t items end → AreItems gives s items end
  items_same s t [] end same are = record {
    rest = s;
    are = refl;
    same = SameNext-trans gives s t end same (subst (λ l. HasSameNext gives l end) (sym are.are) are.same);
  }
  items_same s t (item ∷ items) end same are = record {
    rest = are.rest;
    are = (are.are.0, (SameNext-now gives s t same (Item item) are.are.0).1 are.are.1, are.are.2);
    same = are.same;
  }

  module _ (stable : IsStable gives) where
    pub read_items_law : ReadItemsLaw gives
    read_items_law before after s end [] run = (
      [],
      subst (λ known. Consumes before known []) (sym run.0) (Consumes-nil before),
      record { rest = fed s []; are = refl; same = subst (λ t. HasSameNext gives (fed s []) t) (fed-none s ∙ sym run.1) (SameNext-refl gives (fed s [])) },
    )
    read_items_law before after s end (None ∷ calls) run =
        let reads = run.2 in
        let later = read_items_law run.0 after run.1 end calls run.3 in
        let got = reads.got ++ later.0 in
        let same : HasSameNext gives (fed s got) (fed run.1 later.0) = subst (λ t. HasSameNext gives t (fed run.1 later.0)) (fed-joined s reads.got later.0)
        (SameNext-fed gives (fed s reads.got) run.1 later.0 reads.same) in (
          got,
          Consumes-trans before run.0 after reads.got later.0 reads.consumed later.1,
          items_same (fed s got) (fed run.1 later.0) (read_items_of calls) end same later.2,
        )
    read_items_law before after s end (Some item ∷ calls) run =
        let reads = run.2 in
        let later = read_items_law run.0 after run.1 end calls run.3 in
        let got = reads.got ++ later.0 in
        let given : gives (fed s got) (Item item) (fed run.1 later.0) = subst (λ t. gives t (Item item) (fed run.1 later.0)) (fed-joined s reads.got later.0)
        (stable (fed s reads.got) item run.1 later.0 reads.given) in (
          got,
          Consumes-trans before run.0 after reads.got later.0 reads.consumed later.1,
          record { rest = later.2.rest; are = (fed run.1 later.0, given, later.2.are); same = later.2.same },
        )

    pub read_whole_law : ReadWholeLaw gives
    read_whole_law input s calls last end whole =
        let run = read_items_law (Some input) whole.left s whole.mid calls whole.run in
        let end_is = whole.last_is in
        let items = items_fed gives s stable run.0 (read_items_of calls) whole.mid end_is.got run.2 in
        let all = Consumes-trans (Some input) whole.left whole.after run.0 end_is.got run.1 end_is.consumed in (
          fed whole.mid end_is.got,
          Consumes-whole (Some input) whole.after (run.0 ++ end_is.got) (λ bytes. AreItems gives (fed s bytes) (read_items_of calls) (fed whole.mid end_is.got)) all whole.ends items,
          end_is.given,
        )

    pub read_same_law : IsSingle gives → ReadSameLaw gives
    read_same_law single input s xs ys x y p q one two =
        let a = read_whole_law input s xs x p one in
        let b = read_whole_law input s ys y q two in
        decoder_whole gives single (fed s input) (read_items_of xs) (read_items_of ys) a.0 b.0 x y p q a.1 b.1 a.2 b.2
