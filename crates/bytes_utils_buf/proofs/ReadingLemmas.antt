-- What a read adds to held lists.
use Rattle.std.proofs.Common.{◌≡◌, ℕ, zero, suc, ◌+◌, ◌<◌, ◌≤◌, List, [], ◌∷◌, ◌++◌, length, ap, ◌∙◌, sym, refl, arith, append-nil, Option, Result, Ok, Err, IfOk, OnErr}
use Rattle.std.proofs.Common.{length-append}
use Rattle.std.proofs.lemmas.List.{length_push}
use Rattle.std.proofs.lemmas.List.Elements.{All-push}
use Rattle.std.specs.List.{concat}
use Rattle.bytes.proofs.Chunks.{concat_push}
use Rattle.bytes_utils_buf.specs.Packing.{IsPacked, after_packing, pack_into_last, last_packed}
use Rattle.bytes_utils_buf.specs.Reading.{ReadGave, Reads}
use Rattle.bytes_utils_buf.specs.Segments.{HeldSegments, IsPaid, NoSegmentEmpty, after_accepting}
use Rattle.bytes_utils_buf.specs.Tally.{IsBalanced, Tallied}
use Rattle.bytes_utils_buf.proofs.PackingLemmas.{concat-pack_into_last, grown, packed-accepting, packed-grow, paid-packing}

no_bytes : (n : ℕ) (got : List ℕ) → n ≤ 0 → length got ≡ n → got ≡ []
no_bytes n [] none count = refl
no_bytes n (b ∷ got) none count = absurd (omega (arith, none, count))

grow_none : (xs : List (List ℕ)) → pack_into_last [] xs ≡ xs
grow_none [] = refl
grow_none (s ∷ []) = ap (λ s. s ∷ []) (append-nil s)
grow_none (s ∷ t ∷ xs) = ap (λ l. s ∷ l) (grow_none (t ∷ xs))

-- a read made the last list longer
abbrev pub GrowsLast : Option (List ℕ) → Option (List ℕ) → List (List ℕ) → List (List ℕ) → ℕ → Type 0
GrowsLast before after old new n = (got : List ℕ) × ReadGave before after n got × (new ≡ pack_into_last got old)

-- it gave no byte, so nothing has changed
pub grown_by_none : (before after : Option (List ℕ)) (old new : List (List ℕ)) (n : ℕ) → n ≤ 0 → GrowsLast before after old new n → new ≡ old
grown_by_none before after old new n none read = read.2 ∙ ap (λ got. pack_into_last got old) (no_bytes n read.0 none read.1.count) ∙ grow_none old

-- what is true of every `SegmentedBuf` stays true
pub grown_by_read : (before after : Option (List ℕ)) (old new : List (List ℕ)) (n remaining : ℕ) (tally : Tallied) → 0 < length old
    → GrowsLast before after old new n → (remaining ≡ length (concat old)) × NoSegmentEmpty old × IsBalanced old tally
    → (remaining + n ≡ length (concat new)) × NoSegmentEmpty new
    × IsBalanced new (record { given = tally.given + 1; dropped = tally.dropped + 1; calls = tally.calls + 1; turns = tally.turns })
grown_by_read before after old new n remaining tally some read is = rw (← read.1.count) (grown old new read.0 remaining tally some read.2 is)

-- after a call that was given one more list, and dropped this number: these are the lists
abbrev after_one_list : HeldSegments → ℕ → List (List ℕ) → HeldSegments
after_one_list old dropped lists =
    record {
      segments = lists;
      tally = record {
        given = old.tally.given + 1;
        dropped = old.tally.dropped + dropped;
        calls = old.tally.calls + 1;
        turns = old.tally.turns;
      };
    }

pub reads_last : (before after : Option (List ℕ)) (old : HeldSegments) (new : List (List ℕ)) (n : ℕ) → 0 < n → 0 < length old.segments
    → GrowsLast before after old.segments new n
    → Reads (λ got old new. new ≡ after_packing old got) before after old (after_one_list old 1 new) n
reads_last before after old new n came some read =
    record {
      got = read.0;
      gave = read.1;
      added = λ _. ap (after_one_list old 1) read.2;
      bytes = ap concat read.2 ∙ concat-pack_into_last read.0 old.segments some;
      same = λ none. absurd (omega (arith, came, none));
    }

-- a read was put after the last list
abbrev pub PushesList : Option (List ℕ) → Option (List ℕ) → List (List ℕ) → List (List ℕ) → ℕ → Type 0
PushesList before after old new n = (got : List ℕ) × ReadGave before after n got × (new ≡ old ++ got ∷ [])

-- what is true of every `SegmentedBuf` stays true
pub pushed_by_read : (before after : Option (List ℕ)) (old new : List (List ℕ)) (n remaining : ℕ) (tally : Tallied) → 0 < n
    → PushesList before after old new n → (remaining ≡ length (concat old)) × NoSegmentEmpty old × IsBalanced old tally
    → (remaining + n ≡ length (concat new)) × NoSegmentEmpty new
    × IsBalanced new (record { given = tally.given + 1; dropped = tally.dropped + 0; calls = tally.calls + 1; turns = tally.turns })
pushed_by_read before after old new n remaining tally came read is =
    let got = read.0 in
    let count = read.1.count in
    rw read.2 (
      omega (arith, ap length (concat_push old got), length-append (concat old) got, is.0, count),
      All-push (λ s. 0 < length s) old got is.1 (omega (arith, came, count)),
      omega (arith, length_push old got, is.2),
    )

accepted : (old : HeldSegments) (got : List ℕ) (new : List (List ℕ)) → 0 < length got → new ≡ old.segments ++ got ∷ []
    → after_one_list old 0 new ≡ after_accepting old (got ∷ [])
accepted old [] new some is = absurd (omega (arith, some))
accepted old (b ∷ got) new some is = ap (after_one_list old 0) is

pub reads_more : (before after : Option (List ℕ)) (old : HeldSegments) (new : List (List ℕ)) (n : ℕ) → 0 < n → PushesList before after old.segments new n
    → Reads (λ got old new. new ≡ after_accepting old (got ∷ [])) before after old (after_one_list old 0 new) n
reads_more before after old new n came (got, gave, is) =
    record {
      got = got;
      gave = gave;
      added = λ _. accepted old got new (omega (arith, came, gave.count)) is;
      bytes = ap concat is ∙ concat_push old.segments got;
      same = λ none. absurd (omega (arith, came, none));
    }

-- no byte came
pub reads_none : {how : List ℕ → HeldSegments → HeldSegments → Type 0} {before after : Option (List ℕ)} (old new : HeldSegments) (n : ℕ) (got : List ℕ) → n ≤ 0
    → ReadGave before after n got → new ≡ old → Reads how before after old new n
reads_none old new n got none gave same =
    let empty = no_bytes n got none gave.count in
    record {
      got = got;
      gave = gave;
      added = λ came. absurd (omega (arith, came, none));
      bytes = ap (λ held. concat held.segments) same ∙ sym (ap (λ l. concat old.segments ++ l) empty ∙ append-nil (concat old.segments));
      same = λ _. same;
    }

-- what holds of the value before a read, and after each way of adding bytes, holds after the read
pub after_read : {E : Type 0} (how : List ℕ → HeldSegments → HeldSegments → Type 0) (P : HeldSegments → Type 0) (before after : Option (List ℕ)) (old new : HeldSegments) (r : Result ℕ E)
    → IfOk r (λ n. Reads how before after old new n) → OnErr r (new ≡ old) → P old → ((got : List ℕ) → 0 < length got → how got old new → P new) → P new
after_read how P before after old new (Ok zero) reads same p step = rw (reads.same refl) p
after_read how P before after old new (Ok (suc n)) reads same p step =
    step reads.got (omega (arith, reads.gave.count)) (reads.added (omega arith))
after_read how P before after old new (Err _) reads same p step = rw same p

pub packed_read : {E : Type 0} (before after : Option (List ℕ)) (most : ℕ) (old new : HeldSegments) (r : Result ℕ E)
    → IfOk r (λ n. Reads (λ got old new. new ≡ after_packing old got) before after old new n) → OnErr r (new ≡ old) → IsPacked most old.segments
    → IsPacked most new.segments
packed_read before after most old new r reads same packed =
    after_read _ (λ held. IsPacked most held.segments) before after old new r reads same packed
    (λ got some is. rw is (packed-grow most got old.segments packed))

pub packed_read_alone : {E : Type 0} (before after : Option (List ℕ)) (most : ℕ) (old new : HeldSegments) (r : Result ℕ E)
    → IfOk r (λ n. Reads (λ got old new. new ≡ after_accepting old (got ∷ [])) before after old new n) → OnErr r (new ≡ old)
    → (0 < length old.segments → most ≤ length (last_packed old.segments)) → IsPacked most old.segments → IsPacked most new.segments
packed_read_alone before after most old new r reads same over packed =
    after_read _ (λ held. IsPacked most held.segments) before after old new r reads same packed
    (λ got some is. rw is (packed-accepting most old got (λ _ held. omega (arith, over held, some)) packed))

pub paid_read : {E : Type 0} (before after : Option (List ℕ)) (old new : HeldSegments) (r : Result ℕ E)
    → IfOk r (λ n. Reads (λ got old new. new ≡ after_packing old got) before after old new n) → OnErr r (new ≡ old) → IsPaid old new
paid_read before after old new r reads same =
    after_read _ (λ held. IsPaid old held) before after old new r reads same (omega arith) (λ got some is. rw is (paid-packing old got))
