-- Items that a decoder takes off the front of the bytes of a stream.
use Rattle.std.specs.Prelude.{◌≡◌, ◌↔◌, ◌⊎◌, ℕ, List, [], ◌∷◌, ◌++◌, drop, Option, None, Some, Result, Ok, Err}
use Rattle.std.specs.Io.KnownBytes.{Consumes}
use Rattle.std.specs.List.{concat, flat_map}
use Rattle.bytes_utils_buf.specs.Packing.{Packing}
use Rattle.bytes_utils_codec.specs.StreamRuns.{StreamEvent, IsRunOver, pushed_in_stream, given_in_stream, AreFirstOfRun}

-- a decoder D, the bytes that it has not taken yet, and the greatest length of a piece that is copied to those before it
pub record Decoding (D : Type 0) : Type 0 where
  pub decoder : D
  pub held : List ℕ
  pub threshold : ℕ

abbrev pub decoding : {D : Type 0} → D → Packing → Decoding D
decoding decoder pieces = record { decoder = decoder; held = concat pieces.held.segments; threshold = pieces.threshold }

-- a decoder that holds no bytes
abbrev pub starting : {D : Type 0} → D → ℕ → Decoding D
starting decoder threshold = record { decoder = decoder; held = []; threshold = threshold }

-- what comes next: an item, or the last item or none, if no byte follows those held
pub data Next (A : Type 0) : Type 0 where
  Item : A → Next A
  Last : Option A → Next A

-- what a decoder D of items A gives: the state before, what comes next, and the state after
abbrev pub Gives : Type 0 → Type 0 → Type 1
Gives D A = Decoding D → Next A → Decoding D → Type 0

-- bytes come after those held
abbrev pub fed : {D : Type 0} → Decoding D → List ℕ → Decoding D
fed s piece = record s { held = s.held ++ piece }

-- a reader gave some bytes, and they come after those held
pub record IsFedBy {D : Type 0} (before after : Option (List ℕ)) (old new : Decoding D) : Type 0 where
  pub got : List ℕ
  pub consumed : Consumes before after got
  pub are : new ≡ fed old got

-- whatever bytes follow, the same comes next
abbrev pub HasSameNext : {D A : Type 0} → Gives D A → Decoding D → Decoding D → Type 0
HasSameNext {D} {A} gives s t = (more : List ℕ) (next : Next A) (after : Decoding D) → gives (fed s more) next after ↔ gives (fed t more) next after

-- no item is there
abbrev pub LacksItem : {D A : Type 0} → Gives D A → Decoding D → Type 0
LacksItem {D} {A} gives s = (item : A) (after : Decoding D) → ¬ gives s (Item item) after

-- after a call that gave no item the same comes next; `keeps` says what such a call leaves of a state
abbrev pub KeepsNext : {D A : Type 0} → Gives D A → (Decoding D → Decoding D → Type 0) → Type 0
KeepsNext {D} gives keeps = (old new : Decoding D) → keeps old new → HasSameNext gives old new

-- what a call for the next item did, by what it returned
abbrev pub Decodes : {D A E : Type 0} → Gives D A → (Decoding D → Type 0) → (Decoding D → E → Type 0) → (Decoding D → Decoding D → Type 0) → Decoding D → Result (Option A) E → Decoding D → Type 0
Decodes gives waits fails keeps old (Ok (Some item)) new = gives old (Item item) new
Decodes gives waits fails keeps old (Ok None) new = waits old × keeps old new
Decodes gives waits fails keeps old (Err error) new = fails old error × keeps old new

-- The same of a call at the end of the stream. It fails for what has come, or for what this end alone ends.
abbrev pub DecodesAtEnd : {D A E : Type 0} → Gives D A → (Decoding D → E → Type 0) → (Decoding D → E → Type 0) → (Decoding D → Decoding D → Type 0)
    → Decoding D → Result (Option A) E → Decoding D → Type 0
DecodesAtEnd gives fails fails_at_end keeps old (Ok (Some item)) new = gives old (Item item) new ⊎ gives old (Last (Some item)) new
DecodesAtEnd gives fails fails_at_end keeps old (Ok None) new = gives old (Last None) new
DecodesAtEnd gives fails fails_at_end keeps old (Err error) new = (fails old error ⊎ fails_at_end old error) × keeps old new

-- the first bytes are gone, and the decoder begins at the front of those after them
abbrev pub passed : {D : Type 0} → (D → D) → ℕ → Decoding D → Decoding D
passed restarted len s = record s { decoder = restarted s.decoder; held = drop len s.held }

-- bytes that follow change no item that is there
abbrev pub IsStable : {D A : Type 0} → Gives D A → Type 0
IsStable {D} {A} gives =
    (old : Decoding D) (item : A) (new : Decoding D) (more : List ℕ) → gives old (Item item) new → gives (fed old more) (Item item) (fed new more)

-- at most one thing comes next
abbrev pub IsSingle : {D A : Type 0} → Gives D A → Type 0
IsSingle {D} {A} gives =
    (s : Decoding D) (next other : Next A) (x y : Decoding D) → gives s next x → gives s other y → (next ≡ other) × (x ≡ y)

-- while the decoder waits no item is there
abbrev pub WaitsForItem : {D A : Type 0} → Gives D A → (Decoding D → Type 0) → Type 0
WaitsForItem {D} gives waits = (s : Decoding D) → waits s → LacksItem gives s

-- the item that a call returned, if it did
abbrev pub decoded_item : {A E : Type 0} → Result (Option A) E → List A
decoded_item (Ok (Some item)) = item ∷ []
decoded_item (Ok None) = []
decoded_item (Err error) = []

-- these are the first items of a state, in order, and what comes next at the end is what comes after them
pub record AreItems {D A : Type 0} (gives : Gives D A) (s : Decoding D) (items : List A) (end : Decoding D) : Type 0 where
  pub rest : Decoding D
  pub are : AreFirstOfRun (λ old item new. gives old (Item item) new) s items rest
  pub same : HasSameNext gives rest end

-- Whatever the pieces are and whenever items are asked for, a run gives the first items of the joined pieces. Its items are those of the calls that
-- returned one.
abbrev pub DecoderRunLaw : {D A : Type 0} → (E : Type 0) → Gives D A → (Decoding D → Type 0) → (Decoding D → E → Type 0) → (Decoding D → Decoding D → Type 0) → Type 0
DecoderRunLaw {D} {A} E gives waits fails keeps = (s : Decoding D) (events : List (StreamEvent (Result (Option A) E))) (end : Decoding D)
    → IsRunOver fed (Decodes gives waits fails keeps) s events end → AreItems gives (fed s (pushed_in_stream events)) (flat_map decoded_item (given_in_stream events)) end

-- Two lists of items of the same bytes after which no item is there are the same, and then the same comes next.
abbrev pub DecoderAllLaw : {D A : Type 0} → Gives D A → Type 0
DecoderAllLaw {D} {A} gives = (s : Decoding D) (xs ys : List A) (x y : Decoding D) → AreItems gives s xs x → AreItems gives s ys y
    → LacksItem gives x → LacksItem gives y → (xs ≡ ys) × HasSameNext gives x y

-- the same at the end of the stream: the last items are the same, too, and what is left
abbrev pub DecoderWholeLaw : {D A : Type 0} → Gives D A → Type 0
DecoderWholeLaw {D} {A} gives = (s : Decoding D) (xs ys : List A) (x y : Decoding D) (last other : Option A) (p q : Decoding D)
    → AreItems gives s xs x → AreItems gives s ys y → gives x (Last last) p → gives y (Last other) q → (xs ≡ ys) × (last ≡ other) × (p ≡ q)
