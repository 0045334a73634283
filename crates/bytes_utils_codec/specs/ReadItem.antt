-- Items of a decoder read from a reader, piece by piece.
use Rattle.std.specs.Prelude.{◌≡◌, ◌≢◌, ◌⊎◌, ℕ, List, [], ◌∷◌, Option, None, Some, codes}
use Rattle.std.specs.List.{filter_map}
use Rattle.std.specs.Io.KnownBytes.{Consumes, IsAtEnd}
use Rattle.std.specs.IoError.{error_kind}
use Rattle.std.specs.declared.io.ErrorKind.TheVariants.{Interrupted}
use Rattle.bytes_utils_codec.specs.Decoding.{Decoding, Gives, Next, Item, Last, AreItems, HasSameNext, fed}
use Rattle.bytes_utils_codec.specs.declared.decode.read.error.ReadItemError.{ReadItemError}
use Rattle.bytes_utils_codec.specs.declared.decode.read.error.ReadItemError.TheVariants.{Decoder, Io, TooManyReads}

-- the reader gave some bytes, and this was what came next of the bytes that were held and these
pub record ReadsNext {D A : Type 0} (gives : Gives D A) (before after : Option (List ℕ)) (old : Decoding D) (next : Next A) (new : Decoding D) : Type 0 where
  pub got : List ℕ
  pub consumed : Consumes before after got
  pub given : gives (fed old got) next new

-- the reader gave some bytes, and nothing was taken: what comes next is what comes next of the bytes that were held and these
pub record ReadsMore {D A : Type 0} (gives : Gives D A) (before after : Option (List ℕ)) (old new : Decoding D) : Type 0 where
  pub got : List ℕ
  pub consumed : Consumes before after got
  pub same : HasSameNext gives (fed old got) new

-- what the error prints: what the decoder's error does; nothing is said of a reader's own error
abbrev pub item_error_text : {E : Type 0} → (E → Option (List ℕ)) → ReadItemError E → Option (List ℕ)
item_error_text text (Decoder error) = text error
item_error_text text (Io error) = None
item_error_text text TooManyReads = Some (codes "too many reads")

-- the error is that of a read, which is not an interruption
abbrev pub IsReadDue : {E : Type 0} → ReadItemError E → Type 0
IsReadDue (Decoder error) = ⊥
IsReadDue (Io error) = error_kind error ≢ Interrupted
IsReadDue TooManyReads = ⊥

-- the decoder waited for more bytes, and this is what its call left of the state
abbrev pub IsLeftWaiting : {D : Type 0} → (Decoding D → Type 0) → (Decoding D → Decoding D → Type 0) → Decoding D → Type 0
IsLeftWaiting {D} waits keeps new = (s : Decoding D) × waits s × keeps s new

-- The cause of each error: the decoder failed, and this is what its call left of the state; or it waited for more bytes, and a read failed, or there were
-- too many. For what the end of the stream alone ends the decoder fails only at the end of the input.
abbrev pub IsItemDue : {D E : Type 0} → (Decoding D → Type 0) → (Decoding D → E → Type 0) → (Decoding D → E → Type 0) → (Decoding D → Decoding D → Type 0)
    → Option (List ℕ) → Decoding D → ReadItemError E → Type 0
IsItemDue {D} waits fails fails_at_end keeps left new (Decoder error) = (s : Decoding D) × (fails s error ⊎ (IsAtEnd left × fails_at_end s error))
    × keeps s new
IsItemDue waits fails fails_at_end keeps left new (Io error) = IsLeftWaiting waits keeps new × (error_kind error ≢ Interrupted)
IsItemDue waits fails fails_at_end keeps left new TooManyReads = IsLeftWaiting waits keeps new

-- the error is the decoder's, which fails so in this state
abbrev pub IsReadItemErrorOfDecoder : {D E : Type 0} → (Decoding D → E → Type 0) → Decoding D → ReadItemError E → Type 0
IsReadItemErrorOfDecoder fails s (Decoder error) = fails s error
IsReadItemErrorOfDecoder fails s (Io error) = ⊥
IsReadItemErrorOfDecoder fails s TooManyReads = ⊥

-- A run of calls leads from what the reader has left and a state to both at the end. Each call is given as the item that it returned, or `None` if it
-- returned none.
abbrev pub IsReadItemRun : {D A : Type 0} → Gives D A → Option (List ℕ) → Decoding D → List (Option A) → Option (List ℕ) → Decoding D → Type 0
IsReadItemRun gives before s [] after end = (after ≡ before) × (end ≡ s)
IsReadItemRun {D} gives before s (None ∷ calls) after end = (between : Option (List ℕ)) × (t : Decoding D) × ReadsMore gives before between s t
    × IsReadItemRun gives between t calls after end
IsReadItemRun {D} gives before s (Some item ∷ calls) after end = (between : Option (List ℕ)) × (t : Decoding D) × ReadsNext gives before between s (Item item) t
    × IsReadItemRun gives between t calls after end

-- the items that the calls returned
abbrev pub read_items_of : {A : Type 0} → List (Option A) → List A
read_items_of calls = filter_map (λ given. given) calls

-- A run reads all of the input. After these calls one returned the last item, or that there is none, at the end.
pub record IsWholeRead {D A : Type 0} (gives : Gives D A) (input : List ℕ) (s : Decoding D) (calls : List (Option A)) (last : Option A) (end : Decoding D) : Type 0 where
  pub left : Option (List ℕ)
  pub mid : Decoding D
  pub run : IsReadItemRun gives (Some input) s calls left mid
  pub after : Option (List ℕ)
  pub ends : IsAtEnd after
  pub last_is : ReadsNext gives left after mid (Last last) end

-- However the bytes are divided into reads, a run gives the first items of the bytes that were held and those that the reader gave.
abbrev pub ReadItemsLaw : {D A : Type 0} → Gives D A → Type 0
ReadItemsLaw {D} {A} gives = (before after : Option (List ℕ)) (s end : Decoding D) (calls : List (Option A)) → IsReadItemRun gives before s calls after end
    → (got : List ℕ) × Consumes before after got × AreItems gives (fed s got) (read_items_of calls) end

-- A run that reads all of the input gives all items of the input, and the last one.
abbrev pub ReadWholeLaw : {D A : Type 0} → Gives D A → Type 0
ReadWholeLaw {D} {A} gives = (input : List ℕ) (s : Decoding D) (calls : List (Option A)) (last : Option A) (end : Decoding D)
    → IsWholeRead gives input s calls last end → (x : Decoding D) × AreItems gives (fed s input) (read_items_of calls) x × gives x (Last last) end

-- Two runs that read all of the same input give the same items, the same last one, and leave the same.
abbrev pub ReadSameLaw : {D A : Type 0} → Gives D A → Type 0
ReadSameLaw {D} {A} gives = (input : List ℕ) (s : Decoding D) (xs ys : List (Option A)) (x y : Option A) (p q : Decoding D)
    → IsWholeRead gives input s xs x p → IsWholeRead gives input s ys y q → (read_items_of xs ≡ read_items_of ys) × (x ≡ y) × (p ≡ q)
