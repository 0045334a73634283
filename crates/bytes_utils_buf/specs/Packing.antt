-- Pieces of a stream, of which small ones are copied together. The held lists are then few: two neighbours hold more than a threshold.
use Rattle.std.specs.Prelude.{◌≡◌, ◌⊎◌, ⊤, ℕ, ◌+◌, ◌<◌, List, [], ◌∷◌, ◌++◌, length}
use Rattle.bytes.specs.Filled.{Filled}
use Rattle.bytes_utils_buf.specs.Either.{unread_of}
use Rattle.bytes_utils_buf.specs.Segments.{HeldSegments, after_accepting}
use Rattle.bytes_utils_buf.specs.declared.either_buf.EitherBuf.{EitherBuf}

-- what clauses see of a `PackedBuf`
pub record Packing : Type 0 where
  pub held : HeldSegments
  pub threshold : ℕ

-- the unread bytes of a piece: shared bytes, or a block that can grow
abbrev pub packed_bytes : EitherBuf (List ℕ) Filled → List ℕ
packed_bytes = unread_of (λ bytes. bytes) (λ block. block.items)

-- any two neighbours hold more than n bytes together
abbrev pub PairsArePacked : ℕ → List (List ℕ) → Type 0
PairsArePacked n [] = ⊤
PairsArePacked n (s ∷ []) = ⊤
PairsArePacked n (s ∷ t ∷ rest) = (n < length s + length t) × PairsArePacked n (t ∷ rest)

-- the same, except for the first list, which may be what reading left of a longer one
abbrev pub IsPacked : ℕ → List (List ℕ) → Type 0
IsPacked n [] = ⊤
IsPacked n (s ∷ rest) = PairsArePacked n rest

-- the last list, or no bytes if there is none
abbrev pub last_packed : List (List ℕ) → List ℕ
last_packed [] = []
last_packed (s ∷ []) = s
last_packed (s ∷ t ∷ rest) = last_packed (t ∷ rest)

-- more bytes follow those of the last list
abbrev pub pack_into_last : List ℕ → List (List ℕ) → List (List ℕ)
pack_into_last more [] = []
pack_into_last more (s ∷ []) = (s ++ more) ∷ []
pack_into_last more (s ∷ t ∷ rest) = s ∷ pack_into_last more (t ∷ rest)

-- A value after a counted call that copies a piece to the end of the last segment. In the ledger the piece is given, and dropped at once, since it is
-- no segment.
abbrev pub after_packing : HeldSegments → List ℕ → HeldSegments
after_packing held piece =
    record {
      segments = pack_into_last piece held.segments;
      tally = record {
        given = held.tally.given + 1;
        dropped = held.tally.dropped + 1;
        calls = held.tally.calls + 1;
        turns = held.tally.turns;
      };
    }

-- a piece is accepted as a segment of its own, or copied to the end of the last one
abbrev pub Packs : List ℕ → HeldSegments → HeldSegments → Type 0
Packs piece old new = (new ≡ after_accepting old (piece ∷ [])) ⊎ ((0 < length old.segments) × (new ≡ after_packing old piece))
