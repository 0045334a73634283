-- Segments moved one by one from a queue of bytes, and to one.
use Rattle.std.proofs.Common.{◌≡◌, ℕ, ◌+◌, List, [], ◌∷◌, ◌++◌, length, arith, ap, ◌∙◌, sym, append_assoc}
use Rattle.std.proofs.lemmas.List.{length_push}
use Rattle.std.specs.List.{concat}
use Rattle.bytes.proofs.Chunks.{concat_push}
use Rattle.bytes_utils_buf.specs.Segments.{HeldSegments}

-- ---- from a queue

-- a value after a counted call that moved these lists in
abbrev pub with_moved : HeldSegments → List (List ℕ) → HeldSegments
with_moved held moved =
    record {
      segments = held.segments ++ moved;
      tally = record {
        given = held.tally.given + length moved;
        dropped = held.tally.dropped;
        calls = held.tally.calls + 1;
        turns = held.tally.turns;
      };
    }

-- one more chunk, moved in without a counted call
abbrev pub with_chunk : HeldSegments → List ℕ → HeldSegments
with_chunk held chunk =
    record {
      segments = held.segments ++ chunk ∷ [];
      tally = record {
        given = held.tally.given + 1;
        dropped = held.tally.dropped;
        calls = held.tally.calls;
        turns = held.tally.turns;
      };
    }

pub with_chunk-moved : (held : HeldSegments) (moved : List (List ℕ)) (chunk : List ℕ) → with_chunk (with_moved held moved) chunk ≡ with_moved held (moved ++ chunk ∷ [])
with_chunk-moved held moved chunk = grind (arith, append_assoc, length_push)

-- the first chunk of the queue is moved too
pub moved-more : (moved : List (List ℕ)) (chunk queue rest all : List ℕ) → concat moved ++ queue ≡ all → queue ≡ chunk ++ rest
    → concat (moved ++ chunk ∷ []) ++ rest ≡ all
moved-more moved chunk queue rest all before split =
    ap (λ l. l ++ rest) (concat_push moved chunk) ∙ append_assoc (concat moved) chunk rest ∙ ap (λ l. concat moved ++ l) (sym split) ∙ before

-- ---- to a queue

-- the first of the lists left is moved too
pub left-fewer : (all moved left rest : List (List ℕ)) (chunk : List ℕ) → all ≡ moved ++ left → left ≡ chunk ∷ rest
    → all ≡ (moved ++ chunk ∷ []) ++ rest
left-fewer all moved left rest chunk before split =
    before ∙ ap (λ l. moved ++ l) split ∙ sym (append_assoc moved (chunk ∷ []) rest)

pub queue-more : (first old new chunk : List ℕ) (moved : List (List ℕ)) → old ≡ first ++ concat moved → new ≡ old ++ chunk
    → new ≡ first ++ concat (moved ++ chunk ∷ [])
queue-more first old new chunk moved before push =
    push ∙ ap (λ l. l ++ chunk) before ∙ append_assoc first (concat moved) chunk ∙ ap (λ l. first ++ l) (sym (concat_push moved chunk))

pub bytes-fewer : (old new chunk : List ℕ) (left rest : List (List ℕ)) → new ≡ old ++ chunk → left ≡ chunk ∷ rest
    → new ++ concat rest ≡ old ++ concat left
bytes-fewer old new chunk left rest push split =
    ap (λ l. l ++ concat rest) push ∙ append_assoc old chunk (concat rest) ∙ ap (λ l. old ++ concat l) (sym split)
