-- Accepted buffers, and what pays for them.
use Rattle.std.proofs.Common.{◌≡◌, ℕ, ◌+◌, ◌-◌, ◌<◌, List, [], ◌∷◌, ◌++◌, length, arith, ap, ◌∙◌, length-append}
use Rattle.std.proofs.lemmas.List.{length_push}
use Rattle.std.proofs.lemmas.List.Elements.{All-same}
use Rattle.std.specs.List.{concat}
use Rattle.bytes_utils_buf.specs.Segments.{HeldSegments, NoSegmentEmpty, count_unread_segments, unread_segments, after_accepting}
use Rattle.bytes_utils_buf.specs.Tally.{IsBalanced, Tallied}
use Rattle.bytes_utils_buf.proofs.Lists.{NoSegmentEmpty-accepted, accepted_more, concat-accepted, length-accepted, length-concat-accepted, length-unread_segments, unread_segments-append}

-- one buffer, accepted without a counted call
abbrev pub with_one : HeldSegments → List ℕ → HeldSegments
with_one held y =
    record {
      segments = held.segments ++ unread_segments (y ∷ []);
      tally = record {
        given = held.tally.given + 1;
        dropped = held.tally.dropped + (1 - count_unread_segments (y ∷ []));
        calls = held.tally.calls;
        turns = held.tally.turns;
      };
    }

-- a call that has accepted some buffers accepts one more
pub with_one-accepting : (held : HeldSegments) (ys : List (List ℕ)) (y : List ℕ) → with_one (after_accepting held ys) y ≡ after_accepting held (ys ++ y ∷ [])
with_one-accepting held ys y = grind (arith, accepted_more, length-append, length-unread_segments, length_push, unread_segments-append)

-- the bytes to read are followed by those of the accepted lists
pub concat-accepting : (held : HeldSegments) (ys : List (List ℕ)) → concat (after_accepting held ys).segments ≡ concat held.segments ++ concat ys
concat-accepting held ys = concat-accepted held.segments ys

-- what is true of every value stays true with one more buffer
pub one_more : (old new : List (List ℕ)) (y : List ℕ) (remaining next : ℕ) (tally : Tallied) → new ≡ old ++ unread_segments (y ∷ []) → next ≡ remaining + length y
    → (remaining ≡ length (concat old)) × NoSegmentEmpty old × IsBalanced old tally
    → (next ≡ length (concat new)) × NoSegmentEmpty new
    × IsBalanced new (record { given = tally.given + 1; dropped = tally.dropped + (1 - count_unread_segments (y ∷ [])); calls = tally.calls; turns = tally.turns })
one_more old new y remaining next tally lists sum is = (
  omega (arith, ap (λ l. length (concat l)) lists ∙ length-concat-accepted old (y ∷ []), length-append y [], is.0, sum),
  All-same (λ s. 0 < length s) _ _ lists (NoSegmentEmpty-accepted old (y ∷ []) is.1),
  omega (arith, ap length lists, length-accepted old (y ∷ []), is.2),
)
