-- What a search that goes on where it stopped found, if the needle begins at no place before that one.
use Rattle.std.proofs.Common.{◌≡◌, ℕ, ◌+◌, ◌-◌, ◌<◌, ◌≤◌, max, List, [], ◌++◌, length, take, drop, None, Some, ap, ◌∙◌, sym, subst, arith, append_assoc, append-nil, take-append-drop, ⊎_elim}
use Rattle.std.proofs.lemmas.Bool.{cases_lt}
use Rattle.std.proofs.lemmas.List.{length-take-le}
use Rattle.memchr.specs.Find.{FindsNeedle}
use Rattle.memchr.proofs.lemmas.MatchLemmas.{OccursAt-part, OccursAt-split}
use Rattle.bytes_utils.specs.Occurrence.{Occurs, OccursAt, OccursFirstAt}
use Rattle.bytes_utils.proofs.Boundaries.{HasNeedleAt-from_occurs, OccursAt-fits}
use Rattle.bytes_utils.proofs.OccurrenceLemmas.{OccursAt-front}
use Rattle.bytes_utils_codec.specs.Frames.{TakesFrame}
use Rattle.bytes_utils_codec.specs.Search.{NoneBeginsInSearch}

-- a piece is pushed
pub NoneBeginsInSearch-more : (p bytes piece : List ℕ) (from : ℕ) → NoneBeginsInSearch p bytes from → NoneBeginsInSearch p (bytes ++ piece) from
NoneBeginsInSearch-more p bytes piece from none more k here = none (piece ++ more) k (subst (λ l. OccursAt p l k) (append_assoc bytes piece more) here)

module _ (p bytes : List ℕ) (from : ℕ) (some : 0 < length p) (none : NoneBeginsInSearch p bytes from) where
  begins_on : (k : ℕ) → OccursAt p bytes k → from ≤ k
  begins_on k here = none [] k (subst (λ l. OccursAt p l k) (sym (append-nil bytes)) here)

  -- the needle is nowhere
  pub nowhere_left : FindsNeedle bytes p from None → ¬ Occurs p bytes
  nowhere_left missed (k, here) = missed k (begins_on k here) (omega (arith, OccursAt-fits p bytes k some here)) (HasNeedleAt-from_occurs p bytes k some here)

  -- so all these bytes were searched
  pub NoneBeginsInSearch-missed : FindsNeedle bytes p from None → NoneBeginsInSearch p bytes (max from (length bytes - (length p - 1)))
  NoneBeginsInSearch-missed missed more k here =
      let low = none more k here in
      ⊎_elim (λ below. absurd (nowhere_left missed (k, OccursAt-front p bytes more k here (omega (arith, below, some))))) (λ on. omega (arith, low, on))
      (cases_lt k (length bytes - (length p - 1)))

  module _ (at : ℕ) (found : FindsNeedle bytes p from (Some at)) where
    -- the first place from there on is the first of all
    pub first_of_all : OccursFirstAt p bytes at
    first_of_all = record {
      here = OccursAt-part bytes p at found.1;
      none_before = λ k here.
          ⊎_elim (λ below. absurd (found.0.before k (begins_on k here) below (HasNeedleAt-from_occurs p bytes k some here))) (λ on. on) (cases_lt k at);
    }

    -- what is before it, and what is after it
    pub frame_of_all : TakesFrame p bytes (take at bytes) (drop (at + length p) bytes)
    frame_of_all =
        let size : length (take at bytes) ≡ at = length-take-le at bytes (omega (arith, found.1.fits)) in
        record {
          bytes = sym (take-append-drop at bytes) ∙ ap (λ l. take at bytes ++ l) (OccursAt-split bytes p at found.1);
          first = subst (OccursFirstAt p bytes) (sym size) first_of_all;
        }
