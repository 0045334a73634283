-- What a place means that a search found: the bytes before the needle, the needle, and the bytes after it.
use Rattle.std.proofs.Common.{◌≡◌, ℕ, ◌+◌, ◌-◌, ◌≤◌, List, [], ◌∷◌, ◌++◌, length, take, drop, Option, None, Some, ap, ◌∙◌, sym, refl, subst, arith, take-append-drop, drop-drop, length-drop, ⊎_elim}
use Rattle.std.proofs.lemmas.Bool.{cases_lt}
use Rattle.std.proofs.lemmas.List.{length-take-le}
use Rattle.std.specs.Option.{IfNone, IfSome}
use Rattle.memchr.specs.Find.{FindsNeedle, OccursAt as HasNeedleAt}
use Rattle.memchr.proofs.lemmas.MatchLemmas.{OccursAt-from_part, OccursAt-part, OccursAt-split}
use Rattle.bytes_utils.specs.Occurrence.{Occurs, OccursAt, OccursFirstAt}
use Rattle.bytes_utils_codec.specs.Frames.{TakesFrame}
use Rattle.bytes_utils.proofs.Boundaries.{OccursAt-fits}

module _ (p bytes : List ℕ) (start : ℕ) where
  abbrev rest : List ℕ
  rest = drop start bytes

  -- a place in the rest, as a place in all bytes
  there-here : (j : ℕ) → OccursAt p rest j → (start + j) + length p ≤ length bytes → HasNeedleAt bytes p (start + j)
  there-here j there fits = OccursAt-from_part bytes p (start + j) fits (ap (take (length p)) (sym (drop-drop j start bytes)) ∙ there)

  module _ (at : ℕ) (found : FindsNeedle bytes p start (Some at)) where
    within : at + length p ≤ length bytes
    within = found.1.fits

    from_start : drop (at - start) rest ≡ drop at bytes
    from_start = drop-drop (at - start) start bytes ∙ ap (λ n. drop n bytes) (omega (arith, found.0.low))

    first : OccursFirstAt p rest (at - start)
    first = record {
      here = ap (take (length p)) from_start ∙ OccursAt-part bytes p at found.1;
      none_before = λ j there. ⊎_elim
          (λ below. absurd (found.0.before (start + j) (omega arith) (omega (arith, below)) (there-here j there (omega (arith, below, within)))))
          (λ from. from) (cases_lt j (at - start));
    }

    frame : TakesFrame p rest (take (at - start) rest) (drop (at + length p) bytes)
    frame =
        let size : length (take (at - start) rest) ≡ at - start = length-take-le (at - start) rest (omega (arith, within, length-drop start bytes)) in
        record {
          bytes = sym (take-append-drop (at - start) rest) ∙ ap (λ l. take (at - start) rest ++ l) (from_start ∙ OccursAt-split bytes p at found.1);
          first = subst (OccursFirstAt p rest) (sym size) first;
        }

  pub start_found : (r : Option ℕ) → FindsNeedle bytes p start r → IfSome r (λ at. start ≤ at)
  start_found None missed = tt
  start_found (Some at) found = found.0.low

  pub within_found : (r : Option ℕ) → FindsNeedle bytes p start r → IfSome r (λ at. at + length p ≤ length bytes)
  within_found None missed = tt
  within_found (Some at) found = within at found

  pub frame_found : (r : Option ℕ) → FindsNeedle bytes p start r → IfSome r (λ at. TakesFrame p rest (take (at - start) rest) (drop (at + length p) bytes))
  frame_found None missed = tt
  frame_found (Some at) found = frame at found

-- the needle isn't there, if there is a place for it
missed_everywhere : (p bytes : List ℕ) (start : ℕ) → FindsNeedle bytes p start None → start ≤ length bytes → ¬ Occurs p (drop start bytes)
missed_everywhere [] bytes start missed inside occurs =
    missed start (omega arith) (omega (arith, inside)) (OccursAt-from_part bytes [] start (omega (arith, inside)) refl)
missed_everywhere (x ∷ p) bytes start missed inside (j, there) =
    let fits = OccursAt-fits (x ∷ p) (drop start bytes) j (omega arith) there in
    let long = length-drop start bytes in
    missed (start + j) (omega arith) (omega (arith, fits, long, inside)) (there-here (x ∷ p) bytes start j there (omega (arith, fits, long, inside)))

pub none_found : (p bytes : List ℕ) (start : ℕ) (r : Option ℕ) → FindsNeedle bytes p start r → IfNone r (start ≤ length bytes → ¬ Occurs p (drop start bytes))
none_found p bytes start None missed = missed_everywhere p bytes start missed
none_found p bytes start (Some at) found = tt

-- ---- from the first byte on

pub frame_at_front : (p bytes : List ℕ) (r : Option ℕ) → FindsNeedle bytes p 0 r → IfSome r (λ at. TakesFrame p bytes (take at bytes) (drop (at + length p) bytes))
frame_at_front p bytes None missed = tt
frame_at_front p bytes (Some at) found =
    let same : at - 0 ≡ at = omega arith in
    subst (λ n. TakesFrame p bytes (take n bytes) (drop (at + length p) bytes)) same (frame p bytes 0 at found)

pub none_at_front : (p bytes : List ℕ) (r : Option ℕ) → FindsNeedle bytes p 0 r → IfNone r (¬ Occurs p bytes)
none_at_front p bytes None missed = missed_everywhere p bytes 0 missed (omega arith)
none_at_front p bytes (Some at) found = tt
