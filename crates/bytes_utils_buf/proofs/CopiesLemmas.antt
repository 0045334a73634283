-- What a refused copy out of many lists may lose.
use Rattle.std.proofs.Common.{◌≡◌, ℕ, ◌<◌, ◌≤◌, ◌⊎◌, inl, inr, List, [], ◌∷◌, length, Result, Ok, Err, IfErr, IsOk, arith, length-append}
use Rattle.std.proofs.lemmas.Bool.{cases_lt, false≢true}
use Rattle.std.specs.List.{concat}
use Rattle.bytes_utils_buf.specs.Copies.{LosesAcross}
use Rattle.bytes_utils_buf.specs.Segments.{front_segment}
use Rattle.bytes_utils_buf.specs.declared.parts.CopyRefused.{CopyRefused}

-- what it may lose of the first list and across lists is what it may lose of all bytes
pub LosesAcross-front : {T : Type 0} (loses : ℕ → ℕ → ℕ → Type 0) (xs : List (List ℕ)) (len : ℕ) (result : Result T CopyRefused) → (len ≡ 0 → IsOk result)
    → (len ≤ length (front_segment xs) → 0 < length xs → IfErr result (λ e. loses (length (front_segment xs)) len e.taken))
    → (length (front_segment xs) < len → IfErr result (λ e. (e.taken ≡ 0) ⊎ (e.taken ≡ len)))
    → IfErr result (λ e. LosesAcross loses (length (concat xs)) len e.taken)
LosesAcross-front loses xs len (Ok copy) none front across = tt
LosesAcross-front loses xs len (Err e) none front across = by xs front across (cases_lt (length (front_segment xs)) len)
  where
    by : (xs : List (List ℕ)) → (len ≤ length (front_segment xs) → 0 < length xs → loses (length (front_segment xs)) len e.taken)
        → (length (front_segment xs) < len → (e.taken ≡ 0) ⊎ (e.taken ≡ len)) → (length (front_segment xs) < len) ⊎ (len ≤ length (front_segment xs))
        → LosesAcross loses (length (concat xs)) len e.taken
    by xs front across (inl more) = inr (across more)
    by [] front across (inr within) = absurd (false≢true (none (omega (arith, within))))
    by (x ∷ xs) front across (inr within) =
        inl (length x, within, omega (arith, length-append x (concat xs)), front within (omega arith))
