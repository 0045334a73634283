-- No call leaves more bytes than a `usize` can count.
use Rattle.std.proofs.Common.{◌≡◌, ap, ℕ, ◌+◌, ◌<◌, ◌^◌, List, [], ◌∷◌, Option, None, Some, length, length-drop, append-nil, arith}
use Rattle.std.specs.List.{concat}
use Rattle.bytes_utils_buf.specs.Segments.{HeldSegments, SkipsSegments, after_accepting}
use Rattle.bytes_utils_buf.proofs.Lists.{length-concat-accepted}
use Rattle.bytes_utils_run.specs.Calls.{IsCallOnBytes, CallSkipsOrKeeps, skipped_by_read}
use Rattle.bytes_utils_run.specs.declared.calls.call.Call.{Call}
use Rattle.bytes_utils_run.specs.declared.calls.call.Call.TheVariants.{Push, Segments, Read}
use Rattle.bytes_utils_run.specs.declared.calls.call.Reply.{Reply}
use Rattle.bytes_utils_run.specs.declared.calls.call.Reply.TheVariants.{Done, TooLong, NoMemory, Number}

-- the number of bytes to read fits `usize`
abbrev pub Fits : List (List ℕ) → Type 0
Fits lists = length (concat lists) < 2 ^ 64

fits-same : (old new : List (List ℕ)) → new ≡ old → Fits old → Fits new
fits-same old new same fits = omega (arith, fits, ap (λ z. length (concat z)) same)

pub fits-skip : (n : ℕ) (old new : List (List ℕ)) → SkipsSegments n old new → Fits old → Fits new
fits-skip n old new skips fits = omega (arith, fits, ap length skips.bytes, length-drop n (concat old))

fits-left : (skipped : Option ℕ) (old new : List (List ℕ)) → CallSkipsOrKeeps skipped old new → Fits old → Fits new
fits-left (Some n) old new skips = fits-skip n old new skips
fits-left None old new same = fits-same old new same

pub fits-accepting : (old : HeldSegments) (bytes : List ℕ) → length (concat old.segments) + length bytes < 2 ^ 64 → Fits (after_accepting old (bytes ∷ [])).segments
fits-accepting old bytes room = omega (arith, room, length-concat-accepted old.segments (bytes ∷ []), ap length (append-nil bytes))

pub fits-call : (call : Call (List ℕ)) (old : HeldSegments) (reply : Reply) (new : HeldSegments) → IsCallOnBytes call old reply new → Fits old.segments → Fits new.segments
fits-call (Push bytes) old Done new is = λ fits. fits-same _ _ (ap (λ held. held.segments) is.1) (fits-accepting old bytes is.0)
fits-call (Push bytes) old TooLong new is = fits-same _ _ (ap (λ held. held.segments) is.1)
fits-call (Push bytes) old NoMemory new is = fits-same _ _ (ap (λ held. held.segments) is.2)
fits-call Segments old (Number n) new is = fits-same _ _ (ap (λ held. held.segments) is.1)
fits-call (Read call) old reply new is = fits-left (skipped_by_read call reply) _ _ is.0.2
fits-call call old reply new is = absurd is
