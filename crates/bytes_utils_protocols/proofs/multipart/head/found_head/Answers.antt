use Rattle.std.proofs.Common.{◌≡◌, ◌+◌, ◌≤◌, true, false, length, ◌∙◌, sym, arith}
use Rattle.std.proofs.lemmas.Bool.{false≢true}
use Rattle.bytes_utils_protocols.specs.Multipart.{multipart_head_end}
use Rattle.bytes_utils_protocols.proofs.MultipartStreamLemmas.{awaits_late, head_end_found, is_set, large_late, malformed_late, unset}
use Rattle.bytes_utils_protocols.proofs.multipart.head.found_head.Goals as goal
use Rattle.bytes_utils_protocols.proofs.multipart.head.found_head.Goals.{else-next-via-then-next+else-next-whole, else-next-via-else-next}

pub returns-then-not-end : goal.returns-then-not-end
returns-then-not-end c delimiter held size is end = c.awaited_head.ensures delimiter held size is (end.lacks (unset c.args.end.has_come c.if-not-end.true))

pub returns-then-next-whole : goal.returns-then-next-whole
returns-then-next-whole c delimiter held size is end =
    let come = is_set c.args.end.has_come c.if-not-end.false in
    let fits = end.fits come in
    let whole : c.saturating_add-whole.result ≡ c.args.end.len + length multipart_head_end = omega (arith, c.saturating_add-whole.ensures, fits, size, c.ranges.all) in
    malformed_late delimiter held is.some c.args.limits c.args.next is c.args.end.len (end.here come) fits (omega (arith, whole, c.if-next-whole.true)) c.if-next.true

pub returns-then-whole-limits : goal.returns-then-whole-limits
returns-then-whole-limits c delimiter held size is end =
    let come = is_set c.args.end.has_come c.if-not-end.false in
    let fits = end.fits come in
    let whole : c.saturating_add-whole.result ≡ c.args.end.len + length multipart_head_end = omega (arith, c.saturating_add-whole.ensures, fits, size, c.ranges.all) in
    let apart : c.args.next.has_come ≡ true → c.args.end.len + length multipart_head_end ≤ c.args.next.len = λ next. elim c.else-next.branch [
      | else-next-via-then-next+else-next-whole w ↦ omega (arith, whole, w.if-next-whole.false)
      | else-next-via-else-next w ↦ absurd (false≢true (sym w.if-next.false ∙ next))
    ] in
    large_late delimiter held is.some c.args.limits c.args.next is c.args.end.len (end.here come) fits apart (omega (arith, whole, c.if-whole-limits.true))

pub returns-then-whole-next : goal.returns-then-whole-next
returns-then-whole-next c delimiter held size is end =
    let come = is_set c.args.end.has_come c.if-not-end.false in
    let fits = end.fits come in
    let whole : c.saturating_add-whole.result ≡ c.args.end.len + length multipart_head_end = omega (arith, c.saturating_add-whole.ensures, fits, size, c.ranges.all) in
    head_end_found delimiter held is.some c.args.limits c.args.next is c.args.end.len (end.here come) fits (omega (arith, whole, c.if-whole-next.true)) (omega (arith, whole, c.if-whole-limits.false))

pub returns : goal.returns
returns c delimiter held size is end =
    let come = is_set c.args.end.has_come c.if-not-end.false in
    let fits = end.fits come in
    let whole : c.saturating_add-whole.result ≡ c.args.end.len + length multipart_head_end = omega (arith, c.saturating_add-whole.ensures, fits, size, c.ranges.all) in
    let lacks : c.args.next.has_come ≡ false = elim c.else-next.branch [
      | else-next-via-then-next+else-next-whole w ↦ absurd (omega (arith, c.if-whole-next.false, w.if-next-whole.false))
      | else-next-via-else-next w ↦ w.if-next.false
    ] in
    awaits_late delimiter held is.some c.args.limits c.args.next is c.args.end.len (end.here come) fits (omega (arith, whole, c.if-whole-next.false)) lacks (omega (arith, whole, c.if-whole-limits.false))
