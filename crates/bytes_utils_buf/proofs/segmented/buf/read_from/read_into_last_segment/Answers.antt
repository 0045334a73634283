use Rattle.std.proofs.Common.{◌≡◌, ◌+◌, ◌-◌, ◌<◌, ◌++◌, get_or, length, ap, ◌∙◌, rules, deque_len}
use Rattle.bytes_utils_buf.specs.Packing.{packed_bytes}
use Rattle.bytes_utils_buf.proofs.PackingLemmas.{last_is, map-grown}
use Rattle.bytes_utils_buf.proofs.Results.{IfSome-weaker}
use Rattle.bytes_utils_buf.proofs.segmented.buf.read_from.read_into_last_segment.Goals as goal

pub returns-in-Some-clause-read : goal.returns-in-Some-clause-read
returns-in-Some-clause-read g c =
    let segments = c.args.segments.now in
    let last = c.in-Some.last.now in
    let some : 0 < length segments.items = search rules in
    let here : last ≡ get_or segments.items (length segments.items - 1) last = search rules in
    let size : deque_len segments - 1 + 1 ≡ length segments.items = search rules in
    IfSome-weaker c.read_into_segment.result _ _ (λ count read. (
      read.0,
      read.1,
      map-grown packed_bytes segments.items (deque_len segments - 1) _ read.0 size
          (read.2 ∙ ap (λ l. l ++ read.0) (last_is packed_bytes segments.items last some here)),
    )) c.read_into_segment.ensures.read
