use Rattle.std.proofs.Common.{◌≡◌, ℕ, List, ◌+◌, ◌-◌, ◌<◌, nat_lt, length, map, arith, rules, ap, ◌∙◌}
use Rattle.std.proofs.lemmas.Fn.{filter_same}
use Rattle.std.proofs.lemmas.List.{length-map}
use Rattle.std.proofs.lemmas.List.Elements.{All-same}
use Rattle.std.specs.List.{concat, filter}
use Rattle.bytes_utils_buf.specs.Segments.{count_unread_segments, unread_segments}
use Rattle.bytes_utils_buf.proofs.Lists.{map-filter_unread, concat-unread_segments, NoSegmentEmpty-unread_segments, length-unread_segments}
use Rattle.bytes_utils_buf.proofs.segmented.buf.SegmentedBuf.from_deque.Goals as goal

-- the buffers that are left have the lists that aren't empty, and the others were dropped
accepted : {X : Type 0} (f : X → List ℕ) (items kept : List X) (given left : ℕ) → kept ≡ filter (λ x. nat_lt 0 (length (f x))) items → given ≡ length items
    → left ≡ length kept → (let lists = map f items in
    (map f kept ≡ unread_segments lists) × (0 + given ≡ 0 + length lists) × (0 + (given - left) ≡ 0 + (length lists - count_unread_segments lists)))
accepted f items kept given left filtered size rest =
    let held = ap (map f) filtered ∙ map-filter_unread f items in (
      held,
      omega (arith, size, length-map items f),
      omega (arith, size, rest, ap length held, length-map items f, length-map kept f),
    )

pub invariant_of-result : goal.invariant_of-result
invariant_of-result g c =
    let f = g.B.Buf.unread in
    let items = c.args.bufs.items in
    let kept = filter_same _ (λ x. nat_lt 0 (length (f x))) _ (λ x b f' k. search rules) items _ c.retain.ensures.filtered in
    let is = accepted f items c.retain.new.self.items c.len-given.result c.len.result kept (search rules) (search rules) in (
      omega (arith, c.in-Some.ensures.1, ap (λ l. length (concat l)) is.0, ap length (concat-unread_segments (map f items))),
      All-same (λ s. 0 < length s) _ _ is.0 (NoSegmentEmpty-unread_segments (map f items)),
      rw (c.call.ensures, c.give.ensures, c.new-tally.ensures) (omega (arith, ap length is.0, length-unread_segments (map f items), is.1, is.2)),
    )

pub returns-clause-ok : goal.returns-clause-ok
returns-clause-ok g c =
    let f = g.B.Buf.unread in
    let items = c.args.bufs.items in
    let kept = filter_same _ (λ x. nat_lt 0 (length (f x))) _ (λ x b f' k. search rules) items _ c.retain.ensures.filtered in
    let is = accepted f items c.retain.new.self.items c.len-given.result c.len.result kept (search rules) (search rules) in
    rw (c.call.ensures, c.give.ensures, c.new-tally.ensures)
    (λ i. record { segments = is.0 i; tally = record { given = is.1 i; dropped = is.2 i; calls = 1; turns = 0 } })

pub returns-clause-bytes : goal.returns-clause-bytes
returns-clause-bytes g c =
    ap (λ q. concat q.segments) (returns-clause-ok g c) ∙ concat-unread_segments (map g.B.Buf.unread c.args.bufs.items)
