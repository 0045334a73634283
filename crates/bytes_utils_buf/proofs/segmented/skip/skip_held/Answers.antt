use Rattle.std.proofs.Common.{◌≡◌, ◌+◌, ◌-◌, [], length, map, drop, get_or, arith, rules, ap, ◌∙◌, sym, length-drop}
use Rattle.std.proofs.lemmas.List.{length-map, drop-map, drop-drop}
use Rattle.bytes_utils_buf.specs.Segments.{cut_front_segment, front_segment}
use Rattle.bytes_utils_buf.proofs.Lists.{front_segment_drop, length-concat-take_more, SkipsSegments-from_count}
use Rattle.bytes_utils_buf.proofs.segmented.skip.skip_held.Goals as goal

pub loop-size-preserved-in-Some : goal.loop-size-preserved-in-Some
loop-size-preserved-in-Some g c =
    let f = g.B.Buf.unread in
    let all = c.args.segments.now.items in
    let now = c.loop-size.segments.items in
    let new = c.pop_front.new.self.items in
    let passed = length all - length now in
    let kept = c.loop-size.invariant in
    let some = c.in-Some.ensures.some in
    let fewer = ap length c.pop_front.ensures.rest in
    let more : length all - length new ≡ passed + 1 = omega (arith, kept.fewer, some.0, fewer, length-drop 1 now) in
    let front : front_segment (map f now) ≡ get_or (map f all) passed []
    = ap (λ l. front_segment (map f l)) kept.rest ∙ ap front_segment (sym (drop-map f passed all)) ∙ front_segment_drop (map f all) passed in
    let sum = length-concat-take_more (map f all) passed (omega (arith, length-map all f, kept.fewer, some.0)) in
    let turns : c.turn.new.self ≡ record { given = c.args.tally.now.given; dropped = c.args.tally.now.dropped; calls = c.args.tally.now.calls; turns = c.args.tally.now.turns + (passed + 1) } =
    search rules in
    record {
      fewer = omega (arith, kept.fewer, fewer, length-drop 1 now);
      rest = c.pop_front.ensures.rest ∙ ap (drop 1) kept.rest ∙ drop-drop 1 passed all ∙ ap (λ n. drop n all) (sym more);
      left = rw more (omega (arith, sum, ap length front, some.1, some.2, kept.left));
      turns = rw more turns;
    }

pub returns-clause-skips : goal.returns-clause-skips
returns-clause-skips g c =
    let f = g.B.Buf.unread in
    let all = c.args.segments.now.items in
    let now = c.loop-size.segments.items in
    let passed = length all - length now in
    let kept = c.loop-size.invariant in
    let size = length-map all f in
    let lists : map f now ≡ drop passed (map f all) = ap (map f) kept.rest ∙ sym (drop-map f passed all) in
    let front = ap (λ l. length (front_segment l)) lists ∙ ap length (front_segment_drop (map f all) passed) in
    SkipsSegments-from_count (map f all) _ passed c.loop-size.left c.args.cnt (omega (arith, size)) kept.left c.requires
    (λ h. omega (arith, front, c.in_default.ensures.none (omega (arith, h, size, kept.fewer))))
    (c.skip_in_front.ensures ∙ ap (cut_front_segment c.loop-size.left) lists)
