use Rattle.std.proofs.Common.{◌<◌, map, take, drop, set, get_or, replicate, length, [], arith, rules, ap, ◌∙◌, take_at, drop_at}
use Rattle.std.proofs.lemmas.List.{length-map, length-replicate, map-set, drop_all}
use Rattle.bytes_utils_buf.specs.Segments.{cut_segment_at, cut_front_segment}
use Rattle.bytes_utils_buf.proofs.Lists.{cut_after, get_or-replicated, length-concat-take_more, map_at, set-replicated_more, SkipsSegments-from_count}
use Rattle.bytes_utils_buf.proofs.segmented.skip.skip_lent.Goals as goal

pub loop-size-preserved : goal.loop-size-preserved
loop-size-preserved g c =
    let f = g.B.Buf.unread in
    let lists = map f c.args.bufs.now in
    let bufs = c.loop-size.bufs in
    let i = c.loop-size.passed in
    let kept = c.loop-size.invariant in
    let some = c.in-Some.ensures.some in
    let inside : i < length lists = omega (arith, some.0, kept.size, length-map c.args.bufs.now f) in
    let here = map_at f bufs i c.index-bufs-passed.result some.0 in
    let next = ap (λ l. get_or l i []) kept.read_out ∙ get_or-replicated lists i inside in
    let none = drop_all c.in-Some.size (f (get_or bufs i c.index-bufs-passed.result)) (omega (arith, some.2, ap length here)) in
    record {
      within = omega (arith, some.0, kept.size);
      size = search rules;
      read_out = map-set f bufs i c.advance.new.self
          ∙ ap (set (map f bufs) i) (c.advance.ensures.value ∙ none)
          ∙ ap (λ l. set l i []) kept.read_out
          ∙ set-replicated_more lists i inside;
      left = omega (arith, length-concat-take_more lists i inside, ap length next, some.1, some.2, kept.left);
      turns = search rules;
    }

pub returns-clause-read_out : goal.returns-clause-read_out
returns-clause-read_out g c =
    let lists = map g.B.Buf.unread c.args.bufs.now in
    let p = c.loop-size.passed in
    let n = c.loop-size.left in
    let now = c.skip_in_lent.ensures ∙ ap (cut_segment_at p n) c.loop-size.invariant.read_out ∙ cut_after (drop p lists) p n in
    ap (take p) now ∙ take_at (replicate p []) (cut_front_segment n (drop p lists)) p (length-replicate p [])

pub returns-clause-skips : goal.returns-clause-skips
returns-clause-skips g c =
    let f = g.B.Buf.unread in
    let lists = map f c.args.bufs.now in
    let p = c.loop-size.passed in
    let n = c.loop-size.left in
    let kept = c.loop-size.invariant in
    let size = length-map c.args.bufs.now f in
    let next = λ (h : p < length lists). ap (λ l. length (get_or l p [])) kept.read_out ∙ ap length (get_or-replicated lists p h) in
    let now = c.skip_in_lent.ensures ∙ ap (cut_segment_at p n) kept.read_out ∙ cut_after (drop p lists) p n in
    SkipsSegments-from_count lists _ p n c.args.cnt (omega (arith, size, kept.within)) kept.left c.requires
    (λ h. omega (arith, next h, c.in_default.ensures.none (omega (arith, h, size, kept.size))))
    (ap (drop p) now ∙ drop_at (replicate p []) (cut_front_segment n (drop p lists)) p (length-replicate p []))
