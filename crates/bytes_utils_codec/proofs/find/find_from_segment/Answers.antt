use Rattle.std.proofs.Common.{◌≡◌, ◌+◌, length, take, arith, subst, ap, ◌∙◌, refl}
use Rattle.std.proofs.lemmas.List.{take_all}
use Rattle.std.specs.List.{concat}
use Rattle.memchr.specs.Find.{Nowhere, OccursAt}
use Rattle.bytes_utils_codec.proofs.FindLemmas.{has_read, found_begun, missed_segment, missed_all}
use Rattle.bytes_utils_codec.proofs.find.find_from_segment.Goals as goal

pub loop-index-init : goal.loop-index-init
loop-index-init g c = record {
  base = omega (arith, c.requires.first.before);
  none = λ k low high here. absurd (omega (arith, low, high, c.requires.first.before));
}

pub returns-in-Some : goal.returns-in-Some
returns-in-Some g c =
    let l = c.loop-index in
    let found = rw (c.saturating_sub-from.ensures) at c.in-Some.ensures in
    found_begun (has_read c.args.buf.now.segments l.index c.in_ok-segment.ensures l.invariant.base) l.invariant.none c.in-Some.at _ (l.base + c.in-Some.at) refl found

pub overflow_add-result : goal.overflow_add-result
overflow_add-result g c =
    let read = has_read c.args.buf.now.segments c.loop-index.index c.in_ok-segment.ensures c.loop-index.invariant.base in
    omega (arith, c.in-Some.ensures.0.high, read.long, c.requires.fits)

pub overflow_add-base : goal.overflow_add-base
overflow_add-base g c =
    let read = has_read c.args.buf.now.segments c.loop-index.index c.in_ok-segment.ensures c.loop-index.invariant.base in
    omega (arith, read.long, c.requires.fits)

pub loop-index-preserved : goal.loop-index-preserved
loop-index-preserved g c =
    let l = c.loop-index in
    let read = has_read c.args.buf.now.segments l.index c.in_ok-segment.ensures l.invariant.base in
    let missed = rw (c.saturating_sub-from.ensures) at c.in_default.ensures in
    record { base = read.next; none = missed_segment read l.invariant.none _ missed }

pub returns : goal.returns
returns g c =
    let segments = c.args.buf.now.segments in
    let l = c.loop-index in
    let all = concat segments in
    let p = c.args.finder.now in
    let whole : take l.index segments ≡ segments = take_all l.index segments (omega (arith, c.segments-index-end.ensures.count)) in
    let end : l.base ≡ length all = l.invariant.base ∙ ap (λ xs. length (concat xs)) whole in
    missed_all all p c.args.start c.requires.some (subst (λ n. Nowhere (OccursAt all p) c.args.start n) end l.invariant.none)
