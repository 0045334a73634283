use Rattle.std.proofs.Common.{Some, length, drop, min, arith, refl, rules, subst, ◌≡◌, ◌+◌, ◌-◌, ◌<◌, ◌++◌}
use Rattle.std.specs.List.{concat}
use Rattle.memchr.specs.Find.{IsFirst, OccursAt}
use Rattle.bytes_utils.proofs.NeedleLemmas.{range_rest}
use Rattle.bytes_utils_codec.proofs.FindLemmas.{begun_inside, has_read, found_begun, missed_near, missed_segment}
use Rattle.bytes_utils_codec.proofs.find.find_near.Goals as goal

pub returns-in-Ok-clause-found : goal.returns-in-Ok-clause-found
returns-in-Ok-clause-found g c =
    let p = c.args.needle.now in
    let first = c.in-Some.first.now in
    let start = c.args.start in
    let at = c.in-Ok.at in
    let some : 0 < length p = search rules in
    let found = rw (range_rest first start) at c.in-Ok.ensures.found in
    let following = concat (drop (0 + 1) c.args.buf.now.segments) in
    let inside = begun_inside p first following start some (omega (arith, c.if-start-first.false)) at (start + at) refl found in
    let whole : start ≡ start - 0 = omega arith in
    let from = subst (λ n. IsFirst (OccursAt (first ++ following) p) n (length first) (Some (start + at))) whole inside in
    found_begun (has_read c.args.buf.now.segments 0 c.in-Some.ensures refl) (λ j low high here. absurd (omega arith)) (start + at) (length first) (start + at) (omega arith) from

pub returns-in-Err-clause-none : goal.returns-in-Err-clause-none
returns-in-Err-clause-none g c =
    let p = c.args.needle.now in
    let first = c.in-Some.first.now in
    let start = c.args.start in
    let left = c.in-Err.left in
    let some : 0 < length p = search rules in
    let none = rw (range_rest first start) at c.in-Err.ensures.none in
    let end : start + c.min.result ≡ start + min left (length (drop start first) - (length p - 1)) =
    rw (← range_rest first start) (omega (arith, c.min.ensures, c.saturating_sub.ensures)) in
    let following = concat (drop (0 + 1) c.args.buf.now.segments) in
    let near = missed_near p first following start some (omega (arith, c.if-start-first.false)) left (start + c.min.result) none end in
    λ k low high here.
    missed_segment (has_read c.args.buf.now.segments 0 c.in-Some.ensures refl) (λ j on below there. absurd (omega arith)) (start + c.min.result)
    (λ j on below there. near j (omega (arith, on)) below there) k low (omega (arith, high)) here
