use Rattle.std.proofs.Common.{ℕ, ◌+◌, length, drop, arith, ap, refl, length-append, length-take}
use Rattle.std.proofs.lemmas.List.{drop_all}
use Rattle.std.specs.List.{concat}
use Rattle.bytes_utils.proofs.NeedleLemmas.{range_rest}
use Rattle.bytes_utils_codec.proofs.FindLemmas.{begun_inside, begun_across, missed_alone, missed_begun, border_at}
use Rattle.bytes_utils_codec.proofs.find.find_starting_in.Goals.{then-most-eq0-via-then-most-eq0, then-most-eq0-via-else-most-eq0+then-next-segments}
use Rattle.bytes_utils_codec.proofs.find.find_starting_in.Goals as goal

pub returns-in-Some : goal.returns-in-Some
returns-in-Some g c =
    begun_inside _ _ (concat (drop c.args.next c.args.buf.now.segments)) _ c.requires.some (omega arith) c.in-Some.at (c.args.from + c.in-Some.at) refl
    (rw (range_rest c.args.segment.now c.args.from) at c.in-Some.ensures)

pub returns-in_err-at : goal.returns-in_err-at
returns-in_err-at g c =
    let p = c.args.finder.now in
    let segment = c.args.segment.now in
    let border = border_at p c.needle.result.now segment (concat (drop c.args.next c.args.buf.now.segments)) c.args.from c.max-tail.result c.requires.some (omega arith) c.needle.ensures (omega arith)
    (range_rest segment c.max-tail.result) (omega (arith, ap length c.needle.ensures, length-take {A = ℕ})) c.fill_find_window-count.ensures.bytes in
    let missed = rw (range_rest segment c.args.from) at c.in_default.ensures in
    rw c.from_residual.ensures (missed_begun p segment _ c.args.from c.requires.some (omega arith) border missed c.in_err-at.ensures)

pub returns : goal.returns
returns g c =
    let p = c.args.finder.now in
    let segment = c.args.segment.now in
    let border = border_at p c.needle.result.now segment (concat (drop c.args.next c.args.buf.now.segments)) c.args.from c.max-tail.result c.requires.some (omega arith) c.needle.ensures (omega arith)
    (range_rest segment c.max-tail.result) (omega (arith, ap length c.needle.ensures, length-take {A = ℕ})) c.fill_find_window-count.ensures.bytes in
    let missed = rw (range_rest segment c.args.from) at c.in_default.ensures in
    begun_across p segment _ c.args.from c.requires.some (omega arith) border c.in_ok-at.at (c.max-tail.result + c.in_ok-at.at) refl missed c.in_ok-at.ensures

pub returns-then-most-eq0 : goal.returns-then-most-eq0
returns-then-most-eq0 g c =
    let segments = c.args.buf.now.segments in
    let segment = c.args.segment.now in
    let following = concat (drop c.args.next segments) in
    let missed = rw (range_rest segment c.args.from) at c.in_default.ensures in
    missed_alone c.args.finder.now segment following c.args.from c.requires.some (omega arith)
    (λ j below fits. elim c.then-most-eq0.branch [
      | then-most-eq0-via-then-most-eq0 w ↦ omega (arith, below, w.if-most-eq0.true, ap length c.needle.ensures)
      | then-most-eq0-via-else-most-eq0+then-next-segments w ↦
          omega (arith, fits, length-append segment following, ap (λ xs. length (concat xs)) (drop_all c.args.next segments (omega (arith, w.if-next-segments.true, w.segments.ensures.count))))
    ]) missed
