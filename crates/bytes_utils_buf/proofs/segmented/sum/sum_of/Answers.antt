use Rattle.std.proofs.Common.{◌≡◌, ◌+◌, length, map, take, ap, ◌∙◌, arith}
use Rattle.std.proofs.Math.Seq.{take-length}
use Rattle.std.proofs.lemmas.List.{length-map}
use Rattle.std.specs.List.{concat}
use Rattle.bytes_utils_buf.proofs.LentLemmas.{sum_more, length-concat-take_le}
use Rattle.bytes_utils_buf.proofs.segmented.sum.sum_of.Goals as goal

pub loop-buf-preserved : goal.loop-buf-preserved
loop-buf-preserved g c =
    let more =
    sum_more g.B.Buf.unread c.args.bufs.now c.loop-buf.buf-index c.buf-item.result c.loop-buf.sum c.remaining.result c.loop-buf-test.true c.buf-item.is c.loop-buf.invariant.1
    c.remaining.ensures in
    (omega (arith, c.in_ok-sum.ensures.0, c.in_ok-sum.ensures.1), c.in_ok-sum.ensures.1 ∙ more)

pub returns-in_err-sum : goal.returns-in_err-sum
returns-in_err-sum g c =
    let f = g.B.Buf.unread in
    let xs = c.args.bufs.now in
    let i = c.loop-buf.buf-index in
    let more = sum_more f xs i c.buf-item.result c.loop-buf.sum c.remaining.result c.loop-buf-test.true c.buf-item.is c.loop-buf.invariant.1 c.remaining.ensures in
    rw c.from_residual.ensures (λ fits. c.in_err-sum.ensures (omega (arith, more, length-concat-take_le (i + 1) (map f xs), fits)))

pub returns : goal.returns
returns g c =
    let f = g.B.Buf.unread in
    let xs = c.args.bufs.now in
    let sum = c.loop-buf.sum in
    let end : c.loop-buf.buf-index ≡ length (map f xs) = omega (arith, length-map xs f) in
    let all : sum ≡ length (concat (map f xs)) =
    c.loop-buf.invariant.1 ∙ ap (λ i. length (concat (take i (map f xs)))) end ∙ ap (λ l. length (concat l)) (take-length (map f xs)) in
    (omega (arith, all, c.loop-buf.invariant.0), all)
