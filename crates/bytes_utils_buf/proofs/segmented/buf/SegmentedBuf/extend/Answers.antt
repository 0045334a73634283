use Rattle.std.proofs.Common.{rules, map, ap, ◌∙◌, sym}
use Rattle.std.proofs.lemmas.List.{map_push}
use Rattle.std.proofs.lemmas.Result.{err_from_is_err_and}
use Rattle.std.specs.List.{concat}
use Rattle.bytes_utils_buf.specs.Segments.{after_accepting}
use Rattle.bytes_utils_buf.proofs.SegmentsLemmas.{with_one, with_one-accepting, concat-accepting}
use Rattle.bytes_utils_buf.proofs.TallyLemmas.{IsPaid-accepting}
use Rattle.bytes_utils_buf.proofs.segmented.buf.SegmentedBuf.extend.Goals as goal

pub loop-buf-preserved : goal.loop-buf-preserved
loop-buf-preserved g c =
    let f = g.B.Buf.unread in
    let old = c.args.self.now in
    let items = c.loop-buf.yielded in
    c.in_ok-insert_one.ensures.ok ∙ ap (λ q. with_one q (f c.in-Some.buf)) c.loop-buf.invariant
    ∙ with_one-accepting old (map f items) (f c.in-Some.buf) ∙ ap (after_accepting old) (sym (map_push f items c.in-Some.buf))

pub returns-in_err-insert_one-clause-paid : goal.returns-in_err-insert_one-clause-paid
returns-in_err-insert_one-clause-paid g c =
    rw (c.in_err-insert_one.ensures.err, c.loop-buf.invariant) (IsPaid-accepting c.args.self.now (map g.B.Buf.unread c.loop-buf.yielded))

pub returns-clause-paid : goal.returns-clause-paid
returns-clause-paid g c =
    rw c.loop-buf.invariant (IsPaid-accepting c.args.self.now (map g.B.Buf.unread c.loop-buf.yielded))

pub returns-clause-bytes : goal.returns-clause-bytes
returns-clause-bytes g c =
    let old = c.args.self.now in
    let lists = map g.B.Buf.unread c.loop-buf.yielded in
    (c.loop-buf.yielded, search rules, ap (λ q. concat q.segments) c.loop-buf.invariant ∙ concat-accepting old lists)

pub returns-in_err-insert_one-clause-bytes_before : goal.returns-in_err-insert_one-clause-bytes_before
returns-in_err-insert_one-clause-bytes_before g c =
    let old = c.args.self.now in
    let lists = map g.B.Buf.unread c.loop-buf.yielded in
    let refused = err_from_is_err_and c.from_residual.result c.from_residual.ensures.1 in
    let bytes = ap (λ q. concat q.segments) (c.in_err-insert_one.ensures.err ∙ c.loop-buf.invariant) ∙ concat-accepting old lists in
    rw (refused.1, refused.2) (c.loop-buf.yielded, c.next.new.self, search rules, bytes)
