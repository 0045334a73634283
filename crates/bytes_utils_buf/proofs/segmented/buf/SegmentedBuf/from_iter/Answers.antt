use Rattle.std.proofs.Common.{◌^◌, ◌<◌, ◌++◌, length, map, arith, rules, ap, ◌∙◌}
use Rattle.std.proofs.lemmas.Result.{err_from_is_err_and}
use Rattle.std.specs.List.{concat}
use Rattle.bytes_utils_buf.specs.Segments.{unread_segments}
use Rattle.bytes_utils_buf.proofs.Lists.{concat-unread_segments}
use Rattle.bytes_utils_buf.proofs.segmented.buf.SegmentedBuf.from_iter.Goals as goal

pub returns-in_err-extend-clause-err : goal.returns-in_err-extend-clause-err
returns-in_err-extend-clause-err g c =
    let f = g.B.Buf.unread in
    let p = err_from_is_err_and c.from_residual.result c.from_residual.ensures.1 in
    let small : length (concat (map f c.all.inside.segments.items)) < 2 ^ 64 = search rules in
    let h = c.in_err-extend.ensures in
    let lists = map f h.err.0 in
    let bytes = ap length (ap (λ q. concat q.segments) h.err.3 ∙ ap (λ q. concat (q.segments ++ unread_segments lists)) c.new-all.ensures
    ∙ concat-unread_segments lists) in
    rw (p.1, p.2) (
      h.err.0,
      h.err.1,
      h.err.2,
      omega (arith, small, bytes, ap (λ q. length (concat q.segments)) c.all.view_is),
      ((λ e. omega (arith, h.too_long.0 e, bytes)), (λ l. h.too_long.1 (omega (arith, l, bytes)))),
    )

pub returns-clause-bytes : goal.returns-clause-bytes
returns-clause-bytes g c =
    let h = c.in_ok-extend.ensures.bytes in
    (h.0, h.1, h.2 ∙ ap (λ q. concat q.segments ++ concat (map g.B.Buf.unread h.0)) c.new-all.ensures)
