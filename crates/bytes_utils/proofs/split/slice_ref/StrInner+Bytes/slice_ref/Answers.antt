use Rattle.std.proofs.Common.{◌+◌, ◌≤◌, ◌∙◌, length, rules}
use Rattle.bytes_utils.specs.Occurrence.{Occurs, OccursFirstAt}
use Rattle.bytes_utils.proofs.ByteHalves.{first_in_bytes, lacks_in_bytes, slice_there}
use Rattle.bytes_utils.proofs.PartCut.{end_boundary, next_boundary}
use Rattle.bytes_utils_buf.proofs.Results.{OnErr-always}
use Rattle.bytes_utils.proofs.split.slice_ref.StrInner+Bytes.slice_ref.Goals as goal

pub returns-in_default-clause-ok : goal.returns-in_default-clause-ok
returns-in_default-clause-ok c = rw (← c.as_str.ensures.value) (lacks_in_bytes _ _ c.as_str.utf8 c.utf8.part c.in_default.ensures)

pub overflow_add-start : goal.overflow_add-start
overflow_add-start c =
    let found = c.in-Some.ensures in
    let fits : c.in-Some.start + length c.args.part.now ≤ length c.as_str.result.now =
    (next_boundary _ _ c.as_str.utf8 c.utf8.part _ _ found.1 found.2.here).0 in
    search rules

pub slice-requires-clause-start : goal.slice-requires-clause-start
slice-requires-clause-start c =
    let found = c.in-Some.ensures in
    rw (← c.as_str.ensures.value) (end_boundary _ _ c.as_str.utf8 c.utf8.part _ _ found.1 found.2.here)

pub slice-requires-clause-end : goal.slice-requires-clause-end
slice-requires-clause-end c =
    let found = c.in-Some.ensures in
    rw (← c.as_str.ensures.value) (next_boundary _ _ c.as_str.utf8 c.utf8.part _ _ found.1 found.2.here)

pub returns-in_err-slice-clause-err : goal.returns-in_err-slice-clause-err
returns-in_err-slice-clause-err c =
    let found = c.in-Some.ensures in
    let first : OccursFirstAt c.args.part.now c.args.self.now c.in-Some.start =
    rw (← c.as_str.ensures.value) (first_in_bytes _ _ c.as_str.utf8 c.utf8.part _ _ found.1 found.2) in
    let occurs : Occurs c.args.part.now c.args.self.now = (c.in-Some.start, first.here) in
    OnErr-always _ _ occurs

pub returns-clause-ok : goal.returns-clause-ok
returns-clause-ok c =
    let found = c.in-Some.ensures in
    let first : OccursFirstAt c.args.part.now c.args.self.now c.in-Some.start =
    rw (← c.as_str.ensures.value) (first_in_bytes _ _ c.as_str.utf8 c.utf8.part _ _ found.1 found.2) in
    c.in_ok-slice.ensures.ok ∙ slice_there c.args.self.now c.args.part.now c.in-Some.start first.here
