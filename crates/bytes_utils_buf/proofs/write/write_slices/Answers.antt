use Rattle.std.proofs.Common.{◌∙◌, ap, arith, rules, sym}
use Rattle.std.proofs.lemmas.List.{drop_all}
use Rattle.bytes_utils_buf.proofs.Results.{OnErr-always}
use Rattle.bytes_utils_buf.specs.Slices.{joined_slices}
use Rattle.bytes_utils_buf.proofs.WriteLemmas.{WritesCounted-all, WritesCounted-more, WritesCounted-room, bytes-following, next-slices}
use Rattle.bytes_utils_buf.proofs.write.write_slices.Goals as goal

pub write_bytes-requires : goal.write_bytes-requires
write_bytes-requires g c =
    let bytes = c.front_to_write-count.result.1.now in
    let next = next-slices c.args.slices.now c.loop-place.place c.front_to_write-count.result.0 bytes _ c.front_to_write-count.ensures.bytes c.loop-place.invariant.left in
    let room = WritesCounted-room bytes _ c.loop-place.invariant.front next in
    omega arith

pub returns-in_err-write_bytes-clause-front : goal.returns-in_err-write_bytes-clause-front
returns-in_err-write_bytes-clause-front g c =
    let next = next-slices c.args.slices.now c.loop-place.place _ _ _ c.front_to_write-count.ensures.bytes c.loop-place.invariant.left in
    WritesCounted-more _ c.loop-place.invariant.front c.write_bytes.ensures.front next

pub returns-in_err-write_bytes-clause-err : goal.returns-in_err-write_bytes-clause-err
returns-in_err-write_bytes-clause-err g c =
    let bytes = c.front_to_write-count.result.1.now in
    let next = next-slices c.args.slices.now c.loop-place.place c.front_to_write-count.result.0 bytes _ c.front_to_write-count.ensures.bytes c.loop-place.invariant.left in
    let room = WritesCounted-room bytes _ c.loop-place.invariant.front next in
    OnErr-always c.from_residual.result _ (omega (arith, c.in_err-write_bytes.ensures.err))

pub loop-place-preserved : goal.loop-place-preserved
loop-place-preserved g c =
    let bytes = c.front_to_write-count.result.1.now in
    let next = next-slices c.args.slices.now c.loop-place.place c.front_to_write-count.result.0 bytes _ c.front_to_write-count.ensures.bytes c.loop-place.invariant.left in
    record {
      within = search rules;
      front = WritesCounted-more _ c.loop-place.invariant.front c.write_bytes.ensures.front next;
      left = bytes-following (joined_slices c.args.slices.now) bytes _ c.loop-place.invariant.front.rises c.in_ok-write_bytes.ensures.ok next;
    }

pub returns-clause-ok : goal.returns-clause-ok
returns-clause-ok g c =
    WritesCounted-all c.loop-place.invariant.front (sym (ap joined_slices (drop_all c.loop-place.place c.args.slices.now c.loop-place-test.false)) ∙ c.loop-place.invariant.left)
