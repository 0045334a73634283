use Rattle.std.proofs.Common.{map, set, arith}
use Rattle.bytes_utils_buf.specs.Copies.{taken_by_copy}
use Rattle.bytes_utils_buf.proofs.Lists.{SkipsSegments-trimmed}
use Rattle.bytes_utils_buf.proofs.LentLemmas.{map-cut_first, take_read_out}
use Rattle.bytes_utils_buf.proofs.segmented.slice.copy.copy_from_first_of_slice.Goals as goal

pub returns-clause-read_out : goal.returns-clause-read_out
returns-clause-read_out g c =
    let ys = set c.args.bufs.now 0 c.copy_out-copy.new.self in
    take_read_out c.skip_empty_lent-empty.result (map g.B.Buf.unread ys) c.skip_empty_lent-empty.ensures.read_out

pub returns-clause-skips : goal.returns-clause-skips
returns-clause-skips g c =
    let f = g.B.Buf.unread in
    let xs = c.args.bufs.now in
    let ys = set xs 0 c.copy_out-copy.new.self in
    let taken = taken_by_copy c.args.len c.copy_out-copy.result in
    SkipsSegments-trimmed taken (map f xs) (map f ys) _ (omega (arith, c.copy_out-copy.ensures.taken, c.requires.holds))
    (map-cut_first f xs c.index-bufs-0.result c.copy_out-copy.new.self taken c.requires.some c.copy_out-copy.ensures.rest) c.skip_empty_lent-empty.ensures.skips
