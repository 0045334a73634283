use Rattle.bytes_utils_buf.proofs.CopiesLemmas.{LosesAcross-front}
use Rattle.bytes_utils_buf.proofs.segmented.buf.copy.SegmentedBufBufParts.copy_out.Goals as goal

pub returns-clause-lost : goal.returns-clause-lost
returns-clause-lost g c =
    let s = c.copy_to_bytes.ensures in
    LosesAcross-front g.B.BufParts.loses c.args.self.now.segments c.args.len c.copy_to_bytes.result s.none s.lost s.refused
