use Rattle.std.proofs.Common.{rules}
use Rattle.bytes_utils_buf.proofs.SlicesLemmas.{FillsSlices-first, joined_slices-first}
use Rattle.bytes_utils_buf.proofs.parts.slice_into.Goals as goal

pub returns-clause-all : goal.returns-clause-all
returns-clause-all c = joined_slices-first c.args.dst.now c.args.bytes

pub returns-clause-fills : goal.returns-clause-fills
returns-clause-fills c = FillsSlices-first c.args.dst.now c.args.bytes (search rules) (search rules)
