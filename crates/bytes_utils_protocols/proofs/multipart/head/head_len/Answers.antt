use Rattle.std.proofs.Common.{take}
use Rattle.bytes_utils_protocols.proofs.MultipartLemmas.{no_head_end}
use Rattle.bytes_utils_protocols.proofs.multipart.head.head_len.Goals as goal

pub returns-in_default-clause-fault : goal.returns-in_default-clause-fault
returns-in_default-clause-fault c any part is _ = no_head_end any (take c.args.len c.args.waiting.now.held) part c.in_default.ensures.none is
