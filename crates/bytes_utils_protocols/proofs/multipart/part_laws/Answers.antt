use Rattle.bytes_utils_protocols.proofs.DispositionLemmas.{HasDispositionParameter-same}
use Rattle.bytes_utils_protocols.proofs.multipart.part_laws.Goals as goal

pub returns-clause-parameter : goal.returns-clause-parameter
returns-clause-parameter c = HasDispositionParameter-same
