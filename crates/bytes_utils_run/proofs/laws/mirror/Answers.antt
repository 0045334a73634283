use Rattle.bytes_utils.proofs.Mirror.{mirror}
use Rattle.bytes_utils_run.proofs.laws.mirror.Goals as goal

pub returns : goal.returns
returns g c = mirror
