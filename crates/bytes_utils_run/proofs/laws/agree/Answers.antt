use Rattle.bytes_utils.proofs.Agree.{agree}
use Rattle.bytes_utils_run.proofs.laws.agree.Goals as goal

pub returns : goal.returns
returns g c = agree
