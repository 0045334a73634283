use Rattle.std.proofs.Common.{None}
use Rattle.bytes_utils.specs.Parts.{join}
use Rattle.bytes_utils.proofs.FromEnds.{front-from}
use Rattle.bytes_utils.proofs.Separable.{come_back}
use Rattle.bytes_utils_run.proofs.laws.come_back.Goals as goal

pub returns : goal.returns
returns g c = λ p parts others some are. come_back p some parts others (front-from (join p parts) p None others some tt are)
