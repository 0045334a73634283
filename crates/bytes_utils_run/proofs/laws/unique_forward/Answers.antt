use Rattle.bytes_utils.proofs.Forward.{forward_parts}
use Rattle.bytes_utils.proofs.Unique.{forward_same}
use Rattle.bytes_utils_run.proofs.laws.unique_forward.Goals as goal

pub returns : goal.returns
returns g c = λ t p limit some positive. record {
  same = forward_same p some t limit;
  one = λ apart. forward_parts apart p some t limit positive;
}
