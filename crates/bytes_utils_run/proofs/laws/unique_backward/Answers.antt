use Rattle.bytes_utils.proofs.Backward.{backward_parts}
use Rattle.bytes_utils.proofs.Unique.{backward_same}
use Rattle.bytes_utils_run.proofs.laws.unique_backward.Goals as goal

pub returns : goal.returns
returns g c = λ t p limit some positive. record {
  same = backward_same p some t limit;
  one = λ apart. backward_parts apart p some t limit positive;
}
