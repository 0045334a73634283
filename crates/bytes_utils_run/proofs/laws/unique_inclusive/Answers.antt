use Rattle.bytes_utils.proofs.Inclusive.{inclusive_parts}
use Rattle.bytes_utils.proofs.Unique.{inclusive_same}
use Rattle.bytes_utils_run.proofs.laws.unique_inclusive.Goals as goal

pub returns : goal.returns
returns g c = λ t p some. record {
  same = inclusive_same p some t;
  one = λ apart. inclusive_parts apart p some t;
}
