use Rattle.bytes_utils_protocols.proofs.LineSteps.{reads_one, stops_within}
use Rattle.bytes_utils_protocols.proofs.redis.line.Line.read.Goals as goal

pub returns-in_err-line : goal.returns-in_err-line
returns-in_err-line c bytes is =
    rw c.from_residual.ensures
    (stops_within bytes c.args.bytes.now c.loop-byte.byte-index c.loop-byte-test.true (c.in_err-line.ensures _ (c.loop-byte.invariant bytes is)))

pub loop-byte-preserved : goal.loop-byte-preserved
loop-byte-preserved c bytes is =
    reads_one c.in_ok-line.line bytes c.args.bytes.now c.loop-byte.byte-index c.loop-byte-test.true (c.in_ok-line.ensures _ (c.loop-byte.invariant bytes is))
