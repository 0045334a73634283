use Rattle.std.proofs.Common.{◌≡◌, ◌+◌, ◌-◌, ◌≤◌, ◌++◌, [], length, map, take, drop, replicate}
use Rattle.std.specs.List.{concat}
use Rattle.bytes_utils_buf.proofs.segmented.skip.skip_lent.Given as goal

abbrev pub invariant-loop-size : goal.invariant-loop-size
invariant-loop-size g l =
    let lists = map g.B.Buf.unread l.fn.bufs in
    record {
      within : l.passed ≤ length l.fn.bufs;
      size : length l.bufs ≡ length l.fn.bufs;
      read_out : map g.B.Buf.unread l.bufs ≡ replicate l.passed [] ++ drop l.passed lists;
      left : length (concat (take l.passed lists)) + l.left ≡ l.fn.cnt;
      turns : l.tally ≡ record { given = l.fn.tally.given; dropped = l.fn.tally.dropped; calls = l.fn.tally.calls; turns = l.fn.tally.turns + l.passed };
    }

abbrev pub decreases-loop-size : goal.decreases-loop-size
decreases-loop-size g l = length l.fn.bufs - l.passed
