use Rattle.std.proofs.Common.{◌≡◌, ◌+◌, ◌-◌, ◌≤◌, length, map, take, drop}
use Rattle.std.specs.List.{concat}
use Rattle.bytes_utils_buf.proofs.segmented.skip.skip_held.Given as goal

abbrev pub invariant-loop-size : goal.invariant-loop-size
invariant-loop-size g l =
    let all = l.fn.segments.items in
    let passed = length all - length l.segments.items in
    record {
      fewer : length l.segments.items ≤ length all;
      rest : l.segments.items ≡ drop passed all;
      left : length (concat (take passed (map g.B.Buf.unread all))) + l.left ≡ l.fn.cnt;
      turns : l.tally ≡ record { given = l.fn.tally.given; dropped = l.fn.tally.dropped; calls = l.fn.tally.calls; turns = l.fn.tally.turns + passed };
    }

abbrev pub decreases-loop-size : goal.decreases-loop-size
decreases-loop-size g l = length l.segments.items
