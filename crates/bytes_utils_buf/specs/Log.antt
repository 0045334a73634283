-- A tally as the chain of what was counted.
use Rattle.std.specs.Prelude.{◌+◌}
use Rattle.bytes_utils_buf.specs.Tally.{Tallied, nothing_counted}
use Rattle.bytes_utils_buf.specs.declared.segmented.tally.Log.{Log, Start, Given', Called', Turned'}

-- the tally that a chain counts
abbrev pub counted_in_log : Log → Tallied
counted_in_log Start = nothing_counted
counted_in_log (Given' count dropped m before) =
    let t = counted_in_log before in record { given = t.given + count; dropped = t.dropped + dropped; calls = t.calls; turns = t.turns }
counted_in_log (Called' m before) = let t = counted_in_log before in record { given = t.given; dropped = t.dropped; calls = t.calls + 1; turns = t.turns }
counted_in_log (Turned' count m before) = let t = counted_in_log before in record { given = t.given; dropped = t.dropped; calls = t.calls; turns = t.turns + count }
