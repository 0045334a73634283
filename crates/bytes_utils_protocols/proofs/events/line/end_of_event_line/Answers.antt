use Rattle.std.proofs.Common.{◌-◌, length, subst, sym}
use Rattle.std.specs.Str.{IsCharBoundary}
use Rattle.bytes_utils_protocols.proofs.EventsLemmas.{end_boundary}
use Rattle.bytes_utils_protocols.proofs.events.line.end_of_event_line.Goals as goal

pub slice_from-requires : goal.slice_from-requires
slice_from-requires c =
    subst (λ n. IsCharBoundary c.args.line.now (n - length c.args.end.now)) (sym c.len.ensures) (end_boundary c.args.line.now c.args.end.now c.requires c.utf8.end)
