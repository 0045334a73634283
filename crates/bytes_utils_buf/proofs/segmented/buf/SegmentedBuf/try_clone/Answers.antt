use Rattle.std.proofs.Common.{◌<◌, length, ap, ◌∙◌, sym}
use Rattle.std.proofs.lemmas.List.Elements.{All-same}
use Rattle.std.specs.List.{concat}
use Rattle.bytes_utils_buf.specs.Segments.{newly_held}
use Rattle.bytes_utils_buf.proofs.Lists.{map-clones}
use Rattle.bytes_utils_buf.proofs.segmented.buf.SegmentedBuf.try_clone.Goals as goal

pub newly_held-requires : goal.newly_held-requires
newly_held-requires g c =
    let f = g.B.Buf.unread in
    let same = map-clones g.B.Clone.is_clone f c.requires c.self.inside.segments.items c.in-Ok.segments.items c.in-Ok.ensures.cases.0 in
    record {
      sum = c.self.invariant.0 ∙ ap (λ l. length (concat l)) (sym same);
      none_empty = All-same (λ s. 0 < length s) _ _ same c.self.invariant.1;
    }

pub returns-clause-ok : goal.returns-clause-ok
returns-clause-ok g c =
    let f = g.B.Buf.unread in
    let same = map-clones g.B.Clone.is_clone f c.requires c.self.inside.segments.items c.in-Ok.segments.items c.in-Ok.ensures.cases.0 in
    c.newly_held.ensures ∙ ap newly_held (same ∙ ap (λ q. q.segments) c.self.view_is)
