use Rattle.bytes_utils.specs.Indices.{Indexing}
use Rattle.bytes_utils.specs.Splitting.{RefusesSplit}
use Rattle.bytes_utils.proofs.IndicesLemmas.{IsMeasured, step_within, measured_after, ok_indexed, err_indexed}
use Rattle.bytes_utils.proofs.split.indices.SplitIndicesBytesIterator.next.Goals.{in-Ok, in-Err}
use Rattle.bytes_utils.proofs.split.indices.SplitIndicesBytesIterator.next.Goals as goal

pub returns-clause-steps : goal.returns-clause-steps
returns-clause-steps g c =
    let before : Indexing = record { parts = c.self.inside.parts.state; at = c.self.inside.at } in
    let following : Indexing = record { parts = c.next.new.self.state; at = c.replace-at.new.dest } in
    let is : IsMeasured c.self.inside.total before = record { separator = c.self.invariant.1; rest = c.self.invariant.2 } in
    let within = step_within before following.parts c.self.inside.total c.next.ensures.separator c.in_ok-part.ensures.fewer is in
    let also : IsMeasured c.self.inside.total following = record {
      separator = c.left.ensures.separator;
      rest = measured_after following.parts.rest following.parts.separator following.parts.begun following.at c.self.inside.total c.left.result c.left.ensures.utf8 c.left.ensures.begun c.left.ensures.value within
          c.replace-at.ensures.after;
    } in
    let refuses = RefusesSplit g.S.Storage.refuses g.S.Storage.refuses_empty g.S.Storage.refuses_side in
    rw (← c.self.view_is) (elim c.match-part.branch [
      | in-Ok w ↦ ok_indexed refuses c.self.inside.parts.end c.self.invariant.0 before following c.in_ok-part.part c.in_ok-part.ensures.step c.self.inside.total
          c.replace-at.result w.in-Ok.part c.next.ensures.separator is also w.in-Ok.is c.replace-at.ensures.value c.match-part.result w.result-is
      | in-Err w ↦ err_indexed refuses c.self.inside.parts.end c.self.invariant.0 before following c.in_ok-part.part c.in_ok-part.ensures.step w.in-Err.reason
          w.in-Err.is c.match-part.result w.result-is
    ])
