use Rattle.std.proofs.Common.{◌<◌, ◌++◌, length, map, arith, ap, ◌∙◌, length-append}
use Rattle.std.proofs.lemmas.List.{length-map, map-append}
use Rattle.std.proofs.lemmas.List.Elements.{All-same, All-append}
use Rattle.std.specs.List.{concat}
use Rattle.std.proofs.lemmas.List.Folds.{concat-append}
use Rattle.bytes_utils_buf.proofs.segmented.buf.SegmentedBuf.append.Goals as goal

pub invariant_of-self-2 : goal.invariant_of-self-2
invariant_of-self-2 g c =
    let f = g.B.Buf.unread in
    let xs = c.self.inside.segments.items in
    let ys = c.other.inside.segments.items in
    let lists = ap (map f) c.in-Ok.ensures.items ∙ map-append f xs ys in
    let bytes = ap concat lists ∙ concat-append (map f xs) (map f ys) in (
      omega (arith, ap length bytes, length-append (concat (map f xs)) (concat (map f ys)), c.self.invariant.0, c.other.invariant.0),
      All-same (λ s. 0 < length s) _ _ lists (All-append (λ s. 0 < length s) (map f xs) (map f ys) c.self.invariant.1 c.other.invariant.1),
      rw (c.call.ensures, c.give.ensures) (omega (arith, ap length lists, length-append (map f xs) (map f ys), length-map ys f, c.len-count.ensures, c.self.invariant.2)),
    )

pub returns-clause-bytes : goal.returns-clause-bytes
returns-clause-bytes g c =
    let f = g.B.Buf.unread in
    let xs = c.self.inside.segments.items in
    let ys = c.other.inside.segments.items in
    ap (λ l. concat (map f l)) c.in-Ok.ensures.items ∙ ap concat (map-append f xs ys) ∙ concat-append (map f xs) (map f ys)
    ∙ (λ i. concat (c.self.view_is i).segments ++ concat (c.other.view_is i).segments)
