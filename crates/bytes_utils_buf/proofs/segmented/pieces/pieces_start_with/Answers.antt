use Rattle.std.proofs.Common.{◌≡◌, ◌<◌, ◌-◌, ◌++◌, length, map, Some, arith, rules, ap, ◌∙◌, length-append}
use Rattle.std.proofs.lemmas.Slice.Eq.{strip_prefix_is}
use Rattle.std.proofs.lemmas.Bool.{false≢true}
use Rattle.std.proofs.lemmas.Bool.Decides.{Decides-eqb}
use Rattle.bytes_utils_buf.proofs.Pieces.{Matches-more, Matches-differs, inside}
use Rattle.bytes_utils_buf.proofs.segmented.pieces.pieces_start_with.Goals as goal

pub piece_at-requires-clause-some : goal.piece_at-requires-clause-some
piece_at-requires-clause-some g c =
    let l = c.loop-rest in
    let m = l.invariant.matches in
    let some : 0 < length l.rest.now = search rules in
    let size = ap length m.split ∙ length-append m.front l.rest.now in
    inside g.B.Buf.unread c.args.bufs.now.items l.place.passed l.place.offset (length c.args.prefix.now - length m.front) (omega (arith, some, size)) m.has.enough

pub loop-rest-preserved : goal.loop-rest-preserved
loop-rest-preserved g c =
    let l = c.loop-rest in
    let piece = c.piece_at.result.now in
    let same : l.rest.now ≡ piece ++ c.in-Some.following.now = strip_prefix_is Decides-eqb l.rest.now piece (Some c.in-Some.following) c.in-Some.ensures.cases in
    record {
      inside = omega arith;
      matches = Matches-more (map g.B.Buf.unread c.args.bufs.now.items) l.place.passed l.place.offset c.args.prefix.now _ l.rest.now piece l.invariant.matches (search rules)
          c.piece_at.ensures c.in-Some.following.now same;
    }

pub returns-in_default : goal.returns-in_default
returns-in_default g c =
    let l = c.loop-rest in
    let piece = c.piece_at.result.now in
    let some : 0 < length l.rest.now = search rules in
    let none = rw c.in_default.is at (strip_prefix_is Decides-eqb l.rest.now piece c.strip_prefix.result c.strip_prefix.ensures.cases) in
    let differs = Matches-differs (map g.B.Buf.unread c.args.bufs.now.items) l.place.passed l.place.offset c.args.prefix.now _ l.rest.now piece l.invariant.matches some c.piece_at.ensures none in
    ((λ e. absurd (false≢true e)), (λ same. absurd (differs same)))
