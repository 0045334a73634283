use Rattle.std.proofs.Common.{◌≡◌, ◌+◌, ◌-◌, length, map, min, take, drop, arith, ap, ◌∙◌, sym, length-drop}
use Rattle.std.proofs.lemmas.List.{take_min}
use Rattle.bytes_utils_buf.proofs.Lists.{read_at}
use Rattle.bytes_utils_buf.proofs.Pieces.{front_from}
use Rattle.bytes_utils_buf.proofs.segmented.pieces.part_of_piece.Goals as goal

pub returns-clause-value : goal.returns-clause-value
returns-clause-value g c =
    let f = g.B.Buf.unread in
    let items = c.args.bufs.now.items in
    let place = c.args.place in
    let read = read_at f items place.passed c.index-buf.result.now c.requires.some c.index-buf.ensures in
    let front = front_from (map f items) place.passed place.offset ∙ ap (drop place.offset) read in
    let rest = drop place.offset (f c.index-buf.result.now) in
    let count : place.offset + c.min-count.result - place.offset ≡ min c.args.most (length rest) =
    omega (arith, c.min-count.ensures, c.remaining.ensures, length-drop place.offset (f c.index-buf.result.now)) in
    let same = ap (λ n. take n rest) count ∙ take_min c.args.most rest ∙ ap (take c.args.most) (sym front) in
    rw same at c.part.ensures.value
