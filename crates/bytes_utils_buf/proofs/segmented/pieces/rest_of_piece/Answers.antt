use Rattle.std.proofs.Common.{map, drop, ap, ◌∙◌, sym}
use Rattle.std.proofs.lemmas.List.{take_rest}
use Rattle.bytes_utils_buf.proofs.Lists.{read_at}
use Rattle.bytes_utils_buf.proofs.Pieces.{front_from}
use Rattle.bytes_utils_buf.proofs.segmented.pieces.rest_of_piece.Goals as goal

pub returns : goal.returns
returns g c =
    let f = g.B.Buf.unread in
    let items = c.args.bufs.now.items in
    let place = c.args.place in
    let read = read_at f items place.passed c.index.result.now c.requires.some c.index.ensures in
    take_rest c.as_contiguous.result.now place.offset ∙ ap (drop place.offset) (c.as_contiguous.ensures ∙ sym read) ∙ sym (front_from (map f items) place.passed place.offset)
