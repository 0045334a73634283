use Rattle.std.proofs.Common.{◌<◌, ◌≤◌, length, map, set, drop, rules, ap, ◌∙◌, arith}
use Rattle.std.proofs.lemmas.List.{map-set, length-map}
use Rattle.bytes_utils_buf.proofs.Lists.{map_at, set_cut, cut_past}
use Rattle.bytes_utils_buf.proofs.segmented.skip.skip_in_lent.Goals as goal

pub returns-then-at-bufs : goal.returns-then-at-bufs
returns-then-at-bufs g c =
    let f = g.B.Buf.unread in
    let xs = c.args.bufs.now in
    let k = c.args.at in
    let here : k < length xs = search rules in
    let item = map_at f xs k c.index-bufs-at.result here in
    map-set f xs k c.advance.new.self
    ∙ ap (set (map f xs) k) (c.advance.ensures.value ∙ ap (drop c.args.left) item)
    ∙ set_cut (map f xs) k c.args.left (omega (arith, here, length-map xs f))

pub returns-else-left-gt0 : goal.returns-else-left-gt0
returns-else-left-gt0 g c =
    let f = g.B.Buf.unread in
    let past : 0 < c.args.left → length c.args.bufs.now ≤ c.args.at = search rules in
    cut_past (map f c.args.bufs.now) c.args.at c.args.left (λ some. omega (arith, past some, length-map c.args.bufs.now f))
