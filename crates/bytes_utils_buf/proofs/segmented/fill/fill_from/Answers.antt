use Rattle.std.proofs.Common.{◌<◌, ◌≡◌, ◌+◌, ◌++◌, length, map, take, [], rules, ap, ◌∙◌, arith}
use Rattle.std.proofs.lemmas.List.{length-map, take_more}
use Rattle.std.specs.List.{concat}
use Rattle.bytes.proofs.Chunks.{concat_push}
use Rattle.bytes_utils_buf.proofs.Lists.{read_at, concat_split}
use Rattle.bytes_utils_buf.proofs.SlicesLemmas.{FillsSlices-same, FillsSlices-full, FillsSlices-more, length-put_mid}
use Rattle.bytes_utils_buf.proofs.segmented.fill.fill_from.Goals as goal

pub loop-i-preserved : goal.loop-i-preserved
loop-i-preserved g c =
    let f = g.B.Buf.unread in
    let items = c.args.bufs.now in
    let i = c.loop-i.i in
    let here : i < length items = search rules in
    let more : concat (take (i + 1) (map f items)) ≡ concat (take i (map f items)) ++ f c.index-bufs-i.result
    = ap concat (take_more (map f items) i [] (omega (arith, here, length-map items f)))
    ∙ concat_push (take i (map f items)) _
    ∙ ap (λ l. concat (take i (map f items)) ++ l) (read_at f items i c.index-bufs-i.result here c.index-bufs-i.is) in (
      search rules,
      length-put_mid c.loop-i.dst c.chunks_into-filled.new.dst c.loop-i.filled (search rules) (search rules) ∙ c.loop-i.invariant.1,
      FillsSlices-same _ _ _ _ _ more
          (FillsSlices-more c.loop-i.filled c.chunks_into-filled.result _ c.loop-i.dst c.chunks_into-filled.new.dst _ _ (search rules) c.loop-i.invariant.1
          (search rules) c.loop-i.invariant.2 c.chunks_into-filled.ensures),
    )

pub returns-else-filled-dst : goal.returns-else-filled-dst
returns-else-filled-dst g c =
    let lists = map g.B.Buf.unread c.args.bufs.now in
    FillsSlices-same _ _ _ _ _ (concat_split c.loop-i.i lists)
    (FillsSlices-full c.loop-i.filled _ _ _ _ (search rules) c.loop-i.invariant.2)
