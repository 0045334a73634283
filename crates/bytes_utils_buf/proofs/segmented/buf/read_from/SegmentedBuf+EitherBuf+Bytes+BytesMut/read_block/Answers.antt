use Rattle.std.proofs.Common.{[], ◌∷◌, ◌++◌, map, ap, ◌∙◌}
use Rattle.std.proofs.lemmas.List.{map_push}
use Rattle.bytes_utils_buf.specs.Packing.{packed_bytes}
use Rattle.bytes_utils_buf.specs.Reading.{ReadGave}
use Rattle.bytes_utils_buf.specs.declared.either_buf.EitherBuf.TheVariants.{Right}
use Rattle.bytes_utils_buf.proofs.ReadingLemmas.{PushesList, pushed_by_read, reads_more}
use Rattle.bytes_utils_buf.proofs.segmented.buf.read_from.SegmentedBuf+EitherBuf+Bytes+BytesMut.read_block.Goals as goal

-- the read was put after the last list
read : (g : _) (c : goal.After-call g) → PushesList (g.R.Read.remaining c.args.input.now) (g.R.Read.remaining c.read_from.new.from)
    (map packed_bytes c.self.inside.segments.items) (map packed_bytes c.push_back_reserved.new.self.items) c.in_ok-count.count
read g c =
    let ok = c.in_ok-count.ensures.ok in
    let items = c.self.inside.segments.items in
    let full = c.replace-full.result in
    let gave : ReadGave _ _ c.in_ok-count.count ok.0 = record { count = ok.1; consumed = ok.3; end = c.in_ok-count.ensures.end c.requires.room } in
    let grown = c.push_back_reserved.ensures.items ∙ ap (λ l. l ++ Right full ∷ []) c.reserve.ensures.items in
    let bytes = ap (λ block. block.items) c.replace-full.ensures.value ∙ ok.2 ∙ ap (λ l. l ++ ok.0) c.requires.empty in
    (ok.0, gave, ap (map packed_bytes) grown ∙ map_push packed_bytes items (Right full) ∙ ap (λ s. map packed_bytes items ++ s ∷ []) bytes)

pub invariant_of-self-then-count-gt0 : goal.invariant_of-self-then-count-gt0
invariant_of-self-then-count-gt0 g c =
    let old = c.self.inside in
    rw (c.call.ensures, c.give.ensures)
    (pushed_by_read _ _ (map packed_bytes old.segments.items) _ c.in_ok-count.count old.remaining old.tally c.if-count-gt0.true (read g c) c.self.invariant)

pub returns-then-count-gt0-clause-read : goal.returns-then-count-gt0-clause-read
returns-then-count-gt0-clause-read g c =
    rw (c.call.ensures, c.give.ensures, ← c.self.view_is) (reads_more _ _ _ _ c.in_ok-count.count c.if-count-gt0.true (read g c))
