use Rattle.std.proofs.Common.{◌++◌, length, map, ap, ◌∙◌, sym, arith}
use Rattle.bytes_utils_buf.specs.Packing.{last_packed, packed_bytes}
use Rattle.bytes_utils_buf.specs.Reading.{ReadGave}
use Rattle.bytes_utils_buf.proofs.ReadingLemmas.{GrowsLast, grown_by_read, reads_last}
use Rattle.bytes_utils_buf.proofs.segmented.buf.read_from.SegmentedBuf+EitherBuf+Bytes+BytesMut.read_instead_of_last.Goals as goal

-- the read made the last list longer
read : (g : _) (c : goal.After-call g) → GrowsLast (g.R.Read.remaining c.args.input.now) (g.R.Read.remaining c.read_from.new.from)
    (map packed_bytes c.self.inside.segments.items) (map packed_bytes c.put_read_block.new.segments.items) c.in_ok-count.count
read g c =
    let ok = c.in_ok-count.ensures.ok in
    let before = c.requires.last ∙ sym (ap (λ held. last_packed held.segments) c.self.view_is) in
    let gave : ReadGave _ _ c.in_ok-count.count ok.0 = record { count = ok.1; consumed = ok.3; end = c.in_ok-count.ensures.end c.requires.room } in
    (ok.0, gave, c.put_read_block.ensures ok.0 (ok.2 ∙ ap (λ bytes. bytes ++ ok.0) before))

pub invariant_of-self : goal.invariant_of-self
invariant_of-self g c =
    let old = c.self.inside in
    let some = c.requires.some in
    rw (c.call.ensures, c.give.ensures)
    (grown_by_read _ _ (map packed_bytes old.segments.items) _ c.in_ok-count.count old.remaining old.tally
    (omega (arith, some, ap (λ held. length held.segments) c.self.view_is)) (read g c) c.self.invariant)

pub returns-then-count-gt0-clause-read : goal.returns-then-count-gt0-clause-read
returns-then-count-gt0-clause-read g c =
    rw (c.call.ensures, c.give.ensures, ← c.self.view_is)
    (reads_last _ _ _ _ c.in_ok-count.count c.if-count-gt0.true
    (omega (arith, c.requires.some, ap (λ held. length held.segments) c.self.view_is)) (read g c))
