use Rattle.std.proofs.Common.{◌≡◌, ◌∙◌, sym, ap, subst, map, take, take_at, arith}
use Rattle.std.proofs.lemmas.Result.{IfOk-weaker}
use Rattle.bytes_utils_run.specs.Calls.{AreCallSlices}
use Rattle.bytes_utils_run.proofs.OddLemmas.{AreCallSlices-table}
use Rattle.bytes_utils_run.proofs.calls.show.shown_slices.Goals as goal

-- the table is passed on as it was filled
pub returns-clause-slices : goal.returns-clause-slices
returns-clause-slices g c =
    let table = c.chunks_into-filled.new.dst in
    let filled = c.chunks_into-filled.result in
    let unread = g.B.Buf.unread c.args.buf.now in
    let same = c.deref.ensures.value ∙ take_at table _ _ (omega (arith, c.chunks_into-filled.auto.dst, c.deref_mut.ensures.len)) in
    let slices = AreCallSlices-table c.args.places filled c.deref_mut.result.now table unread
    (omega (arith, c.deref_mut.ensures.len, c.in_ok-table.ensures.len, c.min-len.ensures, c.remaining.ensures)) c.chunks_into-filled.auto.dst c.chunks_into-filled.ensures in
    IfOk-weaker c.shown_copies.result (λ all. map (λ s. s.items) all.items ≡ map (λ s. s.now) (take filled c.deref.result.now))
    (λ all. AreCallSlices c.args.places (map (λ s. s.items) all.items) unread)
    (λ all is. subst (λ l. AreCallSlices c.args.places l unread) (sym (is ∙ ap (λ t. map (λ s. s.now) (take filled t)) same)) slices)
    c.shown_copies.ensures
