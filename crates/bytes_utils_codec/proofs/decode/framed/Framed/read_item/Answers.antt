use Rattle.std.proofs.Common.{rules}
use Rattle.std.specs.Io.KnownBytes.{IsAtEnd}
use Rattle.bytes_utils_codec.proofs.ReadItemLemmas.{ReadsMore-none, ReadsMore-read, ReadsMore-same, held_due, read_due, last_some, last_none, last_lost, last_due}
use Rattle.bytes_utils_codec.specs.ReadItem.{IsReadItemErrorOfDecoder}
use Rattle.bytes_utils_codec.proofs.decode.framed.Framed.read_item.Goals as goal

pub returns-in_err-held-clause-none_lost : goal.returns-in_err-held-clause-none_lost
returns-in_err-held-clause-none_lost g c =
    let same = g.met.D.Decoder.same c.args.self.now c.held_item.new.self c.in_err-held.ensures.1 in
    let lost = ReadsMore-none g.D.Decoder.gives (g.R.Read.remaining c.args.input.now) c.args.self.now c.held_item.new.self same in search rules

pub returns-in_err-held-clause-due : goal.returns-in_err-held-clause-due
returns-in_err-held-clause-due g c =
    let due = held_due g.D.Decoder.gives g.D.Decoder.waits g.D.Decoder.fails g.D.Decoder.fails_at_end g.D.Decoder.keeps (g.R.Read.remaining c.args.input.now)
    c.args.self.now c.held_item.new.self c.in_err-held.field-0.0 c.in_err-held.ensures in search rules

pub returns-in_err-held-clause-at_once : goal.returns-in_err-held-clause-at_once
returns-in_err-held-clause-at_once g c =
    let error : IsReadItemErrorOfDecoder g.D.Decoder.fails c.args.self.now c.in_err-held.field-0.0 = c.in_err-held.ensures.0 in search rules

pub loop-init : goal.loop-init
loop-init g c =
    let took = rw c.in_default.is at c.in_ok-held.ensures in
    let same = g.met.D.Decoder.same c.args.self.now c.held_item.new.self took.1 in
    record {
      reads = ReadsMore-none g.D.Decoder.gives (g.R.Read.remaining c.args.input.now) c.args.self.now c.held_item.new.self same;
      waiting = (c.args.self.now, took.0, took.1);
      waited = took.0;
    }

pub returns-in_err-read_more-clause-none_lost : goal.returns-in_err-read_more-clause-none_lost
returns-in_err-read_more-clause-none_lost g c =
    let lost = ReadsMore-read g.D.Decoder.gives c.loop.invariant.reads (g.R.Read.remaining c.read_more.new.input) c.read_more.new.self c.read_more.ensures.read in
    search rules

pub returns-in_err-read_more-clause-due : goal.returns-in_err-read_more-clause-due
returns-in_err-read_more-clause-due g c =
    let due = read_due g.D.Decoder.gives g.D.Decoder.waits g.D.Decoder.fails g.D.Decoder.fails_at_end g.D.Decoder.keeps (g.R.Read.remaining c.read_more.new.input)
    c.loop.self c.read_more.new.self c.in_err-read_more.ensures.err c.loop.invariant.waiting c.in_err-read_more.field-0.0 c.in_err-read_more.ensures.due in search rules

pub returns-then-not-branch-clause-item : goal.returns-then-not-branch-clause-item
returns-then-not-branch-clause-item g c =
    let gives = g.D.Decoder.gives in
    let reads = ReadsMore-read gives c.loop.invariant.reads (g.R.Read.remaining c.read_more.new.input) c.read_more.new.self c.read_more.ensures.read in
    let ends : IsAtEnd (g.R.Read.remaining c.read_more.new.input) = search rules in
    last_some gives (IsReadItemErrorOfDecoder g.D.Decoder.fails) (IsReadItemErrorOfDecoder g.D.Decoder.fails_at_end) g.D.Decoder.keeps c.end_item.new.self reads ends
    c.end_item.result c.end_item.ensures

pub returns-then-not-branch-clause-end : goal.returns-then-not-branch-clause-end
returns-then-not-branch-clause-end g c =
    let gives = g.D.Decoder.gives in
    let reads = ReadsMore-read gives c.loop.invariant.reads (g.R.Read.remaining c.read_more.new.input) c.read_more.new.self c.read_more.ensures.read in
    let ends : IsAtEnd (g.R.Read.remaining c.read_more.new.input) = search rules in
    last_none gives (IsReadItemErrorOfDecoder g.D.Decoder.fails) (IsReadItemErrorOfDecoder g.D.Decoder.fails_at_end) g.D.Decoder.keeps c.end_item.new.self reads ends
    c.end_item.result c.end_item.ensures

pub returns-then-not-branch-clause-none_lost : goal.returns-then-not-branch-clause-none_lost
returns-then-not-branch-clause-none_lost g c =
    let gives = g.D.Decoder.gives in
    let reads = ReadsMore-read gives c.loop.invariant.reads (g.R.Read.remaining c.read_more.new.input) c.read_more.new.self c.read_more.ensures.read in
    last_lost gives (IsReadItemErrorOfDecoder g.D.Decoder.fails) (IsReadItemErrorOfDecoder g.D.Decoder.fails_at_end) g.D.Decoder.keeps c.end_item.new.self reads
    g.met.D.Decoder.same c.end_item.result c.end_item.ensures

pub returns-then-not-branch-clause-due : goal.returns-then-not-branch-clause-due
returns-then-not-branch-clause-due g c =
    let ends : IsAtEnd (g.R.Read.remaining c.read_more.new.input) = search rules in
    last_due g.D.Decoder.gives g.D.Decoder.waits g.D.Decoder.fails g.D.Decoder.fails_at_end g.D.Decoder.keeps (g.R.Read.remaining c.read_more.new.input)
    c.read_more.new.self c.end_item.new.self ends c.end_item.result c.end_item.ensures

pub returns-in_err-item-clause-none_lost : goal.returns-in_err-item-clause-none_lost
returns-in_err-item-clause-none_lost g c =
    let gives = g.D.Decoder.gives in
    let reads = ReadsMore-read gives c.loop.invariant.reads (g.R.Read.remaining c.read_more.new.input) c.read_more.new.self c.read_more.ensures.read in
    let same = g.met.D.Decoder.same c.read_more.new.self c.held_item-in-loop.new.self c.in_err-item.ensures.1 in
    let lost = ReadsMore-same gives reads c.held_item-in-loop.new.self same in search rules

pub returns-in_err-item-clause-due : goal.returns-in_err-item-clause-due
returns-in_err-item-clause-due g c =
    let due = held_due g.D.Decoder.gives g.D.Decoder.waits g.D.Decoder.fails g.D.Decoder.fails_at_end g.D.Decoder.keeps (g.R.Read.remaining c.read_more.new.input)
    c.read_more.new.self c.held_item-in-loop.new.self c.in_err-item.field-0.0 c.in_err-item.ensures in search rules

pub loop-preserved : goal.loop-preserved
loop-preserved g c =
    let gives = g.D.Decoder.gives in
    let took = rw c.in_default-2.is at c.in_ok-item.ensures in
    let same = g.met.D.Decoder.same c.read_more.new.self c.held_item-in-loop.new.self took.1 in
    let reads = ReadsMore-read gives c.loop.invariant.reads (g.R.Read.remaining c.read_more.new.input) c.read_more.new.self c.read_more.ensures.read in
    record {
      reads = ReadsMore-same gives reads c.held_item-in-loop.new.self same;
      waiting = (c.read_more.new.self, took.0, took.1);
      waited = c.loop.invariant.waited;
    }
