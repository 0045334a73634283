use Rattle.std.proofs.Common.{Some, inl, inr, ap, ◌∙◌, sym}
use Rattle.std.proofs.lemmas.Result.{err_from_is_err_and}
use Rattle.bytes_utils_protocols.proofs.EventsLemmas.{fault_less, gives_less, over_kept, reads_less, reads_more}
use Rattle.bytes_utils_protocols.specs.Events.{Eventing}
use Rattle.bytes_utils_protocols.proofs.events.EventReader.next_event.Goals as goal

pub loop-line-preserved-in-Ok-None : goal.loop-line-preserved-in-Ok-None
loop-line-preserved-in-Ok-None c =
    reads_more c.args.self.now c.loop-line.self c.next_line.new.self c.read.new.self c.in-Some.line c.loop-line.invariant
    (rw c.in-Some.is at c.in_ok-line.ensures.line) (rw c.in-Ok-None.field-0-is at c.in-Ok-None.ensures.none)

pub loop-line-preserved : goal.loop-line-preserved
loop-line-preserved c =
    reads_more c.args.self.now c.loop-line.self c.next_line.new.self c.read.new.self c.in-Some.line c.loop-line.invariant
    (rw c.in-Some.is at c.in_ok-line.ensures.line) (rw c.in-Ok-None.field-0-is at c.in-Ok-None.ensures.none)

pub loop-line-smaller-in-Ok-None : goal.loop-line-smaller-in-Ok-None
loop-line-smaller-in-Ok-None c =
    reads_less c.loop-line.self c.next_line.new.self c.read.new.self c.in-Some.line
    (rw c.in-Some.is at c.in_ok-line.ensures.line) (rw c.in-Ok-None.field-0-is at c.in-Ok-None.ensures.none)

pub loop-line-smaller : goal.loop-line-smaller
loop-line-smaller c =
    reads_less c.loop-line.self c.next_line.new.self c.read.new.self c.in-Some.line
    (rw c.in-Some.is at c.in_ok-line.ensures.line) (rw c.in-Ok-None.field-0-is at c.in-Ok-None.ensures.none)

pub returns-in_err-line-clause-less_by_fault : goal.returns-in_err-line-clause-less_by_fault
returns-in_err-line-clause-less_by_fault c =
    let out = err_from_is_err_and c.from_residual.result c.from_residual.ensures.1 in
    rw out.1 (λ is. fault_less c.args.self.now c.next_line.new.self
    (c.loop-line.self, c.loop-line.invariant, c.in_err-line.ensures.not_utf8 (sym out.2 ∙ is)))

pub returns-in-Ok-Some-clause-less : goal.returns-in-Ok-Some-clause-less
returns-in-Ok-Some-clause-less c = gives_less c.args.self.now c.in-Ok-Some.event c.read.new.self (record {
  before = c.loop-line.self;
  reads = c.loop-line.invariant;
  line = c.in-Some.line;
  taken = c.next_line.new.self;
  takes = rw c.in-Some.is at c.in_ok-line.ensures.line;
  ends = rw c.in-Ok-Some.field-0-is at c.in-Ok-Some.ensures.some;
})

pub returns-in-Err-clause-too_large : goal.returns-in-Err-clause-too_large
returns-in-Err-clause-too_large c is =
    inr (over_kept c.args.self.now c.loop-line.self c.next_line.new.self _ c.in-Some.line c.loop-line.invariant (rw c.in-Some.is at c.in_ok-line.ensures.line) (rw c.in-Some.is at c.in_ok-line.ensures.utf8)
    (ap (λ (r : Eventing). record r { waiting = Some c.in-Some.line }) (c.self.view_is ∙ c.in-Err.ensures.err)) (c.in-Err.ensures.too_large is))

pub returns-in_err-line-clause-due : goal.returns-in_err-line-clause-due
returns-in_err-line-clause-due c =
    let out = err_from_is_err_and c.from_residual.result c.from_residual.ensures.1 in
    rw out.1 (λ reason is. (
      c.loop-line.self,
      c.loop-line.invariant,
      inl (c.in_err-line.ensures.refused reason (sym out.2 ∙ is), c.in_err-line.ensures.due reason (sym out.2 ∙ is)),
    ))

pub returns-in-Err-clause-due : goal.returns-in-Err-clause-due
returns-in-Err-clause-due c reason is = (
  c.loop-line.self,
  c.loop-line.invariant,
  inr (record {
    awaits = record {
      line = c.in-Some.line;
      taken = c.next_line.new.self;
      takes = rw c.in-Some.is at c.in_ok-line.ensures.line;
      utf8 = rw c.in-Some.is at c.in_ok-line.ensures.utf8;
      waits = ap (λ (r : Eventing). record r { waiting = Some c.in-Some.line }) (c.self.view_is ∙ c.in-Err.ensures.err);
    };
    asks = c.in-Err.ensures.asks;
    small = c.in-Err.ensures.small reason is;
  }),
)
