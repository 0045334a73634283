use Rattle.std.proofs.Common.{None, ap, arith, length}
use Rattle.std.specs.List.{concat}
use Rattle.bytes_utils_codec.proofs.FindLemmas.{found_later}
use Rattle.bytes_utils_codec.proofs.find.find_prepared.Goals as goal

pub returns-in-Ok : goal.returns-in-Ok
returns-in-Ok g c = rw c.needle.ensures at c.in-Ok.ensures.found

pub returns-then-saturating_sub-needle : goal.returns-then-saturating_sub-needle
returns-then-saturating_sub-needle g c =
    let none = rw c.needle.ensures at c.in-Err.ensures.none in
    found_later (concat c.args.buf.now.segments) c.args.finder.now c.args.start c.in-Err.from None c.in-Err.ensures.low none
    (λ j low high here. absurd (omega (
      arith,
      low,
      here.fits,
      c.requires.some,
      c.if-saturating_sub-needle.true,
      c.saturating_sub.ensures,
      c.remaining.ensures,
      ap length c.needle-2.ensures,
    )))

pub returns : goal.returns
returns g c =
    let none = rw c.needle.ensures at c.in-Err.ensures.none in
    found_later (concat c.args.buf.now.segments) c.args.finder.now c.args.start c.in-Err.from c.find_from_segment.result c.in-Err.ensures.low none
    c.find_from_segment.ensures
