use Rattle.std.proofs.Common.{arith}
use Rattle.std.specs.List.{concat}
use Rattle.bytes_utils_protocols.proofs.MultipartStreamLemmas.{first_in_front, late_in_front, none_in_front}
use Rattle.bytes_utils_protocols.proofs.multipart.waiting.Waiting.find_before.Goals as goal

pub returns-in_default-clause-none : goal.returns-in_default-clause-none
returns-in_default-clause-none c =
    let none = rw c.as_segmented.ensures at c.in_default.ensures.none in
    rw (← c.self.view_is) (none_in_front c.args.needle.now (concat c.self.inside.pieces.held.segments) c.args.len c.requires.some none)

pub returns-then-saturating_sub-needle-clause-none : goal.returns-then-saturating_sub-needle-clause-none
returns-then-saturating_sub-needle-clause-none c =
    let needle = c.args.needle.now in
    let held = concat c.self.inside.pieces.held.segments in
    let at = c.in-Some.at in
    let frame = rw c.as_segmented.ensures at c.in-Some.ensures.frame in
    let within = rw c.as_segmented.ensures at c.in-Some.ensures.within in
    rw (← c.self.view_is) (late_in_front needle held c.args.len c.requires.some at within frame.first (omega (arith, c.if-saturating_sub-needle.true, c.saturating_sub.ensures)))

pub returns-clause-frame : goal.returns-clause-frame
returns-clause-frame c =
    let needle = c.args.needle.now in
    let held = concat c.self.inside.pieces.held.segments in
    let at = c.in-Some.at in
    let frame = rw c.as_segmented.ensures at c.in-Some.ensures.frame in
    let within = rw c.as_segmented.ensures at c.in-Some.ensures.within in
    let come = rw (← c.self.view_is) at c.requires.come in
    rw (← c.self.view_is) (first_in_front needle held c.args.len c.requires.some at within frame.first come (omega (arith, c.if-saturating_sub-needle.false, c.saturating_sub.ensures, c.requires.some)))
