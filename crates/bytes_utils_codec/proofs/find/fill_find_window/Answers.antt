use Rattle.std.proofs.Common.{◌≡◌, ◌-◌, ◌<◌, ◌++◌, [], length, take, drop, slice_get, Some, arith, rules, ap, ◌∙◌, sym, length-take-le}
use Rattle.std.proofs.lemmas.Option.{get_or_from_slice_get, slice_get_within, slice_get-get_or}
use Rattle.std.specs.List.{concat}
use Rattle.bytes_utils_codec.proofs.FindLemmas.{Fills-first, Fills-more}
use Rattle.bytes_utils_codec.proofs.find.fill_find_window.Goals as goal

pub loop-i-preserved : goal.loop-i-preserved
loop-i-preserved g c =
    let segments = c.args.buf.now.segments in
    let l = c.loop-i in
    let segment = c.in-Some.segment.now in
    let read : slice_get segments l.i ≡ Some segment = sym c.in-Some.ensures in
    let inside = slice_get_within segments l.i segment read in
    let is = sym (get_or_from_slice_get segments l.i segment [] read) in
    let size = length-take-le l.filled l.window l.invariant.0 in
    let room : length l.window - l.filled ≡ length c.args.window.now - length (take l.filled l.window) = omega (arith, size, l.auto.window) in
    let next = c.copy_to_find_window-filled-in-loop-i.ensures.bytes ∙ ap (λ n. take l.filled l.window ++ take n segment) room in
    (search rules, Fills-more (length c.args.window.now) (c.args.piece.now ++ concat (drop c.args.next segments)) segments (take l.filled l.window) segment (take c.copy_to_find_window-filled-in-loop-i.result c.copy_to_find_window-filled-in-loop-i.new.window) l.i l.invariant.1 inside is next)

pub returns-in_default-clause-bytes : goal.returns-in_default-clause-bytes
returns-in_default-clause-bytes g c =
    let segments = c.args.buf.now.segments in
    let l = c.loop-i in
    let inside : l.i < length segments = omega arith in
    let some = slice_get-get_or segments l.i [] inside in
    let none = c.in_default.ensures in
    cc

pub loop-i-init : goal.loop-i-init
loop-i-init g c =
    let size = length c.args.window.now in
    let whole : size - 0 ≡ size = omega arith in
    let first = c.copy_to_find_window-filled.ensures.bytes ∙ ap (λ n. take n c.args.piece.now) whole in
    (search rules, Fills-first size c.args.buf.now.segments c.args.piece.now (take c.copy_to_find_window-filled.result c.copy_to_find_window-filled.new.window) c.args.next first)
