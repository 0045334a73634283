use Rattle.std.proofs.Common.{◌≡◌, ◌≤◌, ◌+◌, ◌++◌, ◌∙◌, ℕ, List, [], Bor, arith, ap, length, sym, take, get_or, rules}
use Rattle.std.proofs.lemmas.List.{take_more}
use Rattle.std.proofs.lemmas.Slice.{take-put_mid}
use Rattle.bytes_utils_buf.specs.Slices.{joined_slices}
use Rattle.bytes_utils_buf.proofs.SlicesLemmas.{joined_slices-push}
use Rattle.bytes_utils_buf.proofs.write.gather_to_write.Goals as goal

pub loop-gathered-preserved : goal.loop-gathered-preserved
loop-gathered-preserved c =
    let loop = c.loop-gathered in
    let slices = c.args.slices.now in
    let none : Bor (List ℕ) = record { ref_ptr = (0, 0); now = [] } in
    let slice = get_or slices loop.gathered none in
    let room : loop.filled + length slice.now ≤ length c.args.block.now = search rules in
    let same : c.copy_from_slice.new.self ≡ slice.now = c.copy_from_slice.ensures.after in
    let size : loop.filled + length slice.now ≡ loop.filled + length c.copy_from_slice.new.self = ap (λ l. loop.filled + length l) (sym same) in
    let within : loop.filled ≤ length loop.block = search rules in
    record {
      within = omega arith;
      room = room;
      bytes = take-put_mid loop.filled _ loop.block c.copy_from_slice.new.self (loop.filled + length slice.now) size within
          ∙ ap (λ l. take loop.filled loop.block ++ l) same
          ∙ ap (λ l. l ++ slice.now) loop.invariant.bytes
          ∙ sym (ap joined_slices (take_more slices loop.gathered none c.loop-gathered-test.true) ∙ joined_slices-push (take loop.gathered slices) slice);
    }
