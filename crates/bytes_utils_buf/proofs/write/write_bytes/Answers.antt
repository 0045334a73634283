use Rattle.std.proofs.Common.{◌≡◌, ◌≤◌, ◌+◌, ◌∙◌, [], ap, append-nil, drop, length, length-take-le, sym, take, take-append-drop}
use Rattle.std.proofs.lemmas.List.{take_rest}
use Rattle.bytes_utils_buf.proofs.WriteLemmas.{WritesCounted-more, WritesCounted-one, bytes-following}
use Rattle.bytes_utils_buf.proofs.write.write_bytes.Goals as goal

pub loop-rest-preserved : goal.loop-rest-preserved
loop-rest-preserved g c =
    let rest = c.loop-rest.rest.now in
    let count = c.in_ok-count.count in
    let bound : count ≤ length rest = c.in_ok-count.ensures.bound in
    let is = take-append-drop count rest ∙ c.loop-rest.invariant.left in
    let size : c.loop-rest.written + count ≡ c.loop-rest.written + length (take count rest) = ap (λ n. c.loop-rest.written + n) (sym (length-take-le count rest bound)) in
    record {
      front = WritesCounted-more [] c.loop-rest.invariant.front (WritesCounted-one c.loop-rest.written count rest bound c.in_ok-count.ensures.bytes) (append-nil rest ∙ c.loop-rest.invariant.left);
      left = take_rest rest count ∙ bytes-following c.args.bytes.now (take count rest) (drop count rest) c.loop-rest.invariant.front.rises size is;
    }
