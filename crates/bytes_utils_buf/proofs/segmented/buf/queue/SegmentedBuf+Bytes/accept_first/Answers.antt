use Rattle.std.proofs.Common.{◌≡◌, ◌<◌, [], ◌∷◌, ◌++◌, length, map, arith, ap, ◌∙◌, length-append}
use Rattle.std.proofs.lemmas.List.{length_push, map_push}
use Rattle.std.proofs.lemmas.List.Elements.{All-same, All-push}
use Rattle.std.specs.List.{concat}
use Rattle.bytes.proofs.Chunks.{concat_push}
use Rattle.bytes_utils_buf.proofs.segmented.buf.queue.SegmentedBuf+Bytes.accept_first.Goals as goal

pub invariant_of-self-2 : goal.invariant_of-self-2
invariant_of-self-2 c =
    let items = c.self.inside.segments.items in
    let held = map (λ b. b) items in
    let chunk = c.in-Some.chunk in
    let grown : c.push_back_reserved.new.self.items ≡ items ++ chunk ∷ [] =
    c.push_back_reserved.ensures.items ∙ ap (λ l. l ++ chunk ∷ []) c.reserve.ensures.items in
    let lists = ap (map (λ b. b)) grown ∙ map_push (λ b. b) items chunk in (
      omega (arith, ap (λ l. length (concat l)) lists, ap length (concat_push held chunk), length-append (concat held) chunk, c.self.invariant.0, c.len.ensures.value),
      All-same (λ s. 0 < length s) _ _ lists (All-push (λ s. 0 < length s) held chunk c.self.invariant.1 c.in-Some.ensures.0),
      rw c.give.ensures (omega (arith, ap length lists, length_push held chunk, c.self.invariant.2)),
    )
