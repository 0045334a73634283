use Rattle.std.proofs.Common.{◌≡◌, ◌≤◌, ◌++◌, rules, sym, ap, ◌∙◌, take, drop, length, take-add, take-take, drop-drop, arith}
use Rattle.std.proofs.lemmas.List.{places}
use Rattle.std.proofs.lemmas.Slice.{overwrites}
use Rattle.std.specs.List.{concat}
use Rattle.bytes_utils_codec.specs.Cursor.{unread, passed_on}
use Rattle.bytes_utils_codec.proofs.cursor.Cursor.copy_next.Goals as goal

pub loop-filled-preserved : goal.loop-filled-preserved
loop-filled-preserved g c =
    let old = c.args.self.now in
    let all = unread old in
    let n = c.loop-filled.filled in
    let count = c.min-count.result in
    let chunk = c.chunk-chunk.result.now in
    let fits : count ≤ length chunk = search rules in
    let next : unread c.loop-filled.self ≡ drop n all = ap unread c.loop-filled.invariant.2 ∙ sym (drop-drop n old.at (concat old.segments)) in
    let part : take count chunk ≡ take count (drop n all) =
    ap (take count) (sym c.chunk-chunk.ensures.front) ∙ take-take count _ _ fits ∙ ap (take count) next in (
      search (rules, places),
      search (rules, overwrites) ∙ (λ i. c.loop-filled.invariant.1 i ++ part i) ∙ sym (take-add n count all),
      c.advance.ensures ∙ ap (passed_on count) c.loop-filled.invariant.2 ∙ ap (λ k. record { segments = old.segments; at = k }) (omega arith),
    )
