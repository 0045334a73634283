use Rattle.std.proofs.Common.{◌≡◌, ◌-◌, ◌++◌, ◌≤◌, length, take, drop, ap, ◌∙◌, sym, arith}
use Rattle.std.specs.List.{concat}
use Rattle.std.proofs.lemmas.List.{drop-append-le, take-append-drop, take-append-le, length-drop}
use Rattle.bytes_utils_codec.specs.Prefixed.{prefixed_number_of}
use Rattle.bytes_utils_codec.proofs.decode.length_prefixed.LengthPrefixed.stated_len.Goals as goal

-- the first segment has the whole head
pub returns-then-head-front : goal.returns-then-head-front
returns-then-head-front c =
    let d = c.args.self.now in
    let front = c.chunk-front.result.now in
    let all = concat c.args.held.now.held.segments in
    let from : c.self.inside.offset ≡ d.offset = ap (λ v. v.offset) c.self.view_is in
    let len : c.args.head - c.self.inside.offset ≡ d.width = omega (arith, from, c.requires.head) in
    let rest = drop (length front) all in
    let split : all ≡ front ++ rest = sym (take-append-drop (length front) all) ∙ ap (λ l. l ++ rest) c.chunk-front.ensures.front in
    let within : d.offset ≤ length front = omega (arith, c.requires.head) in
    let field : take d.width (drop d.offset all) ≡ take d.width (drop d.offset front) =
    ap (λ l. take d.width (drop d.offset l)) split ∙ ap (take d.width) (drop-append-le d.offset front rest within)
    ∙ take-append-le d.width (drop d.offset front) rest (omega (arith, c.requires.head, length-drop d.offset front)) in
    c.number_of.ensures ∙ (λ i. prefixed_number_of d.is_little_endian (take (len i) (drop (from i) front))) ∙ ap (prefixed_number_of d.is_little_endian) (sym field)
