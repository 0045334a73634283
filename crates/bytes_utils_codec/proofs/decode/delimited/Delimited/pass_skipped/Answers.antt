use Rattle.std.proofs.Common.{◌≡◌, ◌∙◌, ap, sym, arith, ℕ, ◌≤◌, ◌<◌, ◌-◌, Bool, length, drop, max, inl, inr}
use Rattle.std.specs.List.{concat}
use Rattle.bytes_utils_buf.specs.Packing.{Packing}
use Rattle.bytes_utils_codec.specs.Decoding.{decoding}
use Rattle.bytes_utils_codec.specs.Delimited.{Delimiting, ready_delimited}
use Rattle.bytes_utils_codec.specs.Search.{Searching, search_from_front}
use Rattle.bytes_utils_codec.proofs.DelimitedLemmas.{passed_found, lacks_missed, same_missed, drops_missed}
use Rattle.bytes_utils_codec.proofs.decode.delimited.Delimited.pass_skipped.Goals as goal
use Rattle.bytes_utils_codec.proofs.decode.delimited.Delimited.pass_skipped.Goals.{then-begun-remaining, else-begun-remaining}

abbrev view : Searching → ℕ → Bool → Delimiting
view search limit skipping = record { separator = search.needle; max_length = limit; searched = search.searched; skipping = skipping }

pub returns-in-Some-clause-skipped : goal.returns-in-Some-clause-skipped
returns-in-Some-clause-skipped c =
    let q = c.self.inside in
    let held = c.args.held.now in
    let d = view q.search q.max_length q.skipping in
    let f = c.in-Some.ensures in
    let found = rw c.as_segmented.ensures at f.found in
    let passed = c.pass_separator in
    let after = rw f.some at passed.ensures in
    let bytes : concat c.advance.new.self.held.segments ≡ drop c.in-Some.len (concat held.held.segments) = c.advance.ensures.bytes in
    let is = after ∙ (λ i. record {
      decoder = ready_delimited d;
      held = drop (length q.search.needle) (bytes i);
      threshold = c.advance.ensures.threshold i;
    }) in
    rw (← c.self.view_is) (passed_found (decoding d held) f.needle c.in-Some.len (decoding passed.new.self passed.new.held) found c.if-not-self.false is)

pub returns-clause-skipped : goal.returns-clause-skipped
returns-clause-skipped c =
    let q = c.self.inside in
    let held = concat c.args.held.now.held.segments in
    let d = view q.search q.max_length q.skipping in
    let s = decoding d c.args.held.now in
    let f = c.in_default.ensures in
    let missed = rw c.as_segmented.ensures at f.found in
    let none = rw c.as_segmented.ensures at f.none in
    let skipping = c.if-not-self.false in
    let begun = c.searched-begun.result in
    let is : begun ≡ max q.search.searched (length held - (length q.search.needle - 1)) =
    c.searched-begun.ensures ∙ ap (λ (t : Searching). t.searched) none in
    let new = decoding c.if-begun-remaining.self c.if-begun-remaining.held in
    let viewed = λ (t : Searching). view t q.max_length q.skipping in
    rw (← c.self.view_is) (
      (skipping, lacks_missed s f.needle missed),
      elim c.if-begun-remaining.branch [
        | then-begun-remaining w ↦
            let fits : begun ≤ length held = omega (arith, w.if-begun-remaining.true, c.remaining.ensures) in
            let dropped = w.advance-then-begun-remaining.ensures in
            let rest = ap (λ (p : Packing). concat p.held.segments) w.held-is ∙ dropped.bytes in
            let begins = w.self-is ∙ ap viewed (w.restart.ensures ∙ ap search_from_front none) in
            let threshold = ap (λ (p : Packing). p.threshold) w.held-is ∙ dropped.threshold in
            inl (drops_missed s f.needle missed begun is new fits skipping rest
            (λ i. record { decoder = begins i; held = new.held; threshold = threshold i }))
        | else-begun-remaining w ↦
            let short : length held < begun = omega (arith, w.if-begun-remaining.false, c.remaining.ensures) in
            let unchanged = same_missed s f.needle missed begun is short in
            let decoder = w.self-is ∙ ap viewed none ∙ ap (λ n. record d { searched = n }) (sym is ∙ unchanged) in
            inr (omega (arith, short, unchanged), (λ i. decoding (decoder i) (w.held-is i)))
      ],
    )
