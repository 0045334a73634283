use Rattle.std.proofs.Common.{◌≡◌, ◌≢◌, ◌<◌, ◌∙◌, ◌+◌, ◌-◌, rules, refl, ap, arith, length, length-drop, length-take, drop}
use Rattle.std.proofs.lemmas.Bool.{false≢true}
use Rattle.std.proofs.lemmas.Result.{err_from_is_err_and}
use Rattle.std.specs.List.{concat, slice_range}
use Rattle.bytes_utils_codec.specs.Decoding.{decoding}
use Rattle.bytes_utils_protocols.specs.Netstrings.{HasNetstring}
use Rattle.bytes_utils_protocols.proofs.NetstringsLemmas.{refused_text, whole_text, wrong_comma}
use Rattle.bytes_utils_protocols.proofs.netstrings.Netstrings.take.Goals as goal

pub returns-then-not-holds_at-clause-err : goal.returns-then-not-holds_at-clause-err
returns-then-not-holds_at-clause-err c =
    let held = concat c.args.held.now.held.segments in
    let begins = rw c.in-Some.is at c.in_ok-start.ensures.begins in
    let some : c.in-Some.len < length (drop c.in-Some.start held) = omega (arith, length-drop c.in-Some.start held, c.remaining.ensures, c.if-remaining-start.false) in
    let looked = rw c.as_segmented-pieces.ensures at c.if-not-holds_at.ensures in (
      wrong_comma c.args.self.max_length held c.in-Some.start c.in-Some.len begins
          (λ comma. false≢true (looked.1 (omega (arith, some, length-drop c.in-Some.start held), comma))) some,
      refl,
    )

pub returns-in_err-text-clause-err : goal.returns-in_err-text-clause-err
returns-in_err-text-clause-err c =
    let s = decoding c.args.self c.args.held.now in
    let start = c.in-Some.start in
    let end = start + c.in-Some.len in
    let begins = rw c.in-Some.is at c.in_ok-start.ensures.begins in
    let comma = rw c.as_segmented-pieces.ensures at c.holds_at.ensures in
    let takes = whole_text c.args.self.max_length s.held start c.in-Some.len begins (comma.0 c.if-not-holds_at.false).1 in
    let filled : start ≢ end = λ none. false≢true (c.in_err-text.ensures.none none) in
    let has : HasNetstring s = (slice_range s.held start end, record s { held = drop (end + 1) s.held }, (refl, takes), omega (arith, filled, length-take (end - start) (drop start s.held), length-drop start s.held, c.remaining.ensures, c.if-remaining-start.false)) in
    let out = err_from_is_err_and c.from_residual-in_err-text.result c.from_residual-in_err-text.ensures.1 in
    rw (out.1, out.2) (refused_text s c.in_err-text.field-0.0 c.in_err-text.ensures.reason has, refl)

pub returns-clause-item : goal.returns-clause-item
returns-clause-item c =
    let held = concat c.args.held.now.held.segments in
    let begins = rw c.in-Some.is at c.in_ok-start.ensures.begins in
    let comma = rw c.as_segmented-pieces.ensures at c.holds_at.ensures in
    let takes = whole_text c.args.self.max_length held c.in-Some.start c.in-Some.len begins (comma.0 c.if-not-holds_at.false).1 in
    let text = rw c.as_segmented-pieces.ensures at c.in_ok-text.ensures.value in
    let left : concat c.advance.new.self.held.segments ≡ drop (c.in-Some.start + c.in-Some.len + 1) held =
    c.advance.ensures.bytes ∙ ap (λ n. drop n held) (omega arith) in
    (search rules, rw (text, left) takes)
