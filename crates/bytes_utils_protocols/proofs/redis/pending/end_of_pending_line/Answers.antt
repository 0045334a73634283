use Rattle.std.proofs.Common.{arith, ◌≡◌, ◌≢◌, ◌+◌, ◌-◌, ◌≤◌, ◌⊎◌, inl, inr, Some, length, take, drop, get_or, ap, ◌∙◌, sym, subst}
use Rattle.std.specs.List.{concat, slice_get}
use Rattle.std.proofs.lemmas.List.{length-drop, length-take}
use Rattle.bytes_utils_codec.specs.Frames.{TakesFrame}
use Rattle.bytes_utils.specs.Lines.{carriage_return}
use Rattle.bytes_utils.specs.Occurrence.{Occurs}
use Rattle.bytes_utils_protocols.specs.Redis.{redis_line_end}
use Rattle.bytes_utils_protocols.proofs.ReplyEnds.{last_cut, no_last_return, none_ends, none_open, option_is, option_is_not}
use Rattle.bytes_utils_protocols.proofs.redis.pending.end_of_pending_line.Goals as goal
use Rattle.bytes_utils_protocols.proofs.redis.pending.end_of_pending_line.Goals.{else-all-read-via-then-all-read+else-eq, else-all-read-via-else-all-read}

pub returns-in-Some-clause-none : goal.returns-in-Some-clause-none
returns-in-Some-clause-none c more =
    let u = concat c.args.pieces.now.held.segments in
    let len = c.in-Some.len in
    let framed : TakesFrame redis_line_end (drop c.args.read u) (take (len - c.args.read) (drop c.args.read u)) (drop (len + 2) u) = rw c.as_segmented.ensures at c.in-Some.ensures.frame in
    let ends : len + 2 ≤ length u = rw c.as_segmented.ensures at c.in-Some.ensures.within in
    none_ends u c.args.read c.requires.within c.requires.none len (λ k below. omega (arith, below, ends))
    (λ j at. omega (arith, framed.first.none_before j at, c.in-Some.ensures.start, ends, length-take (len - c.args.read) (drop c.args.read u), length-drop c.args.read u)) more

pub returns-then-eq-clause-none : goal.returns-then-eq-clause-none
returns-then-eq-clause-none c more =
    let u = concat c.args.pieces.now.held.segments in
    let missing : c.args.read ≤ length u → ¬ Occurs redis_line_end (drop c.args.read u) = rw c.as_segmented.ensures at c.in_default.ensures.none in
    none_ends u c.args.read c.requires.within c.requires.none (c.remaining-all.result - 1) (λ k below. omega (arith, below, c.remaining-all.ensures))
    (λ j at. absurd (missing c.requires.within (j, at))) more

pub returns-then-eq-clause-end : goal.returns-then-eq-clause-end
returns-then-eq-clause-end c =
    let u = concat c.args.pieces.now.held.segments in
    let is : c.byte_at.result ≡ Some 13 = option_is c.byte_at.result 13 (sym c.if-eq.ensures) in
    let last : slice_get u (c.remaining-all.result - 1) ≡ Some 13 = ap (λ held. slice_get (concat held.segments) (c.remaining-all.result - 1)) (sym c.as_segmented-then-all-read.ensures) ∙ sym c.byte_at.ensures ∙ is in
    last_cut u (c.remaining-all.result - 1) 13 (omega (arith, c.remaining-all.ensures, c.if-all-read.true)) last

pub returns-clause-none : goal.returns-clause-none
returns-clause-none c more =
    let u = concat c.args.pieces.now.held.segments in
    let missing : c.args.read ≤ length u → ¬ Occurs redis_line_end (drop c.args.read u) = rw c.as_segmented.ensures at c.in_default.ensures.none in
    let open_line : (get_or u (length u - 1) 0 ≢ carriage_return) ⊎ (length u ≤ c.args.read) = elim c.else-all-read.branch [
      | else-all-read-via-then-all-read+else-eq w ↦
          let other : slice_get u (c.remaining-all.result - 1) ≢ Some 13 =
          λ last. option_is_not w.byte_at.result 13 (sym w.if-eq.ensures) (w.byte_at.ensures ∙ ap (λ held. slice_get (concat held.segments) (c.remaining-all.result - 1)) w.as_segmented-then-all-read.ensures ∙ last) in
          inl (no_last_return u (omega (arith, c.remaining-all.ensures, w.if-all-read.true)) (subst (λ n. slice_get u (n - 1) ≢ Some 13) c.remaining-all.ensures other))
      | else-all-read-via-else-all-read w ↦ inr (omega (arith, c.remaining-all.ensures, w.if-all-read.false))
    ] in
    rw c.remaining-all.ensures (none_open u c.args.read c.requires.within c.requires.none open_line (missing c.requires.within) more)
