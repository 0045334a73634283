use Rattle.std.proofs.Common.{true, ◌∙◌, sym, refl}
use Rattle.std.proofs.lemmas.Bool.{true≢false}
use Rattle.bytes_utils_protocols.proofs.ReplyLines.{large_head}
use Rattle.bytes_utils_protocols.proofs.LineSteps.{none_in}
use Rattle.bytes_utils_protocols.proofs.redis.line.BegunLine.check.Goals as goal
use Rattle.bytes_utils_protocols.proofs.redis.line.BegunLine.check.Goals.{then-ended-via-then-ended, then-ended-via-else-ended+then-not-lacks_byte}

pub returns-then-not-is_line_within-clause-too_large : goal.returns-then-not-is_line_within-clause-too_large
returns-then-not-is_line_within-clause-too_large c _ bytes after is size open_line =
    large_head c.args.limits c.args.room bytes c.in-Some.head (c.in-Some.ensures bytes is)
    (λ within. true≢false (sym (c.is_line_within.ensures.1 within) ∙ c.if-not-is_line_within.true)) after

pub returns-then-ended-clause-malformed : goal.returns-then-ended-clause-malformed
returns-then-ended-clause-malformed c _ bytes is = elim c.then-ended.branch [
  | then-ended-via-then-ended w ↦ none_in c.args.ended true bytes (c.in_default.ensures bytes is) (λ _. refl) (λ open_line. absurd (true≢false (sym w.if-ended.true ∙ open_line)))
  | then-ended-via-else-ended+then-not-lacks_byte w ↦ none_in c.args.ended w.lacks_byte.result bytes (c.in_default.ensures bytes is) (w.lacks_byte.ensures bytes is).1 (λ _. w.if-not-lacks_byte.true)
]
