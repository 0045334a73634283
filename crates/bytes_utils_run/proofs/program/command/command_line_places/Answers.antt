-- A text without a line feed is its first line, and nothing follows it.
use Rattle.std.proofs.Common.{◌≡◌, sym, ap, ◌∙◌, ◌<◌, ℕ, List, [], ◌∷◌, unwrap_or, slice_get, length, arith}
use Rattle.std.proofs.Math.Seq.{take-length, drop-length}
use Rattle.std.proofs.lemmas.Str.{chars-nil}
use Rattle.std.specs.Str.{chars}
use Rattle.bytes_utils.specs.Lines.{lines}
use Rattle.bytes_utils_run.specs.Command.{command_line}
use Rattle.bytes_utils_run.proofs.program.command.command_line_places.Goals as goal

line-whole : (text : List ℕ) → (0 < length text → lines (chars text) ≡ chars text ∷ []) → chars text ≡ command_line (chars text)
line-whole [] only = chars-nil ∙ sym (ap command_line chars-nil)
line-whole (b ∷ text) only = sym (ap (λ ls. unwrap_or (slice_get ls 0) []) (only (omega arith)))

pub returns-in_default-clause-line : goal.returns-in_default-clause-line
returns-in_default-clause-line c = ap chars (take-length c.args.input.now) ∙ line-whole c.args.input.now c.in_default.ensures.line

pub returns-in_default-clause-text : goal.returns-in_default-clause-text
returns-in_default-clause-text c = ap chars (drop-length c.args.input.now) ∙ chars-nil ∙ sym c.in_default.ensures.after
