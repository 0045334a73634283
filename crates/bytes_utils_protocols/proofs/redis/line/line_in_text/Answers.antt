use Rattle.std.proofs.Common.{inl, inr, ⊎_elim}
use Rattle.bytes_utils_protocols.proofs.LineSteps.{text_stops}
use Rattle.bytes_utils_protocols.proofs.redis.line.line_in_text.Goals as goal

pub returns-in-13 : goal.returns-in-13
returns-in-13 c bytes text = text_stops bytes c.args.byte text (⊎_elim (λ is. inr is) (λ is. inl is) c.in-13.is)
