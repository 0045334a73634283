-- A text appended to a text gives a text.
use Rattle.std.proofs.lemmas.Str.{IsUtf8-append}
use Rattle.bytes_utils.proofs.string.text.StrInner.push_str.Goals as goal

pub invariant_of-self-2 : goal.invariant_of-self-2
invariant_of-self-2 g c = rw (c.in_ok-push_slice.ensures.ok, c.as_bytes.ensures.value) (IsUtf8-append _ _ c.self.invariant c.utf8.s)
