use Rattle.std.proofs.Common.{map, ap, subst, sym, ◌∙◌, IsUtf8, length, arith}
use Rattle.std.specs.Char.{to_ascii_lowercase}
use Rattle.bytes_utils.proofs.AsciiCase.{IsUtf8-lowercase, written_over}
use Rattle.bytes_utils.proofs.string.owned.StrInner+BytesMut.make_ascii_lowercase.Goals as goal

pub invariant_of-self : goal.invariant_of-self
invariant_of-self c =
    let changed = c.make_ascii_lowercase.ensures.after ∙ ap (map to_ascii_lowercase) c.as_mut_slice.ensures.value in
    let same = written_over _ c.make_ascii_lowercase.new.self (omega (arith, c.make_ascii_lowercase.auto.self, ap length c.as_mut_slice.ensures.value)) ∙ changed in
    subst IsUtf8 (sym same) (IsUtf8-lowercase _ c.self.invariant)
