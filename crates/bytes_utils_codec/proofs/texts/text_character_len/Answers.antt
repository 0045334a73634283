use Rattle.std.proofs.Common.{◌≡◌, length, take, drop, refl, arith, ap, ◌∙◌, sym, subst, IsUtf8, length-drop, length-take}
use Rattle.std.proofs.lemmas.List.{take-take}
use Rattle.std.proofs.lemmas.Str.{IsUtf8-take, encodes-chars}
use Rattle.std.specs.Str.{IsCharBoundary}
use lib.Utf8.{encodes}
use Rattle.bytes_utils.proofs.CharacterCut.{boundary, after_shorter}
use Rattle.bytes_utils_codec.proofs.texts.text_character_len.Goals as goal

-- the longest text at the start has the bytes before its end
front_len_is : (c : goal.In-Some) → length c.from_utf8_unchecked-text.result.now ≡ c.text_front_len.result
front_len_is c = ap length c.from_utf8_unchecked-text.ensures ∙ length-take _ _ ∙ omega (arith, c.text_front_len.ensures.within)

place : (c : goal.In-Some) → IsCharBoundary c.from_utf8_unchecked-text.result.now c.in-Some.end
place c = boundary _ c.from_utf8_unchecked-text.utf8 1 _ c.in-Some.ensures.1

pub returns-in-Some-clause-none : goal.returns-in-Some-clause-none
returns-in-Some-clause-none c zero =
    let text = c.from_utf8_unchecked-text.result.now in
    let less = after_shorter text c.from_utf8_unchecked-text.utf8 _ c.in-Some.ensures.0 c.in-Some.ensures.1 (drop c.in-Some.end text) refl in
    absurd (omega (arith, zero, less, length-drop c.in-Some.end text))

pub returns-in-Some-clause-within : goal.returns-in-Some-clause-within
returns-in-Some-clause-within c = omega (arith, (place c).0, front_len_is c, c.text_front_len.ensures.within)

pub returns-in-Some-clause-utf8 : goal.returns-in-Some-clause-utf8
returns-in-Some-clause-utf8 c =
    let first = IsUtf8-take _ _ c.from_utf8_unchecked-text.utf8 (place c) in
    let is = ap (take c.in-Some.end) c.from_utf8_unchecked-text.ensures
    ∙ take-take c.in-Some.end c.text_front_len.result c.args.bytes.now (omega (arith, (place c).0, front_len_is c)) in
    subst IsUtf8 is first

pub returns-in-None-clause-none : goal.returns-in-None-clause-none
returns-in-None-clause-none c _ =
    let text = c.from_utf8_unchecked-text.result.now in
    let empty = sym (encodes-chars text c.from_utf8_unchecked-text.utf8) ∙ ap encodes c.in-None.ensures in
    let size = ap length c.from_utf8_unchecked-text.ensures ∙ length-take c.text_front_len.result c.args.bytes.now in
    omega (arith, ap length empty, size, c.text_front_len.ensures.value, c.text_front_len.ensures.within)
