-- What a text begins with, by its bytes and by its characters.
use Rattle.std.proofs.Common.{◌≡◌, refl, sym, ap, subst, ◌∙◌, ℕ, true, List, [], ◌∷◌, ◌++◌, append_assoc, IsUtf8}
use Rattle.std.proofs.lemmas.Str.{chars-encodes, scalars-chars, IsUtf8-past_char, chars_past_char}
use Rattle.std.specs.Char.{encode_utf8}
use Rattle.std.specs.Str.{chars, encode_utf8_all as encodes, all_scalars as scalars}
use Rattle.bytes_utils.proofs.Places.{scalars-part}

-- what follows the bytes of these characters is text, and follows the characters
pub following : (cs text rest : List ℕ) → IsUtf8 text → text ≡ encodes cs ++ rest → IsUtf8 rest × (chars text ≡ cs ++ chars rest)
following [] text rest text_is e = (subst IsUtf8 e text_is, ap chars e)
following (c ∷ cs) text rest text_is e =
    let split : text ≡ encode_utf8 c ++ (encodes cs ++ rest) = e ∙ append_assoc (encode_utf8 c) (encodes cs) rest in
    let others = following cs (encodes cs ++ rest) rest (IsUtf8-past_char text _ c text_is split) refl in
    (others.0, chars_past_char text _ c text_is split ∙ ap (λ z. c ∷ z) others.1)

-- a text between others in a text has the characters that its bytes encode
pub between : (front xs text rest x : List ℕ) → IsUtf8 text → text ≡ encodes front ++ (encodes xs ++ rest) → encodes xs ≡ x
    → IsUtf8 x × IsUtf8 rest × (chars text ≡ front ++ (chars x ++ chars rest)) × (chars x ≡ xs)
between front xs text rest x text_is e x_is =
    let more = following front text (encodes xs ++ rest) text_is e in
    let last = following xs (encodes xs ++ rest) rest more.0 refl in
    let whole : chars text ≡ front ++ (xs ++ chars rest) = more.1 ∙ ap (λ z. front ++ z) last.1 in
    let all : scalars (front ++ (xs ++ chars rest)) ≡ true = subst (λ z. scalars z ≡ true) whole (scalars-chars text text_is) in
    let scalar : scalars xs ≡ true = (scalars-part xs (chars rest) (scalars-part front (xs ++ chars rest) all).1).0 in
    let is : chars x ≡ xs = ap chars (sym x_is) ∙ chars-encodes xs scalar in
    ((xs, (scalar, x_is)), last.0, whole ∙ ap (λ z. front ++ (z ++ chars rest)) (sym is), is)
