-- A cut that takes something off a text leaves fewer characters.
use Rattle.std.proofs.Common.{◌≡◌, sym, ap, ◌∙◌, ℕ, ◌+◌, ◌<◌, List, ◌++◌, length, take, drop, arith, length-append, length-drop, take-append-drop, IsUtf8, IsCharBoundary}
use Rattle.std.proofs.lemmas.List.{length-take-le}
use Rattle.std.proofs.lemmas.Str.{IsUtf8-take, IsUtf8-drop, chars-append}
use Rattle.std.specs.Str.{chars}
use Rattle.bytes_utils.proofs.SearchLemmas.{chars-some}

module _ (text : List ℕ) (k : ℕ) (text_is : IsUtf8 text) (place : IsCharBoundary text k) where
  -- the characters before a place and those from it on, joined, are those of the text
  chars_sum : length (chars text) ≡ length (chars (take k text)) + length (chars (drop k text))
  chars_sum =
      let parts : chars text ≡ chars (take k text) ++ chars (drop k text) =
      ap chars (sym (take-append-drop k text)) ∙ chars-append (take k text) (drop k text) (IsUtf8-take text k text_is place) in
      ap length parts ∙ length-append (chars (take k text)) (chars (drop k text))

  pub fewer_after : 0 < k → length (chars (drop k text)) < length (chars text)
  fewer_after some =
      omega (arith, chars_sum, length-take-le k text place.0, chars-some (take k text) (IsUtf8-take text k text_is place))

  pub fewer_before : k < length text → length (chars (take k text)) < length (chars text)
  fewer_before less =
      omega (arith, chars_sum, length-drop k text, chars-some (drop k text) (IsUtf8-drop text k text_is place))
