-- A line of a head as a header; and the blanks at the beginning of a text.
use Rattle.std.specs.Prelude.{◌≡◌, ℕ, ◌<◌, ◌==◌, ◌||◌, ◌&&◌, not, Bool, List, ◌∷◌, ◌++◌, length, drop}
use Rattle.std.specs.Char.{is_ascii_graphic}
use Rattle.std.specs.List.{AllPass, prefix_len}
use Rattle.bytes_utils_protocols.specs.Digits.{colon}

-- what a name is made of: visible ASCII without the colon (RFC 5322, 3.6.8)
abbrev pub is_header_name_byte : ℕ → Bool
is_header_name_byte b = is_ascii_graphic b && not (b == colon)

-- the line is a name, a colon and a value (RFC 5322, 2.2; RFC 9112, 5)
pub record IsHeader (line name value : List ℕ) : Type 0 where
  pub parts : line ≡ name ++ colon ∷ value
  pub some : 0 < length name
  pub visible : AllPass is_header_name_byte name

-- a space or a tab
abbrev pub is_header_blank : ℕ → Bool
is_header_blank b = b == 32 || b == 9

-- what follows the spaces and tabs at the beginning
abbrev pub without_header_blanks : List ℕ → List ℕ
without_header_blanks text = drop (prefix_len is_header_blank text) text
