-- A text is a list of characters. Its bytes are the UTF-8 of its characters, one after another (RFC 3629), as in std's `encode_utf8_all`. std's
-- `chars` gives the characters of bytes that are UTF-8.
use Rattle.std.specs.Prelude.{ℕ, List, length, take, All}
use Rattle.std.specs.Char.{InScalarRange}
use Rattle.std.specs.Str.{encode_utf8_all}

-- each number is a character: 0 to U+D7FF, or U+E000 to U+10FFFF
abbrev pub AreCharacters : List ℕ → Type 0
AreCharacters = All InScalarRange

-- the number of bytes of the first i characters of t: the byte place of character i
abbrev pub character_place : List ℕ → ℕ → ℕ
character_place t i = length (encode_utf8_all (take i t))
