-- Texts as JSON (RFC 8259). A text is written as a JSON string, character by character. Which value a JSON text has is what `serde_json` reads; which
-- bytes a value represents is defined here.
use Rattle.std.specs.Prelude.{◌≡◌, ◌⊎◌, ℕ, ◌<◌, ◌/◌, ◌%◌, List, [], ◌∷◌, ◌++◌, ◌==◌, All, map, nat_lt, if◌then◌else◌, codes, flat_map, None, Some, IsUtf8, ⊤}
use Rattle.std.specs.Char.{digit_char}
use Rattle.serde_json.specs.Data.{Data, number, string, array, unsigned}
use Rattle.serde_json.specs.Read.{read}
use Rattle.serde_json.specs.View.{items_of}
use Rattle.bytes_utils.specs.declared.json.JsonRefused.{JsonRefused}
use Rattle.bytes_utils.specs.declared.json.JsonRefused.TheVariants.{OutOfMemory, NotJson, NotText, NotUtf8}

-- how the character c is written in a JSON string (RFC 8259, section 7): a quotation mark, a backslash and the characters below U+0020 are escaped,
-- in two characters if there is such an escape
abbrev pub json_character : ℕ → List ℕ
json_character c =
    if c == 0x22 then codes "\\\"" else if c == 0x5C then codes "\\\\"
    else if c == 0x08 then codes "\\b" else if c == 0x09 then codes "\\t" else if c == 0x0A then codes "\\n"
    else if c == 0x0C then codes "\\f" else if c == 0x0D then codes "\\r"
    else if nat_lt c 0x20 then codes "\\u00" ++ digit_char (c / 16) ∷ digit_char (c % 16) ∷ []
    else c ∷ []

-- the text as a JSON string: its written characters between quotation marks
abbrev pub json_string : List ℕ → List ℕ
json_string t = codes "\"" ++ (flat_map json_character t ++ codes "\"")

-- a JSON number that is held as the unsigned whole number n
abbrev pub json_number : ℕ → Data
json_number n = number (unsigned n)

-- the value represents these bytes: it is a string of them, or a list of them as whole numbers from 0 to 255
abbrev pub JsonRepresents : Data → List ℕ → Type 0
JsonRepresents value bytes =
    (value ≡ string bytes)
    ⊎ ((value ≡ array (items_of (map json_number bytes))) × All (λ b. b < 256) bytes)

-- the error for a value that is no text; for private clauses
abbrev pub IsJsonRefusal : Data → JsonRefused → Type 0
IsJsonRefusal value OutOfMemory = ⊤
IsJsonRefusal value NotJson = ⊥
IsJsonRefusal value NotText = (bytes : List ℕ) → ¬ JsonRepresents value bytes
IsJsonRefusal value NotUtf8 = (bytes : List ℕ) × JsonRepresents value bytes × ¬ IsUtf8 bytes

-- the JSON text has a value that represents these bytes
abbrev pub JsonHoldsBytes : List ℕ → List ℕ → Type 0
JsonHoldsBytes json bytes = (value : Data) × (read json ≡ Some value) × JsonRepresents value bytes

-- the JSON text holds the bytes of this text
abbrev pub JsonHoldsText : List ℕ → List ℕ → Type 0
JsonHoldsText json text = JsonHoldsBytes json text × IsUtf8 text

-- the text has no value: it is not JSON
abbrev pub IsNotJson : List ℕ → Type 0
IsNotJson json = read json ≡ None

-- the JSON text has a value that represents no bytes
abbrev pub JsonHoldsNoBytes : List ℕ → Type 0
JsonHoldsNoBytes json = (value : Data) × (read json ≡ Some value) × ((bytes : List ℕ) → ¬ JsonRepresents value bytes)

-- the JSON text holds bytes that are not UTF-8
abbrev pub JsonHoldsOtherBytes : List ℕ → Type 0
JsonHoldsOtherBytes json = (bytes : List ℕ) × JsonHoldsBytes json bytes × ¬ IsUtf8 bytes

-- the text for each error of `from_json`
abbrev pub json_refused_text : JsonRefused → List ℕ
json_refused_text OutOfMemory = codes "out of memory"
json_refused_text NotJson = codes "not JSON"
json_refused_text NotText = codes "neither a string nor a list of bytes"
json_refused_text NotUtf8 = codes "not UTF-8"
