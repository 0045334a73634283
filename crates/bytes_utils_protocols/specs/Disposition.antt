-- The value of a Content-Disposition: a type, and parameters (RFC 2183, 2; RFC 2045, 5.1).
use Rattle.std.specs.Prelude.{◌≡◌, ◌⊎◌, ℕ, ◌+◌, ◌<◌, ◌==◌, ◌||◌, ◌&&◌, not, Bool, true, false, List, [], ◌∷◌, ◌++◌, length, take, drop, codes, Option, None, Some, MatchOption, All, if◌then◌else◌}
use Rattle.std.specs.Char.{is_ascii_graphic}
use Rattle.std.specs.List.{list_any, prefix_len}
use Rattle.std.specs.Str.{str_to_ascii_lowercase}
use Rattle.bytes_utils_protocols.specs.Headers.{is_header_blank, without_header_blanks}

-- ---- tokens and strings

-- what a token is made of: visible ASCII without the `tspecials` (RFC 2045, 5.1)
abbrev pub is_disposition_token_byte : ℕ → Bool
is_disposition_token_byte b = is_ascii_graphic b && not (list_any (λ c. c == b) (codes "()<>@,;:\\\"/[]?="))

-- the text begins with this token, and the rest, which begins with no byte of a token, comes after it
pub record TakesDispositionToken (text token rest : List ℕ) : Type 0 where
  pub token_is : token ≡ take (prefix_len is_disposition_token_byte text) text
  pub rest_is : rest ≡ drop (prefix_len is_disposition_token_byte text) text
  pub some : 0 < length token

abbrev pub disposition_quote : ℕ
disposition_quote = 34

abbrev pub disposition_backslash : ℕ
disposition_backslash = 92

-- The bytes may be between two quotes: each quote in them comes after a backslash that escapes it, and no backslash escapes the quote after them.
-- `escaped` is whether a backslash before them escapes the first one.
abbrev pub fit_between_disposition_quotes : Bool → List ℕ → Bool
fit_between_disposition_quotes escaped [] = not escaped
fit_between_disposition_quotes escaped (b ∷ rest) = (escaped || not (b == disposition_quote)) && fit_between_disposition_quotes (not escaped && b == disposition_backslash) rest

-- the text begins with a quote, these bytes and a quote, and the rest comes after it
pub record TakesDispositionString (text inner rest : List ℕ) : Type 0 where
  pub parts : text ≡ disposition_quote ∷ (inner ++ disposition_quote ∷ rest)
  pub fit : fit_between_disposition_quotes false inner ≡ true

-- The bytes of a token or between two quotes without their escapes: a backslash before a quote or a backslash is left out, as Go writes them, and
-- curl with `--form-escape`. Another backslash stays, as in the paths that browsers write. A token has none. `escaped` is whether a backslash that
-- may be left out is before the bytes.
abbrev pub unescaped_disposition : Bool → List ℕ → List ℕ
unescaped_disposition escaped [] = []
unescaped_disposition false (b ∷ rest) = if b == disposition_backslash then unescaped_disposition true rest else b ∷ unescaped_disposition false rest
unescaped_disposition true (b ∷ rest) =
    if b == disposition_quote || b == disposition_backslash
    then b ∷ unescaped_disposition false rest
    else disposition_backslash ∷ b ∷ unescaped_disposition false rest

-- The place of the first quote that no backslash escapes.
pub record IsDispositionStringEnd (text : List ℕ) (place : ℕ) : Type 0 where
  pub here : drop place text ≡ disposition_quote ∷ drop (place + 1) text
  pub fit : fit_between_disposition_quotes false (take place text) ≡ true

-- ---- parameters

-- the text begins with an equals sign and blanks around it (RFC 822, 3.1.4; RFC 9110, 5.6.6, allows none there), and the rest comes after them
pub record TakesDispositionSign (text rest : List ℕ) : Type 0 where
  pub after : List ℕ
  pub sign_is : without_header_blanks text ≡ 61 ∷ after
  pub rest_is : rest ≡ without_header_blanks after

-- the text begins with this value, a token or a string
abbrev pub TakesDispositionValue : List ℕ → List ℕ → List ℕ → Type 0
TakesDispositionValue text value rest = TakesDispositionToken text value rest ⊎ TakesDispositionString text value rest

-- a name, and a value as it is written, without its quotes
pub record DispositionParameter : Type 0 where
  pub name : List ℕ
  pub value : List ℕ

-- the text begins with this parameter: a name, which is a token, an equals sign and a value
pub record TakesDispositionParameter (text : List ℕ) (parameter : DispositionParameter) (rest : List ℕ) : Type 0 where
  pub after_name : List ℕ
  pub name : TakesDispositionToken text parameter.name after_name
  pub after_sign : List ℕ
  pub sign : TakesDispositionSign after_name after_sign
  pub value : TakesDispositionValue after_sign parameter.value rest

-- the separators, which are between parameters: blanks and semicolons
abbrev pub is_disposition_separator : ℕ → Bool
is_disposition_separator b = is_header_blank b || b == 59

abbrev pub without_disposition_separators : List ℕ → List ℕ
without_disposition_separators text = drop (prefix_len is_disposition_separator text) text

-- a semicolon is the first byte that is no blank
abbrev pub BeginsWithSemicolon : List ℕ → Type 0
BeginsWithSemicolon text = (after : List ℕ) × (without_header_blanks text ≡ 59 ∷ after)

-- The text is these parameters. One or more semicolons are before each, and separators may come after the last one (RFC 9110, 5.6.6).
abbrev pub AreDispositionParameters : List DispositionParameter → List ℕ → Type 0
AreDispositionParameters [] text = without_disposition_separators text ≡ []
AreDispositionParameters (parameter ∷ others) text =
    (rest : List ℕ) × BeginsWithSemicolon text × TakesDispositionParameter (without_disposition_separators text) parameter rest × AreDispositionParameters others rest

-- the text is a type, which is a token, and these parameters
pub record IsDisposition (text : List ℕ) (parameters : List DispositionParameter) : Type 0 where
  pub kind : List ℕ
  pub rest : List ℕ
  pub kind_is : TakesDispositionToken (without_header_blanks text) kind rest
  pub are : AreDispositionParameters parameters rest

-- the parameter has this name, whatever the case of its letters
abbrev pub IsDispositionNamed : List ℕ → DispositionParameter → Type 0
IsDispositionNamed name parameter = str_to_ascii_lowercase parameter.name ≡ str_to_ascii_lowercase name

-- one parameter has the name, and this value as it is written
pub record HasOneDispositionNamed (name : List ℕ) (parameters : List DispositionParameter) (value : List ℕ) : Type 0 where
  pub before : List DispositionParameter
  pub parameter : DispositionParameter
  pub after : List DispositionParameter
  pub parts : parameters ≡ before ++ parameter ∷ after
  pub none_before : All (λ other. ¬ IsDispositionNamed name other) before
  pub named : IsDispositionNamed name parameter
  pub none_after : All (λ other. ¬ IsDispositionNamed name other) after
  pub value_is : value ≡ parameter.value

-- the text is a disposition in which one parameter has the name, and this value as it is written
pub record HasDispositionParameter (name text value : List ℕ) : Type 0 where
  pub parameters : List DispositionParameter
  pub is : IsDisposition text parameters
  pub one : HasOneDispositionNamed name parameters value

-- that value without its escapes, or `None` if the text is no disposition in which one parameter has the name
abbrev pub ReadsDispositionParameter : List ℕ → Option (List ℕ) → Option (List ℕ) → Type 0
ReadsDispositionParameter name None r = r ≡ None
ReadsDispositionParameter name (Some text) r =
    MatchOption r ((value : List ℕ) → ¬ HasDispositionParameter name text value) (λ value. (written : List ℕ) × HasDispositionParameter name text written × (value ≡ unescaped_disposition false written))

-- a disposition has one value of a name at most
abbrev pub SameDispositionParameterLaw : Type 0
SameDispositionParameterLaw = (name text value other : List ℕ) → HasDispositionParameter name text value → HasDispositionParameter name text other → value ≡ other
