-- Netstrings (http://cr.yp.to/proto/netstrings.txt): a length in decimal digits, a colon, as many bytes, and a comma.
use Rattle.std.specs.Prelude.{◌≡◌, ◌<◌, ◌≤◌, ◌⊎◌, ℕ, List, [], ◌∷◌, ◌++◌, length, take, codes, decimal}
use Rattle.bytes_utils_buf.specs.Refusals.{refusal_text}
use Rattle.bytes_utils_buf.specs.declared.refused.Reason.TheVariants.{OutOfMemory, TooLong}
use Rattle.bytes_utils.specs.Occurrence.{Occurs}
use Rattle.bytes_utils_codec.specs.Decoding.{Decoding, Gives}
use Rattle.bytes_utils_codec.specs.Taking.{Taking, gives_by}
use Rattle.bytes_utils_protocols.specs.Digits.{WriteNumber, colon}
use Rattle.bytes_utils_protocols.specs.declared.netstrings.Netstrings.{Netstrings}
use Rattle.bytes_utils_protocols.specs.declared.netstrings.NetstringError.{NetstringError}
use Rattle.bytes_utils_protocols.specs.declared.netstrings.NetstringError.TheVariants.{Refused, Malformed}

-- what an error prints
abbrev pub netstring_error_text : NetstringError → List ℕ
netstring_error_text (Refused reason) = refusal_text reason
netstring_error_text Malformed = codes "the netstring is malformed"

-- the code of a comma
abbrev pub netstring_comma : ℕ
netstring_comma = 44

-- The netstring of this text. No zeros are before its length: the definition of netstrings forbids them, though `BeginsNetstring` allows them.
abbrev pub netstring_bytes : List ℕ → List ℕ
netstring_bytes text = decimal (length text) ++ colon ∷ text ++ netstring_comma ∷ []

-- the bytes are the digits of this length, a colon, and the bytes after it
pub record BeginsNetstring (bytes : List ℕ) (len : ℕ) (after : List ℕ) : Type 0 where
  pub digits : List ℕ
  pub writes : WriteNumber digits len
  pub are : bytes ≡ digits ++ colon ∷ after

-- the same, with at most 20 digits, of a length within the limit
abbrev pub BeginsNetstringWithin : ℕ → List ℕ → ℕ → List ℕ → Type 0
BeginsNetstringWithin limit bytes len after = (begins : BeginsNetstring bytes len after) × (length begins.digits ≤ 20) × (len ≤ limit)

-- the old bytes are the netstring of this text, and the rest
abbrev pub TakesNetstring : List ℕ → List ℕ → List ℕ → Type 0
TakesNetstring old text rest = BeginsNetstring old (length text) (text ++ netstring_comma ∷ rest)

-- the same, with at most 20 digits, of a length within the limit
abbrev pub TakesNetstringWithin : ℕ → List ℕ → List ℕ → List ℕ → Type 0
TakesNetstringWithin limit old text rest = BeginsNetstringWithin limit old (length text) (text ++ netstring_comma ∷ rest)

-- the next text, and what is left
abbrev pub takes_netstring : Taking Netstrings (List ℕ)
takes_netstring old text new = (new ≡ record old { held = new.held }) × TakesNetstringWithin old.decoder.max_length old.held text new.held

-- at most 20 bytes have come, and no colon; or a length within the limit and a colon, and not all of the text and the comma
abbrev pub awaits_netstring : Decoding Netstrings → Type 0
awaits_netstring s = ((¬ Occurs (colon ∷ []) s.held) × (length s.held ≤ 20))
    ⊎ ((len : ℕ) × (after : List ℕ) × BeginsNetstringWithin s.decoder.max_length s.held len after × (length after ≤ len))

-- what comes next: a text; or at the end of the stream none, and what is held is left
abbrev pub gives_netstring : Gives Netstrings (List ℕ)
gives_netstring = gives_by takes_netstring awaits_netstring

-- a text that can be taken has come, and isn't empty
abbrev pub HasNetstring : Decoding Netstrings → Type 0
HasNetstring s = (text : List ℕ) × (new : Decoding Netstrings) × takes_netstring s text new × (0 < length text)

-- `Malformed` only if the bytes begin with no netstring, whatever comes after them; memory is refused only for a text that has come with its comma and
-- isn't empty; `TooLong` only if more than 20 bytes have come, and the first 21 have no colon, or if the length is over the limit
abbrev pub fails_netstring : Decoding Netstrings → NetstringError → Type 0
fails_netstring s (Refused TooLong) = ((20 < length s.held) × (¬ Occurs (colon ∷ []) (take 21 s.held)))
    ⊎ ((len : ℕ) × (after : List ℕ) × BeginsNetstring s.held len after × (s.decoder.max_length < len))
fails_netstring s (Refused OutOfMemory) = HasNetstring s
fails_netstring s Malformed = (more text rest : List ℕ) → ¬ TakesNetstring (s.held ++ more) text rest
