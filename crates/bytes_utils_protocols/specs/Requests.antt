-- Requests of a stream: a head before an empty line, and a body as long as the head reports.
use Rattle.std.specs.Prelude.{◌≡◌, ◌≢◌, ◌⊎◌, ℕ, ◌-◌, ◌==◌, ◌||◌, Bool, List, ◌∷◌, ◌++◌, length, take, drop, codes, Option, None, Some, Result, Ok, Err, All, Any}
use Rattle.std.specs.List.{prefix_len, slice_split, suffix_len}
use Rattle.std.specs.Str.{str_to_ascii_lowercase}
use Rattle.bytes_utils.specs.Lines.{carriage_return, line_feed}
use Rattle.bytes_utils_protocols.specs.Digits.{WriteNumber}
use Rattle.bytes_utils_protocols.specs.Headers.{IsHeader}
use Rattle.bytes_utils_protocols.specs.declared.requests.LengthError.{LengthError}
use Rattle.bytes_utils_protocols.specs.declared.requests.LengthError.TheVariants.{NotAHeader, NotANumber, Unequal, UnknownFraming}

-- the end of a head
abbrev pub request_head_end : List ℕ
request_head_end = codes "\r\n\r\n"

-- what an error prints
abbrev pub length_error_text : LengthError → List ℕ
length_error_text NotAHeader = codes "a line is no header"
length_error_text NotANumber = codes "a length is no number"
length_error_text Unequal = codes "two lengths differ"
length_error_text UnknownFraming = codes "the framing is unknown"

-- the lines of a head after its first: a line ends at each line feed (RFC 9112, 2.2)
abbrev pub request_header_lines : List ℕ → List (List ℕ)
request_header_lines head = drop 1 (slice_split (λ b. b == line_feed) head)

-- the name is this one, given in lower case, whatever its own case is (RFC 9110, 5.1)
abbrev pub IsRequestNamed : List ℕ → List ℕ → Type 0
IsRequestNamed lowercase name = str_to_ascii_lowercase name ≡ lowercase

abbrev pub content_length : List ℕ
content_length = codes "content-length"

abbrev pub transfer_encoding : List ℕ
transfer_encoding = codes "transfer-encoding"

-- a space or a tab (RFC 9110, 5.6.3), or a carriage return, which is read as a space (RFC 9112, 2.2)
abbrev pub is_request_blank : ℕ → Bool
is_request_blank b = b == 32 || b == 9 || b == carriage_return

abbrev pub without_leading_request_blanks : List ℕ → List ℕ
without_leading_request_blanks value = drop (prefix_len is_request_blank value) value

abbrev pub without_trailing_request_blanks : List ℕ → List ℕ
without_trailing_request_blanks value = take (length value - suffix_len is_request_blank value) value

-- a value without the blanks at both ends
abbrev pub trimmed_request_value : List ℕ → List ℕ
trimmed_request_value value = without_trailing_request_blanks (without_leading_request_blanks value)

-- what a header with this name and this value reports of the body: its length, nothing, or why the length isn't known
abbrev pub RequestHeaderReports : List ℕ → List ℕ → Result (Option ℕ) LengthError → Type 0
RequestHeaderReports name value (Ok (Some n)) = IsRequestNamed content_length name × WriteNumber (trimmed_request_value value) n
RequestHeaderReports name value (Ok None) = (¬ IsRequestNamed content_length name) × (¬ IsRequestNamed transfer_encoding name)
RequestHeaderReports name value (Err NotAHeader) = ⊥
RequestHeaderReports name value (Err NotANumber) = IsRequestNamed content_length name × ((n : ℕ) → ¬ WriteNumber (trimmed_request_value value) n)
RequestHeaderReports name value (Err Unequal) = ⊥
RequestHeaderReports name value (Err UnknownFraming) = IsRequestNamed transfer_encoding name

-- what a line reports: what it reports as a header, or that it is no header
abbrev pub RequestLineReports : List ℕ → Result (Option ℕ) LengthError → Type 0
RequestLineReports line report = ((name : List ℕ) × (value : List ℕ) × IsHeader line name value × RequestHeaderReports name value report)
    ⊎ ((report ≡ Err NotAHeader) × ((name value : List ℕ) → ¬ IsHeader line name value))

-- the lines report this length: each line reports this one or nothing, and the length is 0 if all report nothing
pub record ReportRequestLength (lines : List (List ℕ)) (len : ℕ) : Type 0 where
  pub each : All (λ line. RequestLineReports line (Ok None) ⊎ RequestLineReports line (Ok (Some len))) lines
  pub none : All (λ line. RequestLineReports line (Ok None)) lines → len ≡ 0

-- two lines report lengths that differ
abbrev pub RequestLinesDiffer : List ℕ → List ℕ → Type 0
RequestLinesDiffer one other = (m : ℕ) × (n : ℕ) × RequestLineReports one (Ok (Some m)) × RequestLineReports other (Ok (Some n)) × (m ≢ n)

-- The lines report this error, of the first line at fault. The lines before it report a length. It reports the error itself, or it reports
-- a length that differs from that of a line before it.
pub record ReportRequestError (lines : List (List ℕ)) (error : LengthError) : Type 0 where
  pub before : List (List ℕ)
  pub line : List ℕ
  pub others : List (List ℕ)
  pub parts : lines ≡ before ++ line ∷ others
  pub len : ℕ
  pub sound : ReportRequestLength before len
  pub fault : RequestLineReports line (Err error) ⊎ ((error ≡ Unequal) × Any (λ one. RequestLinesDiffer one line) before)
