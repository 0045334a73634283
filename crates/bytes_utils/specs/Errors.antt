-- What the error for bytes that are not UTF-8 holds, and the text that it prints.
use Rattle.std.specs.Prelude.{◌≡◌, ℕ, List, ◌++◌, drop, codes, decimal, Option, Some, None}
use Rattle.std.specs.Str.{valid_up_to, error_len}
use Rattle.std.specs.Str.Lossy.{utf8_valid_len, utf8_error_len}
use Rattle.std.specs.declared.str.Utf8Error.{Utf8Error as StrUtf8Error}
use Rattle.bytes_utils.specs.declared.string.utf8_error.Utf8Error.{Utf8Error}

-- the refused storage
abbrev pub utf8_error_storage : {S : Type 0} → Utf8Error S → S
utf8_error_storage e = e.storage

-- std's error, which says what is wrong with its bytes and where
abbrev pub utf8_error_fault : {S : Type 0} → Utf8Error S → StrUtf8Error
utf8_error_fault e = e.fault

-- the fault gives the number of first bytes that are UTF-8 and the number of faulty bytes after them, as std counts both
abbrev pub IsUtf8ErrorOf : StrUtf8Error → List ℕ → Type 0
IsUtf8ErrorOf fault bytes = (valid_up_to fault ≡ utf8_valid_len bytes) × (error_len fault ≡ utf8_error_len (drop (valid_up_to fault) bytes))

-- the text for bytes that are not UTF-8 from byte `at` on, with the number of faulty bytes if it is known: std's own words
abbrev pub utf8_error_text : ℕ → Option ℕ → List ℕ
utf8_error_text at None = codes "incomplete utf-8 byte sequence from index " ++ decimal at
utf8_error_text at (Some len) = codes "invalid utf-8 sequence of " ++ (decimal len ++ (codes " bytes from index " ++ decimal at))
