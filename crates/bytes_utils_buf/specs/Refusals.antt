-- What errors print.
use Rattle.std.specs.Prelude.{ℕ, List, ◌++◌, codes, decimal}
use Rattle.std.specs.declared.io.ErrorKind.{ErrorKind}
use Rattle.std.specs.declared.io.ErrorKind.TheVariants.{OutOfMemory as KindOutOfMemory, FileTooLarge}
use Rattle.bytes_utils_buf.specs.declared.refused.Reason.{Reason}
use Rattle.bytes_utils_buf.specs.declared.refused.Reason.TheVariants.{OutOfMemory, TooLong}

-- the reason, without a line feed
abbrev pub refusal_text : Reason → List ℕ
refusal_text OutOfMemory = codes "out of memory"
refusal_text TooLong = codes "too long"

-- the kind of an `io::Error` that is made of the reason
abbrev pub refusal_kind : Reason → ErrorKind
refusal_kind OutOfMemory = KindOutOfMemory
refusal_kind TooLong = FileTooLarge

-- the number of bytes lost by a copy for which memory was refused
abbrev pub copy_refused_text : ℕ → List ℕ
copy_refused_text taken = codes "out of memory, bytes lost: " ++ decimal taken
