-- How a fault is reported to the user of the program.
use Rattle.std.specs.Prelude.{ℕ, List, codes}
use Rattle.bytes_utils_run.specs.declared.program.fault.Fault.{Fault}
use Rattle.bytes_utils_run.specs.declared.program.fault.Fault.TheVariants.{UnknownCommand, NotUtf8, OutOfMemory, Io}

-- the exit status of the program
abbrev pub fault_status : Fault → ℕ
fault_status UnknownCommand = 2
fault_status NotUtf8 = 3
fault_status OutOfMemory = 4
fault_status Io = 5

-- the message for a fault, without a line feed
abbrev pub fault_text : Fault → List ℕ
fault_text UnknownCommand = codes "unknown command"
fault_text NotUtf8 = codes "not UTF-8"
fault_text OutOfMemory = codes "out of memory"
fault_text Io = codes "read or write failed"
