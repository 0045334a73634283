use Rattle.bytes_utils_protocols.proofs.multipart.disposition.read_parameter.Goals as goal

pub returns-in-None-clause-ok : goal.returns-in-None-clause-ok
returns-in-None-clause-ok c = rw c.in-Some.is (rw c.as_str.ensures.value at c.in-None.ensures.none)
