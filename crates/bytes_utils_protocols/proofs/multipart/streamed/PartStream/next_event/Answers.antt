use Rattle.bytes_utils_protocols.specs.MultipartStream.{part_streaming}
use Rattle.bytes_utils_protocols.proofs.MultipartStreamLemmas.{call_of_return, err_of_return, fault_of_return, fewer_of_return, waits_of_return}
use Rattle.bytes_utils_protocols.proofs.multipart.streamed.PartStream.next_event.Goals as goal

pub returns-clause-call : goal.returns-clause-call
returns-clause-call c = rw (← c.self.view_is) (call_of_return (part_streaming c.self.inside.progress) (part_streaming c.next_event.new.self) c.next_event.result c.next_event.ensures.call)

pub returns-clause-waits : goal.returns-clause-waits
returns-clause-waits c = (waits_of_return (part_streaming c.self.inside.progress) (part_streaming c.next_event.new.self) c.next_event.result c.next_event.ensures.call)

pub returns-clause-fewer : goal.returns-clause-fewer
returns-clause-fewer c = rw (← c.self.view_is) (fewer_of_return (part_streaming c.self.inside.progress) (part_streaming c.next_event.new.self) c.next_event.result c.next_event.ensures.call)

pub returns-clause-err : goal.returns-clause-err
returns-clause-err c = rw (← c.self.view_is) (err_of_return (part_streaming c.self.inside.progress) (part_streaming c.next_event.new.self) c.next_event.result c.next_event.ensures.call)

pub returns-clause-fault : goal.returns-clause-fault
returns-clause-fault c = (fault_of_return (part_streaming c.self.inside.progress) (part_streaming c.next_event.new.self) c.next_event.result c.next_event.ensures.call)
