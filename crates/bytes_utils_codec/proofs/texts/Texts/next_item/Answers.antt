use Rattle.std.proofs.Common.{inl, refl}
use Rattle.std.specs.List.{concat}
use Rattle.bytes_utils_buf.proofs.Results.{OnErr-always}
use Rattle.bytes_utils_codec.specs.TextReading.{reading_of_pieces}
use Rattle.bytes_utils_codec.proofs.FaultLen.{fault_some, fault_within}
use Rattle.bytes_utils_codec.proofs.TextReadingLemmas.{fault_longest, fault_taken, front_some, is_unfinished, no_text_in}
use Rattle.bytes_utils_codec.proofs.texts.Texts.next_item.Goals as goal

pub returns-in_err-take_text-in-Text-clause-asks : goal.returns-in_err-take_text-in-Text-clause-asks
returns-in_err-take_text-in-Text-clause-asks c = OnErr-always _ _ (inl (front_some (concat c.args.self.now.pieces) c.in-Text.len c.in-Text.ensures.front))

pub take_fault-requires-clause-within : goal.take_fault-requires-clause-within
take_fault-requires-clause-within c = fault_within (concat c.args.self.now.pieces) c.in-Fault.len c.in-Fault.ensures.front.1

pub take_fault-requires-clause-no_text : goal.take_fault-requires-clause-no_text
take_fault-requires-clause-no_text c =
    let held = concat c.args.self.now.pieces in
    let len = c.in-Fault.len in
    let is = c.in-Fault.ensures.front in
    no_text_in held len is.0 (fault_some held len is.1) (fault_within held len is.1)

pub returns-in_ok-take_fault-in-Fault-clause-item : goal.returns-in_ok-take_fault-in-Fault-clause-item
returns-in_ok-take_fault-in-Fault-clause-item c =
    let took = c.in_ok-take_fault-in-Fault.ensures in
    fault_taken (reading_of_pieces c.args.self.now) (reading_of_pieces c.take_fault.new.self) c.in-Fault.len _ c.in-Fault.ensures.front took.item took.rest

pub returns-in_ok-take_fault-in-Fault-clause-longest : goal.returns-in_ok-take_fault-in-Fault-clause-longest
returns-in_ok-take_fault-in-Fault-clause-longest c = fault_longest c.args.self.now.pieces _ c.in-Fault.ensures.front.0

pub returns-in-Unfinished-clause-waits : goal.returns-in-Unfinished-clause-waits
returns-in-Unfinished-clause-waits c = (refl, is_unfinished (concat c.args.self.now.pieces) c.in-Unfinished.ensures.front)
