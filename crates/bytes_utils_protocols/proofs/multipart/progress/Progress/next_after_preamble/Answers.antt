use Rattle.std.proofs.Common.{refl, inl}
use Rattle.bytes_utils_protocols.proofs.MultipartStreamLemmas.{awaits_elsewhere}
use Rattle.bytes_utils_protocols.proofs.multipart.progress.Progress.next_after_preamble.Goals as goal

pub returns-in_default-clause-step : goal.returns-in_default-clause-step
returns-in_default-clause-step c = (inl refl, awaits_elsewhere c.args.self.now c.args.self.now.place c.requires.awaits c.in_default.not-AtHead c.in_default.not-InBody)
