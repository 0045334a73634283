use Rattle.bytes_utils_codec.proofs.TextReadingLemmas.{lossy_runs, text_fault, text_front, text_items, whole_lossy}
use Rattle.bytes_utils_codec.proofs.texts.text_laws.Goals as goal

pub returns : goal.returns
returns c = record { items = text_items; front = text_front; faulty = text_fault; lossy = lossy_runs; whole_lossy = whole_lossy }
