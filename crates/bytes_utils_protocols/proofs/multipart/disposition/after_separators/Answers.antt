use Rattle.std.proofs.Common.{sym, subst, ap, ◌∙◌}
use Rattle.std.specs.List.{prefix_len}
use Rattle.std.specs.Str.{IsCharBoundary}
use Rattle.bytes_utils_protocols.specs.Disposition.{is_disposition_separator}
use Rattle.bytes_utils_protocols.proofs.DispositionLemmas.{after_separators_boundary}
use Rattle.bytes_utils_protocols.proofs.multipart.disposition.after_separators.Goals as goal

pub split_at-requires : goal.split_at-requires
split_at-requires c =
    subst (IsCharBoundary c.args.text.now) (sym (c.separators_len.ensures.count ∙ ap (prefix_len is_disposition_separator) c.as_bytes.ensures.value)) (after_separators_boundary c.args.text.now c.utf8.text)
