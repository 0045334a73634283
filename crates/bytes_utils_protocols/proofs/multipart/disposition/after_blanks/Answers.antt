use Rattle.std.proofs.Common.{sym, subst, ap, ◌∙◌}
use Rattle.std.specs.List.{prefix_len}
use Rattle.std.specs.Str.{IsCharBoundary}
use Rattle.bytes_utils_protocols.specs.Headers.{is_header_blank}
use Rattle.bytes_utils_protocols.proofs.DispositionLemmas.{after_blanks_boundary}
use Rattle.bytes_utils_protocols.proofs.multipart.disposition.after_blanks.Goals as goal

pub split_at-requires : goal.split_at-requires
split_at-requires c =
    subst (IsCharBoundary c.args.text.now) (sym (c.header_blanks_len.ensures.count ∙ ap (prefix_len is_header_blank) c.as_bytes.ensures.value)) (after_blanks_boundary c.args.text.now c.utf8.text)
