use Rattle.std.proofs.Common.{sym, subst, ap, ◌∙◌}
use Rattle.std.specs.List.{prefix_len}
use Rattle.std.specs.Str.{IsCharBoundary}
use Rattle.bytes_utils_protocols.specs.Disposition.{is_disposition_token_byte}
use Rattle.bytes_utils_protocols.proofs.DispositionLemmas.{after_token_boundary}
use Rattle.bytes_utils_protocols.proofs.multipart.disposition.split_token.Goals as goal

pub split_at-requires : goal.split_at-requires
split_at-requires c =
    subst (IsCharBoundary c.args.text.now) (sym (c.token_len-len.ensures.count ∙ ap (prefix_len is_disposition_token_byte) c.as_bytes.ensures.value)) (after_token_boundary c.args.text.now c.utf8.text)
