use Rattle.std.proofs.Common.{◌≡◌, ◌<◌, ◌∙◌, ap, sym, arith, codes, length, refl, rules}
use Rattle.std.proofs.lemmas.List.{append_cancel_left}
use Rattle.bytes_utils.proofs.NextPart.{no_chars}
use Rattle.bytes_utils.proofs.SearchLemmas.{chars-some}
use Rattle.bytes_utils_run.proofs.CommandLemmas.{chars_word}
use Rattle.bytes_utils_run.proofs.program.command.separator_command.Goals as goal

pub returns-in_err-separator : goal.returns-in_err-separator
returns-in_err-separator c =
    let split = rw (chars_word (codes "split ") refl) at c.in_default.ensures.value in
    let rsplit = rw (chars_word (codes "rsplit ") refl) at c.in_default-rest_after_word.ensures.value in
    let inclusive = rw (chars_word (codes "inclusive ") refl) at c.in_err-separator.ensures.value in
    rw c.from_residual.ensures (λ p. (split p, rsplit p, λ is. inclusive p is.1))

-- nothing follows the word, and the separator would have to
pub returns-then-is_empty : goal.returns-then-is_empty
returns-then-is_empty c =
    let split = rw (chars_word (codes "split ") refl) at c.in_default.ensures.value in
    let rsplit = rw (chars_word (codes "rsplit ") refl) at c.in_default-rest_after_word.ensures.value in
    let line = rw (chars_word (codes "inclusive ") refl) at c.in_ok-separator.ensures.value in
    let empty : length c.in_ok-separator.separator.now ≡ 0 = search rules in
    λ p. (
      split p,
      rsplit p,
      λ is. let same = append_cancel_left (codes "inclusive ") p _ (sym is.1 ∙ line) in omega (arith, is.0, ap length (same ∙ no_chars _ empty)),
    )

pub returns : goal.returns
returns c =
    let some : 0 < length c.in_ok-separator.separator.now = search rules in
    (some, (chars-some _ c.in_ok-separator.ensures.utf8 some, rw (chars_word (codes "inclusive ") refl) at c.in_ok-separator.ensures.value))
