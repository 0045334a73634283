use Rattle.std.proofs.Common.{◌≡◌, ◌∙◌, ap, subst, arith, rules, take}
use Rattle.std.proofs.lemmas.Str.Pattern.{strip_suffix_char}
use Rattle.std.specs.Str.{chars}
use Rattle.bytes_utils.specs.Lines.{IsWithoutReturn}
use Rattle.bytes_utils.proofs.LinesLemmas.{IsWithoutReturn-stripped, feed-boundary, next-boundary, line-boundary, line-at, lines-last, text-at, text_after_line-none}
use Rattle.bytes_utils.proofs.split.lines.line_place.Goals as goal

pub returns-in_err-at : goal.returns-in_err-at
unfolding chars
returns-in_err-at c = record {
  order = search rules;
  end = search rules;
  next = search rules;
  feed = rw c.from_residual.ensures c.in_err-at.ensures;
  line = rw c.from_residual.ensures (lines-last _ c.utf8.text c.in_err-at.ensures);
  after = rw c.from_residual.ensures (text_after_line-none _ c.in_err-at.ensures);
}

pub range-line-requires-clause-end_boundary : goal.range-line-requires-clause-end_boundary
unfolding chars
range-line-requires-clause-end_boundary c = feed-boundary _ c.utf8.text _ c.in_ok-at.ensures

-- the line, from what `strip_suffix` returned
without_return : (c : goal.After-unwrap_or-end) → IsWithoutReturn c.unwrap_or-end.result.now (take c.in_ok-at.at c.args.text.now)
without_return c =
    let before_is : c.range-line.result.now ≡ take c.in_ok-at.at c.args.text.now = c.range-line.ensures.value ∙ ap (λ n. take n c.args.text.now) (omega arith) in
    subst (IsWithoutReturn c.unwrap_or-end.result.now) before_is
    (IsWithoutReturn-stripped c.strip_suffix.result c.range-line.result c.unwrap_or-end.result c.unwrap_or-end.ensures (strip_suffix_char 13 _ _ c.strip_suffix.ensures.cases (omega arith)))

pub returns : goal.returns
unfolding chars
returns c = record {
  order = search rules;
  end = line-boundary _ c.utf8.text _ c.in_ok-at.ensures _ c.unwrap_or-end.utf8 (without_return c);
  next = next-boundary _ c.utf8.text _ c.in_ok-at.ensures;
  feed = (c.in_ok-at.ensures.0, c.in_ok-at.ensures.2.here);
  line = line-at _ c.utf8.text _ c.in_ok-at.ensures _ c.unwrap_or-end.utf8 (without_return c);
  after = text-at _ c.utf8.text _ c.in_ok-at.ensures;
}
