use Rattle.std.proofs.Common.{[], ◌∷◌, ◌++◌, ◌∙◌, sym, refl, subst, ap, All, append_assoc, append-nil}
use Rattle.std.specs.Str.Lines.{lines}
use Rattle.std.proofs.lemmas.Iterator.Splits.{YieldsList-from_lines}
use Rattle.std.proofs.lemmas.List.Elements.{All-nil, All-push}
use Rattle.std.proofs.lemmas.Bool.{false≢true}
use Rattle.bytes_utils_protocols.specs.Multipart.{IsMultipartFieldLine}
use Rattle.bytes_utils_protocols.proofs.DispositionLemmas.{All-middle}
use Rattle.bytes_utils_protocols.proofs.HeadLines.{next_given, none_given}
use Rattle.bytes_utils_protocols.proofs.MultipartLemmas.{fields_are}
use Rattle.bytes_utils_protocols.proofs.multipart.fields.has_fields.Goals as goal

pub loop-line-init : goal.loop-line-init
loop-line-init c = record {
  can_next = tt;
  is_finite = tt;
  before = [];
  left = lines c.args.head.now;
  coming = rw c.into_iter-line-iterator.ensures.into_iter_gives (YieldsList-from_lines c.args.head.now c.lines-line-items.ensures.rest);
  parts = refl;
  each = All-nil IsMultipartFieldLine;
}

pub returns-then-not-is_field_line : goal.returns-then-not-is_field_line
returns-then-not-is_field_line c =
    let now = c.loop-line.invariant in
    let next = next_given _ _ c.loop-line.line-iterator c.next.new.self c.in-Some.line now.left now.coming c.in-Some.ensures.steps in (
      λ f. absurd (false≢true f),
      λ are.
          let one = All-middle IsMultipartFieldLine now.before c.in-Some.line.now next.0 (subst (All IsMultipartFieldLine) (now.parts ∙ ap (λ l. now.before ++ l) next.1) are.each) in
          absurd (false≢true (sym c.if-not-is_field_line.true ∙ c.is_field_line.ensures.1 one)),
    )

pub loop-line-preserved : goal.loop-line-preserved
loop-line-preserved c =
    let now = c.loop-line.invariant in
    let next = next_given _ _ c.loop-line.line-iterator c.next.new.self c.in-Some.line now.left now.coming c.in-Some.ensures.steps in
    record {
      can_next = tt;
      is_finite = tt;
      before = now.before ++ c.in-Some.line.now ∷ [];
      left = next.0;
      coming = next.2;
      parts = now.parts ∙ ap (λ l. now.before ++ l) next.1 ∙ sym (append_assoc now.before (c.in-Some.line.now ∷ []) next.0);
      each = All-push IsMultipartFieldLine now.before c.in-Some.line.now now.each (c.is_field_line.ensures.0 c.if-not-is_field_line.false);
    }

pub returns : goal.returns
returns c =
    let now = c.loop-line.invariant in
    let none = none_given _ _ _ _ now.left now.coming c.in-None.ensures.steps in
    let each = subst (All IsMultipartFieldLine) (sym (now.parts ∙ ap (λ l. now.before ++ l) none ∙ append-nil now.before)) now.each in
    fields_are c.args.head.now c.is_folded.result c.is_folded.ensures each
