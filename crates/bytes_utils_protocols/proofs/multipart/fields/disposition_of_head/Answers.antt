use Rattle.std.proofs.Common.{ℕ, List, [], ◌∷◌, ◌∙◌, sym, refl, subst, option_map, string_bytes}
use Rattle.std.specs.Str.Lines.{lines}
use Rattle.std.proofs.lemmas.Iterator.Splits.{YieldsList-from_lines}
use Rattle.std.proofs.lemmas.Bool.{false≢true}
use Rattle.std.proofs.lemmas.List.Elements.{All-nil}
use Rattle.bytes_utils_protocols.specs.Multipart.{NoMultipartDisposition, ReadsMultipartDisposition}
use Rattle.bytes_utils_protocols.proofs.HeadLines.{next_given, none_given}
use Rattle.bytes_utils_protocols.proofs.MultipartLemmas.{BeforeDispositionLines, begun_disposition_line, folded_disposition_line, last_disposition_line, other_disposition_line}
use Rattle.bytes_utils_protocols.proofs.multipart.fields.disposition_of_head.Goals as goal

pub loop-line-init : goal.loop-line-init
loop-line-init c = record {
  can_next = tt;
  is_finite = tt;
  left = record {
    left = lines c.args.head.now;
    coming = rw c.into_iter-line-iterator.ensures.into_iter_gives (YieldsList-from_lines c.args.head.now c.lines-line-items.ensures.rest);
    so_far = record { before = []; parts = refl; none = All-nil NoMultipartDisposition };
  };
}

pub loop-line-preserved-in-Some-2 : goal.loop-line-preserved-in-Some-2
loop-line-preserved-in-Some-2 c =
    let now = c.loop-line.invariant.left in
    let all = lines c.args.head.now in
    let next = next_given _ _ c.loop-line.line-iterator c.next.new.self c.in-Some.line now.left now.coming c.in-Some.ensures.steps in
    let known : ReadsMultipartDisposition all (string_bytes c.in-Some-found.field-0) (c.in-Some.line.now ∷ next.0) =
    subst (ReadsMultipartDisposition all (string_bytes c.in-Some-found.field-0)) next.1 (rw c.in-Some-found.is at now.so_far) in
    let so_far = subst (λ (l : List ℕ). ReadsMultipartDisposition all l next.0) (sym c.in_ok-with_line-in-Some-2.ensures.ok)
    (folded_disposition_line all c.in-Some.line.now (string_bytes c.in-Some-found.field-0) next.0 known (c.is_folded.ensures.0 c.if-not-is_folded.false)) in
    record { can_next = tt; is_finite = tt; left = record { left = next.0; coming = next.2; so_far = so_far } }

pub returns-in-Some-found-clause-ok : goal.returns-in-Some-found-clause-ok
returns-in-Some-found-clause-ok c =
    let now = c.loop-line.invariant.left in
    let all = lines c.args.head.now in
    let next = next_given _ _ c.loop-line.line-iterator c.next.new.self c.in-Some.line now.left now.coming c.in-Some.ensures.steps in
    let known : ReadsMultipartDisposition all (string_bytes c.in-Some-found.field-0) (c.in-Some.line.now ∷ next.0) =
    subst (ReadsMultipartDisposition all (string_bytes c.in-Some-found.field-0)) next.1 (rw c.in-Some-found.is at now.so_far) in
    other_disposition_line all c.in-Some.line.now (string_bytes c.in-Some-found.field-0) next.0 known (λ folded. false≢true (sym c.if-not-is_folded.true ∙ c.is_folded.ensures.1 folded))

pub loop-line-preserved : goal.loop-line-preserved
loop-line-preserved c =
    let now = c.loop-line.invariant.left in
    let all = lines c.args.head.now in
    let next = next_given _ _ c.loop-line.line-iterator c.next.new.self c.in-Some.line now.left now.coming c.in-Some.ensures.steps in
    let known : BeforeDispositionLines all (c.in-Some.line.now ∷ next.0) = subst (BeforeDispositionLines all) next.1 (rw c.in-None-found.is at now.so_far) in
    let so_far = begun_disposition_line string_bytes all c.in-Some.line.now next.0 c.in_ok-found-in-None-found.found known c.in_ok-found-in-None-found.ensures.some
    c.in_ok-found-in-None-found.ensures.none in
    record { can_next = tt; is_finite = tt; left = record { left = next.0; coming = next.2; so_far = so_far } }

pub returns-clause-ok : goal.returns-clause-ok
returns-clause-ok c =
    let now = c.loop-line.invariant.left in
    let none = none_given _ _ _ _ now.left now.coming c.in-None.ensures.steps in
    last_disposition_line (lines c.args.head.now) now.left (option_map string_bytes c.loop-line.found) now.so_far none
