use Rattle.std.proofs.Common.{◌≡◌, ◌-◌, ◌+◌, ◌<◌, ◌≤◌, ◌∙◌, ap, refl, subst, length, take, false, arith, rules, length-take-le, ⊎_elim}
use Rattle.std.proofs.lemmas.Bool.{cases_lt, false≢true}
use Rattle.bytes_utils.specs.Lines.{IsWithoutReturn}
use Rattle.bytes_utils_codec.specs.Cursor.{CursorReading, passed_on, unread}
use Rattle.bytes_utils_codec.specs.LineReading.{IsTextLineItem}
use Rattle.bytes_utils_codec.specs.StreamLines.{HasStreamLine}
use Rattle.bytes_utils_codec.proofs.CursorLemmas.{TakesStreamLine-passed}
use Rattle.bytes_utils_codec.proofs.cursor.Cursor.line.Goals as goal

pub returns-clause-gives : goal.returns-clause-gives
returns-clause-gives g c =
    let old = c.args.self.now in
    let len = c.in-Some.len in
    let line_len = c.line_len_between-line_len.result in
    let is = c.advance.ensures ∙ ap (passed_on (len - line_len + 1)) c.in_ok-line.ensures.passed in
    let q = c.self.inside in
    let same : q.at + len - q.at ≡ len = omega arith in
    let few : line_len ≤ len = omega (arith, c.line_len_between-line_len.ensures.within) in
    let without = subst (λ (r : CursorReading). IsWithoutReturn (take line_len (unread r)) (take len (unread r))) c.self.view_is
    (rw same at c.line_len_between-line_len.ensures.line) in
    let takes = TakesStreamLine-passed old len line_len c.advance.new.self few c.in-Some.ensures.within c.in-Some.ensures.found without is in
    record {
      bytes = (take line_len (unread old), takes, subst (IsTextLineItem false c.text_of_line.result) c.in_ok-line.ensures.bytes c.text_of_line.ensures);
      waits = tt;
      segments = ap (λ (r : CursorReading). r.segments) is;
      err = tt;
    }

pub returns-in_err-line-clause-due : goal.returns-in_err-line-clause-due
returns-in_err-line-clause-due g c =
    let old = c.args.self.now in
    let len = c.in-Some.len in
    let line_len = c.line_len_between-line_len.result in
    let new = passed_on (len - line_len + 1) (passed_on line_len old) in
    let q = c.self.inside in
    let same : q.at + len - q.at ≡ len = omega arith in
    let few : line_len ≤ len = omega (arith, c.line_len_between-line_len.ensures.within) in
    let without = subst (λ (r : CursorReading). IsWithoutReturn (take line_len (unread r)) (take len (unread r))) c.self.view_is
    (rw same at c.line_len_between-line_len.ensures.line) in
    let takes = TakesStreamLine-passed old len line_len new few c.in-Some.ensures.within c.in-Some.ensures.found without refl in
    let some : 0 < line_len = ⊎_elim (λ more. more) (λ none. absurd (false≢true (c.in_err-line.ensures.none (omega (arith, none))))) (cases_lt 0 line_len) in
    let bound : line_len ≤ length (unread old) = omega (arith, few, c.in-Some.ensures.within) in
    let has : HasStreamLine (unread old) = (take line_len (unread old), unread new, takes, rw (length-take-le line_len (unread old) bound) some) in
    search rules
