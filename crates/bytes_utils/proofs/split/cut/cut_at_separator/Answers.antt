use Rattle.std.proofs.Common.{◌≡◌, ◌+◌, ◌≤◌, ◌++◌, ℕ, List, Result, Ok, Err, IfOk, length, take, drop, rules}
use Rattle.bytes_utils.proofs.HalvesLemmas.{bytes_around}
use Rattle.bytes_utils.proofs.PartCut.{end_boundary, next_boundary}
use Rattle.bytes_utils.proofs.split.cut.cut_at_separator.Goals as goal

pub overflow_add-at : goal.overflow_add-at
overflow_add-at g c =
    let text_is = rw c.as_str.ensures.value at c.as_str.utf8 in
    let fits : c.args.at + length c.args.separator.now ≤ length c.as_str.result.now =
    rw c.as_str.ensures.value ((next_boundary _ _ text_is c.utf8.separator _ _ c.requires.1 c.requires.2).0) in
    search rules

pub cut_around-requires : goal.cut_around-requires
cut_around-requires g c =
    let text_is = rw c.as_str.ensures.value at c.as_str.utf8 in
    record {
      order = search rules;
      end = end_boundary _ _ text_is c.utf8.separator _ _ c.requires.1 c.requires.2;
      next = next_boundary _ _ text_is c.utf8.separator _ _ c.requires.1 c.requires.2;
    }

-- the bytes of both pieces and of the separator are those of the text
around : {E : Type 0} (r : Result (List ℕ × List ℕ) E) (text separator : List ℕ) (at : ℕ)
    → ((before following : List ℕ) → before ≡ take at text → following ≡ drop (at + length separator) text → before ++ (separator ++ following) ≡ text)
    → IfOk r (λ p. p.0 ≡ take at text) → IfOk r (λ p. p.1 ≡ drop (at + length separator) text) → IfOk r (λ p. p.0 ++ (separator ++ p.1) ≡ text)
around (Ok p) text separator at law before following = law p.0 p.1 before following
around (Err _) text separator at law before following = tt

pub returns-clause-bytes : goal.returns-clause-bytes
returns-clause-bytes g c =
    let text_is = rw c.as_str.ensures.value at c.as_str.utf8 in
    around c.cut_around.result _ _ c.args.at (bytes_around _ _ text_is c.utf8.separator _ _ c.requires.1 c.requires.2) c.cut_around.ensures.before c.cut_around.ensures.after
