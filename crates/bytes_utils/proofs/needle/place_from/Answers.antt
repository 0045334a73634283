use Rattle.std.proofs.Common.{◌≡◌, ◌+◌, ◌-◌, ◌≤◌, ℕ, List, length, take, drop, true, arith, ap, ◌∙◌, sym, eqb, get_or, get_or-drop, length-drop}
use Rattle.std.proofs.lemmas.Bool.{eq-eqb, eqb-true}
use Rattle.bytes_utils.proofs.NeedleLemmas.{range_rest}
use Rattle.bytes_utils.proofs.needle.place_from.Goals as goal

passes : (bytes : List ℕ) (from first k : ℕ) → from ≤ k → get_or bytes k 0 ≡ first → eqb (get_or (take (length bytes - from) (drop from bytes)) (k - from) 0) first ≡ true
passes bytes from first k low is =
    let at : from + (k - from) ≡ k = omega arith in
    eq-eqb _ _ (ap (λ l. get_or l (k - from) 0) (range_rest bytes from) ∙ get_or-drop from bytes (k - from) 0 ∙ ap (λ n. get_or bytes n 0) at ∙ is)

pub returns-in-Some-clause-none : goal.returns-in-Some-clause-none
returns-in-Some-clause-none c k low high is = c.in-Some.ensures.0.before (k - c.args.from) (omega arith) (omega (arith, high, low)) (passes c.args.bytes.now c.args.from c.args.first k low is)

pub returns-in-None-clause-none : goal.returns-in-None-clause-none
returns-in-None-clause-none c k low high is =
    c.in-None.ensures (k - c.args.from) (omega arith) (omega (arith, high, low, ap length (range_rest c.args.bytes.now c.args.from), length-drop c.args.from c.args.bytes.now))
    (passes c.args.bytes.now c.args.from c.args.first k low is)

pub returns-in-Some-clause-found : goal.returns-in-Some-clause-found
returns-in-Some-clause-found c inside =
    let bytes = c.args.bytes.now in
    let from = c.args.from in
    sym (ap (λ l. get_or l c.in-Some.at 0) (range_rest bytes from) ∙ get_or-drop from bytes c.in-Some.at 0) ∙ eqb-true _ _ c.in-Some.ensures.1
