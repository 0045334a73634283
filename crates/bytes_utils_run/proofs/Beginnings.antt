-- The first bytes of what is to be written, one piece after another.
use Rattle.std.proofs.Common.{sym, subst, ℕ, ◌+◌, List, ◌++◌, Option, length, take, arith, length-append}
use Rattle.std.proofs.Math.Seq.{take-append-add}
use Rattle.std.proofs.lemmas.List.{take-append-le, take_all}
use Rattle.std.proofs.KnownBytes.{Appends-trans}
use Rattle.std.specs.Io.KnownBytes.{Appends}
use Rattle.bytes_utils_run.specs.AppendsAndConsumes.{AppendsBeginning}

-- writing all of xs is writing first bytes of xs
pub AppendsBeginning-all : (a b : Option (List ℕ)) (xs : List ℕ) → Appends a b xs → AppendsBeginning a b xs
AppendsBeginning-all a b xs whole = (length xs, omega arith, subst (Appends a b) (sym (take_all (length xs) xs (omega arith))) whole)

-- all of xs was written, and then first bytes of ys
pub AppendsBeginning-after : (a b c : Option (List ℕ)) (xs ys : List ℕ) → Appends a b xs → AppendsBeginning b c ys → AppendsBeginning a c (xs ++ ys)
AppendsBeginning-after a b c xs ys first begun = (
  length xs + begun.0,
  omega (arith, begun.1, length-append xs ys),
  subst (Appends a c) (sym (take-append-add xs ys begun.0)) (Appends-trans a b c xs (take begun.0 ys) first begun.2),
)

-- first bytes of xs are first bytes of each list that begins with xs
pub AppendsBeginning-more : (a b : Option (List ℕ)) (xs ys : List ℕ) → AppendsBeginning a b xs → AppendsBeginning a b (xs ++ ys)
AppendsBeginning-more a b xs ys begun = (
  begun.0,
  omega (arith, begun.1, length-append xs ys),
  subst (Appends a b) (sym (take-append-le begun.0 xs ys begun.1)) begun.2,
)
