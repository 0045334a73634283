use Rattle.std.proofs.Common.{◌≡◌, ◌+◌, ◌^◌, ◌<◌, List, ℕ, ◌++◌, length, map, arith, ap, ◌∙◌, subst, length-append}
use Rattle.std.specs.List.{concat}
use Rattle.std.specs.Option.{SomeIff}
use Rattle.bytes_utils_buf.proofs.Lists.{concat-map_parts}
use Rattle.bytes_utils_buf.proofs.segmented.sum.sum_of_held.Goals as goal

-- the number of bytes of elements in a row
size : {X : Type 0} (f : X → List ℕ) (xs ys all : List X) → xs ++ ys ≡ all → length (concat (map f all)) ≡ length (concat (map f xs)) + length (concat (map f ys))
size f xs ys all parts = ap length (concat-map_parts f xs ys all parts) ∙ length-append (concat (map f xs)) (concat (map f ys))

pub returns-in_err-sum_of : goal.returns-in_err-sum_of
returns-in_err-sum_of g c =
    let bytes = size g.B.Buf.unread c.as_slices.result.0.now c.as_slices.result.1.now c.args.bufs.now.items c.as_slices.ensures.items in
    rw c.from_residual.ensures (λ fits. c.in_err-sum_of.ensures (omega (arith, fits, bytes)))

pub returns-in_err-sum_of-2 : goal.returns-in_err-sum_of-2
returns-in_err-sum_of-2 g c =
    let bytes = size g.B.Buf.unread c.as_slices.result.0.now c.as_slices.result.1.now c.args.bufs.now.items c.as_slices.ensures.items in
    rw c.from_residual-in_err-sum_of-2.ensures (λ fits. c.in_err-sum_of-2.ensures (omega (arith, fits, bytes)))

pub returns : goal.returns
returns g c =
    let bytes = size g.B.Buf.unread c.as_slices.result.0.now c.as_slices.result.1.now c.args.bufs.now.items c.as_slices.ensures.items in
    let sum : c.in_ok-sum_of.field-0 + c.in_ok-sum_of-2.field-0 ≡ length (concat (map g.B.Buf.unread c.args.bufs.now.items)) =
    omega (arith, bytes, c.in_ok-sum_of.ensures.1, c.in_ok-sum_of-2.ensures.1) in
    subst (λ n. SomeIff c.checked_add.result (n < 2 ^ 64) n) sum c.checked_add.ensures
