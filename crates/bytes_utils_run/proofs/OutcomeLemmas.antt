-- What follows from an outcome.
use Rattle.std.proofs.Common.{◌≡◌, sym, List, ◌++◌, ◌<◌, length, Option, None, Some, Result, Ok, Err, map, subst, arith, IfErr, IfSome, IsErrAnd}
use Rattle.std.proofs.lemmas.Bool.{false≢true}
use Rattle.std.proofs.lemmas.List.{map-append, length-map}
use Rattle.std.specs.Result.{IsErr, result_err}
use Rattle.bytes_utils.specs.Outcome.{Outcome}

-- if each right list for `Is` is right for `Are`, so is each outcome
pub Outcome-right : {X E : Type 0} (Is Are : List X → Type 0) → ((all : List X) → Is all → Are all)
    → (given : List X) (refused : Option E) → Outcome Is given refused → Outcome Are given refused
Outcome-right Is Are right given None is = right given is
Outcome-right Is Are right given (Some e) begun = (begun.0, begun.1, right (given ++ begun.0) begun.2)

-- an outcome for a list, mapped, is an outcome for the mapped list
pub Outcome-map : {X Y E : Type 0} (f : X → Y) (Is : List X → Type 0) (Are : List Y → Type 0) → ((all : List X) → Is all → Are (map f all))
    → (given : List X) (refused : Option E) → Outcome Is given refused → Outcome Are (map f given) refused
Outcome-map f Is Are into given None is = into given is
Outcome-map f Is Are into given (Some e) begun = (
  map f begun.0,
  omega (arith, begun.1, length-map begun.0 f),
  subst Are (map-append f given begun.0) (into (given ++ begun.0) begun.2),
)

-- the outcome after a refusal: other elements are missing
pub Outcome-refused : {X E : Type 0} (Is : List X → Type 0) (given : List X) (result : Result Unit E) → IsErr result
    → (others : List X) × (0 < length others) × Is (given ++ others) → Outcome Is given (result_err result)
Outcome-refused Is given (Ok _) none _ = absurd (false≢true none)
Outcome-refused Is given (Err _) _ missing = missing

-- what holds of an error holds if a result is that error
pub IfErr-same : {T E : Type 0} (result : Result T E) (e : E) (P : E → Type 0) → IsErrAnd result (λ x. x ≡ e) → P e → IfErr result P
IfErr-same (Ok _) e P is holds = tt
IfErr-same (Err _) e P is holds = subst P (sym is) holds

-- what holds of a result's error holds of it as an option
pub IfSome-error : {T E : Type 0} (P : E → Type 0) (result : Result T E) (refused : Option E) → refused ≡ result_err result → IfErr result P → IfSome refused P
IfSome-error P (Ok _) refused is holds = subst (λ r. IfSome r P) (sym is) tt
IfSome-error P (Err e) refused is holds = subst (λ r. IfSome r P) (sym is) holds
