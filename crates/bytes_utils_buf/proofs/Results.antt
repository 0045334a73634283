-- What holds of a result.
use Rattle.std.proofs.Common.{◌≡◌, subst, Option, Some, None, Result, Ok, Err, IfOk, IfSome, OnErr}

-- what always holds, holds at an error
pub OnErr-always : {T E : Type 0} (r : Result T E) (P : Type 0) → P → OnErr r P
OnErr-always (Ok _) P p = tt
OnErr-always (Err _) P p = p

-- what follows of a value holds of one that may have come
pub IfSome-weaker : {T E : Type 0} (r : Result (Option T) E) (P Q : T → Type 0) → ((x : T) → P x → Q x) → IfOk r (λ next. IfSome next P)
    → IfOk r (λ next. IfSome next Q)
IfSome-weaker (Ok (Some x)) P Q f p = f x p
IfSome-weaker (Ok None) P Q f p = tt
IfSome-weaker (Err _) P Q f p = tt

-- what a clause says of a value that has come
pub at_some : {T : Type 0} (next : Option T) (x : T) (P : T → Type 0) → next ≡ Some x → IfSome next P → P x
at_some next x P is p = subst (λ next. IfSome next P) is p
