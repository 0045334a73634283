-- What the lines of a head report together: one length or one error, and never both.
use Rattle.std.proofs.Common.{◌≡◌, refl, sym, ap, subst, ◌∙◌, ◌⊎◌, inl, inr, ⊎_elim, ◌↔◌, ℕ, List, [], ◌∷◌, ◌++◌, None, Some, Result, Ok, Err, MatchResult, All, Any, Contains, arith}
use Rattle.std.proofs.lemmas.List.Elements.{All-head, All-tail, All-cons, All-contains, Contains-append_left, Contains-append_right, Contains-get_or}
use Rattle.bytes_utils_protocols.specs.declared.requests.LengthError.{LengthError}
use Rattle.bytes_utils_protocols.specs.declared.requests.LengthError.TheVariants.{Unequal}
use Rattle.bytes_utils_protocols.specs.Requests.{RequestLinesDiffer, ReportRequestError, ReportRequestLength, RequestLineReports}
use Rattle.bytes_utils_protocols.proofs.HeaderReports.{reports_one}

-- the line reports this length or nothing
abbrev pub ReportsAtMost : ℕ → List ℕ → Type 0
ReportsAtMost len line = RequestLineReports line (Ok None) ⊎ RequestLineReports line (Ok (Some len))

the_length : (line : List ℕ) (len n : ℕ) → ReportsAtMost len line → RequestLineReports line (Ok (Some n)) → n ≡ len
the_length line len n (inl none) some = let same = reports_one line (Ok None) (Ok (Some n)) none some in cc
the_length line len n (inr other) some = let same = reports_one line (Ok (Some n)) (Ok (Some len)) some other in cc

no_error : (line : List ℕ) (len : ℕ) (error : LengthError) → ReportsAtMost len line → RequestLineReports line (Err error) → ⊥
no_error line len error (inl none) fault = let same = reports_one line (Ok None) (Err error) none fault in cc
no_error line len error (inr some) fault = let same = reports_one line (Ok (Some len)) (Err error) some fault in cc

-- either all of these lines report nothing, or one of them reports the length
none_or_some : (lines : List (List ℕ)) (len : ℕ) → All (ReportsAtMost len) lines
    → All (λ line. RequestLineReports line (Ok None)) lines ⊎ ((line : List ℕ) × Contains lines line × RequestLineReports line (Ok (Some len)))
none_or_some [] len each = inl (λ k d below. absurd (omega arith))
none_or_some (line ∷ lines) len each =
    let others = none_or_some lines len (All-tail (ReportsAtMost len) line lines each) in
    ⊎_elim (λ none. ⊎_elim
    (λ all. inl (All-cons (λ l. RequestLineReports l (Ok None)) line lines none all))
    (λ some. inr (some.0, Contains-append_right (line ∷ []) lines some.0 some.1, some.2))
    others)
    (λ some. inr (line, Contains-append_left (line ∷ []) lines line (Contains-get_or (line ∷ []) 0 line (omega arith)), some))
    (All-head (ReportsAtMost len) line lines each)

one_length : (lines : List (List ℕ)) (m n : ℕ) → ReportRequestLength lines m → ReportRequestLength lines n → m ≡ n
one_length lines m n a b = ⊎_elim
    (λ none. a.none none ∙ sym (b.none none))
    (λ some. the_length some.0 n m (All-contains (ReportsAtMost n) lines some.0 b.each some.1) some.2)
    (none_or_some lines m a.each)

-- after these lines, this one is at fault
abbrev pub IsAtFault : List (List ℕ) → List ℕ → LengthError → Type 0
IsAtFault before line error = RequestLineReports line (Err error) ⊎ ((error ≡ Unequal) × Any (λ one. RequestLinesDiffer one line) before)

one_fault : (before : List (List ℕ)) (line : List ℕ) (e f : LengthError) → IsAtFault before line e → IsAtFault before line f → e ≡ f
one_fault before line e f (inl a) (inl b) = let same = reports_one line (Err e) (Err f) a b in cc
one_fault before line e f (inl a) (inr b) = let same = reports_one line (Err e) (Ok (Some b.1.4.1)) a b.1.4.3 in cc
one_fault before line e f (inr a) (inl b) = let same = reports_one line (Err f) (Ok (Some a.1.4.1)) b a.1.4.3 in cc
one_fault before line e f (inr a) (inr b) = a.0 ∙ sym b.0

-- lines among which one is at fault report no length
no_length : (before : List (List ℕ)) (line : List ℕ) (others : List (List ℕ)) (error : LengthError) (len : ℕ)
    → IsAtFault before line error → ReportRequestLength (before ++ line ∷ others) len → ⊥
no_length before line others error len fault report =
    let of = λ (l : List ℕ) (there : Contains (before ++ line ∷ others) l). All-contains (ReportsAtMost len) (before ++ line ∷ others) l report.each there in
    let here = of line (Contains-append_right before (line ∷ others) line
    (Contains-append_left (line ∷ []) others line (Contains-get_or (line ∷ []) 0 line (omega arith)))) in
    ⊎_elim (no_error line len error here)
    (λ unequal. let one = unequal.1 in
    let first = the_length one.1 len one.4.0 (of one.1 (Contains-append_left before (line ∷ others) one.1 (one.0, one.2, one.3))) one.4.2 in
    let second = the_length line len one.4.1 here one.4.3 in
    one.4.4 (first ∙ sym second))
    fault

-- of two members of a list, one comes before the other, or they are the same
place_of_two : (xs ys : List (List ℕ)) (x y : List ℕ) (us vs : List (List ℕ)) → xs ++ x ∷ us ≡ ys ++ y ∷ vs
    → ((xs ≡ ys) × (x ≡ y)) ⊎ (((more : List (List ℕ)) × (ys ≡ xs ++ x ∷ more)) ⊎ ((more : List (List ℕ)) × (xs ≡ ys ++ y ∷ more)))
place_of_two [] [] x y us vs same = inl (refl, cc)
place_of_two [] (b ∷ ys) x y us vs same = let first : b ≡ x = cc in inr (inl (ys, ap (λ z. z ∷ ys) first))
place_of_two (a ∷ xs) [] x y us vs same = let first : a ≡ y = cc in inr (inr (xs, ap (λ z. z ∷ xs) first))
place_of_two (a ∷ xs) (b ∷ ys) x y us vs same =
    let first : a ≡ b = cc in
    let rest : xs ++ x ∷ us ≡ ys ++ y ∷ vs = cc in
    ⊎_elim (λ both. inl (let e = both.0 in cc, both.1))
    (λ apart. inr (⊎_elim (λ more. inl (more.0, let e = more.1 in cc)) (λ more. inr (more.0, let e = more.1 in cc)) apart))
    (place_of_two xs ys x y us vs rest)

one_error : (lines : List (List ℕ)) (e f : LengthError) → ReportRequestError lines e → ReportRequestError lines f → e ≡ f
one_error lines e f a b = ⊎_elim
    (λ same. one_fault b.before b.line e f (subst (λ l. IsAtFault b.before l e) same.1 (subst (λ x. IsAtFault x a.line e) same.0 a.fault)) b.fault)
    (λ apart. absurd (⊎_elim
    (λ more. no_length a.before a.line more.0 e b.len a.fault (subst (λ l. ReportRequestLength l b.len) more.1 b.sound))
    (λ more. no_length b.before b.line more.0 f a.len b.fault (subst (λ l. ReportRequestLength l a.len) more.1 a.sound))
    apart))
    (place_of_two a.before b.before a.line b.line a.others b.others (sym a.parts ∙ b.parts))

not_both : (lines : List (List ℕ)) (len : ℕ) (error : LengthError) → ReportRequestLength lines len → ReportRequestError lines error → ⊥
not_both lines len error report fault =
    no_length fault.before fault.line fault.others error len fault.fault (subst (λ l. ReportRequestLength l len) fault.parts report)

-- a result that is right for the lines is the only one
pub right_length : (lines : List (List ℕ)) (r : Result ℕ LengthError) → MatchResult r (ReportRequestLength lines) (ReportRequestError lines)
    → (len : ℕ) → (r ≡ Ok len) ↔ ReportRequestLength lines len
right_length lines (Ok n) right len = (
  (λ same. let e : n ≡ len = cc in subst (ReportRequestLength lines) e right),
  (λ report. ap (λ k. Ok k) (one_length lines n len right report)),
)
right_length lines (Err e) right len = ((λ same. absurd (let s = same in cc)), (λ report. absurd (not_both lines len e report right)))

pub right_error : (lines : List (List ℕ)) (r : Result ℕ LengthError) → MatchResult r (ReportRequestLength lines) (ReportRequestError lines)
    → (error : LengthError) → (r ≡ Err error) ↔ ReportRequestError lines error
right_error lines (Ok n) right error = ((λ same. absurd (let s = same in cc)), (λ fault. absurd (not_both lines n error right fault)))
right_error lines (Err e) right error = (
  (λ same. let s : e ≡ error = cc in subst (ReportRequestError lines) s right),
  (λ fault. ap (λ f. Err f) (one_error lines e error right fault)),
)
