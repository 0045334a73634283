-- The lines of a head, one after another, and the length that is known so far.
use Rattle.std.proofs.Common.{◌≡◌, ◌≢◌, refl, sym, ap, subst, ◌∙◌, inl, inr, ℕ, List, [], ◌∷◌, ◌++◌, Option, None, Some, Ok, Err, IfSome, IsSomeAnd, unwrap_or, All, Any, arith, append_assoc}
use Rattle.std.specs.Option.{option_or}
use Rattle.std.proofs.lemmas.Iterator.{YieldsList}
use Rattle.std.proofs.lemmas.List.{append-nil}
use Rattle.std.proofs.lemmas.List.Elements.{All-contains, All-push, All-weaker, Contains-append_left}
use Rattle.std.proofs.lemmas.List.Quantifiers.{Any-push}
use Rattle.bytes_utils_protocols.specs.declared.requests.LengthError.{LengthError}
use Rattle.bytes_utils_protocols.specs.declared.requests.LengthError.TheVariants.{Unequal}
use Rattle.bytes_utils_protocols.specs.Requests.{RequestLinesDiffer, ReportRequestError, ReportRequestLength, RequestLineReports}
use Rattle.bytes_utils_protocols.proofs.HeadReports.{IsAtFault, ReportsAtMost}
use Rattle.bytes_utils_protocols.proofs.HeaderReports.{reports_one}

-- each line reports the known length or nothing, and one line reports the known length, if there is one
abbrev pub Known : List (List ℕ) → Option ℕ → Type 0
Known lines None = All (λ line. RequestLineReports line (Ok None)) lines
Known lines (Some len) = All (ReportsAtMost len) lines × Any (λ line. RequestLineReports line (Ok (Some len))) lines

known_length : (lines : List (List ℕ)) (known : Option ℕ) → Known lines known → ReportRequestLength lines (unwrap_or known 0)
known_length lines None all = record {
  each = All-weaker (λ line. RequestLineReports line (Ok None)) (ReportsAtMost 0) (λ line none. inl none) lines all;
  none = λ _. refl;
}
known_length lines (Some len) known = record {
  each = known.0;
  none = λ all.
      let some = known.1 in
      let none = All-contains (λ line. RequestLineReports line (Ok None)) lines some.1 all (some.0, some.2, some.3) in
      let same = reports_one some.1 (Ok None) (Ok (Some len)) none some.4 in cc;
}

any_more : (P : List ℕ → Type 0) (lines : List (List ℕ)) (line : List ℕ) → Any P lines → Any P (lines ++ line ∷ [])
any_more P lines line some =
    let there = Contains-append_left lines (line ∷ []) some.1 (some.0, some.2, some.3) in (there.0, some.1, there.1, there.2, some.4)

known_more : (lines : List (List ℕ)) (line : List ℕ) (known reported : Option ℕ) → Known lines known → RequestLineReports line (Ok reported)
    → IfSome known (λ one. IfSome reported (λ other. one ≡ other)) → Known (lines ++ line ∷ []) (option_or known reported)
known_more lines line None None known report same = All-push (λ l. RequestLineReports l (Ok None)) lines line known report
known_more lines line None (Some n) known report same = (
  All-push (ReportsAtMost n) lines line (All-weaker (λ l. RequestLineReports l (Ok None)) (ReportsAtMost n) (λ l none. inl none) lines known) (inr report),
  Any-push (λ l. RequestLineReports l (Ok (Some n))) lines line report,
)
known_more lines line (Some m) None known report same = (
  All-push (ReportsAtMost m) lines line known.0 (inl report),
  any_more (λ l. RequestLineReports l (Ok (Some m))) lines line known.1,
)
known_more lines line (Some m) (Some n) known report same = (
  All-push (ReportsAtMost m) lines line known.0 (inr (subst (λ k. RequestLineReports line (Ok (Some k))) (sym same) report)),
  any_more (λ l. RequestLineReports l (Ok (Some m))) lines line known.1,
)

unequal : (lines : List (List ℕ)) (line : List ℕ) (known reported : Option ℕ) → Known lines known → RequestLineReports line (Ok reported)
    → IsSomeAnd known (λ one. IsSomeAnd reported (λ other. one ≢ other)) → Any (λ one. RequestLinesDiffer one line) lines
unequal lines line None reported known report apart = absurd apart
unequal lines line (Some m) None known report apart = absurd apart
unequal lines line (Some m) (Some n) known report apart = let some = known.1 in (some.0, some.1, some.2, some.3, (m, n, some.4, report, apart))

-- some of the lines were read, and these are left
pub record SoFar (lines left : List (List ℕ)) (known : Option ℕ) : Type 0 where
  pub before : List (List ℕ)
  pub parts : lines ≡ before ++ left
  pub reports : Known before known

pub so_far_none : (lines : List (List ℕ)) → SoFar lines lines None
so_far_none lines = record { before = []; parts = refl; reports = λ k d below. absurd (omega arith) }

pub so_far_all : (lines : List (List ℕ)) (known : Option ℕ) → SoFar lines [] known → ReportRequestLength lines (unwrap_or known 0)
so_far_all lines known h =
    subst (λ l. ReportRequestLength l (unwrap_or known 0)) (sym (h.parts ∙ append-nil h.before)) (known_length h.before known h.reports)

pub so_far_more : (lines others : List (List ℕ)) (line : List ℕ) (known reported agreed : Option ℕ) → SoFar lines (line ∷ others) known
    → RequestLineReports line (Ok reported) → (agreed ≡ option_or known reported) × IfSome known (λ one. IfSome reported (λ other. one ≡ other))
    → SoFar lines others agreed
so_far_more lines others line known reported agreed h report fits = record {
  before = h.before ++ line ∷ [];
  parts = h.parts ∙ sym (append_assoc h.before (line ∷ []) others);
  reports = subst (Known (h.before ++ line ∷ [])) (sym fits.0) (known_more h.before line known reported h.reports report fits.1);
}

so_far_fault : (lines others : List (List ℕ)) (line : List ℕ) (known : Option ℕ) (error : LengthError) (h : SoFar lines (line ∷ others) known)
    → IsAtFault h.before line error → ReportRequestError lines error
so_far_fault lines others line known error h fault = record {
  before = h.before;
  line = line;
  others = others;
  parts = h.parts;
  len = unwrap_or known 0;
  sound = known_length h.before known h.reports;
  fault = fault;
}

pub so_far_error : (lines others : List (List ℕ)) (line : List ℕ) (known : Option ℕ) (error : LengthError) → SoFar lines (line ∷ others) known
    → RequestLineReports line (Err error) → ReportRequestError lines error
so_far_error lines others line known error h report = so_far_fault lines others line known error h (inl report)

pub so_far_unequal : (lines others : List (List ℕ)) (line : List ℕ) (known reported : Option ℕ) (error : LengthError) → SoFar lines (line ∷ others) known
    → RequestLineReports line (Ok reported) → (error ≡ Unequal) × IsSomeAnd known (λ one. IsSomeAnd reported (λ other. one ≢ other)) → ReportRequestError lines error
so_far_unequal lines others line known reported error h report apart =
    so_far_fault lines others line known error h (inr (apart.0, unequal h.before line known reported h.reports report apart.1))

-- these lines are left to an iterator, and this is known of the lines before them
pub record LeavesLines {S A : Type 0} (steps : S → Option A → S → Type 0) (v : A → List ℕ) (iterator : S) (KnownBefore : List (List ℕ) → Type 0) : Type 0 where
  pub left : List (List ℕ)
  pub coming : YieldsList steps v iterator left
  pub so_far : KnownBefore left

-- one call of an iterator that gives a list
pub next_given : {S A : Type 0} (steps : S → Option A → S → Type 0) (v : A → List ℕ) (s t : S) (x : A) (left : List (List ℕ)) → YieldsList steps v s left
    → steps s (Some x) t → (others : List (List ℕ)) × (left ≡ v x ∷ others) × YieldsList steps v t others
next_given steps v s t x [] coming step = absurd (coming.runs x t step)
next_given steps v s t x (y ∷ others) coming step =
    let more = coming.runs.1 x t step in (others, ap (λ z. z ∷ others) (sym more.0), record { runs = more.1 })

pub none_given : {S A : Type 0} (steps : S → Option A → S → Type 0) (v : A → List ℕ) (s t : S) (left : List (List ℕ)) → YieldsList steps v s left
    → steps s None t → left ≡ []
none_given steps v s t [] coming step = refl
none_given steps v s t (y ∷ others) coming step = absurd (coming.runs.0 t step)
