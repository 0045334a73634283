-- What one line of a head reports: one thing alone.
use Rattle.std.proofs.Common.{◌≡◌, refl, sym, ap, subst, ◌∙◌, inl, inr, ℕ, ◌<◌, List, [], ◌∷◌, ◌++◌, Option, None, Some, Result, Ok, Err, length, take, drop, get_or, true, arith}
use Rattle.std.specs.List.{AllPass, prefix_len}
use Rattle.std.proofs.Math.Seq.{take-append_seam, drop-append_seam}
use Rattle.std.proofs.lemmas.List.{take-append-drop, length-take, get_or-take}
use Rattle.std.proofs.lemmas.List.Sums.{prefix_len_passes}
use Rattle.std.proofs.lemmas.List.Elements.{All-head, All-tail}
use Rattle.bytes_utils_protocols.specs.declared.requests.LengthError.{LengthError}
use Rattle.bytes_utils_protocols.specs.declared.requests.LengthError.TheVariants.{NotAHeader, NotANumber, Unequal, UnknownFraming}
use Rattle.bytes_utils_protocols.specs.Digits.{colon}
use Rattle.bytes_utils_protocols.specs.Headers.{IsHeader, is_header_name_byte}
use Rattle.bytes_utils_protocols.specs.Requests.{RequestHeaderReports, RequestLineReports, content_length, transfer_encoding}

-- a name ends at the colon
name_len : (name value : List ℕ) → AllPass is_header_name_byte name → prefix_len is_header_name_byte (name ++ colon ∷ value) ≡ length name
name_len [] value visible = refl
name_len (b ∷ name) value visible =
    let here : is_header_name_byte b ≡ true = All-head (λ x. is_header_name_byte x ≡ true) b name visible in
    let others = name_len name value (All-tail (λ x. is_header_name_byte x ≡ true) b name visible) in
    rw here (omega (arith, others))

-- the line is cut after the bytes at its front that a name may have
pub record IsCutAfterName (line name rest : List ℕ) : Type 0 where
  pub len : ℕ
  pub len_is : len ≡ prefix_len is_header_name_byte line
  pub name_is : name ≡ take len line
  pub rest_is : rest ≡ drop len line

pub cut_after_name : (line : List ℕ) {name rest : List ℕ} (len : ℕ) → len ≡ prefix_len is_header_name_byte line → name ≡ take len line → rest ≡ drop len line
    → IsCutAfterName line name rest
cut_after_name line len len_is name_is rest_is = record { len = len; len_is = len_is; name_is = name_is; rest_is = rest_is }

-- there is one such cut
pub one_cut : {line name rest other more : List ℕ} → IsCutAfterName line name rest → IsCutAfterName line other more → (name ≡ other) × (rest ≡ more)
one_cut {line} a b =
    let same : a.len ≡ b.len = a.len_is ∙ sym b.len_is in
    (a.name_is ∙ ap (λ n. take n line) same ∙ sym b.name_is, a.rest_is ∙ ap (λ n. drop n line) same ∙ sym b.rest_is)

-- a header is cut between its name and its colon
pub cut_of_header : (line name value : List ℕ) → IsHeader line name value → IsCutAfterName line name (colon ∷ value)
cut_of_header line name value is = record {
  len = length name;
  len_is = sym (ap (prefix_len is_header_name_byte) is.parts ∙ name_len name value is.visible);
  name_is = sym (ap (take (length name)) is.parts ∙ take-append_seam name (colon ∷ value));
  rest_is = sym (ap (drop (length name)) is.parts ∙ drop-append_seam name (colon ∷ value));
}

-- a line that is cut between a name and a colon is a header
pub header_of_cut : {line name rest : List ℕ} (value : List ℕ) → IsCutAfterName line name rest → 0 < length name → rest ≡ colon ∷ value → IsHeader line name value
header_of_cut {line} {name} value cut some rest_is = record {
  parts = sym (take-append-drop cut.len line) ∙ (λ i. sym cut.name_is i ++ sym cut.rest_is i) ∙ ap (λ rest. name ++ rest) rest_is;
  some = some;
  visible = λ k d below.
      let short : k < cut.len = let e = ap length cut.name_is in omega (arith, length-take cut.len line) in
      let passes = prefix_len_passes is_header_name_byte line k d (omega (arith, cut.len_is)) in
      subst (λ b. is_header_name_byte b ≡ true) (sym (ap (λ l. get_or l k d) cut.name_is ∙ get_or-take cut.len line k d short)) passes;
}

other_names : content_length ≡ transfer_encoding → ⊥
other_names same = let first = ap (λ name. get_or name 0 0) same in omega arith

header_reports_one : (name value : List ℕ) (r s : Result (Option ℕ) LengthError) → RequestHeaderReports name value r → RequestHeaderReports name value s → r ≡ s
header_reports_one name value (Ok (Some m)) (Ok (Some n)) a b = ap (λ k. Ok (Some k)) (sym a.1.1 ∙ b.1.1)
header_reports_one name value (Ok (Some m)) (Ok None) a b = absurd (b.0 a.0)
header_reports_one name value (Ok (Some m)) (Err NotANumber) a b = absurd (b.1 m a.1)
header_reports_one name value (Ok (Some m)) (Err UnknownFraming) a b = absurd (other_names (sym a.0 ∙ b))
header_reports_one name value (Ok None) (Ok (Some n)) a b = absurd (a.0 b.0)
header_reports_one name value (Ok None) (Ok None) a b = refl
header_reports_one name value (Ok None) (Err NotANumber) a b = absurd (a.0 b.0)
header_reports_one name value (Ok None) (Err UnknownFraming) a b = absurd (a.1 b)
header_reports_one name value (Err NotANumber) (Ok (Some n)) a b = absurd (a.1 n b.1)
header_reports_one name value (Err NotANumber) (Ok None) a b = absurd (b.0 a.0)
header_reports_one name value (Err NotANumber) (Err NotANumber) a b = refl
header_reports_one name value (Err NotANumber) (Err UnknownFraming) a b = absurd (other_names (sym a.0 ∙ b))
header_reports_one name value (Err UnknownFraming) (Ok (Some n)) a b = absurd (other_names (sym b.0 ∙ a))
header_reports_one name value (Err UnknownFraming) (Ok None) a b = absurd (b.1 a)
header_reports_one name value (Err UnknownFraming) (Err NotANumber) a b = absurd (other_names (sym b.0 ∙ a))
header_reports_one name value (Err UnknownFraming) (Err UnknownFraming) a b = refl
header_reports_one name value (Err NotAHeader) s a b = absurd a
header_reports_one name value (Err Unequal) s a b = absurd a
header_reports_one name value r (Err NotAHeader) a b = absurd b
header_reports_one name value r (Err Unequal) a b = absurd b

pub reports_one : (line : List ℕ) (r s : Result (Option ℕ) LengthError) → RequestLineReports line r → RequestLineReports line s → r ≡ s
reports_one line r s (inl (name, value, is, a)) (inl (other, text, too, b)) =
    let same = one_cut (cut_of_header line other text too) (cut_of_header line name value is) in
    let same_value : text ≡ value = let e = same.1 in cc in
    header_reports_one name value r s a (subst (λ n. RequestHeaderReports n value s) same.0 (subst (λ v. RequestHeaderReports other v s) same_value b))
reports_one line r s (inl (name, value, is, a)) (inr none) = absurd (none.1 name value is)
reports_one line r s (inr none) (inl (name, value, is, b)) = absurd (none.1 name value is)
reports_one line r s (inr a) (inr b) = a.0 ∙ sym b.0
