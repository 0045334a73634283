-- A disposition is read in one way.
use Rattle.std.proofs.Common.{Bor, IfNone, IfSome, option_map, length-append, length-drop, codes, ◌≡◌, ◌≢◌, ◌∙◌, ◌⊎◌, sym, refl, ap, subst, rules, arith, ℕ, ◌+◌, ◌<◌, ◌==◌, ◌&&◌, not, Bool, true, false, IsUtf8, List, [], ◌∷◌, ◌++◌, length, take, drop, get_or, Option, None, Some, MatchOption, inl, inr, All, append_assoc, append-nil, take-append-drop}
use Rattle.std.proofs.Math.Seq.{take-append_seam, drop-append_seam}
use Rattle.std.proofs.lemmas.Bool.{and_parts, false≢true}
use Rattle.std.proofs.lemmas.Bool.Decides.{nat_tests}
use Rattle.std.proofs.lemmas.Str.{IsCharBoundary-after_ascii, IsCharBoundary-from_take, IsUtf8-from_ascii}
use Rattle.std.proofs.lemmas.Str.Ascii.{IsAscii-from_all}
use Rattle.std.proofs.lemmas.List.Sums.{prefix_len-le-length, prefix_len_passes}
use Rattle.std.specs.Option.{is_some}
use Rattle.std.specs.Str.{IsCharBoundary}
use Rattle.std.proofs.lemmas.List.{get_or-drop, get_or-take, length-take-le}
use Rattle.std.proofs.lemmas.List.Elements.{All-head, All-tail, All-nil, All-push}
use Rattle.std.specs.Char.{is_ascii_graphic}
use Rattle.std.specs.List.{list_any, prefix_len}
use Rattle.bytes_utils_protocols.specs.Disposition.{AreDispositionParameters, BeginsWithSemicolon, DispositionParameter, HasDispositionParameter, HasOneDispositionNamed, IsDisposition, IsDispositionNamed, IsDispositionStringEnd, SameDispositionParameterLaw, TakesDispositionParameter, TakesDispositionSign, TakesDispositionString, TakesDispositionToken, TakesDispositionValue, disposition_backslash, disposition_quote, fit_between_disposition_quotes, is_disposition_separator, is_disposition_token_byte, without_disposition_separators}
use Rattle.bytes_utils_protocols.specs.Headers.{is_header_blank, without_header_blanks}

-- what is true of each element is true of one between others
pub All-middle : {X : Type 0} (P : X → Type 0) (before : List X) (x : X) (after : List X) → All P (before ++ x ∷ after) → P x
All-middle P [] x after all = All-head P x after all
All-middle P (y ∷ before) x after all = All-middle P before x after (All-tail P y (before ++ x ∷ after) all)

drop_past_seam : (front : List ℕ) (b : ℕ) (rest : List ℕ) → drop (length front + 1) (front ++ b ∷ rest) ≡ rest
drop_past_seam front b rest =
    ap (λ n. drop n (front ++ b ∷ rest)) (sym (length-append front (b ∷ []))) ∙ ap (drop (length (front ++ b ∷ []))) (sym (append_assoc front (b ∷ []) rest))
    ∙ drop-append_seam (front ++ b ∷ []) rest

-- ---- texts are cut where bytes are ASCII

blank_ascii : (b : ℕ) → is_header_blank b ≡ true → b < 128
blank_ascii b is = grind (arith, nat_tests)

separator_ascii : (b : ℕ) → is_disposition_separator b ≡ true → b < 128
separator_ascii b is = grind (arith, nat_tests)

graphic_ascii : (b : ℕ) (other : Bool) → (is_ascii_graphic b && other) ≡ true → b < 128
graphic_ascii b other is = let graphic = (and_parts (is_ascii_graphic b) other is).0 in grind (arith, nat_tests)

token_ascii : (b : ℕ) → is_disposition_token_byte b ≡ true → b < 128
token_ascii b is = graphic_ascii b (not (list_any (λ c. c == b) (codes "()<>@,;:\\\"/[]?="))) is

module _ (p : ℕ → Bool) (ascii : (b : ℕ) → p b ≡ true → b < 128) (text : List ℕ) (utf8 : IsUtf8 text) where
  after_prefix : IsCharBoundary text (prefix_len p text)
  after_prefix =
      let n = prefix_len p text in
      let low : All (λ b. b < 128) (take n text) = λ k d below.
      let short : k < n = omega (arith, below, length-take-le n text (prefix_len-le-length p text)) in
      subst (λ b. b < 128) (sym (get_or-take n text k d short)) (ascii (get_or text k d) (prefix_len_passes p text k d short)) in
      IsCharBoundary-from_take text n utf8 (prefix_len-le-length p text) (IsUtf8-from_ascii (take n text) (IsAscii-from_all (take n text) low))

pub after_blanks_boundary : (text : List ℕ) → IsUtf8 text → IsCharBoundary text (prefix_len is_header_blank text)
after_blanks_boundary = after_prefix is_header_blank blank_ascii

pub after_separators_boundary : (text : List ℕ) → IsUtf8 text → IsCharBoundary text (prefix_len is_disposition_separator text)
after_separators_boundary = after_prefix is_disposition_separator separator_ascii

pub after_token_boundary : (text : List ℕ) → IsUtf8 text → IsCharBoundary text (prefix_len is_disposition_token_byte text)
after_token_boundary = after_prefix is_disposition_token_byte token_ascii

-- ---- where a string ends

fit_then : (escaped : Bool) (xs ys : List ℕ) → fit_between_disposition_quotes escaped xs ≡ true → fit_between_disposition_quotes escaped (xs ++ ys) ≡ fit_between_disposition_quotes false ys
fit_then false [] ys is = refl
fit_then true [] ys is = absurd (false≢true is)
fit_then true (b ∷ xs) ys is = fit_then false xs ys is
fit_then false (b ∷ xs) ys is = by_quote (b == disposition_quote) refl (fit_then (b == disposition_backslash) xs ys)
  where
    by_quote : (q : Bool) → (b == disposition_quote) ≡ q
        → (fit_between_disposition_quotes (b == disposition_backslash) xs ≡ true → fit_between_disposition_quotes (b == disposition_backslash) (xs ++ ys) ≡ fit_between_disposition_quotes false ys)
        → fit_between_disposition_quotes false (b ∷ (xs ++ ys)) ≡ fit_between_disposition_quotes false ys
    by_quote true e more = absurd (false≢true (subst (λ t. (not t && fit_between_disposition_quotes (b == disposition_backslash) xs) ≡ true) e is))
    by_quote false e more =
        ap (λ t. not t && fit_between_disposition_quotes (b == disposition_backslash) (xs ++ ys)) e
        ∙ more (subst (λ t. (not t && fit_between_disposition_quotes (b == disposition_backslash) xs) ≡ true) e is)

some_fit : (escaped : Bool) → (more : List ℕ) × (fit_between_disposition_quotes escaped more ≡ true)
some_fit false = ([], refl)
some_fit true = (65 ∷ [], refl)

-- all bytes may be between quotes
pub no_string_end : (text : List ℕ) (escaped : Bool) → ((more : List ℕ) → fit_between_disposition_quotes false (text ++ more) ≡ fit_between_disposition_quotes escaped more)
    → (place : ℕ) → ¬ IsDispositionStringEnd text place
no_string_end text escaped so_far place is =
    let some = some_fit escaped in
    let rest = drop (place + 1) text in
    let parts : text ++ some.0 ≡ take place text ++ disposition_quote ∷ (rest ++ some.0) =
    ap (λ l. l ++ some.0) (sym (take-append-drop place text) ∙ ap (λ l. take place text ++ l) is.here) ∙ append_assoc (take place text) (disposition_quote ∷ rest) some.0 in
    false≢true (sym (fit_then false (take place text) (disposition_quote ∷ (rest ++ some.0)) is.fit) ∙ sym (ap (fit_between_disposition_quotes false) parts) ∙ so_far some.0 ∙ some.1)

-- the text may be cut after a string
pub string_end_boundary : (text : List ℕ) (place : ℕ) → IsUtf8 text → IsDispositionStringEnd text place → IsCharBoundary text (place + 1)
string_end_boundary text place utf8 is =
    let within : place < length text = omega (arith, ap length is.here, length-drop place text) in
    let here : place ≡ place + 0 = omega arith in
    let quote : get_or text place 0 ≡ disposition_quote = ap (λ n. get_or text n 0) here ∙ sym (get_or-drop place text 0 0) ∙ ap (λ l. get_or l 0 0) is.here in
    IsCharBoundary-after_ascii text place utf8 within (omega (arith, quote))

-- a string ends at the quote after its bytes
pub string_end_is : {text inner rest : List ℕ} → TakesDispositionString (disposition_quote ∷ text) inner rest → IsDispositionStringEnd text (length inner)
string_end_is {text} {inner} {rest} is =
    let parts : text ≡ inner ++ disposition_quote ∷ rest = ap (drop 1) is.parts in record {
      here = ap (drop (length inner)) parts ∙ drop-append_seam inner (disposition_quote ∷ rest)
          ∙ ap (λ l. disposition_quote ∷ l) (sym (ap (drop (length inner + 1)) parts ∙ drop_past_seam inner disposition_quote rest));
      fit = ap (fit_between_disposition_quotes false) (ap (take (length inner)) parts ∙ take-append_seam inner (disposition_quote ∷ rest)) ∙ is.fit;
    }

-- whether a semicolon was found
pub semicolon_found : (text blank : List ℕ) (r : Option (Bor (List ℕ))) → blank ≡ without_header_blanks text → MatchOption r ((rest : List ℕ) → blank ≢ 59 ∷ rest) (λ x. blank ≡ 59 ∷ x.now)
    → MatchOption r (¬ BeginsWithSemicolon text) (λ _. BeginsWithSemicolon text)
semicolon_found text blank None is none = λ begins. none begins.0 (is ∙ begins.1)
semicolon_found text blank (Some x) is found = (x.now, sym is ∙ found)

-- ---- the parts are read in one way

pub TakesDispositionToken-same : {text one rest other more : List ℕ} → TakesDispositionToken text one rest → TakesDispositionToken text other more → (one ≡ other) × (rest ≡ more)
TakesDispositionToken-same a b = (a.token_is ∙ sym b.token_is, a.rest_is ∙ sym b.rest_is)

pub TakesDispositionSign-same : {text rest more : List ℕ} → TakesDispositionSign text rest → TakesDispositionSign text more → rest ≡ more
TakesDispositionSign-same a b = let same = ap (drop 1) (sym a.sign_is ∙ b.sign_is) in a.rest_is ∙ ap without_header_blanks same ∙ sym b.rest_is

-- two strings that begin alike end at the same quote
one_string : (escaped : Bool) (one other rest more : List ℕ) → one ++ disposition_quote ∷ rest ≡ other ++ disposition_quote ∷ more
    → fit_between_disposition_quotes escaped one ≡ true → fit_between_disposition_quotes escaped other ≡ true → (one ≡ other) × (rest ≡ more)
one_string escaped [] [] rest more same a b = (refl, ap (drop 1) same)
one_string true [] (c ∷ other) rest more same a b = absurd (search (rules, a))
one_string false [] (c ∷ other) rest more same a b = let first = ap (λ l. get_or l 0 0) same in absurd (search (rules, first, b))
one_string true (c ∷ one) [] rest more same a b = absurd (search (rules, b))
one_string false (c ∷ one) [] rest more same a b = let first = ap (λ l. get_or l 0 0) same in absurd (search (rules, first, a))
one_string true (c ∷ one) (d ∷ other) rest more same a b =
    let first : c ≡ d = ap (λ l. get_or l 0 0) same in
    let left = one_string false one other rest more (ap (drop 1) same) a b in
    (λ i. first i ∷ left.0 i, left.1)
one_string false (c ∷ one) (d ∷ other) rest more same a b =
    let first : c ≡ d = ap (λ l. get_or l 0 0) same in
    let here = (and_parts (not (c == disposition_quote)) (fit_between_disposition_quotes (c == disposition_backslash) one) a).1 in
    let there = (and_parts (not (d == disposition_quote)) (fit_between_disposition_quotes (d == disposition_backslash) other) b).1 in
    let left = one_string (c == disposition_backslash) one other rest more (ap (drop 1) same) here (subst (λ x. fit_between_disposition_quotes (x == disposition_backslash) other ≡ true) (sym first) there) in
    (λ i. first i ∷ left.0 i, left.1)

pub TakesDispositionString-same : {text one rest other more : List ℕ} → TakesDispositionString text one rest → TakesDispositionString text other more → (one ≡ other) × (rest ≡ more)
TakesDispositionString-same {text} {one} {rest} {other} {more} a b = one_string false one other rest more (ap (drop 1) (sym a.parts ∙ b.parts)) a.fit b.fit

-- a string is no token
no_token : {text inner rest token more : List ℕ} → TakesDispositionString text inner rest → ¬ TakesDispositionToken text token more
no_token {text} a b =
    let none : length (take (prefix_len is_disposition_token_byte text) text) ≡ 0 = ap (λ l. length (take (prefix_len is_disposition_token_byte l) l)) a.parts in
    omega (arith, b.some, ap length b.token_is, none)

-- no value is in a text that begins with no quote and no token
pub no_value : {A : Type 0} (text : List ℕ) (r : Option A) → ((rest : List ℕ) → text ≢ disposition_quote ∷ rest) → IfNone r ((token rest : List ℕ) → ¬ TakesDispositionToken text token rest)
    → IfNone r ((value rest : List ℕ) → ¬ TakesDispositionValue text value rest)
no_value text None none nor = λ value rest is. elim is [ inl token ↦ nor value rest token | inr string ↦ none _ string.parts ]
no_value text (Some x) none nor = tt

TakesDispositionValue-same : {text one rest other more : List ℕ} → TakesDispositionValue text one rest → TakesDispositionValue text other more → (one ≡ other) × (rest ≡ more)
TakesDispositionValue-same (inl a) (inl b) = TakesDispositionToken-same a b
TakesDispositionValue-same (inl a) (inr b) = absurd (no_token b a)
TakesDispositionValue-same (inr a) (inl b) = absurd (no_token a b)
TakesDispositionValue-same (inr a) (inr b) = TakesDispositionString-same a b

pub TakesDispositionParameter-same : {text rest more : List ℕ} {one other : DispositionParameter} → TakesDispositionParameter text one rest → TakesDispositionParameter text other more
    → (one ≡ other) × (rest ≡ more)
TakesDispositionParameter-same {text} {rest} {more} {one} {other} a b =
    let names = TakesDispositionToken-same a.name b.name in
    let signs = TakesDispositionSign-same (subst (λ l. TakesDispositionSign l a.after_sign) names.1 a.sign) b.sign in
    let values = TakesDispositionValue-same (subst (λ l. TakesDispositionValue l one.value rest) signs a.value) b.value in
    (λ i. record { name = names.0 i; value = values.0 i }, values.1)

-- no parameter is in what is between parameters
not_nothing : (text : List ℕ) {rest : List ℕ} {parameter : DispositionParameter} → without_disposition_separators text ≡ []
    → ¬ TakesDispositionParameter (without_disposition_separators text) parameter rest
not_nothing text {rest} {parameter} none is =
    let nothing = subst (λ l. TakesDispositionParameter l parameter rest) none is in omega (arith, nothing.name.some, ap length nothing.name.token_is)

are_same : (ones others : List DispositionParameter) (text : List ℕ) → AreDispositionParameters ones text → AreDispositionParameters others text → ones ≡ others
are_same [] [] text a b = refl
are_same [] (other ∷ others) text a b = absurd (not_nothing text a b.2)
are_same (one ∷ ones) [] text a b = absurd (not_nothing text b a.2)
are_same (one ∷ ones) (other ∷ others) text a b =
    let here = TakesDispositionParameter-same a.2 b.2 in
    let left = are_same ones others b.0 (subst (AreDispositionParameters ones) here.1 a.3) b.3 in
    λ i. here.0 i ∷ left i

-- ---- one parameter of a name

module _ (name : List ℕ) where
  abbrev Named : DispositionParameter → Type 0
  Named parameter = IsDispositionNamed name parameter

  abbrev Other : DispositionParameter → Type 0
  Other parameter = ¬ IsDispositionNamed name parameter

  first_named : (before front : List DispositionParameter) (one other : DispositionParameter) (after back : List DispositionParameter) → before ++ one ∷ after ≡ front ++ other ∷ back
      → All Other before → All Other front → Named one → Named other → (one ≡ other) × (after ≡ back)
  first_named [] [] one other after back same none nor a b = (ap (λ l. get_or l 0 one) same, ap (drop 1) same)
  first_named [] (x ∷ front) one other after back same none nor a b =
      let first : one ≡ x = ap (λ l. get_or l 0 one) same in absurd (All-head Other x front nor (subst Named first a))
  first_named (x ∷ before) [] one other after back same none nor a b =
      let first : x ≡ other = ap (λ l. get_or l 0 x) same in absurd (All-head Other x before none (subst Named (sym first) b))
  first_named (x ∷ before) (y ∷ front) one other after back same none nor a b =
      first_named before front one other after back (ap (drop 1) same) (All-tail Other x before none) (All-tail Other y front nor) a b

  -- a list has one value of the name
  one_value : {parameters : List DispositionParameter} {value other : List ℕ} → HasOneDispositionNamed name parameters value → HasOneDispositionNamed name parameters other → value ≡ other
  one_value a b =
      let same = first_named a.before b.before a.parameter b.parameter a.after b.after (sym a.parts ∙ b.parts) a.none_before b.none_before a.named b.named in
      a.value_is ∙ ap (λ (p : DispositionParameter). p.value) same.0 ∙ sym b.value_is

-- what was read so far of a disposition, and what is left
pub record ReadDispositionSoFar (text : List ℕ) (seen : List DispositionParameter) (rest : List ℕ) : Type 0 where
  pub kind : List ℕ
  pub start : List ℕ
  pub kind_is : TakesDispositionToken (without_header_blanks text) kind start
  pub forward : (others : List DispositionParameter) → AreDispositionParameters others rest → AreDispositionParameters (seen ++ others) start
  pub back : (all : List DispositionParameter) → AreDispositionParameters all start → (others : List DispositionParameter) × (all ≡ seen ++ others) × AreDispositionParameters others rest

pub read_kind : {text kind start : List ℕ} → TakesDispositionToken (without_header_blanks text) kind start → ReadDispositionSoFar text [] start
read_kind {text} {kind} {start} is = record { kind = kind; start = start; kind_is = is; forward = λ others are. are; back = λ all are. (all, refl, are) }

module _ {text rest : List ℕ} (seen : List DispositionParameter) (so_far : ReadDispositionSoFar text seen rest) where
  -- what is left in a disposition that begins so
  left_of : (all : List DispositionParameter) → IsDisposition text all → (others : List DispositionParameter) × (all ≡ seen ++ others) × AreDispositionParameters others rest
  left_of all is = so_far.back all (subst (AreDispositionParameters all) (TakesDispositionToken-same is.kind_is so_far.kind_is).1 is.are)

  module _ (none : without_disposition_separators rest ≡ []) where
    -- nothing is left
    pub read_whole : IsDisposition text seen
    read_whole = record {
      kind = so_far.kind;
      rest = so_far.start;
      kind_is = so_far.kind_is;
      are = subst (λ l. AreDispositionParameters l so_far.start) (append-nil seen) (so_far.forward [] none);
    }

    pub whole_is : (all : List DispositionParameter) → IsDisposition text all → all ≡ seen
    whole_is all is = let left = left_of all is in left.1 ∙ ap (λ l. seen ++ l) (are_same left.0 [] rest left.2 none) ∙ append-nil seen

  module _ (some : without_disposition_separators rest ≢ []) where
    -- no semicolon comes next, or no parameter after it
    pub lacks_next : (¬ BeginsWithSemicolon rest) ⊎ ((parameter : DispositionParameter) (more : List ℕ) → ¬ TakesDispositionParameter (without_disposition_separators rest) parameter more)
        → (all : List DispositionParameter) → ¬ IsDisposition text all
    lacks_next none all is = let left = left_of all is in lacks none left.0 left.2
      where
        lacks : (¬ BeginsWithSemicolon rest) ⊎ ((parameter : DispositionParameter) (more : List ℕ) → ¬ TakesDispositionParameter (without_disposition_separators rest) parameter more)
            → (others : List DispositionParameter) → AreDispositionParameters others rest → ⊥
        lacks none [] are = some are
        lacks (inl none) (one ∷ others) are = none are.1
        lacks (inr none) (one ∷ others) are = none one are.0 are.2

    -- a parameter comes next
    module _ (begins : BeginsWithSemicolon rest) {more : List ℕ} {parameter : DispositionParameter} (is : TakesDispositionParameter (without_disposition_separators rest) parameter more) where
      next_is : (others : List DispositionParameter) → AreDispositionParameters others rest
          → (left : List DispositionParameter) × (others ≡ parameter ∷ left) × AreDispositionParameters left more
      next_is [] are = absurd (some are)
      next_is (one ∷ others) are =
          let here = TakesDispositionParameter-same are.2 is in
          (others, ap (λ p. p ∷ others) here.0, subst (AreDispositionParameters others) here.1 are.3)

      pub read_more : ReadDispositionSoFar text (seen ++ parameter ∷ []) more
      read_more = record {
        kind = so_far.kind;
        start = so_far.start;
        kind_is = so_far.kind_is;
        forward = λ others are. subst (λ l. AreDispositionParameters l so_far.start) (sym (append_assoc seen (parameter ∷ []) others)) (so_far.forward (parameter ∷ others) (more, begins, is, are));
        back = λ all are.
            let left = so_far.back all are in
            let next = next_is left.0 left.2 in
            (next.0, left.1 ∙ ap (λ l. seen ++ l) next.1 ∙ sym (append_assoc seen (parameter ∷ []) next.0), next.2);
      }

      -- the parameter is the second of a name
      pub not_two : (name : List ℕ) {one : List ℕ} → HasOneDispositionNamed name seen one → IsDispositionNamed name parameter → (value : List ℕ) → ¬ HasDispositionParameter name text value
      not_two name known named value has =
          let left = left_of has.parameters has.is in
          let next = next_is left.0 left.2 in
          let parts : has.one.before ++ has.one.parameter ∷ has.one.after ≡ known.before ++ known.parameter ∷ (known.after ++ parameter ∷ next.0) =
          sym has.one.parts ∙ left.1 ∙ (λ i. known.parts i ++ next.1 i) ∙ append_assoc known.before (known.parameter ∷ known.after) (parameter ∷ next.0) in
          let same = first_named name has.one.before known.before has.one.parameter known.parameter has.one.after (known.after ++ parameter ∷ next.0) parts has.one.none_before known.none_before has.one.named known.named in
          All-middle (Other name) known.after parameter next.0 (subst (All (Other name)) same.1 has.one.none_after) named

pub HasDispositionParameter-same : SameDispositionParameterLaw
HasDispositionParameter-same name text value other a b =
    let same = whole a.parameters b.parameters a.is b.is in
    one_value name (subst (λ l. HasOneDispositionNamed name l value) same a.one) b.one
  where
    whole : (one other : List DispositionParameter) → IsDisposition text one → IsDisposition text other → one ≡ other
    whole one other a b = are_same one other b.rest (subst (AreDispositionParameters one) (TakesDispositionToken-same a.kind_is b.kind_is).1 a.are) b.are

-- ---- the parameters that were seen

-- none of these has the name, or one has it, and this value
abbrev pub SeenDispositionNamed : List ℕ → List DispositionParameter → Option (List ℕ) → Type 0
SeenDispositionNamed name seen found = MatchOption found (All (λ other. ¬ IsDispositionNamed name other) seen) (λ value. HasOneDispositionNamed name seen value)

module _ (name : List ℕ) (seen : List DispositionParameter) (parameter : DispositionParameter) where
  pub seen_first : SeenDispositionNamed name seen None → IsDispositionNamed name parameter → SeenDispositionNamed name (seen ++ parameter ∷ []) (Some parameter.value)
  seen_first none named = record {
    before = seen;
    parameter = parameter;
    after = [];
    parts = refl;
    none_before = none;
    named = named;
    none_after = All-nil (λ other. ¬ IsDispositionNamed name other);
    value_is = refl;
  }

  pub seen_other : (found : Option (List ℕ)) → SeenDispositionNamed name seen found → (¬ IsDispositionNamed name parameter) → SeenDispositionNamed name (seen ++ parameter ∷ []) found
  seen_other None none other = All-push (λ other. ¬ IsDispositionNamed name other) seen parameter none other
  seen_other (Some value) one other = record {
    before = one.before;
    parameter = one.parameter;
    after = one.after ++ parameter ∷ [];
    parts = ap (λ l. l ++ parameter ∷ []) one.parts ∙ append_assoc one.before (one.parameter ∷ one.after) (parameter ∷ []);
    none_before = one.none_before;
    named = one.named;
    none_after = All-push (λ other. ¬ IsDispositionNamed name other) one.after parameter one.none_after other;
    value_is = one.value_is;
  }

-- none of all the parameters has the name
pub none_named : (name : List ℕ) (seen : List DispositionParameter) (value : List ℕ) → All (λ other. ¬ IsDispositionNamed name other) seen → ¬ HasOneDispositionNamed name seen value
none_named name seen value none one = All-middle (λ other. ¬ IsDispositionNamed name other) one.before one.parameter one.after (subst (All (λ other. ¬ IsDispositionNamed name other)) one.parts none) one.named

pub seen_some : (name : List ℕ) (seen : List DispositionParameter) (found : Option (Bor (List ℕ))) → is_some found ≡ true → SeenDispositionNamed name seen (option_map (λ value. value.now) found)
    → (one : List ℕ) × HasOneDispositionNamed name seen one
seen_some name seen None is known = absurd (false≢true is)
seen_some name seen (Some value) is known = (value.now, known)

pub seen_none : (name : List ℕ) (seen : List DispositionParameter) (found : Option (Bor (List ℕ))) → is_some found ≡ false → SeenDispositionNamed name seen (option_map (λ value. value.now) found)
    → All (λ other. ¬ IsDispositionNamed name other) seen
seen_none name seen None is known = known
seen_none name seen (Some value) is known = absurd (false≢true (sym is))

-- what was found in all parameters
module _ (name text : List ℕ) (seen : List DispositionParameter) where
  pub found_named : (found : Option (Bor (List ℕ))) → IsDisposition text seen → SeenDispositionNamed name seen (option_map (λ value. value.now) found)
      → IfSome found (λ value. HasDispositionParameter name text value.now)
  found_named None is known = tt
  found_named (Some value) is known = record { parameters = seen; is = is; one = known }

  pub found_none : (found : Option (Bor (List ℕ))) → ((all : List DispositionParameter) → IsDisposition text all → all ≡ seen) → SeenDispositionNamed name seen (option_map (λ value. value.now) found)
      → IfNone found ((value : List ℕ) → ¬ HasDispositionParameter name text value)
  found_none None whole known = λ value has. none_named name seen value known (subst (λ l. HasOneDispositionNamed name l value) (whole has.parameters has.is) has.one)
  found_none (Some value) whole known = tt
