-- What `utf8_lossy` makes of a text, of a fault and of an unfinished character at the start of bytes.
use Rattle.std.proofs.Common.{◌≡◌, ℕ, ◌+◌, ◌-◌, ◌<◌, ◌≤◌, List, [], ◌++◌, length, take, drop, None, Some, IsUtf8, arith, ⊎_elim, ap, ◌∙◌, sym, subst, append_assoc, length-append, take_all, zero-add}
use Rattle.std.proofs.Math.ListN.{drop_of_length-le}
use Rattle.std.proofs.Math.Seq.{take-append-add, drop-append-add}
use Rattle.std.proofs.lemmas.Bool.{cases_lt}
use Rattle.std.proofs.lemmas.List.{take-append-le, drop-append-le}
use Rattle.std.proofs.lemmas.Str.{IsUtf8-append, utf8_lossy-IsUtf8, utf8_lossy_step, utf8_valid_len-IsValidUpTo}
use Rattle.std.specs.Option.{unwrap_or}
use Rattle.std.specs.Str.Lossy.{utf8_valid_len, utf8_error_len, utf8_invalid_len, after_first_chunk, replacement_bytes, utf8_lossy}
use Rattle.bytes_utils_codec.specs.TextReading.{IsFaultyText}
use Rattle.bytes_utils_codec.proofs.CharacterBegins.{faulty}
use Rattle.bytes_utils_codec.proofs.FaultLen.{fault_more, fault_some, fault_within, fault_of_four}
use Rattle.bytes_utils_codec.proofs.ValidLen.{behind_text, front, no_front, none_longer}

the_sum : (n m : ℕ) → n < m → m ≡ n + (m - n)
the_sum n m less = omega arith

-- the longest text at the start of a text and bytes that aren't UTF-8
valid_after : (text rest : List ℕ) → IsUtf8 text → utf8_valid_len rest < length rest → utf8_valid_len (text ++ rest) ≡ length text + utf8_valid_len rest
valid_after text rest utf8 faulty =
    let n = length text in
    let v = utf8_valid_len rest in
    utf8_valid_len-IsValidUpTo (text ++ rest) (n + v) (record {
      short = omega (arith, faulty, length-append text rest);
      front = subst IsUtf8 (sym (take-append-add text rest v)) (IsUtf8-append text (take v rest) utf8 (front rest));
      longest = λ m longer u.
          let j = m - n in
          let split : take m (text ++ rest) ≡ text ++ take j rest
          = ap (λ k. take k (text ++ rest)) (the_sum n m (omega (arith, longer))) ∙ take-append-add text rest j in
          let more : IsUtf8 (take j rest) = behind_text text (take j rest) (take m (text ++ rest)) split utf8 u in
          ⊎_elim
          (λ (past : length rest < j).
          let whole : take j rest ≡ take (length rest) rest = take_all j rest (omega (arith, past)) ∙ sym (take_all (length rest) rest (omega arith)) in
          none_longer rest (length rest) faulty (omega arith) (subst IsUtf8 whole more))
          (λ (within : j ≤ length rest). none_longer rest j (omega (arith, longer)) within more)
          (cases_lt (length rest) j);
    })

-- a text stays, and the bytes after it give what they give alone
pub lossy_text : (text rest : List ℕ) → IsUtf8 text → utf8_lossy (text ++ rest) ≡ text ++ utf8_lossy rest
lossy_text text rest utf8 =
    let bs = text ++ rest in
    let v = utf8_valid_len rest in
    let size = length-append text rest in
    ⊎_elim
    (λ (faulty : v < length rest).
    let len : utf8_valid_len bs ≡ length text + v = valid_after text rest utf8 faulty in
    let skipped = utf8_invalid_len (drop v rest) in
    let first : take (utf8_valid_len bs) bs ≡ text ++ take v rest = ap (λ m. take m bs) len ∙ take-append-add text rest v in
    let after : after_first_chunk bs ≡ after_first_chunk rest
    = ap (λ m. drop (m + utf8_invalid_len (drop m bs)) bs) len
    ∙ ap (λ l. drop (length text + v + utf8_invalid_len l) bs) (drop-append-add text rest v)
    ∙ ap (λ m. drop m bs) (sum (length text) v skipped)
    ∙ drop-append-add text rest (v + skipped) in
    utf8_lossy_step bs (λ e. omega (arith, e, len, size, faulty))
    ∙ (λ i. first i ++ (replacement_bytes ++ utf8_lossy (after i)))
    ∙ append_assoc text (take v rest) _
    ∙ ap (λ l. text ++ l) (sym (utf8_lossy_step rest (λ e. omega (arith, e, faulty)))))
    (λ (whole : length rest ≤ v).
    let u : IsUtf8 rest = subst IsUtf8 (take_all v rest whole) (front rest) in
    utf8_lossy-IsUtf8 bs (IsUtf8-append text rest utf8 u) ∙ ap (λ l. text ++ l) (sym (utf8_lossy-IsUtf8 rest u)))
    (cases_lt v (length rest))
  where
    sum : (a b c : ℕ) → (a + b) + c ≡ a + (b + c)
    sum a b c = omega arith

-- bytes that begin with no text give U+FFFD for the first of them
no_text : (bs : List ℕ) → utf8_valid_len bs ≡ 0 → 0 < length bs → utf8_lossy bs ≡ replacement_bytes ++ utf8_lossy (drop (utf8_invalid_len bs) bs)
no_text bs none some =
    let after : after_first_chunk bs ≡ drop (utf8_invalid_len bs) bs
    = ap (λ m. drop (m + utf8_invalid_len (drop m bs)) bs) none ∙ ap (λ m. drop m bs) (zero-add (utf8_invalid_len bs)) in
    utf8_lossy_step bs (λ e. omega (arith, e, none, some)) ∙ (λ i. take (none i) bs ++ (replacement_bytes ++ utf8_lossy (after i)))

pub lossy_fault : (bs : List ℕ) (n : ℕ) → utf8_valid_len bs ≡ 0 → utf8_error_len bs ≡ Some n → utf8_lossy bs ≡ replacement_bytes ++ utf8_lossy (drop n bs)
lossy_fault bs n none is =
    no_text bs none (omega (arith, fault_some bs n is, fault_within bs n is))
    ∙ ap (λ o. replacement_bytes ++ utf8_lossy (drop (unwrap_or o (length bs)) bs)) is

-- no text begins there, whatever follows
pub none_more : (bs following : List ℕ) → utf8_valid_len bs ≡ 0 → IsFaultyText bs → utf8_valid_len (bs ++ following) ≡ 0
none_more bs following none faulty =
    let all = bs ++ following in
    let m = utf8_valid_len all in
    ⊎_elim
    (λ (some : 0 < m). ⊎_elim
    (λ (past : length bs < m).
    let split : take m all ≡ bs ++ take (m - length bs) following
    = ap (λ k. take k all) (the_sum (length bs) m past) ∙ take-append-add bs following (m - length bs) in
    absurd (faulty (take (m - length bs) following) (subst IsUtf8 split (front all))))
    (λ (within : m ≤ length bs). absurd (no_front bs none m some within (subst IsUtf8 (take-append-le m bs following within) (front all))))
    (cases_lt (length bs) m))
    (λ (zero : m ≤ 0). omega (arith, zero))
    (cases_lt 0 m)

-- a fault gives one U+FFFD, whatever follows
pub lossy_fault_more : (bs following : List ℕ) (n : ℕ) → utf8_valid_len bs ≡ 0 → utf8_error_len bs ≡ Some n
    → utf8_lossy (bs ++ following) ≡ replacement_bytes ++ utf8_lossy (drop n bs ++ following)
lossy_fault_more bs following n none is =
    let still : utf8_valid_len (bs ++ following) ≡ 0 = none_more bs following none (faulty bs none (fault_of_four bs n is)) in
    lossy_fault (bs ++ following) n still (fault_more bs following n is)
    ∙ ap (λ l. replacement_bytes ++ utf8_lossy l) (drop-append-le n bs following (fault_within bs n is))

-- an unfinished character gives one U+FFFD at the end of the stream
pub lossy_unfinished : (bs : List ℕ) → utf8_valid_len bs ≡ 0 → utf8_error_len bs ≡ None → 0 < length bs → utf8_lossy bs ≡ replacement_bytes ++ utf8_lossy []
lossy_unfinished bs none is some =
    no_text bs none some
    ∙ ap (λ o. replacement_bytes ++ utf8_lossy (drop (unwrap_or o (length bs)) bs)) is
    ∙ ap (λ l. replacement_bytes ++ utf8_lossy l) (drop_of_length-le bs (omega arith))
