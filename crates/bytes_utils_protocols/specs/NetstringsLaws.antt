-- The facts of the decoder of netstrings.
use Rattle.std.proofs.Common.{◌≡◌, ℕ, zero, suc, ◌≤◌, List, [], ◌∷◌, ◌++◌, length, take, get_or, drop_at, refl, ap, ◌∙◌, sym, subst, arith, append_assoc, length-append, ⊎_elim}
use Rattle.std.proofs.lemmas.List.{append_cancel_left}
use Rattle.std.proofs.lemmas.Str.Parse.{digit_from_value}
use Rattle.std.specs.Str.Parse.{AllDigits, digits_value}
use Rattle.bytes_utils.specs.Occurrence.{OccursAt}
use Rattle.bytes_utils_codec.specs.Decoding.{fed}
use Rattle.bytes_utils_codec.specs.Frames.{TakesFrame}
use Rattle.bytes_utils_codec.specs.Taking.{AreTaken}
use Rattle.bytes_utils_codec.proofs.FramesLemmas.{TakesFrame-same}
use Rattle.bytes_utils.proofs.Joins.{append_same}
use Rattle.bytes_utils_protocols.specs.Digits.{colon}
use Rattle.bytes_utils_protocols.specs.Netstrings.{BeginsNetstring, BeginsNetstringWithin, awaits_netstring, netstring_comma, takes_netstring}

colon_first : (digits rest : List ℕ) → AllDigits 10 digits → (j : ℕ) → OccursAt (colon ∷ []) (digits ++ (colon ∷ rest)) j → length digits ≤ j
colon_first [] rest are j here = omega arith
colon_first (c ∷ digits) rest are zero here = absurd (omega (arith, ap (λ l. get_or l 0 0) here, digit_from_value c are.0))
colon_first (c ∷ digits) rest are (suc j) here = omega (arith, colon_first digits rest are.1 j here)

-- the digits of a length are the bytes before the first colon
pub framed_length : (bytes : List ℕ) (len : ℕ) (after : List ℕ) → (begins : BeginsNetstring bytes len after) → TakesFrame (colon ∷ []) bytes begins.digits after
framed_length bytes len after begins =
    let digits = begins.digits in
    subst (λ l. TakesFrame (colon ∷ []) l digits after) (sym begins.are) (record {
      bytes = refl;
      first = record { here = ap (take 1) (drop_at digits (colon ∷ after) (length digits) refl); none_before = colon_first digits after begins.writes.0.1 };
    })

-- so bytes begin with one length
pub one_length : (bytes : List ℕ) (len other : ℕ) (x y : List ℕ) → BeginsNetstring bytes len x → BeginsNetstring bytes other y → (len ≡ other) × (x ≡ y)
one_length bytes len other x y a b =
    let same = TakesFrame-same (colon ∷ []) bytes a.digits b.digits x y (framed_length bytes len x a) (framed_length bytes other y b) in
    (sym a.writes.1 ∙ ap (digits_value 10) same.0 ∙ b.writes.1, same.1)

-- and it stays when more bytes come
pub length_stays : (limit : ℕ) (bytes : List ℕ) (len : ℕ) (after more : List ℕ) → BeginsNetstringWithin limit bytes len after
    → BeginsNetstringWithin limit (bytes ++ more) len (after ++ more)
length_stays limit bytes len after more begins = (
  record {
    digits = begins.0.digits;
    writes = begins.0.writes;
    are = ap (λ l. l ++ more) begins.0.are ∙ append_assoc begins.0.digits (colon ∷ after) more;
  },
  begins.1,
  begins.2,
)

pub netstring_facts : AreTaken takes_netstring awaits_netstring
netstring_facts = record {
  more = λ old text new more takes. (
    ap (λ s. fed s more) takes.0,
    subst (BeginsNetstringWithin old.decoder.max_length (old.held ++ more) (length text)) (append_assoc text (netstring_comma ∷ new.held) more)
        (length_stays old.decoder.max_length old.held (length text) (text ++ (netstring_comma ∷ new.held)) more takes.1),
  );
  same = λ s f g x y a b.
      let same = one_length s.held (length f) (length g) (f ++ (netstring_comma ∷ x.held)) (g ++ (netstring_comma ∷ y.held)) a.1.0 b.1.0 in
      let texts = append_same f g (netstring_comma ∷ x.held) (netstring_comma ∷ y.held) same.0 same.1 in
      (texts.0, a.0 ∙ ap (λ l. record s { held = l }) (append_cancel_left (netstring_comma ∷ []) x.held y.held texts.1) ∙ sym b.0);
  lacks = λ s waits text after takes. ⊎_elim
      (λ none. none.0 (length takes.1.0.digits, (framed_length s.held (length text) (text ++ (netstring_comma ∷ after.held)) takes.1.0).first.here))
      (λ begun. let same = one_length s.held begun.0 (length text) begun.1 (text ++ (netstring_comma ∷ after.held)) begun.2.0 takes.1.0 in
      omega (arith, begun.3, same.0, ap length same.1, length-append text (netstring_comma ∷ after.held))) waits;
}
