-- The laws of the decoder of lines.
use Rattle.std.proofs.Common.{◌≡◌, ℕ, Bool, true, false, List, [], ◌∷◌, length, drop, Option, Result, Ok, Err, None, Some, inl, inr, ap, ◌∙◌, sym, refl, subst, arith}
use Rattle.std.proofs.lemmas.List.{append_cancel_right}
use Rattle.std.specs.Str.{valid_up_to, error_len}
use Rattle.std.specs.Str.Lossy.{utf8_error_len}
use Rattle.bytes_utils.specs.Errors.{utf8_error_fault, utf8_error_storage}
use Rattle.bytes_utils.specs.Lines.{IsWithoutReturn, carriage_return}
use Rattle.bytes_utils_codec.specs.Decoding.{Decoding, Item, Last, fed, IsStable, IsSingle, WaitsForItem, KeepsNext, Next}
use Rattle.bytes_utils_codec.specs.Delimited.{Delimiting, gives_delimited}
use Rattle.bytes_utils_codec.specs.DelimitedLaws.{delimited_same, delimited_single, delimited_stable, delimited_waits, delimited_keeps_threshold}
use Rattle.bytes_utils_codec.specs.LineReading.{AwaitsLine, IsLastLineOf, IsLineOf, IsTextLineItem, LineItem, LineReading, frames_of_lines, gives_line, keeps_line}
use Rattle.bytes_utils_codec.specs.declared.decode.too_long.FrameTooLong.{FrameTooLong}
use Rattle.bytes_utils_codec.specs.declared.decode.lines.LineFault.TheVariants.{NotUtf8, TooLong}

-- ---- one item for the same bytes

pub IsTextLineItem-same : (lossy : Bool) (x y : LineItem) (bytes : List ℕ) → IsTextLineItem lossy x bytes → IsTextLineItem lossy y bytes → x ≡ y
IsTextLineItem-same true (Ok a) (Ok b) bytes s t = ap Ok (s ∙ sym t)
IsTextLineItem-same true (Ok a) (Err f) bytes s t = absurd t
IsTextLineItem-same true (Err e) y bytes s t = absurd s
IsTextLineItem-same false (Ok a) (Ok b) bytes s t = ap Ok (s.0 ∙ sym t.0)
IsTextLineItem-same false (Ok a) (Err (NotUtf8 f)) bytes s t = absurd (t.1 s.1)
IsTextLineItem-same false (Err (NotUtf8 e)) (Ok b) bytes s t = absurd (s.1 t.1)
IsTextLineItem-same false (Err (NotUtf8 e)) (Err (NotUtf8 f)) bytes s t =
    let storage : utf8_error_storage e ≡ utf8_error_storage f = s.0 ∙ sym t.0 in
    let valid : valid_up_to (utf8_error_fault e) ≡ valid_up_to (utf8_error_fault f) = s.2.0 ∙ sym t.2.0 in
    let len : error_len (utf8_error_fault e) ≡ error_len (utf8_error_fault f) = s.2.1 ∙ ap (λ n. utf8_error_len (drop n bytes)) valid ∙ sym t.2.1 in
    (λ i. Err (NotUtf8 (record { storage = storage i; fault = record { valid_up_to = valid i; error_len = len i } })))
IsTextLineItem-same false (Err TooLong) y bytes s t = absurd s
IsTextLineItem-same false x (Err TooLong) bytes s t = absurd t

IsWithoutReturn-same : (x y t : List ℕ) → IsWithoutReturn x t → IsWithoutReturn y t → x ≡ y
IsWithoutReturn-same x y t (inl a) (inl b) = append_cancel_right x y (carriage_return ∷ []) (sym a ∙ b)
IsWithoutReturn-same x y t (inl a) (inr b) = absurd (b.1 x a)
IsWithoutReturn-same x y t (inr a) (inl b) = absurd (a.1 y b)
IsWithoutReturn-same x y t (inr a) (inr b) = sym a.0 ∙ b.0

IsLineOf-same : (lossy : Bool) (x y : LineItem) (frame : Result (List ℕ) FrameTooLong) → IsLineOf lossy x frame → IsLineOf lossy y frame → x ≡ y
IsLineOf-same lossy x y (Ok frame) s t =
    let lines : s.0 ≡ t.0 = IsWithoutReturn-same s.0 t.0 frame s.1 t.1 in
    IsTextLineItem-same lossy x y t.0 (subst (IsTextLineItem lossy x) lines s.2) t.2
IsLineOf-same lossy x y (Err over) s t = s ∙ sym t

pub IsLastLineOf-same : (lossy : Bool) (x y : Option LineItem) (bytes : List ℕ) → IsLastLineOf lossy x bytes → IsLastLineOf lossy y bytes → x ≡ y
IsLastLineOf-same lossy None None bytes s t = refl
IsLastLineOf-same lossy None (Some y) bytes s t = absurd (omega (arith, ap length s, t.0))
IsLastLineOf-same lossy (Some x) None bytes s t = absurd (omega (arith, ap length t, s.0))
IsLastLineOf-same lossy (Some x) (Some y) bytes s t = ap Some (IsTextLineItem-same lossy x y bytes s.1 t.1)

-- ---- the four laws

pub line_stable : IsStable gives_line
line_stable old item new more given = (given.0, delimited_stable (frames_of_lines old) given.0 (frames_of_lines new) more given.1, given.2, given.3)

pub line_waits : WaitsForItem gives_line AwaitsLine
line_waits s awaits item after given = delimited_waits (frames_of_lines s) awaits given.0 (frames_of_lines after) given.1

-- no item is there if the stream may end
not_both : (s : Decoding LineReading) (item : LineItem) (last : Option LineItem) (x y : Decoding LineReading)
    → gives_line s (Item item) x → gives_line s (Last last) y → ⊥
not_both s item last x y a b =
    let same = delimited_single (frames_of_lines s) (Item a.0) (Last None) (frames_of_lines x) b.1.0 a.1 b.1.1 in
    cc (same.0)

pub line_single : IsSingle gives_line
line_single s (Item m) (Item n) x y a b =
    let same = delimited_single (frames_of_lines s) (Item a.0) (Item b.0) (frames_of_lines x) (frames_of_lines y) a.1 b.1 in
    let frames : a.0 ≡ b.0 = cc (same.0) in
    let lossy : x.decoder.lossy ≡ y.decoder.lossy = a.3 ∙ sym b.3 in
    let rest = same.1 in (
      ap Item (IsLineOf-same s.decoder.lossy m n b.0 (subst (IsLineOf s.decoder.lossy m) frames a.2) b.2),
      (λ i. record { decoder = record { frames = (rest i).decoder; lossy = lossy i }; held = (rest i).held; threshold = (rest i).threshold }),
    )
line_single s (Item m) (Last n) x y a b = absurd (not_both s m n x y a b)
line_single s (Last m) (Item n) x y a b = absurd (not_both s n m y x b a)
line_single s (Last m) (Last n) x y a b =
    let same = delimited_single (frames_of_lines s) (Last None) (Last None) a.1.0 b.1.0 a.1.1 b.1.1 in
    let mids : a.1.0 ≡ b.1.0 = same.1 in
    let bytes : a.0 ≡ b.0 = sym a.1.2 ∙ ap (λ (d : Decoding Delimiting). d.held) mids ∙ b.1.2 in (
      ap Last (IsLastLineOf-same s.decoder.lossy m n b.0 (subst (IsLastLineOf s.decoder.lossy m) bytes a.2) b.2),
      a.1.3 ∙ (λ i. record s { decoder = record s.decoder { frames = (mids i).decoder }; held = [] }) ∙ sym b.1.3,
    )

-- two states whose frames give the same
line_next : (s t : Decoding LineReading)
    → ((next : Next (Result (List ℕ) FrameTooLong)) (after : Decoding Delimiting)
    → gives_delimited (frames_of_lines s) next after → gives_delimited (frames_of_lines t) next after)
    → s.decoder.lossy ≡ t.decoder.lossy → s.threshold ≡ t.threshold → (next : Next LineItem) (after : Decoding LineReading)
    → gives_line s next after → gives_line t next after
line_next s t there lossy threshold (Item item) after g =
    (g.0, there (Item g.0) (frames_of_lines after) g.1, subst (λ b. IsLineOf b item g.0) lossy g.2, g.3 ∙ lossy)
line_next s t there lossy threshold (Last last) after (bytes, (mid, ends, held, is), given) = (
  bytes,
  (
    mid,
    there (Last None) mid ends,
    held,
    is ∙ (λ i. record { decoder = record { frames = mid.decoder; lossy = lossy i }; held = []; threshold = threshold i }),
  ),
  subst (λ b. IsLastLineOf b last bytes) lossy given,
)

pub line_same : KeepsNext gives_line keeps_line
line_same old new keeps more next after =
    let same = delimited_same (frames_of_lines old) (frames_of_lines new) keeps.0 more in
    let threshold : new.threshold ≡ old.threshold = delimited_keeps_threshold (frames_of_lines old) (frames_of_lines new) keeps.0 in (
      line_next (fed old more) (fed new more) (λ n a. (same n a).0) (sym keeps.1) (sym threshold) next after,
      line_next (fed new more) (fed old more) (λ n a. (same n a).1) keeps.1 threshold next after,
    )
