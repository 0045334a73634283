-- Netstrings, read part by part.
use Rattle.std.proofs.Common.{◌≡◌, ◌≢◌, ℕ, ◌+◌, ◌-◌, ◌<◌, ◌≤◌, ◌^◌, List, [], ◌∷◌, ◌++◌, length, take, drop, decimal, None, Some, ap, ◌∙◌, sym, refl, subst, arith, append_assoc, drop-drop, length-take, take-append-drop}
use Rattle.std.proofs.lemmas.List.{drop-append-le, length-take-le}
use Rattle.std.specs.List.{slice_range}
use Rattle.memchr.specs.Find.{IsFirstByte, is_byte}
use Rattle.bytes_utils_buf.specs.declared.refused.Reason.{Reason}
use Rattle.bytes_utils_buf.specs.declared.refused.Reason.TheVariants.{OutOfMemory, TooLong}
use Rattle.bytes_utils.specs.Occurrence.{Occurs, OccursAt}
use Rattle.bytes_utils.proofs.Boundaries.{OccursAt-fits}
use Rattle.bytes_utils.proofs.NeedleLemmas.{found_by_byte, missed_by_byte}
use Rattle.bytes_utils.proofs.OccurrenceLemmas.{OccursAt-between, OccursAt-front, cut_whole}
use Rattle.bytes_utils_codec.specs.Decoding.{Decoding}
use Rattle.bytes_utils_codec.specs.Frames.{TakesFrame}
use Rattle.bytes_utils_codec.proofs.CursorLemmas.{missed_after}
use Rattle.bytes_utils_codec.proofs.FoundLemmas.{frame_at_front}
use Rattle.bytes_utils_codec.proofs.FramesLemmas.{TakesFrame-more, TakesFrame-same}
use Rattle.bytes_utils_protocols.specs.Digits.{WriteNumber, colon}
use Rattle.bytes_utils_protocols.specs.Netstrings.{BeginsNetstring, BeginsNetstringWithin, HasNetstring, TakesNetstring, TakesNetstringWithin, fails_netstring, netstring_bytes, netstring_comma}
use Rattle.bytes_utils_protocols.specs.NetstringsLaws.{framed_length, length_stays, one_length}
use Rattle.bytes_utils_protocols.specs.declared.netstrings.Netstrings.{Netstrings}
use Rattle.bytes_utils_protocols.specs.declared.netstrings.NetstringError.TheVariants.{Refused}
use Rattle.bytes_utils_protocols.proofs.DigitsLemmas.{WriteNumber-decimal, decimal_short}

-- no colon was found
pub colon_missed : (front : List ℕ) → IsFirstByte (is_byte colon) front None → ¬ Occurs (colon ∷ []) front
colon_missed front missed = missed_after (colon ∷ []) front 0 (omega arith) (missed_by_byte (colon ∷ []) front (omega arith) missed)

-- the first colon was found among the first 21 bytes
module _ (bytes front : List ℕ) (seen : front ≡ take 21 bytes) (at : ℕ) (found : IsFirstByte (is_byte colon) front (Some at)) where
  framed : TakesFrame (colon ∷ []) bytes (take at front) (drop (at + 1) bytes)
  framed =
      let rest = drop 21 bytes in
      let whole : front ++ rest ≡ bytes = ap (λ l. l ++ rest) seen ∙ take-append-drop 21 bytes in
      let needle = found_by_byte (colon ∷ []) front at refl found in
      let of_front = frame_at_front (colon ∷ []) front (Some at) needle in
      subst (λ l. TakesFrame (colon ∷ []) l (take at front) (drop (at + 1) l)) whole
      (subst (TakesFrame (colon ∷ []) (front ++ rest) (take at front)) (sym (drop-append-le (at + 1) front rest (omega (arith, found.0.high))))
      (TakesFrame-more (colon ∷ []) front (take at front) (drop (at + 1) front) rest of_front))

  pub no_number : ((n : ℕ) → ¬ WriteNumber (take at front) n) → (more text rest : List ℕ) → ¬ TakesNetstring (bytes ++ more) text rest
  no_number none more text rest takes =
      let all = TakesFrame-more (colon ∷ []) bytes (take at front) (drop (at + 1) bytes) more framed in
      let same = TakesFrame-same (colon ∷ []) (bytes ++ more) (take at front) takes.digits _ _ all (framed_length (bytes ++ more) (length text) _ takes) in
      none (length text) (subst (λ d. WriteNumber d (length text)) (sym same.0) takes.writes)

  pub length_read : (len : ℕ) → WriteNumber (take at front) len → (begins : BeginsNetstring bytes len (drop (at + 1) bytes)) × (length begins.digits ≤ 20)
  length_read len writes = (
    record { digits = take at front; writes = writes; are = framed.bytes },
    omega (arith, found.0.high, ap length seen, length-take 21 bytes, length-take at front),
  )

-- the byte after the text was looked at
module _ (limit : ℕ) (bytes : List ℕ) (start len : ℕ) (begins : BeginsNetstringWithin limit bytes len (drop start bytes)) where
  looked_at : slice_range bytes (start + len) (start + len + 1) ≡ take 1 (drop len (drop start bytes))
  looked_at =
      let one : start + len + 1 - (start + len) ≡ 1 = omega arith in
      ap (λ n. take n (drop (start + len) bytes)) one ∙ ap (take 1) (sym (drop-drop len start bytes))

  pub whole_text : slice_range bytes (start + len) (start + len + 1) ≡ netstring_comma ∷ []
      → TakesNetstringWithin limit bytes (slice_range bytes start (start + len)) (drop (start + len + 1) bytes)
  whole_text is =
      let after = drop start bytes in
      let here : OccursAt (netstring_comma ∷ []) after len = sym looked_at ∙ is in
      let fits = OccursAt-fits (netstring_comma ∷ []) after len (omega arith) here in
      let text = slice_range bytes start (start + len) in
      let rest = drop (start + len + 1) bytes in
      let its : take len after ≡ text = ap (λ n. take n after) (omega arith) in
      let size : len ≡ length text = sym (length-take-le len after (omega (arith, fits))) ∙ ap length its in
      let left : drop (len + 1) after ≡ rest = drop-drop (len + 1) start bytes ∙ ap (λ n. drop n bytes) (omega arith) in
      let whole : after ≡ text ++ (netstring_comma ∷ rest) =
      sym (cut_whole (netstring_comma ∷ []) after len here) ∙ ap (λ l. l ++ (netstring_comma ∷ drop (len + 1) after)) its
      ∙ ap (λ l. text ++ (netstring_comma ∷ l)) left in
      subst (λ n. BeginsNetstringWithin limit bytes n (text ++ (netstring_comma ∷ rest))) size (subst (BeginsNetstringWithin limit bytes len) whole begins)

  pub wrong_comma : slice_range bytes (start + len) (start + len + 1) ≢ netstring_comma ∷ [] → len < length (drop start bytes)
      → (more text rest : List ℕ) → ¬ TakesNetstring (bytes ++ more) text rest
  wrong_comma other some more text rest takes =
      let after = drop start bytes in
      let comma = netstring_comma ∷ [] in
      let same = one_length (bytes ++ more) len (length text) (after ++ more) (text ++ (netstring_comma ∷ rest)) (length_stays limit bytes len after more begins).0 takes in
      let there : OccursAt comma (after ++ more) len =
      subst (λ l. OccursAt comma l len) (sym same.1) (subst (OccursAt comma (text ++ (netstring_comma ∷ rest))) (sym same.0) (OccursAt-between text comma rest)) in
      other (looked_at ∙ OccursAt-front comma after more len there (omega (arith, some)))

-- what is written is read again
pub takes_written : (limit : ℕ) (text rest : List ℕ) → length text < 2 ^ 64 → length text ≤ limit → TakesNetstringWithin limit (netstring_bytes text ++ rest) text rest
takes_written limit text rest fits within =
    let digits = decimal (length text) in (
      record {
        digits = digits;
        writes = WriteNumber-decimal (length text) fits;
        are = append_assoc (digits ++ colon ∷ text) (netstring_comma ∷ []) rest ∙ append_assoc digits (colon ∷ text) (netstring_comma ∷ rest);
      },
      decimal_short (length text) fits,
      within,
    )

-- memory is refused only for a text that has come, and isn't empty
pub refused_text : (s : Decoding Netstrings) (reason : Reason) → reason ≡ OutOfMemory → HasNetstring s → fails_netstring s (Refused reason)
refused_text s TooLong is has = cc
refused_text s OutOfMemory is has = has
