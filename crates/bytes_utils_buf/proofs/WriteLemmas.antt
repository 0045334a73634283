-- Writing a buffer out in steps.
use Rattle.std.proofs.Common.{◌≡◌, refl, sym, ap, subst, ◌∙◌, ℕ, zero, suc, ◌+◌, ◌-◌, ◌<◌, ◌≤◌, List, [], ◌∷◌, ◌++◌, Option, Result, length, take, drop, arith, append_assoc, length-append, length-drop, take-append-drop, take-add}
use Rattle.std.proofs.KnownBytes.{Appends-trans}
use Rattle.std.proofs.lemmas.List.{drop_at, drop-drop, take-append-le, take_rest}
use Rattle.std.proofs.lemmas.List.Elements.{All-head}
use Rattle.std.specs.Borrow.{Bor}
use Rattle.std.specs.Result.{OnOk}
use Rattle.std.specs.Io.KnownBytes.{Appends}
use Rattle.bytes_utils_buf.specs.Slices.{joined_slices, FillsSlices}
use Rattle.bytes_utils_buf.specs.Write.{WritesCounted, WritesFront}
use Rattle.bytes_utils_buf.proofs.SlicesLemmas.{joined_slices-append}

-- some of the bytes that come next were written
pub WritesCounted-more : {a b c : Option (List ℕ)} {m n k : ℕ} {all part : List ℕ} (following : List ℕ) → WritesCounted a b m n all
    → WritesCounted b c n k part → part ++ following ≡ drop (n - m) all → WritesCounted a c m k all
WritesCounted-more {a} {b} {c} {m} {n} {k} {all} {part} following before next is =
    let size : length part + length following ≡ length all - (n - m) = sym (length-append part following) ∙ ap length is ∙ length-drop (n - m) all in
    let some : k - n ≤ length part = omega (arith, next.within) in
    let same : take (k - n) part ≡ take (k - n) (drop (n - m) all) = sym (take-append-le (k - n) part following some) ∙ ap (take (k - n)) is in
    let count : (n - m) + (k - n) ≡ k - m = omega (arith, before.rises, next.rises) in
    let bytes : take (n - m) all ++ take (k - n) part ≡ take (k - m) all =
    ap (λ l. take (n - m) all ++ l) same ∙ sym (take-add (n - m) (k - n) all) ∙ ap (λ i. take i all) count in
    record {
      rises = omega (arith, before.rises, next.rises);
      within = omega (arith, size, before.rises, before.within, next.rises, next.within);
      appends = subst (Appends a c) bytes (Appends-trans a b c _ _ before.appends next.appends);
    }

-- if all of `part` was written, `following` comes next
pub bytes-following : {m n k : ℕ} (all part following : List ℕ) → m ≤ n → k ≡ n + length part → part ++ following ≡ drop (n - m) all → following ≡ drop (k - m) all
bytes-following {m} {n} {k} all part following rises is next =
    let count : (n - m) + length part ≡ k - m = omega arith in
    sym (drop_at part following (length part) refl) ∙ ap (drop (length part)) next ∙ drop-drop (length part) (n - m) all ∙ ap (λ i. drop i all) count

-- a write took the first `count` of these bytes
pub WritesCounted-one : {a b : Option (List ℕ)} (n count : ℕ) (bytes : List ℕ) → count ≤ length bytes → Appends a b (take count bytes)
    → WritesCounted a b n (n + count) bytes
WritesCounted-one {a} {b} n count bytes bound appends = grind arith

-- the bytes that come next are at most those that are left
pub WritesCounted-room : {a b : Option (List ℕ)} {m n : ℕ} {all : List ℕ} (part following : List ℕ) → WritesCounted a b m n all → part ++ following ≡ drop (n - m) all
    → n + length part ≤ m + length all
WritesCounted-room {a} {b} {m} {n} {all} part following before is =
    let size : length part + length following ≡ length all - (n - m) = sym (length-append part following) ∙ ap length is ∙ length-drop (n - m) all in
    omega (arith, size, before.rises, before.within)

-- if no bytes come next, all were written
pub WritesCounted-all : {a b : Option (List ℕ)} {m n : ℕ} {all : List ℕ} → WritesCounted a b m n all → [] ≡ drop (n - m) all → n ≡ m + length all
WritesCounted-all {a} {b} {m} {n} {all} before is =
    let size : 0 ≡ length all - (n - m) = ap length is ∙ length-drop (n - m) all in
    omega (arith, size, before.rises, before.within)

-- slices in two parts
pub joined_slices-parts : (n : ℕ) (slices : List (Bor (List ℕ))) → joined_slices (take n slices) ++ joined_slices (drop n slices) ≡ joined_slices slices
joined_slices-parts n slices = sym (joined_slices-append (take n slices) (drop n slices)) ∙ ap joined_slices (take-append-drop n slices)

-- the bytes of some slices come next, and then those of the slices after them
pub next-slices : (slices : List (Bor (List ℕ))) (place count : ℕ) (bytes left : List ℕ)
    → bytes ≡ joined_slices (take count (take (length slices - place) (drop place slices))) → joined_slices (drop place slices) ≡ left
    → bytes ++ joined_slices (drop (place + count) slices) ≡ left
next-slices slices place count bytes left is all =
    let rest = drop place slices in
    let following : joined_slices (drop (place + count) slices) ≡ joined_slices (drop count rest) = sym (ap joined_slices (drop-drop count place slices)) in
    ap (λ l. bytes ++ l) following
    ∙ ap (λ l. l ++ joined_slices (drop count rest)) (is ∙ ap (λ l. joined_slices (take count l)) (take_rest slices place))
    ∙ joined_slices-parts count rest
    ∙ all

-- a table with room has a byte if there is one
pub FillsSlices_some : (n : ℕ) (old new : List (Bor (List ℕ))) (unread : List ℕ) → 0 < length old → length new ≡ length old → 0 < length unread
    → FillsSlices n old new unread → 0 < length (joined_slices (take n new))
FillsSlices_some zero old new unread room same some fills = omega (arith, some, ap length (fills.whole room))
FillsSlices_some (suc n) old [] unread room same some fills = absurd (omega (arith, room, same))
FillsSlices_some (suc n) old (x ∷ new) unread room same some fills =
    let first = All-head (λ (s : Bor (List ℕ)). 0 < length s.now) x (take n new) fills.some in
    omega (arith, first, length-append x.now (joined_slices (take n new)))

-- so something is written
pub some-written : {E : Type 0} (r : Result (Unit {0}) E) (some : Type 0) (count written : ℕ) → (some → 0 < count) → OnOk r (written ≡ 0 + count) → OnOk r (some → 0 < written)
some-written r some count written more is = grind arith

-- the first bytes are at most as many as all bytes
pub length-front : (front all : List ℕ) → front ++ drop (length front) all ≡ all → length front ≤ length all
length-front front all is = omega (arith, ap length is, length-append front (drop (length front) all))

-- what is written of the first bytes is written of all bytes
module _ {a b : Option (List ℕ)} {n : ℕ} (front all : List ℕ) (is : front ++ drop (length front) all ≡ all) (some : WritesCounted a b 0 n front) where
  pub count-of_front : n ≤ length all
  count-of_front = omega (arith, some.within, length-front front all is)

  pub appends-of_front : Appends a b (take n all)
  appends-of_front = grind (arith, take-append-le)

-- one more write
pub WritesFront-more : {a b c : Option (List ℕ)} {all rest new : List ℕ} (n : ℕ) → WritesFront a b all rest → Appends b c (take n rest) → new ≡ drop n rest → WritesFront a c all new
WritesFront-more {a} {b} {c} {all} {rest} n h appends left = grind (arith, Appends-trans, append_assoc, take-append-drop)
