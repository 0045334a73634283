-- Tables of slices, filled from the front.
use Rattle.std.proofs.Common.{◌≡◌, ℕ, ◌+◌, ◌-◌, ◌<◌, ◌≤◌, List, [], ◌∷◌, ◌++◌, length, take, drop, ap, ◌∙◌, sym, refl, arith, append_assoc, append-nil, length-append, drop_at, length-drop, set, take-add, take_at, length-take-le, Bor}
use Rattle.std.proofs.lemmas.List.{drop_all, take_rest, drop-append-le, drop-drop}
use borrow.Rule.Slice.PartMut.{put_mid}
use Rattle.std.proofs.lemmas.List.Elements.{All-cons, All-nil, All-append, All-same}
use Rattle.bytes_utils_buf.specs.Slices.{joined_slices, FillsSlices}
use Rattle.bytes_utils_buf.proofs.Lists.{concat-map_parts, drop-append_past}

-- one slice in the first place of a table
pub joined_slices-first : (dst : List (Bor (List ℕ))) (x : Bor (List ℕ)) → 0 < length dst → joined_slices (take 1 (set dst 0 x)) ≡ x.now
joined_slices-first [] x room = absurd (omega arith)
joined_slices-first (d ∷ ds) x room = append-nil x.now

pub FillsSlices-first : (dst : List (Bor (List ℕ))) (x : Bor (List ℕ)) → 0 < length dst → 0 < length x.now → FillsSlices 1 dst (set dst 0 x) x.now
FillsSlices-first [] x room some = absurd (omega arith)
FillsSlices-first (d ∷ ds) x room some =
    let bytes = joined_slices-first (d ∷ ds) x room in
    record {
      count = omega arith;
      some = All-cons (λ s. 0 < length s.now) x [] some (All-nil (λ s. 0 < length s.now));
      front = ap (λ l. l ++ drop (length l) x.now) bytes ∙ ap (λ l. x.now ++ l) (drop_all (length x.now) x.now (omega arith)) ∙ append-nil x.now;
      whole = λ _. bytes;
      tail = refl;
    }

pub joined_slices-append : (xs ys : List (Bor (List ℕ))) → joined_slices (xs ++ ys) ≡ joined_slices xs ++ joined_slices ys
joined_slices-append xs ys = concat-map_parts (λ s. s.now) xs ys (xs ++ ys) refl

pub FillsSlices-same : (n : ℕ) (old new : List (Bor (List ℕ))) (xs ys : List ℕ) → ys ≡ xs → FillsSlices n old new xs → FillsSlices n old new ys
FillsSlices-same n old new xs ys e h = rw e h

-- a full table stays filled, whatever bytes follow
pub FillsSlices-full : (n : ℕ) (old new : List (Bor (List ℕ))) (xs ys : List ℕ) → length old ≤ n → FillsSlices n old new xs → FillsSlices n old new (xs ++ ys)
FillsSlices-full n old new xs ys full h = grind (arith, append_assoc, drop-append-le, length-append)

-- the next buffer fills the rest of the table
pub FillsSlices-more : (n k : ℕ) (old mid new : List (Bor (List ℕ))) (xs ys : List ℕ) → n < length old → length mid ≡ length old
    → length new ≡ length mid - n → FillsSlices n old mid xs → FillsSlices k (take (length mid - n) (drop n mid)) new ys
    → FillsSlices (n + k) old (put_mid n (length mid - n) mid new) (xs ++ ys)
FillsSlices-more n k old mid new xs ys room same size a b =
    let P = λ (s : Bor (List ℕ)). 0 < length s.now in
    let rest = take_rest mid n in
    let left = length-drop n mid in
    let table = put_mid n (length mid - n) mid new in
    let none : drop (length mid - n) (drop n mid) ≡ [] = drop_all (length mid - n) (drop n mid) (omega (arith, left)) in
    let plain : table ≡ take n mid ++ new = ap (λ l. take n mid ++ (new ++ l)) none ∙ ap (λ l. take n mid ++ l) (append-nil new) in
    let front_size = length-take-le n mid (omega (arith, same, room)) in
    let following : drop n table ≡ new = ap (drop n) plain ∙ drop_at (take n mid) new n front_size in
    let before : take n table ≡ take n mid = ap (take n) plain ∙ take_at (take n mid) new n front_size in
    let taken : take (n + k) table ≡ take n mid ++ take k new = take-add n k table ∙ (λ i. before i ++ take k (following i)) in
    let j = joined_slices (take k new) in
    let bytes : joined_slices (take (n + k) table) ≡ xs ++ j = ap joined_slices taken ∙ joined_slices-append (take n mid) (take k new) ∙ ap (λ l. l ++ j) (a.whole room) in
    record {
      count = omega (arith, b.count, ap length rest, left, same, room);
      some = All-same P _ _ taken (All-append P (take n mid) (take k new) a.some b.some);
      front = ap (λ l. l ++ drop (length l) (xs ++ ys)) bytes
          ∙ ap (λ l. (xs ++ j) ++ l) (drop-append_past xs ys (length j) (length (xs ++ j)) (length-append xs j))
          ∙ append_assoc xs j (drop (length j) ys) ∙ ap (λ l. xs ++ l) b.front;
      whole = λ less. bytes ∙ ap (λ l. xs ++ l) (b.whole (omega (arith, less, ap length rest, left, same)));
      tail = sym (drop-drop k n table) ∙ ap (drop k) following ∙ b.tail ∙ ap (drop k) (rest ∙ a.tail) ∙ drop-drop k n old;
    }

pub length-put_mid : {X : Type 0} (xs ys : List X) (n : ℕ) → n ≤ length xs → length ys ≡ length xs - n → length (put_mid n (length xs - n) xs ys) ≡ length xs
length-put_mid xs ys n h size = grind (arith, length-append, length-drop, length-take-le)

pub joined_slices-push : (xs : List (Bor (List ℕ))) (x : Bor (List ℕ)) → joined_slices (xs ++ x ∷ []) ≡ joined_slices xs ++ x.now
joined_slices-push xs x = joined_slices-append xs (x ∷ []) ∙ ap (λ l. joined_slices xs ++ l) (append-nil x.now)
