-- Replies that are right for a call on any buffer, with memory never refused.
use Rattle.std.proofs.Common.{◌≡◌, inl, inr, refl, sym, ap, ◌∙◌, ℕ, zero, suc, ◌+◌, ◌-◌, ◌*◌, ◌<◌, ◌≤◌, ◌^◌, List, [], ◌∷◌, ◌++◌, length, take, drop, get_or, map, false, length-append, length-take, length-drop, take-append-drop, take_at, append_assoc, append-nil, arith, All}
use Rattle.std.specs.Global.{Vec}
use Rattle.std.specs.List.{concat}
use Rattle.std.proofs.lemmas.Bool.{cases_lt}
use Rattle.std.proofs.lemmas.List.{length-map}
use Rattle.std.proofs.lemmas.List.Elements.{All-cons, All-head, All-nil, All-tail}
use Rattle.bytes.specs.Unread.{IsChunkOf}
use Rattle.bytes_utils_buf.specs.Segments.{HeldSegments, NoSegmentEmpty, SkipsSegments, after_accepting, count_unread_segments, cut_front_segment, front_segment}
use Rattle.bytes_utils_buf.specs.Copies.{CountsCopy}
use Rattle.bytes_utils_buf.specs.Tally.{lined_up}
use Rattle.bytes_utils_buf.proofs.Lists.{SkipsSegments-from_count, count_unread_segments-SkipsSegments, length-SkipsSegments}
use Rattle.bytes_utils_run.proofs.Fitting.{Fits, fits-accepting, fits-call, fits-skip}
use Rattle.bytes_utils_run.specs.Calls.{AreCallSlices, IsCallOnBytes, IsRunOfCalls, reply_lacks_memory}
use Rattle.bytes_utils_run.specs.declared.calls.call.Call.{Call}
use Rattle.bytes_utils_run.specs.declared.calls.call.Call.TheVariants.{Push, Segments, Read}
use Rattle.bytes_utils_run.specs.declared.calls.call.ReadCall.TheVariants.{Remaining, Chunk, Advance, CopyOut, Chunks}
use Rattle.bytes_utils_run.specs.declared.calls.call.Reply.{Reply}
use Rattle.bytes_utils_run.specs.declared.calls.call.Reply.TheVariants.{Done, PastEnd, TooLong, Number, Piece, Shown, Slices}

-- a vector of these elements, with the pointer and allocator of another
abbrev vec_of : {X Y : Type 0} (like : Vec Y) (xs : List X) → length xs < 2 ^ 63 → Vec X
vec_of like xs fits = record { ptr = like.ptr; len = length xs; cap = length xs; alloc = like.alloc; items = xs; ok = (refl, omega arith); small = fits }

-- Slices of any bytes: at most n, each of at most four bytes, and all of the bytes if there are fewer than n slices.
record Sliced (n : ℕ) (xs : List ℕ) : Type 0 where
  all : List (Vec ℕ)
  rest : List ℕ
  parts : concat (map (λ s. s.items) all) ++ rest ≡ xs
  whole : length all < n → rest ≡ []
  count : length all ≤ n
  size : 4 * length all ≤ length xs + 3
  some : NoSegmentEmpty (map (λ s. s.items) all)

sliced : {Y : Type 0} (like : Vec Y) (n : ℕ) (xs : List ℕ) → Sliced n xs
sliced like zero xs = record { all = []; rest = xs; parts = refl; whole = λ few. absurd (omega (arith, few)); count = omega arith; size = omega arith; some = All-nil (λ s. 0 < length s) }
sliced like (suc n) [] = record { all = []; rest = []; parts = refl; whole = λ _. refl; count = omega arith; size = omega arith; some = All-nil (λ s. 0 < length s) }
sliced like (suc n) (x ∷ xs) =
    let first = take 4 (x ∷ xs) in
    let more = sliced like n (drop 3 xs) in
    let others = map (λ (s : Vec ℕ). s.items) more.all in
    record {
      all = vec_of like first (omega (arith, length-take 4 (x ∷ xs))) ∷ more.all;
      rest = more.rest;
      parts = append_assoc first (concat others) more.rest ∙ ap (λ z. first ++ z) more.parts ∙ take-append-drop 4 (x ∷ xs);
      whole = λ few. more.whole (omega (arith, few));
      count = omega (arith, more.count);
      size = omega (arith, more.size, length-drop 3 xs);
      some = All-cons (λ s. 0 < length s) first others (omega arith) more.some;
    }

AreCallSlices-sliced : (n : ℕ) (xs : List ℕ) (slices : Sliced n xs) → AreCallSlices n (map (λ s. s.items) slices.all) xs
AreCallSlices-sliced n xs slices =
    let all = concat (map (λ (s : Vec ℕ). s.items) slices.all) in
    let size = length-map slices.all (λ (s : Vec ℕ). s.items) in
    record {
      count = omega (arith, slices.count, size);
      some = slices.some;
      front = sym (take_at all slices.rest (length all) refl) ∙ ap (take (length all)) slices.parts;
      whole = λ few. sym (append-nil all) ∙ ap (λ z. all ++ z) (sym (slices.whole (omega (arith, few, size)))) ∙ slices.parts;
    }

-- where a skip of m bytes ends: the number of lists passed, and the number of bytes skipped of the next one
place : (lists : List (List ℕ)) (m : ℕ) → m ≤ length (concat lists)
    → (p : ℕ) × (n : ℕ) × (p ≤ length lists) × (length (concat (take p lists)) + n ≡ m) × (p < length lists → n < length (get_or lists p []))
place [] m le = (0, m, omega arith, omega arith, λ l. absurd (omega (arith, l)))
place (list ∷ lists) m le = elim (cases_lt m (length list)) [
  | inl inside ↦ (0, m, omega arith, omega arith, λ l. inside)
  | inr following ↦ (let found = place lists (m - length list) (omega (arith, following, le, length-append list (concat lists))) in (
    suc found.0,
    found.1,
    omega (arith, found.2),
    omega (arith, found.3, following, length-append list (concat (take found.0 lists))),
    λ l. found.4 (omega (arith, l)),
  ))
]

skip : (lists : List (List ℕ)) (m : ℕ) → m ≤ length (concat lists) → (left : List (List ℕ)) × SkipsSegments m lists left
skip lists m le =
    let found = place lists m le in
    (cut_front_segment found.1 (drop found.0 lists), SkipsSegments-from_count lists _ found.0 found.1 m found.2 found.3 le found.4 refl)

abbrev IsWhole : Reply → Type 0
IsWhole reply = reply_lacks_memory reply ≡ false

-- a reply that is right for the call and doesn't say that memory was refused, and the state after it
record Ample (call : Call (List ℕ)) (old : HeldSegments) : Type 0 where
  reply : Reply
  next : HeldSegments
  is : IsCallOnBytes call old reply next
  whole : IsWhole reply
  fits : Fits next.segments

-- one call counted, with `advances` advances in it and the turns of a call that left these segments
abbrev counted : ℕ → HeldSegments → List (List ℕ) → HeldSegments
counted advances old segments =
    record {
      segments = segments;
      tally = record {
        given = old.tally.given;
        dropped = old.tally.dropped;
        calls = old.tally.calls + 1 + advances;
        turns = old.tally.turns + (length old.segments - length segments);
      };
    }

cost-counted : (n advances : ℕ) (old : HeldSegments) (segments : List (List ℕ)) → SkipsSegments n old.segments segments
    → lined_up segments (counted advances old segments).tally ≡ lined_up old.segments old.tally
cost-counted n advances old segments skips = omega (arith, length-SkipsSegments n old.segments segments skips)

-- the number of advances that a copy of n bytes may be counted with
copies : (n : ℕ) (old : HeldSegments) (segments : List (List ℕ)) → SkipsSegments n old.segments segments → (advances : ℕ) × CountsCopy n n old (counted advances old segments)
copies n old segments skips = elim (cases_lt (length (front_segment old.segments)) n) [
  | inl across ↦ (passed, counts passed (omega arith) (λ front. absurd (omega (arith, front, across))) (λ _. omega arith))
  | inr alone ↦ (0, counts 0 (omega arith) (λ _. omega arith) (λ past. absurd (omega (arith, past, alone))))
]
  where
    passed : ℕ
    passed = count_unread_segments old.segments - count_unread_segments segments

    counts : (advances : ℕ) → advances ≤ passed → (n ≤ length (front_segment old.segments) → advances ≡ 0)
        → (length (front_segment old.segments) < n → count_unread_segments old.segments ≤ advances + count_unread_segments segments) → CountsCopy n n old (counted advances old segments)
    counts advances few alone across = record {
      given = refl;
      dropped = refl;
      least = omega arith;
      most = omega (arith, few, count_unread_segments-SkipsSegments n old.segments segments skips);
      alone = λ front. omega (arith, alone front);
      across = λ past. omega (arith, across past);
      turns = cost-counted n advances old segments skips;
    }

module _ {Y : Type 0} (like : Vec Y) where
  ample : (call : Call (List ℕ)) (old : HeldSegments) → Fits old.segments → Ample call old
  ample (Push bytes) old fits = elim (cases_lt (length (concat old.segments) + length bytes) (2 ^ 64)) [
    | inl room ↦ record { reply = Done; next = after_accepting old (bytes ∷ []); is = (room, refl); whole = refl; fits = fits-accepting old bytes room }
    | inr full ↦ record { reply = TooLong; next = old; is = (full, refl); whole = refl; fits = fits }
  ]
  ample Segments old fits = record { reply = Number (length old.segments); next = old; is = (refl, refl); whole = refl; fits = fits }
  ample (Read Remaining) old fits = record { reply = Number (length (concat old.segments)); next = old; is = ((refl, tt, refl), refl); whole = refl; fits = fits }
  ample (Read Chunk) old fits =
      let unread = concat old.segments in
      let size = length-take 1 unread in
      record {
        reply = Shown (vec_of like (take 1 unread) (omega (arith, size)));
        next = old;
        is = ((first unread, tt, refl), refl);
        whole = refl;
        fits = fits;
      }
    where
      first : (xs : List ℕ) → IsChunkOf (take 1 xs) xs
      first [] = record { front = refl; fits = omega arith; some = λ some. absurd (omega (arith, some)) }
      first (x ∷ xs) = record { front = refl; fits = omega arith; some = λ some. omega arith }
  ample (Read (Advance n)) old fits = elim (cases_lt (length (concat old.segments)) n) [
    | inl past ↦ record { reply = PastEnd; next = old; is = ((past, tt, refl), refl); whole = refl; fits = fits }
    | inr within ↦ (let left = skip old.segments n within in
        record {
          reply = Done;
          next = counted 0 old left.0;
          is = ((within, tt, left.1), record { turns = cost-counted n 0 old left.0 left.1; given = refl; dropped = refl; calls = omega arith });
          whole = refl;
          fits = fits-skip n _ _ left.1 fits;
        })
  ]
  ample (Read (CopyOut n)) old fits = elim (cases_lt (length (concat old.segments)) n) [
    | inl past ↦ record { reply = PastEnd; next = old; is = ((past, tt, refl), refl); whole = refl; fits = fits }
    | inr within ↦ (let left = skip old.segments n within in
        let count = copies n old left.0 left.1 in
        record {
          reply = Piece (take n (concat old.segments));
          next = counted count.0 old left.0;
          is = (((within, refl), tt, left.1), count.1);
          whole = refl;
          fits = fits-skip n _ _ left.1 fits;
        })
  ]
  ample (Read (Chunks n)) old fits =
      let slices = sliced like n (concat old.segments) in
      record {
        reply = Slices (vec_of like slices.all (omega (arith, fits, slices.size)));
        next = old;
        is = ((AreCallSlices-sliced n (concat old.segments) slices, tt, refl), refl);
        whole = refl;
        fits = fits;
      }

  -- a run of calls whose replies are all right, and none says that memory was refused
  ample-run : (calls : List (Call (List ℕ))) (old : HeldSegments) → Fits old.segments
      → (replies : List Reply) × (left : HeldSegments) × IsRunOfCalls IsCallOnBytes calls old replies left × All IsWhole replies × (length replies ≡ length calls)
  ample-run [] old fits = ([], old, refl, All-nil IsWhole, refl)
  ample-run (call ∷ calls) old fits =
      let one = ample call old fits in
      let more = ample-run calls one.next one.fits in
      (one.reply ∷ more.0, more.1, (one.next, one.is, more.2), All-cons IsWhole one.reply more.0 one.whole more.3, ap suc more.4)

  -- If the first `count` replies of a run don't say that memory was refused, a whole run without such a reply begins
  -- with them.
  pub stopped : (calls : List (Call (List ℕ))) (old : HeldSegments) (replies : List Reply) (left : HeldSegments) → IsRunOfCalls IsCallOnBytes calls old replies left
      → Fits old.segments → (count : ℕ) → count < length replies → All IsWhole (take count replies)
      → (others : List Reply) × (0 < length others) × (end : HeldSegments) × IsRunOfCalls IsCallOnBytes calls old (take count replies ++ others) end
      × All IsWhole (take count replies ++ others)
  stopped [] old [] left run fits count within whole = absurd (omega (arith, within))
  stopped [] old (reply ∷ replies) left run fits count within whole = absurd run
  stopped (call ∷ calls) old [] left run fits count within whole = absurd run
  stopped (call ∷ calls) old (reply ∷ replies) left run fits zero within whole =
      let all = ample-run (call ∷ calls) old fits in
      (all.0, omega (arith, all.4), all.1, all.2, all.3)
  stopped (call ∷ calls) old (reply ∷ replies) left run fits (suc count) within whole =
      let more = stopped calls run.0 replies left run.2 (fits-call call old reply run.0 run.1 fits) count (omega (arith, within))
      (All-tail IsWhole reply (take count replies) whole) in (
        more.0,
        more.1,
        more.2,
        (run.0, run.1, more.3),
        All-cons IsWhole reply (take count replies ++ more.0) (All-head IsWhole reply (take count replies) whole) more.4,
      )
