-- Runs of calls, and the lists of buffers that aren't segmented.
use Rattle.std.proofs.Common.{◌≡◌, ℕ, ◌+◌, ◌≤◌, List, [], ◌∷◌, ◌++◌, vec_len, vec_capacity, length, length-drop, drop, refl, sym, ap, subst, ◌∙◌, append_assoc, arith, append-nil}
use Rattle.std.specs.Global.{Vec}
use Rattle.std.specs.List.{concat}
use Rattle.bytes_utils_buf.specs.Segments.{SkipsSegments}
use Rattle.bytes_utils_buf.proofs.Lists.{concat-unread_segments}
use Rattle.bytes_utils_run.specs.Calls.{IsRunOfCalls, lists_for_calls}
use Rattle.bytes_utils_run.specs.declared.calls.call.Reply.{Reply}

-- the lists of a buffer, joined, are its unread bytes
pub concat_lists_of : (unread : List ℕ) → concat (lists_for_calls unread) ≡ unread
concat_lists_of unread = concat-unread_segments (unread ∷ []) ∙ append-nil unread

-- dropping the first n bytes skips n bytes
pub skips_lists_of : (n : ℕ) (old new : List ℕ) → new ≡ drop n old → SkipsSegments n (lists_for_calls old) (lists_for_calls new)
skips_lists_of n [] [] is = record {
  passed = 0;
  cut = 0;
  within = omega arith;
  rest = refl;
  bytes = is;
  front = λ none. absurd (omega arith);
}
skips_lists_of n [] (b ∷ new) is = absurd (omega (arith, ap length is, length-drop {A = ℕ} n []))
skips_lists_of n (b ∷ old) [] is = record {
  passed = 1;
  cut = 0;
  within = omega arith;
  rest = refl;
  bytes = is ∙ ap (drop n) (sym (append-nil (b ∷ old)));
  front = λ none. absurd (omega arith);
}
skips_lists_of n (b ∷ old) (c ∷ new) is = record {
  passed = 0;
  cut = n;
  within = omega arith;
  rest = ap (λ list. list ∷ []) is;
  bytes = append-nil (c ∷ new) ∙ is ∙ ap (drop n) (sym (append-nil (b ∷ old)));
  front = λ some. omega arith;
}

-- one more call
pub IsRunOfCalls-push : {C S : Type 0} (Is : C → S → Reply → S → Type 0) (calls : List C) (old : S) (replies : List Reply) (mid : S) (call : C) (reply : Reply) (new : S)
    (after : List Reply) → after ≡ replies ++ reply ∷ [] → IsRunOfCalls Is calls old replies mid → Is call mid reply new → IsRunOfCalls Is (calls ++ call ∷ []) old after new
IsRunOfCalls-push {C} {S} Is calls old replies mid call reply new after is run one =
    subst (λ all. IsRunOfCalls Is (calls ++ call ∷ []) old all new) (sym is) (pushed calls old replies run)
  where
    pushed : (calls : List C) (old : S) (replies : List Reply) → IsRunOfCalls Is calls old replies mid → IsRunOfCalls Is (calls ++ call ∷ []) old (replies ++ reply ∷ []) new
    pushed [] old [] run = (new, subst (λ state. Is call state reply new) run one, refl)
    pushed [] old (r ∷ replies) run = absurd run
    pushed (c ∷ calls) old [] run = absurd run
    pushed (c ∷ calls) old (r ∷ replies) run = (run.0, run.1, pushed calls run.0 replies run.2)

-- The calls that were made and those to come, `count` of them, are all calls. There is room for all replies.
pub record HasRoom {C : Type 0} (calls : Vec C) (made coming : List C) (count : ℕ) (given : Vec Reply) : Type 0 where
  pub more : made ++ coming ≡ calls.items
  pub counts : vec_len given + count ≡ vec_len calls
  pub room : vec_len calls ≤ vec_capacity given

-- one more call
pub HasRoom-push : {C : Type 0} (calls : Vec C) (made coming after : List C) (count less : ℕ) (given more : Vec Reply) (call : C)
    → HasRoom calls made coming count given → (coming ≡ call ∷ after) × (less + 1 ≡ count) → vec_len more ≡ vec_len given + 1
    → vec_capacity more ≡ vec_capacity given → HasRoom calls (made ++ call ∷ []) after less more
HasRoom-push calls made coming after count less given more call old step len capacity = record {
  more = append_assoc made (call ∷ []) after ∙ ap (λ rest. made ++ rest) (sym step.0) ∙ old.more;
  counts = omega (arith, old.counts, step.1, len);
  room = omega (arith, old.room, capacity);
}
