-- The replies that are printed: those before the first one that memory was refused for.
use Rattle.std.proofs.Common.{◌≡◌, refl, subst, ℕ, ◌<◌, ◌≤◌, List, ◌++◌, length, take, get_or, false, Option, None, Some, MatchOption, arith, lit<, All}
use Rattle.std.specs.Global.{Vec}
use Rattle.std.specs.List.{position, position_or_len}
use Rattle.std.proofs.lemmas.List.Elements.{All-from_get_or}
use Rattle.std.proofs.lemmas.List.Quantifiers.{position-Some}
use Rattle.std.proofs.lemmas.Grind.{common_steps}
use Rattle.std.proofs.lemmas.List.{get_or-take, length-take, take_all}
use Rattle.std.proofs.lemmas.List.Sums.{fails_before_first}
use Rattle.bytes_utils.specs.Outcome.{Outcome}
use Rattle.bytes_utils_buf.specs.Segments.{HeldSegments, nothing_held}
use Rattle.bytes_utils_run.proofs.Ample.{stopped}
use Rattle.bytes_utils_run.specs.Calls.{IsCallOnBytes, IsRunOfCalls, reply_lacks_memory}
use Rattle.bytes_utils_run.specs.Request.{AreFirstRequestedReplies, AreRequestedReplies}
use Rattle.bytes_utils_buf.specs.declared.refused.Reason.{Reason}
use Rattle.bytes_utils_buf.specs.declared.refused.Reason.TheVariants.{OutOfMemory}
use Rattle.bytes_utils_run.specs.declared.calls.call.Call.{Call}
use Rattle.bytes_utils_run.specs.declared.calls.call.Reply.{Reply}
use Rattle.bytes_utils_run.specs.declared.calls.call.Reply.TheVariants.{Done}

whole-before : (replies : List Reply) (count : ℕ) → ((k : ℕ) → k < count → reply_lacks_memory (get_or replies k Done) ≡ false) → All (λ reply. reply_lacks_memory reply ≡ false) (take count replies)
whole-before replies count none = All-from_get_or (λ reply. reply_lacks_memory reply ≡ false) (take count replies) Done
    (λ k l. let below : k < count = omega (arith, l, length-take count replies) in rw (get_or-take count replies k Done below) (none k below))

-- if memory was refused for no reply, the place of the first such reply is the length of the list
past_all : (replies : List Reply) → position reply_lacks_memory replies ≡ None → length replies ≤ position_or_len reply_lacks_memory replies
past_all replies none = grind (arith, common_steps)

-- if memory was refused for no reply, all are right
replies-all : (calls : List (Call (List ℕ))) (replies : List Reply) (left : HeldSegments) → IsRunOfCalls IsCallOnBytes calls nothing_held replies left
    → position reply_lacks_memory replies ≡ None → AreRequestedReplies calls replies
replies-all calls replies left run none =
    let whole = whole-before replies (length replies) (λ k l. fails_before_first reply_lacks_memory replies k Done (omega (arith, l, past_all replies none))) in
    record { left = left; run = run; whole = subst (All (λ reply. reply_lacks_memory reply ≡ false)) (take_all (length replies) replies (omega arith)) whole }

-- the replies before the first one that memory was refused for are the first of right replies
replies-before : {Y : Type 0} (like : Vec Y) (calls : List (Call (List ℕ))) (replies : List Reply) (left : HeldSegments) (count : ℕ)
    → IsRunOfCalls IsCallOnBytes calls nothing_held replies left → position reply_lacks_memory replies ≡ Some count
    → (others : List Reply) × (0 < length others) × AreRequestedReplies calls (take count replies ++ others)
replies-before like calls replies left count run found =
    let first = position-Some reply_lacks_memory replies count Done found in
    let more = stopped like calls nothing_held replies left run (lit< tt) count first.0 (whole-before replies count first.2) in
    (more.0, more.1, record { left = more.2; run = more.3; whole = more.4 })

-- such replies are given, and those that are missing complete them
pub first-given : {Y : Type 0} (like : Vec Y) (calls : List (Call (List ℕ))) (given : List Reply) (refused : Option Reason)
    → AreFirstRequestedReplies calls given refused → Outcome (AreRequestedReplies calls) given refused
first-given like calls given refused are = by_place (position reply_lacks_memory are.all) refl are.first
  where
    by_place : (place : Option ℕ) → position reply_lacks_memory are.all ≡ place
        → MatchOption place ((given ≡ are.all) × (refused ≡ None)) (λ count. (given ≡ take count are.all) × (refused ≡ Some OutOfMemory))
        → Outcome (AreRequestedReplies calls) given refused
    by_place None none is = rw (is.0, is.1) (replies-all calls are.all are.left are.run none)
    by_place (Some count) found is = rw (is.0, is.1) (replies-before like calls are.all are.left count are.run found)
