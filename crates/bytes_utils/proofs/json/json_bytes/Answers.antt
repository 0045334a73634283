use Rattle.std.proofs.Common.{◌≡◌, ◌<◌, [], ◌∷◌, ◌++◌, true, Result, Ok, Err, OnOk, sym, ap, ◌∙◌, arith}
use Rattle.std.specs.Result.{is_ok}
use Rattle.std.proofs.lemmas.List.Elements.{All-push}
use Rattle.bytes_utils.proofs.JsonBytes.{members_push, other_member}
use Rattle.bytes_utils.proofs.json.json_bytes.Goals as goal

at_ok : {T E P : Type 0} (r : Result T E) → is_ok r ≡ true → OnOk r P → P
at_ok (Ok x) is holds = holds
at_ok (Err e) is holds = absurd cc

pub returns-in_err-byte-clause-err : goal.returns-in_err-byte-clause-err
returns-in_err-byte-clause-err g c =
    let is_none = c.in_err-byte.ensures.ok_part in
    let other = rw is_none at c.json_byte.ensures.none in
    let value = rw is_none at c.in_err-byte.ensures.value in
    let out = c.from_residual-in_err-byte.ensures.1 in
    grind (arith, other_member _ _ _ c.loop-member-test.true c.member-item.is other)

pub loop-member-preserved : goal.loop-member-preserved
loop-member-preserved g c =
    let byte = c.in_ok-byte.byte in
    let is_pushed : is_ok c.push_slice.result ≡ true = sym c.map_err-in-loop-member.ensures.variant ∙ ap is_ok c.in_ok-map_err.was in
    let pushed : (g.S.Storage.stored c.push_slice.new.self) ≡ (g.S.Storage.stored c.loop-member.bytes) ++ byte ∷ [] = at_ok c.push_slice.result is_pushed c.push_slice.ensures.ok in
    let is_byte = rw c.in_ok-byte.ensures.ok_part at c.json_byte.ensures.some in
    let old = c.loop-member.invariant in
    record {
      are = rw pushed (members_push c.args.members.now c.loop-member.member-index _ c.member-item.result byte c.loop-member-test.true c.member-item.is is_byte old.are);
      in_range = rw pushed (All-push (λ b. b < 256) _ byte old.in_range (rw c.in_ok-byte.ensures.ok_part at c.json_byte.ensures.in_range));
    }
