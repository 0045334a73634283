-- Proved from the clauses of `to_json` and `from_json` alone.
use Rattle.std.proofs.Common.{inl, inr, string_bytes, refl, rules}
use Rattle.bytes_utils.specs.Json.{JsonHoldsText}
use Rattle.bytes_utils_tests.proofs.cases.json.written_and_read.Goals as goal

pub returns-clause-ok : goal.returns-clause-ok
returns-clause-ok g c =
    let holds : JsonHoldsText (string_bytes c.in_ok-json.json) c.args.text.now = search rules in
    elim (c.from_json.ensures.text c.args.text.now (rw c.as_str.ensures.value holds)) [ inl is ↦ rw is refl | inr is ↦ rw is tt ]

pub returns-clause-err : goal.returns-clause-err
returns-clause-err g c =
    let holds : JsonHoldsText (string_bytes c.in_ok-json.json) c.args.text.now = search rules in
    elim (c.from_json.ensures.text c.args.text.now (rw c.as_str.ensures.value holds)) [ inl is ↦ rw is tt | inr is ↦ rw is refl ]
