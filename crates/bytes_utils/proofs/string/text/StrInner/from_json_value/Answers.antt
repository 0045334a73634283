use Rattle.std.proofs.Common.{◌≡◌, IfErr, ap, ◌∙◌, inl, inr, rules}
use Rattle.std.proofs.lemmas.Result.{err_from_is_err_and}
use Rattle.serde_json.specs.View.{view, items_of, items_view}
use Rattle.serde_json.specs.Data.{array}
use Rattle.bytes_utils.specs.declared.json.JsonRefused.TheVariants.{NotUtf8}
use Rattle.bytes_utils.specs.Json.{JsonRepresents, IsJsonRefusal}
use Rattle.bytes_utils.proofs.JsonReading.{array_from, represents_nothing, refused_where_not}
use Rattle.bytes_utils.proofs.string.text.StrInner.from_json_value.Goals as goal

pub returns-in_err-bytes-clause-err : goal.returns-in_err-bytes-clause-err
returns-in_err-bytes-clause-err g c =
    let value = view c.args.value.now in
    let shown = rw c.in_ok-members.ensures.ok_part at c.as_array.ensures in
    let is_list : value ≡ array (items_view c.in_ok-members.members.now.items) = array_from value _ shown in
    let refused : IsJsonRefusal value c.in_err-bytes.field-0.0 = elim c.in_err-bytes.ensures.err [
      | inl memory ↦ rw memory tt
      | inr other ↦ rw other.0 (represents_nothing value _ is_list (rw c.deref.ensures.value at other.1))
    ] in
    let out = err_from_is_err_and c.from_residual-in_err-bytes.result c.from_residual-in_err-bytes.ensures.1 in
    rw (out.1, out.2) refused

pub returns-clause-err : goal.returns-clause-err
returns-clause-err g c =
    let value = view c.args.value.now in
    let is : IfErr c.map_err-3.result (λ e. e ≡ NotUtf8) = search rules in
    let stored_is : (g.S.Storage.stored c.in_ok-storage.storage) ≡ (g.S.Creator.Storage.stored c.in_ok-bytes.bytes) = search rules in
    let shown = rw c.in_ok-members.ensures.ok_part at c.as_array.ensures in
    let is_list : value ≡ array (items_view c.in_ok-members.members.now.items) = array_from value _ shown in
    let listed = rw c.deref.ensures.value at c.in_ok-bytes.ensures.ok in
    let stands : JsonRepresents value (g.S.Storage.stored c.in_ok-storage.storage) =
    inr (rw stored_is (is_list ∙ ap (λ members. array (items_of members)) listed), rw stored_is c.in_ok-bytes.ensures.in_range) in
    refused_where_not (IsJsonRefusal value) NotUtf8 c.from_inner.result c.map_err-3.result c.map_err-3.ensures.variant c.from_inner.ensures.variant.1 is
    (λ not_utf8. (g.S.Storage.stored c.in_ok-storage.storage, stands, not_utf8))
