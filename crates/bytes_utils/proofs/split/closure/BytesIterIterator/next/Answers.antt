use Rattle.std.proofs.Common.{rules}
use Rattle.bytes_utils.proofs.split.closure.BytesIterIterator.next.Goals as goal

pub cut_by_closure-requires : goal.cut_by_closure-requires
cut_by_closure-requires g c =
    let text_is = rw c.as_str.ensures.value at c.as_str.utf8 in
    let cut = c.requires.lawful _ c.in_ok-text.text c.in-Some.chunk_edge c.in-Some.separator_edge _ text_is (record {
      shown = c.as_str.result;
      shows = c.as_str.ensures.value;
      called = c.in-Some.ensures;
    }) in
    search rules
