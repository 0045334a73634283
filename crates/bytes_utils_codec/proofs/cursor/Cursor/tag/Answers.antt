use Rattle.std.proofs.Common.{refl, arith}
use Rattle.bytes_utils_codec.specs.Cursor.{unread}
use Rattle.bytes_utils_codec.proofs.CursorLemmas.{begun, passed_tag}
use Rattle.bytes_utils_codec.proofs.cursor.Cursor.tag.Goals as goal

pub returns-then-most-bytes-clause-waits : goal.returns-then-most-bytes-clause-waits
returns-then-most-bytes-clause-waits g c =
    let held = c.starts_with.ensures.0 c.if-not-starts_with.false in
    (refl, begun c.args.bytes.now (unread c.args.self.now) c.min-most.result (omega arith) (omega arith) held)

pub returns-clause-passed : goal.returns-clause-passed
returns-clause-passed g c =
    let held = c.starts_with.ensures.0 c.if-not-starts_with.false in
    rw c.advance.ensures (passed_tag c.args.self.now c.min-most.result c.args.bytes.now (omega arith) held)
