use Rattle.std.proofs.Common.{ap, sym, take, refl, subst, Ok, Err}
use Rattle.bytes_utils_codec.specs.Decoding.{Decoding, Item, decoding}
use Rattle.bytes_utils_codec.specs.Delimited.{Delimiting, gives_delimited}
use Rattle.bytes_utils_codec.specs.LineReading.{LineReading, frames_of_lines, gives_line}
use Rattle.bytes_utils_codec.specs.declared.decode.lines.LineFault.TheVariants.{TooLong}
use Rattle.bytes_utils_codec.proofs.decode.lines.Lines.take_line.Goals as goal

pub returns-in-Some-Err : goal.returns-in-Some-Err
returns-in-Some-Err c =
    let inside = c.self.inside in
    let new : Decoding LineReading = decoding (record { frames = c.next_frame.new.self; lossy = inside.lossy }) c.next_frame.new.held in
    let finds = rw c.in-Some-Err.field-0-is at c.in-Some-Err.ensures.finds in
    subst (λ (r : LineReading). gives_line (decoding r c.args.held.now) (Item (Err TooLong)) new) c.self.view_is
    (Err c.in-Some-Err.field-0-0, finds, refl, refl)

pub returns-in_ok-take_framed-in-Some-Ok : goal.returns-in_ok-take_framed-in-Some-Ok
returns-in_ok-take_framed-in-Some-Ok c =
    let inside = c.self.inside in
    let took = c.in_ok-take_framed-in-Some-Ok.ensures in
    let old : Decoding LineReading = decoding (record { frames = inside.frames; lossy = inside.lossy }) c.args.held.now in
    let mid = decoding c.next_frame.new.self c.next_frame.new.held in
    let new : Decoding LineReading = decoding c.take_framed.new.self c.take_framed.new.held in
    let finds = rw c.in-Some-Ok.field-0-is at c.in-Some-Ok.ensures.finds in
    let frame = take c.in-Some-Ok.len mid.held in
    let given : gives_delimited (frames_of_lines old) (Item (Ok frame)) (frames_of_lines new) =
    subst (λ (u : Decoding Delimiting). gives_delimited (frames_of_lines old) (Item (Ok frame)) u) (ap frames_of_lines (sym took.ok)) finds.2 in
    subst (λ (r : LineReading). gives_line (decoding r c.args.held.now) (Item c.in_ok-take_framed-in-Some-Ok.field-0) new) c.self.view_is
    (Ok frame, given, took.line, ap (λ (u : Decoding LineReading). u.decoder.lossy) took.ok)
