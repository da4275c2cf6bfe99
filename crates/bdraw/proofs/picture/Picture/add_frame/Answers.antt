use Rattle.std.proofs.Common.{◌∙◌, ◌%◌, ◌∷◌, [], List, Option, ap, map, subst}
use Rattle.std.specs.Prelude.{◌==◌, find, zip}
use Rattle.std.specs.Option.{option_map_or}
use Rattle.blang.specs.CodeParts.{function_of}
use Rattle.btools.specs.FrameNames.{frame_seen}
use Rattle.btools.specs.Functions.{entries_of}
use Rattle.btools.specs.declared.names.Frame.{Frame}
use Rattle.bdraw.specs.Pictures.{Framed, box_row, frame_row}
use Rattle.bdraw.specs.Stacks.{Adds}
use Rattle.bdraw.proofs.Stacking.{adds_row}
use Rattle.bdraw.proofs.picture.Picture.add_frame.Goals as goal

pub returns : goal.returns
returns g c =
    let image = c.args.scene.now.program.now.image in
    let words = g.M.Memory.seen_words c.args.scene.now.memory.now in
    let start = c.args.call.start % 65536 in
    let old = c.args.self.now in
    let new = c.end_row.new.self in
    let row = box_row (frame_row image words (function_of c.in-Some.entry.parts.now) (frame_seen c.in-Some.frame.now) start) in
    let found = c.in-Some.ensures
    ∙ ap (λ (fs : List Frame). find (λ (f : Framed). f.0.strings == c.args.call.strings) (zip (entries_of c.args.scene.now.tables.now) (map frame_seen fs))) c.as_slice-frames.ensures.value in
    subst (λ (o : Option Framed). Adds (option_map_or (λ (f : Framed). box_row (frame_row image words f.0.function f.1 start) ∷ []) o []) old new) found
    (adds_row row old new c.push_frame.new.shapes.items c.in_ok-push_frame.ensures (ap (λ v. v.items) c.end_row.ensures.shapes) c.end_row.ensures.height)
