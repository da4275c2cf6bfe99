use Rattle.std.proofs.Common.{◌∙◌, ◌++◌, ap}
use Rattle.btools.specs.FrameNames.{frame_seen, name_shown}
use Rattle.bdraw.specs.Pictures.{frame_name}
use Rattle.bdraw.proofs.Stacking.{one_place}
use Rattle.bdraw.proofs.rows.push_frame_names.Goals as goal

pub loop-place-preserved : goal.loop-place-preserved
loop-place-preserved c =
    let names = frame_seen c.args.frame.now in
    let place = c.loop-place.place in
    one_place (λ p. frame_name c.args.y p (name_shown names p)) c.args.shapes.now.items c.loop-place.shapes.items _ place c.loop-place.invariant
    (c.in_ok-push_frame_name.ensures ∙ ap (λ n. c.loop-place.shapes.items ++ frame_name c.args.y place n) (c.word.ensures ∙ ap (name_shown names) c.from.ensures))
