use Rattle.std.proofs.Common.{◌∙◌, ◌++◌, ℕ, List, codes}
use Rattle.std.proofs.lemmas.Result.{on_ok_weaker}
use Rattle.btools.specs.FrameNames.{frame_seen, name_shown}
use Rattle.bdraw.specs.Pictures.{at_places, frame_name, heading, words_row}
use Rattle.bdraw.specs.declared.shapes.Shape.{Shape}
use Rattle.bdraw.proofs.Stacking.{both}
use Rattle.bdraw.proofs.rows.push_frame.Goals as goal

pub returns : goal.returns
returns g c =
    let y = c.args.y in
    let count = c.args.function.now.frame in
    let old = c.args.shapes.now.items in
    let words = words_row c.args.scene.now.program.now.image (g.M.Memory.seen_words c.args.scene.now.memory.now) y c.args.start count in
    let head : List ℕ → List Shape = λ name. heading y name (codes "frame") count in
    let names : ℕ → List Shape = λ most. at_places (λ place. frame_name y place (name_shown (frame_seen c.args.frame.now) place)) most in
    on_ok_weaker c.push_frame_names.result (λ last.
    both old c.push_words.new.shapes.items c.push_frame_names.new.shapes.items _ _
    (both old c.push_heading.new.shapes.items c.push_words.new.shapes.items _ _ c.in_ok-push_heading.ensures c.in_ok-push_words.ensures) last
    ∙ (λ i. old ++ (head (c.as_bytes.ensures.text i) ++ words ++ names (c.min.ensures i)))) c.push_frame_names.ensures
