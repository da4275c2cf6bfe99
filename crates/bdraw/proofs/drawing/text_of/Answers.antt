use Rattle.std.proofs.Common.{◌∙◌, ℕ, List, ap}
use Rattle.std.proofs.lemmas.Result.{IfOk-weaker}
use Rattle.bdraw.specs.Draws.{title_of}
use Rattle.bdraw.specs.Shapes.{picture_text}
use Rattle.bdraw.proofs.drawing.text_of.Goals as goal

pub returns : goal.returns
returns g c =
    let height = c.in_ok-picture.picture.height in
    let title = title_of c.args.scene.now.moment in
    IfOk-weaker c.picture_text.result _ _ (λ text is.
    is ∙ ap (λ (t : List ℕ). picture_text t height c.as_slice-2.result.now) (c.as_slice.ensures ∙ c.in_ok-title.ensures)
    ∙ ap (picture_text title height) c.as_slice-2.ensures.value
    ∙ (λ i. picture_text title (c.in_ok-picture.ensures.height i) (c.in_ok-picture.ensures.shapes i))) c.picture_text.ensures
