use Rattle.std.proofs.Common.{◌≡◌, ◌∙◌, ◌++◌, ap, append_assoc, drop, take}
use Rattle.btools.proofs.Reading.{if_ok}
use Rattle.bcheck.specs.Spares.{spares}
use Rattle.bcheck.proofs.change.is_spared.Goals as goal

pub returns : goal.returns
returns c =
    let source = c.args.source.text.now in
    let edition = c.args.source.edition in
    let edit = c.args.edit.now in
    let before = c.parts.result.0.now in
    let text = edit.text.now in
    let after = c.parts-2.result.1.now in
    let rest = drop edit.start source in
    let new : c.as_slice.result.now ≡ take edit.start source ++ (text ++ drop edit.len rest) =
    c.as_slice.ensures ∙ c.in_ok-push-3.ensures
    ∙ ap (λ t. t ++ after)
    (c.in_ok-push-2.ensures ∙ ap (λ t. t ++ text) (c.in_ok-push.ensures ∙ ap (λ t. t ++ before) c.new-new.ensures))
    ∙ append_assoc before text after
    ∙ ap (λ t. before ++ (text ++ t)) (c.parts-2.ensures.rest ∙ ap (drop edit.len) c.parts.ensures.rest)
    ∙ ap (λ t. t ++ (text ++ drop edit.len rest)) c.parts.ensures.before in
    let taken : c.parts-2.result.0.now ≡ take edit.len rest =
    c.parts-2.ensures.before ∙ ap (take edit.len) c.parts.ensures.rest in
    if_ok c.spares.result _ _
    (λ is h. h ∙ ap (λ n. spares edition source n c.parts-2.result.0.now) new
    ∙ ap (spares edition source (take edit.start source ++ (text ++ drop edit.len rest))) taken)
    c.spares.ensures
