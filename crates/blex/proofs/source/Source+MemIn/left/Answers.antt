use Rattle.std.proofs.Common.{◌≡◌, ◌∙◌, ◌+◌, ap, refl}
use Rattle.std.specs.Prelude.{is_some, min}
use mir.Val.{bool_byte}
use Rattle.bword.specs.ByteEnds.{most}
use Rattle.blex.proofs.PlaceSteps.{has_left}
use Rattle.blex.proofs.source.Source+MemIn.left.Goals as goal

pub returns : goal.returns
returns c =
    let one : c.from.result ≡ bool_byte (is_some c.self.inside.first) = c.from.ensures ∙ ap bool_byte c.is_some.ensures in
    let two : c.from-2.result ≡ bool_byte (is_some c.self.inside.second) = c.from-2.ensures ∙ ap bool_byte c.is_some-2.ensures in
    rw (← c.self.view_is)
    (has_left c.self.inside.input c.self.inside.first c.self.inside.second _ _ _ _ c.left.ensures.over
    (c.saturating_add.ensures ∙ ap (λ l. min (l + (c.from.result + c.from-2.result)) most) c.left.ensures.count ∙ rw (one, two) refl))
