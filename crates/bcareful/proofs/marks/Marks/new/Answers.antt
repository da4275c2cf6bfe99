use Rattle.std.proofs.Common.{◌≡◌, ◌∙◌, ◌-◌, ◌++◌, ap, replicate, take}
use Rattle.bcareful.specs.Marks.{data_marks}
use Rattle.bcareful.specs.Things.{atlas_of}
use Rattle.bcareful.specs.declared.thing.Mark.TheVariants.{Plain}
use Rattle.bcareful.proofs.marks.Marks.new.Goals as goal

pub returns : goal.returns
returns c =
    let a = atlas_of c.args.atlas.now in
    let first : c.resize.new.self.items ≡ replicate 7 Plain =
    c.in_ok-resize.ensures.items ∙ (λ k. take 7 (c.new-words.ensures.items k) ++ replicate (7 - c.new-words.ensures.len k) Plain) in
    let items = c.in_ok-push_definitions.ensures ∙ ap (λ ms. ms ++ data_marks a 7 a.definitions) first in
    λ k. record { operands = c.new.ensures.items k; words = items k; calls = c.new-2.ensures.items k; next = 0 }
