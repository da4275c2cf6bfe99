use Rattle.blang.specs.Layout.{shape_of}
use Rattle.bdraw.specs.Pictures.{box_row, name_row}
use Rattle.bdraw.proofs.Stacking.{adds_each}
use Rattle.bdraw.proofs.picture.Picture.add_names.Goals as goal

pub loop-definition-preserved : goal.loop-definition-preserved
loop-definition-preserved g c =
    let image = c.args.scene.now.program.now.image in
    let words = g.M.Memory.seen_words c.args.scene.now.memory.now in
    adds_each c.args.definitions.now c.loop-definition.definition-index c.definition-item.result c.loop-definition-test.true c.definition-item.is (λ d. box_row (name_row image words (shape_of d)))
    c.args.self.now c.loop-definition.self c.add_name.new.self c.loop-definition.invariant c.in_ok-add_name.ensures
