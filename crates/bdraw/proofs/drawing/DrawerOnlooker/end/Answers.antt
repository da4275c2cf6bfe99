use Rattle.std.proofs.Common.{◌∙◌, subst}
use Rattle.bdraw.specs.Draws.{IsDrawn, title_of}
use Rattle.bdraw.specs.Pictures.{DrawnProgram, rows_of, stacked_text}
use Rattle.bdraw.specs.Stacks.{IsOf, drawn_in}
use Rattle.bdraw.proofs.WatchedPictures.{drawn_there}
use Rattle.bdraw.proofs.drawing.DrawerOnlooker.end.Goals as goal

pub returns : goal.returns
returns g c first sights ends =
    let stop = c.args.stop in
    let own = c.args.self.now in
    let p = c.args.stepper.now in
    let q = drawn_in own.program.now own.tables.now in
    let text = c.in_ok-self.field-0 in
    let is = c.in_ok-self.ensures ∙ (λ i. stacked_text (title_of (c.moment_of.ensures i)) (rows_of q p.store (c.in_ok-calls.ensures.drawn i) (c.in_ok-calls.ensures.others i))) in
    let there = drawn_there q text p sights (IsOf first own) stop stop.outcome ends is in
    subst (λ (d : DrawnProgram). IsDrawn d text sights stop.steps stop.outcome) (λ i. drawn_in (there.0.0 i).now (there.0.1 i).now) there.1
