use Rattle.std.proofs.Common.{◌∙◌, ℕ, List, subst}
use Rattle.blang.specs.Reports.{Reported}
use Rattle.bdraw.specs.Draws.{shown, title_of}
use Rattle.bdraw.specs.Pictures.{rows_of, stacked_text}
use Rattle.bdraw.specs.Stacks.{drawn_in}
use Rattle.bdraw.proofs.drawing.show_before.Goals as goal

pub returns-in-Ok-clause-shows : goal.returns-in-Ok-clause-shows
returns-in-Ok-clause-shows g c =
    let q = drawn_in c.args.program.now c.args.tables.now in
    let is = c.as_slice.ensures ∙ c.in-Ok.ensures
    ∙ (λ i. stacked_text (title_of c.args.moment) (rows_of q q.image.words (c.no_calls-calls.ensures.drawn i) (c.no_calls-calls.ensures.others i))) in
    shown (subst (λ (t : List ℕ). Reported t 0 (g.O.ByteOut.outgoing c.args.out.now) (g.O.ByteOut.outgoing c.tell.new.out) c.tell.result) is c.tell.ensures.told)
