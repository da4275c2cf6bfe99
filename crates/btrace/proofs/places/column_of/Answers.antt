use Rattle.std.proofs.Common.{◌∙◌, ap}
use Rattle.btools.specs.ProgramLines.{line_in}
use Rattle.btrace.proofs.places.column_of.Goals as goal

pub returns : goal.returns
returns c = c.column.ensures ∙ ap (λ f. line_in f c.args.call.place) c.entry.ensures.columns
