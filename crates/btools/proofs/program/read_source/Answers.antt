use Rattle.btools.proofs.KeptNames.{lines_whole, names_whole}
use Rattle.btools.proofs.Reading.{loaded}
use Rattle.btools.proofs.program.read_source.Goals as goal

pub returns-in-Ok-Ok-clause-program : goal.returns-in-Ok-Ok-clause-program
returns-in-Ok-Ok-clause-program c =
    loaded c.args.edition c.args.source.now c.in-Ok-Ok.definitions.items c.load.result (rw c.in-Ok-Ok.field-0-is at c.in-Ok-Ok.ensures.code) c.load.ensures.gives

pub returns-in-Ok-Ok-clause-lines : goal.returns-in-Ok-Ok-clause-lines
returns-in-Ok-Ok-clause-lines c =
    lines_whole c.args.edition c.args.source.now c.load.result _ _ c.new-keeper.ensures (rw c.in-Ok-Ok.field-0-is at c.in-Ok-Ok.ensures.notes) c.load.ensures.notes

pub returns-in-Ok-Ok-clause-names : goal.returns-in-Ok-Ok-clause-names
returns-in-Ok-Ok-clause-names c =
    names_whole c.args.edition c.args.source.now c.load.result _ _ c.new-keeper.ensures (rw c.in-Ok-Ok.field-0-is at c.in-Ok-Ok.ensures.notes) c.load.ensures.notes
