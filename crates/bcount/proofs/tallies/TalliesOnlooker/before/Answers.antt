use Rattle.std.proofs.Common.{◌≤◌, ◌+◌, ◌∙◌, ap, arith}
use Rattle.bmach.specs.declared.machine.Active.{Active}
use Rattle.bword.specs.ByteEnds.{most}
use Rattle.bcount.specs.Tallies.{noted, tallies_of}
use Rattle.bcount.proofs.Counted.{one_counted}
use Rattle.bcount.proofs.tallies.TalliesOnlooker.before.Goals as goal

pub returns : goal.returns
returns g c first sights at has =
    let within : c.args._made + 1 ≤ most = omega (arith, c.requires) in
    let t = c.args.self.now in
    one_counted first t c.note.new.self c.args.stepper.now sights c.args._made within c.note.ensures.tables
    (λ long. c.note.ensures.counts long ∙ ap (λ (a : Active). noted a.strings a.place t.tables.now.entries.items (tallies_of t)) c.top.ensures)
    at has
