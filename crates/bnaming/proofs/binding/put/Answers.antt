use Rattle.bnaming.proofs.BindingSteps.{put_either}
use Rattle.bnaming.proofs.binding.put.Goals as goal

pub returns-in-Ok : goal.returns-in-Ok
returns-in-Ok c = put_either c.args.name c.args.place c.args.table.now c.insert.new.self c.in-Ok.field-0 c.in-Ok.ensures.there c.in-Ok.ensures.known c.in-Ok.ensures.entries
