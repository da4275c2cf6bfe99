use Rattle.std.proofs.Common.{◌∷◌, ◌++◌, [], length, subst}
use Rattle.bauthor.specs.NameFiles.{Fails, labels_from, words_from}
use Rattle.bauthor.specs.Readers.{Advances, read_by}
use Rattle.bauthor.specs.declared.fault.Wanted.TheVariants as wanted
use Rattle.bauthor.proofs.Advancing.{stops_first, then_moves}
use Rattle.bauthor.proofs.reading.Reader.take_function.Goals as goal

pub returns-in-Ok : goal.returns-in-Ok
returns-in-Ok c =
    let p = c.args.parts.now in
    let own = wanted.Function p.name ∷ [] in
    let rest = words_from p.name 0 p.frame ++ labels_from p.name 0 (length p.targets.items) in
    then_moves read_by Fails own rest c.args.self.now c.take.new.self c.take_parts.new.self c.take_parts.result
    (subst (λ r. Advances own c.args.self.now r c.take.new.self) c.in-Ok.is c.take.ensures) c.take_parts.ensures

pub returns-in-Err : goal.returns-in-Err
returns-in-Err c =
    let p = c.args.parts.now in
    let own = wanted.Function p.name ∷ [] in
    let rest = words_from p.name 0 p.frame ++ labels_from p.name 0 (length p.targets.items) in
    stops_first read_by Fails own rest c.args.self.now c.in-Err.fault
    (subst (λ r. Advances own c.args.self.now r c.take.new.self) c.in-Err.is c.take.ensures)
