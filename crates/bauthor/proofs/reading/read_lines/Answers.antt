use Rattle.std.proofs.Common.{◌≡◌, ◌∙◌, Ok, ap, map, subst, sym}
use Rattle.std.specs.Prelude.{IfErr, IfOk}
use Rattle.bauthor.specs.AuthorFiles.{read_from, with_read}
use Rattle.bauthor.specs.NameFiles.{Fails, name_read, names_wanted}
use Rattle.bauthor.specs.Readers.{Advances, read_by}
use Rattle.bauthor.specs.declared.fault.Wanted.TheVariants.{End}
use Rattle.bauthor.specs.declared.reading.Reader.{Reader}
use Rattle.bauthor.proofs.Advancing.{from_nothing, read_whole, stops_whole}
use Rattle.bauthor.proofs.reading.read_lines.Goals as goal

pub returns-in-Ok-clause-ok : goal.returns-in-Ok-clause-ok
returns-in-Ok-clause-ok c =
    let ws = names_wanted c.args.definitions.now in
    let lines = map (λ line. line.now) c.args.lines.now in
    let all = read_from name_read End 1 ws lines in
    let start : Reader = record { names = c.new.result; lines = c.args.lines; at = 0; number = 1 } in
    let is = ap (λ names. with_read names all) c.new.ensures.items ∙ from_nothing all in
    subst (λ r. IfOk c.finish.result (λ names. r ≡ Ok names.items))
    (sym (read_whole read_by Fails start c.take_all.new.self ws all is
    (subst (λ r. Advances ws start r c.take_all.new.self) c.in-Ok.is c.take_all.ensures))) c.finish.ensures.ok

pub returns-in-Ok-clause-err : goal.returns-in-Ok-clause-err
returns-in-Ok-clause-err c =
    let ws = names_wanted c.args.definitions.now in
    let lines = map (λ line. line.now) c.args.lines.now in
    let all = read_from name_read End 1 ws lines in
    let start : Reader = record { names = c.new.result; lines = c.args.lines; at = 0; number = 1 } in
    let is = ap (λ names. with_read names all) c.new.ensures.items ∙ from_nothing all in
    subst (λ r. IfErr c.finish.result (λ fault. Fails fault r))
    (sym (read_whole read_by Fails start c.take_all.new.self ws all is
    (subst (λ r. Advances ws start r c.take_all.new.self) c.in-Ok.is c.take_all.ensures))) c.finish.ensures.err

pub returns-in-Err-clause-err : goal.returns-in-Err-clause-err
returns-in-Err-clause-err c =
    let ws = names_wanted c.args.definitions.now in
    let lines = map (λ line. line.now) c.args.lines.now in
    let all = read_from name_read End 1 ws lines in
    let start : Reader = record { names = c.new.result; lines = c.args.lines; at = 0; number = 1 } in
    let is = ap (λ names. with_read names all) c.new.ensures.items ∙ from_nothing all in
    stops_whole read_by Fails start c.in-Err.fault ws all is
    (subst (λ r. Advances ws start r c.take_all.new.self) c.in-Err.is c.take_all.ensures)
