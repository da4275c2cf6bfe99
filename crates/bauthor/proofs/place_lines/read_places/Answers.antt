use Rattle.std.proofs.Common.{◌≡◌, ◌∙◌, Ok, ap, map, subst, sym}
use Rattle.std.specs.Prelude.{IfErr, IfOk}
use Rattle.bauthor.specs.AuthorFiles.{read_from, with_read}
use Rattle.bauthor.specs.LineFiles.{Fails, line_read, lines_wanted}
use Rattle.bauthor.specs.Readers.{LinesAdvance, lines_by, lines_shown}
use Rattle.bauthor.specs.declared.fault.LineWanted.TheVariants.{End}
use Rattle.bauthor.specs.declared.place_lines.LineReader.{LineReader}
use Rattle.bauthor.proofs.Advancing.{from_nothing, read_whole, stops_whole}
use Rattle.bauthor.proofs.place_lines.read_places.Goals as goal

pub returns-in-Ok-clause-ok : goal.returns-in-Ok-clause-ok
returns-in-Ok-clause-ok c =
    let ws = lines_wanted c.args.last c.args.definitions.now in
    let lines = map (λ line. line.now) c.args.lines.now in
    let all = read_from (line_read (lines_shown c.args.source)) End 1 ws lines in
    let start : LineReader = record { places = c.new.result; source = c.args.source; lines = c.args.lines; at = 0; number = 1 } in
    let is = ap (λ places. with_read places all) c.new.ensures.items ∙ from_nothing all in
    subst (λ r. IfOk c.finish.result (λ places. r ≡ Ok places.items))
    (sym (read_whole lines_by Fails start c.take_all.new.self ws all is
    (subst (λ r. LinesAdvance ws start r c.take_all.new.self) c.in-Ok.is c.take_all.ensures))) c.finish.ensures.ok

pub returns-in-Ok-clause-err : goal.returns-in-Ok-clause-err
returns-in-Ok-clause-err c =
    let ws = lines_wanted c.args.last c.args.definitions.now in
    let lines = map (λ line. line.now) c.args.lines.now in
    let all = read_from (line_read (lines_shown c.args.source)) End 1 ws lines in
    let start : LineReader = record { places = c.new.result; source = c.args.source; lines = c.args.lines; at = 0; number = 1 } in
    let is = ap (λ places. with_read places all) c.new.ensures.items ∙ from_nothing all in
    subst (λ r. IfErr c.finish.result (λ fault. Fails fault r))
    (sym (read_whole lines_by Fails start c.take_all.new.self ws all is
    (subst (λ r. LinesAdvance ws start r c.take_all.new.self) c.in-Ok.is c.take_all.ensures))) c.finish.ensures.err

pub returns-in-Err-clause-err : goal.returns-in-Err-clause-err
returns-in-Err-clause-err c =
    let ws = lines_wanted c.args.last c.args.definitions.now in
    let lines = map (λ line. line.now) c.args.lines.now in
    let all = read_from (line_read (lines_shown c.args.source)) End 1 ws lines in
    let start : LineReader = record { places = c.new.result; source = c.args.source; lines = c.args.lines; at = 0; number = 1 } in
    let is = ap (λ places. with_read places all) c.new.ensures.items ∙ from_nothing all in
    stops_whole lines_by Fails start c.in-Err.fault ws all is
    (subst (λ r. LinesAdvance ws start r c.take_all.new.self) c.in-Err.is c.take_all.ensures)
