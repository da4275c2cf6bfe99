use Rattle.std.proofs.Common.{refl}
use Rattle.bsources.specs.Files.{files_shown}
use Rattle.btools.specs.Origins.{origin_shown}
use Rattle.bcommand.specs.declared.job.Question.TheVariants as questions
use Rattle.bcli.proofs.Answered.{answered}
use Rattle.bcli.proofs.serving.answer.Goals as goal

pub returns-in-List-clause-answers : goal.returns-in-List-clause-answers
returns-in-List-clause-answers g c =
    answered (origin_shown c.args.origin) c.args.edition (files_shown c.args.files) c.args.text.now c.args.question (questions.List c.in-List.field-0 c.in-List.name) _ _ c.in-List.is (refl, c.list.ensures.lists)

pub returns-in-Map-clause-answers : goal.returns-in-Map-clause-answers
returns-in-Map-clause-answers g c =
    answered (origin_shown c.args.origin) c.args.edition (files_shown c.args.files) c.args.text.now c.args.question (questions.Map c.in-Map.field-0) _ _ c.in-Map.is (refl, c.map.ensures.maps)

pub returns-in-Draw-clause-answers : goal.returns-in-Draw-clause-answers
returns-in-Draw-clause-answers g c =
    answered (origin_shown c.args.origin) c.args.edition (files_shown c.args.files) c.args.text.now c.args.question (questions.Draw c.in-Draw.field-0 c.in-Draw.steps) _ _ c.in-Draw.is c.draw.ensures.draws

pub returns-in-Check-clause-answers : goal.returns-in-Check-clause-answers
returns-in-Check-clause-answers g c =
    answered (origin_shown c.args.origin) c.args.edition (files_shown c.args.files) c.args.text.now c.args.question (questions.Check c.in-Check.for_editor) _ _ c.in-Check.is
    (refl, refl, (rw c.check_request.ensures at c.check.ensures.checks))

pub returns-in-Fix-clause-answers : goal.returns-in-Fix-clause-answers
returns-in-Fix-clause-answers g c =
    answered _ _ _ _ c.args.question questions.Fix _ _ c.in-Fix.is (refl, c.fix.ensures.fixes)

pub returns-in-Names-clause-answers : goal.returns-in-Names-clause-answers
returns-in-Names-clause-answers g c =
    answered _ _ _ _ c.args.question questions.Names _ _ c.in-Names.is (refl, refl, c.tell_names.ensures.names)

pub returns-in-Trace-clause-answers : goal.returns-in-Trace-clause-answers
returns-in-Trace-clause-answers g c =
    answered _ _ _ _ c.args.question (questions.Trace c.in-Trace.walk) _ _ c.in-Trace.is
    (rw c.trace_request.ensures at c.trace.ensures.traces)

pub returns-in-Locate-clause-answers : goal.returns-in-Locate-clause-answers
returns-in-Locate-clause-answers g c =
    answered _ _ _ _ c.args.question (questions.Locate c.in-Locate.field-0 c.in-Locate.steps) _ _ c.in-Locate.is
    (rw c.new-attempt.ensures at c.locate_and_explain.ensures.locates)

pub returns-in-GoCareful-clause-answers : goal.returns-in-GoCareful-clause-answers
returns-in-GoCareful-clause-answers g c =
    answered _ _ _ _ c.args.question (questions.GoCareful c.in-GoCareful.field-0 c.in-GoCareful.care c.in-GoCareful.steps) _ _ c.in-GoCareful.is
    (rw c.careful_request-wanted.ensures at c.go_careful.ensures.runs)

pub returns-in-Try-clause-answers : goal.returns-in-Try-clause-answers
returns-in-Try-clause-answers g c =
    answered _ _ _ _ c.args.question (questions.Try c.in-Try.steps) _ _ c.in-Try.is
    (rw c.new-attempt-in-Try.ensures at c.try_source.ensures.tries)

pub returns-in-Count-clause-answers : goal.returns-in-Count-clause-answers
returns-in-Count-clause-answers g c =
    answered _ _ _ _ c.args.question (questions.Count c.in-Count.field-0 c.in-Count.steps c.in-Count.for_editor) _ _ c.in-Count.is
    (rw c.counting_of-counting.ensures at c.count.ensures.counts)

pub returns-in-Show-clause-answers : goal.returns-in-Show-clause-answers
returns-in-Show-clause-answers g c =
    answered _ _ _ _ c.args.question (questions.Show c.in-Show.display) _ _ c.in-Show.is c.show_run.ensures.shows

pub returns-in-Format-clause-answers : goal.returns-in-Format-clause-answers
returns-in-Format-clause-answers g c =
    answered _ _ _ _ c.args.question (questions.Format c.in-Format.is_check) _ _ c.in-Format.is (refl, c.format.ensures.formats)

pub returns-in-Port-clause-answers : goal.returns-in-Port-clause-answers
returns-in-Port-clause-answers g c =
    answered _ _ _ _ c.args.question questions.Port _ _ c.in-Port.is (refl, c.port.ensures.ports)
