use Rattle.std.proofs.Common.{refl}
use Rattle.bsources.specs.Files.{files_shown}
use Rattle.btools.specs.Origins.{origin_shown}
use Rattle.bcli.specs.Serves.{traced_rows}
use Rattle.bcli.proofs.Answered.{shown_alone, shown_given}
use Rattle.bcli.proofs.serving.show_run.Goals as goal

pub returns-in-Some-clause-shows : goal.returns-in-Some-clause-shows
returns-in-Some-clause-shows g c =
    shown_given c.args.display.care (origin_shown c.args.origin) (files_shown c.args.files) c.args.text.now c.args.display.steps (traced_rows c.args.display.rows) c.args.display.input c.in-Some.given _
    c.new-given.result c.show_by.new.input c.as_bytes.result.now c.as_bytes-in-Some.result.now _ _
    c.in-Some.is c.as_bytes.ensures.value c.as_bytes-in-Some.ensures.value c.page_of-wanted.ensures c.new-given.ensures refl c.show_by.ensures.shows

pub returns-in-None-clause-shows : goal.returns-in-None-clause-shows
returns-in-None-clause-shows g c =
    shown_alone c.args.display.care (origin_shown c.args.origin) (files_shown c.args.files) c.args.text.now c.args.display.steps (traced_rows c.args.display.rows) c.args.display.input _ _ _
    c.in-None.is c.page_of-wanted-in-None.ensures c.show_by-in-None.ensures.shows
