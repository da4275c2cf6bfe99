use Rattle.std.proofs.Common.{◌∙◌, List, subst, sym}
use Rattle.bcode.specs.Faults.{IsFaultLine, IsFaultOf}
use Rattle.blang.specs.declared.code.Definition.{Definition}
use Rattle.btools.specs.Origins.{code_text_shown}
use Rattle.btools.specs.NamedFrames.{HasFrames}
use Rattle.btools.specs.PlaceLines.{HasPlaceColumns, HasPlaceLines}
use Rattle.btools.proofs.Reading.{no_line}
use Rattle.btools.proofs.ReadingText.{has_columns, has_frames, has_lines, loaded}
use Rattle.btools.proofs.program.read_text.Goals as goal

pub returns-in-Err-Line-clause-program : goal.returns-in-Err-Line-clause-program
returns-in-Err-Line-clause-program c = (
  subst (IsFaultLine c.args.text.code.now) (sym c.in-Err-Line.line-is) (subst (IsFaultOf c.args.text.code.now) c.in-Err-Line.field-0-is c.in-Err-Line.ensures.fault),
  λ ds is. no_line c.in-Err-Line.line (sym c.in-Err-Line.field-0-is ∙ c.in-Err-Line.ensures.only ds is),
)

pub returns-clause-program : goal.returns-clause-program
returns-clause-program c =
    let text = code_text_shown c.args.text in
    loaded text c.in-Ok.definitions.items c.in-Ok.ensures.ok
    (c.in-Ok-source_places.places.lines.items, subst (λ (ds : List Definition). HasPlaceLines text ds c.in-Ok-source_places.places.lines.items) c.deref.ensures.value c.in-Ok-source_places.ensures.lines)
    (c.in-Ok-frames_of_text.frames.items, subst (λ (ds : List Definition). HasFrames text ds c.in-Ok-frames_of_text.frames.items) c.deref-2.ensures.value c.in-Ok-frames_of_text.ensures)
    c.load_named.result c.load_named.ensures.gives

pub returns-clause-lines : goal.returns-clause-lines
returns-clause-lines c =
    let text = code_text_shown c.args.text in
    let lines = c.in-Ok-source_places.places.lines in
    let frames = c.in-Ok-frames_of_text.frames in
    has_lines text c.in-Ok.definitions.items c.in-Ok.ensures.ok c.load_named.result (record { frames = frames; lines = lines })
    (subst (λ (ds : List Definition). HasPlaceLines text ds lines.items) c.deref.ensures.value c.in-Ok-source_places.ensures.lines) c.load_named.ensures.same

pub returns-clause-names : goal.returns-clause-names
returns-clause-names c =
    let text = code_text_shown c.args.text in
    let lines = c.in-Ok-source_places.places.lines in
    let frames = c.in-Ok-frames_of_text.frames in
    has_frames text c.in-Ok.definitions.items c.in-Ok.ensures.ok c.load_named.result (record { frames = frames; lines = lines })
    (subst (λ (ds : List Definition). HasFrames text ds frames.items) c.deref-2.ensures.value c.in-Ok-frames_of_text.ensures) c.load_named.ensures.same

pub returns-clause-columns : goal.returns-clause-columns
returns-clause-columns c =
    let text = code_text_shown c.args.text in
    let columns = c.in-Ok-source_places.places.columns in
    has_columns text c.in-Ok.definitions.items c.in-Ok.ensures.ok c.load_named.result columns
    (subst (λ (ds : List Definition). HasPlaceColumns text ds columns.items) c.deref.ensures.value c.in-Ok-source_places.ensures.columns) c.load_named.ensures.columns
