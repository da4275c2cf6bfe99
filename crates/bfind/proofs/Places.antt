-- What is told of a place, by what is shown of it.
use Rattle.std.proofs.Common.{◌≡◌, refl}
use Rattle.bmatch.specs.declared.tree.TokenPlace.{TokenPlace}
use Rattle.bcheck.specs.declared.form.FindingForm.TheVariants as form
use Rattle.bfind.specs.declared.telling.Told.{Told}
use Rattle.bfind.specs.Finds.{IsShown, Telling, place_object, place_text}

pub object_told : (t : Telling) (p : TokenPlace) (it : Told) → IsShown t.source p it.shown → it.file.now ≡ t.files.first.name
    → it.severity ≡ t.severity → place_object it ≡ place_text form.Json t p it.words.now
object_told t p it shown file severity =
    rw (file, severity, shown.line, shown.column, shown.marks, shown.unit, shown.unit_end) refl
