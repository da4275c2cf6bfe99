use Rattle.std.proofs.Common.{◌≡◌, ◌++◌, List, ℕ, refl, subst}
use Rattle.std.specs.Prelude.{OnOk}
use Rattle.bfind.specs.declared.telling.Told.{Told}
use Rattle.bfind.specs.Finds.{telling_of}
use Rattle.bfind.proofs.Places.{object_told}
use Rattle.bfind.proofs.telling.push_place.Goals as goal

pub returns-in-Json : goal.returns-in-Json
returns-in-Json c =
    let setting = c.args.setting.now in
    let told : Told = record { file = setting.asked.files.first.name; severity = setting.severity; shown = c.shown_at.result; words = c.args.words } in
    let same = object_told (telling_of setting) c.args.place.now told c.shown_at.ensures refl refl in
    rw c.in-Json.is (subst (λ (t : List ℕ). OnOk c.push_object.result (c.push_object.new.text ≡ c.args.text.now ++ t)) same c.push_object.ensures)
