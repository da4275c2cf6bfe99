use Rattle.std.proofs.Common.{◌≡◌, ◌<◌, length, Some, refl, sym, ap, ◌∙◌, ltb-true}
use Rattle.std.proofs.lemmas.Option.{slice_get_read}
use Rattle.std.specs.Cmp.Lexicographic.{bytes_decides}
use Rattle.blang.specs.Layout.{address_in}
use Rattle.bmach.proofs.address_table.kept.Goals as goal

pub returns-in-Some-Some : goal.returns-in-Some-Some
returns-in-Some-Some c known are =
    let k = c.in-Some-Some.known in
    let slots = c.args.slots.now in
    let lookup = c.in-Some-Some.ensures.lookup in
    let within : c.slot_of.result < length slots = ltb-true c.slot_of.result (length slots) (sym lookup.0) in
    let same : k.name ≡ c.args.name.now = (bytes_decides k.name c.args.name.now).0 (sym c.eq.ensures ∙ c.if-eq.true) in
    let there = slice_get_read slots (length slots) c.slot_of.result c.in-Some-Some.field-0.now refl within lookup.1 in
    ap (address_in known) (sym same) ∙ are c.slot_of.result k (there ∙ ap Some c.in-Some-Some.field-0-is)
