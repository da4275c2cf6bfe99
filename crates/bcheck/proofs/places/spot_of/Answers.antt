use Rattle.std.proofs.Common.{◌∙◌, ap, drop, sym, take}
use Rattle.std.proofs.lemmas.List.{take-append-drop}
use Rattle.bsources.specs.Files.{files_shown, own_line}
use Rattle.bcheck.proofs.TokenPlaces.{several_is}
use Rattle.bplaces.specs.declared.units.UnitPlace.{UnitPlace}
use Rattle.bcheck.proofs.places.spot_of.Goals as goal

pub returns : goal.returns
returns c =
    let source = c.args.source.now in
    let start = c.in-Some.place.start in (
      take start source,
      drop start source,
      sym (take-append-drop start source),
      c.own_line.ensures ∙ ap (own_line (files_shown c.args.files.now)) c.position-line.ensures.line,
      several_is c.args.files.now.rest.now.files c.is_empty.result c.is_empty.ensures,
      c.position-line.ensures.column,
      ap (λ (u : UnitPlace). u.column) c.position-line.ensures.units,
    )
