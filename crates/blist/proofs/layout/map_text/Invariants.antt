use Rattle.std.proofs.Common.{◌≡◌, ◌++◌, take}
use Rattle.std.specs.List.{flat_map}
use Rattle.blang.specs.Layout.{shape_of}
use Rattle.blist.specs.declared.layout.TheConstants.{HEADING}
use Rattle.blist.specs.Maps.{map_row}
use Rattle.blist.proofs.layout.map_text.Given as goal

abbrev pub invariant-loop-definition : goal.invariant-loop-definition
invariant-loop-definition l =
    l.text ≡ HEADING.now ++ flat_map (λ d. map_row l.image (shape_of d)) (take l.definition-index l.definitions)
