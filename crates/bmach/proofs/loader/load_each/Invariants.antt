use Rattle.std.proofs.Common.{◌≡◌, None, take}
use Rattle.std.specs.Prelude.{flat_map, fold}
use Rattle.blang.specs.Layout.{first_undefined, names_in}
use Rattle.bmach.specs.Loading.{first_part, known_in, with_definition}
use Rattle.bmach.specs.Parts.{part_of}
use Rattle.bmach.proofs.loader.load_each.Given as goal

abbrev pub invariant-loop-definition : goal.invariant-loop-definition
invariant-loop-definition l =
    let known = known_in l.addresses in
    let before = take l.definition-index l.definitions in
    record {
      part : part_of l.part ≡ fold (with_definition known) first_part before;
      defined : first_undefined known (flat_map names_in before) ≡ None;
    }
