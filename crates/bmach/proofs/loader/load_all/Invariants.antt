use Rattle.std.proofs.Common.{◌≡◌, ◌++◌, None}
use Rattle.std.specs.Prelude.{flat_map, fold}
use Rattle.blang.specs.Layout.{first_undefined, names_in}
use Rattle.bmach.specs.Loading.{first_part, known_in, with_definition}
use Rattle.bmach.specs.Parts.{part_of}
use Rattle.bmach.proofs.loader.load_all.Given as goal

abbrev pub invariant-loop-definition : goal.invariant-loop-definition
invariant-loop-definition l =
    let known = known_in l.addresses in
    record {
      part : part_of l.part ≡ fold (with_definition known) first_part l.yielded;
      defined : first_undefined known (flat_map names_in l.yielded) ≡ None;
      all : l.yielded ++ l.definition-iterator.rest.items ≡ l.fn.definitions.items;
    }
