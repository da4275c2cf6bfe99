use Rattle.std.proofs.Common.{◌≡◌, ◌++◌, codes, map, take}
use Rattle.blang.specs.Layout.{data_end, shape_of}
use Rattle.bshow.proofs.FactParts.{texts_of}
use Rattle.bshow.proofs.facts.push_definitions.Given as goal

abbrev pub invariant-loop-definition : goal.invariant-loop-definition
invariant-loop-definition l = record {
  address : l.address ≡ data_end (map shape_of (take l.definition-index l.definitions));
  text : l.text ≡ (l.fn.text ++ codes "[") ++ texts_of (take l.definition-index l.definitions);
}
