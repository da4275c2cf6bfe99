use Rattle.std.proofs.Common.{◌≡◌, drop, map, take}
use Rattle.blang.specs.Layout.{data_end, shape_of}
use Rattle.bwhere.specs.Sites.{site_among}
use Rattle.bwhere.proofs.site.site_of.Given as goal

-- where the next definition lies, and that the function is found among the rest
abbrev pub invariant-loop-definition : goal.invariant-loop-definition
invariant-loop-definition l = record {
  address : l.address ≡ data_end (map shape_of (take l.definition-index l.definitions));
  same : site_among l.address l.before l.strings (drop l.definition-index l.definitions) ≡ site_among 7 l.opening l.strings l.definitions;
}
