use Rattle.std.proofs.Common.{◌≡◌, take, vec_items}
use Rattle.std.specs.Prelude.{flat_map}
use Rattle.blang.specs.Layout.{name_in_value}
use Rattle.bcheck.proofs.mention.names_of_values.Given as goal

abbrev pub invariant-loop-value : goal.invariant-loop-value
invariant-loop-value l = vec_items l.names ≡ flat_map name_in_value (take l.value-index l.values)
