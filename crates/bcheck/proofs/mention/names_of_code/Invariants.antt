use Rattle.std.proofs.Common.{◌≡◌, take, vec_items}
use Rattle.std.specs.Prelude.{flat_map}
use Rattle.blang.specs.Layout.{name_in_instr}
use Rattle.bcheck.proofs.mention.names_of_code.Given as goal

abbrev pub invariant-loop-instr : goal.invariant-loop-instr
invariant-loop-instr l = vec_items l.names ≡ flat_map name_in_instr (take l.instr-index l.code)
