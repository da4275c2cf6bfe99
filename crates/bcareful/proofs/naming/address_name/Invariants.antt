use Rattle.std.proofs.Common.{◌≡◌, ◌-◌, drop}
use Rattle.bcareful.specs.Tellings.{data_name}
use Rattle.bcareful.proofs.naming.address_name.Given as goal

-- none of the definitions so far has the word
abbrev pub invariant-loop-definition : goal.invariant-loop-definition
invariant-loop-definition l =
    data_name (drop l.definition-index l.definitions) l.offset ≡ data_name l.definitions (l.address - 7)
