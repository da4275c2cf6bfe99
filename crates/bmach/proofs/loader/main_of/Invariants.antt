use Rattle.std.proofs.Common.{◌≡◌, ◌≤◌, drop}
use Rattle.bmach.specs.Loading.{main_from}
use Rattle.bmach.proofs.loader.main_of.Given as goal

abbrev pub invariant-loop-definition : goal.invariant-loop-definition
invariant-loop-definition l =
    record {
      rest : main_from l.functions (drop l.definition-index l.definitions) ≡ main_from 0 l.definitions;
      small : l.functions ≤ l.definition-index;
    }
