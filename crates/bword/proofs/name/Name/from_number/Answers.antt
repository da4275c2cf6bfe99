use Rattle.bword.proofs.NameBytes.{number_array, number_name}
use Rattle.bword.proofs.name.Name.from_number.Goals as goal

pub invariant_of-result : goal.invariant_of-result
invariant_of-result c = number_array _ _ _ c.requires (rw c.from.ensures at c.to_be_bytes.ensures)

pub returns : goal.returns
returns c = number_name _ _ _ c.requires (rw c.from.ensures at c.to_be_bytes.ensures)
