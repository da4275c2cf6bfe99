use Rattle.std.proofs.Common.{ap, ◌∙◌}
use Rattle.bword.specs.Words.{number_of_bytes}
use Rattle.bword.proofs.NameNumbers.{array_number}
use Rattle.bword.proofs.name.Name.number.Goals as goal

pub returns-clause-number : goal.returns-clause-number
returns-clause-number c =
    let held = c.self.invariant in
    c.from_be_bytes.ensures ∙ array_number c.self.inside.bytes c.self.inside.len held.1 held.2 ∙ ap (number_of_bytes 8) c.self.view_is
