use Rattle.bcodegen.proofs.DefinitionNotes.{one_trail}
use Rattle.bcodegen.proofs.one_pass_notes_the_lines.Goals as goal

pub returns : goal.returns
returns c = one_trail
