use Rattle.bformat.proofs.FormatExcluded.{wrong_layouts}
use Rattle.bformat.proofs.formatting.wrong_layouts_are_excluded.Goals as goal

pub returns : goal.returns
returns c = wrong_layouts
