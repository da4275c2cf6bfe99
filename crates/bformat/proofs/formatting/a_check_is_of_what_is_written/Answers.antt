use Rattle.bformat.proofs.FormatExcluded.{checks_as_written}
use Rattle.bformat.proofs.formatting.a_check_is_of_what_is_written.Goals as goal

pub returns : goal.returns
returns c = checks_as_written
