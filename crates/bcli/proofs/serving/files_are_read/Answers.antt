use Rattle.bcli.proofs.ShellExcluded.{file_is_read}
use Rattle.bcli.proofs.serving.files_are_read.Goals as goal

pub returns : goal.returns
returns c = file_is_read c.args._file
