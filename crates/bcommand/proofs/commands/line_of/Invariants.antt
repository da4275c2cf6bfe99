use Rattle.std.proofs.Common.{◌≡◌, take}
use Rattle.clap.specs.Words.{app_of}
use Rattle.bcommand.specs.Rows.{line_in}
use Rattle.bcommand.proofs.commands.line_of.Given as goal

abbrev pub invariant-loop-row : goal.invariant-loop-row
invariant-loop-row l = app_of l.all ≡ line_in (take l.row-index l.rows)
