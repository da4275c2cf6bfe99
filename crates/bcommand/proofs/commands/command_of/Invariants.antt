use Rattle.std.proofs.Common.{◌≡◌, take}
use Rattle.std.specs.List.{fold}
use Rattle.clap.specs.Words.{app_of, new_app, with_rule}
use Rattle.bcommand.specs.Rows.{rule_in}
use Rattle.bcommand.proofs.commands.command_of.Given as goal

abbrev pub invariant-loop-argument : goal.invariant-loop-argument
invariant-loop-argument l = app_of l.command ≡ fold (λ command argument. with_rule command (rule_in argument)) (new_app l.fn.row.name.now) (take l.argument-index l.fn.row.arguments.now)
