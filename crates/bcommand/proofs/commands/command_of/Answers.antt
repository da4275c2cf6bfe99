use Rattle.std.proofs.Common.{◌∙◌, sym, ap₂}
use Rattle.std.proofs.lemmas.List.Sums.{fold_more}
use Rattle.clap.specs.Words.{new_app, with_rule}
use Rattle.bcommand.specs.Rows.{rule_in}
use Rattle.bcommand.proofs.commands.command_of.Goals as goal

pub loop-argument-preserved : goal.loop-argument-preserved
loop-argument-preserved c =
    c.in_ok-command.ensures.shape c.argument_of.ensures.local
    ∙ ap₂ with_rule c.loop-argument.invariant c.argument_of.ensures.rule
    ∙ sym (fold_more (λ command argument. with_rule command (rule_in argument)) (new_app c.args.row.name.now) c.args.row.arguments.now c.loop-argument.argument-index _ c.loop-argument-test.true)
