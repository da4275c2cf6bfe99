-- Inner words: what the rows of the table of commands say to `clap`.
use Rattle.std.specs.Prelude.{List, fold}
use Rattle.clap.specs.Words.{App, Rule, Text, new_app, with_rule, with_subcommand}
use Rattle.bcommand.specs.CommandLine.{argument_rule, arguments_rule, bare_line, flag_rule, number_rule, repeated_rule, text_rule}
use Rattle.bcommand.specs.declared.commands.ArgumentRow.{ArgumentRow}
use Rattle.bcommand.specs.declared.commands.CommandRow.{CommandRow}
use Rattle.bcommand.specs.declared.commands.GivenAs.{GivenAs}
use Rattle.bcommand.specs.declared.commands.GivenAs.TheVariants.{Attached, Flag, Number, Text as Texted, Repeated, Positional, Positionals}

abbrev pub rule_by : GivenAs → Text → Rule
rule_by (Flag is_required) id = record (flag_rule id) { required = is_required }
rule_by (Number most) id = number_rule id most
rule_by (Texted name) id = text_rule id
rule_by (Repeated name) id = repeated_rule id
rule_by (Attached name) id = text_rule id
rule_by (Positional is_required) id = argument_rule id is_required
rule_by Positionals id = arguments_rule id

abbrev pub rule_in : ArgumentRow → Rule
rule_in row = rule_by row.kind row.id.now

abbrev pub command_in : CommandRow → App
command_in row =
    fold (λ command argument. with_rule command (rule_in argument)) (new_app row.name.now) row.arguments.now

-- the command line with the commands of these rows
abbrev pub line_in : List CommandRow → App
line_in rows = fold (λ all row. with_subcommand all (command_in row).top) bare_line rows
