-- What a command becomes when the arguments and the commands of rows are added to it.
use Rattle.std.proofs.Common.{◌≡◌, ◌∙◌, ◌<◌, ◌+◌, ℕ, List, [], ◌∷◌, None, length, take, refl, sym, ap}
use Rattle.std.specs.List.{fold, slice_index_or}
use Rattle.std.proofs.lemmas.List.Sums.{fold_more}
use Rattle.clap.specs.Words.{AddsSubcommand, App, app_of, new_app, with_rule, with_subcommand}
use Rattle.clap.specs.declared.builder.command.Command.{Command}
use Rattle.clap.proofs.SimpleLemmas.{plain_fields}
use Rattle.bcommand.specs.CommandLine.{bare_line}
use Rattle.bcommand.specs.Rows.{command_in, line_in, rule_in}
use Rattle.bcommand.specs.declared.commands.ArgumentRow.{ArgumentRow}
use Rattle.bcommand.specs.declared.commands.CommandRow.{CommandRow}

-- arguments leave a command plain
stays_plain : (a : App) (rows : List ArgumentRow) → (fold (λ command row. with_rule command (rule_in row)) a rows).top.is_plain ≡ a.top.is_plain
stays_plain a [] = refl
stays_plain a (r ∷ rows) = stays_plain (with_rule a (rule_in r)) rows

-- a command of a row has no argument that is another's, too
added : (old sub new : Command) (row : CommandRow) → AddsSubcommand old sub new → app_of sub ≡ command_in row
    → app_of new ≡ with_subcommand (app_of old) (command_in row).top
added old sub new row adds is =
    let plain = ap (λ (a : App). a.top.is_plain) is ∙ stays_plain (new_app row.name.now) row.arguments.now in
    adds.shape (plain_fields sub plain).globals ∙ ap (λ (a : App). with_subcommand (app_of old) a.top) is

abbrev pub no_row : CommandRow
no_row = record {
  name = record { ref_ptr = (0, 0); now = [] };
  about = record { ref_ptr = (0, 0); now = [] };
  usage = None;
  help = record { ref_ptr = (0, 0); now = [] };
  arguments = record { ref_ptr = (0, 0); now = [] };
}

-- the command of the next row
pub extended : (old sub new : Command) (rows : List CommandRow) (i : ℕ) → i < length rows → AddsSubcommand old sub new
    → app_of old ≡ line_in (take i rows) → app_of sub ≡ command_in (slice_index_or rows i no_row)
    → app_of new ≡ line_in (take (i + 1) rows)
extended old sub new rows i lt adds before is =
    added old sub new (slice_index_or rows i no_row) adds is
    ∙ ap (λ (a : App). with_subcommand a (command_in (slice_index_or rows i no_row)).top) before
    ∙ sym (fold_more (λ all row. with_subcommand all (command_in row).top) bare_line rows i no_row lt)
