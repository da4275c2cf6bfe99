use Rattle.bcommand.specs.CommandLine.{command_line}
use Rattle.bcommand.specs.CommandRows.{is_free_line, is_simple_line}
use Rattle.bcommand.proofs.ReadWords.{faulty_words, read_words}
use Rattle.bcommand.proofs.parsing.parse.Goals as goal

pub returns-clause-ok : goal.returns-clause-ok
returns-clause-ok c =
    read_words _ command_line _ c.try_get_matches_from.result c.in_ok-command.ensures is_simple_line is_free_line
    c.try_get_matches_from.ensures.matches c.try_get_matches_from.ensures.kinds

pub returns-clause-err : goal.returns-clause-err
returns-clause-err c =
    faulty_words _ command_line _ c.try_get_matches_from.result c.in_ok-command.ensures is_free_line c.try_get_matches_from.ensures.kinds
