use Rattle.std.proofs.Common.{refl, ◌∙◌}
use Rattle.std.specs.Prelude.{codes}
use Rattle.clap.specs.Words.{found_of}
use Rattle.clap.proofs.WalkLemmas.{raw_values-rows}
use Rattle.bcommand.proofs.GivenOptions.{texts_or}
use Rattle.bcommand.proofs.parsing.files_of.Goals as goal

pub returns : goal.returns
returns c =
    texts_or c.get_strs.result _ _ _ refl c.unwrap_or.ensures
    (c.get_strs.ensures ∙ raw_values-rows (found_of c.args.given.now) (codes "FILE"))
