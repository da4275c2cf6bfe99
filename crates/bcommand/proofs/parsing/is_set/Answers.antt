use Rattle.std.proofs.Common.{◌∙◌, false, ap}
use Rattle.std.specs.Prelude.{codes}
use Rattle.std.specs.Option.{option_map_or}
use Rattle.std.specs.Str.{bytes_eq}
use Rattle.clap.specs.Words.{found_of}
use Rattle.clap.proofs.WalkLemmas.{one_text-rows}
use Rattle.bcommand.proofs.GivenOptions.{flag_is}
use Rattle.bcommand.proofs.parsing.is_set.Goals as goal

pub returns : goal.returns
returns c =
    c.unwrap_or.ensures
    ∙ flag_is _ (λ t r gives. gives) _ c.get_one.result c.get_one.ensures.none c.get_one.ensures.value
    ∙ ap (λ found. option_map_or (λ t. bytes_eq t (codes "true")) found false) (one_text-rows (found_of c.args.given.now) c.args.id.now)
