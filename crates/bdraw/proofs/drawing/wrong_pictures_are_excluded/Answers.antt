use Rattle.bdraw.proofs.DrawExcluded.{no_pictures, no_tags}
use Rattle.bdraw.proofs.drawing.wrong_pictures_are_excluded.Goals as goal

pub returns : goal.returns
returns c = record { tags = no_tags; pictures = no_pictures }
