use Rattle.bshow.proofs.OwnTexts.{read_back}
use Rattle.bshow.proofs.facts.own_texts_read_back.Goals as goal

pub returns : goal.returns
returns c = read_back
