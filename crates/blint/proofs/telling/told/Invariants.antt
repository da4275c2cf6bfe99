use Rattle.std.proofs.Common.{◌≡◌, length}
use Rattle.bsources.specs.Files.{files_shown}
use Rattle.blint.specs.Noticed.{first_notices}
use Rattle.blint.specs.Told.{AreRising}
use Rattle.blint.proofs.ToldSteps.{ToldUpTo}
use Rattle.blint.proofs.telling.told.Given as goal

abbrev pub invariant-loop-token : goal.invariant-loop-token
invariant-loop-token l = record {
  firsts : l.firsts.items ≡ first_notices l.notices 0 (length l.tokens.places.now);
  told : AreRising l.tokens.places.now → ToldUpTo (files_shown l.files) l.tokens.places.now l.notices l.token l.cautions.items;
}
