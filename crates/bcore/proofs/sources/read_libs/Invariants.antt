use Rattle.std.proofs.Common.{take}
use Rattle.bcore.proofs.ReadLibs.{shown}
use Rattle.bcore.specs.Reading.{HasReadLibs}
use Rattle.bcore.proofs.sources.read_libs.Given as goal

abbrev pub invariant-loop-name : goal.invariant-loop-name
invariant-loop-name g l = HasReadLibs (g.S.Shelf.holdings l.shelf) (shown (take l.name-index l.names)) l.libs
