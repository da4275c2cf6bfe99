use Rattle.std.specs.Prelude.{◌≡◌, false}
use Rattle.bread.specs.Tokens.{work}
use Rattle.bparse.specs.Compilers.{SameCompiler}
use Rattle.bparse.specs.Watches.{KeptSince}
use Rattle.bparse.proofs.compiling.compile_all.Given as goal

abbrev pub invariant-definitions : goal.invariant-definitions
invariant-definitions g l = SameCompiler l.fn.compiler l.compiler × (l.compiler.is_closed ≡ false) × KeptSince (g.W.Watcher.kept l.fn.watcher) l.compiler (g.W.Watcher.kept l.watcher)

abbrev pub decreases-definitions : goal.decreases-definitions
decreases-definitions g l = work l.compiler.tokens
