-- How far is read where a fault is told.
use Rattle.std.proofs.Common.{◌≡◌, [], refl}
use Rattle.blang.specs.declared.token.Diagnostic.{Diagnostic}
use Rattle.bgrammar.specs.Reading.{after}
use Rattle.bparse.specs.Compilers.{Compiler, CompilerGives}
use Rattle.bparse.specs.declared.step.Step.TheVariants as step

-- one token is held
pub held_at_fault : (old new : Compiler) (fault : Diagnostic) → CompilerGives old (step.Fault fault) new → after new.tokens.ahead ≡ []
held_at_fault old new fault h = ((h.1 h.0.before h.0.since).no_further.stands [] (λ over. refl)).0.1
