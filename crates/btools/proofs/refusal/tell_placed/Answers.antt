use Rattle.std.proofs.Common.{◌∙◌, refl}
use Rattle.bsources.specs.Files.{files_shown}
use Rattle.btools.specs.declared.program.ProgramFault.TheVariants.{Memory}
use Rattle.btools.proofs.Refused.{no_memory, told_both}
use Rattle.btools.proofs.refusal.tell_placed.Goals as goal

pub returns-in-Ok-clause-tells : goal.returns-in-Ok-clause-tells
returns-in-Ok-clause-tells g c = λ origin source has. (
  c.args.fault.now,
  has,
  told_both (files_shown c.args.files) c.in-Faulty.diagnostic c.beyond_first.result c.beyond_first.ensures c.args.fault.now c.in-Faulty.is _ _ c.tell.result c.in-Some.at c.as_slice.result.now
      c.in-Some.is (c.as_slice.ensures ∙ c.in-Ok.ensures) c.tell.ensures.told,
)

pub returns-in-Err-clause-tells : goal.returns-in-Err-clause-tells
returns-in-Err-clause-tells g c = λ origin source has. (Memory, no_memory origin source, (refl, refl))
