use Rattle.std.proofs.Common.{◌∙◌, ℕ, List, ap, refl, subst}
use Rattle.blist.specs.Maps.{map_text, mapped, stopped}
use Rattle.blang.specs.Reports.{Reported}
use Rattle.btools.specs.declared.program.ProgramFault.TheVariants.{Memory}
use Rattle.btools.specs.Origins.{origin_shown}
use Rattle.btools.proofs.Refused.{no_memory}
use Rattle.blist.proofs.layout.map.Goals as goal

pub returns-in-Err-clause-maps : goal.returns-in-Err-clause-maps
returns-in-Err-clause-maps g c = stopped (c.in-Err.fault, c.in-Err.ensures.program, c.tell_fault.ensures.tells) refl

pub returns-in-Ok-map_text-clause-maps : goal.returns-in-Ok-map_text-clause-maps
returns-in-Ok-map_text-clause-maps g c =
    mapped c.in-Ok.program.definitions.items c.in-Ok.program.image c.in-Ok.ensures.program ((c.in-Ok.program.names.lines.items, c.in-Ok.ensures.lines), (c.in-Ok.program.names.frames.items, c.in-Ok.ensures.names)) refl
    (subst (λ (t : List ℕ). Reported t 0 (g.O.ByteOut.outgoing c.args.out.now) (g.O.ByteOut.outgoing c.tell.new.out) c.tell.result)
    (c.as_slice.ensures ∙ c.in-Ok-map_text.ensures ∙ ap (map_text c.in-Ok.program.image) c.deref.ensures.value) c.tell.ensures.told)

pub returns-clause-maps : goal.returns-clause-maps
returns-clause-maps g c = stopped (Memory, no_memory (origin_shown c.args.origin) c.args.source.now, (refl, refl)) refl
