use Rattle.std.proofs.Common.{◌∙◌, List, ℕ, subst, sym}
use Rattle.blang.specs.Compiles.{line_of}
use Rattle.blang.specs.Reports.{Reported}
use Rattle.btools.specs.Programs.{TellsFault}
use Rattle.btools.specs.declared.program.ProgramFault.{ProgramFault}
use Rattle.btools.proofs.refusal.tell_fault.Goals as goal

pub returns-in-Unlined-clause-tells : goal.returns-in-Unlined-clause-tells
returns-in-Unlined-clause-tells g c =
    let old = g.D.ByteOut.outgoing c.args.diag.now in
    let new = g.D.ByteOut.outgoing c.tell-in-Unlined.new.out in
    let status = c.tell-in-Unlined.result in
    subst (λ (f : ProgramFault). TellsFault line_of f old new status) (sym c.in-Unlined.is)
    (subst (λ (t : List ℕ). Reported t 135 old new status) (c.as_bytes-in-Unlined.ensures.value ∙ c.as_str-in-Unlined.ensures.value ∙ c.unlined_line.ensures) c.tell-in-Unlined.ensures.told)

pub returns-in-Unnamed-clause-tells : goal.returns-in-Unnamed-clause-tells
returns-in-Unnamed-clause-tells g c =
    let old = g.D.ByteOut.outgoing c.args.diag.now in
    let new = g.D.ByteOut.outgoing c.tell-in-Unnamed.new.out in
    let status = c.tell-in-Unnamed.result in
    subst (λ (f : ProgramFault). TellsFault line_of f old new status) (sym c.in-Unnamed.is)
    (subst (λ (t : List ℕ). Reported t 135 old new status) (c.as_bytes-in-Unnamed.ensures.value ∙ c.as_str-in-Unnamed.ensures.value ∙ c.unnamed_line.ensures) c.tell-in-Unnamed.ensures.told)
