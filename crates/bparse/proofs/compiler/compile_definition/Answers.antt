use Rattle.std.specs.Map.{keys_of}
use Rattle.bparse.proofs.NamesSteps.{added}
use Rattle.std.proofs.Common.{◌∙◌, sym, subst}
use Rattle.bparse.specs.Locals.{locals_in}
use Rattle.bparse.specs.Steps.{point, refused_step}
use Rattle.bparse.specs.declared.step.Step.TheVariants as step
use Rattle.bparse.proofs.CompilerSteps.{gives_stop, read_fails, fault_stops, end_stops, end_breaks, wrote, fault_after, no_memory, write_breaks, within}
use Rattle.bword.specs.ByteEnds.{Writes, Refuses}
use Rattle.bgrammar.specs.DefinitionReader.{definition}
use Rattle.bread.specs.Parsers.{Halts}
use Rattle.bread.proofs.TokenSteps.{Moves-breaks}
use Rattle.bparse.proofs.MadeSteps.{drafted, end_of, not_end, fault_some, fault_none, names_kept, viewed}
use Rattle.blang.specs.Text.{IsWithinRanges, definition_text}
use Rattle.bparse.proofs.compiler.compile_definition.Goals as goal

pub returns-in_err-look-clause-gives : goal.returns-in_err-look-clause-gives
returns-in_err-look-clause-gives g c =
    gives_stop _ (point c.look.new.self (locals_in c.args.parser.now.draft) (keys_of c.args.names.now) (g.O.CodeOut.outgoing c.args.out.now)) c.from_residual.result step.Device c.from_residual.ensures.1
    (read_fails c.args.parser.now.tokens c.look.new.self (keys_of c.args.names.now) (keys_of c.args.names.now) _ (c.in_err-look.ensures.err))

pub returns-in_err-end-clause-gives : goal.returns-in_err-end-clause-gives
returns-in_err-end-clause-gives g c =
    gives_stop _ (point c.look.new.self (locals_in c.args.parser.now.draft) (keys_of c.args.names.now) (g.O.CodeOut.outgoing c.end.new.self)) c.from_residual-in_err-end.result (refused_step c.in_err-end.field-0.0) c.from_residual-in_err-end.ensures.1
    (end_breaks c.args.parser.now.tokens c.look.new.self (keys_of c.args.names.now) c.in_ok-look.ensures.ok _ _ (end_of _ (sym c.is_at_end.ensures ∙ c.if-is_at_end.true)) _ _ c.in_err-end.field-0.0 c.in_err-end.ensures.gives)

pub returns-then-is_at_end-clause-gives : goal.returns-then-is_at_end-clause-gives
returns-then-is_at_end-clause-gives g c =
    end_stops c.args.parser.now.tokens c.look.new.self (keys_of c.args.names.now) c.in_ok-look.ensures.ok _ _ (end_of _ (sym c.is_at_end.ensures ∙ c.if-is_at_end.true)) c.in_ok-end.ensures.gives

pub returns-in-Err-Fault-clause-gives : goal.returns-in-Err-Fault-clause-gives
returns-in-Err-Fault-clause-gives g c =
    let halted = subst (λ h. Halts definition c.look.new.self h c.definition.new.parser.tokens) c.in-Err-Fault.field-0-is c.in-Err-Fault.ensures in
    fault_stops c.args.parser.now.tokens c.look.new.self (keys_of c.args.names.now) c.in_ok-look.ensures.ok c.definition.new.parser.tokens _ c.fault.result halted.0 halted.1 (not_end _ (sym c.is_at_end.ensures ∙ c.if-is_at_end.false)) c.fault.ensures

pub returns-in-Err-Device-clause-gives : goal.returns-in-Err-Device-clause-gives
returns-in-Err-Device-clause-gives g c =
    let broken = subst (λ h. Halts definition c.look.new.self h c.definition.new.parser.tokens) c.in-Err-Device.field-0-is c.in-Err-Device.ensures in
    read_fails c.args.parser.now.tokens c.definition.new.parser.tokens (keys_of c.args.names.now) (keys_of c.args.names.now) _ (Moves-breaks c.in_ok-look.ensures.ok.moves broken)

pub returns-in-Some-clause-gives : goal.returns-in-Some-clause-gives
returns-in-Some-clause-gives g c =
    let t = c.in-Ok.ensures in
    let d = drafted (keys_of c.args.names.now) c.look.new.self c.definition.new.parser.tokens c.in-Ok.header c.definition.new.parser.draft t in
    fault_after c.args.parser.now.tokens c.look.new.self (keys_of c.args.names.now) c.in_ok-look.ensures.ok c.definition.new.parser.tokens _ t.tree c.in-Ok.header.name t.heads.name t.moves (keys_of c.args.names.now) c.in-Some.fault
    (fault_some (keys_of c.args.names.now) t.tree c.in-Ok.header c.definition.new.parser.draft d c.in-Some.fault c.fault-2.result c.fault-2.ensures c.in-Some.is) t.single

pub returns-in_err-insert-clause-gives : goal.returns-in_err-insert-clause-gives
returns-in_err-insert-clause-gives g c =
    let t = c.in-Ok.ensures in
    let d = drafted (keys_of c.args.names.now) c.look.new.self c.definition.new.parser.tokens c.in-Ok.header c.definition.new.parser.draft t in
    let clean = fault_none (keys_of c.args.names.now) t.tree c.in-Ok.header c.definition.new.parser.draft d c.fault-2.result c.fault-2.ensures c.in_default.not-Some in
    gives_stop _ (point c.definition.new.parser.tokens (locals_in c.resolve.new.self) (keys_of c.insert.new.self) (g.O.CodeOut.outgoing c.args.out.now)) c.from_residual-in_err-insert.result step.Memory c.from_residual-in_err-insert.ensures.1
    (no_memory c.args.parser.now.tokens c.look.new.self (keys_of c.args.names.now) c.in_ok-look.ensures.ok c.definition.new.parser.tokens _ t.tree c.in-Ok.header.name t.heads.name t.moves clean t.single (keys_of c.insert.new.self))

pub put-requires-clause-within : goal.put-requires-clause-within
put-requires-clause-within g c =
    let t = c.in-Ok.ensures in
    let d = drafted (keys_of c.args.names.now) c.look.new.self c.definition.new.parser.tokens c.in-Ok.header c.definition.new.parser.draft t in
    let clean = fault_none (keys_of c.args.names.now) t.tree c.in-Ok.header c.definition.new.parser.draft d c.fault-2.result c.fault-2.ensures c.in_default.not-Some in
    let same = viewed (keys_of c.args.names.now) t.tree c.in-Ok.header c.definition.new.parser.draft d _ c.resolve.new.self clean c.resolve.ensures c.view.ensures in
    subst IsWithinRanges (sym same) (within c.args.parser.now.tokens c.look.new.self (keys_of c.args.names.now) c.in_ok-look.ensures.ok c.definition.new.parser.tokens (g.O.CodeOut.outgoing c.args.out.now) t.tree c.in-Ok.header.name t.heads.name t.moves c.requires.source clean)

pub returns-in_err-put-clause-gives : goal.returns-in_err-put-clause-gives
returns-in_err-put-clause-gives g c =
    let t = c.in-Ok.ensures in
    let d = drafted (keys_of c.args.names.now) c.look.new.self c.definition.new.parser.tokens c.in-Ok.header c.definition.new.parser.draft t in
    let clean = fault_none (keys_of c.args.names.now) t.tree c.in-Ok.header c.definition.new.parser.draft d c.fault-2.result c.fault-2.ensures c.in_default.not-Some in
    let same = viewed (keys_of c.args.names.now) t.tree c.in-Ok.header c.definition.new.parser.draft d _ c.resolve.new.self clean c.resolve.ensures c.view.ensures in
    gives_stop _ (point c.definition.new.parser.tokens (locals_in c.resolve.new.self) (keys_of c.insert.new.self) (g.O.CodeOut.outgoing c.put.new.self)) c.from_residual-in_err-put.result (refused_step c.in_err-put.field-0.0) c.from_residual-in_err-put.ensures.1
    (write_breaks c.args.parser.now.tokens c.look.new.self (keys_of c.args.names.now) c.in_ok-look.ensures.ok c.definition.new.parser.tokens _ t.tree c.in-Ok.header.name t.heads.name t.moves _ _ (keys_of c.insert.new.self) _ c.in_err-put.field-0.0 clean t.single
    (subst (λ x. Refuses (g.O.CodeOut.outgoing c.args.out.now) (definition_text x) c.in_err-put.field-0.0 (g.O.CodeOut.outgoing c.put.new.self)) same c.in_err-put.ensures.gives))

pub returns-clause-gives : goal.returns-clause-gives
returns-clause-gives g c =
    let t = c.in-Ok.ensures in
    let d = drafted (keys_of c.args.names.now) c.look.new.self c.definition.new.parser.tokens c.in-Ok.header c.definition.new.parser.draft t in
    let clean = fault_none (keys_of c.args.names.now) t.tree c.in-Ok.header c.definition.new.parser.draft d c.fault-2.result c.fault-2.ensures c.in_default.not-Some in
    let same = viewed (keys_of c.args.names.now) t.tree c.in-Ok.header c.definition.new.parser.draft d _ c.resolve.new.self clean c.resolve.ensures c.view.ensures in
    wrote c.args.parser.now.tokens c.look.new.self (keys_of c.args.names.now) c.in_ok-look.ensures.ok c.definition.new.parser.tokens _ t.tree c.in-Ok.header.name t.heads.name t.moves _ (keys_of c.insert.new.self) _ clean
    (added c.args.names.now c.insert.new.self t.tree c.in-Ok.header.name 0 _ t.heads.name clean c.in_ok-insert.ensures.there c.in_ok-insert.ensures.known c.in_ok-insert.ensures.len)
    (subst (λ x. Writes (g.O.CodeOut.outgoing c.args.out.now) (definition_text x) (g.O.CodeOut.outgoing c.put.new.self)) same c.in_ok-put.ensures.gives) t.single t.falls t.notes
    (names_kept (keys_of c.args.names.now) t.tree c.in-Ok.header c.definition.new.parser.draft d c.resolve.new.self clean c.resolve.ensures)
