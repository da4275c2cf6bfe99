use Rattle.std.proofs.Common.{◌∙◌, map, sym}
use Rattle.bcore.proofs.Answered.{compiled_with, lib_named, not_compiled, shown_some}
use Rattle.bcore.proofs.serving.compile_input.Goals as goal

pub returns-in-Ok-clause-compiles : goal.returns-in-Ok-clause-compiles
returns-in-Ok-clause-compiles g c =
    compiled_with (g.S.Shelf.holdings c.args.shelf.now) c.args.edition (map (λ lib. lib.now) c.args.libs.now) c.text.result.now c.in-Ok.libs _ _
    (shown_some c.args.libs.now (sym c.is_empty.ensures ∙ c.if-is_empty.false)) c.in-Ok.ensures.ok c.text.ensures c.compile_joined.ensures.compiles

pub returns-in-Err-clause-compiles : goal.returns-in-Err-clause-compiles
returns-in-Err-clause-compiles g c =
    not_compiled (g.S.Shelf.holdings c.args.shelf.now) c.args.edition (map (λ lib. lib.now) c.args.libs.now) _ _
    (shown_some c.args.libs.now (sym c.is_empty.ensures ∙ c.if-is_empty.false))
    (lib_named (g.S.Shelf.holdings c.args.shelf.now) (map (λ lib. lib.now) c.args.libs.now) c.in-Err.lib _ _ c.in-Err.ensures.err
    (c.name_file.ensures.names (g.I.ByteIn.incoming c.args.input.now) (g.O.ByteOut.outgoing c.args.out.now)))
