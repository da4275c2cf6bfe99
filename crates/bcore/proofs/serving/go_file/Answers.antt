use Rattle.std.proofs.Common.{inl, inr, refl}
use Rattle.bcommand.specs.CommandLine.{source_shown}
use Rattle.bcore.proofs.Answered.{gone, lib_named_of, not_read}
use Rattle.bcore.proofs.serving.go_file.Goals as goal

pub returns-in-Ok-clause-goes : goal.returns-in-Ok-clause-goes
returns-in-Ok-clause-goes g c =
    gone (g.S.Shelf.holdings c.args.shelf.now) (source_shown c.args.source) c.args.steps c.in-Ok.whole _ _ _ _ _ c.in-Ok.ensures.ok c.as_slice.ensures.value c.new.ensures
    c.go_edition.ensures.goes c.go_edition.ensures.headline

pub returns-in-Err-File-clause-goes : goal.returns-in-Err-File-clause-goes
returns-in-Err-File-clause-goes g c =
    inl (not_read _ c.in-Err-File.fault _ _ (record { unread = refl; silent = refl }) refl (rw c.in-Err-File.field-0-is at c.in-Err-File.ensures.err) c.status_of.ensures)

pub returns-in-Err-Lib-clause-goes : goal.returns-in-Err-Lib-clause-goes
returns-in-Err-Lib-clause-goes g c =
    inr (inl (lib_named_of (g.S.Shelf.holdings c.args.shelf.now) (source_shown c.args.source) c.in-Err-Lib.lib _ _ (rw c.in-Err-Lib.field-0-is at c.in-Err-Lib.ensures.err)
    (c.name_file.ensures.names (g.I.ByteIn.incoming c.args.input.now) (g.O.ByteOut.outgoing c.args.out.now))))
