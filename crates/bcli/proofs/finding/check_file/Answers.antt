use Rattle.std.proofs.Common.{inl, inr, refl}
use Rattle.bcommand.specs.CommandLine.{source_shown}
use Rattle.bcore.proofs.Answered.{lib_named_of, named_for}
use Rattle.bcli.proofs.Passing.{checked_source}
use Rattle.bcli.proofs.finding.check_file.Goals as goal

pub returns-in-Ok-clause-checks : goal.returns-in-Ok-clause-checks
returns-in-Ok-clause-checks g c = λ unread.
    checked_source (g.S.Shelf.holdings c.args.shelf.now) (source_shown c.args.source) _ _ _ c.args.rules.now c.args.for_editor _ _ c.in-Ok.ensures.ok c.as_slice.ensures.value refl refl (c.check_read.ensures.checks unread)

pub returns-in-Err-File-clause-checks : goal.returns-in-Err-File-clause-checks
returns-in-Err-File-clause-checks g c = λ unread.
    inl (named_for _ _ _ _ _ (rw c.in-Err-File.field-0-is at c.in-Err-File.ensures.err) (c.name_file.ensures.names unread (g.O.ByteOut.outgoing c.args.out.now)))

pub returns-in-Err-Lib-clause-checks : goal.returns-in-Err-Lib-clause-checks
returns-in-Err-Lib-clause-checks g c = λ unread.
    inr (inl (lib_named_of (g.S.Shelf.holdings c.args.shelf.now) (source_shown c.args.source) c.in-Err-Lib.lib _ _ (rw c.in-Err-Lib.field-0-is at c.in-Err-Lib.ensures.err)
    (c.name_file-in-Err-Lib.ensures.names unread (g.O.ByteOut.outgoing c.args.out.now))))
