use Rattle.std.proofs.Common.{inl, inr, refl}
use Rattle.bcommand.specs.CommandLine.{question_of, source_shown}
use Rattle.bcore.proofs.Answered.{lib_named_of, named_for}
use Rattle.bcli.proofs.Answered.{asked_of_source}
use Rattle.bcli.proofs.serving.ask_file.Goals as goal

pub returns-in-Ok-clause-does : goal.returns-in-Ok-clause-does
returns-in-Ok-clause-does g c =
    asked_of_source (g.S.Shelf.holdings c.args.shelf.now) (source_shown c.args.source) _ _ _ (question_of c.args.question) _ _ c.in-Ok.ensures.ok c.as_slice.ensures.value refl refl c.ask_read.ensures.answers

pub returns-in-Err-File-clause-does : goal.returns-in-Err-File-clause-does
returns-in-Err-File-clause-does g c =
    inl (named_for _ _ _ _ _ (rw c.in-Err-File.field-0-is at c.in-Err-File.ensures.err) (c.name_file.ensures.names (g.I.ByteIn.incoming c.args.input.now) (g.O.ByteOut.outgoing c.args.out.now)))

pub returns-in-Err-Lib-clause-does : goal.returns-in-Err-Lib-clause-does
returns-in-Err-Lib-clause-does g c =
    inr (inl (lib_named_of (g.S.Shelf.holdings c.args.shelf.now) (source_shown c.args.source) c.in-Err-Lib.lib _ _ (rw c.in-Err-Lib.field-0-is at c.in-Err-Lib.ensures.err)
    (c.name_file-in-Err-Lib.ensures.names (g.I.ByteIn.incoming c.args.input.now) (g.O.ByteOut.outgoing c.args.out.now))))
