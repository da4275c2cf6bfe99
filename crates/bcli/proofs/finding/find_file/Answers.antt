use Rattle.std.proofs.Common.{inl, inr, refl}
use Rattle.bfind.specs.Finds.{Finds}
use Rattle.bcore.proofs.Answered.{held, named_for}
use Rattle.bcli.specs.Serves.{form_of}
use Rattle.bcli.proofs.Passing.{alone}
use Rattle.bcli.proofs.finding.find_file.Goals as goal

pub returns-in-Ok-clause-finds : goal.returns-in-Ok-clause-finds
returns-in-Ok-clause-finds g c = λ unread.
    inr (
      c.as_slice-source.result.now,
      held (g.S.Shelf.holdings c.args.shelf.now) c.args.file.now _ _ c.as_slice-source.ensures.value c.in-Ok.ensures.text,
      refl,
      alone c.new-first.result c.new-none.result c.args.file.now c.as_slice-source.result.now c.new-first.ensures c.new-none.ensures
          (λ files. Finds c.args.search.edition (form_of c.args.search.for_editor) files c.as_slice-source.result.now c.args.own.now
          (g.O.ByteOut.outgoing c.args.out.now) (g.O.ByteOut.outgoing c.find_read.new.out) (g.D.ByteOut.outgoing c.args.diag.now) (g.D.ByteOut.outgoing c.find_read.new.diag) c.find_read.result)
          c.find_read.ensures.finds,
    )

pub returns-in-Err-clause-finds : goal.returns-in-Err-clause-finds
returns-in-Err-clause-finds g c = λ unread.
    inl (named_for _ _ _ _ _ c.in-Err.ensures.fault (c.name_file.ensures.names unread (g.O.ByteOut.outgoing c.args.out.now)))
