use Rattle.std.proofs.Common.{◌≡◌, take}
use Rattle.bword.specs.ByteEnds.{Incoming}
use Rattle.blang.specs.Reports.{run_ends}
use Rattle.bcli.proofs.Passing.{shown}
use Rattle.bcli.specs.Passes.{Passes}
use Rattle.bcli.specs.Serves.{FindsFile}
use Rattle.bcli.proofs.finding.find_own.Given as goal

abbrev pub invariant-loop-file : goal.invariant-loop-file
invariant-loop-file g l =
    ((unread : Incoming) → Passes (FindsFile (g.S.Shelf.holdings l.shelf) l.own l.search.edition l.search.for_editor) (shown (take l.file-index l.search.files.now))
    (run_ends unread unread (g.O.ByteOut.outgoing l.fn.out) (g.O.ByteOut.outgoing l.out) (g.D.ByteOut.outgoing l.fn.diag) (g.D.ByteOut.outgoing l.diag)) l.answer)
    × (g.O.ByteOut.lender l.out ≡ g.O.ByteOut.lender l.fn.out) × (g.D.ByteOut.lender l.diag ≡ g.D.ByteOut.lender l.fn.diag)
