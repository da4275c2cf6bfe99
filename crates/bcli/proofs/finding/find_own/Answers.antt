use Rattle.std.proofs.Common.{◌≡◌, ◌∙◌, arith, length, refl, sym}
use Rattle.std.proofs.Math.Seq.{take-length}
use Rattle.blang.specs.Reports.{run_ends}
use Rattle.bcli.specs.Passes.{all, none}
use Rattle.bcli.proofs.Passing.{passes_last, passes_next}
use Rattle.bcli.proofs.finding.find_own.Goals as goal

pub loop-file-init : goal.loop-file-init
loop-file-init g c = (λ unread. none _ _ _ refl refl refl refl, refl, refl)

pub loop-file-preserved : goal.loop-file-preserved
loop-file-preserved g c =
    let before = c.loop-file.invariant in (
      λ unread. passes_next _ c.args.search.files.now c.loop-file.file-index _ c.loop-file-test.true
          (run_ends unread unread (g.O.ByteOut.outgoing c.args.out.now) (g.O.ByteOut.outgoing c.find_file-found.new.out) (g.D.ByteOut.outgoing c.args.diag.now) (g.D.ByteOut.outgoing c.find_file-found.new.diag))
          c.loop-file.answer c.find_file-found.result _ _ (before.0 unread) (c.find_file-found.ensures.finds unread) (sym c.goes_on.ensures ∙ c.if-goes_on.true) _ c.answer_of-answer.ensures,
      c.find_file-found.ensures.out_lender ∙ before.1,
      c.find_file-found.ensures.diag_lender ∙ before.2,
    )

pub returns-else-goes_on-clause-finds : goal.returns-else-goes_on-clause-finds
returns-else-goes_on-clause-finds g c = λ unread.
    passes_last _ c.args.search.files.now c.loop-file.file-index _ c.loop-file-test.true
    (run_ends unread unread (g.O.ByteOut.outgoing c.args.out.now) (g.O.ByteOut.outgoing c.find_file-found.new.out) (g.D.ByteOut.outgoing c.args.diag.now) (g.D.ByteOut.outgoing c.find_file-found.new.diag))
    c.loop-file.answer c.find_file-found.result _ _ (c.loop-file.invariant.0 unread) (c.find_file-found.ensures.finds unread) (sym c.goes_on.ensures ∙ c.if-goes_on.false)

pub returns-clause-finds : goal.returns-clause-finds
returns-clause-finds g c = λ unread.
    let whole : c.loop-file.file-index ≡ length c.args.search.files.now = omega arith in
    all (rw (whole, take-length c.args.search.files.now) at c.loop-file.invariant.0 unread)
