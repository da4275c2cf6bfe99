use Rattle.std.proofs.Common.{◌∙◌, subst, sym}
use Rattle.blint.proofs.SourceSteps.{Reads, found_in, reads_end, reads_more}
use Rattle.blint.proofs.cutting.cut.Goals as goal

pub returns-then-is_end : goal.returns-then-is_end
returns-then-is_end c =
    let i = c.loop-scanner.invariant in
    let p = c.args.program.now in
    let found = found_in _ _ _ p.edition p.text.now c.next-found.ensures.finds i.edition i.source in
    reads_end p.edition p.text.now _ _ c.next-found.result found i.reads (sym c.is_end.ensures ∙ c.if-is_end.true)

pub loop-scanner-preserved : goal.loop-scanner-preserved
loop-scanner-preserved c =
    let i = c.loop-scanner.invariant in
    let p = c.args.program.now in
    let finds = c.next-found.ensures.finds in
    let found = found_in _ _ _ p.edition p.text.now finds i.edition i.source in
    let more = reads_more p.edition p.text.now _ _ c.next-found.result found i.reads c.take.new.self c.in_ok-take.ensures (sym c.is_end.ensures ∙ c.if-is_end.false) in
    record {
      reads = subst (λ at. Reads p.edition p.text.now c.take.new.self at) (sym finds.at) more;
      edition = finds.edition ∙ i.edition;
      source = finds.source ∙ i.source;
    }
