use Rattle.std.proofs.Common.{◌≡◌, ◌∙◌, ◌++◌, [], ap, sym, true}
use Rattle.btree.specs.declared.tags.Phase.TheVariants as phase
use Rattle.btree.specs.declared.sorts.Sort.TheVariants as sort
use Rattle.btree.specs.Machine.{closings, token_in, top_of}
use Rattle.btree.specs.Reading.{is_over}
use Rattle.btree.proofs.Loops.{closings_on, fewer, has_top}
use Rattle.btree.proofs.reading.Reader.end_all.Goals as goal

pub loop-self-smaller : goal.loop-self-smaller
loop-self-smaller c =
    let true_of : is_over (top_of c.loop-self.self.opens) sort.Other ≡ true = sym (ap (λ o. is_over o sort.Other) c.top.ensures) ∙ sym c.is_over.ensures ∙ c.loop-self-test.true in
    let top = has_top c.loop-self.self.opens sort.Other true_of in
    fewer c.args.self.now c.loop-self.self c.end_innermost.new.self (token_in phase.Over []) top.0 top.1.0 top.1.1 c.in_ok-end_innermost.ensures

pub loop-self-preserved : goal.loop-self-preserved
loop-self-preserved c =
    let true_of : is_over (top_of c.loop-self.self.opens) sort.Other ≡ true = sym (ap (λ o. is_over o sort.Other) c.top.ensures) ∙ sym c.is_over.ensures ∙ c.loop-self-test.true in
    let top = has_top c.loop-self.self.opens sort.Other true_of in
    closings_on c.args.self.now c.loop-self.self c.end_innermost.new.self (token_in phase.Over []) top.0 top.1.0 top.1.1 c.in_ok-end_innermost.ensures (c.args.self.now.tags.items ++ closings c.args.self.now.opens) true_of c.loop-self.invariant
