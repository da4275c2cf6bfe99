use Rattle.std.proofs.Common.{◌≡◌, ◌∙◌, ap, sym, true}
use Rattle.btree.specs.Machine.{over, top_of}
use Rattle.btree.specs.Reading.{is_over}
use Rattle.btree.proofs.Loops.{over_on, fewer, has_top}
use Rattle.btree.proofs.reading.Reader.over.Goals as goal

pub loop-self-smaller : goal.loop-self-smaller
loop-self-smaller c =
    let true_of : is_over (top_of c.loop-self.self.opens) c.args.sort ≡ true = sym (ap (λ o. is_over o c.args.sort) c.top.ensures) ∙ sym c.is_over.ensures ∙ c.loop-self-test.true in
    let top = has_top c.loop-self.self.opens c.args.sort true_of in
    fewer c.args.self.now c.loop-self.self c.end_innermost.new.self (over c.args.self.now.opens c.args.sort c.args.next) top.0 top.1.0 top.1.1 c.in_ok-end_innermost.ensures

pub loop-self-preserved : goal.loop-self-preserved
loop-self-preserved c =
    let true_of : is_over (top_of c.loop-self.self.opens) c.args.sort ≡ true = sym (ap (λ o. is_over o c.args.sort) c.top.ensures) ∙ sym c.is_over.ensures ∙ c.loop-self-test.true in
    let top = has_top c.loop-self.self.opens c.args.sort true_of in
    over_on c.args.self.now c.loop-self.self c.end_innermost.new.self (over c.args.self.now.opens c.args.sort c.args.next) top.0 top.1.0 top.1.1 c.in_ok-end_innermost.ensures c.args.sort c.args.next true_of c.loop-self.invariant
