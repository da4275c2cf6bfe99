use Rattle.std.proofs.Common.{◌≡◌, ◌∙◌, ap, sym, true}
use Rattle.btree.specs.Machine.{close, top_of}
use Rattle.btree.specs.Reading.{is_in_block}
use Rattle.btree.proofs.Loops.{close_on, fewer, has_inner}
use Rattle.btree.proofs.reading.Reader.close.Goals as goal

pub loop-self-smaller : goal.loop-self-smaller
loop-self-smaller c =
    let true_of : is_in_block (top_of c.loop-self.self.opens) ≡ true = sym (ap is_in_block c.top.ensures) ∙ sym c.is_in_block.ensures ∙ c.loop-self-test.true in
    let top = has_inner c.loop-self.self.opens true_of in
    fewer c.args.self.now c.loop-self.self c.end_innermost.new.self (close c.args.self.now.opens) top.0 top.1.0 top.1.1 c.in_ok-end_innermost.ensures

pub loop-self-preserved : goal.loop-self-preserved
loop-self-preserved c =
    let true_of : is_in_block (top_of c.loop-self.self.opens) ≡ true = sym (ap is_in_block c.top.ensures) ∙ sym c.is_in_block.ensures ∙ c.loop-self-test.true in
    let top = has_inner c.loop-self.self.opens true_of in
    close_on c.args.self.now c.loop-self.self c.end_innermost.new.self (close c.args.self.now.opens) top.0 top.1.0 top.1.1 c.in_ok-end_innermost.ensures true_of c.loop-self.invariant
