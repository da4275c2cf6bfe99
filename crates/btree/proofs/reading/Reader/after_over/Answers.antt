use Rattle.std.proofs.Common.{◌≡◌, ◌∙◌, IfOk, ap, false, subst, sym}
use Rattle.btree.specs.Machine.{Turn, top_of}
use Rattle.btree.specs.Reading.{Took, takes_else}
use Rattle.btree.proofs.Loops.{begins_after}
use Rattle.btree.proofs.reading.Reader.after_over.Goals as goal

pub returns-else-takes_else : goal.returns-else-takes_else
returns-else-takes_else c =
    let false_of : takes_else (top_of c.args.self.now.opens) c.args.sort ≡ false = sym (ap (λ o. takes_else o c.args.sort) c.top.ensures) ∙ sym c.takes_else.ensures ∙ c.if-takes_else.false in
    subst (λ (t : Turn). IfOk c.begin.result (λ done. Took c.args.self.now t c.begin.new.self)) (sym (begins_after c.args.self.now.opens c.args.sort c.args.next false_of)) c.begin.ensures
