use Rattle.std.proofs.Common.{◌∙◌, sym}
use Rattle.bauthor.proofs.Numbers.{is_above, is_read, none_read}
use Rattle.bauthor.proofs.number.number_upto.Goals as goal

pub returns-then-number-last : goal.returns-then-number-last
returns-then-number-last c =
    let is = c.in_ok-number.ensures in
    sym (is_read c.in_ok-number.number c.args.line.now is.0 is.1 c.args.last c.if-number-last.true)

pub returns-else-number-last : goal.returns-else-number-last
returns-else-number-last c =
    let is = c.in_ok-number.ensures in
    sym (is_above c.in_ok-number.number c.args.line.now is.0 is.1 c.args.last c.if-number-last.false)

pub returns-in_err-number : goal.returns-in_err-number
returns-in_err-number c =
    c.from_residual.ensures ∙ sym (none_read c.args.last c.args.line.now c.in_err-number.ensures)
