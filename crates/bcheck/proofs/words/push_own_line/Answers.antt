use Rattle.std.specs.Prelude.{decimal}
use Rattle.bcheck.proofs.AddedFindings.{on_ok}
use Rattle.bcheck.proofs.OnLine.{digits_on_line, words_on_line}
use Rattle.bcheck.proofs.words.push_own_line.Goals as goal

pub returns : goal.returns
returns c = λ h.
    on_ok c.push_number.result _ _ (λ e. words_on_line c.args.text.now (decimal c.args.line) _ h (digits_on_line c.args.line) e) c.push_number.ensures
