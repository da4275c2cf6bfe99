use Rattle.std.proofs.Common.{◌≡◌, ◌+◌, arith, codes, refl}
use Rattle.std.specs.Fmt.{digits}
use Rattle.bshow.specs.Rows.{number_cell}
use Rattle.bshow.proofs.rows.push_step_cell.Goals as goal

past_words : number_cell 18446744073709551616 ≡ codes "<td>18446744073709551616"
unfolding digits
past_words = refl

pub returns-in-None : goal.returns-in-None
returns-in-None c =
    let past : c.args.made + 1 ≡ 18446744073709551616 = omega (arith, c.in-None.ensures, c.ranges.made.fits) in
    rw (past, past_words) c.push.ensures
