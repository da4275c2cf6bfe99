use Rattle.std.proofs.Common.{◌+◌, ◌/◌, ◌∙◌, ap, sym, arith}
use Rattle.itoa.proofs.Decimal.{length_one, length_two, length_pair, length_four}
use Rattle.bcode.proofs.page.digits.Goals as goal

pub returns-in-0-to-9-clause-digits : goal.returns-in-0-to-9-clause-digits
returns-in-0-to-9-clause-digits c = sym (length_one c.args.n (omega (arith, c.in-0-to-9)))

pub returns-in-10-to-99-clause-digits : goal.returns-in-10-to-99-clause-digits
returns-in-10-to-99-clause-digits c = sym (length_two c.args.n (omega (arith, c.in-10-to-99)) (omega (arith, c.in-10-to-99)))

pub returns-in-100-to-999-clause-digits : goal.returns-in-100-to-999-clause-digits
returns-in-100-to-999-clause-digits c =
    sym (length_pair c.args.n (omega (arith, c.in-100-to-999)) (omega (arith, c.in-100-to-999))
    ∙ ap (λ k. k + 2) (length_one (c.args.n / 100) (omega (arith, c.in-100-to-999))))

pub returns-in-1000-to-9999-clause-digits : goal.returns-in-1000-to-9999-clause-digits
returns-in-1000-to-9999-clause-digits c =
    sym (length_pair c.args.n (omega (arith, c.in-1000-to-9999)) (omega (arith, c.in-1000-to-9999))
    ∙ ap (λ k. k + 2) (length_two (c.args.n / 100) (omega (arith, c.in-1000-to-9999)) (omega (arith, c.in-1000-to-9999))))

pub returns-in_default-clause-digits : goal.returns-in_default-clause-digits
returns-in_default-clause-digits c =
    sym (length_four c.args.n (omega (arith, c.in_default, c.ranges.n)) (omega (arith, c.ranges.n))
    ∙ ap (λ k. k + 4) (length_one (c.args.n / 10000) (omega (arith, c.ranges.n))))
