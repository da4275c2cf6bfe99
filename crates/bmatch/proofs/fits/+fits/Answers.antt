use Rattle.std.proofs.Common.{◌≡◌, ◌∙◌, ◌++◌, ◌∷◌, IfOk, List, ap, append_assoc, subst}
use Rattle.bmatch.specs.Binds.{with_told}
use Rattle.bmatch.specs.Fits.{fits_in, go_in, rows_left}
use Rattle.bmatch.specs.declared.fits.EitherWay.{EitherWay}
use Rattle.bmatch.specs.declared.fits.Rows.{Rows}
use Rattle.bmatch.specs.declared.binds.Binds.{Binds}
use Rattle.bmatch.specs.declared.pattern.Step.{Step}
use Rattle.bmatch.proofs.Steps.{fits_after_jump, fits_both, fits_by_either, fits_by_sides, others}
use Rattle.bmatch.specs.declared.fits.TheConstants.{MOST_PASSED}
use Rattle.bmatch.proofs.Passing.{last_one, none_more, one_more}
use Rattle.bmatch.proofs.fits.+fits.Goals as goal

pub passes-returns-then-end-span : goal.passes-returns-then-end-span
passes-returns-then-end-span t c =
    last_one (λ e. fits_in c.args.sight.now 0 c.args.more.now c.args.span.begin e (rows_left c.args.left.now) c.args.binds) c.args.sight.now.tree.rows.now MOST_PASSED c.loop.counter c.args.span.begin
    c.loop.end c.loop.found.items _ _ c.loop-test.true c.if-end-span.true c.in_ok-fits.ensures c.loop.invariant

pub passes-loop-preserved : goal.passes-loop-preserved
passes-loop-preserved t c =
    one_more (λ e. fits_in c.args.sight.now 0 c.args.more.now c.args.span.begin e (rows_left c.args.left.now) c.args.binds) c.args.sight.now.tree.rows.now MOST_PASSED c.loop.counter c.args.span.begin
    c.loop.end c.start_of-end.result c.loop.found.items _ _ c.loop-test.true c.if-end-span.false c.start_of-end.ensures c.in_ok-fits.ensures c.loop.invariant

pub passes-returns : goal.passes-returns
passes-returns t c =
    none_more (λ e. fits_in c.args.sight.now 0 c.args.more.now c.args.span.begin e (rows_left c.args.left.now) c.args.binds) c.args.sight.now.tree.rows.now MOST_PASSED c.loop.counter c.args.span.begin
    c.loop.end c.loop.found.items _ c.loop-test.false c.loop.invariant

pub fits-returns-in-Jump : goal.fits-returns-in-Jump
fits-returns-in-Jump t c =
    let s = c.args.sight.now in
    let fit = λ (is : List Step). fits_in s 0 is c.args.span.begin c.args.span.end (rows_left c.args.left.now) c.args.binds in
    subst (λ (bs : List Binds). IfOk c.fits-in-Jump.result (λ done. c.fits-in-Jump.new.found.items ≡ c.args.found.now.items ++ bs))
    (ap fit c.steps_from-in-Jump.ensures ∙ fits_after_jump s c.args.steps.now _ c.in-Jump.count c.args.span.begin c.args.span.end (rows_left c.args.left.now) c.args.binds
    c.in-len1-up.len_at_least c.in-Jump.is) c.fits-in-Jump.ensures

pub fits-returns-in_ok-fits-in-Either : goal.fits-returns-in_ok-fits-in-Either
fits-returns-in_ok-fits-in-Either t c =
    let s = c.args.sight.now in
    let found = c.args.found.now.items in
    let fit = λ (is : List Step). fits_in s 0 is c.args.span.begin c.args.span.end (rows_left c.args.left.now) c.args.binds in
    let one = fit (others c.args.steps.now) in
    subst (λ (bs : List Binds). IfOk c.fits-in-Either-2.result (λ done. c.fits-in-Either-2.new.found.items ≡ bs))
    (ap (λ bs. bs ++ fit c.steps_from.result.now) c.in_ok-fits-in-Either.ensures ∙ (append_assoc found one (fit c.steps_from.result.now)
    ∙ ap (λ bs. found ++ bs) (ap (λ is. one ++ fit is) c.steps_from.ensures ∙ fits_by_either s c.args.steps.now _ c.in-Either.count c.args.span.begin c.args.span.end
    (rows_left c.args.left.now) c.args.binds c.in-len1-up.len_at_least c.in-Either.is))) c.fits-in-Either-2.ensures

pub fits-returns-in-Sides : goal.fits-returns-in-Sides
fits-returns-in-Sides t c =
    let s = c.args.sight.now in
    let more = others c.args.steps.now in
    let rows = rows_left c.args.left.now in
    let told = c.in-Sides.is_told in
    subst (λ (bs : List Binds). IfOk c.fits_both.result (λ done. c.fits_both.new.found.items ≡ c.args.found.now.items ++ bs))
    (ap (λ (b : Binds). fits_both s more c.either_way-ways.result (c.either_way-ways.result.before ∷ rows) b) c.telling-binds.ensures
    ∙ (ap (λ (way : EitherWay). fits_both s more way (way.before ∷ rows) (with_told c.args.binds told way.token)) c.either_way-ways.ensures
    ∙ fits_by_sides s c.args.steps.now _ c.in-Sides.first c.in-Sides.last told c.args.span.begin c.args.span.end rows c.args.binds c.in-len1-up.len_at_least c.in-Sides.is)) c.fits_both.ensures

pub fits_both-returns : goal.fits_both-returns
fits_both-returns t c =
    let found = c.args.found.now.items in
    let go = λ (x : Rows). fits_in c.args.sight.now 0 c.args.more.now x.one.begin x.one.end (x.other ∷ rows_left c.args.left.now) c.args.binds in
    let plain = go_in c.args.ways.now.plain go in
    let exchanged = go_in c.args.ways.now.exchanged go in
    subst (λ (bs : List Binds). IfOk c.fits_rows-2.result (λ done. c.fits_rows-2.new.found.items ≡ bs))
    (ap (λ bs. bs ++ exchanged) c.in_ok-fits_rows.ensures ∙ append_assoc found plain exchanged) c.fits_rows-2.ensures
