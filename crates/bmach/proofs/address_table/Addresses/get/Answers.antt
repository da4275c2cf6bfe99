use Rattle.std.proofs.Common.{◌<◌, sym, ap, ◌∙◌, subst, arith, IfSome}
use Rattle.std.proofs.lemmas.Map.Views.{IfSome-lookup_from_All}
use Rattle.std.specs.BTreeMap.{is_at}
use Rattle.std.specs.Ordering.{nat_cmp}
use Rattle.std.specs.Cmp.Lexicographic.{slice_cmp}
use Rattle.blang.specs.Layout.{address_in}
use Rattle.bmach.proofs.Lookups.{lookup-is_at}
use Rattle.bmach.proofs.address_table.Addresses.get.Goals as goal

pub returns-in_err-address : goal.returns-in_err-address
returns-in_err-address c =
    c.from_residual.ensures
    ∙ c.in_err-address.ensures.value ∙ lookup-is_at c.args.name.now c.self.inside.names ∙ ap (λ known. address_in known c.args.name.now) c.self.view_is

pub overflow_cast-result : goal.overflow_cast-result
overflow_cast-result c =
    let fits = IfSome-lookup_from_All (λ v. v < 65536) (is_at (slice_cmp nat_cmp c.args.name.now)) c.self.inside.names c.self.invariant.0 in
    let address = subst (λ o. IfSome o (λ v. v < 65536)) (sym c.in_ok-address.ensures.value) fits in
    omega (arith, address)

pub returns : goal.returns
returns c =
    c.in_ok-address.ensures.value ∙ lookup-is_at c.args.name.now c.self.inside.names ∙ ap (λ known. address_in known c.args.name.now) c.self.view_is
