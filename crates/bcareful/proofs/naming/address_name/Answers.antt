use Rattle.std.proofs.Common.{◌∙◌, ◌-◌, ap, nat_lt, sym}
use Rattle.std.proofs.Math.ListN.{drop_of_length-le}
use Rattle.std.proofs.lemmas.Bool.{cond-false, le-ltb}
use Rattle.bcareful.specs.Tellings.{data_name, no_name}
use Rattle.bcareful.proofs.naming.address_name.Goals as goal

pub returns : goal.returns
returns c =
    let ds = c.args.definitions.now in
    let address = c.args.address in
    c.none-2.ensures
    ∙ sym (ap (λ xs. data_name xs c.loop-definition.offset) (drop_of_length-le ds c.loop-definition-test.false)) ∙ c.loop-definition.invariant
    ∙ sym (cond-false (nat_lt address 7) no_name (data_name ds (address - 7)) (le-ltb address 7 c.if-address-lt-FIRST_ADDRESS.false))
