use Rattle.std.proofs.Common.{◌+◌, drop, true, false, sym, ap, ◌∙◌, arith}
use Rattle.std.proofs.Math.ListN.{drop_of_length-le}
use Rattle.bmach.specs.Loading.{main_from}
use Rattle.bmach.proofs.Faults.{main_step}
use Rattle.bmach.proofs.loader.main_of.Goals as goal

pub loop-definition-preserved : goal.loop-definition-preserved
loop-definition-preserved c =
    let i = c.loop-definition.definition-index in
    let ds = c.args.definitions.now in
    let step = main_step ds i c.loop-definition.functions c.definition-item.result false (omega arith) c.definition-item.is (sym c.is_main.ensures ∙ c.if-is_main.false) in
    record {
      rest = ap (λ n. main_from (c.loop-definition.functions + n) (drop (i + 1) ds)) c.functions_in-functions.ensures.value ∙ sym step ∙ c.loop-definition.invariant.rest;
      small = omega (arith, c.functions_in-functions.ensures.small, c.loop-definition.invariant.small);
    }

pub returns-then-is_main : goal.returns-then-is_main
returns-then-is_main c =
    sym (main_step c.args.definitions.now c.loop-definition.definition-index c.loop-definition.functions c.definition-item.result true (omega arith) c.definition-item.is (sym c.is_main.ensures ∙ c.if-is_main.true))
    ∙ c.loop-definition.invariant.rest

pub returns : goal.returns
returns c =
    ap (main_from c.loop-definition.functions) (sym (drop_of_length-le c.args.definitions.now c.loop-definition-test.false)) ∙ c.loop-definition.invariant.rest
