use Rattle.std.proofs.Common.{rules, ◌∙◌, refl}
use Rattle.std.proofs.lemmas.List.Sorted.{IsNonDecreasingBy-from_sort_by_key}
use Rattle.bmatch.specs.declared.noticing.Notice.{Notice}
use Rattle.bfind.proofs.looking.found_in.Goals as goal

pub returns : goal.returns
returns c = record {
  tree = record { text = c.args.source; lexemes = c.as_slice-2.result; places = c.as_slice-3.result; rows = c.as_slice-4.result };
  is = record {
    text = refl;
    lexemes = c.as_slice-2.ensures.value ∙ c.in_ok-tokens.ensures.0;
    places = c.as_slice-3.ensures.value ∙ c.in_ok-tokens.ensures.1;
    rows = rw (c.as_slice-2.ensures.value, c.as_slice-4.ensures.value, ← c.as_slice.ensures.value) c.in_ok-rows.ensures;
  };
  table = record { steps = c.as_slice-5.result; claims = c.as_slice-6.result; rules = c.as_slice-7.result };
  of_rules = record { steps = c.as_slice-5.ensures.value; claims = c.as_slice-6.ensures.value; rules = c.as_slice-7.ensures.value };
  all = rw (← c.in_ok-notices.ensures) c.in_ok-sort_by_key.ensures.permutation;
  in_order = IsNonDecreasingBy-from_sort_by_key (λ (n : Notice). n.token) _ c.in_ok-sort_by_key.ensures.sorted (λ a r q k. search rules);
  places = c.in_ok-tokens.ensures.1;
}
