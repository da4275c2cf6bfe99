use Rattle.std.proofs.Common.{◌∙◌, ◌+◌, ◌/◌, ◌<◌, ap, arith, length, sym}
use Rattle.std.proofs.lemmas.List.{get_or_default}
use Rattle.btools.specs.declared.tables.FunctionEntry.{FunctionEntry}
use Rattle.btools.proofs.Searching.{above_all, below_all, higher, with_neither}
use Rattle.btools.proofs.tables.Tables.position.Goals as goal

pub returns-then-entry-strings : goal.returns-then-entry-strings
returns-then-entry-strings c =
    let es = c.args.self.now.entries.items in
    let place = c.loop-size.low + c.loop-size.size / 2 in
    let found = c.index-entry.result.now in
    let within : place < length es = omega (arith, c.loop-size.invariant.within, c.loop-size-test.true) in (
      within,
      λ d. ap (λ (x : FunctionEntry). x.strings) (sym (c.index-entry.ensures ∙ get_or_default es place found d within)) ∙ c.if-entry-strings.true,
    )

pub loop-size-preserved-then-entry-strings-2 : goal.loop-size-preserved-then-entry-strings-2
loop-size-preserved-then-entry-strings-2 c = record {
  within = omega (arith, c.loop-size.invariant.within, c.loop-size-test.true);
  before = λ k d lt. below_all c.args.self.now.entries.items (c.loop-size.low + c.loop-size.size / 2) c.args.strings c.index-entry.result.now c.args.self.now.in_order (omega (arith, c.loop-size.invariant.within, c.loop-size-test.true)) c.index-entry.ensures c.if-entry-strings-2.true k d (omega (arith, lt));
  after = λ k d le within. c.loop-size.invariant.after k d (omega (arith, le, c.loop-size-test.true)) within;
}

pub loop-size-preserved : goal.loop-size-preserved
loop-size-preserved c = record {
  within = omega (arith, c.loop-size.invariant.within, c.loop-size-test.true);
  before = c.loop-size.invariant.before;
  after = λ k d le within. above_all c.args.self.now.entries.items (c.loop-size.low + c.loop-size.size / 2) c.args.strings c.index-entry.result.now c.args.self.now.in_order (omega (arith, c.loop-size.invariant.within, c.loop-size-test.true)) c.index-entry.ensures (higher _ _ c.if-entry-strings.false c.if-entry-strings-2.false) k d le within;
}

pub returns : goal.returns
returns c =
    with_neither c.args.self.now.entries.items c.args.strings c.loop-size.low c.loop-size.invariant.before
    (λ k d le within. c.loop-size.invariant.after k d (omega (arith, le, c.loop-size-test.false)) within)
