use Rattle.std.proofs.Common.{◌≡◌, ◌∙◌, ◌≤◌, ap, arith, sym}
use Rattle.std.specs.Prelude.{◌==◌}
use Rattle.btools.specs.Functions.{entries_of, function_with, instr_in}
use Rattle.bendless.specs.Loops.{in_own, marked, noted_of, notes_so_far, with_asking}
use Rattle.bendless.specs.declared.search.Repeat.{Repeat}
use Rattle.bendless.proofs.LoopSteps.{noted_here, notes_more}
use Rattle.bendless.proofs.looping.LoopWatcherOnlooker.before.Goals as goal

pub returns : goal.returns
returns g c first sights at has =
    let t = c.args.self.now in
    let p = c.args.stepper.now in
    let made = c.args.made in
    let call = c.top-call.result in
    let i = c.instr_at-instr.result in
    let own = c.callers.result == t.repeat.callers in
    let fs = entries_of first.tables.now in
    let before = notes_so_far fs sights first.repeat made in
    let asked = noted_of c.note_asking.new.self in
    let read = c.note_own.new.self in
    let ops = c.operands-operands.ensures in
    let same : t.repeat.first ≡ first.repeat.first = ap (λ (r : Repeat). r.first) has.repeat in
    let begun : first.repeat.first ≤ made = omega (arith, c.if-made-self.false, same) in
    let stored = c.mark_all.ensures ∙ ap (marked read.stored.items) c.stored.ensures.stored in
    record {
      tables = has.tables;
      repeat = has.repeat;
      notes = noted_here fs first.repeat.callers before asked (noted_of read) (record { asks = read.asks; reads = read.reads.items; tested = read.tested.items; stored = c.mark_all.new.marks.items })
          (sights made) p (sights made).output i call own at c.top-call.ensures
          (c.instr_at-instr.ensures ∙ ap (λ f. instr_in f call.place) c.entry.ensures.function ∙ (λ k. instr_in (function_with (entries_of (has.tables k).now) call.strings) call.place))
          (c.note_asking.ensures ∙ (λ k. with_asking call i (ops k) (has.notes k)))
          (λ k. c.callers.ensures k == Repeat.callers (has.repeat k))
          (c.in_ok-note_own.ensures ∙ ap (λ xs. in_own own i xs asked) ops)
          (λ k. record { asks = read.asks; reads = read.reads.items; tested = read.tested.items; stored = stored k })
          ∙ sym (notes_more fs sights first.repeat made begun);
    }
