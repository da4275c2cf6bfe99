use Rattle.std.proofs.Common.{◌∙◌, sym}
use Rattle.bfix.proofs.FixSteps.{passes_found, passes_missed, passes_past}
use Rattle.bfix.proofs.keeping.passed.Goals as goal
use Rattle.bfix.proofs.keeping.passed.Goals.{else-count-texts-via-then-count-texts+else-eq}
use Rattle.bfix.proofs.keeping.passed.Goals.{else-count-texts-via-else-count-texts}

pub returns-then-eq : goal.returns-then-eq
returns-then-eq c =
    passes_found c.args.texts.now c.args.count c.args.other.now _ c.if-count-texts.true
    (sym c.eq.ensures ∙ c.if-eq.true)

pub returns-else-count-texts : goal.returns-else-count-texts
returns-else-count-texts c =
    elim c.else-count-texts.branch [
      | else-count-texts-via-then-count-texts+else-eq w ↦
          passes_missed c.args.texts.now c.args.count c.args.other.now _ w.if-count-texts.true
          (sym w.eq.ensures ∙ w.if-eq.false)
      | else-count-texts-via-else-count-texts w ↦
          passes_past c.args.texts.now c.args.count c.args.other.now c.requires w.if-count-texts.false
    ]
