use Rattle.std.proofs.Common.{refl, sym, ap, ◌∙◌}
use Rattle.bemit.specs.Drafts.{labelled}
use Rattle.bread.specs.declared.halt.Halt.TheVariants as halt
use Rattle.bread.proofs.TokenSteps.{Moves-breaks}
use Rattle.bread.proofs.HeadingSteps.{label_absent, label_took, heading_err}
use Rattle.bread.proofs.heading.label.Goals as goal

pub returns-then-not-is_after : goal.returns-then-not-is_after
returns-then-not-is_after g c = let h = c.in_ok-look_on.ensures.ok in (label_absent c.args.name c.requires.name h (sym c.is_after.ensures ∙ c.if-not-is_after.true), refl)

pub returns-in_err-advance : goal.returns-in_err-advance
returns-in_err-advance g c = heading_err _ _ c.from_residual-in_err-advance.result _ _ halt.Device c.from_residual-in_err-advance.ensures.1 (Moves-breaks c.in_ok-look_on.ensures.ok.moves c.in_err-advance.ensures.err)

pub returns-in_err-advance-2 : goal.returns-in_err-advance-2
returns-in_err-advance-2 g c = heading_err _ _ c.from_residual-in_err-advance-2.result _ _ halt.Device c.from_residual-in_err-advance-2.ensures.1 (Moves-breaks c.in_ok-look_on.ensures.ok.moves (Moves-breaks c.in_ok-advance.ensures.ok.moves c.in_err-advance-2.ensures.err))

pub returns : goal.returns
returns g c = label_took c.args.name c.requires.name c.in_ok-look_on.ensures.ok (sym c.is_after.ensures ∙ c.if-not-is_after.false) c.in_ok-advance.ensures.ok c.in_ok-advance-2.ensures.ok (c.label.ensures ∙ ap (λ l. labelled (record { text = c.args.name; line = l }) c.args.parser.now.draft) c.line-line.ensures)
