use Rattle.std.proofs.Common.{◌++◌, ap, ◌∙◌}
use Rattle.std.specs.Prelude.{◌||◌}
use Rattle.std.specs.List.{flat_map}
use Rattle.bverify.specs.Flaws.{some_can_be_stuck}
use Rattle.bverify.specs.Verifies.{flaw_line}
use Rattle.bverify.proofs.Tellings.{same_telling}
use Rattle.bverify.proofs.verifying.Telling.add_function.Goals as goal

pub returns : goal.returns
returns c =
    let e = c.in_ok-verified.ensures in
    let old = c.args.self.now in
    let same = c.as_slice-flaws.ensures.value in (
      c.in_ok-verified.verified.flaws.items,
      record {
        depths = c.in_ok-verified.verified.depths.items;
        begun = e.begun;
        closed = e.closed;
        reached = e.reached;
        told = e.told;
        fits = e.fits;
        never_idly = e.never_idly;
      },
      same_telling _ _
          (c.in_ok-push_function.ensures ∙ ap (λ l. old.text ++ flat_map (flaw_line c.args.function.now.name c.args.lines.now) l) same)
          (c.either-self.ensures ∙ ap (λ b. old.can_be_stuck || b) (c.some_can_be_stuck.ensures ∙ ap some_can_be_stuck same)),
    )
