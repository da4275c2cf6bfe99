use Rattle.std.proofs.Common.{◌∙◌, ◌≡◌, ◌≤◌, ◌*◌, ◌++◌, ℕ, List, ap, arith, length, refl, subst}
use Rattle.bsources.specs.Files.{files_shown}
use Rattle.bcheck.specs.Checks.{EachOutcome, Judged}
use Rattle.bcheck.specs.Counts.{IsTally}
use Rattle.bfix.specs.Due.{IsFinished}
use Rattle.bfix.specs.Fixes.{all_lines}
use Rattle.bfix.proofs.LeftSteps.{told_so}
use Rattle.bfix.proofs.fixing.fixed.Goals as goal

pub returns : goal.returns
returns c =
    let led = c.in_ok-text.field-0 in
    let followed = c.in_ok-text.ensures in
    let l = followed.0 in
    let rest = c.args.rest.now in
    let edition = c.args.edition in
    let files = files_shown c.args.files.now in
    let t = c.in_ok-tally.tally in
    let whole : c.as_slice-2.result.now ≡ led.text ++ rest =
    c.as_slice-2.ensures ∙ c.in_ok-whole.ensures ∙ ap (λ t. t ++ rest) c.as_slice.ensures in
    let judged : Judged edition (led.text ++ rest) t.verdict =
    subst (λ s. Judged edition s t.verdict) whole c.in_ok-tally.ensures.verdict in
    let counted : EachOutcome edition (led.text ++ rest) (λ o. IsTally o files t.count) =
    subst (λ s. EachOutcome edition s (λ o. IsTally o files t.count)) whole c.in_ok-tally.ensures.count in
    let lines : c.as_slice-3.result.now ≡ all_lines l.lines = c.as_slice-3.ensures ∙ l.told in
    let most : length c.args.own.now ≤ c.saturating_mul.result =
    omega (arith, c.saturating_mul.ensures, c.type_inv.own) in
    let small = l.small most in
    let twice : c.saturating_mul.result ≡ 2 * length c.args.own.now = omega (arith, c.saturating_mul.ensures, c.type_inv.own) in
    record {
      fixed = record {
        lines = l.lines;
        lead = l.lead;
        few = l.few;
        small = omega (arith, small, c.saturating_mul.ensures);
      };
      finished =
          subst
          (λ n. IsFinished (record { edition = edition; files = files; rest = rest; most = n }) c.args.own.now
          (length l.lines) led.text) twice (followed.1 refl);
      told = λ r g.
          let j = judged r g in
          let status = ap (λ (p : List ℕ × ℕ). p.1) j in (
            t.count,
            counted r g,
            told_so _ _ _ _ _ _ _ t.count c.in_ok-push_left.ensures
                (c.in_ok-told.ensures ∙ ap (λ t. t ++ c.first.result.now) lines)
                (c.first.ensures ∙ ap (λ (p : List ℕ × ℕ). p.0) j) status,
            c.status.ensures ∙ status,
          );
    }
