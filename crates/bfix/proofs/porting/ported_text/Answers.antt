use Rattle.std.proofs.Common.{◌≡◌, ◌∙◌, ◌≤◌, ◌++◌, ap, arith, length, subst}
use Rattle.bsources.specs.Files.{files_shown}
use Rattle.bfix.specs.Fixes.{Lead, all_lines}
use Rattle.bfix.specs.Ports.{HasVerdict, edits_told}
use Rattle.bfix.proofs.PortSteps.{stays_if_it_runs}
use Rattle.bfix.proofs.porting.ported_text.Goals as goal

pub returns : goal.returns
returns c =
    let files = files_shown c.args.files.now in
    let own = c.args.own.now in
    let rest = c.args.rest.now in
    let ported = c.in_ok-ported.ported in
    let p = c.in_ok-ported.ensures in
    let led = c.in_ok-text.field-0 in
    let l = c.in_ok-text.ensures in
    let line = c.in_ok-line.line in
    let same : length c.as_slice.result.now ≡ length ported.text = ap length c.as_slice.ensures in
    let edited : length ported.text ≡ length _ = ap length p.text in
    let most : length ported.text ≤ c.saturating_mul.result = omega (arith, same, c.saturating_mul.ensures) in
    let small = l.0.small most in
    let told = edits_told files.first.name own ported.edits.items ported.notes.items in
    let lines = all_lines l.0.lines in
    let changes : c.as_slice-5.result.now ≡ told ++ lines =
    c.as_slice-5.ensures ∙ c.in_ok-changes.ensures
    ∙ ap (λ t. t ++ c.as_slice-3.result.now) (c.as_slice-2.ensures ∙ c.in_ok-edits.ensures)
    ∙ ap (λ t. told ++ t) (c.as_slice-3.ensures ∙ l.0.told) in
    record {
      edits = ported.edits.items;
      fit = p.edits;
      mended = record {
        lines = l.0.lines;
        lead = subst (λ t. Lead c.args.edition files rest t l.0.lines led.text) p.text l.0.lead;
        few = l.0.few;
        small = omega (arith, small, same, edited, c.saturating_mul.ensures);
      };
      notes = ported.notes.items;
      stays =
          stays_if_it_runs c.args.edition own rest ported.is_program ported.edits.items ported.notes.items l.0.lines
          p.stays p.left l.1;
      quiet = l.2;
      line = line;
      list =
          c.in_ok-told.ensures ∙ ap (λ t. t ++ c.as_slice-6.result.now) changes
          ∙ ap (λ t. (told ++ lines) ++ t) c.as_slice-6.ensures;
      verdict =
          subst (λ t. HasVerdict c.args.edition (t ++ rest) line c.in_ok-line.status) c.as_slice-4.ensures
          c.in_ok-line.ensures;
    }
