use Rattle.std.proofs.Common.{◌∙◌, ◌≤◌, ap, arith, length, take}
use Rattle.std.proofs.lemmas.List.{take_rest}
use Rattle.std.specs.List.{prefix_len}
use Rattle.blang.specs.Cut.{is_blank, line_number_after}
use Rattle.blex.specs.Places.{after_blanks}
use Rattle.blex.proofs.PlaceSteps.{blanks_within, line_on}
use Rattle.blex.proofs.scanner.Scanner.pass_blanks.Goals as goal

pub invariant_of-self : goal.invariant_of-self
invariant_of-self c =
    let source = c.self.inside.bytes.now in
    let at = c.self.inside.at in
    let n = c.blanks-count.result in
    let rest = take_rest source at in
    let count = c.blanks-count.ensures ∙ ap (prefix_len is_blank) rest in
    let within : after_blanks source at ≤ length source = blanks_within source at c.self.invariant.0 in (
      omega arith,
      c.line_number_after-self-inside.ensures ∙ ap (λ b. line_number_after c.self.inside.line (take n b)) rest ∙ rw c.self.invariant.1 (line_on source at n),
    )
