-- The line of a place, counted on from one before it.
use Rattle.std.proofs.Common.{◌≡◌, ◌∙◌, ◌≤◌, ◌+◌, ◌-◌, ℕ, List, ap, arith, drop, subst, take}
use Rattle.std.proofs.Math.Seq.{take-add}
use Rattle.std.proofs.lemmas.List.{drop-take}
use Rattle.std.proofs.lemmas.List.Sums.{sum_by-append}
use Rattle.bport.specs.Changes.{line_on, newlines}

lines_on : (source : List ℕ) (line at more : ℕ) → line ≡ line_on source 1 0 at
    → line_on source line at (at + more) ≡ line_on source 1 0 (at + more)
lines_on source line at more h =
    let parts : newlines (take (at + more) source) ≡ newlines (take at source) + newlines (take more (drop at source)) =
    ap newlines (take-add at more source) ∙ sum_by-append _ (take at source) (take more (drop at source)) in
    omega (arith, h, parts, ap newlines (drop-take at more source))

pub line_further : (source : List ℕ) (line at start : ℕ) → line ≡ line_on source 1 0 at → at ≤ start
    → line_on source line at start ≡ line_on source 1 0 start
line_further source line at start h le =
    let whole : at + (start - at) ≡ start = omega (arith, le) in
    subst (λ place. line_on source line at place ≡ line_on source 1 0 place) whole (lines_on source line at (start - at) h)
