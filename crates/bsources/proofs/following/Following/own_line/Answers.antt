use Rattle.std.proofs.Common.{◌∙◌, List, ap, arith, map, subst, sym}
use Rattle.bsources.specs.FileLines.{Followed, later_shown, line_among}
use Rattle.bsources.specs.OwnLines.{HasEnds}
use Rattle.bsources.specs.declared.following.LaterFile.{LaterFile}
use Rattle.bsources.proofs.LineLemmas.{told}
use Rattle.bsources.proofs.following.Following.own_line.Goals as goal

pub returns : goal.returns
returns c =
    let has = subst (λ (x : List LaterFile). HasEnds x c.self.inside.lines) (sym c.as_slice-files.ensures.value) c.self.invariant in
    rw c.start_of.ensures (told c.as_slice-files.result.now c.self.inside.lines c.args.line c.in_ok-last.last c.place_of-place.result _ has (omega arith) c.place_of-place.ensures)
    ∙ ap (λ (fs : List LaterFile). line_among (map later_shown fs) c.args.line) c.as_slice-files.ensures.value ∙ ap (λ (v : Followed). line_among v.files c.args.line) c.self.view_is
