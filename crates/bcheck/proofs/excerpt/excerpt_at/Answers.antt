use Rattle.std.proofs.Common.{◌≡◌, ◌∙◌, ◌+◌, ◌-◌, ◌++◌, ap, drop, length, rules, sym, take}
use Rattle.std.specs.Prelude.{min}
use Rattle.std.proofs.lemmas.List.{take-append-drop}
use Rattle.bword.specs.ByteEnds.{most}
use Rattle.bplaces.specs.Units.{first_unit, units_after}
use Rattle.bplaces.specs.declared.units.UnitPlace.{UnitPlace}
use Rattle.bplaces.proofs.UnitSteps.{units_marked}
use Rattle.bcheck.proofs.excerpt.excerpt_at.Goals as goal

pub returns : goal.returns
returns c =
    let source = c.args.source.now in
    let start = c.args.place.now.start in
    let rest = c.parts.result.1.now in
    let right = c.split_at-2.result.0.now in
    let after = c.split_at-2.result.1.now in
    let marks = c.max-marks.result in
    let n = min marks (length right) in
    let first : c.split_at.result.0.now ++ c.split_at.result.1.now ≡ take start source = rw (c.split_at.ensures.front, c.split_at.ensures.back) (take-append-drop _ c.parts.result.0.now ∙ c.parts.ensures.before) in
    let shown : right ++ after ≡ rest = rw (c.split_at-2.ensures.front, c.split_at-2.ensures.back) (take-append-drop _ rest) in
    let units : c.position-line.result.2 ≡ units_after first_unit (take start source) rest = c.position-line.ensures.units ∙ ap (units_after first_unit (take start source)) (sym c.parts.ensures.rest) in
    record {
      before = c.split_at.result.0.now;
      after = after;
      first = first;
      rest = shown ∙ c.parts.ensures.rest;
      line = c.position-line.ensures.line;
      column = c.position-line.ensures.column;
      from_line = search rules;
      in_line = search rules;
      marked = search rules;
      unit = ap (λ (u : UnitPlace). u.column) c.position-line.ensures.units;
      unit_end =
          c.unit_end.ensures
          ∙ ap (λ (u : UnitPlace). min ((units_after u (take n rest) (drop n rest)).column + (marks - length right)) most) units
          ∙ ap (λ (u : UnitPlace). min (u.column + (marks - length right)) most) (sym (units_marked first_unit (take start source) rest right after marks shown));
    }
