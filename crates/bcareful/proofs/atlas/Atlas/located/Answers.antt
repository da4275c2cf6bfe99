use Rattle.std.proofs.Common.{◌≡◌, ◌∙◌, ◌≤◌, Some, ap, arith, get_or, length, map, sym}
use Rattle.std.specs.Option.{option_map}
use Rattle.std.specs.Prelude.{slice_get}
use Rattle.std.proofs.lemmas.Option.{slice_get-get_or}
use Rattle.blang.specs.CodeParts.{function_of}
use Rattle.btools.specs.FrameNames.{word_seen}
use Rattle.bcareful.specs.Things.{site_of}
use Rattle.bcareful.proofs.Looking.{none_located, one_located, site_with, unframed}
use Rattle.bcareful.proofs.atlas.Atlas.located.Goals as goal

pub returns-in_err-number : goal.returns-in_err-number
returns-in_err-number c =
    let es = c.args.self.now.tables.now.entries.items in
    let fs = c.args.self.now.program.now.names.frames.items in
    ap (option_map site_of) c.from_residual.ensures ∙ sym (none_located c.args.strings es fs c.in_err-number.ensures)

pub returns-in_err-frame : goal.returns-in_err-frame
returns-in_err-frame c =
    let es = c.args.self.now.tables.now.entries.items in
    let fs = c.args.self.now.program.now.names.frames.items in
    let lies = c.in_ok-number.ensures in
    let past : length fs ≤ c.in_ok-number.number = omega (arith, c.in_err-frame.ensures.lookup.3, ap length c.deref.ensures.value) in
    ap (option_map site_of) c.from_residual-in_err-frame.ensures
    ∙ sym (unframed c.args.strings es fs c.in_ok-number.number c.args.self.now.tables.now.in_order lies.0 lies.1 past)

pub returns : goal.returns
returns c =
    let es = c.args.self.now.tables.now.entries.items in
    let fs = c.args.self.now.program.now.names.frames.items in
    let number = c.in_ok-number.number in
    let lies = c.in_ok-number.ensures in
    let d = c.index-entries-number.result in
    let frame = c.in_ok-frame.frame.now in
    let there = c.in_ok-frame.ensures.lookup.3 in
    let got : slice_get fs number ≡ Some frame =
    ap (λ xs. slice_get xs number) (sym c.deref.ensures.value)
    ∙ slice_get-get_or c.deref.result.now number frame there.0 ∙ ap Some (sym (there.1 frame)) in
    (λ k. Some (record { function = function_of (get_or (c.entries.ensures k) number d).parts.now; words = map word_seen (c.as_slice.ensures.value k) }))
    ∙ ap (option_map (site_with (get_or es number d))) (sym got)
    ∙ sym (one_located c.args.strings es fs number d c.args.self.now.tables.now.in_order lies.0 (lies.1 d))
