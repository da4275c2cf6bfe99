-- What led on from a ported text, and what is told of it, of the source.
use Rattle.std.proofs.Common.{◌≡◌, ◌∙◌, ◌≤◌, ◌++◌, ◌||◌, ℕ, Bool, true, false, List, [], arith, inl, inr, length, refl, subst}
use Rattle.std.proofs.Common.{sym}
use Rattle.bword.specs.declared.edition.Edition.{Edition}
use Rattle.bport.specs.Edits.{EditsIfFaulty}
use Rattle.bport.specs.declared.edit.Edit.{Edit}
use Rattle.bport.specs.declared.porting.Ported.{Ported}
use Rattle.bport.specs.declared.row.Note.{Note}
use Rattle.bport.specs.Staying.{IsLeft, refuses}
use Rattle.std.specs.List.{list_any}
use Rattle.bfix.specs.Fixes.{IsLed}
use Rattle.bfix.specs.OwnText.{Replacing, TellsBoth, own_in, rest_in}
use Rattle.bfix.specs.Ports as ports
use Rattle.bfix.specs.Ports.{Edited, IsLedOn, IsTold, Ports, StaysIfItRuns}
use Rattle.bfix.specs.declared.fixing.FixedText.{FixedText}
use Rattle.bfix.specs.declared.fixing.Frame.{Frame}
use Rattle.bfix.specs.declared.fixing.Led.{Led}

-- the first file of a source, whose text this is
pub ports_of : (p : Replacing) (own rest : List ℕ) (made : FixedText) → own ≡ own_in p → rest ≡ rest_in p
    → IsTold p.edition p.files own rest made → TellsBoth made p.out p.out_after p.line p.line_after p.status → Ports p
ports_of p own rest made is_own is_rest told tells =
    ports.ported made.text made.told made.status
    (subst (λ o. Edited p.edition p.files o (rest_in p) made.text made.told made.status) is_own
    (subst (λ r. Edited p.edition p.files own r made.text made.told made.status) is_rest told)) tells

-- a program stays as it is
pub stays_led : (frame : Frame) (ported : Ported) (led : Led) → led.text ≡ ported.text → led.lines ≡ []
    → IsLedOn frame ported led
stays_led frame ported led is none =
    let small = λ (h : length ported.text ≤ frame.most). subst (λ t. length t ≤ frame.most) (sym is) h in
    (record { lines = []; lead = is; few = omega arith; told = none; small = small }, λ e. refl, λ e. refl)

not_left : (p r : Bool) → (p || r) ≡ false → p ≡ true → ⊥
not_left true r e f = let no : true ≡ false = e in cc
not_left false r e f = let no : true ≡ false = sym f in cc

not_right : (p r : Bool) → (p || r) ≡ false → r ≡ true → ⊥
not_right true r e f = let no : true ≡ false = e in cc
not_right false r e f = let no : true ≡ false = sym f ∙ e in cc

-- what comes of anything else
pub goes_led : (frame : Frame) (ported : Ported) (led : Led)
    → (ported.is_program || list_any refuses ported.notes.items) ≡ false → IsLed frame ported.text led
    → IsLedOn frame ported led
goes_led frame ported led e led_by = (
  led_by,
  (λ f. absurd (not_left ported.is_program (list_any refuses ported.notes.items) e f)),
  (λ f. absurd (not_right ported.is_program (list_any refuses ported.notes.items) e f)),
)

-- a program has no edit and no change
pub stays_if_it_runs : (edition : Edition) (own rest : List ℕ) (is_program : Bool) (edits : List Edit)
    → (notes : List Note) (lines : List (List ℕ)) → EditsIfFaulty edition own rest is_program edits
    → (is_program ≡ false → IsLeft own edits notes)
    → (is_program ≡ true → lines ≡ []) → StaysIfItRuns edition own rest edits notes lines
stays_if_it_runs edition own rest true edits notes lines loads left quiet = inl (loads.0, loads.1, quiet refl)
stays_if_it_runs edition own rest false edits notes lines faulty left quiet = inr (faulty, left refl)
