use Rattle.std.proofs.Common.{◌≡◌, ◌∙◌, ◌+◌, true, false, ap, sym, subst}
use Rattle.bport.specs.Staying.{TellsOldUpTo, is_old_at, is_told_at}
use Rattle.bport.proofs.StaySteps.{told_by_edit, told_by_note, up_to_next}
use Rattle.bport.proofs.staying.tell_old.Goals as goal
use Rattle.bport.proofs.staying.tell_old.Goals.{then-is_old_at+then-not-is_covered+in_ok-tell_sign, else-is_old_at}
use Rattle.bport.proofs.staying.tell_old.Goals.{else-is_old_at-via-then-is_old_at+else-not-is_covered}
use Rattle.bport.proofs.staying.tell_old.Goals.{else-is_old_at-via-else-is_old_at}

pub loop-at-preserved : goal.loop-at-preserved
loop-at-preserved c =
    let source = c.args.source.now in
    let places = c.args.places.now in
    let edits = c.args.edits.now in
    let at = c.loop-at.at in
    let before = c.loop-at.notes.items in
    elim c.if-is_old_at.branch [
      | then-is_old_at+then-not-is_covered+in_ok-tell_sign w ↦
          let told = w.in_ok-tell_sign.ensures.told in
          subst (λ n. TellsOldUpTo (at + 1) source places edits n) (sym (ap (λ v. v.items) w.notes-is))
          (up_to_next source places edits at before _ c.loop-at.invariant w.in_ok-tell_sign.ensures.kept
          (λ old. told_by_note source places edits at _ told))
      | else-is_old_at w ↦
          let here : is_old_at source places at ≡ true → is_told_at at edits before ≡ true = λ old.
          elim w.else-is_old_at.branch [
            | else-is_old_at-via-then-is_old_at+else-not-is_covered x ↦
                told_by_edit source places edits at before (x.is_covered.ensures x.if-not-is_covered.false)
            | else-is_old_at-via-else-is_old_at x ↦
                let no : true ≡ false = sym old ∙ sym c.is_old_at.ensures ∙ x.if-is_old_at.false in cc
          ] in
          subst (λ n. TellsOldUpTo (at + 1) source places edits n) (sym (ap (λ v. v.items) w.notes-is))
          (up_to_next source places edits at before before c.loop-at.invariant (λ other h. h) here)
    ]
