-- The names of functions, one after another.
use Rattle.std.proofs.Common.{◌≡◌, ◌∙◌, ℕ, suc, ◌+◌, ◌<◌, List, ◌∷◌, ◌++◌, length, drop, get_or, sym, ap}
use Rattle.std.proofs.Common.{append_assoc, add-one, drop-cons}
use Rattle.bauthor.specs.declared.line.NameLine.{NameLine}
use Rattle.blang.specs.declared.code.Definition.{Definition}
use Rattle.btools.specs.NamedFrames.{FunctionNames, frames_named, names_after, own_named}

-- those of one definition more
pub frames_on : (ds : List Definition) (i : ℕ) (d : Definition) (rest later : List NameLine)
    (so now : List FunctionNames) → i < length ds → d ≡ get_or ds i d → now ≡ so ++ own_named d rest
    → later ≡ names_after d rest
    → now ++ frames_named (drop (i + 1) ds) later ≡ so ++ frames_named (drop i ds) rest
frames_on ds i d rest later so now lt is made left =
    let first : drop i ds ≡ d ∷ drop (i + 1) ds =
    drop-cons ds i d lt ∙ ap (λ x. x ∷ drop (suc i) ds) (sym is) ∙ ap (λ j. d ∷ drop j ds) (sym (add-one i)) in
    ap (λ fs. fs ++ frames_named (drop (i + 1) ds) later) made
    ∙ ap (λ ls. (so ++ own_named d rest) ++ frames_named (drop (i + 1) ds) ls) left
    ∙ append_assoc so (own_named d rest) (frames_named (drop (i + 1) ds) (names_after d rest))
    ∙ sym (ap (λ l. so ++ frames_named l rest) first)
