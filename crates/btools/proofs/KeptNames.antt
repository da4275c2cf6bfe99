-- The lines and names of a source that was compiled in memory, as they were kept.
use Rattle.std.proofs.Common.{◌≡◌, ℕ, false, List, [], Option, Some, Result, Ok, Err, IfOk, ap, inl, inr, subst, sym}
use Rattle.bword.specs.declared.edition.Edition.{Edition}
use Rattle.bword.specs.ByteEnds.{Unread, incoming_of}
use Rattle.blang.specs.Compiles.{Compilation, CompilesTo}
use Rattle.blang.specs.Cut.{tokens_from}
use Rattle.bparse.specs.Locals.{Notes, no_notes, notes_of}
use Rattle.bparse.specs.Watches.{KeepsMore, KeptAll, Watched}
use Rattle.bparse.specs.declared.step.Step.{Step}
use Rattle.bparse.specs.declared.step.Step.TheVariants as step
use Rattle.btools.specs.FrameNames.{HasNames}
use Rattle.btools.specs.KeptNames.{notes_in}
use Rattle.btools.specs.ProgramLines.{HasLines, KeepsNotesOf, token_lines}
use Rattle.btools.specs.declared.program.Program.{Program}
use Rattle.btools.specs.declared.program.ProgramFault.{ProgramFault}
use Rattle.btools.proofs.Compiled.{follows}

kept_of : (edition : Edition) (source : List ℕ) (following : Unread) (kept now : Option Notes) → KeptAll edition (incoming_of (record { left = source; is_over = false })) (incoming_of following) kept now → KeepsNotesOf edition source kept now
kept_of edition source following kept now k =
    subst (λ t. KeepsNotesOf edition t kept now) (sym k.took.bytes) (λ r g. (k.notes following.left (follows source following k.taken k.took) r g).1)

pub kept_notes : (edition : Edition) (source : List ℕ) (first following : Unread) (answer : Step) (kept now : Option Notes) → first ≡ record { left = source; is_over = false } → answer ≡ step.Finished
    → Watched edition (incoming_of first) kept answer (incoming_of following) now → KeepsNotesOf edition source kept now
kept_notes edition source first following answer kept now is end w =
    kept_of edition source following kept now (subst (λ (i : Unread). Watched edition (incoming_of i) kept step.Finished (incoming_of following) now) is (subst (λ (a : Step). Watched edition (incoming_of first) kept a (incoming_of following) now) end w))

kept_some : (notes kept : Notes) (now : Option Notes) → KeepsMore (Some no_notes) notes now → now ≡ Some kept → kept ≡ notes
kept_some notes kept now (inl none) is = cc
kept_some notes kept now (inr some) is = cc

-- a program that was loaded with all that was kept
whole : (edition : Edition) (source : List ℕ) (p : Program) (kept now : Option Notes) → kept ≡ Some no_notes → KeepsNotesOf edition source kept now → now ≡ Some (notes_in p.names)
    → HasLines edition source p.names.lines.items × HasNames edition source p.names.frames.items
whole edition source p kept now none keeps is = (λ r g. ap (λ t. t.lines) (same r g), λ r g. ap (λ t. t.frames) (same r g))
  where
    same : (r : Compilation) (g : CompilesTo [] (tokens_from edition 1 source) r) → notes_in p.names ≡ notes_of g.definitions (token_lines edition source)
    same r g =
        let notes = notes_of g.definitions (token_lines edition source) in
        kept_some notes (notes_in p.names) now (subst (λ k. KeepsMore k notes now) none (keeps r g)) is

pub lines_whole : (edition : Edition) (source : List ℕ) (r : Result Program ProgramFault) (kept now : Option Notes) → kept ≡ Some no_notes → KeepsNotesOf edition source kept now → IfOk r (λ p. now ≡ Some (notes_in p.names))
    → IfOk r (λ p. HasLines edition source p.names.lines.items)
lines_whole edition source (Ok p) kept now none keeps is = (whole edition source p kept now none keeps is).0
lines_whole edition source (Err e) kept now none keeps is = tt

pub names_whole : (edition : Edition) (source : List ℕ) (r : Result Program ProgramFault) (kept now : Option Notes) → kept ≡ Some no_notes → KeepsNotesOf edition source kept now → IfOk r (λ p. now ≡ Some (notes_in p.names))
    → IfOk r (λ p. HasNames edition source p.names.frames.items)
names_whole edition source (Ok p) kept now none keeps is = (whole edition source p kept now none keeps is).1
names_whole edition source (Err e) kept now none keeps is = tt
