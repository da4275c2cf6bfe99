-- A source that was read to its end has the definitions that were written.
use Rattle.std.proofs.Common.{◌≡◌, false, List, [], ◌∷◌, ◌++◌, map, Option, Some, None, sym, ap, ◌∙◌, subst, append_assoc, append-nil}
use Rattle.std.proofs.lemmas.List.{append_cancel_left}
use Rattle.blang.specs.declared.token.Diagnostic.{Diagnostic}
use Rattle.blang.specs.declared.token.Placed.{Placed}
use Rattle.blang.specs.Code.{fault_of}
use Rattle.blang.specs.Compiles.{Compilation, CompilesTo, Defined, compilation_of, compilation_with, compiled_text}
use Rattle.blang.specs.Scan.{identifier_of}
use Rattle.blang.specs.Trees.{Definition, bare, kept}
use Rattle.blang.specs.Walk.{spell_all, spell_definition}
use Rattle.blang.specs.WellFormed.{AllFormed, IsProgram, Parted}
use Rattle.bgrammar.specs.DefinitionReader.{definition}
use Rattle.bgrammar.specs.Reading.{Got, first}
use Rattle.bgrammar.specs.StatementReader.{is_else}
use Rattle.bgrammar.proofs.KeptLemmas.{bare-kept, kept-append, split_map}
use Rattle.bgrammar.proofs.LawProofs.{reads_again}
use Rattle.bgrammar.proofs.Outcomes.{parted_after, parted_once}
use Rattle.bgrammar.proofs.ProgramLaws.{name_first, program_first}
use Rattle.bparse.specs.Compilers.{GoesOnAfter, Spelled}

-- no definition is left where no text is, and no fault
nothing_left : {names : Defined} {tokens : List Placed} {r : Compilation} → CompilesTo names tokens r → r.code ≡ [] → r.stop ≡ None → Parted tokens [] None
nothing_left {names} {tokens} {r} g code stop =
    go g.definitions g.stop g.parted (sym (ap (λ x. x.code) g.outcome_is) ∙ code) (sym (ap (λ x. x.stop) g.outcome_is) ∙ stop)
  where
    some_text : (d : Definition) (later : Compilation) (o : Option Diagnostic) → (compilation_with o (compiled_text d) later).code ≡ [] → (compilation_with o (compiled_text d) later).stop ≡ None → ⊥
    some_text d later None c s = cc
    some_text d later (Some fault) c s = cc

    go : (ds : List Definition) (s : Option Diagnostic) → Parted tokens ds s → (compilation_of names ds s).code ≡ [] → (compilation_of names ds s).stop ≡ None → Parted tokens [] None
    go [] s p c e = subst (λ x. Parted tokens [] x) e p
    go (d ∷ ds) s p c e = absurd (some_text d (compilation_of (names ++ (identifier_of d).text ∷ []) ds s) (fault_of names d) c e)

-- where a program may begin, no `else` comes
no_else : (tokens : List Placed) → Parted tokens [] None → is_else (first (map kept tokens)) ≡ false
no_else tokens p = ap (λ l. is_else (first (map kept l))) p.split ∙ go p.before p.stops.1
  where
    named : (ds : List Definition) (b : Placed) (bs : List Placed) → map bare (spell_all ds) ≡ map bare (b ∷ bs) → first (spell_all ds) ≡ b.token → is_else b.token ≡ false
    named ds b bs e same = ap is_else (sym same) ∙ program_first ds

    first_is : (ts : List Placed) (b : Placed) (bs : List Placed) → map bare ts ≡ map bare (b ∷ bs) → first ts ≡ b.token
    first_is [] b bs e = cc
    first_is (t ∷ ts) b bs e = cc

    go : (before : List Placed) → IsProgram (map bare before) → is_else (first (map kept (before ++ p.at ∷ p.following))) ≡ false
    go [] program = ap is_else (bare-kept p.at ∙ p.stops.0)
    go (b ∷ bs) program =
        ap is_else (bare-kept b) ∙ named program.definitions b bs program.spelled (first_is (spell_all program.definitions) b bs program.spelled)

-- definitions that are spelled before tokens where a program may end
parted_all : (ds : List Definition) → AllFormed ds → (passed rest : List Placed) → map kept passed ≡ spell_all ds → Parted rest [] None → Parted (passed ++ rest) ds None
parted_all [] f [] rest e p = p
parted_all [] f (t ∷ passed) rest e p = cc
parted_all (d ∷ ds) f passed rest e p =
    let s = split_map kept (spell_definition d) (spell_all ds) passed e in
    let on : map kept (s.back ++ rest) ≡ spell_all ds ++ map kept rest = kept-append s.back rest ∙ ap (λ l. l ++ map kept rest) s.back_is in
    let no = ap (λ l. is_else (first l)) on ∙ next ds in
    let read : definition (map kept s.front ++ map kept (s.back ++ rest)) ≡ Got d (map kept (s.back ++ rest)) =
    ap (λ l. definition (l ++ map kept (s.back ++ rest))) s.front_is ∙ reads_again d (map kept (s.back ++ rest)) f.0 (λ h. no) in
    subst (λ l. Parted l (d ∷ ds) None) (sym (append_assoc s.front s.back rest) ∙ ap (λ l. l ++ rest) (sym s.whole))
    (parted_after s.front d (s.back ++ rest) ds None (parted_all ds f.1 s.back rest s.back_is p) read)
  where
    next : (es : List Definition) → is_else (first (spell_all es ++ map kept rest)) ≡ false
    next [] = no_else rest p
    next (e ∷ es) = ap (λ l. is_else (first l)) (append_assoc (spell_definition e) (spell_all es) (map kept rest)) ∙ name_first e (spell_all es ++ map kept rest)

-- Definitions that were written, and after them nothing comes: they are those of the source.
pub written_all : {tokens others : List Placed} {r rest : Compilation} {names : Defined} (ds : List Definition) → AllFormed ds → Spelled ds tokens others → CompilesTo names others rest → GoesOnAfter ds rest r
    → (r.code ≡ map compiled_text ds) × (r.stop ≡ None) → (g : CompilesTo [] tokens r) → ds ≡ g.definitions
written_all {tokens} {others} {r} {rest} ds formed spelled goes on is g =
    let left : rest.code ≡ [] = append_cancel_left (map compiled_text ds) rest.code [] (sym on.code ∙ is.0 ∙ sym (append-nil (map compiled_text ds))) in
    let end = nothing_left goes left (sym on.stop ∙ is.1) in
    let parted : Parted tokens ds None = subst (λ l. Parted l ds None) (sym spelled.split) (parted_all ds formed spelled.passed others spelled.spelled end) in
    (parted_once tokens ds g.definitions None g.stop parted g.parted).0
