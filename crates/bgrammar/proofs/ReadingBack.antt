-- What is written for a source without a fault is the code text of its definitions.
use Rattle.std.proofs.Common.{◌≡◌, ℕ, List, [], ◌∷◌, ◌++◌, map, refl, sym, ap, ◌∙◌, subst, append_assoc}
use Rattle.std.specs.Prelude.{Option, Some, None}
use Rattle.std.specs.List.{flat_map}
use Rattle.std.proofs.lemmas.Grind.{flat_map-append}
use Rattle.blang.specs.Text.{lines_of, joined, opening, opening_lines, end_text, ended_lines, IsWithinRanges}
use Rattle.blang.specs.declared.token.Diagnostic.{Diagnostic}
use Rattle.blang.specs.declared.token.Placed.{Placed}
use Rattle.blang.specs.Trees.{kept, Definition}
use Rattle.blang.specs.Walk.{spell_definition, spell_all}
use Rattle.blang.specs.Scan.{identifier_of}
use Rattle.blang.specs.Code.{code_of, fault_of}
use Rattle.blang.specs.WellFormed.{AllFormed}
use Rattle.blang.specs.Compiles.{Defined, Compilation, compilation_with, compilation_of, compiled_text, ending, code_text}
use Rattle.bgrammar.proofs.KeptLemmas.{bare-kept}
use Rattle.bgrammar.specs.ReadsBack.{ReadsBack}
use Rattle.bgrammar.proofs.Holds.{Holds, Holds-nil, Holds-cons, Holds-first, Holds-rest, Holds-front, Holds-back, Holds-All}
use Rattle.bgrammar.proofs.Tokens.{IsSound, AreSound, sound-tokens_from}
use Rattle.bgrammar.proofs.Definitions.{definition_within}

-- the definitions are within their ranges, and the text is theirs
record IsWritten (ds : List Definition) (r : Compilation) : Type 0 where
  within : Holds IsWithinRanges (map code_of ds)
  spelled : joined r.code ++ ending r.stop ≡ joined (ended_lines (map code_of ds))

pub joined-append : (xs ys : List (List ℕ)) → joined (xs ++ ys) ≡ joined xs ++ joined ys
joined-append xs ys = flat_map-append (λ l. l) xs ys

written-none : (stop : Option Diagnostic) → stop ≡ None → IsWritten [] (record { code = []; stop = stop })
written-none stop h = record { within = Holds-nil; spelled = rw h refl }

written-cons : (d : Definition) (ds : List Definition) (r : Compilation) → IsWithinRanges (code_of d) → IsWritten ds r → IsWritten (d ∷ ds) (record { code = compiled_text d ∷ r.code; stop = r.stop })
written-cons d ds r h w =
    let c = code_of d in
    let cs = map code_of ds in
    record {
      within = Holds-cons h w.within;
      spelled = append_assoc (compiled_text d) (joined r.code) _ ∙ ap (λ l. compiled_text d ++ l) w.spelled ∙ sym (joined-append (lines_of c) (ended_lines cs))
          ∙ ap joined (sym (append_assoc (lines_of c) (flat_map lines_of cs) (end_text ∷ [])));
    }

written : (names : Defined) (ds : List Definition) (stop : Option Diagnostic) → AllFormed ds → AreSound (spell_all ds) → (compilation_of names ds stop).stop ≡ None → IsWritten ds (compilation_of names ds stop)
written names [] stop formed sound h = written-none stop h
written names (d ∷ ds) stop formed sound h = go (fault_of names d) refl h (written (names ++ (identifier_of d).text ∷ []) ds stop formed.1 (Holds-back (spell_definition d) _ sound))
  where
    later : Compilation
    later = compilation_of (names ++ (identifier_of d).text ∷ []) ds stop

    go : (o : Option Diagnostic) → fault_of names d ≡ o → (compilation_with o (compiled_text d) later).stop ≡ None → (later.stop ≡ None → IsWritten ds later)
        → IsWritten (d ∷ ds) (compilation_with (fault_of names d) (compiled_text d) later)
    go (Some fault) e k f = cc
    go None e k f =
        subst (λ o. IsWritten (d ∷ ds) (compilation_with o (compiled_text d) later)) (sym e)
        (written-cons d ds later (definition_within names d e formed.0 (Holds-front (spell_definition d) _ sound)) (f k))

kept-sound : (ts : List Placed) → AreSound ts → AreSound (map kept ts)
kept-sound [] h = Holds-nil
kept-sound (p ∷ ts) h = Holds-cons (subst IsSound (sym (bare-kept p)) (Holds-first h)) (kept-sound ts (Holds-rest h))

pub reads_back : ReadsBack
reads_back edition line bytes r g h =
    let parts = g.parted.parts in
    let before = g.parted.before in
    let sound_before : AreSound before = Holds-front before _ (subst AreSound g.parted.split (sound-tokens_from edition line bytes)) in
    let sound : AreSound (spell_all g.definitions) = Holds-front (spell_all g.definitions) _ (subst AreSound parts.split (kept-sound before sound_before)) in
    let stopped : (compilation_of [] g.definitions g.stop).stop ≡ None = subst (λ (o : Compilation). o.stop ≡ None) g.outcome_is h in
    let w = written [] g.definitions g.stop parts.formed sound stopped in
    let lines = ended_lines (map code_of g.definitions) in
    record {
      within = Holds-All w.within;
      spelled = ap (code_text edition) g.outcome_is ∙ ap (λ t. opening edition ++ t) w.spelled ∙ sym (joined-append (opening_lines edition) lines);
    }
