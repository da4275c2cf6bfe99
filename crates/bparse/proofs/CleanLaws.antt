-- A definition without fault is small.
use Rattle.std.proofs.Common.{◌≡◌, ℕ, ◌+◌, ◌≤◌, Bool, true, false, List, [], ◌∷◌, ◌++◌, length, map, Option, Some, None, Result, Ok, Err, refl, sym, ap, subst, ◌∙◌, arith, length-append, if◌then◌else◌, ltb-true}
use Rattle.std.specs.Prelude.{nat_lt, nat_le, ◌&&◌}
use Rattle.std.specs.List.{list_any}
use Rattle.std.proofs.lemmas.Bool.Decides.{nat_tests}
use Rattle.blang.specs.declared.token.Diagnostic.{Diagnostic}
use Rattle.blang.specs.declared.token.Letters.TheVariants as letters
use Rattle.blang.specs.Trees.{Identifier, Definition, Simple, Vector, Function}
use Rattle.blang.specs.Scan.{Entry, NameKind, Automatic, kind_of, with_declaration, fault, name_fault, Scope, no_scope, scanned, with_names, automatic_words, function_scope, scope_fault, identifier_of, inner_fault, scan}
use Rattle.blang.specs.declared.limits.TheConstants.{MAX_NAMES}
use Rattle.blang.specs.Walk.{Event, AutoHere}
use Rattle.bgrammar.specs.Events.{statement_events}
use Rattle.bword.specs.Words.{same_name}
use Rattle.blang.specs.Code.{ival_code, string_words_of, code_of, fault_of, vector_words}
use Rattle.bparse.specs.Sizes.{IsSmall}
use Rattle.bgrammar.proofs.Definitions.{no_fault, scan_if}
use Rattle.bgrammar.proofs.ScanSteps.{scanned-Err}
use Rattle.bgrammar.proofs.WalkLaws.{function_events_are}

abbrev parameter : Identifier → Event
parameter w = AutoHere w None

-- a table with one more name
abbrev Grown : List Entry → List Entry → Type 0
Grown es names = (length names ≡ length es + 1) × (length es + 1 ≤ MAX_NAMES)

entered_grown : (b : Bool) (w : Identifier) (k : NameKind) (es names : List Entry) (d : Diagnostic) → nat_lt (length es) MAX_NAMES ≡ b
    → (if b then Ok (es ++ record { name = w.text; kind = k } ∷ []) else Err d) ≡ Ok names → Grown es names
entered_grown true w k es names d e h =
    let same : names ≡ es ++ record { name = w.text; kind = k } ∷ [] = cc in
    (ap length same ∙ length-append es (record { name = w.text; kind = k } ∷ []), let l = ltb-true (length es) MAX_NAMES e in omega (arith, l))
entered_grown false w k es names d e h = cc

declared_grown : (o : Option NameKind) (w : Identifier) (k : NameKind) (es names : List Entry) → kind_of w.text es ≡ o → with_declaration w k es ≡ Ok names → Grown es names
declared_grown (Some old) w k es names e h = let g = rw e at h in cc
declared_grown None w k es names e h = entered_grown (nat_lt (length es) MAX_NAMES) w k es names (fault letters.TooManyNames w.line) refl (rw e at h)

few : (ps : List Identifier) (es : List Event) (s s2 : Scope) → length s.names ≤ MAX_NAMES → scanned (map parameter ps ++ es) (Ok s) ≡ Ok s2 → length ps + length s.names ≤ MAX_NAMES
few [] es s s2 h e = omega (arith, h)
few (w ∷ ps) es s s2 h e = go (with_declaration w (Automatic s.frame) s.names) refl (λ n le g. few ps es (record following { names = n }) s2 le g)
  where
    following : Scope
    following = record s { frame = s.frame + automatic_words None }

    go : (r : Result (List Entry) Diagnostic) → with_declaration w (Automatic s.frame) s.names ≡ r
        → ((n : List Entry) → length n ≤ MAX_NAMES → scanned (map parameter ps ++ es) (Ok (record following { names = n })) ≡ Ok s2 → length ps + length n ≤ MAX_NAMES)
        → length (w ∷ ps) + length s.names ≤ MAX_NAMES
    go (Ok names) r more =
        let grown = declared_grown (kind_of w.text s.names) w (Automatic s.frame) s.names names refl r in
        let rest = more names (omega (arith, grown.0, grown.1)) (subst (λ x. scanned (map parameter ps ++ es) (with_names following x) ≡ Ok s2) r e) in
        omega (arith, grown.0, rest)
    go (Err d) r more =
        let bad : scanned (map parameter ps ++ es) (Err d) ≡ Ok s2 = subst (λ x. scanned (map parameter ps ++ es) (with_names following x) ≡ Ok s2) r e in
        let no : Err d ≡ Ok s2 = sym (scanned-Err (map parameter ps ++ es) d) ∙ bad in
        cc

third_true : (a b c : Bool) → (a && b && c) ≡ true → c ≡ true
third_true true true c e = e
third_true true false c e = cc
third_true false b c e = cc

fewer : (n : ℕ) → nat_le n 32767 ≡ true → n ≤ 65535
fewer n h = grind (arith, nat_tests)

pub scope_clean : (r : Result Scope Diagnostic) → scope_fault r ≡ None → (s : Scope) × (r ≡ Ok s)
scope_clean (Ok s) e = (s, refl)
scope_clean (Err d) e = cc

-- the scan of a definition without a fault has none
pub clean_inner : (defined : List (List ℕ)) (d : Definition) → fault_of defined d ≡ None → inner_fault d ≡ None
clean_inner defined d e =
    scan_if (list_any (same_name (identifier_of d).text) defined) (name_fault letters.Redeclared (identifier_of d)) (inner_fault d)
    (no_fault (scan defined d) (identifier_of d).line (code_of d) e).0

pub clean_small : (defined : List (List ℕ)) (d : Definition) → fault_of defined d ≡ None → IsSmall d
clean_small defined (Simple w values) e = tt
clean_small defined (Vector w size values) e =
    let f = no_fault (scan defined (Vector w size values)) w.line (code_of (Vector w size values)) e in
    fewer (vector_words size values) (third_true (nat_le (length (map ival_code values)) 1024) (nat_le (length (string_words_of (Vector w size values))) 1024) (nat_le (vector_words size values) 32767) f.1)
clean_small defined (Function w ps body) e =
    let s = scope_clean (function_scope ps body) (clean_inner defined (Function w ps body) e) in
    let n = few ps (statement_events body) no_scope s.0 (omega arith) (ap (λ es. scanned es (Ok no_scope)) (sym (function_events_are ps body)) ∙ s.1) in
    omega (arith, n)
