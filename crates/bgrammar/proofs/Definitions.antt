-- The code of a definition without a fault is within its ranges.
use Rattle.std.proofs.Common.{◌≡◌, ℕ, ◌+◌, ◌<◌, ◌≤◌, Bool, true, false, ◌&&◌, List, [], ◌∷◌, ◌++◌, map, length, length-append, refl, sym, ap, ◌∙◌, subst, arith, if◌then◌else◌, Option, Some, None, Result, Ok, Err}
use Rattle.std.specs.Prelude.{nat_le}
use Rattle.std.specs.List.{list_any}
use Rattle.std.proofs.lemmas.Bool.Decides.{nat_tests}
use Rattle.std.proofs.lemmas.List.{length-map}
use Rattle.bword.specs.Words.{is_name, same_name}
use Rattle.blang.specs.CodeParts.{Function, IsWord, IsIvalWithin, sizes_of, IsFunctionWithinRanges}
use Rattle.blang.specs.Text.{IsWithinRanges}
use Rattle.blang.specs.declared.code.Sizes.{Sizes}
use Rattle.blang.specs.declared.code.Instr.TheVariants as instr
use Rattle.blang.specs.declared.code.Definition as coded
use Rattle.blang.specs.declared.code.Definition.TheVariants as code
use Rattle.blang.specs.declared.token.Diagnostic.{Diagnostic}
use Rattle.blang.specs.Trees.{Identifier, Stmt, Definition, Simple, Vector, Function as function}
use Rattle.blang.specs.WellFormed.{IsFormed}
use Rattle.blang.specs.declared.limits.TheConstants.{MAX_NESTING}
use Rattle.bgrammar.specs.Fitting.{Sits, statement_words}
use Rattle.blang.specs.Scan.{NameKind, Automatic, External, Labelled, kind_of, Scope, no_scope, scan, function_events, function_scope, scope_fault}
use Rattle.bgrammar.specs.Spelling.{size_spelling, spell_statement, list_spelling}
use Rattle.blang.specs.Walk.{spell_definition, Event, AutoHere, ExtrnHere, walk_list, events_in, walk_statement, walk_parameter, walk_value}
use Rattle.blang.specs.Code.{Referent, In_frame, referent_of, environment_of, ival_code, vector_words, string_words_of, clean, code_of, fits_limits, or_too_large, fault_of, fragment}
use Rattle.bgrammar.proofs.CodeLaws.{counts_words, statement_ends}
use Rattle.bgrammar.proofs.Fitting.{simple_strings, vector_strings, function_strings, formed_in, statement_both}
use Rattle.bgrammar.proofs.Holds.{Holds, Holds-nil, Holds-cons, Holds-first, Holds-rest, Holds-append, Holds-front, Holds-back, Holds-weaker, Holds-All}
use Rattle.bgrammar.proofs.Tokens.{AreSound}
use Rattle.bgrammar.proofs.ExpressionCode.{IsMeaningWithin}
use Rattle.bgrammar.proofs.StatementCode.{fragment_within}
use Rattle.bgrammar.proofs.Walks.{IsVectorWithin, IsEventWithin, walk_within}
use Rattle.bgrammar.proofs.Scopes.{IsKindWithin, IsTable, few_labels, kind_within}
use Rattle.bgrammar.proofs.Scans.{IsSettled, scan_advances}
use Rattle.bgrammar.proofs.Strings.{strings_within, values-sound, values_strings_within, initial_values_within}
use Rattle.bgrammar.proofs.Labels.{function_labels, parameters_declared}

-- Tests of sizes.
two_fit : (a b x y : ℕ) → (nat_le a x && nat_le b y) ≡ true → (a ≤ x) × (b ≤ y)
two_fit a b x y h = (grind (arith, nat_tests), grind (arith, nat_tests))

three_fit : (a b c x y z : ℕ) → (nat_le a x && nat_le b y && nat_le c z) ≡ true → (a ≤ x) × (b ≤ y) × (c ≤ z)
three_fit a b c x y z h = (grind (arith, nat_tests), grind (arith, nat_tests), grind (arith, nat_tests))

-- What the names of a clean scan stand for.
meaning_within : (sizes : Sizes) (o : Option NameKind) → ((k : NameKind) → o ≡ Some k → IsKindWithin sizes.frame sizes.labels k) → IsMeaningWithin sizes (referent_of o)
meaning_within sizes (Some (Automatic word)) f = f (Automatic word) refl
meaning_within sizes (Some (Labelled number)) f = f (Labelled number) refl
meaning_within sizes _ f = tt

no_vector : (sizes : Sizes) (m : Referent) → IsVectorWithin sizes m None
no_vector sizes (In_frame k) = tt
no_vector sizes _ = tt

vector_within : (sizes : Sizes) (c : ℕ) (kind : NameKind) → ((k : ℕ) → kind ≡ Automatic k → k + 1 < sizes.frame) → IsVectorWithin sizes (referent_of (Some kind)) (Some c)
vector_within sizes c (Automatic word) f = f word refl
vector_within sizes c External f = tt
vector_within sizes c _ f = tt

event_within : (sizes : Sizes) (t : Scope) → t.frame ≡ sizes.frame → (e : Event) → IsSettled t e → IsEventWithin sizes (environment_of t.names) e
event_within sizes t f (AutoHere w (Some c)) h = rw h.is (vector_within sizes c h.kind (λ k q. let r = h.room k q in omega arith))
event_within sizes t f (AutoHere w None) h = no_vector sizes (environment_of t.names w.text)
event_within sizes t f (ExtrnHere w) h = tt
event_within sizes t f _ h = tt

-- Functions.
-- the code of a function with this scope
abbrev function_code : Identifier → List Identifier → Stmt → Scope → Function
function_code w parameters body scope =
    let names = environment_of scope.names in
    record {
      name = w.text;
      parameters = length parameters;
      frame = scope.frame;
      targets = (fragment names body 0).targets.labels;
      strings = string_words_of (function w parameters body);
      code = (fragment names body 0).code ((fragment names body 0).end) ++ (instr.Constant 0 ∷ instr.Return ∷ []);
    }

no_names : IsTable [] 0 0
no_names = record { few = omega arith; within = Holds-nil; labelled = omega arith }

function_within : (w : Identifier) (parameters : List Identifier) (body : Stmt) (s : Scope) → function_scope parameters body ≡ Ok s → fits_limits (code.Function (function_code w parameters body s)) ≡ true
    → is_name w.text ≡ true → AreSound (spell_statement body) → Sits body MAX_NESTING 0 → IsFunctionWithinRanges (function_code w parameters body s)
function_within w parameters body s clean fit named sound sits =
    let f = function_code w parameters body s in
    let sizes = sizes_of f in
    let names = environment_of s.names in
    let a = scan_advances (function_events parameters body) no_scope s clean in
    let table = a.table no_names in
    let few_names = table.few in
    let counted_labels = a.labels in
    let grown_frame = a.frame in
    let grown_names = a.names in
    let limits = three_fit (length f.code) (length f.strings) f.frame 4096 1024 32767 fit in
    let declared = parameters_declared parameters body in
    let labels : s.labels ≡ length f.targets = omega (arith, function_labels names parameters body) in
    let end = (fragment names body 0).end in
    let words_of_strings : length f.strings ≡ statement_words body = ap length (function_strings w parameters body) ∙ counts_words body in
    let short : end < length f.code = omega (arith, statement_ends names body 0 end, length-append ((fragment names body 0).code end) (instr.Constant 0 ∷ instr.Return ∷ [])) in
    let meant : (x : List ℕ) → IsMeaningWithin sizes (names x) =
    λ x. meaning_within sizes (kind_of x s.names) (λ k q. subst (λ n. IsKindWithin s.frame n k) labels (kind_within s.frame s.labels x s.names table.within k q)) in
    let vectors = Holds-weaker (event_within sizes s refl) (Holds-back (events_in (walk_list walk_parameter parameters)) (events_in (walk_statement body)) a.settles) in
    let inside = walk_within sizes names (walk_statement body) MAX_NESTING 0 sound (statement_both body MAX_NESTING 0 sits).1 (omega (arith, words_of_strings)) vectors in
    let whole = fragment_within names sizes meant limits.0 body 0 inside short in
    record {
      named = named;
      few_parameters = omega arith;
      parameters_in_frame = omega arith;
      frame = limits.2;
      few_labels = let l = few_labels table in omega arith;
      few_strings = limits.1;
      few_instrs = limits.0;
      targets = Holds-All whole.labels;
      strings = Holds-All (subst (Holds IsWord) (sym (function_strings w parameters body)) (strings_within (walk_statement body) sound));
      code = Holds-All (Holds-append
          (whole.code end short)
          (Holds-cons (omega arith) (Holds-cons tt Holds-nil)));
    }

-- Definitions.
fits_if : (b : Bool) (d : Diagnostic) → (let o : Option Diagnostic = if b then None else Some d in o) ≡ None → b ≡ true
fits_if true d h = refl
fits_if false d h = cc

pub no_fault : (o : Option Diagnostic) (line : ℕ) (c : coded.Definition) → or_too_large o line c ≡ None → (o ≡ None) × (fits_limits c ≡ true)
no_fault None line c h = (refl, fits_if (fits_limits c) _ h)
no_fault (Some f) line c h = cc

pub scan_if : (b : Bool) (d : Diagnostic) (o : Option Diagnostic) → (if b then Some d else o) ≡ None → o ≡ None
scan_if true d o h = cc
scan_if false d o h = h

pub definition_within : (defined : List (List ℕ)) (d : Definition) → fault_of defined d ≡ None → IsFormed d → AreSound (spell_definition d) → IsWithinRanges (code_of d)
definition_within defined (Simple w values) h formed sound =
    let n = no_fault (scan defined (Simple w values)) w.line (code_of (Simple w values)) h in
    let l = two_fit _ _ 1024 1024 n.1 in
    let v = values-sound values (Holds-front (list_spelling walk_value values) _ (Holds-rest sound)) in
    record {
      named = Holds-first sound;
      few_values = l.0;
      few_strings = l.1;
      values = Holds-All (subst (λ ss. Holds (IsIvalWithin (length ss)) (map ival_code values)) (sym (simple_strings w values)) (initial_values_within values v (formed_in (Simple w values) formed)));
      strings = Holds-All (subst (Holds IsWord) (sym (simple_strings w values)) (values_strings_within values v));
    }
definition_within defined (Vector w size values) h formed sound =
    let n = no_fault (scan defined (Vector w size values)) w.line (code_of (Vector w size values)) h in
    let l = three_fit _ _ (vector_words size values) 1024 1024 32767 n.1 in
    let inner = Holds-rest (Holds-back (size_spelling size) _ (Holds-rest (Holds-rest sound))) in
    let v = values-sound values (Holds-front (list_spelling walk_value values) _ inner) in
    record {
      named = Holds-first sound;
      some_word = omega arith;
      values_in_words = omega (arith, length-map values ival_code);
      few_words = l.2;
      few_values = l.0;
      few_strings = l.1;
      values = Holds-All (subst (λ ss. Holds (IsIvalWithin (length ss)) (map ival_code values)) (sym (vector_strings w size values)) (initial_values_within values v (formed_in (Vector w size values) formed)));
      strings = Holds-All (subst (Holds IsWord) (sym (vector_strings w size values)) (values_strings_within values v));
    }
definition_within defined (function w parameters body) h formed sound = go (function_scope parameters body) refl
  where
    n : (scan defined (function w parameters body) ≡ None) × (fits_limits (code_of (function w parameters body)) ≡ true)
    n = no_fault (scan defined (function w parameters body)) w.line (code_of (function w parameters body)) h

    quiet : scope_fault (function_scope parameters body) ≡ None
    quiet = scan_if (list_any (same_name w.text) defined) _ _ n.0

    go : (r : Result Scope Diagnostic) → function_scope parameters body ≡ r → IsFunctionWithinRanges (function_code w parameters body (clean (function_scope parameters body)))
    go (Err d) e = let q : scope_fault (Err d) ≡ None = subst (λ r. scope_fault r ≡ None) e quiet in cc
    go (Ok s) e =
        let fit = subst (λ r. fits_limits (code.Function (function_code w parameters body (clean r))) ≡ true) e n.1 in
        let body_sound = Holds-rest (Holds-back (list_spelling walk_parameter parameters) _ (Holds-rest (Holds-rest sound))) in
        subst (λ r. IsFunctionWithinRanges (function_code w parameters body (clean r))) (sym e)
        (function_within w parameters body s e fit (Holds-first sound) body_sound (formed_in (function w parameters body) formed))
