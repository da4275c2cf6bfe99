-- One pass over a definition makes its code.
use Rattle.std.proofs.Common.{◌≡◌, ℕ, ◌&&◌, Bool, true, false, List, [], ◌∷◌, ◌++◌, length, map, flat_map, Option, Some, None, Result, Ok, Err, refl, sym, ap, ◌∙◌, subst, arith, le_refl, append_assoc, append-nil, length-append, nat_le, if◌then◌else◌, leb-true, leb-false, lt-ltb, le-ltb}
use Rattle.std.specs.List.{list_any}
use Rattle.std.proofs.lemmas.List.{map-append, length-map}
use Rattle.std.proofs.lemmas.List.Sums.{sum_by-append}
use Rattle.blang.specs.declared.token.Letters.TheVariants as letters
use Rattle.blang.specs.declared.token.Diagnostic.{Diagnostic}
use Rattle.blang.specs.declared.code.Instr.{Instr}
use Rattle.blang.specs.declared.code.Instr.TheVariants as instr
use Rattle.blang.specs.declared.code.Ival as coded_value
use Rattle.blang.specs.declared.code.Ival.TheVariants as ival
use Rattle.blang.specs.declared.code.Definition as coded
use Rattle.blang.specs.declared.code.Definition.TheVariants as code
use Rattle.blang.specs.Trees.{Identifier, Stmt, Ival, Ival_constant, Ival_text, Ival_name, Definition, Simple, Vector, Function}
use Rattle.blang.specs.WellFormed.{IsFormed, packed}
use Rattle.blang.specs.declared.limits.TheConstants.{MAX_NESTING}
use Rattle.bgrammar.specs.Fitting.{EachAfter, Sits, ival_words, values_words, IvalFits, statement_strings, ival_strings}
use Rattle.blang.specs.Scan.{fault, name_fault, undefined, Scope, no_scope, function_events, function_scope, inner_fault, scope_fault, identifier_of, scan}
use Rattle.bword.specs.Words.{same_name}
use Rattle.blang.specs.Code.{Environment, environment_of, ival_code, vector_words, clean, code_of, fits_limits, fault_of, or_too_large, Fragment, fragment}
use Rattle.bgrammar.proofs.WalkLaws.{length-strings, function_events_are}
use Rattle.blang.specs.Walk.{walk_value}
use Rattle.bgrammar.proofs.Fitting.{simple_strings, vector_strings, function_strings, formed_in}
use Rattle.bgrammar.proofs.ScanSteps.{scanned-Err}
use Rattle.bemit.specs.Drafts.{led, Made, Draft, Faulty, Going, no_made, fresh, within_room, stringed, offset_of, valued, worded, closed, numbered, draft_resolved, fault_in, started}
use Rattle.bemit.specs.Drafts as drafts
use Rattle.bemit.specs.Effects.{ival_done, values_done, definition_done, code_with}
use Rattle.bcodegen.specs.Laws.{instructions_in, last_scope, pass_over, OnePass}
use Rattle.bcodegen.proofs.Names.{names_by, agrees_by}
use Rattle.bcodegen.proofs.Parts.{Parts, no_parts, joined, added, ending, drafted, kept, Roomy, smaller, kept_within, changed, offset_is, scope_of, scope_kept, Makes, then_, emits}
use Rattle.bcodegen.proofs.Headings.{parameters_make, worded_scope}
use Rattle.bcodegen.proofs.Breaks.{statement_breaks, fills_whole, statement_closes}
use Rattle.bcodegen.proofs.Trees.{statement_parts}
use Rattle.bcodegen.proofs.StatementMakes.{done_makes}
use Rattle.bcodegen.proofs.Numbered.{renumbered, names_renumbered, numbered_fragment, fragment_numbered}

pub faulty_is : (r : Draft) (f : Diagnostic) → scope_of r ≡ Err f → r ≡ Faulty f
faulty_is (Faulty g) f h = let e : g ≡ f = cc in ap (λ x. Faulty x) e
faulty_is (Going s made) f h = cc

going_is : (r : Draft) (s : Scope) → scope_of r ≡ Ok s → (made : Option Made) × (r ≡ Going s made)
going_is (Faulty g) s h = cc
going_is (Going t made) s h = let e : t ≡ s = cc in (made, ap (λ x. Going x made) e)

-- initial values

valued_is : (v v2 : coded_value.Ival) (s : Scope) (m : Made) → (Roomy s.frame m → v ≡ v2) → valued v (drafted s m) ≡ drafted s (record m { values = m.values ++ v2 ∷ [] })
valued_is v v2 s m e =
    changed _ s m (record m { values = m.values ++ v2 ∷ [] })
    (smaller _ _ m (record m { values = m.values ++ v2 ∷ [] }) (le_refl _) (le_refl _) (le_refl _) (omega (arith, length-append m.values (v2 ∷ []))))
    (λ r. ap (λ x. within_room (record m { values = m.values ++ x ∷ [] })) (e r) ∙ sym (kept_within s.frame (record m { values = m.values ++ v2 ∷ [] }) r.frame_fits))

abbrev pub more : Made → List coded_value.Ival → List ℕ → Made
more m values strings = record m { values = m.values ++ values; strings = m.strings ++ strings }

no_strings : (m : Made) (v : coded_value.Ival) → record m { values = m.values ++ v ∷ [] } ≡ more m (v ∷ []) []
no_strings m v = λ i. record m { values = m.values ++ v ∷ []; strings = sym (append-nil m.strings) i }

pub ival_is : (x : Ival) (before : List Ival) (s : Scope) (m : Made) → IvalFits before x → length m.strings ≡ values_words before → ival_done (drafted s m) x ≡ drafted s (more m (ival_code x ∷ []) (ival_strings x))
ival_is (Ival_constant c) before s m h l = valued_is _ _ s m (λ r. refl) ∙ ap (drafted s) (no_strings m _)
ival_is (Ival_name w) before s m h l = valued_is _ _ s m (λ r. refl) ∙ ap (drafted s) (no_strings m _)
ival_is (Ival_text bytes offset) before s m h l =
    let m1 : Made = record m { strings = m.strings ++ packed bytes } in
    let less : Roomy s.frame m1 → Roomy s.frame m = smaller _ _ m m1 (le_refl _) (le_refl _) (omega (arith, length-append m.strings (packed bytes))) (le_refl _) in
    ap (valued (ival.Text (offset_of (drafted s m)))) (changed _ s m m1 less (λ r. sym (kept_within s.frame m1 r.frame_fits)))
    ∙ valued_is (ival.Text (offset_of (drafted s m))) (ival.Text offset) s m1 (λ r. ap (λ n. ival.Text n) (offset_is s m (less r) ∙ l ∙ sym h))

pub ival_length : (x : Ival) → length (ival_strings x) ≡ ival_words x
ival_length x = length-strings (walk_value x)

more_more : (m : Made) (vs us : List coded_value.Ival) (ss ts : List ℕ) → more (more m vs ss) us ts ≡ more m (vs ++ us) (ss ++ ts)
more_more m vs us ss ts = λ i. record m { values = append_assoc m.values vs us i; strings = append_assoc m.strings ss ts i }

pub values_are : (values before : List Ival) (s : Scope) (m : Made) → EachAfter IvalFits before values → length m.strings ≡ values_words before → values_done values (drafted s m) ≡ drafted s (more m (map ival_code values) (flat_map ival_strings values))
values_are [] before s m h l = ap (drafted s) (λ i. record m { values = sym (append-nil m.values) i; strings = sym (append-nil m.strings) i })
values_are (x ∷ xs) before s m h l =
    let m1 = more m (ival_code x ∷ []) (ival_strings x) in
    let l1 : length m1.strings ≡ values_words (before ++ x ∷ []) = omega (arith, length-append m.strings (ival_strings x), l, ival_length x, sum_by-append ival_words before (x ∷ [])) in
    ap (λ d. values_done xs d) (ival_is x before s m h.0 l)
    ∙ values_are xs (before ++ x ∷ []) s m1 h.1 l1
    ∙ ap (drafted s) (more_more m (ival_code x ∷ []) (map ival_code xs) (ival_strings x) (flat_map ival_strings xs))

ival_scope : (x : Ival) (d : Draft) → scope_of (ival_done d x) ≡ scope_of d
ival_scope (Ival_constant c) d = scope_kept _ d
ival_scope (Ival_text bytes offset) d = scope_kept _ (stringed bytes d) ∙ scope_kept _ d
ival_scope (Ival_name w) d = scope_kept _ d

values_scope : (values : List Ival) (d : Draft) → scope_of (values_done values d) ≡ scope_of d
values_scope [] d = refl
values_scope (x ∷ xs) d = values_scope xs (ival_done d x) ∙ ival_scope x d

-- what comes of a definition: its first fault, or its code unless that is too large
data Comes (d : Definition) (r : Draft) : Type 0 where
  Refused : (f : Diagnostic) → inner_fault d ≡ Some f → fault_in (identifier_of d).line r ≡ Some f → Comes d r
  Coded : (s : Scope) → (m : Made) → inner_fault d ≡ None → undefined s.names ≡ None → r ≡ Going s (if fits_limits (code_of d) then Some m else None)
      → code_with d s.frame (record m { code = map (numbered s.names) m.code }) ≡ code_of d
      → map (numbered s.names) m.code ≡ instructions_in (code_of d) → s ≡ last_scope d → Comes d r

simple_fits : (m : Made) → m.code ≡ [] → kept 0 m ≡ (if nat_le (length m.values) 1024 && nat_le (length m.strings) 1024 then Some m else None)
simple_fits m c = go (nat_le (length m.values) 1024) (nat_le (length m.strings) 1024) refl refl
  where
    go : (a b : Bool) → nat_le (length m.values) 1024 ≡ a → nat_le (length m.strings) 1024 ≡ b → kept 0 m ≡ (if nat_le (length m.values) 1024 && nat_le (length m.strings) 1024 then Some m else None)
    go true true p q = rw (c, p, q) refl
    go true false p q = rw (c, p, q) refl
    go false true p q = rw (c, p, q) refl
    go false false p q = rw (c, p, q) refl

vector_fits : (m : Made) (n : ℕ) → m.code ≡ [] → worded n (drafted no_scope m) ≡ Going no_scope (if nat_le (length m.values) 1024 && nat_le (length m.strings) 1024 && nat_le n 32767 then Some m else None)
vector_fits m n c = go (nat_le (length m.values) 1024) (nat_le (length m.strings) 1024) (nat_le n 32767) refl refl refl
  where
    go : (a b w : Bool) → nat_le (length m.values) 1024 ≡ a → nat_le (length m.strings) 1024 ≡ b → nat_le n 32767 ≡ w → worded n (drafted no_scope m) ≡ Going no_scope (if nat_le (length m.values) 1024 && nat_le (length m.strings) 1024 && nat_le n 32767 then Some m else None)
    go true true true p q t = rw (c, p, q, t, le-ltb 32767 n (leb-true n 32767 t)) refl
    go true false true p q t = rw (c, p, q, le-ltb 32767 n (leb-true n 32767 t)) refl
    go false true true p q t = rw (c, p, q, le-ltb 32767 n (leb-true n 32767 t)) refl
    go false false true p q t = rw (c, p, q, le-ltb 32767 n (leb-true n 32767 t)) refl
    go true true false p q t = rw (c, p, q, t, lt-ltb 32767 n (leb-false n 32767 t)) refl
    go true false false p q t = rw (c, p, q, lt-ltb 32767 n (leb-false n 32767 t)) refl
    go false true false p q t = rw (c, p, q, lt-ltb 32767 n (leb-false n 32767 t)) refl
    go false false false p q t = rw (c, p, q, lt-ltb 32767 n (leb-false n 32767 t)) refl

function_fits : (frame : ℕ) (m : Made) (c : List Instr) → length c ≡ length m.code → m.values ≡ [] → kept frame m ≡ (if nat_le (length c) 4096 && nat_le (length m.strings) 1024 && nat_le frame 32767 then Some m else None)
function_fits frame m c l v = go (nat_le (length m.code) 4096) (nat_le (length m.strings) 1024) (nat_le frame 32767) refl refl refl
  where
    go : (a b w : Bool) → nat_le (length m.code) 4096 ≡ a → nat_le (length m.strings) 1024 ≡ b → nat_le frame 32767 ≡ w → kept frame m ≡ (if nat_le (length c) 4096 && nat_le (length m.strings) 1024 && nat_le frame 32767 then Some m else None)
    go true true true p q t = rw (l, v, p, q, t) refl
    go true false true p q t = rw (l, v, p, q, t) refl
    go false b true p q t = rw (l, v, p, t) refl
    go true true false p q t = rw (l, v, p, q, t) refl
    go true false false p q t = rw (l, v, p, q, t) refl
    go false b false p q t = rw (l, v, p, t) refl

-- a function
abbrev pub function_parts : Environment → Stmt → Parts
function_parts names body = ending (ending (joined no_parts (statement_parts names body)) (λ p. instr.Constant 0)) (λ p. instr.Return)

pub function_makes : (names : Environment) (w : Identifier) (parameters : List Identifier) (body : Stmt) → Sits body MAX_NESTING 0 → Makes names (definition_done (Function w parameters body)) (function_events parameters body) MAX_NESTING 0 (function_parts names body)
function_makes names w parameters body sits =
    subst (λ es. Makes names (definition_done (Function w parameters body)) es MAX_NESTING 0 (function_parts names body)) (sym (function_events_are parameters body))
    (emits instr.Return (emits (instr.Constant 0) (then_ (parameters_make parameters) (done_makes names body MAX_NESTING 0 sits) refl)))

-- the code of a function with this scope and these words of its strings
abbrev function_code : Identifier → List Identifier → Stmt → Scope → List ℕ → coded.Definition
function_code w parameters body s strings = code.Function (record {
  name = w.text;
  parameters = length parameters;
  frame = s.frame;
  targets = (fragment (environment_of s.names) body 0).targets.labels;
  strings = strings;
  code = (fragment (environment_of s.names) body 0).code ((fragment (environment_of s.names) body 0).end) ++ (instr.Constant 0 ∷ instr.Return ∷ []);
})

function_comes : (w : Identifier) (parameters : List Identifier) (body : Stmt) → Sits body MAX_NESTING 0 → Comes (Function w parameters body) (definition_done (Function w parameters body) fresh)
function_comes w parameters body sits = go (function_scope parameters body) refl
  where
    d : Definition
    d = Function w parameters body

    scope_is : scope_of (definition_done d fresh) ≡ function_scope parameters body
    scope_is = (function_makes (environment_of []) w parameters body sits).scans fresh (le_refl 200)

    coded_by : (s : Scope) → function_scope parameters body ≡ Ok s → undefined s.names ≡ None → Comes d (definition_done d fresh)
    coded_by s h u = Coded s m (ap scope_fault h ∙ u) u draft_is code_is (ap instructions_in code_is) (sym (ap clean h))
      where
        names : Environment
        names = names_by s.names

        m : Made
        m = added no_made (function_parts names body)

        ends : List Instr
        ends = instr.Constant 0 ∷ instr.Return ∷ []

        renamed : (x : List ℕ) → renumbered s.names (names x) ≡ environment_of s.names x
        renamed = names_renumbered s.names u

        out : ℕ
        out = (fragment (environment_of s.names) body 0).end

        tree : List Instr
        tree = (fragment (environment_of s.names) body 0).code out

        -- No break stands outside of loops and switches.
        no_breaks : statement_breaks (environment_of s.names) body 0 ≡ []
        no_breaks = (function_makes (environment_of s.names) w parameters body sits).inside no_scope s h refl 0

        closed : (fragment (environment_of s.names) body 0).code 0 ≡ tree
        closed = ap (λ l. led out l ((fragment (environment_of s.names) body 0).code 0)) (sym no_breaks) ∙ fills_whole [] (statement_closes (environment_of s.names) body 0 out) refl

        numbered_body : numbered_fragment s.names names (environment_of s.names) renamed (fragment names body 0) ≡ fragment (environment_of s.names) body 0
        numbered_body = fragment_numbered s.names names (environment_of s.names) renamed body 0

        coded : map (numbered s.names) m.code ≡ tree ++ ends
        coded =
            ap (map (numbered s.names)) (append_assoc ((fragment names body 0).code 0) (instr.Constant 0 ∷ []) (instr.Return ∷ []))
            ∙ map-append (numbered s.names) ((fragment names body 0).code 0) ends
            ∙ ap (λ l. l ++ ends) (ap (λ (a : Fragment). a.code 0) numbered_body ∙ closed)

        whole : code_of d ≡ function_code w parameters body s (statement_strings body)
        whole = λ i. function_code w parameters body (clean (h i)) (function_strings w parameters body i)

        long : length (tree ++ ends) ≡ length m.code
        long = ap length (sym coded) ∙ length-map m.code (numbered s.names)

        draft_is : definition_done d fresh ≡ Going s (if fits_limits (code_of d) then Some m else None)
        draft_is =
            (function_makes names w parameters body sits).makes no_scope s no_made (le_refl 200) h (agrees_by s.names) refl
            ∙ ap (λ o. Going s o) (function_fits s.frame m (tree ++ ends) long refl)
            ∙ ap (λ c. Going s (if fits_limits c then Some m else None)) (sym whole)

        labels : (fragment names body 0).targets.labels ≡ (fragment (environment_of s.names) body 0).targets.labels
        labels = ap (λ (a : Fragment). a.targets.labels) numbered_body

        code_is : code_with d s.frame (record m { code = map (numbered s.names) m.code }) ≡ code_of d
        code_is = (λ i. code.Function (record { name = w.text; parameters = length parameters; frame = s.frame; targets = labels i; strings = statement_strings body; code = coded i })) ∙ sym whole

    settled : (s : Scope) (o : Option Diagnostic) → function_scope parameters body ≡ Ok s → undefined s.names ≡ o → Comes d (definition_done d fresh)
    settled s None h u = coded_by s h u
    settled s (Some f) h u =
        let r = going_is (definition_done d fresh) s (scope_is ∙ h) in
        Refused f (ap scope_fault h ∙ u) (ap (fault_in w.line) r.1 ∙ ap (λ o. drafts.fault_after o r.0 w.line) u)

    go : (r : Result Scope Diagnostic) → function_scope parameters body ≡ r → Comes d (definition_done d fresh)
    go (Err f) h = Refused f (ap scope_fault h) (ap (fault_in w.line) (faulty_is (definition_done d fresh) f (scope_is ∙ h)))
    go (Ok s) h = settled s (undefined s.names) h refl

-- the code of an external with these words of its strings
abbrev simple_code : Identifier → List Ival → List ℕ → coded.Definition
simple_code w values strings = code.Simple (record { name = w.text; values = map ival_code values; strings = strings })

abbrev vector_code : Identifier → Option ℕ → List Ival → List ℕ → coded.Definition
vector_code w size values strings =
    code.Vector (record { name = w.text; words = vector_words size values; values = map ival_code values; strings = strings })

comes : (d : Definition) → IsFormed d → Comes d (definition_done d fresh)
comes (Simple w values) formed =
    let m : Made = more no_made (map ival_code values) (flat_map ival_strings values) in
    let same = sym (simple_strings w values) in
    Coded no_scope m refl refl
    (values_are values [] no_scope no_made (formed_in (Simple w values) formed) refl ∙ ap (λ o. Going no_scope o) (simple_fits m refl)
    ∙ ap (λ strings. Going no_scope (if fits_limits (simple_code w values strings) then Some m else None)) same)
    (ap (simple_code w values) same) refl refl
comes (Vector w size values) formed =
    let m : Made = more no_made (map ival_code values) (flat_map ival_strings values) in
    let same = sym (vector_strings w size values) in
    Coded no_scope m refl refl
    (ap (worded (vector_words size values)) (values_are values [] no_scope no_made (formed_in (Vector w size values) formed) refl)
    ∙ vector_fits m (vector_words size values) refl
    ∙ ap (λ strings. Going no_scope (if fits_limits (vector_code w size values strings) then Some m else None)) same)
    (ap (vector_code w size values) same) refl refl
comes (Function w parameters body) formed = function_comes w parameters body (formed_in (Function w parameters body) formed)

-- a first fault stays
pub stays : (d : Definition) (f : Diagnostic) → IsFormed d → scope_of (definition_done d (Faulty f)) ≡ Err f
stays (Simple w values) f formed = values_scope values (Faulty f)
stays (Vector w size values) f formed = worded_scope (vector_words size values) (values_done values (Faulty f)) ∙ values_scope values (Faulty f)
stays (Function w parameters body) f formed = (function_makes (environment_of []) w parameters body (formed_in (Function w parameters body) formed)).scans (Faulty f) tt ∙ scanned-Err (function_events parameters body) f

abbrev Settles : List (List ℕ) → Definition → Draft → Type 0
Settles defined d r =
    (fault_in (identifier_of d).line r ≡ fault_of defined d)
    × (fault_of defined d ≡ None → (s : Scope) × (m : Made) × (draft_resolved r ≡ Going s (Some m)) × (code_with d s.frame m ≡ code_of d)
    × (m.code ≡ instructions_in (code_of d)) × (s ≡ last_scope d))

settles : (defined : List (List ℕ)) (d : Definition) (r : Draft) → Comes d r → fault_of defined d ≡ or_too_large (inner_fault d) (identifier_of d).line (code_of d) → Settles defined d r
settles defined d r (Refused f i h) e =
    let g : fault_of defined d ≡ Some f = e ∙ ap (λ o. or_too_large o (identifier_of d).line (code_of d)) i in
    (h ∙ sym g, λ n. let bad : Some f ≡ None = sym g ∙ n in cc)
settles defined d r (Coded s m i u h c b l) e = go (fits_limits (code_of d)) refl
  where
    small : fault_of defined d ≡ (if fits_limits (code_of d) then None else Some (fault letters.TooLarge (identifier_of d).line))
    small = e ∙ ap (λ o. or_too_large o (identifier_of d).line (code_of d)) i

    found : fault_in (identifier_of d).line r ≡ drafts.fault_after None (if fits_limits (code_of d) then Some m else None) (identifier_of d).line
    found = ap (fault_in (identifier_of d).line) h ∙ ap (λ o. drafts.fault_after o (if fits_limits (code_of d) then Some m else None) (identifier_of d).line) u

    go : (b : Bool) → fits_limits (code_of d) ≡ b → Settles defined d r
    go true q = (
      found ∙ ap (λ b. drafts.fault_after None (if b then Some m else None) (identifier_of d).line) q ∙ sym (ap (λ b. if b then None else Some (fault letters.TooLarge (identifier_of d).line)) q) ∙ sym small,
      λ n. (s, record m { code = map (numbered s.names) m.code }, ap draft_resolved h ∙ ap (λ b. draft_resolved (Going s (if b then Some m else None))) q, c, b, l),
    )
    go false q =
        let large : fault_of defined d ≡ Some (fault letters.TooLarge (identifier_of d).line) = small ∙ ap (λ b. if b then None else Some (fault letters.TooLarge (identifier_of d).line)) q in (
          found ∙ ap (λ b. drafts.fault_after None (if b then Some m else None) (identifier_of d).line) q ∙ sym large,
          λ n. let bad : Some (fault letters.TooLarge (identifier_of d).line) ≡ None = sym large ∙ n in cc,
        )

-- One pass makes the fault of a definition, or else its code.
pub one_pass : OnePass
one_pass defined d formed = go (list_any (same_name (identifier_of d).text) defined) refl
  where
    go : (b : Bool) → list_any (same_name (identifier_of d).text) defined ≡ b → Settles defined d (pass_over defined d)
    go true q =
        let f = name_fault letters.Redeclared (identifier_of d) in
        let started_is : started defined (identifier_of d) ≡ Faulty f = rw q refl in
        let scan_is : scan defined d ≡ Some f = rw q refl in
        let r : pass_over defined d ≡ Faulty f = ap (definition_done d) started_is ∙ faulty_is (definition_done d (Faulty f)) f (stays d f formed) in
        let g : fault_of defined d ≡ Some f = ap (λ o. or_too_large o (identifier_of d).line (code_of d)) scan_is in
        (ap (fault_in (identifier_of d).line) r ∙ sym g, λ n. let bad : Some f ≡ None = sym g ∙ n in cc)
    go false q =
        let started_is : started defined (identifier_of d) ≡ fresh = rw q refl in
        let scan_is : scan defined d ≡ inner_fault d = rw q refl in
        settles defined d (pass_over defined d) (subst (Comes d) (sym (ap (definition_done d) started_is)) (comes d formed)) (ap (λ o. or_too_large o (identifier_of d).line (code_of d)) scan_is)
