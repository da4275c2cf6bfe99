-- What is noted while a definition is read are the lines of its code.
use Rattle.std.proofs.Common.{◌≡◌, ℕ, zero, suc, ◌+◌, Bool, true, false, List, [], ◌∷◌, ◌++◌, length, map, flat_map, get_or, Option, Some, None, Ok, refl, sym, ap, ◌∙◌, arith, le_refl, append_assoc, length-append, add-zero, add-one, nat_lt, ⊎_elim, if◌then◌else◌}
use Rattle.std.specs.List.{list_any}
use Rattle.std.proofs.lemmas.List.{length-map}
use Rattle.std.proofs.lemmas.List.Sums.{sum_by-append}
use Rattle.bword.specs.Words.{same_name}
use Rattle.blang.specs.declared.token.Diagnostic.{Diagnostic}
use Rattle.blang.specs.declared.token.Letters.TheVariants as letters
use Rattle.blang.specs.declared.limits.TheConstants.{MAX_NESTING, MAX_WORDS}
use Rattle.blang.specs.declared.code.Instr.{Instr}
use Rattle.blang.specs.declared.code.Instr.TheVariants as instr
use Rattle.blang.specs.Trees.{Identifier, Stmt, Ival, Ival_constant, Ival_text, Ival_name, Definition, Simple, Vector, Function}
use Rattle.blang.specs.WellFormed.{IsFormed}
use Rattle.blang.specs.Walk.{Walk, Level, ◌▸◌, AutoHere, tokens_in, walk_size, walk_value, walk_commas, walk_list, walk_values, walk_parameter, walk_statement, walk_definition}
use Rattle.blang.specs.Scan.{name_fault, undefined, Scope, no_scope, function_scope, identifier_of, scanned}
use Rattle.blang.specs.Code.{Environment, environment_of, ival_code, clean, vector_code, code_of, fault_of, vector_words, fragment}
use Rattle.blang.specs.Lines.{Lines, no_lines, filled_to, noted_at, Origin, count, size_of, name_origins, statement_origins, value_origins, definition_origins, noted_by}
use Rattle.bgrammar.specs.Fitting.{EachAfter, Sits, ival_words, values_words, IvalFits, ival_strings}
use Rattle.bgrammar.proofs.Fitting.{formed_in}
use Rattle.bgrammar.proofs.WalkLaws.{function_events_are}
use Rattle.bgrammar.specs.Events.{statement_events}
use Rattle.bemit.specs.Drafts.{Made, Draft, Faulty, Going, no_made, fresh, numbered, draft_resolved, fault_in, fault_after, place_of, started, worded, with_made}
use Rattle.bemit.specs.Effects.{ival_done, values_done, parameters_done, definition_done, code_with}
use Rattle.bemit.specs.Trails.{Trail, trail, took, took_size, value_place, trailed_value, trailed_more, trailed_list, trailed_values, trailed_parameters, trailed_statement, made_to, definition_trail}
use Rattle.bcodegen.specs.Laws.{pass_over, OneTrail}
use Rattle.bcodegen.proofs.Names.{names_by, agrees_by}
use Rattle.bcodegen.proofs.Parts.{Parts, no_parts, joined, added, drafted, kept_some, kept_cases, Roomy, smaller, scope_of}
use Rattle.bcodegen.proofs.Expressions.{only}
use Rattle.bcodegen.proofs.Headings.{no_vector}
use Rattle.bcodegen.proofs.Trees.{statement_parts}
use Rattle.bcodegen.proofs.Numbered.{names_renumbered}
use Rattle.bcodegen.proofs.Definitions.{faulty_is, ival_is, ival_length, more, values_are, function_parts, function_makes, stays, one_pass}
use Rattle.bcodegen.proofs.Notes.{lines_in, Notes, renoted, past, through, notes_then}
use Rattle.bcodegen.proofs.HeadingNotes.{all_origins, all_parts, list_notes, list_makes, parameters, no_size, names_are}
use Rattle.bcodegen.proofs.StatementNotes.{statement_notes}
use Rattle.bcodegen.proofs.SameOrigins.{statement_same}

-- the lines of so many tokens from one on
abbrev upto : (line_at : ℕ → ℕ) → (t n : ℕ) → List ℕ
upto at t zero = []
upto at t (suc n) = at t ∷ upto at (suc t) n

upto_append : (at : ℕ → ℕ) (t m n : ℕ) → upto at t (m + n) ≡ upto at t m ++ upto at (t + m) n
upto_append at t zero n = ap (upto at t) (let q : 0 + n ≡ n = omega arith in q) ∙ ap (λ k. upto at k n) (sym (add-zero t))
upto_append at t (suc m) n =
    ap (upto at t) (let q : suc m + n ≡ suc (m + n) = omega arith in q)
    ∙ ap (λ l. at t ∷ l) (upto_append at (suc t) m n ∙ ap (λ k. upto at (suc t) m ++ upto at k n) (let q : suc t + m ≡ t + suc m = omega arith in q))

lines_are : (at : ℕ → ℕ) (w : Walk) (t : ℕ) (rest : List ℕ) → lines_in at w t rest ≡ upto at t (count w) ++ rest
lines_are at (Level o w a) t rest = ap (λ l. at t ∷ l) (lines_are at w (t + 1) rest ∙ ap (λ k. upto at k (count w) ++ rest) (add-one t))
lines_are at (v ▸ w) t rest =
    lines_are at v t (lines_in at w (t + count v) rest)
    ∙ ap (λ l. upto at t (count v) ++ l) (lines_are at w (t + count v) rest)
    ∙ sym (append_assoc (upto at t (count v)) (upto at (t + count v) (count w)) rest)
    ∙ ap (λ l. l ++ rest) (sym (upto_append at t (count v) (count w)) ∙ ap (upto at t) (sym (length-append (tokens_in v) (tokens_in w))))
lines_are at _ t rest = refl

upto_shift : (at : ℕ → ℕ) (t n : ℕ) → upto at (suc t) n ≡ upto (λ k. at (suc k)) t n
upto_shift at t zero = refl
upto_shift at t (suc n) = ap (λ l. at (suc t) ∷ l) (upto_shift at (suc t) n)

table : (xs : List ℕ) → upto (λ k. get_or xs k 0) 0 (length xs) ≡ xs
table [] = refl
table (x ∷ xs) = ap (λ l. x ∷ l) (upto_shift (λ k. get_or (x ∷ xs) k 0) 0 (length xs) ∙ table xs)

-- what a pass makes of a definition without a fault, whose code has as many parts
abbrev made_size : Definition → Made → ℕ
made_size (Function w ps body) m = length m.code
made_size d m = length m.values

record IsMade (d : Definition) : Type 0 where
  scope : Scope
  made : Made
  draft : definition_done d fresh ≡ Going scope (Some made)
  size : size_of (code_of d) ≡ made_size d made
  defined : undefined scope.names ≡ None

sized : (d : Definition) (frame : ℕ) (m : Made) → size_of (code_with d frame m) ≡ made_size d m
sized (Simple w values) frame m = refl
sized (Vector w size values) frame m = refl
sized (Function w ps body) frame m = refl

same_size : (d : Definition) (m m2 : Made) → length m.code ≡ length m2.code → length m.values ≡ length m2.values → made_size d m ≡ made_size d m2
same_size (Simple w values) m m2 c v = v
same_size (Vector w size values) m m2 c v = v
same_size (Function w ps body) m m2 c v = c

no_undefined : (o : Option Diagnostic) (m : Option Made) (line : ℕ) → fault_after o m line ≡ None → o ≡ None
no_undefined None m line h = refl
no_undefined (Some f) m line h = cc

is_made : (defined : List (List ℕ)) (d : Definition) → IsFormed d → fault_of defined d ≡ None → IsMade d
is_made defined d formed none = go (list_any (same_name (identifier_of d).text) defined) refl
  where
    line : ℕ
    line = (identifier_of d).line

    passes : (r : Draft) → pass_over defined d ≡ r → r ≡ definition_done d fresh → IsMade d
    passes (Faulty f) p q =
        let x = (one_pass defined d formed).1 none in
        let bad : Faulty f ≡ Going x.0 (Some x.1) = ap draft_resolved (sym p) ∙ x.2 in cc
    passes (Going s None) p q =
        let x = (one_pass defined d formed).1 none in
        let bad : Going s None ≡ Going x.0 (Some x.1) = ap draft_resolved (sym p) ∙ x.2 in cc
    passes (Going s (Some m)) p q =
        let x = (one_pass defined d formed).1 none in
        let same : Going s (Some (record m { code = map (numbered s.names) m.code })) ≡ Going x.0 (Some x.1) = ap draft_resolved (sym p) ∙ x.2 in
        let made : record m { code = map (numbered s.names) m.code } ≡ x.1 = cc in
        record {
          scope = s;
          made = m;
          draft = sym q;
          size = ap size_of (sym x.3) ∙ sized d x.0.frame x.1
              ∙ same_size d x.1 m (ap (λ (y : Made). length y.code) (sym made) ∙ length-map m.code (numbered s.names)) (ap (λ (y : Made). length y.values) (sym made));
          defined = no_undefined (undefined s.names) (Some m) line (ap (fault_in line) (sym p) ∙ (one_pass defined d formed).0 ∙ none);
        }

    go : (b : Bool) → list_any (same_name (identifier_of d).text) defined ≡ b → IsMade d
    go true q =
        let f = name_fault letters.Redeclared (identifier_of d) in
        let started_is : started defined (identifier_of d) ≡ Faulty f = rw q refl in
        let x = (one_pass defined d formed).1 none in
        let r : pass_over defined d ≡ Faulty f = ap (definition_done d) started_is ∙ faulty_is (definition_done d (Faulty f)) f (stays d f formed) in
        let bad : Faulty f ≡ Going x.0 (Some x.1) = ap draft_resolved (sym r) ∙ x.2 in cc
    go false q =
        let started_is : started defined (identifier_of d) ≡ fresh = rw q refl in
        passes (pass_over defined d) refl (ap (definition_done d) started_is)

-- what is within all room is kept
roomy_kept : (s s2 : Scope) (m m2 : Made) → drafted s m ≡ Going s2 (Some m2) → Roomy s.frame m × (m ≡ m2)
roomy_kept s s2 m m2 h = ⊎_elim (λ k. (k.0, let e : Going s (Some m) ≡ Going s2 (Some m2) = ap (λ o. Going s o) (sym k.1) ∙ h in cc)) (λ k. let bad : Going s None ≡ Going s2 (Some m2) = ap (λ o. Going s o) (sym k.1) ∙ h in cc) (kept_cases s.frame m)

-- what was noted of a definition, up to the end of its code
abbrev Ends : Definition → Type 0
Ends d = (at : ℕ → ℕ) (rest : List ℕ) → definition_trail d (lines_in at (walk_definition d) 0 rest) ≡ trail rest (filled_to (size_of (code_of d)) (noted_by at (definition_origins d) no_lines))

-- initial values
value_line : (v : Ival) (at : ℕ → ℕ) (t : ℕ) (rest : List ℕ) → lines_in at (walk_value v) t rest ≡ at t ∷ rest
value_line (Ival_constant c) at t rest = refl
value_line (Ival_text bytes offset) at t rest = refl
value_line (Ival_name w) at t rest = refl

value_count : (v : Ival) → count (walk_value v) ≡ 1
value_count (Ival_constant c) = refl
value_count (Ival_text bytes offset) = refl
value_count (Ival_name w) = refl

value_place_is : (s : Scope) (m : Made) → Roomy s.frame m → value_place (drafted s m) ≡ length m.values
value_place_is s m r = ap (λ o. value_place (Going s o)) (kept_some s.frame m r)

one_more : (v : Ival) (vs before : List Ival) (m : Made) → length m.strings ≡ values_words before → length (more m (ival_code v ∷ []) (ival_strings v)).strings ≡ values_words (before ++ v ∷ [])
one_more v vs before m l = omega (arith, length-append m.strings (ival_strings v), l, ival_length v, sum_by-append ival_words before (v ∷ []))

abbrev all_more : Made → List Ival → Made
all_more m vs = more m (map ival_code vs) (flat_map ival_strings vs)

roomy_now : (frame : ℕ) (vs : List Ival) (m : Made) → Roomy frame (all_more m vs) → Roomy frame m
roomy_now frame vs m r = smaller frame frame m (all_more m vs) (le_refl _) (le_refl _) (omega (arith, length-append m.strings (flat_map ival_strings vs))) (omega (arith, length-append m.values (map ival_code vs))) r

roomy_later : (frame : ℕ) (v : Ival) (vs : List Ival) (m : Made) → Roomy frame (all_more m (v ∷ vs)) → Roomy frame (all_more (more m (ival_code v ∷ []) (ival_strings v)) vs)
roomy_later frame v vs m r =
    let m1 = more m (ival_code v ∷ []) (ival_strings v) in
    smaller frame frame (all_more m1 vs) (all_more m (v ∷ vs)) (le_refl _) (le_refl _)
    (omega (arith, length-append m.strings (ival_strings v), length-append m1.strings (flat_map ival_strings vs), length-append m.strings (ival_strings v ++ flat_map ival_strings vs), length-append (ival_strings v) (flat_map ival_strings vs)))
    (omega (arith, length-append m.values (ival_code v ∷ []), length-append m1.values (map ival_code vs), length-append m.values (ival_code v ∷ map ival_code vs))) r

abbrev step : Ival → Draft → Draft
step v b = ival_done b v

value_more : (v : Ival) (m : Made) → length (more m (ival_code v ∷ []) (ival_strings v)).values ≡ length m.values + 1
value_more v m = length-append m.values (ival_code v ∷ [])

-- a value, and then the others
first_value : (v : Ival) (vs before : List Ival) (s : Scope) (m : Made) → IvalFits before v → length m.strings ≡ values_words before → Roomy s.frame (all_more m (v ∷ vs)) → (at : ℕ → ℕ) (t : ℕ) (rest : List ℕ) (n : Lines)
    → ((rest2 : List ℕ) (n2 : Lines) → trailed_more step trailed_value vs (drafted s (more m (ival_code v ∷ []) (ival_strings v))) (trail (lines_in at (walk_commas walk_value vs) (t + 1) rest2) n2) ≡ trail rest2 (noted_by at (value_origins vs (length m.values + 1) (t + 2)) n2))
    → trailed_more step trailed_value vs (ival_done (drafted s m) v) (trailed_value v (drafted s m) (trail (lines_in at (walk_value v) t (lines_in at (walk_commas walk_value vs) (t + count (walk_value v)) rest)) n))
    ≡ trail rest (noted_by at (value_origins (v ∷ vs) (length m.values) t) n)
first_value v vs before s m h l r at t rest n others =
    let n1 = noted_at (length m.values) (at t) n in
    let d = drafted s m in
    let rest1 = lines_in at (walk_commas walk_value vs) (t + 1) rest in
    ap (λ ls. trailed_more step trailed_value vs (ival_done d v) (trailed_value v d (trail ls n))) (value_line v at t _ ∙ ap (λ k. at t ∷ lines_in at (walk_commas walk_value vs) (t + k) rest) (value_count v))
    ∙ ap (λ k. trailed_more step trailed_value vs (ival_done d v) (trail rest1 (noted_at k (at t) n))) (value_place_is s m (roomy_now s.frame (v ∷ vs) m r))
    ∙ ap (λ b. trailed_more step trailed_value vs b (trail rest1 n1)) (ival_is v before s m h l)
    ∙ others rest n1

more_values : (vs before : List Ival) (s : Scope) (m : Made) → EachAfter IvalFits before vs → length m.strings ≡ values_words before → Roomy s.frame (all_more m vs) → (at : ℕ → ℕ) (t : ℕ) (rest : List ℕ) (n : Lines)
    → trailed_more step trailed_value vs (drafted s m) (trail (lines_in at (walk_commas walk_value vs) t rest) n) ≡ trail rest (noted_by at (value_origins vs (length m.values) (t + 1)) n)
more_values [] before s m h l r at t rest n = refl
more_values (v ∷ vs) before s m h l r at t rest n =
    first_value v vs before s m h.0 l r at (t + 1) rest n (λ rest2 n2. following v vs before s m h.1 l r at (t + 1) rest2 n2 (more_values vs (before ++ v ∷ []) s (more m (ival_code v ∷ []) (ival_strings v)) h.1 (one_more v vs before m l) (roomy_later s.frame v vs m r) at (t + 1 + 1) rest2 n2))
  where
    following : (v : Ival) (vs before : List Ival) (s : Scope) (m : Made) → EachAfter IvalFits (before ++ v ∷ []) vs → length m.strings ≡ values_words before → Roomy s.frame (all_more m (v ∷ vs)) → (at : ℕ → ℕ) (t : ℕ) (rest : List ℕ) (n : Lines)
        → trailed_more step trailed_value vs (drafted s (more m (ival_code v ∷ []) (ival_strings v))) (trail (lines_in at (walk_commas walk_value vs) (t + 1) rest) n) ≡ trail rest (noted_by at (value_origins vs (length (more m (ival_code v ∷ []) (ival_strings v)).values) (t + 1 + 1)) n)
        → trailed_more step trailed_value vs (drafted s (more m (ival_code v ∷ []) (ival_strings v))) (trail (lines_in at (walk_commas walk_value vs) (t + 1) rest) n) ≡ trail rest (noted_by at (value_origins vs (length m.values + 1) (t + 2)) n)
    following v vs before s m h l r at t rest n k =
        k ∙ ap (λ c. trail rest (noted_by at (value_origins vs c (t + 1 + 1)) n)) (value_more v m) ∙ ap (λ c. trail rest (noted_by at (value_origins vs (length m.values + 1) c) n)) (let q : t + 1 + 1 ≡ t + 2 = omega arith in q)

values_noted : (vs : List Ival) (s : Scope) (m : Made) → EachAfter IvalFits [] vs → length m.strings ≡ 0 → Roomy s.frame (all_more m vs) → (at : ℕ → ℕ) (t : ℕ) (rest : List ℕ) (n : Lines)
    → trailed_list step trailed_value vs (drafted s m) (trail (lines_in at (walk_list walk_value vs) t rest) n) ≡ trail rest (noted_by at (value_origins vs (length m.values) t) n)
values_noted [] s m h l r at t rest n = refl
values_noted (v ∷ vs) s m h l r at t rest n =
    let m1 = more m (ival_code v ∷ []) (ival_strings v) in
    first_value v vs [] s m h.0 l r at t rest n (λ rest2 n2.
    more_values vs (v ∷ []) s m1 h.1 (one_more v vs [] m l) (roomy_later s.frame v vs m r) at (t + 1) rest2 n2
    ∙ ap (λ c. trail rest2 (noted_by at (value_origins vs c (t + 1 + 1)) n2)) (value_more v m) ∙ ap (λ c. trail rest2 (noted_by at (value_origins vs (length m.values + 1) c) n2)) (let q : t + 1 + 1 ≡ t + 2 = omega arith in q))

value_lines : (values : List Ival) (s : Scope) (made : Made) → EachAfter IvalFits [] values → values_done values fresh ≡ Going s (Some made) → (at : ℕ → ℕ) (t : ℕ) (rest : List ℕ)
    → trailed_values values fresh (trail (lines_in at (walk_values values) t rest) no_lines) ≡ trail rest (noted_by at (value_origins values 0 t) no_lines)
value_lines values s made fits h at t rest =
    let r = roomy_kept no_scope s (all_more no_made values) made (sym (values_are values [] no_scope no_made fits refl) ∙ h) in
    ap took (values_noted values no_scope no_made fits refl r.0 at t (at (t + count (walk_list walk_value values)) ∷ rest) no_lines)

simple_ends : (w : Identifier) (values : List Ival) → EachAfter IvalFits [] values → IsMade (Simple w values) → Ends (Simple w values)
simple_ends w values fits x at rest =
    ap (made_to (value_place (values_done values fresh))) (value_lines values x.scope x.made fits x.draft at 1 rest)
    ∙ ap (λ p. trail rest (filled_to p (noted_by at (value_origins values 0 1) no_lines))) (ap value_place x.draft ∙ sym x.size)

-- a definition that is not too large
not_over : (d : Draft) (s : Scope) (m : Made) → with_made (λ m. None) d ≡ Going s (Some m) → d ≡ Going s (Some m)
not_over (Faulty f) s m h = cc
not_over (Going t None) s m h = cc
not_over (Going t (Some k)) s m h = cc

within_words : (n : ℕ) (d : Draft) (s : Scope) (m : Made) → worded n d ≡ Going s (Some m) → d ≡ Going s (Some m)
within_words n d s m h = go (nat_lt MAX_WORDS n) refl
  where
    go : (b : Bool) → nat_lt MAX_WORDS n ≡ b → d ≡ Going s (Some m)
    go true q = not_over d s m (sym (ap (λ b. if b then with_made (λ m. None) d else d) q) ∙ h)
    go false q = sym (ap (λ b. if b then with_made (λ m. None) d else d) q) ∙ h

size_taken : (size : Option ℕ) (at : ℕ → ℕ) (t : ℕ) (rest : List ℕ) (n : Lines) → took_size size (trail (lines_in at (walk_size size) t rest) n) ≡ trail rest n
size_taken None at t rest n = refl
size_taken (Some k) at t rest n = refl

vector_ends : (w : Identifier) (size : Option ℕ) (values : List Ival) → EachAfter IvalFits [] values → IsMade (Vector w size values) → Ends (Vector w size values)
vector_ends w size values fits x at rest =
    let c = 2 + count (walk_size size) in
    let made = within_words (vector_words size values) (values_done values fresh) x.scope x.made x.draft in
    ap (λ t. made_to (value_place (values_done values fresh)) (trailed_values values fresh (took t))) (size_taken size at 2 (at c ∷ lines_in at (walk_values values) (c + 1) rest) no_lines)
    ∙ ap (made_to (value_place (values_done values fresh))) (value_lines values x.scope x.made fits made at (c + 1) rest)
    ∙ ap (λ p. trail rest (filled_to p (noted_by at (value_origins values 0 (c + 1)) no_lines))) (ap value_place made ∙ sym x.size)

-- a function
module _ (names : Environment) where
  abbrev parameters_parts : List Identifier → Parts
  parameters_parts ps = all_parts (λ w. only (λ p. vector_code names (names w.text) None) []) ps

  no_parameter_code : (ps : List Identifier) (p : ℕ) → (parameters_parts ps).code p ≡ []
  no_parameter_code [] p = refl
  no_parameter_code (w ∷ ps) p = ap (λ a. a ++ (parameters_parts ps).code (p + length a)) (no_vector names (names w.text)) ∙ no_parameter_code ps (p + 0)

  no_parameter_strings : (ps : List Identifier) → (parameters_parts ps).strings ≡ []
  no_parameter_strings [] = refl
  no_parameter_strings (w ∷ ps) = no_parameter_strings ps

  abbrev function_origins : List Identifier → Stmt → (p t : ℕ) → List Origin
  function_origins ps body p t = name_origins ps p (t + 1) ++ statement_origins names body p (t + 1 + count (walk_list walk_parameter ps) + 1)

  origins_are : (ps : List Identifier) (body : Stmt) (p t : ℕ) → (let u = t + 1 + count (walk_list walk_parameter ps) + 1 in
      all_origins walk_parameter (no_size names) ps p (t + 1) ++ statement_origins names body (p + length ((parameters_parts ps).code p)) u) ≡ function_origins ps body p t
  origins_are ps body p t =
      let u = t + 1 + count (walk_list walk_parameter ps) + 1 in
      ap (λ a. a ++ statement_origins names body (p + length ((parameters_parts ps).code p)) u) (names_are names walk_parameter (λ w. refl) ps p (t + 1))
      ∙ ap (λ (a : List Instr). name_origins ps p (t + 1) ++ statement_origins names body (p + length a) u) (no_parameter_code ps p)
      ∙ ap (λ k. name_origins ps p (t + 1) ++ statement_origins names body k u) (add-zero p)

  function_notes : (ps : List Identifier) (body : Stmt) → Sits body MAX_NESTING 0
      → Notes names (λ d t. trailed_statement body (parameters_done ps d) (trailed_parameters ps d (took t))) (map (λ w. AutoHere w None) ps ++ statement_events body) MAX_NESTING 0 (joined no_parts (statement_parts names body))
      (λ at t rest. at t ∷ lines_in at (walk_list walk_parameter ps) (t + 1) (at (t + 1 + count (walk_list walk_parameter ps)) ∷ lines_in at (walk_statement body) (t + 1 + count (walk_list walk_parameter ps) + 1) rest)) (function_origins ps body)
  function_notes ps body sits =
      let c = count (walk_list walk_parameter ps) in
      renoted (joined no_parts (statement_parts names body))
      (λ at t rest. at t ∷ lines_in at (walk_list walk_parameter ps) (t + 1) (at (t + 1 + c) ∷ lines_in at (walk_statement body) (t + 1 + c + 1) rest)) (function_origins ps body)
      (λ p. omega (arith, ap (λ (a : List Instr). length (a ++ (fragment names body (p + length a)).code 0)) (no_parameter_code ps p)))
      (omega (arith, ap (λ (a : List ℕ). length (a ++ (statement_parts names body).strings)) (no_parameter_strings ps)))
      (λ at t rest. refl) (origins_are ps body)
      (notes_then (λ t. t + 1 + c + 1) (list_makes (parameters names) ps MAX_NESTING 0) (past (through (λ t. t + c) (list_notes (parameters names) ps MAX_NESTING 0))) (statement_notes names body MAX_NESTING 0 sits) (omega (arith, ap length (no_parameter_strings ps))))

function_ends : (w : Identifier) (ps : List Identifier) (body : Stmt) → Sits body MAX_NESTING 0 → IsMade (Function w ps body) → Ends (Function w ps body)
function_ends w ps body sits x at rest =
    ap (made_to (place_of (definition_done d fresh))) ((function_notes names ps body sits).notes no_scope s no_made (le_refl 200) events_scope (agrees_by s.names) refl roomy at 1 rest no_lines)
    ∙ ap (λ p. trail rest (filled_to p (noted_by at (function_origins names ps body 0 1) no_lines))) (ap place_of x.draft ∙ sym x.size)
    ∙ ap (λ os. trail rest (filled_to (size_of (code_of d)) (noted_by at os no_lines))) origins_of
  where
    d : Definition
    d = Function w ps body

    s : Scope
    s = x.scope

    names : Environment
    names = names_by s.names

    scope_is : function_scope ps body ≡ Ok s
    scope_is = sym ((function_makes (environment_of []) w ps body sits).scans fresh (le_refl 200)) ∙ ap scope_of x.draft

    events_scope : scanned (map (λ w. AutoHere w None) ps ++ statement_events body) (Ok no_scope) ≡ Ok s
    events_scope = ap (λ l. scanned l (Ok no_scope)) (sym (function_events_are ps body)) ∙ scope_is

    whole : Made
    whole = added no_made (function_parts names body)

    draft : definition_done d fresh ≡ drafted s whole
    draft = (function_makes names w ps body sits).makes no_scope s no_made (le_refl 200) scope_is (agrees_by s.names) refl

    code : List Instr
    code = (fragment names body 0).code 0

    roomy : Roomy s.frame (added no_made (joined no_parts (statement_parts names body)))
    roomy = smaller s.frame s.frame (added no_made (joined no_parts (statement_parts names body))) whole (le_refl _) (omega (arith, length-append (code ++ instr.Constant 0 ∷ []) (instr.Return ∷ []), length-append code (instr.Constant 0 ∷ []))) (le_refl _) (le_refl _)
        (roomy_kept s s whole x.made (sym draft ∙ x.draft)).0

    c : ℕ
    c = 2 + count (walk_list walk_parameter ps) + 1

    origins_of : function_origins names ps body 0 1 ≡ definition_origins d
    origins_of =
        ap (λ l. name_origins ps 0 2 ++ l) (statement_same s.names names (environment_of s.names) (names_renumbered s.names x.defined) body 0 c)
        ∙ sym (ap (λ r. name_origins ps 0 2 ++ statement_origins (environment_of (clean r).names) body 0 c) scope_is)

ends : (d : Definition) → IsFormed d → IsMade d → Ends d
ends (Simple w values) formed x = simple_ends w values (formed_in (Simple w values) formed) x
ends (Vector w size values) formed x = vector_ends w size values (formed_in (Vector w size values) formed) x
ends (Function w ps body) formed x = function_ends w ps body (formed_in (Function w ps body) formed) x

pub one_trail : OneTrail
one_trail defined d formed none passed rest l =
    let at : ℕ → ℕ = λ k. get_or passed k 0 in
    let coming : passed ++ rest ≡ lines_in at (walk_definition d) 0 rest =
    sym (lines_are at (walk_definition d) 0 rest ∙ ap (λ c. upto at 0 c ++ rest) (sym l) ∙ ap (λ xs. xs ++ rest) (table passed)) in
    let e = ap (definition_trail d) coming ∙ ends d formed (is_made defined d formed none) at rest in
    record { left = ap (λ (t : Trail). t.coming) e; lines = ap (λ (t : Trail). t.noted.lines) e }
