-- A function declares its names as the scan's table says.
use Rattle.std.proofs.Common.{◌≡◌, ◌∙◌, Bool, true, false, ℕ, List, [], ◌∷◌, ◌++◌, Ok, Option, Some, None, Result, ap, append-nil, append_assoc, inl, inr, map, refl, subst, sym}
use Rattle.std.specs.Prelude.{◌&&◌, find, flat_map, if◌then◌else◌}
use Rattle.std.specs.Cmp.Lexicographic.{bytes_decides, nat_list_eq_equiv}
use Rattle.std.specs.List.{cons_option, filter_map}
use Rattle.std.specs.Option.{option_and_then, option_map, option_or}
use Rattle.std.proofs.lemmas.List.Folds.{find-append}
use Rattle.std.proofs.lemmas.List.Elements.{filter_map-append}
use Rattle.bword.specs.Words.{same_name}
use Rattle.blang.specs.declared.token.Diagnostic.{Diagnostic}
use Rattle.blang.specs.Scan.{Automatic, Entry, External, Labelled, NameKind, Scope, Unlabelled, function_events, kind_of, no_scope, scan_event, with_kind}
use Rattle.blang.specs.Trees.{Identifier, Stmt}
use Rattle.blang.specs.Walk.{AutoHere, BreakHere, CaseHere, DefaultHere, Event, ExtrnHere, LabelHere, LoopBegins, LoopEnds, LvalueWanted, Mention, SwitchBegins, SwitchEnds, events_in, walk_list, walk_parameter, walk_statement}
use Rattle.bgrammar.proofs.ScanSteps.{Entered, Mentioned, LabelStands, Renamed, declares, imports, mentions, labels_here, selects, defaults, lvalues, breaks, by_steps}
use Rattle.bgrammar.proofs.ScopeLaws.{changed, kind_of-push, kind_of-with_kind}
use Rattle.bnaming.specs.declared.binding.Reach.TheVariants as reach
use Rattle.bnaming.specs.declared.roles.Role.{Role}
use Rattle.bnaming.specs.declared.roles.Role.TheVariants as role
use Rattle.bnaming.specs.declared.rows.Content.{Content}
use Rattle.bnaming.specs.declared.rows.Content.TheVariants as content
use Rattle.bnaming.specs.declared.rows.Row.{Row}
use Rattle.bnaming.specs.Binding.{declaration, declares_name}
use Rattle.bnaming.specs.Laws.{KindsOfScan, NamedAs, as_scanned, content_name, declared_role, event_name, names_in, parameter_name, role_by_scan}
use Rattle.bnaming.specs.Roles.{is_local}
use Rattle.bnaming.proofs.TreeNames.{found_list, list_of}

-- a name is declared by this one for its function alone
abbrev is_own : List ℕ → NamedAs → Bool
is_own x n = is_local n.0 && same_name x n.1

abbrev scanned_as : NamedAs → Role
scanned_as n = as_scanned n.0

-- what the first of these is that declares a name
abbrev role_in_names : List ℕ → List NamedAs → Option Role
role_in_names x names = option_map scanned_as (find (is_own x) names)

map_or : {A B : Type 0} (f : A → B) (o p : Option A) → option_map f (option_or o p) ≡ option_or (option_map f o) (option_map f p)
map_or f None p = refl
map_or f (Some a) p = refl

or_none : {A : Type 0} (o : Option A) → option_or o None ≡ o
or_none None = refl
or_none (Some a) = refl

-- a name more
role_more : (x : List ℕ) (names : List NamedAs) (n : NamedAs) → role_in_names x (names ++ n ∷ []) ≡ option_or (role_in_names x names) (if is_own x n then Some (scanned_as n) else None)
role_more x names n =
    ap (option_map scanned_as) (find-append (is_own x) names (n ∷ [])) ∙ map_or scanned_as (find (is_own x) names) (find (is_own x) (n ∷ []))
    ∙ ap (option_or (role_in_names x names)) (one (is_own x n))
  where
    one : (b : Bool) → option_map scanned_as (if b then Some n else None) ≡ (if b then Some (scanned_as n) else None)
    one true = refl
    one false = refl

-- names are declared as a table says
abbrev Agree : List NamedAs → List Entry → Type 0
Agree names es = (x : List ℕ) → role_in_names x names ≡ role_by_scan (kind_of x es)

-- of a name that wasn't in the table
agree_entered : (r : Role) (k : NameKind) (w : List ℕ) (names : List NamedAs) (es new : List Entry) → (if is_local r then Some (as_scanned r) else None) ≡ role_by_scan (Some k)
    → Entered w k es new → Agree names es → Agree (names ++ (r, w) ∷ []) new
agree_entered r k w names es new says e agree x =
    role_more x names (r, w) ∙ by (same_name x w) refl
    ∙ ap role_by_scan (sym (ap (kind_of x) e.is ∙ kind_of-push x es (record { name = w; kind = k })
    ∙ ap (λ b. option_or (kind_of x es) (if b then Some k else None)) (nat_list_eq_equiv.symm w x)))
  where
    both : (l : Bool) → (if l && true then Some (as_scanned r) else None) ≡ (if l then Some (as_scanned r) else None)
    both true = refl
    both false = refl

    neither : (l : Bool) → (if l && false then Some (as_scanned r) else None) ≡ None
    neither true = refl
    neither false = refl

    by : (b : Bool) → same_name x w ≡ b → option_or (role_in_names x names) (if is_local r && same_name x w then Some (as_scanned r) else None)
        ≡ role_by_scan (option_or (kind_of x es) (if same_name x w then Some k else None))
    by true h =
        let same : x ≡ w = (bytes_decides x w).0 h in
        let absent : kind_of x es ≡ None = ap (λ y. kind_of y es) same ∙ e.absent in
        ap (λ b. option_or (role_in_names x names) (if is_local r && b then Some (as_scanned r) else None)) h
        ∙ ap (option_or (role_in_names x names)) (both (is_local r) ∙ says)
        ∙ ap (λ o. option_or o (role_by_scan (Some k))) (agree x ∙ ap role_by_scan absent)
        ∙ sym (ap (λ b. role_by_scan (option_or (kind_of x es) (if b then Some k else None))) h ∙ ap (λ o. role_by_scan (option_or o (Some k))) absent)
    by false h =
        ap (λ b. option_or (role_in_names x names) (if is_local r && b then Some (as_scanned r) else None)) h
        ∙ ap (option_or (role_in_names x names)) (neither (is_local r)) ∙ or_none (role_in_names x names) ∙ agree x
        ∙ sym (ap (λ b. role_by_scan (option_or (kind_of x es) (if b then Some k else None))) h ∙ ap role_by_scan (or_none (kind_of x es)))

-- of a name that is mentioned again
agree_again : (w : List ℕ) (names : List NamedAs) (es new : List Entry) → new ≡ es → Agree names es → Agree (names ++ (role.Mention, w) ∷ []) new
agree_again w names es new is agree x = role_more x names (role.Mention, w) ∙ or_none (role_in_names x names) ∙ agree x ∙ ap (λ t. role_by_scan (kind_of x t)) (sym is)

-- of an internal name that is given its label
agree_labelled : (w : List ℕ) (line number : ℕ) (names : List NamedAs) (es new : List Entry) → kind_of w es ≡ Some (Unlabelled line) → new ≡ with_kind w (Labelled number) es
    → Agree names es → Agree (names ++ (role.Label, w) ∷ []) new
agree_labelled w line number names es new was is agree x =
    role_more x names (role.Label, w) ∙ by (same_name x w) refl ∙ ap role_by_scan (sym (ap (kind_of x) is ∙ kind_of-with_kind w x (Labelled number) es))
  where
    by : (b : Bool) → same_name x w ≡ b → option_or (role_in_names x names) (if same_name x w then Some role.Label else None) ≡ role_by_scan (changed (same_name w x) (Labelled number) (kind_of x es))
    by true h =
        let same : x ≡ w = (bytes_decides x w).0 h in
        let there : kind_of x es ≡ Some (Unlabelled line) = ap (λ y. kind_of y es) same ∙ was in
        ap (λ b. option_or (role_in_names x names) (if b then Some role.Label else None)) h
        ∙ ap (λ o. option_or o (Some role.Label)) (agree x ∙ ap role_by_scan there)
        ∙ sym (ap (λ b. role_by_scan (changed b (Labelled number) (kind_of x es))) (nat_list_eq_equiv.symm w x ∙ h) ∙ ap (λ o. role_by_scan (changed true (Labelled number) o)) there)
    by false h =
        ap (λ b. option_or (role_in_names x names) (if b then Some role.Label else None)) h ∙ or_none (role_in_names x names) ∙ agree x
        ∙ sym (ap (λ b. role_by_scan (changed b (Labelled number) (kind_of x es))) (nat_list_eq_equiv.symm w x ∙ h))

-- one event
abbrev Goes : List Event → Scope → Scope → Type 0
Goes es s t = (names : List NamedAs) → Agree names s.names → Agree (names ++ filter_map event_name es) t.names

cons_is : (o : Option NamedAs) (ns : List NamedAs) → cons_option o ns ≡ list_of o ++ ns
cons_is None ns = refl
cons_is (Some n) ns = refl

goes_on : (e : Event) (es : List Event) (s t u : Scope) → ((names : List NamedAs) → Agree names s.names → Agree (names ++ list_of (event_name e)) t.names) → Goes es t u → Goes (e ∷ es) s u
goes_on e es s t u one more names agree =
    subst (λ ns. Agree ns u.names) (append_assoc names (list_of (event_name e)) (filter_map event_name es) ∙ ap (λ l. names ++ l) (sym (cons_is (event_name e) (filter_map event_name es))))
    (more (names ++ list_of (event_name e)) (one names agree))

goes_past : (e : Event) (es : List Event) (s t u : Scope) → event_name e ≡ None → t.names ≡ s.names → Goes es t u → Goes (e ∷ es) s u
goes_past e es s t u none same more names agree =
    subst (λ o. Agree (names ++ cons_option o (filter_map event_name es)) u.names) (sym none) (more names (subst (Agree names) (sym same) agree))

same_after : (v t : Scope) → (let r : Result Scope Diagnostic = Ok v in r) ≡ Ok t → t.names ≡ v.names
same_after v t h = let same : t ≡ v = cc in ap (λ (s : Scope). s.names) same

names_of : {s : Scope} {P : List Entry → Type 0} {t : Scope} (d : Renamed s P t) → t.names ≡ d.names
names_of d = ap (λ (s : Scope). s.names) d.is

mentioned : (called : Bool) (w : Identifier) (names : List NamedAs) (es new : List Entry) → Mentioned called w es new → Agree names es → Agree (names ++ (role.Mention, w.text) ∷ []) new
mentioned called w names es new (inl k) agree = agree_again w.text names es new k.is agree
mentioned true w names es new (inr e) agree = agree_entered role.Mention External w.text names es new refl e agree
mentioned false w names es new (inr e) agree = agree_entered role.Mention (Unlabelled w.line) w.text names es new refl e agree

labelled : (w : Identifier) (number : ℕ) (names : List NamedAs) (es new : List Entry) → LabelStands w number es new → Agree names es → Agree (names ++ (role.Label, w.text) ∷ []) new
labelled w number names es new (inl e) agree = agree_entered role.Label (Labelled number) w.text names es new refl e agree
labelled w number names es new (inr r) agree = agree_labelled w.text r.line number names es new r.was r.is agree

goes_one : (e : Event) (es : List Event) (s t u : Scope) → scan_event e s ≡ Ok t → Goes es t u → Goes (e ∷ es) s u
goes_one (AutoHere w size) es s t u h more =
    let d = declares w size s t h in
    goes_on (AutoHere w size) es s t u (λ names agree. subst (Agree (names ++ (role.Automatic, w.text) ∷ [])) (sym (names_of d)) (agree_entered role.Automatic (Automatic s.frame) w.text names s.names d.names refl d.come agree)) more
goes_one (ExtrnHere w) es s t u h more =
    let d = imports w s t h in
    goes_on (ExtrnHere w) es s t u (λ names agree. subst (Agree (names ++ (role.Import, w.text) ∷ [])) (sym (names_of d)) (agree_entered role.Import External w.text names s.names d.names refl d.come agree)) more
goes_one (Mention called w) es s t u h more =
    let d = mentions called w s t h in
    goes_on (Mention called w) es s t u (λ names agree. subst (Agree (names ++ (role.Mention, w.text) ∷ [])) (sym (names_of d)) (mentioned called w names s.names d.names d.come agree)) more
goes_one (LabelHere w) es s t u h more =
    let d = labels_here w s t h in
    goes_on (LabelHere w) es s t u (λ names agree. subst (Agree (names ++ (role.Label, w.text) ∷ [])) (sym (names_of d)) (labelled w s.labels names s.names d.names d.come agree)) more
goes_one (CaseHere line value) es s t u h more = goes_past (CaseHere line value) es s t u refl (selects line value s t h).names more
goes_one (DefaultHere line) es s t u h more = goes_past (DefaultHere line) es s t u refl (defaults line s t h).names more
goes_one (LvalueWanted line x) es s t u h more = goes_past (LvalueWanted line x) es s t u refl (ap (λ (v : Scope). v.names) (lvalues line x s t h).is) more
goes_one (BreakHere line) es s t u h more = goes_past (BreakHere line) es s t u refl (ap (λ (v : Scope). v.names) (breaks line s t h).is) more
goes_one LoopBegins es s t u h more = goes_past LoopBegins es s t u refl (same_after _ t h) more
goes_one LoopEnds es s t u h more = goes_past LoopEnds es s t u refl (same_after _ t h) more
goes_one SwitchBegins es s t u h more = goes_past SwitchBegins es s t u refl (same_after _ t h) more
goes_one SwitchEnds es s t u h more = goes_past SwitchEnds es s t u refl (same_after _ t h) more

none_yet : (s : Scope) → Goes [] s s
none_yet s names agree = subst (λ ns. Agree ns s.names) (sym (append-nil names)) agree

-- a parameter is an automatic
abbrev automatic_name : Identifier → NamedAs
automatic_name w = (role.Automatic, w.text)

same_parameters : (x : List ℕ) (ws : List Identifier) (ns : List NamedAs) → role_in_names x (map parameter_name ws ++ ns) ≡ role_in_names x (flat_map (λ w. automatic_name w ∷ []) ws ++ ns)
same_parameters x [] ns = refl
same_parameters x (w ∷ ws) ns = by (same_name x w.text) (same_parameters x ws ns)
  where
    by : (b : Bool) → role_in_names x (map parameter_name ws ++ ns) ≡ role_in_names x (flat_map (λ w. automatic_name w ∷ []) ws ++ ns)
        → option_map scanned_as (if b then Some (parameter_name w) else find (is_own x) (map parameter_name ws ++ ns))
        ≡ option_map scanned_as (if b then Some (automatic_name w) else find (is_own x) (flat_map (λ w. automatic_name w ∷ []) ws ++ ns))
    by true again = refl
    by false again = again

events_are : (parameters : List Identifier) (body : Stmt) → filter_map event_name (function_events parameters body) ≡ flat_map (λ w. automatic_name w ∷ []) parameters ++ filter_map event_name (events_in (walk_statement body))
events_are parameters body =
    filter_map-append event_name (events_in (walk_list walk_parameter parameters)) (events_in (walk_statement body))
    ∙ ap (λ l. l ++ filter_map event_name (events_in (walk_statement body))) (found_list walk_parameter parameters)

-- the role of a row that declares a name is that of its name
declared_is : (x : List ℕ) (rows : List Row) → declared_role x rows ≡ role_in_names x (names_in rows)
declared_is x [] = refl
declared_is x (r ∷ rows) = by r.content refl (declared_is x rows)
  where
    cased : (k : Role) (name : List ℕ) (b : Bool) → r.content ≡ content.Name k name → declared_role x rows ≡ role_in_names x (names_in rows)
        → option_and_then (λ (it : Row). option_map scanned_as (content_name it.content)) (if b then Some r else declaration reach.Definition x rows)
        ≡ option_map scanned_as (if b then Some (k, name) else find (is_own x) (names_in rows))
    cased k name true e again = ap (λ c. option_map scanned_as (content_name c)) e
    cased k name false e again = again

    by : (c : Content) → r.content ≡ c → declared_role x rows ≡ role_in_names x (names_in rows) → declared_role x (r ∷ rows) ≡ role_in_names x (names_in (r ∷ rows))
    by (content.Name k name) e again =
        ap (λ c. option_and_then (λ (it : Row). option_map scanned_as (content_name it.content)) (if declares_name reach.Definition x c then Some r else declaration reach.Definition x rows)) e
        ∙ cased k name (is_local k && same_name x name) e again
        ∙ ap (λ c. role_in_names x (cons_option (content_name c) (names_in rows))) (sym e)
    by _ e again =
        ap (λ c. option_and_then (λ (it : Row). option_map scanned_as (content_name it.content)) (if declares_name reach.Definition x c then Some r else declaration reach.Definition x rows)) e
        ∙ again
        ∙ ap (λ c. role_in_names x (cons_option (content_name c) (names_in rows))) (sym e)

pub kinds_of_scan : KindsOfScan
kinds_of_scan w parameters body scope rows scanned_well named x =
    declared_is x rows ∙ ap (role_in_names x) named
    ∙ same_parameters x parameters (filter_map event_name (events_in (walk_statement body)))
    ∙ ap (role_in_names x) (sym (events_are parameters body))
    ∙ by_steps Goes none_yet goes_one (function_events parameters body) no_scope scope scanned_well [] (λ y. refl) x
