-- The line of a fault is the line of a token, and no token is before the first line.
use Rattle.std.proofs.Common.{◌≡◌, ◌+◌, ◌<◌, ℕ, zero, suc, Bool, true, false, List, [], ◌∷◌, ◌++◌, Option, Some, None, Result, Ok, Err, ap, arith, drop, length, map, min, refl, subst, sym, take, ◌∙◌, if◌then◌else◌}
use Rattle.std.specs.Prelude.{◌==◌, nat_lt, nat_eq}
use Rattle.std.specs.List.{list_any}
use Rattle.bword.specs.ByteEnds.{most}
use Rattle.bword.specs.Words.{same_name}
use Rattle.bword.specs.declared.edition.Edition.{Edition}
use Rattle.blang.specs.Code.{code_of, fault_of, fits_limits, or_too_large}
use Rattle.blang.specs.Compiles.{Compilation, CompilesTo, Defined, compilation_of, compilation_with, compiled_text}
use Rattle.blang.specs.Cut.{Piece, Space, Word, cut, is_last, line_number_after, longest, next_line, piece_first, tokens_from, whole}
use Rattle.blang.specs.declared.code.Definition.{Definition as CodeDefinition}
use Rattle.blang.specs.Scan.{Around, Entry, NameKind, Automatic, External, Labelled, Scope, Unlabelled, automatic_words, can_break, fault, inner_fault, is_lvalue, function_events, identifier_of, kind_mentioned, kind_of, no_scope, scan, scan_case, scan_default, scan_event, scanned, scope_fault, undefined, undefined_at, with_declaration, with_entry, with_kind, with_label, with_mention, with_names}
use Rattle.blang.specs.Trees.{Address, Another, Arguments, Assigned, Auto, Binary, Break, Called, Case, Compound, Conditional, Default, Definition, Empty, Evaluate, Expr, Extrn, Function, Goto, Grouped, Headed, Heading, Identifier, If, IfElse, Indexed, Indirection, Label, Literal, More, Named, Negate, No_arguments, Not, Nothing, PostDecrement, PostIncrement, PostfixOp, Postfixed, PreDecrement, PreIncrement, PrefixOp, Prefixed, Return, ReturnValue, Simple, Stmt, Stmts, Switch, Text, Vector, While, keeps_line, kept, mark, postfix_token, prefix_token}
use Rattle.blang.specs.Walk.{AutoHere, BreakHere, CaseHere, DefaultHere, Event, ExtrnHere, LabelHere, Level, LoopBegins, LoopEnds, LvalueWanted, Mention, Noted, NothingHere, Said, SwitchBegins, SwitchEnds, TextHere, Walk, ◌▸◌, callee, comma_before_next, events_in, prefix_events, spell_all, spell_definition, tokens_in, walk, walk_arguments, walk_body, walk_commas, walk_declared, walk_definition, walk_function, walk_heading, walk_import, walk_list, walk_parameter, walk_size, walk_statement}
use Rattle.blang.specs.WellFormed.{StopsAt}
use Rattle.blang.specs.declared.limits.TheConstants.{MAX_CASES, MAX_NAMES}
use Rattle.blang.specs.declared.token.Diagnostic.{Diagnostic}
use Rattle.blang.specs.declared.token.Letters.TheVariants as letters
use Rattle.blang.specs.declared.token.Placed.{Placed}
use Rattle.blang.specs.declared.token.Token.{Token}

-- no token is before the first line
abbrev AllLined : List Placed → Type 0
AllLined [] = Unit {0}
AllLined (p ∷ ps) = (0 < p.line) × AllLined ps

-- and none whose line a tree keeps
abbrev Lined : List Placed → Type 0
Lined [] = Unit {0}
Lined (p ∷ ps) = (keeps_line p.token ≡ true → 0 < p.line) × Lined ps

kept_lined : (b : Bool) (p : Placed) → keeps_line p.token ≡ b → 0 < p.line → (let q : Placed = if b then p else mark p.token in keeps_line q.token ≡ true → 0 < q.line)
kept_lined true p is some = λ h. some
kept_lined false p is some = λ h. cc

keeps_lined : (ps : List Placed) → AllLined ps → Lined (map kept ps)
keeps_lined [] h = tt
keeps_lined (p ∷ ps) h = (kept_lined (keeps_line p.token) p refl h.0, keeps_lined ps h.1)

lined_before : (xs ys : List Placed) → Lined (xs ++ ys) → Lined xs
lined_before [] ys h = tt
lined_before (x ∷ xs) ys h = (h.0, lined_before xs ys h.1)

lined_after : (xs ys : List Placed) → Lined (xs ++ ys) → Lined ys
lined_after [] ys h = h
lined_after (x ∷ xs) ys h = lined_after xs ys h.1

all_before : (xs ys : List Placed) → AllLined (xs ++ ys) → AllLined xs
all_before [] ys h = tt
all_before (x ∷ xs) ys h = (h.0, all_before xs ys h.1)

all_after : (xs ys : List Placed) → AllLined (xs ++ ys) → AllLined ys
all_after [] ys h = h
all_after (x ∷ xs) ys h = all_after xs ys h.1

-- the tokens of a source
line_some : (b : Bool) (line : ℕ) → 0 < line → 0 < (if b then min (line + 1) most else line)
line_some true line h = omega arith
line_some false line h = h

after_some : (line : ℕ) (bytes : List ℕ) → 0 < line → 0 < line_number_after line bytes
after_some line [] h = h
after_some line (b ∷ bs) h = after_some (next_line line b) bs (line_some (b == 10) line h)

none_or : (b : Bool) (ps : List Placed) → AllLined ps → AllLined (if b then [] else ps)
none_or true ps h = tt
none_or false ps h = h

piece_lined : (piece : Option Piece) (line : ℕ) (rest : List Placed) → 0 < line → AllLined rest → AllLined (piece_first piece line rest)
piece_lined None line rest some h = (some, tt)
piece_lined (Some Space) line rest some h = h
piece_lined (Some (Word t)) line rest some h = (some, none_or (is_last t) rest h)

cut_lined : (edition : Edition) (fuel line : ℕ) (bytes : List ℕ) → 0 < line → AllLined (cut edition fuel line bytes)
unfolding cut
cut_lined edition zero line bytes some = (some, tt)
cut_lined edition (suc fuel) line [] some = (some, tt)
cut_lined edition (suc fuel) line (b ∷ bs) some =
    let n = longest edition (b ∷ bs) in
    let text = take n (b ∷ bs) in
    piece_lined (whole edition text) line _ some (cut_lined edition fuel (line_number_after line text) (drop n (b ∷ bs)) (after_some line text some))

tokens_lined : (edition : Edition) (line : ℕ) (bytes : List ℕ) → 0 < line → AllLined (tokens_from edition line bytes)
unfolding tokens_from
tokens_lined edition line bytes some = cut_lined edition (length bytes) line bytes some

-- the line of which an event tells
abbrev event_line : Event → ℕ
event_line (AutoHere w size) = w.line
event_line (ExtrnHere w) = w.line
event_line (Mention called w) = w.line
event_line (LabelHere w) = w.line
event_line (CaseHere line value) = line
event_line (DefaultHere line) = line
event_line (BreakHere line) = line
event_line (LvalueWanted line e) = line
event_line _ = 1

abbrev AllFrom : List Event → Type 0
AllFrom [] = Unit {0}
AllFrom (e ∷ es) = (0 < event_line e) × AllFrom es

from_append : (xs ys : List Event) → AllFrom xs → AllFrom ys → AllFrom (xs ++ ys)
from_append [] ys h k = k
from_append (x ∷ xs) ys h k = (h.0, from_append xs ys h.1 k)

-- the same along a walk
abbrev TokensLined : Walk → Type 0
TokensLined (Said p) = keeps_line p.token ≡ true → 0 < p.line
TokensLined (Level opening inside after) = (keeps_line opening.token ≡ true → 0 < opening.line) × TokensLined inside
TokensLined (v ▸ w) = TokensLined v × TokensLined w
TokensLined _ = Unit {0}

abbrev EventsLined : Walk → Type 0
EventsLined (Noted e) = 0 < event_line e
EventsLined (Level opening inside after) = EventsLined inside × AllFrom after
EventsLined (v ▸ w) = EventsLined v × EventsLined w
EventsLined _ = Unit {0}

keeps_walk : (w : Walk) → Lined (tokens_in w) → TokensLined w
keeps_walk NothingHere h = tt
keeps_walk (Said p) h = h.0
keeps_walk (TextHere t) h = tt
keeps_walk (Noted e) h = tt
keeps_walk (Level opening inside after) h = (h.0, keeps_walk inside h.1)
keeps_walk (v ▸ w) h = (keeps_walk v (lined_before (tokens_in v) (tokens_in w) h), keeps_walk w (lined_after (tokens_in v) (tokens_in w) h))

tells_walk : (w : Walk) → EventsLined w → AllFrom (events_in w)
tells_walk NothingHere h = tt
tells_walk (Said p) h = tt
tells_walk (TextHere t) h = tt
tells_walk (Noted e) h = (h, tt)
tells_walk (Level opening inside after) h = from_append (events_in inside) after (tells_walk inside h.0) h.1
tells_walk (v ▸ w) h = from_append (events_in v) (events_in w) (tells_walk v h.0) (tells_walk w h.1)

-- expressions
callee_tells : (e : Expr) → (TokensLined (walk e) → EventsLined (walk e)) → TokensLined (callee e (walk e)) → EventsLined (callee e (walk e))
callee_tells (Named w) f h = (tt, h.0 refl)
callee_tells _ f h = f h

prefix_kept : (op : PrefixOp) → keeps_line (prefix_token op) ≡ true
prefix_kept Negate = refl
prefix_kept Not = refl
prefix_kept Indirection = refl
prefix_kept Address = refl
prefix_kept PreIncrement = refl
prefix_kept PreDecrement = refl

prefix_tells : (op : PrefixOp) (line : ℕ) (e : Expr) → 0 < line → AllFrom (prefix_events op line e)
prefix_tells Negate line e h = tt
prefix_tells Not line e h = tt
prefix_tells Indirection line e h = tt
prefix_tells Address line e h = (h, tt)
prefix_tells PreIncrement line e h = (h, tt)
prefix_tells PreDecrement line e h = (h, tt)

postfix_kept : (op : PostfixOp) → keeps_line (postfix_token op) ≡ true
postfix_kept PostIncrement = refl
postfix_kept PostDecrement = refl

comma_tells : (args : Arguments) → EventsLined (comma_before_next args)
comma_tells No_arguments = tt
comma_tells (Another before e) = tt

mutual
  expression_tells : (e : Expr) → TokensLined (walk e) → EventsLined (walk e)
  expression_tells (Named w) h = (tt, h.0 refl)
  expression_tells (Literal c) h = tt
  expression_tells (Text bytes offset) h = tt
  expression_tells (Grouped e) h = ((expression_tells e h.0.1, tt), tt)
  expression_tells (Indexed e f) h = (expression_tells e h.0, ((expression_tells f h.1.0.1, tt), tt))
  expression_tells (Called e args) h = (callee_tells e (expression_tells e) h.0, ((arguments_tell args h.1.0.1, tt), tt))
  expression_tells (Postfixed op line e) h = (expression_tells e h.0, (h.1.1 (postfix_kept op), tt))
  expression_tells (Prefixed op line e) h = (expression_tells e h.1, prefix_tells op line e (h.0 (prefix_kept op)))
  expression_tells (Binary op line e f) h = (expression_tells e h.0, (tt, expression_tells f h.1.1))
  expression_tells (Conditional e f g) h = (expression_tells e h.0, ((expression_tells f h.1.1.0, (tt, expression_tells g h.1.1.1.1)), tt))
  expression_tells (Assigned op line e f) h = (expression_tells e h.0, (h.1.1.0 refl, (expression_tells f h.1.1.1, tt)))

  arguments_tell : (args : Arguments) → TokensLined (walk_arguments args) → EventsLined (walk_arguments args)
  arguments_tell No_arguments h = tt
  arguments_tell (Another before e) h = (arguments_tell before h.0, (comma_tells before, expression_tells e h.1.1))

-- headings and statements
size_tells : (size : Option ℕ) → EventsLined (walk_size size)
size_tells None = tt
size_tells (Some n) = tt

commas_tell : {A : Type 0} (say : A → Walk) → ((x : A) → TokensLined (say x) → EventsLined (say x)) → (xs : List A) → TokensLined (walk_commas say xs) → EventsLined (walk_commas say xs)
commas_tell say f [] h = tt
commas_tell say f (x ∷ xs) h = (tt, (f x h.1.0, commas_tell say f xs h.1.1))

list_tells : {A : Type 0} (say : A → Walk) → ((x : A) → TokensLined (say x) → EventsLined (say x)) → (xs : List A) → TokensLined (walk_list say xs) → EventsLined (walk_list say xs)
list_tells say f [] h = tt
list_tells say f (x ∷ xs) h = (f x h.0, commas_tell say f xs h.1)

heading_tells : (h : Heading) → TokensLined (walk_heading h) → EventsLined (walk_heading h)
heading_tells (Auto declared) k = (tt, (list_tells walk_declared (λ d q. ((tt, q.0.0 refl), size_tells d.size)) declared k.1.0, tt))
heading_tells (Extrn names) k = (tt, (list_tells walk_import (λ w q. (tt, q.0 refl)) names k.1.0, tt))
heading_tells (Label w) k = ((tt, k.0.0 refl), tt)
heading_tells (Case line c) k = (tt, (tt, (k.0 refl, tt)))
heading_tells (Default line) k = (tt, (k.0 refl, tt))

mutual
  statement_tells : (s : Stmt) → TokensLined (walk_statement s) → EventsLined (walk_statement s)
  statement_tells (Headed h s) k = (heading_tells h k.0, statement_tells s k.1)
  statement_tells (Compound body) k = ((body_tells body k.0.1, tt), tt)
  statement_tells (If e s) k = (((tt, (expression_tells e k.1.0.1.0, tt)), statement_tells s k.1.1), tt)
  statement_tells (IfElse e s other) k = (((tt, (expression_tells e k.1.0.1.0, tt)), (statement_tells s k.1.1.0, (tt, statement_tells other k.1.1.1.1))), tt)
  statement_tells (While e s) k = (((tt, (expression_tells e k.1.0.1.0, tt)), (omega arith, statement_tells s k.1.1.1)), (omega arith, tt))
  statement_tells (Switch e body) k = ((expression_tells e k.1.0, (tt, (omega arith, (body_tells body k.1.1.1.1.0, tt)))), (omega arith, tt))
  statement_tells (Goto e) k = (tt, (expression_tells e k.1.0, tt))
  statement_tells (Break line) k = (tt, (k.0 refl, tt))
  statement_tells Return k = (tt, tt)
  statement_tells (ReturnValue e) k = (tt, ((tt, (expression_tells e k.1.0.1.0, tt)), tt))
  statement_tells (Evaluate e) k = (expression_tells e k.0, tt)
  statement_tells Empty k = tt

  body_tells : (body : Stmts) → TokensLined (walk_body body) → EventsLined (walk_body body)
  body_tells Nothing k = tt
  body_tells (More before s) k = (body_tells before k.0, statement_tells s k.1)

function_tells : (parameters : List Identifier) (body : Stmt) → TokensLined (walk_function parameters body) → EventsLined (walk_function parameters body)
function_tells parameters body k = (tt, (list_tells walk_parameter (λ w q. (tt, q.0 refl)) parameters k.1.0, (tt, statement_tells body k.1.1.1)))

-- no internal name was mentioned before the first line
abbrev KindFrom : NameKind → Type 0
KindFrom (Unlabelled line) = 0 < line
KindFrom _ = Unit {0}

abbrev NamesFrom : List Entry → Type 0
NamesFrom [] = Unit {0}
NamesFrom (e ∷ es) = KindFrom e.kind × NamesFrom es

abbrev Names : Result (List Entry) Diagnostic → Type 0
Names (Ok es) = NamesFrom es
Names (Err d) = 0 < d.line

abbrev ScopeFrom : Result Scope Diagnostic → Type 0
ScopeFrom (Ok s) = NamesFrom s.names
ScopeFrom (Err d) = 0 < d.line

names_more : (es : List Entry) (e : Entry) → NamesFrom es → KindFrom e.kind → NamesFrom (es ++ e ∷ [])
names_more [] e h k = (k, tt)
names_more (x ∷ xs) e h k = (h.0, names_more xs e h.1 k)

entered : (b : Bool) (es : List Entry) (e : Entry) (d : Diagnostic) → NamesFrom es → KindFrom e.kind → 0 < d.line → Names (if b then Ok (es ++ e ∷ []) else Err d)
entered true es e d h k some = names_more es e h k
entered false es e d h k some = some

entry_from : (w : Identifier) (k : NameKind) (es : List Entry) → NamesFrom es → KindFrom k → 0 < w.line → Names (with_entry w k es)
entry_from w k es h kind some = entered (nat_lt (length es) MAX_NAMES) es (record { name = w.text; kind = k }) _ h kind some

declared_from : (w : Identifier) (k : NameKind) (es : List Entry) → NamesFrom es → KindFrom k → 0 < w.line → Names (with_declaration w k es)
declared_from w k es h kind some = go (kind_of w.text es) refl
  where
    go : (o : Option NameKind) → kind_of w.text es ≡ o → Names (with_declaration w k es)
    go None e = rw e (entry_from w k es h kind some)
    go (Some old) e = rw e some

mentioned_kind : (called : Bool) (line : ℕ) → 0 < line → KindFrom (kind_mentioned called line)
mentioned_kind true line h = tt
mentioned_kind false line h = h

mentioned_from : (called : Bool) (w : Identifier) (es : List Entry) → NamesFrom es → 0 < w.line → Names (with_mention called w es)
mentioned_from called w es h some = go (kind_of w.text es) refl
  where
    go : (o : Option NameKind) → kind_of w.text es ≡ o → Names (with_mention called w es)
    go None e = rw e (entry_from w (kind_mentioned called w.line) es h (mentioned_kind called w.line some) some)
    go (Some old) e = rw e h

replaced : (b : Bool) (x : List ℕ) (k : NameKind) (e : Entry) (es rest : List Entry) → KindFrom k → NamesFrom (e ∷ es) → NamesFrom rest → NamesFrom (if b then record { name = e.name; kind = k } ∷ es else e ∷ rest)
replaced true x k e es rest kind h r = (kind, h.1)
replaced false x k e es rest kind h r = (h.0, r)

kind_from : (x : List ℕ) (k : NameKind) (es : List Entry) → KindFrom k → NamesFrom es → NamesFrom (with_kind x k es)
kind_from x k [] kind h = tt
kind_from x k (e ∷ es) kind h = replaced (same_name e.name x) x k e es (with_kind x k es) kind h (kind_from x k es kind h.1)

labelled_from : (w : Identifier) (number : ℕ) (es : List Entry) → NamesFrom es → 0 < w.line → Names (with_label w number es)
labelled_from w number es h some = go (kind_of w.text es) refl
  where
    go : (o : Option NameKind) → kind_of w.text es ≡ o → Names (with_label w number es)
    go None e = rw e (entry_from w (Labelled number) es h tt some)
    go (Some (Unlabelled line)) e = rw e (kind_from w.text (Labelled number) es tt h)
    go (Some (Automatic word)) e = rw e some
    go (Some External) e = rw e some
    go (Some (Labelled n)) e = rw e some

named_from : (s : Scope) (r : Result (List Entry) Diagnostic) → Names r → ScopeFrom (with_names s r)
named_from s (Ok es) h = h
named_from s (Err d) h = h

chosen_from : (b : Bool) (r q : Result Scope Diagnostic) → ScopeFrom r → ScopeFrom q → ScopeFrom (if b then r else q)
chosen_from true r q h k = h
chosen_from false r q h k = k

case_from : (line value : ℕ) (s : Scope) (switches : List Around) → NamesFrom s.names → 0 < line → ScopeFrom (scan_case line value s switches)
case_from line value s [] h some = some
case_from line value s (around ∷ others) h some =
    chosen_from (list_any (nat_eq value) around.constants) _ _ some (chosen_from (nat_lt s.cases MAX_CASES) _ _ h some)

default_from : (line : ℕ) (s : Scope) (switches : List Around) → NamesFrom s.names → 0 < line → ScopeFrom (scan_default line s switches)
default_from line s [] h some = some
default_from line s (around ∷ others) h some = chosen_from around.has_default _ _ some h

event_from : (e : Event) (s : Scope) → 0 < event_line e → NamesFrom s.names → ScopeFrom (scan_event e s)
event_from (AutoHere w size) s some h = named_from (record s { frame = s.frame + automatic_words size }) (with_declaration w (Automatic s.frame) s.names) (declared_from w (Automatic s.frame) s.names h tt some)
event_from (ExtrnHere w) s some h = named_from s (with_declaration w External s.names) (declared_from w External s.names h tt some)
event_from (Mention called w) s some h = named_from s (with_mention called w s.names) (mentioned_from called w s.names h some)
event_from (LabelHere w) s some h = named_from (record s { labels = s.labels + 1 }) (with_label w s.labels s.names) (labelled_from w s.labels s.names h some)
event_from (CaseHere line value) s some h = case_from line value s s.switches h some
event_from (LvalueWanted line e) s some h = chosen_from (is_lvalue s.names e) _ _ h some
event_from (DefaultHere line) s some h = default_from line s s.switches h some
event_from (BreakHere line) s some h = chosen_from (can_break s) _ _ h some
event_from LoopBegins s some h = h
event_from LoopEnds s some h = h
event_from SwitchBegins s some h = h
event_from SwitchEnds s some h = h

scanned_from : (es : List Event) (r : Result Scope Diagnostic) → AllFrom es → ScopeFrom r → ScopeFrom (scanned es r)
scanned_from [] r h k = k
scanned_from (e ∷ es) (Ok s) h k = scanned_from es (scan_event e s) h.1 (event_from e s h.0 k)
scanned_from (e ∷ es) (Err d) h k = k

-- a fault that is there is not before the first line
abbrev FaultLined : Option Diagnostic → Type 0
FaultLined None = Unit {0}
FaultLined (Some d) = 0 < d.line

undefined_kind : (x : List ℕ) (k : NameKind) (following : Option Diagnostic) → KindFrom k → FaultLined following → FaultLined (undefined_at x k following)
undefined_kind x (Unlabelled line) following some h = some
undefined_kind x (Automatic word) following some h = h
undefined_kind x External following some h = h
undefined_kind x (Labelled n) following some h = h

undefined_from : (es : List Entry) → NamesFrom es → FaultLined (undefined es)
undefined_from [] h = tt
undefined_from (e ∷ es) h = undefined_kind e.name e.kind (undefined es) h.0 (undefined_from es h.1)

scope_from : (r : Result Scope Diagnostic) → ScopeFrom r → FaultLined (scope_fault r)
scope_from (Ok s) h = undefined_from s.names h
scope_from (Err d) h = h

inner_from : (d : Definition) → TokensLined (walk_definition d) → FaultLined (inner_fault d)
inner_from (Simple w values) k = tt
inner_from (Vector w size values) k = tt
inner_from (Function w parameters body) k =
    scope_from _ (scanned_from (function_events parameters body) (Ok no_scope) (tells_walk (walk_function parameters body) (function_tells parameters body k.1)) tt)

own_from : (d : Definition) → TokensLined (walk_definition d) → 0 < (identifier_of d).line
own_from (Simple w values) k = k.0 refl
own_from (Vector w size values) k = k.0 refl
own_from (Function w parameters body) k = k.0 refl

either_from : (b : Bool) (o p : Option Diagnostic) → FaultLined o → FaultLined p → FaultLined (if b then o else p)
either_from true o p h k = h
either_from false o p h k = k

large_from : (o : Option Diagnostic) (line : ℕ) (code : CodeDefinition) → FaultLined o → 0 < line → FaultLined (or_too_large o line code)
large_from (Some d) line code h some = h
large_from None line code h some = either_from (fits_limits code) None (Some (fault letters.TooLarge line)) h some

fault_from : (names : Defined) (d : Definition) → TokensLined (walk_definition d) → FaultLined (fault_of names d)
fault_from names d k = large_from (scan names d) (identifier_of d).line (code_of d) (either_from (list_any (same_name (identifier_of d).text) names) _ _ (own_from d k) (inner_from d k)) (own_from d k)

with_from : (o : Option Diagnostic) (text : List ℕ) (later : Compilation) → FaultLined o → FaultLined later.stop → FaultLined (compilation_with o text later).stop
with_from None text later h k = k
with_from (Some d) text later h k = h

compiled_from : (names : Defined) (ds : List Definition) (stop : Option Diagnostic) → Lined (spell_all ds) → FaultLined stop → FaultLined (compilation_of names ds stop).stop
compiled_from names [] stop h k = k
compiled_from names (d ∷ ds) stop h k =
    with_from (fault_of names d) (compiled_text d) (compilation_of (names ++ (identifier_of d).text ∷ []) ds stop)
    (fault_from names d (keeps_walk (walk_definition d) (lined_before (spell_definition d) (spell_all ds) h)))
    (compiled_from (names ++ (identifier_of d).text ∷ []) ds stop (lined_after (spell_definition d) (spell_all ds) h) k)

stop_from : (before : List Token) (at : Placed) (stop : Option Diagnostic) → 0 < at.line → StopsAt before at stop → FaultLined stop
stop_from before at None some h = tt
stop_from before at (Some d) some h = let line : d.line ≡ at.line = ap (λ (x : Diagnostic). x.line) h.2 in subst (λ n. 0 < n) (sym line) some

-- the fault of a source stands on a line, of which the first has the number 1
pub on_a_line : (edition : Edition) (source : List ℕ) (r : Compilation) (d : Diagnostic) → CompilesTo [] (tokens_from edition 1 source) r → r.stop ≡ Some d → 0 < d.line
on_a_line edition source r d g is =
    let p = g.parted in
    let all : AllLined (p.before ++ p.at ∷ p.following) = subst AllLined p.split (tokens_lined edition 1 source (omega arith)) in
    let spelled = subst Lined p.parts.split (keeps_lined p.before (all_before p.before (p.at ∷ p.following) all)) in
    let from = compiled_from [] g.definitions g.stop (lined_before (spell_all g.definitions) p.parts.part spelled) (stop_from _ p.at g.stop (all_after p.before (p.at ∷ p.following) all).0 p.stops) in
    subst FaultLined (ap (λ (x : Compilation). x.stop) (sym g.outcome_is) ∙ is) from
