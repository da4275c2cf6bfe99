-- Promise: the first fault of a definition beside its syntax: its names in their one table, its cases, defaults, breaks
-- and lvalues, in source order.
use Rattle.std.specs.Prelude.{ℕ, List, [], ◌∷◌, ◌++◌, length, Bool, true, false, nat_lt, Option, Some, None, Result, Ok}
use Rattle.std.specs.Prelude.{Err, if◌then◌else◌, ◌+◌, ◌-◌, nat_eq}
use Rattle.std.specs.List.{list_any}
use Rattle.bword.specs.Words.{same_name}
use Rattle.blang.specs.declared.token.Letters.{Letters}
use Rattle.blang.specs.declared.token.Diagnostic.{Diagnostic}
use Rattle.blang.specs.Trees.{Identifier, Expr, Indirection, Named, Grouped, Indexed, Prefixed, Stmt, Definition}
use Rattle.blang.specs.Trees.{Simple, Vector, Function}
use Rattle.blang.specs.Walk.{Event, AutoHere, ExtrnHere, Mention, LabelHere, CaseHere, DefaultHere, BreakHere}
use Rattle.blang.specs.Walk.{LvalueWanted, LoopBegins, LoopEnds, SwitchBegins, SwitchEnds, events_in, walk_function}
use Rattle.blang.specs.declared.limits.TheConstants.{MAX_NAMES, MAX_CASES}
use Rattle.blang.specs.declared.token.About.{About}
use Rattle.blang.specs.declared.token.Letters.TheVariants as letters
use Rattle.blang.specs.declared.token.About.TheVariants as about

pub data NameKind : Type 0 where
  Automatic : (word : ℕ) → NameKind
  External : NameKind
  -- an internal name, with the line of its first mention, and with the number of its label
  Unlabelled : (line : ℕ) → NameKind
  Labelled : (number : ℕ) → NameKind

pub record Entry : Type 0 where
  pub name : List ℕ
  pub kind : NameKind

-- what the table says of a name
abbrev pub kind_of : List ℕ → List Entry → Option NameKind
kind_of x [] = None
kind_of x (e ∷ es) = if same_name e.name x then Some e.kind else kind_of x es

-- a diagnostic with letters and a line alone, and one with a name
abbrev pub fault : Letters → ℕ → Diagnostic
fault l line = record { letters = l; about = about.Nothing; line = line }

abbrev pub name_fault : Letters → Identifier → Diagnostic
name_fault l w = record { letters = l; about = about.Name w.text; line = w.line }

-- one more name, where there is room
abbrev pub with_entry : Identifier → NameKind → List Entry → Result (List Entry) Diagnostic
with_entry w k es =
    if nat_lt (length es) MAX_NAMES
    then Ok (es ++ record { name = w.text; kind = k } ∷ [])
    else Err (fault letters.TooManyNames w.line)

-- a name is declared once
abbrev pub with_declaration : Identifier → NameKind → List Entry → Result (List Entry) Diagnostic
with_declaration w k es = declared_at (kind_of w.text es)
  where
    declared_at : Option NameKind → Result (List Entry) Diagnostic
    declared_at (Some old) = Err (name_fault letters.Redeclared w)
    declared_at None = with_entry w k es

-- the first mention enters a name: as external where it is called, else as internal
abbrev pub kind_mentioned : Bool → ℕ → NameKind
kind_mentioned true line = External
kind_mentioned false line = Unlabelled line

abbrev pub with_mention : Bool → Identifier → List Entry → Result (List Entry) Diagnostic
with_mention called w es = mentioned_at (kind_of w.text es)
  where
    mentioned_at : Option NameKind → Result (List Entry) Diagnostic
    mentioned_at (Some old) = Ok es
    mentioned_at None = with_entry w (kind_mentioned called w.line) es

-- the table with another kind for a name
abbrev pub with_kind : List ℕ → NameKind → List Entry → List Entry
with_kind x k [] = []
with_kind x k (e ∷ es) = if same_name e.name x then record { name = e.name; kind = k } ∷ es else e ∷ with_kind x k es

-- a label's name may be new, or internal without a label
abbrev pub with_label : Identifier → ℕ → List Entry → Result (List Entry) Diagnostic
with_label w number es = labelled_at (kind_of w.text es)
  where
    labelled_at : Option NameKind → Result (List Entry) Diagnostic
    labelled_at None = with_entry w (Labelled number) es
    labelled_at (Some (Unlabelled line)) = Ok (with_kind w.text (Labelled number) es)
    labelled_at (Some _) = Err (name_fault letters.Redeclared w)

-- the fault of an internal name without a label, or one after it
abbrev pub undefined_at : List ℕ → NameKind → Option Diagnostic → Option Diagnostic
undefined_at x (Unlabelled line) following = Some (name_fault letters.Undefined (record { text = x; line = line }))
undefined_at x _ following = following

-- the first internal name without a label
abbrev pub undefined : List Entry → Option Diagnostic
undefined [] = None
undefined (e ∷ es) = undefined_at e.name e.kind (undefined es)

-- a switch up to a place
pub record Around : Type 0 where
  pub constants : List ℕ
  pub has_default : Bool

abbrev pub empty_switch : Around
empty_switch = record { constants = []; has_default = false }

-- a function up to a place: its names, frame words and labels, the switches around, from the innermost on, how many
-- loops are around, and how many cases it has
pub record Scope : Type 0 where
  pub names : List Entry
  pub frame : ℕ
  pub labels : ℕ
  pub switches : List Around
  pub loops : ℕ
  pub cases : ℕ

abbrev pub no_scope : Scope
no_scope = record { names = []; frame = 0; labels = 0; switches = []; loops = 0; cases = 0 }

abbrev pub is_place : Option NameKind → Bool
is_place (Some (Automatic word)) = true
is_place (Some External) = true
is_place _ = false

abbrev pub is_lvalue : List Entry → Expr → Bool
is_lvalue names (Named w) = is_place (kind_of w.text names)
is_lvalue names (Grouped e) = is_lvalue names e
is_lvalue names (Indexed e f) = true
is_lvalue names (Prefixed Indirection line e) = true
is_lvalue names _ = false

-- a name by itself, or a vector of constant c: its own word and c + 1 more
abbrev pub automatic_words : Option ℕ → ℕ
automatic_words None = 1
automatic_words (Some c) = 1 + (c + 1)

-- a scope with other names, where there is no fault
abbrev pub with_names : Scope → Result (List Entry) Diagnostic → Result Scope Diagnostic
with_names s (Ok names) = Ok (record s { names = names })
with_names s (Err d) = Err d

abbrev pub word_fault : Letters → About → ℕ → Diagnostic
word_fault l word line = record { letters = l; about = word; line = line }

abbrev pub with_constant : ℕ → Around → Around
with_constant value around = record around { constants = around.constants ++ value ∷ [] }

-- a case of the innermost switch
abbrev pub scan_case : ℕ → ℕ → Scope → List Around → Result Scope Diagnostic
scan_case line value s [] = Err (word_fault letters.Syntax about.Case line)
scan_case line value s (around ∷ others) =
    if list_any (nat_eq value) around.constants then Err (word_fault letters.Redeclared about.Case line) else
    if nat_lt s.cases MAX_CASES
    then Ok (record s { switches = with_constant value around ∷ others; cases = s.cases + 1 })
    else Err (fault letters.TooManyCases line)

-- the default of the innermost switch
abbrev pub scan_default : ℕ → Scope → List Around → Result Scope Diagnostic
scan_default line s [] = Err (word_fault letters.Syntax about.Default line)
scan_default line s (around ∷ others) =
    if around.has_default then Err (word_fault letters.Redeclared about.Default line) else
    Ok (record s { switches = record around { has_default = true } ∷ others })

-- within a loop or a switch
abbrev pub can_break : Scope → Bool
can_break s = nat_lt 0 (s.loops + length s.switches)

abbrev pub rest_of : {A : Type 0} → List A → List A
rest_of [] = []
rest_of (x ∷ xs) = xs

-- the scope after an event, or its fault
abbrev pub scan_event : Event → Scope → Result Scope Diagnostic
scan_event (AutoHere w size) s =
    with_names (record s { frame = s.frame + automatic_words size }) (with_declaration w (Automatic s.frame) s.names)
scan_event (ExtrnHere w) s = with_names s (with_declaration w External s.names)
scan_event (Mention called w) s = with_names s (with_mention called w s.names)
scan_event (LabelHere w) s = with_names (record s { labels = s.labels + 1 }) (with_label w s.labels s.names)
scan_event (CaseHere line value) s = scan_case line value s s.switches
scan_event (LvalueWanted line e) s = if is_lvalue s.names e then Ok s else Err (fault letters.NotLvalue line)
scan_event (DefaultHere line) s = scan_default line s s.switches
scan_event (BreakHere line) s = if can_break s then Ok s else Err (word_fault letters.Syntax about.Break line)
scan_event LoopBegins s = Ok (record s { loops = s.loops + 1 })
scan_event LoopEnds s = Ok (record s { loops = s.loops - 1 })
scan_event SwitchBegins s = Ok (record s { switches = empty_switch ∷ s.switches })
scan_event SwitchEnds s = Ok (record s { switches = rest_of s.switches })

-- the first fault stays
abbrev pub scanned : List Event → Result Scope Diagnostic → Result Scope Diagnostic
scanned [] r = r
scanned (e ∷ es) (Ok s) = scanned es (scan_event e s)
scanned (e ∷ es) (Err d) = Err d

abbrev pub function_events : List Identifier → Stmt → List Event
function_events parameters body = events_in (walk_function parameters body)

abbrev pub function_scope : List Identifier → Stmt → Result Scope Diagnostic
function_scope parameters body = scanned (function_events parameters body) (Ok no_scope)

-- a name without a label is a fault after all others
abbrev pub scope_fault : Result Scope Diagnostic → Option Diagnostic
scope_fault (Ok s) = undefined s.names
scope_fault (Err d) = Some d

abbrev pub inner_fault : Definition → Option Diagnostic
inner_fault (Function w parameters body) = scope_fault (function_scope parameters body)
inner_fault _ = None

abbrev pub identifier_of : Definition → Identifier
identifier_of (Simple w values) = w
identifier_of (Vector w size values) = w
identifier_of (Function w parameters body) = w

-- the first fault of a definition after definitions of these names
abbrev pub scan : List (List ℕ) → Definition → Option Diagnostic
scan defined d =
    if list_any (same_name (identifier_of d).text) defined then Some (name_fault letters.Redeclared (identifier_of d))
    else inner_fault d
