-- Closed facts: what each event makes of a scope, or which fault it is.
use Rattle.std.specs.Prelude.{◌≡◌, ℕ, List, [], ◌∷◌, ◌++◌, map, codes, replicate, true, false, Bool, Some, None, Ok}
use Rattle.std.specs.Prelude.{Err, refl, Result, Option}
use Rattle.blang.specs.declared.token.Letters.{Letters}
use Rattle.blang.specs.declared.token.Letters.TheVariants as letters
use Rattle.blang.specs.declared.token.About.{About}
use Rattle.blang.specs.declared.token.About.TheVariants as about
use Rattle.blang.specs.declared.token.Diagnostic.{Diagnostic}
use Rattle.blang.specs.Trees.{Identifier, Number, Negate, Indirection, Expr, Named, Literal, Grouped, Indexed, Prefixed}
use Rattle.blang.specs.Trees.{Goto, Definition, Simple, Vector, Function}
use Rattle.blang.specs.Walk.{Event, AutoHere, ExtrnHere, Mention, LabelHere, CaseHere, DefaultHere, BreakHere}
use Rattle.blang.specs.Walk.{LvalueWanted, LoopBegins, LoopEnds, SwitchBegins, SwitchEnds}
use Rattle.blang.specs.Scan.{Entry, NameKind, Automatic, External, Unlabelled, Labelled, Around, Scope, scan_event}
use Rattle.blang.specs.Scan.{scanned, no_scope, scope_fault, scan}

abbrev entry : List ℕ → NameKind → Entry
entry name kind = record { name = name; kind = kind }

-- a name on line 4
abbrev word : List ℕ → Identifier
word text = record { text = text; line = 4 }

-- a name of each kind
abbrev p : Entry
p = entry (codes "p") (Automatic 0)

abbrev x : Entry
x = entry (codes "x") External

abbrev g : Entry
g = entry (codes "g") (Unlabelled 2)

abbrev l : Entry
l = entry (codes "l") (Labelled 0)

abbrev scope : Scope
scope = record { names = p ∷ x ∷ g ∷ l ∷ []; frame = 3; labels = 1; switches = []; loops = 0; cases = 0 }

abbrev with_entry : Entry → Scope
with_entry e = record scope { names = scope.names ++ e ∷ [] }

-- the fault of a name
abbrev of_name : Letters → List ℕ → Result Scope Diagnostic
of_name l name = Err (record { letters = l; about = about.Name name; line = 4 })

abbrev fault : Letters → About → Result Scope Diagnostic
fault l about = Err (record { letters = l; about = about; line = 4 })

abbrev after : Scope → List Event → List (Result Scope Diagnostic)
after s events = map (λ e. scan_event e s) events

declares : after scope (AutoHere (word (codes "a")) None ∷ AutoHere (word (codes "a")) (Some 5)
    ∷ ExtrnHere (word (codes "a")) ∷ LabelHere (word (codes "a")) ∷ Mention true (word (codes "a"))
    ∷ Mention false (word (codes "a")) ∷ [])
    ≡ Ok (record (with_entry (entry (codes "a") (Automatic 3))) { frame = 4 })
    ∷ Ok (record (with_entry (entry (codes "a") (Automatic 3))) { frame = 10 })
    ∷ Ok (with_entry (entry (codes "a") External))
    ∷ Ok (record (with_entry (entry (codes "a") (Labelled 1))) { labels = 2 })
    ∷ Ok (with_entry (entry (codes "a") External))
    ∷ Ok (with_entry (entry (codes "a") (Unlabelled 4))) ∷ []
declares = refl

-- a name of any kind can be mentioned again, and one without a label can get it
declared_before : after scope (Mention true (word (codes "p")) ∷ Mention false (word (codes "x"))
    ∷ Mention true (word (codes "g")) ∷ Mention false (word (codes "l")) ∷ LabelHere (word (codes "g")) ∷ [])
    ≡ Ok scope ∷ Ok scope ∷ Ok scope ∷ Ok scope
    ∷ Ok (record scope { names = p ∷ x ∷ entry (codes "g") (Labelled 1) ∷ l ∷ []; labels = 2 }) ∷ []
declared_before = refl

declared_twice : after scope (AutoHere (word (codes "x")) None ∷ ExtrnHere (word (codes "p"))
    ∷ ExtrnHere (word (codes "g")) ∷ AutoHere (word (codes "l")) (Some 1) ∷ LabelHere (word (codes "p"))
    ∷ LabelHere (word (codes "x")) ∷ LabelHere (word (codes "l")) ∷ [])
    ≡ map (of_name letters.Redeclared)
    (codes "x" ∷ codes "p" ∷ codes "g" ∷ codes "l" ∷ codes "p" ∷ codes "x" ∷ codes "l"
    ∷ [])
declared_twice = refl

-- so many names, and then the name a
abbrev after_names : ℕ → Event → Result Scope Diagnostic
after_names n e = scan_event e (record no_scope { names = replicate n p })

names_of_127 : map (after_names 127) (AutoHere (word (codes "a")) None ∷ Mention true (word (codes "a")) ∷ [])
    ≡ Ok (record no_scope { names = replicate 127 p ++ entry (codes "a") (Automatic 0) ∷ []; frame = 1 })
    ∷ Ok (record no_scope { names = replicate 127 p ++ entry (codes "a") External ∷ [] }) ∷ []
names_of_127 = refl

names_of_128 : map (after_names 128) (AutoHere (word (codes "a")) None ∷ ExtrnHere (word (codes "a"))
    ∷ LabelHere (word (codes "a")) ∷ Mention true (word (codes "a")) ∷ Mention false (word (codes "a")) ∷ [])
    ≡ replicate 5 (fault letters.TooManyNames about.Nothing)
names_of_128 = refl

-- within two switches, of which the inner one has the constants 1 and 2
abbrev outer : Around
outer = record { constants = 9 ∷ []; has_default = true }

abbrev within : List ℕ → Bool → ℕ → Scope
within constants has_default cases =
    record scope { switches = record { constants = constants; has_default = has_default } ∷ outer ∷ []; cases = cases }

cases : after (within (1 ∷ 2 ∷ []) true 7) (CaseHere 4 9 ∷ CaseHere 4 1 ∷ CaseHere 4 2 ∷ DefaultHere 4 ∷ BreakHere 4
    ∷ SwitchEnds ∷ SwitchBegins ∷ [])
    ≡ Ok (within (1 ∷ 2 ∷ 9 ∷ []) true 8) ∷ fault letters.Redeclared about.Case ∷ fault letters.Redeclared about.Case
    ∷ fault letters.Redeclared about.Default ∷ Ok (within (1 ∷ 2 ∷ []) true 7)
    ∷ Ok (record scope { switches = outer ∷ []; cases = 7 })
    ∷ Ok (record scope {
      switches = record { constants = []; has_default = false }
          ∷ record { constants = 1 ∷ 2 ∷ []; has_default = true } ∷ outer ∷ [];
      cases = 7;
    }) ∷ []
cases = refl

a_default : after (within [] false 0) (DefaultHere 4 ∷ []) ≡ Ok (within [] true 0) ∷ []
a_default = refl

last_case : after (within (1 ∷ []) false 255) (CaseHere 4 3 ∷ []) ≡ Ok (within (1 ∷ 3 ∷ []) false 256) ∷ []
last_case = refl

-- a constant twice is told before a case too many
too_many_cases : after (within (1 ∷ []) false 256) (CaseHere 4 3 ∷ CaseHere 4 1 ∷ [])
    ≡ fault letters.TooManyCases about.Nothing ∷ fault letters.Redeclared about.Case ∷ []
too_many_cases = refl

in_no_switch : after scope (CaseHere 4 1 ∷ DefaultHere 4 ∷ BreakHere 4 ∷ SwitchEnds ∷ LoopEnds ∷ LoopBegins ∷ [])
    ≡ fault letters.Syntax about.Case ∷ fault letters.Syntax about.Default ∷ fault letters.Syntax about.Break
    ∷ Ok scope ∷ Ok scope ∷ Ok (record scope { loops = 1 }) ∷ []
in_no_switch = refl

in_a_loop : after (record scope { loops = 1 }) (BreakHere 4 ∷ LoopEnds ∷ LoopBegins ∷ [])
    ≡ Ok (record scope { loops = 1 }) ∷ Ok scope ∷ Ok (record scope { loops = 2 }) ∷ []
in_a_loop = refl

-- the end of one of two
in_two_loops : after (record scope { loops = 2 }) (LoopEnds ∷ []) ≡ Ok (record scope { loops = 1 }) ∷ []
in_two_loops = refl

-- what a function begins with
first_scope : no_scope ≡ record { names = []; frame = 0; labels = 0; switches = []; loops = 0; cases = 0 }
first_scope = refl

-- what can be stored to, and what can't
abbrev one : Expr
one = Literal (Number 1)

abbrev name : List ℕ → Expr
name text = Named (word text)

lvalues : after scope (map (LvalueWanted 4) (name (codes "p") ∷ name (codes "x") ∷ Grouped (name (codes "p"))
    ∷ Indexed one one ∷ Prefixed Indirection 1 one ∷ [])) ≡ replicate 5 (Ok scope)
lvalues = refl

no_lvalues : after scope (map (LvalueWanted 4) (name (codes "g") ∷ name (codes "l") ∷ name (codes "none") ∷ one
    ∷ Grouped one ∷ Prefixed Negate 1 one ∷ [])) ≡ replicate 6 (fault letters.NotLvalue about.Nothing)
no_lvalues = refl

-- the first fault is told, and a name without a label after all
first_fault : scanned (LoopBegins ∷ ExtrnHere (word (codes "p")) ∷ ExtrnHere (word (codes "x")) ∷ []) (Ok scope)
    ≡ of_name letters.Redeclared (codes "p")
first_fault = refl

-- each event of several is scanned as it is
scanned_each : scanned (ExtrnHere (word (codes "a")) ∷ AutoHere (word (codes "b")) None ∷ LabelHere (word (codes "c"))
    ∷ Mention true (word (codes "d")) ∷ Mention false (word (codes "e")) ∷ LoopBegins ∷ SwitchBegins ∷ CaseHere 4 7
    ∷ DefaultHere 4 ∷ BreakHere 4 ∷ SwitchEnds ∷ LoopEnds ∷ []) (Ok scope)
    ≡ Ok (record {
      names = scope.names ++ entry (codes "a") External ∷ entry (codes "b") (Automatic 3)
          ∷ entry (codes "c") (Labelled 1) ∷ entry (codes "d") External ∷ entry (codes "e") (Unlabelled 4) ∷ [];
      frame = 4;
      labels = 2;
      switches = [];
      loops = 0;
      cases = 1;
    })
scanned_each = refl

scope_faults : map scope_fault (Ok no_scope ∷ Ok scope ∷ fault letters.Syntax about.Case ∷ [])
    ≡ None ∷ Some (record { letters = letters.Undefined; about = about.Name (codes "g"); line = 2 })
    ∷ Some (record { letters = letters.Syntax; about = about.Case; line = 4 }) ∷ []
scope_faults = refl

-- f(p) { goto q; }, after definitions of these names
abbrev f : Definition
f = Function (word (codes "f")) (word (codes "p") ∷ []) (Goto (name (codes "q")))

abbrev told : Letters → List ℕ → Option Diagnostic
told l name = Some (record { letters = l; about = about.Name name; line = 4 })

of_definitions : map (λ d. scan (codes "a" ∷ codes "f" ∷ []) d) (f ∷ Simple (word (codes "f")) []
    ∷ Vector (word (codes "a")) None [] ∷ Simple (word (codes "b")) [] ∷ Vector (word (codes "b")) None [] ∷ [])
    ≡ told letters.Redeclared (codes "f") ∷ told letters.Redeclared (codes "f") ∷ told letters.Redeclared (codes "a")
    ∷ None ∷ None ∷ []
of_definitions = refl

of_functions : map (scan []) (f ∷ Function (word (codes "f")) (word (codes "q") ∷ []) (Goto (name (codes "q"))) ∷ [])
    ≡ told letters.Undefined (codes "q") ∷ None ∷ []
of_functions = refl
