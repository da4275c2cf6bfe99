-- Promise: the names of a program, and what each is bound to, are those of the scan.
use Rattle.std.specs.Prelude.{◌≡◌, ◌≢◌, ℕ, List, [], ◌∷◌, ◌++◌, map, Ok, Option, None, Some}
use Rattle.std.specs.List.{filter_map, flat_map}
use Rattle.std.specs.Option.{option_and_then, option_map}
use Rattle.blang.specs.Scan.{Automatic, Labelled, NameKind, Scope, function_scope, kind_of}
use Rattle.blang.specs.Trees.{Definition, Function, Identifier, Ival, Ival_name, Simple, Stmt, Vector, bare, kept}
use Rattle.blang.specs.Cut.{tokens_from}
use Rattle.blang.specs.declared.token.Placed.{Placed}
use Rattle.bword.specs.declared.edition.Edition.{Edition}
use Rattle.blang.specs.Walk.{AutoHere, Event, ExtrnHere, LabelHere, Mention, events_in, spell_all, walk_statement}
use Rattle.blang.specs.WellFormed.{AllFormed}
use Rattle.blex.specs.Lexemes.{lexeme_of}
use Rattle.btree.specs.declared.sorts.Sort.TheVariants as sort
use Rattle.btree.specs.declared.tags.Phase.TheVariants as phase
use Rattle.btree.specs.Machine.{first, run}
use Rattle.bnaming.specs.declared.binding.Reach.TheVariants as reach
use Rattle.bnaming.specs.declared.places.Spot.{Spot}
use Rattle.bnaming.specs.declared.roles.Mode.TheVariants as mode
use Rattle.bnaming.specs.declared.reading.PlacedToken.{PlacedToken}
use Rattle.bnaming.specs.declared.roles.Role.{Role}
use Rattle.bnaming.specs.declared.roles.Role.TheVariants as role
use Rattle.bnaming.specs.declared.rows.Content.{Content}
use Rattle.bnaming.specs.declared.rows.Content.TheVariants as content
use Rattle.bnaming.specs.declared.rows.Row.{Row}
use Rattle.bnaming.specs.Binding.{declaration}
use Rattle.bnaming.specs.Names.{arounds, rows_of, tokens_of}
use Rattle.bnaming.specs.Pieces.{sort_in}
use Rattle.bnaming.specs.Rows.{rows_from}
use Rattle.bnaming.specs.Spots.{first_spot}

-- a name, and what it is
abbrev pub NamedAs : Type 0
NamedAs = Role × List ℕ

abbrev pub content_name : Content → Option NamedAs
content_name (content.Name r name) = Some (r, name)
content_name c = None

-- the names in rows, in order
abbrev pub names_in : List Row → List NamedAs
names_in rows = filter_map (λ r. content_name r.content) rows

-- what the scan finds at a name of a function's body
abbrev pub event_name : Event → Option NamedAs
event_name (AutoHere w size) = Some (role.Automatic, w.text)
event_name (ExtrnHere w) = Some (role.Import, w.text)
event_name (Mention called w) = Some (role.Mention, w.text)
event_name (LabelHere w) = Some (role.Label, w.text)
event_name e = None

abbrev pub value_name : Ival → Option NamedAs
value_name (Ival_name w) = Some (role.Value, w.text)
value_name v = None

abbrev pub parameter_name : Identifier → NamedAs
parameter_name w = (role.Parameter, w.text)

-- the names of a function after its own
abbrev pub own_names : List Identifier → Stmt → List NamedAs
own_names parameters body = map parameter_name parameters ++ filter_map event_name (events_in (walk_statement body))

-- the names of a definition, in order: its own, and then those of its values, or its parameters and what the scan finds
abbrev pub definition_names : Definition → List NamedAs
definition_names (Simple w values) = (role.External, w.text) ∷ filter_map value_name values
definition_names (Vector w size values) = (role.External, w.text) ∷ filter_map value_name values
definition_names (Function w parameters body) =
    (role.Function, w.text) ∷ own_names parameters body

-- the rows of tokens after whole definitions, the last of which ended here
abbrev pub rows_after : (last : Spot) → List PlacedToken → List Row
rows_after last ts = rows_from mode.Statement last ts (run phase.Over [] (map sort_in ts))

-- These tokens are those of whole definitions, and those go on after them; an else would go on with the last one.
pub record AreDefined (definitions : List Definition) (own more : List PlacedToken) : Type 0 where
  pub formed : AllFormed definitions
  pub same : map (λ t. t.lexeme) own ≡ map lexeme_of (map bare (spell_all definitions))
  pub no_else : first (map sort_in more) ≢ sort.Else

-- The names of a source that begins with whole definitions are, up to their end, those of the definitions and no other.
abbrev pub NamesOfProgram : Type 0
NamesOfProgram =
    (definitions : List Definition) (own more : List PlacedToken) → AreDefined definitions own more
    → names_in (rows_of (own ++ more)) ≡ flat_map definition_names definitions ++ names_in (rows_after first_spot more)

-- a name of rows, with the names in which it is looked for as one of its definition
abbrev pub name_around : Row × List Row → Option (NamedAs × List NamedAs)
name_around it = option_map (λ n. (n, names_in it.1)) (content_name it.0.content)

abbrev pub names_around : List Row → List (NamedAs × List NamedAs)
names_around rows = filter_map name_around (arounds [] 0 rows)

-- each name of a definition, with all of them
abbrev pub names_together : Definition → List (NamedAs × List NamedAs)
names_together d = map (λ n. (n, definition_names d)) (definition_names d)

-- A name of a whole definition is looked for among the names of that definition, and among no other.
abbrev pub BindingsOfProgram : Type 0
BindingsOfProgram =
    (definitions : List Definition) (own more : List PlacedToken) → AreDefined definitions own more
    → (last : Spot) × (names_around (rows_of (own ++ more))
    ≡ flat_map names_together definitions ++ names_around (rows_after last more))

-- what the scan's table says of a name that is declared for its function alone
abbrev pub role_by_scan : Option NameKind → Option Role
role_by_scan (Some (Automatic word)) = Some role.Automatic
role_by_scan (Some (Labelled number)) = Some role.Label
role_by_scan k = None

-- for the scan a parameter is an automatic
abbrev pub as_scanned : Role → Role
as_scanned role.Parameter = role.Automatic
as_scanned r = r

-- what the row is that declares a name for its definition alone
abbrev pub declared_role : List ℕ → List Row → Option Role
declared_role x rows =
    option_and_then (λ r. option_map (λ (n : NamedAs). as_scanned n.0) (content_name r.content))
    (declaration reach.Definition x rows)

-- A name of a function in which the scan finds no fault is declared in it as the scan's table says, and no other is.
abbrev pub KindsOfScan : Type 0
KindsOfScan =
    (w : Identifier) (parameters : List Identifier) (body : Stmt) (scope : Scope) (rows : List Row)
    → function_scope parameters body ≡ Ok scope → names_in rows ≡ definition_names (Function w parameters body)
    → (x : List ℕ) → declared_role x rows ≡ role_by_scan (kind_of x scope.names)

-- The tokens of a source begin with those of definitions, and go on so.
pub record BeginsWith (definitions : List Definition) (tokens : List PlacedToken) : Type 0 where
  pub own : List PlacedToken
  pub more : List PlacedToken
  pub split : tokens ≡ own ++ more
  pub same : map (λ t. t.lexeme) own ≡ map lexeme_of (map bare (spell_all definitions))

-- Where the compiler reads definitions first in a source, the tokens of its rows begin with theirs.
abbrev pub TokensOfSource : Type 0
TokensOfSource =
    (edition : Edition) (source : List ℕ) (definitions : List Definition) (passed : List Placed) (next : Placed)
    → (others : List Placed) → tokens_from edition 1 source ≡ passed ++ next ∷ others
    → map kept passed ≡ spell_all definitions → BeginsWith definitions (tokens_of edition source)
