-- Inner words: what may be a fault in each construct.
use Rattle.std.specs.Prelude.{List}
use Rattle.blang.specs.Trees.{Expr, Arguments, Heading, Stmt, Stmts}
use Rattle.blang.specs.Walk.{Event, events_in, walk, walk_arguments, walk_heading, walk_statement, walk_body}

abbrev pub events : Expr → List Event
events e = events_in (walk e)

abbrev pub argument_events : Arguments → List Event
argument_events args = events_in (walk_arguments args)

abbrev pub heading_events : Heading → List Event
heading_events h = events_in (walk_heading h)

abbrev pub statement_events : Stmt → List Event
statement_events s = events_in (walk_statement s)

abbrev pub body_events : Stmts → List Event
body_events body = events_in (walk_body body)
