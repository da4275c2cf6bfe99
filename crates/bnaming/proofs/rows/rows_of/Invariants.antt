use Rattle.std.proofs.Common.{◌≡◌, ◌++◌, drop}
use Rattle.bnaming.specs.declared.roles.Mode.TheVariants as mode
use Rattle.bnaming.specs.Rows.{rows_from}
use Rattle.bnaming.specs.Spots.{first_spot}
use Rattle.bnaming.proofs.rows.rows_of.Given as goal

abbrev pub invariant-loop-tag : goal.invariant-loop-tag
invariant-loop-tag l =
    l.rows.items ++ rows_from l.reader.mode l.reader.last l.reader.rest.now (drop l.tag-index l.tags)
    ≡ rows_from mode.Statement first_spot l.tokens l.tags
