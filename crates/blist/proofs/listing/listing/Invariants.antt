use Rattle.std.proofs.Common.{◌≡◌, ◌++◌, drop, option_map}
use Rattle.blist.specs.Listings.{list_text}
use Rattle.blist.proofs.AddedRows.{rest_rows}
use Rattle.blist.proofs.listing.listing.Given as goal

abbrev pub invariant-loop-definition : goal.invariant-loop-definition
invariant-loop-definition l =
    list_text l.program.image l.source (option_map (λ n. n.now) l.name) l.program.definitions.items l.program.names.lines.items l.program.names.frames.items
    ≡ l.text ++ rest_rows l.program.image l.source (option_map (λ n. n.now) l.name) (drop l.definition-index l.definition-items) l.lines l.frames
