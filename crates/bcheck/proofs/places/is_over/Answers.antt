use Rattle.std.proofs.Common.{Some, ap}
use Rattle.bword.specs.ByteEnds.{Unread, incoming_of}
use Rattle.bcheck.proofs.TokenPlaces.{over_here}
use Rattle.bcheck.proofs.places.is_over.Goals as goal

pub returns-in-End : goal.returns-in-End
returns-in-End c = λ t.
    over_here c.args.edition (incoming_of c.new.result) _ c.with_edition-lexer.result c.next_lexeme.new.self c.in-Ok.seen _ c.args.rest.now c.with_edition-lexer.ensures
    (ap (λ (m : Unread). Some m.left) c.new.ensures) (ap (λ (m : Unread). m.is_over) c.new.ensures) c.in-Ok.ensures.gives c.in-End.is
