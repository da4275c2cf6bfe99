use Rattle.std.proofs.Common.{false, true, ap}
use Rattle.blex.specs.Lexemes.{placed_of}
use Rattle.bread.specs.Tokens.{token_seen, is_name_seen}
use Rattle.bread.proofs.TokenSteps.{look_breaks, looked, looked_already, none_is, alone_seen, seen_is, seen_none}
use Rattle.bread.proofs.tokens.Tokens.look.Goals as goal

pub returns-in_default-clause-err : goal.returns-in_default-clause-err
returns-in_default-clause-err g c =
    look_breaks c.args.self.now c.self.inside.lexer (token_seen c.self.inside.lexer.characters c.self.inside.current) (token_seen c.self.inside.lexer.characters c.self.inside.following) c.self.view_is c.self.invariant.near c.requires c.in_default.field-0 c.next_lexeme.new.self _ c.in_default.ensures.gives c.in_default.ensures.near (seen_is c.self.inside.lexer.characters _ false c.if-is_none.ensures)

pub returns-in-Ok-clause-ok : goal.returns-in-Ok-clause-ok
returns-in-Ok-clause-ok g c =
    let text = c.next_lexeme.new.self.characters in
    looked c.args.self.now c.self.inside.lexer (token_seen c.self.inside.lexer.characters c.self.inside.current) (token_seen c.self.inside.lexer.characters c.self.inside.following) c.self.view_is c.self.invariant.near c.requires c.next_lexeme.new.self (placed_of text c.in-Ok.seen) c.in-Ok.ensures.gives c.in-Ok.ensures.near c.in-Ok.ensures.falls (seen_is c.self.inside.lexer.characters _ false c.if-is_none.ensures)
    (token_seen text c.self.inside.following) (seen_none text c.self.inside.following (c.self.invariant.alone (ap is_name_seen (none_is c.self.inside.current c.if-is_none.ensures))))

pub returns-else-is_none-clause-ok : goal.returns-else-is_none-clause-ok
returns-else-is_none-clause-ok g c = looked_already c.args.self.now c.self.inside.lexer (token_seen c.self.inside.lexer.characters c.self.inside.current) (token_seen c.self.inside.lexer.characters c.self.inside.following) c.self.view_is c.self.invariant.near c.requires (seen_is c.self.inside.lexer.characters _ true c.if-is_none.ensures) (alone_seen c.self.inside.lexer.characters c.self.inside.current c.self.inside.following c.self.invariant.alone)
