use Rattle.std.proofs.Common.{false, true}
use Rattle.blex.specs.Lexemes.{placed_of}
use Rattle.bread.specs.Tokens.{token_seen}
use Rattle.bread.proofs.TokenSteps.{look_on_breaks, looked_on, looked_on_already, plain_seen, stays_named, name_plain, seen_is}
use Rattle.bread.proofs.tokens.Tokens.look_on.Goals as goal

pub returns-in_default-clause-err : goal.returns-in_default-clause-err
returns-in_default-clause-err g c =
    look_on_breaks c.args.self.now c.self.inside.lexer (token_seen c.self.inside.lexer.characters c.self.inside.current) (token_seen c.self.inside.lexer.characters c.self.inside.following) c.self.view_is c.self.invariant.near c.requires.loaded c.requires.name c.in_default.field-0 c.next_lexeme.new.self _ c.in_default.ensures.gives c.in_default.ensures.near (seen_is c.self.inside.lexer.characters _ false c.if-is_none.ensures)

pub returns-in-Ok-clause-ok : goal.returns-in-Ok-clause-ok
returns-in-Ok-clause-ok g c =
    let text = c.next_lexeme.new.self.characters in
    let named = stays_named c.args.self.now c.self.inside.lexer (token_seen c.self.inside.lexer.characters c.self.inside.current) (token_seen c.self.inside.lexer.characters c.self.inside.following) c.self.view_is c.self.invariant.near c.requires.name in
    looked_on c.args.self.now c.self.inside.lexer (token_seen c.self.inside.lexer.characters c.self.inside.current) (token_seen c.self.inside.lexer.characters c.self.inside.following) c.self.view_is c.self.invariant.near c.requires.loaded c.requires.name c.next_lexeme.new.self (placed_of text c.in-Ok.seen) c.in-Ok.ensures.gives c.in-Ok.ensures.near c.in-Ok.ensures.falls (seen_is c.self.inside.lexer.characters _ false c.if-is_none.ensures)
    (token_seen text c.self.inside.current) (plain_seen c.self.inside.lexer.characters text c.self.inside.current _ (name_plain _ named))

pub returns-else-is_none-clause-ok : goal.returns-else-is_none-clause-ok
returns-else-is_none-clause-ok g c = looked_on_already c.args.self.now c.self.inside.lexer (token_seen c.self.inside.lexer.characters c.self.inside.current) (token_seen c.self.inside.lexer.characters c.self.inside.following) c.self.view_is c.self.invariant.near c.requires.loaded (seen_is c.self.inside.lexer.characters _ true c.if-is_none.ensures)
