use Rattle.std.proofs.Common.{◌≡◌, ◌∙◌, ap, sym, refl, true}
use Rattle.std.specs.Prelude.{is_some}
use Rattle.bread.specs.Tokens.{token_seen}
use Rattle.bread.proofs.TokenSteps.{advance_ready, advanced, advanced_ok, looked_already, none_is, seen_is, seen_none}
use Rattle.bread.proofs.tokens.Tokens.advance.Goals as goal

pub returns-then-is_some-clause-ok : goal.returns-then-is_some-clause-ok
returns-then-is_some-clause-ok g c =
    let lexer = c.self.inside.lexer in
    let text = lexer.characters in
    let current = token_seen text c.self.inside.current in
    let following = token_seen text c.self.inside.following in
    let taken = ap (token_seen text) c.take-self-inside.ensures.value in
    let none = seen_none text _ c.take-self-inside.ensures.after in
    let ready = advance_ready c.args.self.now lexer current following c.self.view_is c.self.invariant.near c.requires.loaded c.requires.goes_on _ _ taken none in
    let some : is_some c.take-self-inside.result ≡ true = ap is_some c.take-self-inside.ensures.value ∙ sym c.if-is_some.ensures in
    advanced c.args.self.now lexer current following c.self.view_is c.self.invariant.near c.requires.loaded c.requires.goes_on _ _ _ taken none
    (looked_already _ lexer (token_seen text c.take-self-inside.result) (token_seen text c.take-self-inside.new.self) refl c.self.invariant.near ready (seen_is text c.take-self-inside.result true some) (λ e. none))

pub returns-clause-ok : goal.returns-clause-ok
returns-clause-ok g c =
    let lexer = c.self.inside.lexer in
    let text = lexer.characters in
    let none = seen_none text c.self.inside.following (none_is c.self.inside.following (sym c.if-is_some.ensures)) in
    advanced_ok c.args.self.now lexer (token_seen text c.self.inside.current) (token_seen text c.self.inside.following) c.self.view_is c.self.invariant.near c.requires.loaded c.requires.goes_on _ _ c.look.new.self (sym none) none c.look.result c.look.ensures.ok
