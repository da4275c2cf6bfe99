use Rattle.blex.proofs.TokenSteps.{token_falls}
use Rattle.blex.proofs.lexer.Lexer.next_lexeme.Goals as goal
use Rattle.blex.proofs.lexer.Lexer.next_lexeme.Goals.{in-Some, in_default-last}

pub returns-clause-falls : goal.returns-clause-falls
returns-clause-falls g c = elim c.match-last.branch [
  | in-Some w ↦ rw (w.self-is, ← c.self.view_is) (token_falls c.in-Ok.ensures.ok)
  | in_default-last w ↦ rw (w.self-is, ← c.self.view_is) (token_falls c.in-Ok.ensures.ok)
]
