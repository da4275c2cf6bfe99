-- Answers that the contract of the lexer excludes, over a stream that tells its bytes.
use Rattle.std.proofs.Common.{◌≡◌, ◌≢◌, ◌<◌, ℕ, List, ◌∷◌, ◌++◌, Ok, Err, refl, sym, ap, ◌∙◌, subst, arith, append_assoc}
use Rattle.std.specs.Prelude.{Result}
use Rattle.bword.proofs.Remaining.{rest_after}
use Rattle.bword.specs.ByteEnds.{most}
use Rattle.blang.specs.Compiles.{Tells}
use Rattle.blang.specs.Cut.{tokens_from, token_first}
use Rattle.blang.specs.declared.token.Placed.{Placed}
use Rattle.blex.specs.Lexers.{Lexer, LexGives, GivesAt, Broken}
use Rattle.blex.specs.declared.lexeme.Last.{Last}
use Rattle.blex.specs.declared.lexer.LexStop.{LexStop}
use Rattle.blex.specs.declared.lexer.LexStop.TheVariants as stop
use Rattle.blex.specs.declared.lexer.Progress.TheVariants as progress

module _ (old new : Lexer) (is_open : old.progress ≡ progress.Open) where
  -- another token than the first one of the bytes to come, or another line
  pub no_other_token : (text : List ℕ) (given first : Placed) (rest : List Placed) → Tells old.source.end text
      → tokens_from old.source.edition old.source.line (old.source.ahead ++ text) ≡ first ∷ rest → LexGives old (Ok given) new → given ≡ first
  no_other_token text given first rest tells e h =
      let p = (subst (λ x. GivesAt x old (Ok given) new) is_open h).0 in
      let r = rest_after old.source.end new.source.end p.passes.taken text p.passes.took tells.left tells.follow in
      let bytes : old.source.ahead ++ text ≡ p.bytes ++ (new.source.ahead ++ r.more) =
      ap (λ t. old.source.ahead ++ t) (sym r.whole) ∙ sym (append_assoc old.source.ahead p.passes.taken r.more)
      ∙ ap (λ t. t ++ r.more) p.passes.split ∙ append_assoc p.bytes new.source.ahead r.more in
      let come : first ∷ rest ≡ token_first given.token given.line (tokens_from old.source.edition new.source.line (new.source.ahead ++ r.more)) =
      sym e ∙ ap (tokens_from old.source.edition old.source.line) bytes
      ∙ p.cut (new.source.ahead ++ r.more) (record { more = r.more; split = refl; over = r.follows }) in
      cc

  -- a failure after which more tokens can come
  pub no_token_after_failure : new.progress ≡ progress.Open → LexGives old (Err stop.Device) new → ⊥
  no_token_after_failure still h =
      let closed = (subst (λ x. GivesAt x old (Err stop.Device) new) is_open h).1 in
      cc

  -- the answer that a read had failed before, where none had
  pub no_closed_answer : LexGives old (Err stop.Closed) new → ⊥
  no_closed_answer h = subst (λ x. GivesAt x old (Err stop.Closed) new) is_open h

-- a failure of no read, below the greatest count
pub no_device_by_itself : (old new : Lexer) → old.source.end.failures < most
    → new.source.end.failures ≡ old.source.end.failures → Broken old new → ⊥
no_device_by_itself old new below e h = let grew = h.counted in omega (arith, below, e, grew)

-- something read after the last token
pub no_read_after_the_end : (old new : Lexer) (last : Last) (line : ℕ) (result : Result Placed LexStop) → old.progress ≡ progress.Ended last line
    → new.source ≢ old.source → LexGives old result new → ⊥
no_read_after_the_end old new last line result e other h =
    let same = (subst (λ x. GivesAt x old result new) e h).1 in
    other (ap (λ x. x.source) same)
