-- Calls of a lexer give the first tokens of its source.
use Rattle.std.proofs.Common.{◌≡◌, ℕ, suc, false, List, [], ◌∷◌, ◌++◌, length, Option, Some, None, Ok, refl, sym, ap, ◌∙◌, arith, append_assoc, append-nil, subst, ⊎_elim}
use Rattle.std.specs.Prelude.{is_some}
use Rattle.std.specs.Io.KnownBytes.{Consumes}
use Rattle.std.proofs.lemmas.Bool.{cases_Bool, both_ways}
use Rattle.bword.specs.ByteEnds.{Incoming, Took, CanFollow}
use Rattle.blex.specs.declared.lexeme.Last.{Last}
use Rattle.blex.specs.declared.lexeme.Last.TheVariants as last
use Rattle.blang.specs.declared.token.Token.{Token}
use Rattle.blang.specs.declared.token.Token.TheVariants as token
use Rattle.blang.specs.declared.token.Placed.{Placed}
use Rattle.blex.specs.declared.lexer.Progress.TheVariants as progress
use Rattle.blang.specs.Cut.{tokens_from, token_first, is_last, placed, line_number_after}
use Rattle.blex.specs.Lasts.{token_of, last_of}
use Rattle.blex.specs.Sources.{GoesAfter, CanCome}
use Rattle.blex.specs.Lexing.{PassesToken}
use Rattle.blex.specs.Lexers.{Lexer, GivesAt, new, progress_after}
use Rattle.blex.specs.Calls.{Calls, first_tokens, once, Spells, CallsGiveFirst}
use Rattle.blex.proofs.Passing.{Passes-refl, Passes-append, CanCome-following}

first_cons : (t : Placed) (ps ts : List Placed) → first_tokens (length ps) ts ≡ ps → first_tokens (suc (length ps)) (t ∷ ts) ≡ t ∷ ps
first_cons t [] [] e = refl
first_cons t [] (u ∷ us) e = refl
first_cons t (p ∷ ps) [] e = cc
first_cons t (p ∷ ps) (u ∷ us) e = ap (λ l. t ∷ l) e

-- what the lexer keeps is the last token
pub last_is : (t : Token) → is_last t ≡ is_some (last_of t)
last_is (token.Bad letters) = refl
last_is token.End = refl
last_is _ = refl

-- a token that is no last one, and one that is
once_more : (t : Placed) (ts : List Placed) → last_of t.token ≡ None → once (t ∷ ts) ≡ t ∷ once ts
once_more t ts e = rw (last_is t.token, e) refl

once_last : (t : Placed) (ts : List Placed) (l : Last) → last_of t.token ≡ Some l → once (t ∷ ts) ≡ t ∷ []
once_last t ts l e = rw (last_is t.token, e) refl

token_first_more : (t : Placed) (ts : List Placed) → last_of t.token ≡ None → token_first t.token t.line ts ≡ t ∷ ts
token_first_more t ts e = rw (last_is t.token, e) refl

token_first_last : (t : Placed) (ts : List Placed) (l : Last) → last_of t.token ≡ Some l → token_first t.token t.line ts ≡ t ∷ []
token_first_last t ts l e = rw (last_is t.token, e) refl

last_token : (t : Token) (l : Last) → last_of t ≡ Some l → t ≡ token_of l
last_token (token.Bad letters) l e = let same : last.Bad letters ≡ l = cc in ap token_of same
last_token token.End l e = let same : last.End ≡ l = cc in ap token_of same
last_token _ l e = cc

-- What calls from one state to another come to.
record Gave (old : Lexer) (answers : List Placed) (after : Lexer) : Type 0 where
  passed : List ℕ
  passes : GoesAfter old.source passed after.source
  spells : Spells old.source.edition old.source.line (once answers) passed
  any : (xs : List ℕ) → CanCome after.source xs
      → first_tokens (length answers) (tokens_from old.source.edition old.source.line (passed ++ xs)) ≡ answers

gave_nothing : (old : Lexer) → Gave old [] old
gave_nothing old = record { passed = []; passes = Passes-refl old.source; spells = refl; any = λ xs c. refl }

-- after the last token
gave_again : (t : Placed) (l : Last) (line : ℕ) → t ≡ placed (token_of l) line → (ps : List Placed) (old after : Lexer)
    → old.progress ≡ progress.Ended l line → Calls old ps after
    → (after ≡ old) × (first_tokens (length ps) (t ∷ []) ≡ ps)
gave_again t l line e [] old after ended calls = (calls, refl)
gave_again t l line e (p ∷ ps) old after ended calls =
    let gives : GivesAt (progress.Ended l line) old (Ok p) calls.0 = subst (λ q. GivesAt q old (Ok p) calls.0) ended calls.1 in
    let is : t ≡ p = cc (gives.0, e) in
    let rest = gave_again t l line e ps calls.0 after (ap (λ s. s.progress) gives.1 ∙ ended) calls.2 in
    (rest.0 ∙ gives.1, ap (λ l. t ∷ l) rest.1 ∙ ap (λ q. q ∷ ps) is)

module _ (p : Placed) (ps : List Placed) (old between after : Lexer) (s : PassesToken old.source p between.source) where
  gave_more : last_of p.token ≡ None → Gave between ps after → Gave old (p ∷ ps) after
  gave_more e g = record {
    passed = s.bytes ++ g.passed;
    passes = Passes-append s.passes g.passes;
    spells =
        let line : between.source.line ≡ line_number_after old.source.line (s.space ++ s.text) =
        s.passes.line ∙ ap (line_number_after old.source.line) s.split in
        subst (λ ts. Spells old.source.edition old.source.line ts (s.bytes ++ g.passed)) (sym (once_more p ps e))
        (s.space, s.text, g.passed, ap (λ b. b ++ g.passed) s.split, s.before, s.is, subst (λ n. Spells old.source.edition n (once ps) g.passed) line (subst (λ e. Spells e between.source.line (once ps) g.passed) s.passes.edition g.spells));
    any = λ xs c.
        let rest = tokens_from old.source.edition between.source.line (g.passed ++ xs) in
        let all : tokens_from old.source.edition old.source.line ((s.bytes ++ g.passed) ++ xs) ≡ p ∷ rest =
        ap (tokens_from old.source.edition old.source.line) (append_assoc s.bytes g.passed xs) ∙ s.cut (g.passed ++ xs) (CanCome-following g.passes c)
        ∙ token_first_more p rest e in
        ap (first_tokens (suc (length ps))) all ∙ first_cons p ps rest (subst (λ e. first_tokens (length ps) (tokens_from e between.source.line (g.passed ++ xs)) ≡ ps) s.passes.edition (g.any xs c));
  }

  gave_last : (l : Last) → last_of p.token ≡ Some l → (after ≡ between) × (first_tokens (length ps) (p ∷ []) ≡ ps) → Gave old (p ∷ ps) after
  gave_last l e again = record {
    passed = s.bytes;
    passes = subst (λ n. GoesAfter old.source s.bytes n.source) (sym again.0) s.passes;
    spells = subst (λ ts. Spells old.source.edition old.source.line ts s.bytes) (sym (once_last p ps l e))
        (s.space, s.text, [], s.split ∙ sym (append-nil (s.space ++ s.text)), s.before, s.is, refl);
    any = λ xs c.
        let here : CanCome between.source xs = subst (λ n. CanCome n.source xs) again.0 c in
        ap (first_tokens (suc (length ps))) (s.cut xs here ∙ token_first_last p (tokens_from old.source.edition between.source.line xs) l e)
        ∙ ap (λ l. p ∷ l) again.1;
  }

  gave_one : (o : Option Last) → last_of p.token ≡ o → between.progress ≡ progress_after o p.line
      → Calls between ps after → (between.progress ≡ progress.Open → Gave between ps after) → Gave old (p ∷ ps) after
  gave_one None e at calls onward = gave_more e (onward at)
  gave_one (Some l) e at calls onward =
      let is : p ≡ placed (token_of l) p.line = ap (λ t. placed t p.line) (last_token p.token l e) in
      gave_last l e (gave_again p l p.line is ps between after at calls)

calls_gave : (answers : List Placed) (old after : Lexer) → old.progress ≡ progress.Open → Calls old answers after → Gave old answers after
calls_gave [] old after still calls = subst (λ l. Gave old [] l) (sym calls) (gave_nothing old)
calls_gave (p ∷ ps) old after still calls =
    let gives : GivesAt progress.Open old (Ok p) calls.0 = subst (λ q. GivesAt q old (Ok p) calls.0) still calls.1 in
    gave_one p ps old calls.0 after gives.0 (last_of p.token) refl gives.1 calls.2 (λ h. calls_gave ps calls.0 after h calls.2)

-- what is left of bytes that were told
left_of : (x y : Option (List ℕ)) (taken bytes : List ℕ) → x ≡ Some bytes → Consumes x y taken
    → (more : List ℕ) × (bytes ≡ taken ++ more)
left_of None y taken bytes e h = absurd (cc)
left_of (Some xs) None taken bytes e h = absurd h
left_of (Some xs) (Some ys) taken bytes e h = let same : bytes ≡ xs = cc in (ys, same ∙ h)

module _ (end after : Incoming) (taken : List ℕ) (took : Took end taken after) (P : List ℕ → Type 0)
    (any : (more : List ℕ) → CanFollow after more → P (taken ++ more)) where
  of_told : (bytes : List ℕ) → end.left ≡ Some bytes → end.is_over ≡ false → P bytes
  of_told bytes left live = ⊎_elim
      (λ over.
      let all : Consumes (Some bytes) (Some []) taken = subst (λ known. Consumes known (Some []) taken) left (took.all live over) in
      subst P (sym all) (any [] (λ o. refl)))
      (λ still.
      let rest = left_of end.left after.left taken bytes left took.bytes in
      subst P (sym rest.1) (any rest.0 (λ over. absurd (both_ways after.is_over still over))))
      (cases_Bool after.is_over)

pub calls_give_first : CallsGiveFirst
calls_give_first edition end lender answers l calls =
    let g = calls_gave answers (new edition end lender) l refl calls in
    let ahead = l.source.ahead in
    let took : Took end (g.passed ++ ahead) l.source.end = subst (λ t. Took end t l.source.end) g.passes.split g.passes.took in
    let any : (more : List ℕ) → CanFollow l.source.end more → first_tokens (length answers) (tokens_from edition 1 ((g.passed ++ ahead) ++ more)) ≡ answers =
    λ more can. ap (λ b. first_tokens (length answers) (tokens_from edition 1 b)) (append_assoc g.passed ahead more)
    ∙ g.any (ahead ++ more) (record { more = more; split = refl; over = can }) in
    record {
      passed = g.passed;
      took = took;
      spells = g.spells;
      near = g.passes.near (omega arith);
      any = any;
      told = of_told end l.source.end (g.passed ++ ahead) took (λ b. first_tokens (length answers) (tokens_from edition 1 b) ≡ answers) any;
      failures = g.passes.failures;
    }
