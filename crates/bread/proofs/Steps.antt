-- How readings go on from call to call.
use Rattle.std.proofs.Common.{◌≡◌, ℕ, ◌<◌, List, ◌++◌, Result, Ok, Err, IsErrAnd, refl, sym, subst}
use Rattle.blang.specs.declared.token.Placed.{Placed}
use Rattle.bgrammar.specs.Reading.{Reader, Got, ◌>>=◌, first, line_ahead}
use Rattle.bemit.specs.Drafts.{Draft}
use Rattle.bread.specs.Tokens.{Tokens, with_noted, tokens_of, IsLoaded, IsSingle, Moves, Runs, TokensFail, work}
use Rattle.bread.specs.declared.halt.Halt.{Halt}
use Rattle.bread.specs.declared.halt.Halt.TheVariants as halt
use Rattle.bread.specs.Parsers.{Halts}
use Rattle.bemit.specs.Trails.{Trail, Lines}
use Rattle.bread.specs.Compiling.{PartTaken, CompilesPart, CompilesAfter}
use Rattle.bread.proofs.TokenSteps.{Moves-breaks, stays_same, noted_loaded}
use Rattle.bread.proofs.Moving.{first_with, line_with, run_then, run_bind}

module _ {A B : Type 0} where
  -- reading goes on after what was read
  abbrev pub began : {a b : Tokens} {p : Reader B} {x : B} (f : B → Reader A) → Runs a b p (λ v. Got x v) → Runs a b (λ u. p u >>= f) (f x)
  began f h = run_bind f h

  abbrev pub went : {a b c : Tokens} {whole : Reader A} {p : Reader B} {x : B} (f : B → Reader A) → Runs a b whole (λ v. p v >>= f) → Runs b c p (λ v. Got x v) → Runs a c whole (f x)
  went f h k = run_then h (run_bind f k)

  -- reading halts after what was read
  pub halts_first : (a b : Tokens) (p : Reader B) (f : B → Reader A) (why : Halt) → Halts p a why b → Halts (λ u. p u >>= f) a why b
  halts_first a b p f halt.Fault h = (run_bind f h.0, h.1)
  halts_first a b p f halt.Device h = h

  pub halts_then : (a b c : Tokens) (whole : Reader A) (p : Reader B) (f : B → Reader A) (why : Halt) → Runs a b whole (λ v. p v >>= f) → Halts p b why c → Halts whole a why c
  halts_then a b c whole p f halt.Fault m h = (run_then m (run_bind f h.0), h.1)
  halts_then a b c whole p f halt.Device m h = Moves-breaks m h

module _ {A : Type 0} where
  pub halts_after : (a b c : Tokens) (whole rest : Reader A) (why : Halt) → Runs a b whole rest → Halts rest b why c → Halts whole a why c
  halts_after a b c whole rest halt.Fault m h = (run_then m h.0, h.1)
  halts_after a b c whole rest halt.Device m h = Moves-breaks m h

  -- a read failed
  pub device : (a b : Tokens) (whole : Reader A) (why : Halt) → why ≡ halt.Device → TokensFail a b → Halts whole a why b
  device a b whole why e h = subst (λ w. Halts whole a w b) (sym e) h

-- nothing was taken
abbrev pub run_seen : {t : Tokens} {P : List Placed → List Placed → Type 0} → IsLoaded t → ((u : List Placed) (more : List ℕ) → u ≡ tokens_of t more → first u ≡ first t.ahead → line_ahead u ≡ line_ahead t.ahead → P u u) → Moves t t P
run_seen {t} {P} l f =
    let s = stays_same t l.near in
    record {
      taken = s.taken;
      reads = s.reads;
      looked = s.looked;
      failures = s.failures;
      falls = s.falls;
      come = λ more c. subst (λ u. P u (tokens_of t more)) (sym (s.come more c)) (f (tokens_of t more) more refl (first_with t.ahead t.source.edition t.source.line (t.source.ahead ++ more) l.current l.following l.ahead) (line_with t.ahead t.source.edition t.source.line (t.source.ahead ++ more) l.current l.following l.ahead));
      passed = s.passed;
      spans = s.spans;
    }

-- the exits of a `?`
pub compiles_err : {I A : Type 0} (lead : Draft → Trail → Trail) (reader : I → Reader A) (effect : A → Draft → Draft) (step : A → Draft → Trail → Trail) (old : Tokens) (start : Draft) (r : Result (Unit {0}) Halt) (new : Tokens) (draft : Draft) (why : Halt) → IsErrAnd r (λ y. y ≡ why) → ((i : I) → Halts (reader i) old why new) → CompilesAfter lead reader effect step old start r new draft
compiles_err lead reader effect step old start (Ok u) new draft why e h = absurd e
compiles_err lead reader effect step old start (Err s) new draft why e h = λ i. subst (λ x. Halts (reader i) old x new) (sym e) (h i)

-- a part after which a line is noted
pub noted_part : {I A : Type 0} {reader : I → Reader A} {effect : A → Draft → Draft} {step : A → Draft → Trail → Trail} {old new : Tokens} {start draft : Draft} (noted : Lines) (m : Tokens) → m ≡ with_noted noted new → ((i : I) → PartTaken (reader i) effect step start old (with_noted noted new) draft) → IsSingle new → work new < work old → CompilesPart reader effect step old start (Ok tt) m draft
noted_part {I} {A} {reader} {effect} {step} {old} {new} {start} {draft} noted m e t l f = subst (λ x. CompilesPart reader effect step old start (Ok tt) x draft) (sym e) (t, (noted_loaded noted l.0, l.1), f)
