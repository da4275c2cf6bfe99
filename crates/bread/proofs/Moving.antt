-- How reading goes on: from reader to reader, or to a halt.
use Rattle.std.proofs.Common.{◌≡◌, ℕ, Bool, false, List, ◌∷◌, ◌++◌, Result, Ok, Err, IsErrAnd, refl, sym, ap, ◌∙◌, subst}
use Rattle.bword.specs.declared.edition.Edition.{Edition}
use Rattle.blang.specs.declared.token.Placed.{Placed}
use Rattle.blang.specs.declared.token.Token.{Token}
use Rattle.blang.specs.Trees.{Expr}
use Rattle.blang.specs.Scan.{rest_of}
use Rattle.blex.specs.Lexemes.{token_of_lexeme}
use Rattle.blex.specs.declared.lexeme.Lexeme.{Lexeme}
use Rattle.blex.specs.declared.lexeme.Lexeme.TheVariants as lexeme
use Rattle.bgrammar.specs.Reading.{Read, Reader, Got, Stop, ◌>>=◌, first, line_ahead, after}
use Rattle.bemit.specs.Drafts.{Draft, place_of}
use Rattle.bemit.specs.declared.form.Form.{Form}
use Rattle.bread.specs.declared.halt.Halt.{Halt}
use Rattle.bread.specs.declared.halt.Halt.TheVariants as halt
use Rattle.bemit.specs.Trails.{Lines, Trail, trail, first_line, took, marked, noted, noted_at}
use Rattle.bread.specs.Tokens.{Tokens, tokens_with, tokens_of, is_name, IsLoaded, IsSingle, Runs, TokensFail, Advances, AdvancesTo, PassesOne}
use Rattle.bread.specs.Parsers.{Leads, Halts, Follows, Continues, Passes, Expected}
use Rattle.bread.proofs.TokenSteps.{Moves-append, Moves-as, Moves-breaks, stays_same}

pub first_with : (ahead : List Placed) (edition : Edition) (line : ℕ) (bytes : List ℕ) (p : Placed) (ps : List Placed) → ahead ≡ p ∷ ps → first (tokens_with ahead edition line bytes) ≡ first ahead
first_with ahead edition line bytes p ps e = rw e refl

pub line_with : (ahead : List Placed) (edition : Edition) (line : ℕ) (bytes : List ℕ) (p : Placed) (ps : List Placed) → ahead ≡ p ∷ ps → line_ahead (tokens_with ahead edition line bytes) ≡ line_ahead ahead
line_with ahead edition line bytes p ps e = rw e refl

-- reading goes on where it is
abbrev pub run_here : {A : Type 0} {t : Tokens} {f g : Reader A} → IsLoaded t → ((u : List Placed) → first u ≡ first t.ahead → line_ahead u ≡ line_ahead t.ahead → f u ≡ g u) → Runs t t f g
run_here {A} {t} {f} {g} l k =
    let s = stays_same t l.near in
    record {
      taken = s.taken;
      reads = s.reads;
      looked = s.looked;
      failures = s.failures;
      falls = s.falls;
      come = λ more c.
          subst (λ u. f u ≡ g (tokens_of t more)) (sym (s.come more c))
          (k (tokens_of t more) (first_with t.ahead t.source.edition t.source.line (t.source.ahead ++ more) l.current l.following l.ahead) (line_with t.ahead t.source.edition t.source.line (t.source.ahead ++ more) l.current l.following l.ahead));
      passed = s.passed;
      spans = s.spans;
    }

-- reading goes on after the current token
abbrev pub run_past : {A : Type 0} {n : Lines} {a b : Tokens} {f g : Reader A} → AdvancesTo n a b → ((u : List Placed) → first u ≡ first a.ahead → line_ahead u ≡ line_ahead a.ahead → f u ≡ g (after u)) → Runs a b f g
run_past {A} {n} {a} {b} {f} {g} h k = Moves-as (λ u v. f u ≡ g v) (λ u v m. k u m.token m.line ∙ ap g (sym m.rest)) h.moves

-- readers that agree everywhere
abbrev pub run_as : {A : Type 0} {a b : Tokens} {f g h : Reader A} → ((u : List Placed) → f u ≡ g u) → Runs a b g h → Runs a b f h
run_as {A} {a} {b} {f} {g} {h} agree m = Moves-as (λ u v. f u ≡ h v) (λ u v e. agree u ∙ e) m

abbrev pub run_then : {A : Type 0} {a b c : Tokens} {f g h : Reader A} → Runs a b f g → Runs b c g h → Runs a c f h
run_then {A} {a} {b} {c} {f} {g} {h} m n = Moves-append (λ u w. f u ≡ h w) (λ u v w p q. p ∙ q) m n

abbrev pub run_bind : {A B : Type 0} {a b : Tokens} {f g : Reader A} (k : A → Reader B) → Runs a b f g → Runs a b (λ u. f u >>= k) (λ v. g v >>= k)
run_bind {A} {B} {a} {b} {f} {g} k m = Moves-as (λ u v. (f u >>= k) ≡ (g v >>= k)) (λ u v e. ap (λ x. x >>= k) e) m

-- a halt after what was read
pub halt_after : {A B : Type 0} {a b : Tokens} {f : Reader B} (g : Reader A) (k : A → Reader B) (why : Halt) (c : Tokens) → Runs a b f (λ v. g v >>= k) → Halts g b why c → Halts f a why c
halt_after g k halt.Fault c m h = (run_then m (run_bind k h.0), h.1)
halt_after g k halt.Device c m h = Moves-breaks m h

pub halt_as : {A : Type 0} (a : Tokens) {f g : Reader A} (why : Halt) (c : Tokens) → ((u : List Placed) → f u ≡ g u) → Halts g a why c → Halts f a why c
halt_as a halt.Fault c agree h = (run_as agree h.0, h.1)
halt_as a halt.Device c agree h = h

pub halt_then : {A : Type 0} {a b : Tokens} {f g : Reader A} (why : Halt) (c : Tokens) → Runs a b f g → Halts g b why c → Halts f a why c
halt_then halt.Fault c m h = (run_then m h.0, h.1)
halt_then halt.Device c m h = Moves-breaks m h

-- no other token is ahead where the current one is no name
pub single_here : {t : Tokens} → IsLoaded t → is_name (first t.ahead) ≡ false → IsSingle t
single_here {t} l h = (l, ap after l.ahead ∙ l.alone (sym (ap (λ ps. is_name (first ps)) l.ahead) ∙ h))

pub not_named : (l : Lexeme) (text : List ℕ) {t : Token} → token_of_lexeme l text ≡ t → ((x : List ℕ) → l ≡ lexeme.Name x → ⊥) → is_name t ≡ false
not_named l text e h = sym (ap is_name e) ∙ plain l text h
  where
    plain : (l : Lexeme) (text : List ℕ) → ((x : List ℕ) → l ≡ lexeme.Name x → ⊥) → is_name (token_of_lexeme l text) ≡ false
    plain (lexeme.Name x) text h = absurd (h x refl)
    plain _ text h = refl

-- a halt at the current token
pub halt_here : {A : Type 0} {t : Tokens} {f : Reader A} → IsSingle t → ((u : List Placed) → first u ≡ first t.ahead → line_ahead u ≡ line_ahead t.ahead → f u ≡ Stop u) → Halts f t halt.Fault t
halt_here l k = (run_here l.0 k, l)

pub halt_device : {A : Type 0} {a b : Tokens} (f : Reader A) (why : Halt) → why ≡ halt.Device → TokensFail a b → Halts f a why b
halt_device {A} {a} {b} f why e h = subst (λ w. Halts f a w b) (sym e) h

-- the exits of a `?`
pub follows_err : (reader : ℕ → Reader Expr) (called : Bool) (old new : Tokens) (before draft : Draft) (r : Result Form Halt) (why : Halt) → IsErrAnd r (λ y. y ≡ why) → ((offset : ℕ) → Halts (reader offset) old why new) → Follows reader called old before r new draft
follows_err reader called old new before draft (Ok x) why h k = absurd h
follows_err reader called old new before draft (Err s) why h k = λ o. subst (λ w. Halts (reader o) old w new) (sym h) (k o)

pub continues_err : (reader : ℕ → Expr → Reader Expr) (was called : Bool) (given : Form) (old new : Tokens) (before draft : Draft) (r : Result Form Halt) (why : Halt) → IsErrAnd r (λ y. y ≡ why) → ((offset : ℕ) (e : Expr) → Halts (reader offset e) old why new) → Continues reader was given called old before r new draft
continues_err reader was called given old new before draft (Ok x) why h k = absurd h
continues_err reader was called given old new before draft (Err s) why h k = λ o e. subst (λ w. Halts (reader o e) old w new) (sym h) (k o e)

pub passes_err : (reader : ℕ → Expr → Reader Expr) (old new : Tokens) (before draft : Draft) (r : Result ℕ Halt) (why : Halt) → IsErrAnd r (λ y. y ≡ why) → ((offset : ℕ) (e : Expr) → Halts (reader offset e) old why new) → Passes reader old before r new draft
passes_err reader old new before draft (Ok x) why h k = absurd h
passes_err reader old new before draft (Err s) why h k = λ o e. subst (λ w. Halts (reader o e) old w new) (sym h) (k o e)

-- a halt of the first reader of two
pub halt_bind : {A B : Type 0} (a : Tokens) (f : Reader A) (k : A → Reader B) (why : Halt) (c : Tokens) → Halts f a why c → Halts (λ u. f u >>= k) a why c
halt_bind a f k halt.Fault c h = (run_bind k h.0, h.1)
halt_bind a f k halt.Device c h = h

pub bind_twice : {A B C : Type 0} (x : Read A) (f : A → Reader B) (g : B → Reader C) → ((x >>= f) >>= g) ≡ (x >>= λ a r. f a r >>= g)
bind_twice (Got a r) f g = refl
bind_twice (Stop r) f g = refl

-- where a trail led up to here, it goes on
pub notes : (a b : Tokens) {step : Trail → Trail} {passed : List ℕ → List ℕ} → Leads (λ t. t) step a passed b → (ls : List ℕ) → step (trail (passed ls) a.noted) ≡ trail ls b.noted
notes a b {passed = passed} h ls = h (trail (passed ls) a.noted) ls refl

pub one_past : (a : Tokens) {passed : List ℕ → List ℕ} (n : Lines) → PassesOne a passed → (ls : List ℕ) → took (trail (passed ls) n) ≡ trail ls n
one_past a n h ls = ap (λ k. trail (rest_of k) n) (h ls)

-- the trail past a token
pub past : {a b : Tokens} (h : Advances a b) (ls : List ℕ) → took (trail (h.moves.passed ls) a.noted) ≡ trail ls b.noted
past {a} {b} h ls = one_past a a.noted h.one ls ∙ ap (trail ls) (sym h.noted_is)

pub past_expected : {is : Token → Bool} {a b : Tokens} (h : Expected is a b) (ls : List ℕ) → took (trail (h.runs.passed ls) a.noted) ≡ trail ls b.noted
past_expected {a = a} h ls = one_past a a.noted h.one ls ∙ ap (trail ls) (sym h.noted_is)

pub noted_past : (a b : Tokens) {passed : List ℕ → List ℕ} (place : ℕ) (d : Draft) → place ≡ place_of d → PassesOne a passed → b.noted ≡ noted_at place (line_ahead a.ahead) a.noted → (ls : List ℕ) → took (noted d (trail (passed ls) a.noted)) ≡ trail ls b.noted
noted_past a b place d e one n ls =
    ap (λ k. took (noted d (trail k a.noted))) (one ls) ∙ ap (λ p. trail ls (noted_at p (line_ahead a.ahead) a.noted)) (sym e) ∙ ap (trail ls) (sym n)

-- what is noted again when all of it was read
pub again_marked : (u : Trail) (ls : List ℕ) (place line : ℕ) (d : Draft) → place ≡ place_of d → (n : Lines) {v : Trail} → first_line u.coming ≡ line → v ≡ trail ls n → marked (first_line u.coming) d v ≡ trail ls (noted_at place line n)
again_marked u ls place line d at n e q = ap (marked (first_line u.coming) d) q ∙ ap (λ l. trail ls (noted_at (place_of d) l n)) e ∙ ap (λ p. trail ls (noted_at p line n)) (sym at)
