-- Scans compose, strings have as many words as their offsets count, and code ends where it is said to.
use Rattle.std.proofs.Common.{◌≡◌, ℕ, ◌+◌, List, [], ◌∷◌, ◌++◌, length, length-append, refl, arith}
use Rattle.std.specs.Prelude.{Result, Ok, Err}
use Rattle.blang.specs.declared.token.Diagnostic.{Diagnostic}
use Rattle.blang.specs.Trees.{Stmt, Stmts}
use Rattle.blang.specs.Scan.{Scope, scan_event, scanned}
use Rattle.blang.specs.Walk.{Event, walk_statement}
use Rattle.blang.specs.Code.{Environment, Segment, empty_segment, ◌▹◌, fragment, body_fragment}
use Rattle.bgrammar.specs.CodeRows.{ScansOn, CountsWords}
use Rattle.bgrammar.proofs.WalkLaws.{length-strings}
use Rattle.bgrammar.proofs.RowLaws.{arms_segment, KeptBySegments, by_segments, body_by_segments}

pub scanned-append : (es fs : List Event) (r : Result Scope Diagnostic) → scanned (es ++ fs) r ≡ scanned fs (scanned es r)
scanned-append [] fs r = refl
scanned-append (e ∷ es) fs (Ok s) = scanned-append es fs (scan_event e s)
scanned-append (e ∷ es) [] (Err d) = refl
scanned-append (e ∷ es) (f ∷ fs) (Err d) = refl

pub scans_on : ScansOn
scans_on es fs s = scanned-append es fs (Ok s)

pub counts_words : CountsWords
counts_words s = length-strings (walk_statement s)

-- code takes the place up to its end, wherever a break leads
pub record Ends (f : Segment) : Type 0 where
  pub at : (p out : ℕ) → p + length ((f p).code out) ≡ (f p).end

pub ends_then : {f g : Segment} → Ends f → Ends g → Ends (f ▹ g)
ends_then {f = f} {g = g} x y = record {
  at = λ p out. let q = (f p).end in omega (arith, length-append ((f p).code out) ((g q).code out), x.at p out, y.at q out);
}

-- a law that asks for nothing
abbrev pub Anything : {A : Type 0} → A → Type 0
Anything x = Unit {0}

pub ends : (names : Environment) → KeptBySegments names names Anything Anything (λ w f g. Ends f)
ends names = record {
  known = λ s. tt;
  none = record { at = λ p out. omega arith };
  lone = λ i. record { at = λ p out. refl };
  returns = record { at = λ p out. refl };
  jumps = λ there m. record { at = λ p out. refl };
  jumps_if_zero = λ there m. record { at = λ p out. refl };
  leaves = record { at = λ p out. refl };
  value = λ e. record { at = λ p out. refl };
  heads = λ h. record { at = λ p out. refl };
  quiet = λ q x. x;
  after = λ q x. x;
  before = λ q x. x;
  inside = λ q x. x;
  then_ = λ x y. ends_then x y;
  coded = λ x y. ends_then x y;
  ended = λ x y. record { at = (ends_then x y).at };
  leads = λ there m x. record { at = λ p out. x.at p there };
  whole = λ {w} {f} x k same. record { at = λ p. (x p ((f 0 0 p).end) tt tt).at p };
  halved = λ {w} {u} {f} {f2} {g} x y k l same. record { at = λ p. let middle = (f 0 0 empty_segment p).end in (x middle ((g middle).end) tt tt u g g y).at p };
  chosen = λ {w} {f} x k same. record {
    at = λ p. let a = f 0 0 empty_segment p in (x a.end ((arms_segment a a.end).end) tt tt (arms_segment a) (arms_segment a) (record { at = λ q out. refl })).at p;
  };
}

pub statement_ends : (names : Environment) (s : Stmt) (p out : ℕ) → p + length ((fragment names s p).code out) ≡ (fragment names s p).end
statement_ends names s = (by_segments (ends names) s).at

pub body_ends : (names : Environment) (body : Stmts) (p out : ℕ) → p + length ((body_fragment names body p).code out) ≡ (body_fragment names body p).end
body_ends names body = (body_by_segments (ends names) body).at
