-- One loop over the operators of all ranks reads as the grammar's levels do, one of which is read in the other.
use Rattle.std.proofs.Common.{◌≡◌, ℕ, zero, suc, ◌+◌, ◌≤◌, ◌<◌, List, [], ◌∷◌, length, Bool, true, false, Option, Some, None, refl, sym, ap, ◌∙◌, subst, arith}
use Rattle.std.specs.Prelude.{nat_eq, nat_le, if◌then◌else◌}
use Rattle.std.proofs.lemmas.Bool.{eqb-true, eqb-false, eq-eqb, leb-true, leb-false}
use Rattle.bgrammar.proofs.ExpressionAgain.{no_rank_zero}
use Rattle.bword.specs.declared.operators.BinOp.{BinOp}
use Rattle.blang.specs.declared.token.Token.{Token}
use Rattle.blang.specs.declared.token.Token.TheVariants as token
use Rattle.blang.specs.declared.token.Placed.{Placed}
use Rattle.blang.specs.Trees.{Expr, Binary}
use Rattle.blang.specs.WellFormed.{rank}
use Rattle.bgrammar.specs.Fitting.{words}
use Rattle.bgrammar.specs.Reading.{Read, Reader, Got, Stop, ◌>>=◌, first, line_ahead, after, turns, many}
use Rattle.bgrammar.specs.ExpressionReader.{always, op_at, having_rank, operand, operation, chain, inner}
use Rattle.bgrammar.proofs.Fine.{Loop, many_none, many_some}
use Rattle.bgrammar.proofs.ExpressionFine.{closing, has_room, op_loop}
use Rattle.bread.specs.Parsers.{op_within}
use Rattle.bread.proofs.Moving.{bind_twice}

-- the operators of one rank after an expression
abbrev level : ℕ → ℕ → ℕ → Expr → Reader Expr
level room r off e ts = many (always (op_at (suc r))) (operation (chain (inner room) r) off) e ts

-- the operators of each rank up to this one after an operand, the tightest first
abbrev pub climb : ℕ → ℕ → ℕ → Expr → Reader Expr
climb room zero off e ts = Got e ts
climb room (suc r) off e ts = climb room r off e ts >>= level room r off

-- No operator of these ranks comes next.
abbrev Past : ℕ → List Placed → Type 0
Past r ts = (i : ℕ) → i ≤ r → op_at i (first ts) ≡ None

-- operators by their ranks
having_other : (i : ℕ) (p : BinOp) → (rank p ≡ i → ⊥) → having_rank i p ≡ None
having_other i p other = go (nat_eq (rank p) i) refl
  where
    go : (v : Bool) → nat_eq (rank p) i ≡ v → having_rank i p ≡ None
    go true e = absurd (other (eqb-true (rank p) i e))
    go false e = rw e refl

pub within_some : (r : ℕ) (t : Token) (p : BinOp) → op_within r t ≡ Some p → (t ≡ token.Operator p) × (rank p ≤ r)
within_some r (token.Operator q) p h = go (nat_le (rank q) r) refl
  where
    go : (v : Bool) → nat_le (rank q) r ≡ v → (token.Operator q ≡ token.Operator p) × (rank p ≤ r)
    go true e =
        let h2 = rw e at h in
        let same : q ≡ p = cc in
        (ap (λ x. token.Operator x) same, subst (λ x. rank x ≤ r) same (leb-true (rank q) r e))
    go false e = let h2 = rw e at h in cc
within_some r t p h = cc

pub within_none : (r : ℕ) (t : Token) → op_within r t ≡ None → (i : ℕ) → i ≤ r → op_at i t ≡ None
within_none r (token.Operator q) h i le = go (nat_le (rank q) r) refl
  where
    go : (v : Bool) → nat_le (rank q) r ≡ v → op_at i (token.Operator q) ≡ None
    go true e = let h2 = rw e at h in cc
    go false e = let more : r < rank q = leb-false (rank q) r e in having_other i q (λ same. absurd (omega arith))
within_none r _ h i le = refl

op_here : (j : ℕ) (t : Token) (p : BinOp) → t ≡ token.Operator p → rank p ≡ suc j → op_at (suc j) t ≡ Some p
op_here j t p is h = ap (op_at (suc j)) is ∙ ap (λ b. if b then Some p else None) (eq-eqb (rank p) (suc j) h)

op_past : (j : ℕ) (ts : List Placed) (p : BinOp) → first ts ≡ token.Operator p → rank p ≡ suc j → Past j ts
op_past j ts p is h i le = ap (op_at i) is ∙ having_other i p (λ same. absurd (omega arith))

past_zero : (ts : List Placed) → Past 0 ts
past_zero ts zero le = no_rank_zero (first ts)
past_zero ts (suc i) le = absurd (omega arith)

past_suc : (r : ℕ) (ts : List Placed) → Past r ts → op_at (suc r) (first ts) ≡ None → Past (suc r) ts
past_suc r ts past none i le = go (nat_eq i (suc r)) refl
  where
    go : (v : Bool) → nat_eq i (suc r) ≡ v → op_at i (first ts) ≡ None
    go true e = let same : i ≡ suc r = eqb-true i (suc r) e in subst (λ k. op_at k (first ts) ≡ None) (sym same) none
    go false e = past i (omega (arith, eqb-false i (suc r) e))

module _ (room : ℕ) where
  loop_at : (r off : ℕ) → Loop closing (always (op_at (suc r))) (operation (chain (inner room) r) off)
  loop_at r off = op_loop (inner room) (has_room room) r off

  -- the levels of the grammar, one after the other
  pub chain_climbs : (r off : ℕ) (ts : List Placed) → chain (inner room) r off ts ≡ (operand (inner room) off ts >>= climb room r off)
  chain_climbs zero off ts = unit (operand (inner room) off ts)
    where
      unit : (x : Read Expr) → x ≡ (x >>= climb room zero off)
      unit (Got a rest) = refl
      unit (Stop rest) = refl
  chain_climbs (suc r) off ts =
      ap (λ x. x >>= level room r off) (chain_climbs r off ts)
      ∙ bind_twice (operand (inner room) off ts) (climb room r off) (level room r off)

  -- no operator is left after that the reader takes
  level_past : (r off : ℕ) → ((off : ℕ) (u : List Placed) (e : Expr) (rest : List Placed) → chain (inner room) r off u ≡ Got e rest → Past r rest) → (n : ℕ) (a : Expr) (ts : List Placed) (e : Expr) (rest : List Placed) → length ts ≤ n → Past r ts → turns (always (op_at (suc r))) (operation (chain (inner room) r) off) n a ts ≡ Got e rest → Past (suc r) rest
  level_past r off tighter zero a [] e rest le past h = let same : [] ≡ rest = cc in subst (Past (suc r)) same (λ i le. refl)
  level_past r off tighter zero a (t ∷ ts) e rest le past h = absurd (omega arith)
  level_past r off tighter (suc n) a ts e rest le past h = go (op_at (suc r) (first ts)) refl (λ a2 r2 le2 past2 h2. level_past r off tighter n a2 r2 e rest le2 past2 h2)
    where
      step : (p : BinOp) → op_at (suc r) (first ts) ≡ Some p → ((a2 : Expr) (r2 : List Placed) → length r2 ≤ n → Past r r2 → turns (always (op_at (suc r))) (operation (chain (inner room) r) off) n a2 r2 ≡ Got e rest → Past (suc r) rest)
          → (x : Read Expr) → chain (inner room) r (off + words a) (after ts) ≡ x → ((x >>= λ f. Got (Binary p (line_ahead ts) a f)) >>= turns (always (op_at (suc r))) (operation (chain (inner room) r) off) n) ≡ Got e rest → Past (suc r) rest
      step p is ih (Got f r2) eq h2 =
          let lt : length r2 < length ts = (loop_at r off).takes p a (Binary p (line_ahead ts) a f) ts r2 is (ap (λ x. x >>= λ f. Got (Binary p (line_ahead ts) a f)) eq) in
          ih (Binary p (line_ahead ts) a f) r2 (omega arith) (tighter (off + words a) (after ts) f r2 eq) h2
      step p is ih (Stop r2) eq h2 = cc

      go : (o : Option BinOp) → op_at (suc r) (first ts) ≡ o → ((a2 : Expr) (r2 : List Placed) → length r2 ≤ n → Past r r2 → turns (always (op_at (suc r))) (operation (chain (inner room) r) off) n a2 r2 ≡ Got e rest → Past (suc r) rest) → Past (suc r) rest
      go None is ih = let h2 = rw is at h in let same : ts ≡ rest = cc in subst (Past (suc r)) same (past_suc r ts past is)
      go (Some p) is ih = step p is ih (chain (inner room) r (off + words a) (after ts)) refl (rw is at h)

  pub chain_past : (r off : ℕ) (ts : List Placed) (e : Expr) (rest : List Placed) → chain (inner room) r off ts ≡ Got e rest → Past r rest
  chain_past zero off ts e rest h = past_zero rest
  chain_past (suc r) off ts e rest h = go (chain_past r) (chain (inner room) r off ts) refl h
    where
      go : ((off : ℕ) (u : List Placed) (e : Expr) (rest : List Placed) → chain (inner room) r off u ≡ Got e rest → Past r rest) → (x : Read Expr) → chain (inner room) r off ts ≡ x → (x >>= level room r off) ≡ Got e rest → Past (suc r) rest
      go tighter (Got a r2) eq h2 = level_past r off tighter (length r2) a r2 e rest (omega arith) (tighter off ts a r2 eq) h2
      go tighter (Stop r2) eq h2 = cc

  -- the loop ends
  pub climb_none : (r off : ℕ) (e : Expr) (ts : List Placed) → Past r ts → climb room r off e ts ≡ Got e ts
  climb_none zero off e ts past = refl
  climb_none (suc r) off e ts past =
      ap (λ x. x >>= level room r off) (climb_none r off e ts (λ i le. past i (omega arith)))
      ∙ many_none (always (op_at (suc r))) (operation (chain (inner room) r) off) e ts (past (suc r) (omega arith))

  -- What reads an operator, and what stands after it that binds tighter, and goes on.
  abbrev operated : ℕ → ℕ → BinOp → ℕ → Expr → (Expr → Reader Expr) → List Placed → Read Expr
  operated j off p line e more ts = chain (inner room) j (off + words e) ts >>= λ f. more (Binary p line e f)

  climb_here : (j off : ℕ) (p : BinOp) (e : Expr) (ts : List Placed) → first ts ≡ token.Operator p → rank p ≡ suc j → climb room (suc j) off e ts ≡ operated j off p (line_ahead ts) e (climb room (suc j) off) (after ts)
  climb_here j off p e ts is h =
      ap (λ x. x >>= level room j off) (climb_none j off e ts (op_past j ts p is h))
      ∙ many_some closing (always (op_at (suc j))) (operation (chain (inner room) j) off) (loop_at j off) p e ts (op_here j (first ts) p is h)
      ∙ bind_twice (chain (inner room) j (off + words e) (after ts)) (λ f. Got (Binary p (line_ahead ts) e f)) (level room j off)
      ∙ following (chain (inner room) j (off + words e) (after ts)) refl
    where
      following : (x : Read Expr) → chain (inner room) j (off + words e) (after ts) ≡ x → (x >>= λ f. level room j off (Binary p (line_ahead ts) e f)) ≡ (x >>= λ f. climb room (suc j) off (Binary p (line_ahead ts) e f))
      following (Got f rest) eq = sym (ap (λ x. x >>= level room j off) (climb_none j off (Binary p (line_ahead ts) e f) rest (chain_past j (off + words e) (after ts) f rest eq)))
      following (Stop rest) eq = refl

  -- the loop takes an operator
  pub climb_some : (r j off : ℕ) (p : BinOp) (e : Expr) (ts : List Placed) → first ts ≡ token.Operator p → rank p ≡ suc j → suc j ≤ r → climb room r off e ts ≡ operated j off p (line_ahead ts) e (climb room r off) (after ts)
  climb_some zero j off p e ts is h le = absurd (omega arith)
  climb_some (suc r) j off p e ts is h le = go (λ lt. climb_some r j off p e ts is h lt) (nat_eq j r) refl
    where
      go : (suc j ≤ r → climb room r off e ts ≡ operated j off p (line_ahead ts) e (climb room r off) (after ts)) → (v : Bool) → nat_eq j r ≡ v → climb room (suc r) off e ts ≡ operated j off p (line_ahead ts) e (climb room (suc r) off) (after ts)
      go below true s = let same : j ≡ r = eqb-true j r s in subst (λ k. climb room (suc k) off e ts ≡ operated j off p (line_ahead ts) e (climb room (suc k) off) (after ts)) same (climb_here j off p e ts is h)
      go below false s =
          ap (λ x. x >>= level room r off) (below (omega (arith, eqb-false j r s)))
          ∙ bind_twice (chain (inner room) j (off + words e) (after ts)) (λ f. climb room r off (Binary p (line_ahead ts) e f)) (level room r off)
