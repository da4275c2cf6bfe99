-- One token after an operand.
use Rattle.std.specs.Prelude.{unwrap_or}
use Rattle.std.specs.List.{slice_get}
use Rattle.std.proofs.Common.{drop, zero, ◌≡◌, ◌∙◌, ap, append_assoc, arith, List, [], ◌∷◌, ◌++◌, ℕ, ◌<◌, ◌≤◌, suc, refl, sym, MatchOption, Option, Some, None}
use Rattle.std.proofs.lemmas.Bool.{le-ltb, lt-ltb}
use Rattle.bword.specs.declared.operators.BinOp.{BinOp}
use Rattle.bword.specs.declared.operators.BinOp.TheVariants as op
use Rattle.blang.specs.Trees.{PrefixOp, Negate, Not, Indirection, Address, PreIncrement, PreDecrement, prefix_token}
use Rattle.blang.specs.WellFormed.{or_rank, rank}
use Rattle.blang.specs.Walk.{Walk, Said, TextHere, Level, ◌▸◌}
use Rattle.blex.specs.declared.lexeme.Lexeme.{Lexeme}
use Rattle.blex.specs.declared.lexeme.Lexeme.TheVariants as lexeme
use Rattle.blex.specs.Lexemes.{lexeme_of}
use Rattle.btree.specs.declared.nodes.Node.{Node}
use Rattle.btree.specs.declared.nodes.NodeTag.{NodeTag}
use Rattle.btree.specs.declared.nodes.NodeTag.TheVariants as tag
use Rattle.btree.specs.declared.nodes.Pending.{Pending}
use Rattle.btree.specs.declared.nodes.Pending.TheVariants as pending
use Rattle.btree.specs.declared.nodes.Stage.TheVariants as stage
use Rattle.btree.specs.Nodes.{prefix_node}
use Rattle.btree.specs.NodeMachine.{NodeTurn, after_made, ahead, bound, innermost, joining, left_before, looseness, node_run, operated, over_before}
use Rattle.btree.specs.NodeReading.{MadeBefore, Stands, TookNodes}
use Rattle.btree.specs.declared.node_reading.NodeReader.{NodeReader}

-- the tokens of a walk
abbrev pub lexemes : Walk → List Lexeme
lexemes (Said p) = lexeme_of p.token ∷ []
lexemes (TextHere t) = lexeme.String ∷ []
lexemes (Level opening inside after) = lexeme_of opening.token ∷ lexemes inside
lexemes (v ▸ w) = lexemes v ++ lexemes w
lexemes _ = []

-- tags one after another
pub onward : (a b r : List NodeTag) {x y : List NodeTag} → x ≡ a ++ y → y ≡ b ++ r → x ≡ (a ++ b) ++ r
onward a b r {x} {y} f g = f ∙ ap (λ k. a ++ k) g ∙ sym (append_assoc a b r)

-- no operator is over before this token
stands : (waiting : List Pending) (l : Lexeme) → Stands (bound l) waiting → operated waiting l ≡ joining waiting l
stands (pending.Operator n ∷ waiting) l h = rw (le-ltb (looseness n) (bound l) h) refl
stands _ l h = refl

pub joins : (waiting : List Pending) (l : Lexeme) (ls : List Lexeme) → Stands (bound l) waiting
    → node_run stage.Operated waiting (l ∷ ls)
    ≡ (joining waiting l).tags ++ node_run (joining waiting l).stage (joining waiting l).waiting ls
joins waiting l ls h = ap (λ (t : NodeTurn). t.tags ++ node_run t.stage t.waiting ls) (stands waiting l h)

pub zero_stands : (waiting : List Pending) → Stands 0 waiting
zero_stands (pending.Operator n ∷ waiting) = omega arith
zero_stands _ = tt

-- a token comes before which operators that bind so loose are over
abbrev pub IsOver : ℕ → List Lexeme → Type 0
IsOver loose [] = ⊥
IsOver loose (l ∷ ls) = loose < bound l

pub tighter : (a b : ℕ) → a ≤ b → (ls : List Lexeme) → IsOver b ls → IsOver a ls
tighter a b h [] over = over
tighter a b h (l ∷ ls) over = omega (arith, h, over)

operator_over : (n : Node) (waiting : List Pending) (l : Lexeme) → looseness n < bound l
    → operated (pending.Operator n ∷ waiting) l ≡ after_made n (operated waiting l)
operator_over n waiting l h = rw (lt-ltb (looseness n) (bound l) h) refl

pub made_over : (n : Node) (waiting : List Pending) (ls : List Lexeme) → IsOver (looseness n) ls
    → node_run stage.Operated (pending.Operator n ∷ waiting) ls ≡ tag.Made n ∷ node_run stage.Operated waiting ls
made_over n waiting [] h = absurd h
made_over n waiting (l ∷ ls) h = ap (λ (t : NodeTurn). t.tags ++ node_run t.stage t.waiting ls) (operator_over n waiting l h)

-- Operators that bind no looser than this leave what waits.
abbrev pub Holds : ℕ → List Pending → Type 0
Holds loose waiting = (b : ℕ) → b ≤ suc loose → b ≤ suc or_rank → (loose ≡ 0 → b ≡ 0) → Stands b waiting

pub rank_least : (op : BinOp) → 1 ≤ rank op
rank_least op.Or = omega arith
rank_least op.And = omega arith
rank_least op.Eq = omega arith
rank_least op.Ne = omega arith
rank_least op.Lt = omega arith
rank_least op.Le = omega arith
rank_least op.Gt = omega arith
rank_least op.Ge = omega arith
rank_least op.Shl = omega arith
rank_least op.Shr = omega arith
rank_least op.Sub = omega arith
rank_least op.Add = omega arith
rank_least op.Rem = omega arith
rank_least op.Mul = omega arith
rank_least op.Div = omega arith

pub rank_most : (op : BinOp) → rank op ≤ or_rank
rank_most op.Or = omega arith
rank_most op.And = omega arith
rank_most op.Eq = omega arith
rank_most op.Ne = omega arith
rank_most op.Lt = omega arith
rank_most op.Le = omega arith
rank_most op.Gt = omega arith
rank_most op.Ge = omega arith
rank_most op.Shl = omega arith
rank_most op.Shr = omega arith
rank_most op.Sub = omega arith
rank_most op.Add = omega arith
rank_most op.Rem = omega arith
rank_most op.Mul = omega arith
rank_most op.Div = omega arith

pub prefix_step : (op : PrefixOp) (waiting : List Pending) (ls : List Lexeme)
    → node_run stage.Operand waiting (lexeme_of (prefix_token op) ∷ ls)
    ≡ tag.Token ∷ node_run stage.Operand (pending.Operator (prefix_node op) ∷ waiting) ls
prefix_step Negate waiting ls = refl
prefix_step Not waiting ls = refl
prefix_step Indirection waiting ls = refl
prefix_step Address waiting ls = refl
prefix_step PreIncrement waiting ls = refl
prefix_step PreDecrement waiting ls = refl

pub prefix_loose : (op : PrefixOp) → looseness (prefix_node op) ≡ 0
prefix_loose Negate = refl
prefix_loose Not = refl
prefix_loose Indirection = refl
prefix_loose Address = refl
prefix_loose PreIncrement = refl
prefix_loose PreDecrement = refl

pub popped : (old new : List Pending) (n : Node) (r : Option Pending) → innermost old ≡ Some (pending.Operator n)
    → MatchOption r ((old ≡ []) × (new ≡ [])) (λ p. old ≡ p ∷ new) → old ≡ pending.Operator n ∷ new
popped [] new n r e h = cc
popped (p ∷ old) new n None e h = let z : p ∷ old ≡ [] = h.0 in cc
popped (p ∷ old) new n (Some q) e h = cc

-- one operator after another is over
over_one : (b : ℕ) (n : Node) (waiting : List Pending) → looseness n < b
    → (over_before b (pending.Operator n ∷ waiting) ≡ tag.Made n ∷ over_before b waiting)
    × (left_before b (pending.Operator n ∷ waiting) ≡ left_before b waiting)
over_one b n waiting h = (rw (lt-ltb (looseness n) b h) refl, rw (lt-ltb (looseness n) b h) refl)

module _ (b : ℕ) (old now new : NodeReader) (n : Node) (is : now.waiting ≡ pending.Operator n ∷ new.waiting) (h : looseness n < b) where
  pub over_on : new.tags.items ≡ now.tags.items ++ tag.Made n ∷ []
      → old.tags.items ++ over_before b old.waiting ≡ now.tags.items ++ over_before b now.waiting
      → old.tags.items ++ over_before b old.waiting ≡ new.tags.items ++ over_before b new.waiting
  over_on made kept =
      kept ∙ ap (λ k. now.tags.items ++ k) (ap (over_before b) is ∙ (over_one b n new.waiting h).0)
      ∙ sym (append_assoc now.tags.items (tag.Made n ∷ []) (over_before b new.waiting))
      ∙ ap (λ k. k ++ over_before b new.waiting) (sym made)

  pub left_on : left_before b old.waiting ≡ left_before b now.waiting → left_before b old.waiting ≡ left_before b new.waiting
  left_on kept = kept ∙ ap (left_before b) is ∙ (over_one b n new.waiting h).1

-- no operator is over
pub none_over : (b : ℕ) (waiting : List Pending) → Stands b waiting → (over_before b waiting ≡ []) × (left_before b waiting ≡ waiting)
none_over b [] h = (refl, refl)
none_over b (pending.Operator n ∷ waiting) h = (rw (le-ltb (looseness n) b h) refl, rw (le-ltb (looseness n) b h) refl)
none_over b (_ ∷ waiting) h = (refl, refl)

-- what was settled, and then the token
pub operated_read : (old now new : NodeReader) (l : Lexeme) → MadeBefore (bound l) old now → TookNodes now (joining now.waiting l) new
    → TookNodes old (operated old.waiting l) new
operated_read old now new l m r =
    let t = ap (λ k. joining k l) m.waiting in
    record {
      tags = r.tags ∙ ap (λ k. k ++ (joining now.waiting l).tags) m.tags
          ∙ append_assoc old.tags.items (over_before (bound l) old.waiting) (joining now.waiting l).tags
          ∙ ap (λ (k : NodeTurn). old.tags.items ++ (over_before (bound l) old.waiting ++ k.tags)) t;
      stage = r.stage ∙ ap (λ (k : NodeTurn). k.stage) t;
      waiting = r.waiting ∙ ap (λ (k : NodeTurn). k.waiting) t;
    }

pub next_is : (ls : List Lexeme) (i : ℕ) → unwrap_or (slice_get ls i) lexeme.End ≡ ahead (drop i ls)
next_is [] zero = refl
next_is [] (suc i) = refl
next_is (l ∷ ls) zero = refl
next_is (l ∷ ls) (suc i) = next_is ls i
