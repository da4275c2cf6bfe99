-- The spelling of an expression that fits is read as that expression.
use Rattle.std.proofs.Common.{◌≡◌, ℕ, zero, suc, ◌+◌, ◌-◌, ◌<◌, ◌≤◌, List, ◌∷◌, Bool, true, false, sym, ap, ◌∙◌, refl, subst, Option, Some, None, arith, ◌⊎◌, inl, inr}
use Rattle.std.specs.Prelude.{nat_eq, if◌then◌else◌}
use Rattle.std.proofs.lemmas.Bool.{eqb-true, eq-eqb}
use Rattle.bword.specs.declared.operators.BinOp.{BinOp}
use Rattle.bword.specs.declared.operators.BinOp.TheVariants as op
use Rattle.blang.specs.declared.token.Token.{Token}
use Rattle.blang.specs.declared.token.Token.TheVariants as token
use Rattle.blang.specs.declared.token.Placed.{Placed}
use Rattle.blang.specs.Trees.{mark, Identifier, Constant, Number, Character, Expr, Arguments, PrefixOp, Negate, PostfixOp, PostIncrement, PostDecrement, Named, Literal, Text, Grouped, Indexed, Called, Postfixed, Prefixed, Binary, Conditional, Assigned, No_arguments, Another, prefix_token}
use Rattle.blang.specs.Cut.{placed}
use Rattle.blang.specs.WellFormed.{rank, or_rank, conditional_rank, rvalue_rank, IsPostfix}
use Rattle.bgrammar.specs.Fitting.{words, argument_words, Deeper, Fits, ArgumentsFit}
use Rattle.bgrammar.specs.Reading.{Got, Reader, ◌>>=◌, first, expect, many}
use Rattle.bgrammar.specs.ExpressionReader.{is_close_paren, is_close_bracket, is_question, is_colon, prefix_op, having_rank, op_at, Suffix, Index, Call, Step, suffix, comma, always, Choice, Rvalue, another, arguments, postfix_with, postfix, operand, operation, chain, conditional, assigns, rvalue_from, inner, reader, is_operand}
use Rattle.bgrammar.proofs.Fine.{Loop, many_none, many_some}
use Rattle.bgrammar.proofs.ExpressionFine.{Closer, closing, one_tree, no_suffix, no_operator, no_question, no_assign, Good, has_room, suffix_loop, comma_loop, op_loop, reader_fine, reader_one}
use Rattle.blang.specs.Walk.{callee, walk, walk_arguments}
use Rattle.bgrammar.proofs.WalkLaws.{callee_as}
use Rattle.bgrammar.proofs.Forms.{onto}

-- nothing that goes on after an operand, and no operator of these ranks, begins with this token
pub record Below (r : ℕ) (t : Token) : Type 0 where
  pub no_suffix : suffix t ≡ None
  pub no_operator : (i : ℕ) → i ≤ r → op_at i t ≡ None

-- no expression goes on with this token
pub record Ends (t : Token) : Type 0 where
  pub below : Below or_rank t
  pub no_question : is_question t ≡ false
  pub no_assign : (e : Expr) → assigns e t ≡ None

-- a token with which an expression begins
abbrev pub opens : Token → Bool
opens (token.Name x) = true
opens (token.Number n) = true
opens (token.Character n) = true
opens (token.String s) = true
opens (token.Operator op.Sub) = true
opens (token.Operator op.Mul) = true
opens (token.Operator op.And) = true
opens token.Not = true
opens token.Increment = true
opens token.Decrement = true
opens token.OpenParen = true
opens _ = false

pub onto_callee : (e : Expr) (rest : List Placed) → onto (callee e (walk e)) rest ≡ onto (walk e) rest
onto_callee e rest = callee_as (λ w. onto w rest) (λ w a b. refl) e

prefix_opens : (op : PrefixOp) → opens (prefix_token op) ≡ true
prefix_opens Negate = refl
prefix_opens _ = refl

pub expr_opens : (e : Expr) (rest : List Placed) → opens (first (onto (walk e) rest)) ≡ true
expr_opens (Literal (Number n)) rest = refl
expr_opens (Indexed e f) rest = expr_opens e _
expr_opens (Called e args) rest = ap (λ l. opens (first l)) (onto_callee e _) ∙ expr_opens e _
expr_opens (Postfixed op line e) rest = expr_opens e _
expr_opens (Prefixed op line e) rest = prefix_opens op
expr_opens (Binary op line e f) rest = expr_opens e _
expr_opens (Conditional e f g) rest = expr_opens e _
expr_opens (Assigned op line e f) rest = expr_opens e _
expr_opens _ rest = refl

abbrev rest_of : ℕ → ℕ → ℕ → Expr → Reader Expr
rest_of room r off e = many (always (op_at (suc r))) (operation (chain (inner room) r) off) e

loop_at : (room r off : ℕ) → Loop closing (always (op_at (suc r))) (operation (chain (inner room) r) off)
loop_at room r off = op_loop (inner room) (has_room room) r off

pub good_at : (room : ℕ) → Good (inner (suc room))
good_at room = record { fine = reader_fine room; one_is = reader_one room }

-- an expression is read again at each place where it fits
pub record Reads (e : Expr) : Type 0 where
  pub post : IsPostfix e → (room off : ℕ) → Fits e 0 room off → (rest : List Placed) → postfix (inner room) off (onto (walk e) rest) ≡ many (always suffix) (postfix_with (inner room) off) e rest
  pub spine : (j room off : ℕ) → suc j ≤ or_rank → Fits e (suc j) room off → (rest : List Placed) → Below j (first rest) → chain (inner room) (suc j) off (onto (walk e) rest) ≡ rest_of room j off e rest
  pub chained : (r room off : ℕ) → r ≤ or_rank → Fits e r room off → (rest : List Placed) → Below r (first rest) → chain (inner room) r off (onto (walk e) rest) ≡ Got e rest
  pub side : (room off : ℕ) → Fits e conditional_rank room off → (rest : List Placed) → Ends (first rest) → reader room Choice off (onto (walk e) rest) ≡ Got e rest
  pub rvalue : (room off : ℕ) → Fits e rvalue_rank room off → (rest : List Placed) → Ends (first rest) → reader room Rvalue off (onto (walk e) rest) ≡ Got e rest

-- there are arguments
abbrev pub Given : Arguments → Type 0
Given No_arguments = ⊥
Given (Another before e) = Unit {0}

pub record ReadsArguments (args : Arguments) : Type 0 where
  pub again : Given args → (room off : ℕ) → ArgumentsFit args room off → (rest : List Placed) → Ends (first rest) → arguments (inner (suc room)) off (onto (walk_arguments args) rest) ≡ many (always comma) (another (inner (suc room)) off) args rest

fewer : (r : ℕ) (t : Token) → Below (suc r) t → Below r t
fewer r t b = record { no_suffix = b.no_suffix; no_operator = λ i le. b.no_operator i (omega arith) }

-- by the chain of the rank below
spine_up : (e : Expr) (j room off : ℕ) (rest : List Placed) → chain (inner room) j off (onto (walk e) rest) ≡ Got e rest → chain (inner room) (suc j) off (onto (walk e) rest) ≡ rest_of room j off e rest
spine_up e j room off rest h = ap (λ x. x >>= rest_of room j off) h

chain_up : (e : Expr) (j room off : ℕ) (rest : List Placed) → Below (suc j) (first rest) → chain (inner room) (suc j) off (onto (walk e) rest) ≡ rest_of room j off e rest → chain (inner room) (suc j) off (onto (walk e) rest) ≡ Got e rest
chain_up e j room off rest b h = h ∙ many_none (always (op_at (suc j))) (operation (chain (inner room) j) off) e rest (b.no_operator (suc j) (omega arith))

side_of : (room off : ℕ) (e : Expr) (ts rest : List Placed) → chain (inner room) or_rank off ts ≡ Got e rest → Ends (first rest) → reader room Choice off ts ≡ Got e rest
side_of room off e ts rest h n = ap (λ x. x >>= conditional (inner room) off) h ∙ rw n.no_question refl

rvalue_of : (room off : ℕ) (e : Expr) (ts rest : List Placed) → chain (inner room) or_rank off ts ≡ Got e rest → Ends (first rest) → reader room Rvalue off ts ≡ Got e rest
rvalue_of room off e ts rest h n = ap (λ x. x >>= rvalue_from (inner room) off) h ∙ rw (n.no_assign e) (rw n.no_question refl)

-- an expression that is an operand
reads_operand : (e : Expr) → (IsPostfix e → (room off : ℕ) → Fits e 0 room off → (rest : List Placed) → postfix (inner room) off (onto (walk e) rest) ≡ many (always suffix) (postfix_with (inner room) off) e rest) → ((r room off : ℕ) → Fits e r room off → Fits e 0 room off) → ((room off : ℕ) → Fits e 0 room off → (rest : List Placed) → suffix (first rest) ≡ None → operand (inner room) off (onto (walk e) rest) ≡ Got e rest) → Reads e
reads_operand e post low here = record {
  post = post;
  spine = λ j room off le f rest b. spine_up e j room off rest (chain0 j room off (low (suc j) room off f) rest b);
  chained = λ r room off le f rest b. chain0 r room off (low r room off f) rest b;
  side = λ room off f rest n. side_of room off e (onto (walk e) rest) rest (chain0 or_rank room off (low conditional_rank room off f) rest n.below) n;
  rvalue = λ room off f rest n. rvalue_of room off e (onto (walk e) rest) rest (chain0 or_rank room off (low rvalue_rank room off f) rest n.below) n;
}
  where
    chain0 : (r room off : ℕ) → Fits e 0 room off → (rest : List Placed) → Below r (first rest) → chain (inner room) r off (onto (walk e) rest) ≡ Got e rest
    chain0 zero room off f rest b = here room off f rest b.no_suffix
    chain0 (suc r) room off f rest b = chain_up e r room off rest b (spine_up e r room off rest (chain0 r room off f rest (fewer r (first rest) b)))

no_prefix_first : (e : Expr) (room off : ℕ) → IsPostfix e → Fits e 0 room off → (rest : List Placed) → prefix_op (first (onto (walk e) rest)) ≡ None
no_prefix_first (Literal (Number n)) room off p f rest = refl
no_prefix_first (Indexed e g) room off p f rest = no_prefix_first e room off f.0 f.1 _
no_prefix_first (Called e args) room off p f rest = ap (λ l. prefix_op (first l)) (onto_callee e _) ∙ no_prefix_first e room off f.0 f.1 _
no_prefix_first (Postfixed op line e) room off p f rest = no_prefix_first e room off f.0 f.1 _
no_prefix_first (Prefixed op line e) room off p f rest = absurd p
no_prefix_first (Binary op line e g) room off p f rest = absurd p
no_prefix_first (Conditional e g h) room off p f rest = absurd p
no_prefix_first (Assigned op line e g) room off p f rest = absurd p
no_prefix_first _ room off p f rest = refl

reads_post : (e : Expr) → IsPostfix e → ((r room off : ℕ) → Fits e r room off → Fits e 0 room off) → ((room off : ℕ) → Fits e 0 room off → (rest : List Placed) → postfix (inner room) off (onto (walk e) rest) ≡ many (always suffix) (postfix_with (inner room) off) e rest) → Reads e
reads_post e is low post = reads_operand e (λ p room off f rest. post room off f rest) low (λ room off f rest n. rw (no_prefix_first e room off is f rest) (post room off f rest ∙ many_none (always suffix) (postfix_with (inner room) off) e rest n))

-- a token that ends each expression
pub ends : (t : Token) → Closer t → Ends t
ends t h = record {
  below = record { no_suffix = no_suffix one_tree t h; no_operator = λ i le. no_operator i one_tree t h };
  no_question = no_question t h;
  no_assign = λ e. no_assign e t h;
}

ends_comma : Ends token.Comma
ends_comma = record { below = record { no_suffix = refl; no_operator = λ i le. refl }; no_question = refl; no_assign = λ e. refl }

below_question : Below or_rank token.Question
below_question = record { no_suffix = refl; no_operator = λ i le. refl }

below_assign : (op : Option BinOp) → Below or_rank (token.Assign op)
below_assign op = record { no_suffix = refl; no_operator = λ i le. refl }

pub rank_positive : (o : BinOp) → 1 ≤ rank o
rank_positive op.Mul = omega arith
rank_positive _ = omega arith

rank_most : (o : BinOp) → rank o ≤ 7
rank_most op.Mul = omega arith
rank_most _ = omega arith

having_none : (i : ℕ) (op : BinOp) → i < rank op → having_rank i op ≡ None
having_none i op lt = go (nat_eq (rank op) i) refl
  where
    go : (v : Bool) → nat_eq (rank op) i ≡ v → having_rank i op ≡ None
    go true e = let n : rank op ≡ i = eqb-true (rank op) i e in absurd (omega arith)
    go false e = rw e refl

op_below : (op : BinOp) (j : ℕ) → rank op ≡ suc j → Below j (token.Operator op)
op_below op j e = record { no_suffix = refl; no_operator = λ i le. having_none i op (omega arith) }

pub no_rank_zero : (t : Token) → op_at 0 t ≡ None
no_rank_zero (token.Operator op) = having_none 0 op (omega (arith, rank_positive op))
no_rank_zero _ = refl

below_none : (t : Token) → suffix t ≡ None → Below 0 t
below_none t h = record { no_suffix = h; no_operator = none }
  where
    none : (i : ℕ) → i ≤ 0 → op_at i t ≡ None
    none zero le = no_rank_zero t
    none (suc i) le = absurd (omega arith)

op_found : (op : BinOp) (r : ℕ) → rank op ≡ r → op_at r (token.Operator op) ≡ Some op
op_found op r e = ap (λ b. if b then Some op else None) (eq-eqb (rank op) r e)

reads_named : (w : Identifier) → Reads (Named w)
reads_named w = reads_post (Named w) tt (λ r room off f. f) (λ room off f rest. refl)

reads_literal : (c : Constant) → Reads (Literal c)
reads_literal (Number n) = reads_post (Literal (Number n)) tt (λ r room off f. f) (λ room off f rest. refl)
reads_literal (Character n) = reads_post (Literal (Character n)) tt (λ r room off f. f) (λ room off f rest. refl)

reads_text : (bytes : List ℕ) (offset : ℕ) → Reads (Text bytes offset)
reads_text bytes offset = reads_post (Text bytes offset) tt (λ r room off f. f) (λ room off f rest. ap (λ o. many (always suffix) (postfix_with (inner room) off) (Text bytes o) rest) (sym f))

reads_group : (e : Expr) → Reads e → Reads (Grouped e)
reads_group e re = reads_post (Grouped e) tt (λ r room off f. f) post
  where
    post : (room off : ℕ) → Fits (Grouped e) 0 room off → (rest : List Placed) → postfix (inner room) off (onto (walk (Grouped e)) rest) ≡ many (always suffix) (postfix_with (inner room) off) (Grouped e) rest
    post zero off f rest = absurd f
    post (suc k) off f rest = ap (λ x. (x >>= λ e r. expect is_close_paren r >>= λ o. Got (Grouped e)) >>= many (always suffix) (postfix_with (inner (suc k)) off)) (re.rvalue k off f (mark token.CloseParen ∷ rest) (ends token.CloseParen refl))

-- after a postfix expression, one suffix more
suffix_again : (e : Expr) → Reads e → (room off : ℕ) → IsPostfix e → Fits e 0 room off → (b : Suffix) (following rest : List Placed) → suffix (first following) ≡ Some b → (g : Expr) → postfix_with (inner room) off b e following ≡ Got g rest → postfix (inner room) off (onto (walk e) following) ≡ many (always suffix) (postfix_with (inner room) off) g rest
suffix_again e re room off is f b following rest h g made = re.post is room off f following ∙ many_some closing (always suffix) (postfix_with (inner room) off) (suffix_loop (inner room) (has_room room) off) b e following h ∙ ap (λ x. x >>= many (always suffix) (postfix_with (inner room) off)) made

reads_indexed : (e f : Expr) → Reads e → Reads f → Reads (Indexed e f)
reads_indexed e f re rf = reads_post (Indexed e f) tt (λ r room off h. h) post
  where
    post : (room off : ℕ) → Fits (Indexed e f) 0 room off → (rest : List Placed) → postfix (inner room) off (onto (walk (Indexed e f)) rest) ≡ many (always suffix) (postfix_with (inner room) off) (Indexed e f) rest
    post zero off h rest = absurd h.2
    post (suc k) off h rest =
        suffix_again e re (suc k) off h.0 h.1 Index (mark token.OpenBracket ∷ (onto (walk f) (mark token.CloseBracket ∷ rest))) rest refl (Indexed e f)
        (ap (λ x. x >>= λ f r. expect is_close_bracket r >>= λ o. Got (Indexed e f)) (rf.rvalue k (off + words e) h.2 (mark token.CloseBracket ∷ rest) (ends token.CloseBracket refl)))

reads_postfixed : (op : PostfixOp) (line : ℕ) (e : Expr) → Reads e → Reads (Postfixed op line e)
reads_postfixed op line e re = reads_post (Postfixed op line e) tt (λ r room off h. h) (post op)
  where
    post : (op : PostfixOp) (room off : ℕ) → Fits (Postfixed op line e) 0 room off → (rest : List Placed) → postfix (inner room) off (onto (walk (Postfixed op line e)) rest) ≡ many (always suffix) (postfix_with (inner room) off) (Postfixed op line e) rest
    post PostIncrement room off h rest = suffix_again e re room off h.0 h.1 (Step PostIncrement) (placed token.Increment line ∷ rest) rest refl (Postfixed PostIncrement line e) refl
    post PostDecrement room off h rest = suffix_again e re room off h.0 h.1 (Step PostDecrement) (placed token.Decrement line ∷ rest) rest refl (Postfixed PostDecrement line e) refl

-- an expression doesn't begin with the token that closes a call
not_closing : (t : Token) → opens t ≡ true → is_close_paren t ≡ false
not_closing token.CloseParen h = cc
not_closing _ h = refl

arguments_open : (args : Arguments) → Given args → (rest : List Placed) → opens (first (onto (walk_arguments args) rest)) ≡ true
arguments_open No_arguments g rest = absurd g
arguments_open (Another No_arguments e) g rest = expr_opens e rest
arguments_open (Another (Another args d) e) g rest = arguments_open (Another args d) tt _

reads_another : (before : Arguments) (e : Expr) → ReadsArguments before → Reads e → ReadsArguments (Another before e)
reads_another No_arguments e rb re = record { again = λ g room off f rest n. ap (λ x. x >>= λ e. many (always comma) (another (inner (suc room)) off) (Another No_arguments e)) (re.rvalue room off (subst (λ o. Fits e rvalue_rank room o) (let z : off + 0 ≡ off = omega arith in z) f.1) rest n) }
reads_another (Another args d) e rb re = record {
  again = λ g room off f rest n.
      rb.again tt room off f.0 (mark token.Comma ∷ (onto (walk e) rest)) ends_comma
      ∙ many_some closing (always comma) (another (inner (suc room)) off) (comma_loop (inner (suc room)) (has_room (suc room)) (good_at room) off) tt (Another args d) (mark token.Comma ∷ (onto (walk e) rest)) refl
      ∙ ap (λ x. (x >>= λ e. Got (Another (Another args d) e)) >>= many (always comma) (another (inner (suc room)) off)) (re.rvalue room (off + argument_words (Another args d)) f.1 rest n);
}

reads_called : (e : Expr) (args : Arguments) → Reads e → ReadsArguments args → Reads (Called e args)
reads_called e args re ra = reads_post (Called e args) tt (λ r room off h. h) (λ room off h rest. post args ra room off h rest)
  where
    post : (args : Arguments) → ReadsArguments args → (room off : ℕ) → Fits (Called e args) 0 room off → (rest : List Placed) → postfix (inner room) off (onto (walk (Called e args)) rest) ≡ many (always suffix) (postfix_with (inner room) off) (Called e args) rest
    post args ra zero off h rest = absurd h.2
    post No_arguments ra (suc k) off h rest =
        ap (postfix (inner (suc k)) off) (onto_callee e _) ∙ suffix_again e re (suc k) off h.0 h.1 Call (mark token.OpenParen ∷ mark token.CloseParen ∷ rest) rest refl (Called e No_arguments) refl
    post (Another before f) ra (suc k) off h rest =
        ap (postfix (inner (suc k)) off) (onto_callee e _) ∙ suffix_again e re (suc k) off h.0 h.1 Call (mark token.OpenParen ∷ (onto (walk_arguments (Another before f)) (mark token.CloseParen ∷ rest))) rest refl (Called e (Another before f))
        (rw (not_closing _ (arguments_open (Another before f) tt (mark token.CloseParen ∷ rest))) (ap (λ x. x >>= λ args r. expect is_close_paren r >>= λ o. Got (Called e args)) (ra.again tt k (off + words e) h.2 (mark token.CloseParen ∷ rest) (ends token.CloseParen refl) ∙ many_none (always comma) (another (inner (suc k)) (off + words e)) (Another before f) (mark token.CloseParen ∷ rest) refl)))

prefix_found : (op : PrefixOp) → prefix_op (prefix_token op) ≡ Some op
prefix_found Negate = refl
prefix_found _ = refl

reads_prefixed : (op : PrefixOp) (line : ℕ) (e : Expr) → Reads e → Reads (Prefixed op line e)
reads_prefixed op line e re = reads_operand (Prefixed op line e) (λ p. absurd p) (λ r room off f. f) here
  where
    here : (room off : ℕ) → Fits (Prefixed op line e) 0 room off → (rest : List Placed) → suffix (first rest) ≡ None → operand (inner room) off (onto (walk (Prefixed op line e)) rest) ≡ Got (Prefixed op line e) rest
    here zero off f rest n = absurd f
    here (suc k) off f rest n = rw (prefix_found op) (ap (λ x. x >>= λ e. Got (Prefixed op line e)) (re.chained 0 k off (omega arith) f rest (below_none (first rest) n)))

reads_binary : (op : BinOp) (line : ℕ) (e f : Expr) → Reads e → Reads f → Reads (Binary op line e f)
reads_binary op line e f re rf = record {
  post = λ p. absurd p;
  spine = λ j room off le h rest b. spine j room off le h.0 h.1 h.2 rest b (λ low b2. chained j room off (omega arith) low h.1 h.2 rest b2);
  chained = λ r room off le h rest b. chained r room off le h.0 h.1 h.2 rest b;
  side = λ room off h rest n. side_of room off (Binary op line e f) (onto (walk (Binary op line e f)) rest) rest (chained or_rank room off (omega arith) (rank_most op) h.1 h.2 rest n.below) n;
  rvalue = λ room off h rest n. rvalue_of room off (Binary op line e f) (onto (walk (Binary op line e f)) rest) rest (chained or_rank room off (omega arith) (rank_most op) h.1 h.2 rest n.below) n;
}
  where
    -- where the operator has this rank
    main : (j room off : ℕ) → suc j ≤ or_rank → rank op ≡ suc j → Fits e (rank op) room off → Fits f (rank op - 1) room (off + words e) → (rest : List Placed) → Below j (first rest) → chain (inner room) (suc j) off (onto (walk (Binary op line e f)) rest) ≡ rest_of room j off (Binary op line e f) rest
    main j room off le ranked he hf rest b =
        let following : List Placed = placed (token.Operator op) line ∷ (onto (walk f) rest) in
        let less : rank op - 1 ≡ j = omega arith in
        re.spine j room off le (subst (λ n. Fits e n room off) ranked he) following (op_below op j ranked)
        ∙ many_some closing (always (op_at (suc j))) (operation (chain (inner room) j) off) (loop_at room j off) op e following (op_found op (suc j) ranked)
        ∙ ap (λ x. (x >>= λ f. Got (Binary op line e f)) >>= rest_of room j off) (rf.chained j room (off + words e) (omega arith) (subst (λ n. Fits f n room (off + words e)) less hf) rest b)

    spine : (j room off : ℕ) → suc j ≤ or_rank → rank op ≤ suc j → Fits e (rank op) room off → Fits f (rank op - 1) room (off + words e) → (rest : List Placed) → Below j (first rest) → (rank op ≤ j → Below j (first rest) → chain (inner room) j off (onto (walk (Binary op line e f)) rest) ≡ Got (Binary op line e f) rest) → chain (inner room) (suc j) off (onto (walk (Binary op line e f)) rest) ≡ rest_of room j off (Binary op line e f) rest
    spine j room off le at he hf rest b below_ =
        let cases : (rank op ≤ j) ⊎ (rank op ≡ suc j) = grind arith in
        elim cases [ inl low ↦ spine_up (Binary op line e f) j room off rest (below_ low b) | inr ranked ↦ main j room off le ranked he hf rest b ]

    chained : (r room off : ℕ) → r ≤ or_rank → rank op ≤ r → Fits e (rank op) room off → Fits f (rank op - 1) room (off + words e) → (rest : List Placed) → Below r (first rest) → chain (inner room) r off (onto (walk (Binary op line e f)) rest) ≡ Got (Binary op line e f) rest
    chained zero room off le low he hf rest b = absurd (omega (arith, rank_positive op))
    chained (suc r) room off le low he hf rest b = chain_up (Binary op line e f) r room off rest b (spine r room off le low he hf rest (fewer r (first rest) b) (λ low2 b2. chained r room off (omega arith) low2 he hf rest b2))

absent : (r n : ℕ) → 8 ≤ n → n ≤ r → r ≤ 7 → ⊥
absent r n m a b = omega arith

reads_conditional : (e f g : Expr) → Reads e → Reads f → Reads g → Reads (Conditional e f g)
reads_conditional e f g re rf rg = record { post = λ p. absurd p; spine = λ j room off le h. absurd (absent (suc j) 8 (omega arith) h.0 le); chained = λ r room off le h. absurd (absent r 8 (omega arith) h.0 le); side = λ room off h rest n. side room off h.1 h.2 rest n; rvalue = λ room off h rest n. rvalue room off h.1 h.2 rest n }
  where
    asked : (k off : ℕ) → Fits f rvalue_rank k (off + words e) → Fits g conditional_rank k (off + words e + words f) → (rest : List Placed) → Ends (first rest) → conditional (inner (suc k)) off e (mark token.Question ∷ (onto (walk f) (mark token.Colon ∷ (onto (walk g) rest)))) ≡ Got (Conditional e f g) rest
    asked k off hf hg rest n =
        ap (λ x. x >>= λ f r. expect is_colon r >>= λ o r. reader k Choice (off + words e + words f) r >>= λ g. Got (Conditional e f g)) (rf.rvalue k (off + words e) hf (mark token.Colon ∷ (onto (walk g) rest)) (ends token.Colon refl))
        ∙ ap (λ x. x >>= λ g. Got (Conditional e f g)) (rg.side k (off + words e + words f) hg rest n)

    side : (room off : ℕ) → Fits e or_rank room off → Deeper (λ k. Fits f rvalue_rank k (off + words e) × Fits g conditional_rank k (off + words e + words f)) room → (rest : List Placed) → Ends (first rest) → reader room Choice off (onto (walk (Conditional e f g)) rest) ≡ Got (Conditional e f g) rest
    side zero off he h rest n = absurd h
    side (suc k) off he h rest n =
        ap (λ x. x >>= conditional (inner (suc k)) off) (re.chained or_rank (suc k) off (omega arith) he (mark token.Question ∷ (onto (walk f) (mark token.Colon ∷ (onto (walk g) rest)))) below_question)
        ∙ asked k off h.0 h.1 rest n

    rvalue : (room off : ℕ) → Fits e or_rank room off → Deeper (λ k. Fits f rvalue_rank k (off + words e) × Fits g conditional_rank k (off + words e + words f)) room → (rest : List Placed) → Ends (first rest) → reader room Rvalue off (onto (walk (Conditional e f g)) rest) ≡ Got (Conditional e f g) rest
    rvalue zero off he h rest n = absurd h
    rvalue (suc k) off he h rest n =
        ap (λ x. x >>= rvalue_from (inner (suc k)) off) (re.chained or_rank (suc k) off (omega arith) he (mark token.Question ∷ (onto (walk f) (mark token.Colon ∷ (onto (walk g) rest)))) below_question)
        ∙ asked k off h.0 h.1 rest n

none_below : (r : ℕ) → 9 ≤ r → r ≤ 8 → ⊥
none_below r a b = omega arith

-- what stands where an operand may is one
fits_operand : (e : Expr) (room off : ℕ) → Fits e 0 room off → is_operand e ≡ true
fits_operand (Binary op line e f) room off h = absurd (omega (arith, rank_positive op, h.0))
fits_operand (Conditional e f g) room off h = absurd (absent 0 8 (omega arith) h.0 (omega arith))
fits_operand (Assigned op line e f) room off h = absurd (absent 0 9 (omega arith) h.0 (omega arith))
fits_operand (Named w) room off h = refl
fits_operand _ room off h = refl

looser : (e : Expr) (room off : ℕ) → Fits e 0 room off → Fits e or_rank room off
looser (Binary op line e f) room off h = absurd (omega (arith, rank_positive op, h.0))
looser (Conditional e f g) room off h = absurd (absent 0 8 (omega arith) h.0 (omega arith))
looser (Assigned op line e f) room off h = absurd (absent 0 9 (omega arith) h.0 (omega arith))
looser (Named w) room off h = h
looser _ room off h = h

reads_assigned : (op : Option BinOp) (line : ℕ) (e f : Expr) → Reads e → Reads f → Reads (Assigned op line e f)
reads_assigned op line e f re rf = record { post = λ p. absurd p; spine = λ j room off le h. absurd (none_below (suc j) h.0 (omega arith)); chained = λ r room off le h. absurd (none_below r h.0 (omega arith)); side = λ room off h. absurd (none_below 8 h.0 (omega arith)); rvalue = λ room off h. rvalue room off h.1 h.2 }
  where
    rvalue : (room off : ℕ) → Fits e 0 room off → Deeper (λ k. Fits f rvalue_rank k (off + words e)) room → (rest : List Placed) → Ends (first rest) → reader room Rvalue off (onto (walk (Assigned op line e f)) rest) ≡ Got (Assigned op line e f) rest
    rvalue zero off he h rest n = absurd h
    rvalue (suc k) off he h rest n =
        ap (λ x. x >>= rvalue_from (inner (suc k)) off) (re.chained or_rank (suc k) off (omega arith) (looser e (suc k) off he) (placed (token.Assign op) line ∷ (onto (walk f) rest)) (below_assign op))
        ∙ rw (fits_operand e (suc k) off he) (ap (λ x. x >>= λ f. Got (Assigned op line e f)) (rf.rvalue k (off + words e) h rest n))

mutual
  reads : (e : Expr) → Reads e
  reads (Named w) = reads_named w
  reads (Literal c) = reads_literal c
  reads (Text bytes offset) = reads_text bytes offset
  reads (Grouped e) = reads_group e (reads e)
  reads (Indexed e f) = reads_indexed e f (reads e) (reads f)
  reads (Called e args) = reads_called e args (reads e) (reads_arguments args)
  reads (Postfixed op line e) = reads_postfixed op line e (reads e)
  reads (Prefixed op line e) = reads_prefixed op line e (reads e)
  reads (Binary op line e f) = reads_binary op line e f (reads e) (reads f)
  reads (Conditional e f g) = reads_conditional e f g (reads e) (reads f) (reads g)
  reads (Assigned op line e f) = reads_assigned op line e f (reads e) (reads f)

  reads_arguments : (args : Arguments) → ReadsArguments args
  reads_arguments No_arguments = record { again = λ g. absurd g }
  reads_arguments (Another before e) = reads_another before e (reads_arguments before) (reads e)

-- An expression is read again, before any token with which none goes on.
pub reader_again : (e : Expr) (room off : ℕ) → Fits e rvalue_rank room off → (rest : List Placed) → Ends (first rest) → reader room Rvalue off (onto (walk e) rest) ≡ Got e rest
reader_again e room off f rest n = (reads e).rvalue room off f rest n
