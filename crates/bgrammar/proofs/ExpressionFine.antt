-- Each reader of expressions reads on from what it has, and can be ended from wherever it stops.
use Rattle.std.proofs.Common.{◌≡◌, ℕ, zero, suc, ◌+◌, List, [], ◌∷◌, Bool, true, false, sym, ap, ◌∙◌, refl, inl, inr, Option, Some, None}
use Rattle.bword.specs.declared.operators.BinOp.{BinOp}
use Rattle.blang.specs.declared.token.Token.{Token}
use Rattle.blang.specs.declared.token.Token.TheVariants as token
use Rattle.blang.specs.declared.token.Placed.{Placed}
use Rattle.blang.specs.Trees.{mark, Identifier, name_token, Expr, Arguments, PrefixOp, Number, Character, Named, Literal, Text, Grouped, Indexed, Called, Postfixed, Prefixed, Binary, Conditional, Assigned, No_arguments, Another}
use Rattle.blang.specs.WellFormed.{or_rank}
use Rattle.bgrammar.specs.Fitting.{words, argument_words}
use Rattle.bgrammar.specs.Reading.{Got, Stop, Reader, ◌>>=◌, first, line_ahead, expect, many}
use Rattle.bgrammar.specs.ExpressionReader.{is_close_paren, is_close_bracket, is_question, is_colon, prefix_op, op_at, Suffix, Index, Call, Step, suffix, comma, always, ExpressionKind, Operand, Choice, Rvalue, Inner, group, primary, another, arguments, call, postfix_with, postfix, prefixed, operand, operation, chain, choices, conditional, assigns, assigned, rvalue_from, read_at, inner, reader}
use Rattle.bgrammar.proofs.Fine.{Near, Any, Fine, Closing, Start, startable, then_fine, shift, idle, stuck, same, same_eats, got_fine, map_fine, expect_then, expect_start, closed_fine, closed_eats, Opened, stops, enters, opened_fine, Loop, opened_loop, many_none, many_start, many_fine}

-- a token that ends each expression, whatever came before
abbrev pub closes : Token → Bool
closes token.Semicolon = true
closes token.CloseParen = true
closes token.OpenBrace = true
closes token.CloseBrace = true
closes token.CloseBracket = true
closes token.Colon = true
closes token.End = true
closes _ = false

abbrev pub Closer : Token → Type 0
Closer t = closes t ≡ true

abbrev pub closing : Closing
closing = record { Is = Closer; at_end = refl }

-- no expression goes on with such a token
pub no_suffix : (e : Expr) (t : Token) → Closer t → suffix t ≡ None
no_suffix e token.OpenBracket h = cc
no_suffix e token.OpenParen h = cc
no_suffix e token.Increment h = cc
no_suffix e token.Decrement h = cc
no_suffix e _ h = refl

pub no_operator : (r : ℕ) (e : Expr) (t : Token) → Closer t → op_at r t ≡ None
no_operator r e (token.Operator op) h = cc
no_operator r e _ h = refl

pub no_question : (t : Token) → Closer t → is_question t ≡ false
no_question token.Question h = cc
no_question _ h = refl

pub no_assign : (e : Expr) (t : Token) → Closer t → assigns e t ≡ None
no_assign e (token.Assign op) h = cc
no_assign e _ h = refl

-- the shortest expression
abbrev pub one : Placed
one = mark (token.Number 1)

abbrev pub one_tree : Expr
one_tree = Literal (Number 1)

-- What is one level deeper reads on, and an expression of one token is read there.
pub record Good (inner : Inner) : Type 0 where
  pub fine : (kind : ExpressionKind) (off : ℕ) (ts : List Placed) → Fine Closer (inner.read kind off) ts
  pub one_is : (kind : ExpressionKind) (off : ℕ) (k : List Placed) → Closer (first k) → inner.read kind off (one ∷ k) ≡ Got one_tree k

-- There is no room, or room in which everything reads on.
pub data Room (inner : Inner) : Type 0 where
  full : ((ts : List Placed) → inner.enter ts ≡ Stop ts) → Room inner
  some : ((t : Placed) (ts : List Placed) → inner.enter (t ∷ ts) ≡ Got tt ts) → Good inner → Room inner

pub entered : {A : Type 0} (inner : Inner) → Room inner → (f : Reader A) → (Good inner → (ts : List Placed) → Fine Closer f ts) → (t : Placed) → Opened closing (λ ts. inner.enter ts >>= λ o. f) t
entered inner (full st) f fine t = stops (λ ts. ap (λ x. x >>= λ o. f) (st ts))
entered inner (some eq good) f fine t = enters f (λ ts. ap (λ x. x >>= λ o. f) (eq t ts)) (fine good)

module _ (inner : Inner) (room : Room inner) where
  closes_paren : {A B : Type 0} (f : A → B) (p : Reader A) (ts : List Placed) → Fine Closer p ts → Fine Closer (λ x. p x >>= λ e r. expect is_close_paren r >>= λ o. Got (f e)) ts
  closes_paren f p ts fine = closed_fine closing Closer p is_close_paren token.CloseParen refl refl refl f ts fine

  primary_start : (off : ℕ) → Start closing Any (primary inner off)
  primary_start off = record { with_ = one ∷ []; value = one_tree; done = λ k h. refl; front = λ k h. tt }

  primary_fine_at : (off : ℕ) (t : Token) (ts : List Placed) → first ts ≡ t → Fine Closer (primary inner off) ts
  primary_fine_at off (token.Name x) (t ∷ ts) e = shift closing (primary inner off) (λ y. Got (Named (record { text = x; line = t.line })) y) t (λ y. rw e refl) ts (got_fine closing (Named (record { text = x; line = t.line })) ts)
  primary_fine_at off (token.Name x) [] e = cc
  primary_fine_at off (token.Number x) (t ∷ ts) e = shift closing (primary inner off) (λ y. Got (Literal (Number x)) y) t (λ y. rw e refl) ts (got_fine closing (Literal (Number x)) ts)
  primary_fine_at off (token.Number x) [] e = cc
  primary_fine_at off (token.Character x) (t ∷ ts) e = shift closing (primary inner off) (λ y. Got (Literal (Character x)) y) t (λ y. rw e refl) ts (got_fine closing (Literal (Character x)) ts)
  primary_fine_at off (token.Character x) [] e = cc
  primary_fine_at off (token.String s) (t ∷ ts) e = shift closing (primary inner off) (λ y. Got (Text s.items off) y) t (λ y. rw e refl) ts (got_fine closing (Text s.items off) ts)
  primary_fine_at off (token.String s) [] e = cc
  primary_fine_at off token.OpenParen ts e = opened_fine closing (primary inner off) (group inner off) ts (λ h. let n : token.OpenParen ≡ token.End = sym e ∙ h in cc) (λ new h. rw (h ∙ e) refl) (primary_start off) (entered inner room (λ r. inner.read Rvalue off r >>= λ e r. expect is_close_paren r >>= λ o. Got (Grouped e)) (λ good ts. closes_paren Grouped (inner.read Rvalue off) ts (good.fine Rvalue off ts)))
  primary_fine_at off _ ts e = stuck closing (primary inner off) ts (λ new h. rw (h ∙ e) refl) (primary_start off)

  no_comma : (a : Arguments) (t : Token) → Closer t → comma t ≡ None
  no_comma a token.Comma h = cc
  no_comma a _ h = refl

  pub comma_loop : Good inner → (off : ℕ) → Loop closing (always comma) (another inner off)
  comma_loop good off = opened_loop closing (always comma) (another inner off) no_comma (λ b args t h. enters (λ x. inner.read Rvalue (off + argument_words args) x >>= λ e. Got (Another args e)) (λ ts. refl) (λ ts. map_fine closing (inner.read Rvalue (off + argument_words args)) (λ e. Another args e) ts (good.fine Rvalue (off + argument_words args) ts)))

  pub arguments_fine : Good inner → (off : ℕ) (ts : List Placed) → Fine Closer (arguments inner off) ts
  arguments_fine good off ts = then_fine closing (inner.read Rvalue off) (λ e. many (always comma) (another inner off) (Another No_arguments e)) (λ e. many_start closing (always comma) (another inner off) (comma_loop good off) (Another No_arguments e)) ts (good.fine Rvalue off ts) (λ e r. many_fine closing (always comma) (another inner off) (comma_loop good off) (Another No_arguments e) r)

  call_start : (off : ℕ) (e : Expr) → Start closing Any (call inner off e)
  call_start off e = record { with_ = mark token.CloseParen ∷ []; value = Called e No_arguments; done = λ k h. refl; front = λ k h. tt }

  filled : ℕ → Expr → Reader Expr
  filled off e ts = arguments inner (off + words e) ts >>= λ args r. expect is_close_paren r >>= λ o. Got (Called e args)

  call_fine_at : Good inner → (off : ℕ) (e : Expr) (ts : List Placed) (b : Bool) → is_close_paren (first ts) ≡ b → Fine Closer (call inner off e) ts
  unfolding filled
  call_fine_at good off e [] true h = cc
  call_fine_at good off e (t ∷ ts) true h = shift closing (call inner off e) (λ x. Got (Called e No_arguments) x) t (λ x. rw h refl) ts (got_fine closing (Called e No_arguments) ts)
  call_fine_at good off e ts false h = same_eats closing (call inner off e) (filled off e) ts (λ new n. rw (ap is_close_paren n ∙ h) refl) (call_start off e) (λ b. closed_eats closing (arguments inner (off + words e)) is_close_paren refl (λ args. Called e args) ts (arguments_fine good (off + words e) ts) b) (closes_paren (λ args. Called e args) (arguments inner (off + words e)) ts (arguments_fine good (off + words e) ts))

  suffix_opened : (off : ℕ) (b : Suffix) (e : Expr) (t : Placed) → Opened closing (postfix_with inner off b e) t
  suffix_opened off Index e t = entered inner room (λ r. inner.read Rvalue (off + words e) r >>= λ f r. expect is_close_bracket r >>= λ o. Got (Indexed e f)) (λ good ts. closed_fine closing Closer (inner.read Rvalue (off + words e)) is_close_bracket token.CloseBracket refl refl refl (λ f. Indexed e f) ts (good.fine Rvalue (off + words e) ts)) t
  suffix_opened off Call e t = entered inner room (call inner off e) (λ good ts. call_fine_at good off e ts (is_close_paren (first ts)) refl) t
  suffix_opened off (Step op) e t = enters (λ x. Got (Postfixed op t.line e) x) (λ ts. refl) (got_fine closing (Postfixed op t.line e))

  pub suffix_loop : (off : ℕ) → Loop closing (always suffix) (postfix_with inner off)
  suffix_loop off = opened_loop closing (always suffix) (postfix_with inner off) no_suffix (λ b e t h. suffix_opened off b e t)

  postfix_fine : (off : ℕ) (ts : List Placed) → Fine Closer (postfix inner off) ts
  postfix_fine off ts = then_fine closing (primary inner off) (many (always suffix) (postfix_with inner off)) (many_start closing (always suffix) (postfix_with inner off) (suffix_loop off)) ts (primary_fine_at off (first ts) ts refl) (λ a r. many_fine closing (always suffix) (postfix_with inner off) (suffix_loop off) a r)

  operand_one : (off : ℕ) (k : List Placed) → Closer (first k) → operand inner off (one ∷ k) ≡ Got one_tree k
  operand_one off k h = many_none (always suffix) (postfix_with inner off) one_tree k (no_suffix one_tree (first k) h)

  no_prefix : (t : Token) → Closer t → prefix_op t ≡ None
  no_prefix token.Semicolon h = refl
  no_prefix token.CloseParen h = refl
  no_prefix token.OpenBrace h = refl
  no_prefix token.CloseBrace h = refl
  no_prefix token.CloseBracket h = refl
  no_prefix token.Colon h = refl
  no_prefix token.End h = refl
  no_prefix _ h = cc

  operand_start : (off : ℕ) → Start closing Any (operand inner off)
  operand_start off = record { with_ = one ∷ []; value = one_tree; done = operand_one off; front = λ k h. tt }

  prefix_opened : (off : ℕ) (op : PrefixOp) (t : Placed) → Opened closing (prefixed inner off op) t
  prefix_opened off op t = go room
    where
      go : Room inner → Opened closing (prefixed inner off op) t
      go (full st) = stops (λ ts. ap (λ x. x >>= λ o r. inner.read Operand off r >>= λ e. Got (Prefixed op (line_ahead ts) e)) (st ts))
      go (some eq good) = enters (λ r. inner.read Operand off r >>= λ e. Got (Prefixed op t.line e)) (λ ts. ap (λ x. x >>= λ o r. inner.read Operand off r >>= λ e. Got (Prefixed op t.line e)) (eq t ts)) (λ ts. map_fine closing (inner.read Operand off) (λ e. Prefixed op t.line e) ts (good.fine Operand off ts))

  operand_fine_at : (off : ℕ) (ts : List Placed) (o : Option PrefixOp) → prefix_op (first ts) ≡ o → Fine Closer (operand inner off) ts
  operand_fine_at off ts (Some op) h = opened_fine closing (operand inner off) (prefixed inner off op) ts (λ e. let n : None ≡ Some op = sym (ap prefix_op e) ∙ h in cc) (λ new e. rw (ap prefix_op e ∙ h) refl) (operand_start off) (prefix_opened off op)
  operand_fine_at off ts None h = same closing (operand inner off) (postfix inner off) ts near (operand_start off) (postfix_fine off ts)
    where
      near : (new : List Placed) → Near Closer ts new → operand inner off new ≡ postfix inner off new
      near new (inl e) = rw (ap prefix_op e ∙ h) refl
      near new (inr e) = rw (no_prefix (first new) e) refl

  chain_one : (r off : ℕ) (k : List Placed) → Closer (first k) → chain inner r off (one ∷ k) ≡ Got one_tree k
  chain_one zero off k h = operand_one off k h
  chain_one (suc r) off k h = ap (λ x. x >>= many (always (op_at (suc r))) (operation (chain inner r) off)) (chain_one r off k h) ∙ many_none (always (op_at (suc r))) (operation (chain inner r) off) one_tree k (no_operator (suc r) one_tree (first k) h)

  op_loop_of : (r off : ℕ) → ((off : ℕ) (ts : List Placed) → Fine Closer (chain inner r off) ts) → Loop closing (always (op_at (suc r))) (operation (chain inner r) off)
  op_loop_of r off fine = opened_loop closing (always (op_at (suc r))) (operation (chain inner r) off) (no_operator (suc r)) (λ op e t h. enters (λ x. chain inner r (off + words e) x >>= λ f. Got (Binary op t.line e f)) (λ ts. refl) (λ ts. map_fine closing (chain inner r (off + words e)) (λ f. Binary op t.line e f) ts (fine (off + words e) ts)))

  pub chain_fine : (r off : ℕ) (ts : List Placed) → Fine Closer (chain inner r off) ts
  chain_fine zero off ts = operand_fine_at off ts (prefix_op (first ts)) refl
  chain_fine (suc r) off ts =
      let loop : Loop closing (always (op_at (suc r))) (operation (chain inner r) off) = op_loop_of r off (chain_fine r) in
      then_fine closing (chain inner r off) (many (always (op_at (suc r))) (operation (chain inner r) off)) (many_start closing _ _ loop) ts (chain_fine r off ts) (λ a rest. many_fine closing _ _ loop a rest)

  pub op_loop : (r off : ℕ) → Loop closing (always (op_at (suc r))) (operation (chain inner r) off)
  op_loop r off = op_loop_of r off (chain_fine r)

  abbrev conditional_start : (off : ℕ) (e : Expr) → Start closing Closer (conditional inner off e)
  conditional_start off e = record { with_ = []; value = e; done = λ k h. rw (no_question (first k) h) refl; front = λ k h. h }

  -- after the colon
  last : ℕ → Expr → Expr → Reader Expr
  last off e f r = inner.read Choice (off + words e + words f) r >>= λ g. Got (Conditional e f g)

  last_start : Good inner → (off : ℕ) (e f : Expr) → Start closing Any (last off e f)
  unfolding last
  last_start good off e f = record { with_ = one ∷ []; value = Conditional e f one_tree; done = λ k h. ap (λ x. x >>= λ g. Got (Conditional e f g)) (good.one_is Choice (off + words e + words f) k h); front = λ k h. tt }

  last_fine : Good inner → (off : ℕ) (e f : Expr) (ts : List Placed) → Fine Closer (last off e f) ts
  unfolding last
  last_fine good off e f ts = map_fine closing (inner.read Choice (off + words e + words f)) (λ g. Conditional e f g) ts (good.fine Choice (off + words e + words f) ts)

  choices_fine : Good inner → (off : ℕ) (e : Expr) (ts : List Placed) → Fine Closer (choices inner off e) ts
  unfolding last
  choices_fine good off e ts = then_fine closing (inner.read Rvalue (off + words e)) (λ f r. expect is_colon r >>= λ o. last off e f) (λ f. expect_start closing Closer is_colon token.Colon refl refl (last off e f) (last_start good off e f)) ts (good.fine Rvalue (off + words e) ts) (λ f r. expect_then closing is_colon token.Colon refl refl (last off e f) (last_start good off e f) (last_fine good off e f) r)

  conditional_fine_at : (off : ℕ) (e : Expr) (ts : List Placed) (b : Bool) → is_question (first ts) ≡ b → Fine Closer (conditional inner off e) ts
  conditional_fine_at off e ts true h = opened_fine closing (conditional inner off e) (λ x. inner.enter x >>= λ o. choices inner off e) ts (λ n. let m : false ≡ true = sym (ap is_question n) ∙ h in cc) (λ new n. rw (ap is_question n ∙ h) refl) (startable closing (conditional inner off e) (conditional_start off e)) (entered inner room (choices inner off e) (λ good ts. choices_fine good off e ts))
  conditional_fine_at off e ts false h = idle closing (conditional inner off e) ts e near
    where
      near : (new : List Placed) → Near Closer ts new → conditional inner off e new ≡ Got e new
      near new (inl n) = rw (ap is_question n ∙ h) refl
      near new (inr n) = rw (no_question (first new) n) refl

  abbrev rvalue_from_start : (off : ℕ) (e : Expr) → Start closing Closer (rvalue_from inner off e)
  rvalue_from_start off e = record { with_ = []; value = e; done = λ k h. rw (no_assign e (first k) h) ((conditional_start off e).done k h); front = λ k h. h }

  assign_opened : (off : ℕ) (e : Expr) (op : Option BinOp) (t : Placed) → Opened closing (assigned inner off e op) t
  assign_opened off e op t = go room
    where
      go : Room inner → Opened closing (assigned inner off e op) t
      go (full st) = stops (λ ts. ap (λ x. x >>= λ o r. inner.read Rvalue (off + words e) r >>= λ f. Got (Assigned op (line_ahead ts) e f)) (st ts))
      go (some eq good) = enters (λ r. inner.read Rvalue (off + words e) r >>= λ f. Got (Assigned op t.line e f)) (λ ts. ap (λ x. x >>= λ o r. inner.read Rvalue (off + words e) r >>= λ f. Got (Assigned op t.line e f)) (eq t ts)) (λ ts. map_fine closing (inner.read Rvalue (off + words e)) (λ f. Assigned op t.line e f) ts (good.fine Rvalue (off + words e) ts))

  rvalue_from_fine_at : (off : ℕ) (e : Expr) (ts : List Placed) (o : Option (Option BinOp)) → assigns e (first ts) ≡ o → Fine Closer (rvalue_from inner off e) ts
  rvalue_from_fine_at off e ts (Some op) h = opened_fine closing (rvalue_from inner off e) (assigned inner off e op) ts (λ n. let m : None ≡ Some op = sym (no_assign e token.End refl) ∙ ap (assigns e) (sym n) ∙ h in cc) (λ new n. rw (ap (assigns e) n ∙ h) refl) (startable closing (rvalue_from inner off e) (rvalue_from_start off e)) (assign_opened off e op)
  rvalue_from_fine_at off e ts None h = same closing (rvalue_from inner off e) (conditional inner off e) ts near (startable closing (rvalue_from inner off e) (rvalue_from_start off e)) (conditional_fine_at off e ts (is_question (first ts)) refl)
    where
      near : (new : List Placed) → Near Closer ts new → rvalue_from inner off e new ≡ conditional inner off e new
      near new (inl n) = rw (ap (assigns e) n ∙ h) refl
      near new (inr n) = rw (no_assign e (first new) n) refl

  read_good : (kind : ExpressionKind) (off : ℕ) (ts : List Placed) → Fine Closer (read_at inner kind off) ts
  read_good Operand off ts = chain_fine 0 off ts
  read_good Choice off ts = then_fine closing (chain inner or_rank off) (conditional inner off) (conditional_start off) ts (chain_fine or_rank off ts) (λ a r. conditional_fine_at off a r (is_question (first r)) refl)
  read_good Rvalue off ts = then_fine closing (chain inner or_rank off) (rvalue_from inner off) (rvalue_from_start off) ts (chain_fine or_rank off ts) (λ a r. rvalue_from_fine_at off a r (assigns a (first r)) refl)

  read_one : (kind : ExpressionKind) (off : ℕ) (k : List Placed) → Closer (first k) → read_at inner kind off (one ∷ k) ≡ Got one_tree k
  read_one Operand off k h = operand_one off k h
  read_one Choice off k h = ap (λ x. x >>= conditional inner off) (chain_one or_rank off k h) ∙ (conditional_start off one_tree).done k h
  read_one Rvalue off k h = ap (λ x. x >>= rvalue_from inner off) (chain_one or_rank off k h) ∙ (rvalue_from_start off one_tree).done k h

pub has_room : (k : ℕ) → Room (inner k)
has_room zero = full (λ ts. refl)
has_room (suc k) = some (λ t ts. refl) (record { fine = read_good (inner k) (has_room k); one_is = read_one (inner k) (has_room k) })

pub reader_fine : (k : ℕ) (kind : ExpressionKind) (off : ℕ) (ts : List Placed) → Fine Closer (reader k kind off) ts
reader_fine k kind off ts = read_good (inner k) (has_room k) kind off ts

pub reader_one : (k : ℕ) (kind : ExpressionKind) (off : ℕ) (ts : List Placed) → Closer (first ts) → reader k kind off (one ∷ ts) ≡ Got one_tree ts
reader_one k kind off ts h = read_one (inner k) (has_room k) kind off ts h

module _ (k off : ℕ) (w : Identifier) where
  chain_from_name : (r : ℕ) (ts : List Placed) → Fine Closer (λ x. chain (inner k) r off (name_token w ∷ x)) ts
  chain_from_name zero ts = many_fine closing (always suffix) (postfix_with (inner k) off) (suffix_loop (inner k) (has_room k) off) (Named w) ts
  chain_from_name (suc r) ts =
      let loop : Loop closing (always (op_at (suc r))) (operation (chain (inner k) r) off) = op_loop (inner k) (has_room k) r off in
      then_fine closing (λ x. chain (inner k) r off (name_token w ∷ x)) (many (always (op_at (suc r))) (operation (chain (inner k) r) off)) (many_start closing _ _ loop) ts (chain_from_name r ts) (λ a rest. many_fine closing _ _ loop a rest)

  -- an expression that begins with a name already taken
  pub from_name_fine : (ts : List Placed) → Fine Closer (λ x. reader k Rvalue off (name_token w ∷ x)) ts
  from_name_fine ts = then_fine closing (λ x. chain (inner k) or_rank off (name_token w ∷ x)) (rvalue_from (inner k) off) (rvalue_from_start (inner k) (has_room k) off) ts (chain_from_name or_rank ts) (λ a r. rvalue_from_fine_at (inner k) (has_room k) off a r (assigns a (first r)) refl)

  chain_name_one : (r : ℕ) (ts : List Placed) → Closer (first ts) → chain (inner k) r off (name_token w ∷ ts) ≡ Got (Named w) ts
  chain_name_one zero ts h = many_none (always suffix) (postfix_with (inner k) off) (Named w) ts (no_suffix (Named w) (first ts) h)
  chain_name_one (suc r) ts h = ap (λ x. x >>= many (always (op_at (suc r))) (operation (chain (inner k) r) off)) (chain_name_one r ts h) ∙ many_none (always (op_at (suc r))) (operation (chain (inner k) r) off) (Named w) ts (no_operator (suc r) (Named w) (first ts) h)

  -- that name alone
  pub from_name_one : (ts : List Placed) → Closer (first ts) → reader k Rvalue off (name_token w ∷ ts) ≡ Got (Named w) ts
  from_name_one ts h = ap (λ x. x >>= rvalue_from (inner k) off) (chain_name_one or_rank ts h) ∙ (rvalue_from_start (inner k) (has_room k) off (Named w)).done ts h
