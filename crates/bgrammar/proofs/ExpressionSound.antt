-- What a reader of expressions gives is spelled by the tokens that it took, and fits.
use Rattle.std.proofs.Common.{◌≡◌, ℕ, zero, suc, ◌+◌, ◌-◌, ◌≤◌, List, [], ◌∷◌, ◌++◌, Bool, true, false, sym, ap, ◌∙◌, refl, subst, append_assoc, Option, Some, None, arith}
use Rattle.std.specs.Prelude.{nat_eq, if◌then◌else◌}
use Rattle.std.proofs.lemmas.Bool.{eqb-true}
use Rattle.bword.specs.declared.operators.BinOp.{BinOp}
use Rattle.bword.specs.declared.operators.BinOp.TheVariants as op
use Rattle.blang.specs.declared.token.Token.{Token}
use Rattle.blang.specs.declared.token.Token.TheVariants as token
use Rattle.blang.specs.declared.token.Placed.{Placed}
use Rattle.blang.specs.Trees.{mark, kept, kept_tokens, Expr, Arguments, PrefixOp, Negate, Not, Indirection, Address, PreIncrement, PreDecrement, PostIncrement, PostDecrement, Named, Literal, Text, Grouped, Indexed, Called, Postfixed, Prefixed, Binary, Conditional, Assigned, No_arguments, Another, prefix_token}
use Rattle.bgrammar.specs.Spelling.{comma_after, spell, spell_arguments}
use Rattle.blang.specs.Cut.{placed}
use Rattle.blang.specs.WellFormed.{rank, or_rank, conditional_rank, rvalue_rank, IsPostfix}
use Rattle.bgrammar.specs.Fitting.{words, argument_words, Deeper, Fits, ArgumentsFit}
use Rattle.bgrammar.specs.Reading.{Read, Got, Stop, Reader, ◌>>=◌, first, expect, turns, many}
use Rattle.bgrammar.specs.ExpressionReader.{is_close_paren, is_close_bracket, is_colon, prefix_op, having_rank, op_at, Suffix, Index, Call, Step, suffix, comma, always, ExpressionKind, Operand, Choice, Rvalue, Inner, primary, another, arguments, call, postfix_with, postfix, prefixed, operand, operation, chain, choices, conditional, assigns, assigned, rvalue_from, read_at, inner, reader, is_operand}
use Rattle.bgrammar.proofs.Spelling.{called_spelling}
use Rattle.bgrammar.proofs.Forms.{Mark, close_paren, close_bracket}

-- the tokens are the spelling of what was read, and what is left
abbrev pub Sound : {A : Type 0} → (A → List Placed) → (A → Type 0) → List Placed → Read A → Type 0
Sound say P whole (Got a rest) = (whole ≡ say a ++ kept_tokens rest) × P a
Sound say P whole (Stop rest) = Unit {0}

pub sound_bind : {A B : Type 0} (say : A → List Placed) (tell : B → List Placed) (P : A → Type 0) (Q : B → Type 0) (whole : List Placed) (x : Read A) (f : A → Reader B) → Sound say P whole x → ((a : A) (rest : List Placed) → P a → Sound tell Q (say a ++ kept_tokens rest) (f a rest)) → Sound tell Q whole (x >>= f)
sound_bind say tell P Q whole (Got a rest) f s h = subst (λ w. Sound tell Q w (f a rest)) (sym s.0) (h a rest s.1)
sound_bind say tell P Q whole (Stop rest) f s h = tt

pub sound_weaken : {A : Type 0} (say : A → List Placed) (P Q : A → Type 0) (whole : List Placed) (x : Read A) → ((a : A) → P a → Q a) → Sound say P whole x → Sound say Q whole x
sound_weaken say P Q whole (Got a rest) h s = (s.0, h a s.1)
sound_weaken say P Q whole (Stop rest) h s = tt

-- a loop, from what was read before it
pub sound_turns : {A B : Type 0} (say : A → List Placed) (P : A → Type 0) (more : A → Token → Option B) (body : B → A → Reader A) → ((b : B) (a : A) (ts : List Placed) → more a (first ts) ≡ Some b → P a → Sound say P (say a ++ kept_tokens ts) (body b a ts)) → (n : ℕ) (a : A) (ts : List Placed) → P a → Sound say P (say a ++ kept_tokens ts) (turns more body n a ts)
sound_turns say P more body h zero a ts p = (refl, p)
sound_turns {A} {B} say P more body h (suc n) a ts p = go (more a (first ts)) refl (λ a2 rest p2. sound_turns say P more body h n a2 rest p2)
  where
    go : (o : Option B) → more a (first ts) ≡ o → ((a2 : A) (rest : List Placed) → P a2 → Sound say P (say a2 ++ kept_tokens rest) (turns more body n a2 rest)) → Sound say P (say a ++ kept_tokens ts) (turns more body (suc n) a ts)
    go None eq ih = rw eq (refl, p)
    go (Some b) eq ih = rw eq (sound_bind say say P P (say a ++ kept_tokens ts) (body b a ts) (turns more body n) (h b a ts eq p) ih)

-- a fact for each token that may come first
pub by_first : (P : List Placed → Type 0) → P [] → ((t : Token) (line : ℕ) (ts : List Placed) → P (placed t line ∷ ts)) → (ts : List Placed) → P ts
by_first P none some [] = none
by_first P none some (p ∷ ts) = some p.token p.line ts

-- how loosely what is read at a kind of place may bind
abbrev pub loosest : ExpressionKind → ℕ
loosest Operand = 0
loosest Choice = conditional_rank
loosest Rvalue = rvalue_rank

abbrev pub Below : ℕ → ExpressionKind → ℕ → Expr → Type 0
Below room kind off e = Deeper (λ k. Fits e (loosest kind) k off) room

pub looser : (e : Expr) (r r2 room off : ℕ) → r ≤ r2 → Fits e r room off → Fits e r2 room off
looser (Named w) r r2 room off le h = tt
looser (Literal c) r r2 room off le h = tt
looser (Text bytes offset) r r2 room off le h = h
looser (Grouped e) r r2 room off le h = h
looser (Indexed e f) r r2 room off le h = h
looser (Called e args) r r2 room off le h = h
looser (Postfixed op line e) r r2 room off le h = h
looser (Prefixed op line e) r r2 room off le h = h
looser (Binary op line e f) r r2 room off le h = (omega (arith, h.0), h.1, h.2)
looser _ r r2 room off le h = (omega (arith, h.0), h.1, h.2)

-- the operator that was found
having_is : (r : ℕ) (o op : BinOp) → having_rank r o ≡ Some op → (o ≡ op) × (rank op ≡ r)
having_is r o op h = go (nat_eq (rank o) r) refl h
  where
    go : (b : Bool) → nat_eq (rank o) r ≡ b → (if nat_eq (rank o) r then Some o else None) ≡ Some op → (o ≡ op) × (rank op ≡ r)
    go true e h2 = let m = rw e at h2 in let n : o ≡ op = cc in (n, sym (ap rank n) ∙ eqb-true (rank o) r e)
    go false e h2 = let m = rw e at h2 in cc

pub op_is : (r : ℕ) (t : Token) (op : BinOp) → op_at r t ≡ Some op → (t ≡ token.Operator op) × (rank op ≡ r)
op_is r (token.Operator o) op h = let i = having_is r o op h in (ap (λ x. token.Operator x) i.0, i.1)
op_is r _ op h = cc

prefix_is : (t : Token) (p : PrefixOp) → prefix_op t ≡ Some p → t ≡ prefix_token p
prefix_is (token.Operator op.Sub) p h = let n : Negate ≡ p = cc in ap prefix_token n
prefix_is (token.Operator op.Mul) p h = let n : Indirection ≡ p = cc in ap prefix_token n
prefix_is (token.Operator op.And) p h = let n : Address ≡ p = cc in ap prefix_token n
prefix_is token.Not p h = let n : Not ≡ p = cc in ap prefix_token n
prefix_is token.Increment p h = let n : PreIncrement ≡ p = cc in ap prefix_token n
prefix_is token.Decrement p h = let n : PreDecrement ≡ p = cc in ap prefix_token n
prefix_is _ p h = cc

-- a prefix operator keeps its line
pub prefix_kept : (p : PrefixOp) (line : ℕ) → kept (placed (prefix_token p) line) ≡ placed (prefix_token p) line
prefix_kept Negate line = refl
prefix_kept _ line = refl

pub both_deeper : (P Q : ℕ → Type 0) (room : ℕ) → Deeper P room → Deeper Q room → Deeper (λ k. P k × Q k) room
both_deeper P Q zero p q = p
both_deeper P Q (suc k) p q = (p, q)

-- an expression that may be assigned to stands alone
operand_fits : (e : Expr) (r room off : ℕ) → is_operand e ≡ true → Fits e r room off → Fits e 0 room off
operand_fits (Binary op line e f) r room off h fits = cc
operand_fits (Conditional e f g) r room off h fits = cc
operand_fits (Assigned op line e f) r room off h fits = cc
operand_fits (Named w) r room off h fits = fits
operand_fits _ r room off h fits = fits

-- What is one level deeper is sound, for what fits there; the token before it is dropped only where there is room.
pub record SoundInner (room : ℕ) (inner : Inner) : Type 1 where
  pub enters : (t : Placed) (ts : List Placed) (A : Type 0) (say : A → List Placed) (P : A → Type 0) (whole : List Placed) (f : Reader A) → (Deeper (λ k. Unit {0}) room → Sound say P whole (f ts)) → Sound say P whole (inner.enter (t ∷ ts) >>= λ o. f)
  pub reads : (kind : ExpressionKind) (off : ℕ) (ts : List Placed) → Sound spell (Below room kind off) (kept_tokens ts) (inner.read kind off ts)

-- something with a token that closes it
pub shut : {A B : Type 0} (say : A → List Placed) (tell : B → List Placed) (P : A → Type 0) (Q : B → Type 0) (m : Mark) (f : A → B) (whole ts : List Placed) (x : Read A) → Sound say P ts x → ((a : A) (r : List Placed) → P a → ts ≡ say a ++ (mark m.it ∷ kept_tokens r) → (whole ≡ tell (f a) ++ kept_tokens r) × Q (f a)) → Sound tell Q whole (x >>= λ a r. expect m.is r >>= λ o. Got (f a))
shut say tell P Q m f whole ts (Stop r) s h = tt
shut say tell P Q m f whole ts (Got a []) s h = rw m.unended tt
shut {A} say tell P Q m f whole ts (Got a (t ∷ r)) s h = go (m.is t.token) refl
  where
    go : (b : Bool) → m.is t.token ≡ b → Sound tell Q whole (expect m.is (t ∷ r) >>= λ o. Got (f a))
    go true e = rw e (h a r s.1 (s.0 ∙ ap (λ x. say a ++ (x ∷ kept_tokens r)) (ap (λ x. kept (placed x t.line)) (m.only t.token e) ∙ m.unlined t.line)))
    go false e = rw e tt

module _ (room : ℕ) (inner : Inner) (sound : SoundInner room inner) where
  abbrev Post : ℕ → Expr → Type 0
  Post off e = IsPostfix e × Fits e 0 room off

  primary_sound_at : (off : ℕ) (t : Token) (line : ℕ) (ts : List Placed) → Sound spell (Post off) (kept_tokens (placed t line ∷ ts)) (primary inner off (placed t line ∷ ts))
  primary_sound_at off (token.Name x) line ts = (refl, (tt, tt))
  primary_sound_at off (token.Number n) line ts = (refl, (tt, tt))
  primary_sound_at off (token.Character n) line ts = (refl, (tt, tt))
  primary_sound_at off (token.String s) line ts = (refl, (tt, refl))
  primary_sound_at off token.OpenParen line ts = sound.enters (placed token.OpenParen line) ts Expr spell (Post off) (mark token.OpenParen ∷ kept_tokens ts) (λ r. inner.read Rvalue off r >>= λ e r. expect is_close_paren r >>= λ o. Got (Grouped e)) (λ o.
      shut spell spell (Below room Rvalue off) (Post off) close_paren Grouped (mark token.OpenParen ∷ kept_tokens ts) (kept_tokens ts) (inner.read Rvalue off ts) (sound.reads Rvalue off ts)
      (λ e r fits eq. (ap (λ x. mark token.OpenParen ∷ x) (eq ∙ sym (append_assoc (spell e) (mark token.CloseParen ∷ []) (kept_tokens r))), (tt, fits))))
  primary_sound_at off _ line ts = tt

  primary_sound : (off : ℕ) (ts : List Placed) → Sound spell (Post off) (kept_tokens ts) (primary inner off ts)
  primary_sound off ts = by_first (λ ts. Sound spell (Post off) (kept_tokens ts) (primary inner off ts)) tt (primary_sound_at off) ts

  AllFit : ℕ → Arguments → Type 0
  AllFit off args = Deeper (λ k. ArgumentsFit args k off) room

  joined : (args : Arguments) (e : Expr) (room off : ℕ) → Deeper (λ k. ArgumentsFit args k off) room → Below room Rvalue (off + argument_words args) e → Deeper (λ k. ArgumentsFit (Another args e) k off) room
  joined args e zero off a b = a
  joined args e (suc k) off a b = (a, b)

  single : (e : Expr) (room off : ℕ) → Below room Rvalue off e → Deeper (λ k. ArgumentsFit (Another No_arguments e) k off) room
  single e zero off b = b
  single e (suc k) off b = (tt, subst (λ n. Fits e rvalue_rank k n) (let n : off ≡ off + 0 = omega arith in n) b)

  -- there are arguments already
  abbrev Some_fit : ℕ → Arguments → Type 0
  Some_fit off args = AllFit off args × (comma_after args ≡ mark token.Comma ∷ [])

  another_sound_at : (off : ℕ) (b : Unit {0}) (args : Arguments) (t : Token) (line : ℕ) (ts : List Placed) → comma t ≡ Some b → Some_fit off args → Sound spell_arguments (Some_fit off) (spell_arguments args ++ kept_tokens (placed t line ∷ ts)) (another inner off b args (placed t line ∷ ts))
  unfolding AllFit
  another_sound_at off b args token.Comma line ts h fit = go (inner.read Rvalue (off + argument_words args) ts) (sound.reads Rvalue (off + argument_words args) ts)
    where
      go : (x : Read Expr) → Sound spell (Below room Rvalue (off + argument_words args)) (kept_tokens ts) x → Sound spell_arguments (λ args. Deeper (λ k. ArgumentsFit args k off) room × (comma_after args ≡ mark token.Comma ∷ [])) (spell_arguments args ++ (mark token.Comma ∷ kept_tokens ts)) (x >>= λ e. Got (Another args e))
      go (Got e r) s = (ap (λ x. spell_arguments args ++ (mark token.Comma ∷ x)) s.0 ∙ sym (append_assoc (spell_arguments args) (mark token.Comma ∷ spell e) (kept_tokens r)) ∙ ap (λ x. (spell_arguments args ++ (x ++ spell e)) ++ kept_tokens r) (sym fit.1), (joined args e room off fit.0 s.1, refl))
      go (Stop r) s = tt
  another_sound_at off b args _ line ts h fit = cc

  another_sound : (off : ℕ) (b : Unit {0}) (args : Arguments) (ts : List Placed) → comma (first ts) ≡ Some b → Some_fit off args → Sound spell_arguments (Some_fit off) (spell_arguments args ++ kept_tokens ts) (another inner off b args ts)
  another_sound off b args [] h fit = cc
  another_sound off b args (t ∷ ts) h fit = another_sound_at off b args t.token t.line ts h fit

  arguments_sound : (off : ℕ) (ts : List Placed) → Sound spell_arguments (AllFit off) (kept_tokens ts) (arguments inner off ts)
  unfolding AllFit
  arguments_sound off ts = sound_weaken spell_arguments (λ args. Deeper (λ k. ArgumentsFit args k off) room × (comma_after args ≡ mark token.Comma ∷ [])) (λ args. Deeper (λ k. ArgumentsFit args k off) room) (kept_tokens ts) (arguments inner off ts) (λ args p. p.0)
      (sound_bind spell spell_arguments (Below room Rvalue off) (λ args. Deeper (λ k. ArgumentsFit args k off) room × (comma_after args ≡ mark token.Comma ∷ [])) (kept_tokens ts) (inner.read Rvalue off ts) (λ e. many (always comma) (another inner off) (Another No_arguments e)) (sound.reads Rvalue off ts) (λ e rest fits. sound_turns spell_arguments (λ args. Deeper (λ k. ArgumentsFit args k off) room × (comma_after args ≡ mark token.Comma ∷ [])) (always comma) (another inner off) (another_sound off) _ (Another No_arguments e) rest (single e room off fits, refl)))

  no_arguments : (off room : ℕ) → Deeper (λ k. Unit {0}) room → Deeper (λ k. ArgumentsFit No_arguments k off) room
  no_arguments off zero o = o
  no_arguments off (suc k) o = tt

  call_filled : (off : ℕ) (e : Expr) (ts : List Placed) → Post off e → Sound spell (Post off) (spell e ++ (mark token.OpenParen ∷ kept_tokens ts)) (arguments inner (off + words e) ts >>= λ args r. expect is_close_paren r >>= λ o. Got (Called e args))
  unfolding AllFit
  call_filled off e ts p = shut spell_arguments spell (λ args. Deeper (λ k. ArgumentsFit args k (off + words e)) room) (Post off) close_paren (λ args. Called e args) (spell e ++ (mark token.OpenParen ∷ kept_tokens ts)) (kept_tokens ts) (arguments inner (off + words e) ts) (arguments_sound (off + words e) ts)
      (λ args r fits eq. (ap (λ x. spell e ++ (mark token.OpenParen ∷ x)) (eq ∙ sym (append_assoc (spell_arguments args) (mark token.CloseParen ∷ []) (kept_tokens r))) ∙ sym (append_assoc (spell e) (mark token.OpenParen ∷ (spell_arguments args ++ (mark token.CloseParen ∷ []))) (kept_tokens r)) ∙ ap (λ l. l ++ kept_tokens r) (sym (called_spelling e args)), (tt, (p.0, p.1, fits))))

  call_sound_at : (off : ℕ) (e : Expr) (t : Token) (line : ℕ) (ts : List Placed) → Post off e → Deeper (λ k. Unit {0}) room → Sound spell (Post off) (spell e ++ (mark token.OpenParen ∷ kept_tokens (placed t line ∷ ts))) (call inner off e (placed t line ∷ ts))
  call_sound_at off e token.CloseParen line ts p o = (sym (append_assoc (spell e) (mark token.OpenParen ∷ mark token.CloseParen ∷ []) (kept_tokens ts)) ∙ ap (λ l. l ++ kept_tokens ts) (sym (called_spelling e No_arguments)), (tt, (p.0, p.1, no_arguments (off + words e) room o)))
  call_sound_at off e t line ts p o = call_filled off e (placed t line ∷ ts) p

  call_sound : (off : ℕ) (e : Expr) (ts : List Placed) → Post off e → Deeper (λ k. Unit {0}) room → Sound spell (Post off) (spell e ++ (mark token.OpenParen ∷ kept_tokens ts)) (call inner off e ts)
  call_sound off e [] p o = call_filled off e [] p
  call_sound off e (t ∷ ts) p o = call_sound_at off e t.token t.line ts p o

  postfix_with_at : (off : ℕ) (b : Suffix) (e : Expr) (t : Token) (line : ℕ) (ts : List Placed) → suffix t ≡ Some b → Post off e → Sound spell (Post off) (spell e ++ kept_tokens (placed t line ∷ ts)) (postfix_with inner off b e (placed t line ∷ ts))
  postfix_with_at off Index e token.OpenBracket line ts h p = sound.enters (placed token.OpenBracket line) ts Expr spell (Post off) (spell e ++ (mark token.OpenBracket ∷ kept_tokens ts)) (λ r. inner.read Rvalue (off + words e) r >>= λ f r. expect is_close_bracket r >>= λ o. Got (Indexed e f)) (λ o.
      shut spell spell (Below room Rvalue (off + words e)) (Post off) close_bracket (λ f. Indexed e f) (spell e ++ (mark token.OpenBracket ∷ kept_tokens ts)) (kept_tokens ts) (inner.read Rvalue (off + words e) ts) (sound.reads Rvalue (off + words e) ts)
      (λ f r fits eq. (ap (λ x. spell e ++ (mark token.OpenBracket ∷ x)) (eq ∙ sym (append_assoc (spell f) (mark token.CloseBracket ∷ []) (kept_tokens r))) ∙ sym (append_assoc (spell e) (mark token.OpenBracket ∷ (spell f ++ (mark token.CloseBracket ∷ []))) (kept_tokens r)), (tt, (p.0, p.1, fits)))))
  postfix_with_at off Call e token.OpenParen line ts h p = sound.enters (placed token.OpenParen line) ts Expr spell (Post off) (spell e ++ (mark token.OpenParen ∷ kept_tokens ts)) (call inner off e) (λ o. call_sound off e ts p o)
  postfix_with_at off (Step PostIncrement) e token.Increment line ts h p = (sym (append_assoc (spell e) (placed token.Increment line ∷ []) (kept_tokens ts)), (tt, (p.0, p.1)))
  postfix_with_at off (Step PostDecrement) e token.Decrement line ts h p = (sym (append_assoc (spell e) (placed token.Decrement line ∷ []) (kept_tokens ts)), (tt, (p.0, p.1)))
  postfix_with_at off (Step op) e token.Increment line ts h p = cc
  postfix_with_at off (Step op) e token.Decrement line ts h p = cc
  postfix_with_at off Index e _ line ts h p = cc
  postfix_with_at off _ e _ line ts h p = cc

  postfix_with_sound : (off : ℕ) (b : Suffix) (e : Expr) (ts : List Placed) → suffix (first ts) ≡ Some b → Post off e → Sound spell (Post off) (spell e ++ kept_tokens ts) (postfix_with inner off b e ts)
  postfix_with_sound off b e [] h p = cc
  postfix_with_sound off b e (t ∷ ts) h p = postfix_with_at off b e t.token t.line ts h p

  postfix_sound : (off : ℕ) (ts : List Placed) → Sound spell (Post off) (kept_tokens ts) (postfix inner off ts)
  postfix_sound off ts = sound_bind spell spell (Post off) (Post off) (kept_tokens ts) (primary inner off ts) (many (always suffix) (postfix_with inner off)) (primary_sound off ts) (λ e rest p. sound_turns spell (Post off) (always suffix) (postfix_with inner off) (postfix_with_sound off) _ e rest p)

  abbrev Loose : ℕ → ℕ → Expr → Type 0
  Loose r off e = Fits e r room off

  made_prefixed : (off : ℕ) (op : PrefixOp) (line : ℕ) (tail : List Placed) (x : Read Expr) → Sound spell (Below room Operand off) tail x → Sound spell (Loose 0 off) (placed (prefix_token op) line ∷ tail) (x >>= λ e. Got (Prefixed op line e))
  made_prefixed off op line tail (Got e r) s = (ap (λ x. placed (prefix_token op) line ∷ x) s.0, s.1)
  made_prefixed off op line tail (Stop r) s = tt

  -- after a token that opens a level, where what is made of it has its line
  prefixed_sound : (off : ℕ) (op : PrefixOp) (ts : List Placed) → prefix_op (first ts) ≡ Some op → Sound spell (Loose 0 off) (kept_tokens ts) (prefixed inner off op ts)
  prefixed_sound off op [] h = cc
  prefixed_sound off op (t ∷ us) h = sound.enters t us Expr spell (Loose 0 off) (kept_tokens (t ∷ us)) (λ r. inner.read Operand off r >>= λ e. Got (Prefixed op t.line e)) (λ o. subst (λ x. Sound spell (Loose 0 off) (x ∷ kept_tokens us) (inner.read Operand off us >>= λ e. Got (Prefixed op t.line e))) (sym (ap (λ x. kept (placed x t.line)) (prefix_is t.token op h) ∙ prefix_kept op t.line)) (made_prefixed off op t.line (kept_tokens us) (inner.read Operand off us) (sound.reads Operand off us)))

  operand_sound : (off : ℕ) (ts : List Placed) → Sound spell (Loose 0 off) (kept_tokens ts) (operand inner off ts)
  operand_sound off ts = go (prefix_op (first ts)) refl
    where
      go : (o : Option PrefixOp) → prefix_op (first ts) ≡ o → Sound spell (Loose 0 off) (kept_tokens ts) (operand inner off ts)
      go (Some op) h = rw h (prefixed_sound off op ts h)
      go None h = rw h (sound_weaken spell (Post off) (Loose 0 off) (kept_tokens ts) (postfix inner off ts) (λ e p. p.1) (postfix_sound off ts))

  made_binary : (r off : ℕ) (op : BinOp) (line : ℕ) (e : Expr) (ts : List Placed) → Loose (suc r) off e → rank op ≡ suc r → (x : Read Expr) → Sound spell (Loose r (off + words e)) ts x → Sound spell (Loose (suc r) off) (spell e ++ (placed (token.Operator op) line ∷ ts)) (x >>= λ f. Got (Binary op line e f))
  made_binary r off op line e ts p ranked (Got f rest) s =
      let le : rank op ≤ suc r = omega arith in
      let less : r ≡ rank op - 1 = omega arith in
      (ap (λ x. spell e ++ (placed (token.Operator op) line ∷ x)) s.0 ∙ sym (append_assoc (spell e) (placed (token.Operator op) line ∷ spell f) (kept_tokens rest)), (le, subst (λ n. Fits e n room off) (sym ranked) p, subst (λ n. Fits f n room (off + words e)) less s.1))
  made_binary r off op line e ts p ranked (Stop rest) s = tt

  operation_sound : (r off : ℕ) → ((off : ℕ) (ts : List Placed) → Sound spell (Loose r off) (kept_tokens ts) (chain inner r off ts)) → (op : BinOp) (e : Expr) (ts : List Placed) → op_at (suc r) (first ts) ≡ Some op → Loose (suc r) off e → Sound spell (Loose (suc r) off) (spell e ++ kept_tokens ts) (operation (chain inner r) off op e ts)
  operation_sound r off tighter op e [] h p = cc
  operation_sound r off tighter op e (t ∷ ts) h p = let f = op_is (suc r) t.token op h in subst (λ x. Sound spell (Loose (suc r) off) (spell e ++ (kept (placed x t.line) ∷ kept_tokens ts)) (chain inner r (off + words e) ts >>= λ f. Got (Binary op t.line e f))) (sym f.0) (made_binary r off op t.line e (kept_tokens ts) p f.1 (chain inner r (off + words e) ts) (tighter (off + words e) ts))

  chain_sound : (r off : ℕ) (ts : List Placed) → Sound spell (Loose r off) (kept_tokens ts) (chain inner r off ts)
  chain_sound zero off ts = operand_sound off ts
  chain_sound (suc r) off ts = sound_bind spell spell (Loose r off) (Loose (suc r) off) (kept_tokens ts) (chain inner r off ts) (many (always (op_at (suc r))) (operation (chain inner r) off)) (chain_sound r off ts) (λ e rest p. sound_turns spell (Loose (suc r) off) (always (op_at (suc r))) (operation (chain inner r) off) (operation_sound r off (chain_sound r)) _ e rest (looser e r (suc r) room off (omega arith) p))

  last_sound_at : (off : ℕ) (e : Expr) → Loose or_rank off e → (ts : List Placed) (f : Expr) (t : Token) (line : ℕ) (rest : List Placed) → ts ≡ spell f ++ kept_tokens (placed t line ∷ rest) → Below room Rvalue (off + words e) f → Sound spell (Loose conditional_rank off) (spell e ++ (mark token.Question ∷ ts)) (expect is_colon (placed t line ∷ rest) >>= λ o r. inner.read Choice (off + words e + words f) r >>= λ g. Got (Conditional e f g))
  last_sound_at off e p ts f token.Colon line rest eq q = go (inner.read Choice (off + words e + words f) rest) (sound.reads Choice (off + words e + words f) rest)
    where
      go : (x : Read Expr) → Sound spell (Below room Choice (off + words e + words f)) (kept_tokens rest) x → Sound spell (Loose conditional_rank off) (spell e ++ (mark token.Question ∷ ts)) (x >>= λ g. Got (Conditional e f g))
      go (Got g r) s =
          let le : 8 ≤ 8 = omega arith in
          (ap (λ x. spell e ++ (mark token.Question ∷ x)) (eq ∙ ap (λ x. spell f ++ (mark token.Colon ∷ x)) s.0 ∙ sym (append_assoc (spell f) (mark token.Colon ∷ spell g) (kept_tokens r))) ∙ sym (append_assoc (spell e) (mark token.Question ∷ (spell f ++ (mark token.Colon ∷ spell g))) (kept_tokens r)), (le, p, both_deeper (λ k. Fits f rvalue_rank k (off + words e)) (λ k. Fits g conditional_rank k (off + words e + words f)) room q s.1))
      go (Stop r) s = tt
  last_sound_at off e p ts f _ line rest eq q = tt

  last_sound : (off : ℕ) (e : Expr) → Loose or_rank off e → (ts : List Placed) (f : Expr) (rest : List Placed) → ts ≡ spell f ++ kept_tokens rest → Below room Rvalue (off + words e) f → Sound spell (Loose conditional_rank off) (spell e ++ (mark token.Question ∷ ts)) (expect is_colon rest >>= λ o r. inner.read Choice (off + words e + words f) r >>= λ g. Got (Conditional e f g))
  last_sound off e p ts f [] eq q = tt
  last_sound off e p ts f (t ∷ rest) eq q = last_sound_at off e p ts f t.token t.line rest eq q

  conditional_sound_at : (off : ℕ) (e : Expr) (t : Token) (line : ℕ) (ts : List Placed) → Loose or_rank off e → Sound spell (Loose conditional_rank off) (spell e ++ kept_tokens (placed t line ∷ ts)) (conditional inner off e (placed t line ∷ ts))
  conditional_sound_at off e token.Question line ts p = sound.enters (placed token.Question line) ts Expr spell (Loose conditional_rank off) (spell e ++ (mark token.Question ∷ kept_tokens ts)) (choices inner off e) (λ o. go (inner.read Rvalue (off + words e) ts) (sound.reads Rvalue (off + words e) ts))
    where
      go : (x : Read Expr) → Sound spell (Below room Rvalue (off + words e)) (kept_tokens ts) x → Sound spell (Loose conditional_rank off) (spell e ++ (mark token.Question ∷ kept_tokens ts)) (x >>= λ f r. expect is_colon r >>= λ o r. inner.read Choice (off + words e + words f) r >>= λ g. Got (Conditional e f g))
      go (Got f r) s = last_sound off e p (kept_tokens ts) f r s.0 s.1
      go (Stop r) s = tt
  conditional_sound_at off e _ line ts p = (refl, looser e or_rank conditional_rank room off (omega arith) p)

  conditional_sound : (off : ℕ) (e : Expr) (ts : List Placed) → Loose or_rank off e → Sound spell (Loose conditional_rank off) (spell e ++ kept_tokens ts) (conditional inner off e ts)
  conditional_sound off e [] p = (refl, looser e or_rank conditional_rank room off (omega arith) p)
  conditional_sound off e (t ∷ ts) p = conditional_sound_at off e t.token t.line ts p

  -- what is assigned to stands alone
  assigns_is : (e : Expr) (t : Token) (o : Option BinOp) → assigns e t ≡ Some o → (is_operand e ≡ true) × (t ≡ token.Assign o)
  assigns_is e (token.Assign a) o h = go (is_operand e) refl
    where
      go : (b : Bool) → is_operand e ≡ b → (is_operand e ≡ true) × (token.Assign a ≡ token.Assign o)
      go true q = (q, let m = rw q at h in let n : a ≡ o = cc in ap (λ x. token.Assign x) n)
      go false q = let m = rw q at h in cc
  assigns_is e _ o h = cc

  made_assigned : (off : ℕ) (op : Option BinOp) (line : ℕ) (e : Expr) (tail : List Placed) → Fits e 0 room off → (x : Read Expr) → Sound spell (Below room Rvalue (off + words e)) tail x → Sound spell (Loose rvalue_rank off) (spell e ++ (placed (token.Assign op) line ∷ tail)) (x >>= λ f. Got (Assigned op line e f))
  made_assigned off op line e tail q (Got f r) s =
      let le : 9 ≤ 9 = omega arith in
      (ap (λ x. spell e ++ (placed (token.Assign op) line ∷ x)) s.0 ∙ sym (append_assoc (spell e) (placed (token.Assign op) line ∷ spell f) (kept_tokens r)), (le, q, s.1))
  made_assigned off op line e tail q (Stop r) s = tt

  assigned_sound : (off : ℕ) (op : Option BinOp) (e : Expr) (ts : List Placed) → assigns e (first ts) ≡ Some op → Loose or_rank off e → Sound spell (Loose rvalue_rank off) (spell e ++ kept_tokens ts) (assigned inner off e op ts)
  assigned_sound off op e [] h p = let i = assigns_is e token.End op h in let n : token.End ≡ token.Assign op = i.1 in cc
  assigned_sound off op e (t ∷ us) h p =
      let i = assigns_is e t.token op h in
      sound.enters t us Expr spell (Loose rvalue_rank off) (spell e ++ kept_tokens (t ∷ us)) (λ r. inner.read Rvalue (off + words e) r >>= λ f. Got (Assigned op t.line e f)) (λ o. subst (λ x. Sound spell (Loose rvalue_rank off) (spell e ++ (kept (placed x t.line) ∷ kept_tokens us)) (inner.read Rvalue (off + words e) us >>= λ f. Got (Assigned op t.line e f))) (sym i.1) (made_assigned off op t.line e (kept_tokens us) (operand_fits e or_rank room off i.0 p) (inner.read Rvalue (off + words e) us) (sound.reads Rvalue (off + words e) us)))

  rvalue_from_sound : (off : ℕ) (e : Expr) (ts : List Placed) → Loose or_rank off e → Sound spell (Loose rvalue_rank off) (spell e ++ kept_tokens ts) (rvalue_from inner off e ts)
  rvalue_from_sound off e ts p = go (assigns e (first ts)) refl
    where
      go : (o : Option (Option BinOp)) → assigns e (first ts) ≡ o → Sound spell (Loose rvalue_rank off) (spell e ++ kept_tokens ts) (rvalue_from inner off e ts)
      go (Some op) h = rw h (assigned_sound off op e ts h p)
      go None h = rw h (sound_weaken spell (Loose conditional_rank off) (Loose rvalue_rank off) (spell e ++ kept_tokens ts) (conditional inner off e ts) (λ e p. looser e conditional_rank rvalue_rank room off (omega arith) p) (conditional_sound off e ts p))

  read_sound : (kind : ExpressionKind) (off : ℕ) (ts : List Placed) → Sound spell (Loose (loosest kind) off) (kept_tokens ts) (read_at inner kind off ts)
  read_sound Operand off ts = operand_sound off ts
  read_sound Choice off ts = sound_bind spell spell (Loose or_rank off) (Loose conditional_rank off) (kept_tokens ts) (chain inner or_rank off ts) (conditional inner off) (chain_sound or_rank off ts) (conditional_sound off)
  read_sound Rvalue off ts = sound_bind spell spell (Loose or_rank off) (Loose rvalue_rank off) (kept_tokens ts) (chain inner or_rank off ts) (rvalue_from inner off) (chain_sound or_rank off ts) (rvalue_from_sound off)

inner_sound : (room : ℕ) → SoundInner room (inner room)
inner_sound zero = record { enters = λ t ts A say P whole f h. tt; reads = λ kind off ts. tt }
inner_sound (suc room) = record { enters = λ t ts A say P whole f h. h tt; reads = λ kind off ts. read_sound room (inner room) (inner_sound room) kind off ts }

-- what is read at a kind of place is spelled so, and fits there
pub reader_sound : (room : ℕ) (kind : ExpressionKind) (off : ℕ) (ts : List Placed) → Sound spell (λ e. Fits e (loosest kind) room off) (kept_tokens ts) (reader room kind off ts)
reader_sound room kind off ts = read_sound room (inner room) (inner_sound room) kind off ts
