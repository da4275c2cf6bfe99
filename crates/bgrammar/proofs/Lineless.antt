-- Lines decide nothing: of tokens that are bare alike, readers make things that are alike.
use Rattle.std.proofs.Common.{◌≡◌, ℕ, zero, suc, ◌+◌, List, [], ◌∷◌, ◌++◌, length, map, Bool, true, false, sym, ap, ◌∙◌, refl, subst, Option, Some, None, arith}
use Rattle.std.specs.Prelude.{if◌then◌else◌}
use Rattle.std.proofs.lemmas.List.{length-map}
use Rattle.blang.specs.declared.token.Token.{Token}
use Rattle.blang.specs.declared.token.Token.TheVariants as token
use Rattle.blang.specs.declared.token.Placed.{Placed}
use Rattle.blang.specs.Trees.{bare, Expr, Arguments, PrefixOp, Grouped, Indexed, Called, Prefixed, Binary, Conditional, Assigned, No_arguments, Another}
use Rattle.blang.specs.Walk.{comma_before_next}
use Rattle.blang.specs.WellFormed.{or_rank}
use Rattle.bword.specs.declared.operators.BinOp.{BinOp}
use Rattle.bgrammar.specs.Fitting.{words, argument_words}
use Rattle.bgrammar.specs.Reading.{Read, Got, Stop, Reader, ◌>>=◌, at_some, first, line_ahead, after, expect, turns, many}
use Rattle.bgrammar.specs.ExpressionReader.{is_operand, is_close_paren, is_close_bracket, is_question, is_colon, prefix_op, op_at, Suffix, Index, Call, Step, suffix, comma, always, ExpressionKind, Operand, Choice, Rvalue, Inner, primary_at, primary, another, arguments, call, postfix_with, postfix, prefixed, operand, operation, chain, choices, conditional, assigns, assigned, rvalue_from, read_at, inner, reader}
use Rattle.bgrammar.specs.Commas.{comma_item, list_reader}
use Rattle.bgrammar.proofs.WalkLaws.{callee_words, plain_words, comma_plain}

abbrev pub BareAlike : List Placed → List Placed → Type 0
BareAlike ts us = map bare ts ≡ map bare us

pub first_alike : (ts us : List Placed) → BareAlike ts us → first ts ≡ first us
first_alike [] [] h = refl
first_alike [] (u ∷ us) h = cc
first_alike (t ∷ ts) [] h = cc
first_alike (t ∷ ts) (u ∷ us) h = let e : t.token ≡ u.token = cc in e

pub after_alike : (ts us : List Placed) → BareAlike ts us → BareAlike (after ts) (after us)
after_alike [] [] h = refl
after_alike [] (u ∷ us) h = cc
after_alike (t ∷ ts) [] h = cc
after_alike (t ∷ ts) (u ∷ us) h = let e : map bare ts ≡ map bare us = cc in e

pub length_alike : (ts us : List Placed) → BareAlike ts us → length ts ≡ length us
length_alike ts us h = sym (length-map ts bare) ∙ ap length h ∙ length-map us bare

-- both got things that are alike, or both stopped, and what is left is bare alike
abbrev pub ReadAlike : {A : Type 0} → (A → A → Type 0) → Read A → Read A → Type 0
ReadAlike R (Got a r) (Got b s) = R a b × BareAlike r s
ReadAlike R (Stop r) (Stop s) = BareAlike r s
ReadAlike R _ _ = ⊥

abbrev pub Lineless : {A : Type 0} → (A → A → Type 0) → Reader A → Reader A → Type 0
Lineless R p q = (ts us : List Placed) → BareAlike ts us → ReadAlike R (p ts) (q us)

-- nothing has to be alike
abbrev pub Any : {A : Type 0} → A → A → Type 0
Any a b = Unit {0}

pub bind_lineless : {A B : Type 0} (R : A → A → Type 0) (S : B → B → Type 0) (m n : Reader A) (f g : A → Reader B) → Lineless R m n → ((a b : A) → R a b → Lineless S (f a) (g b)) → Lineless S (λ ts. m ts >>= f) (λ ts. n ts >>= g)
bind_lineless {A} R S m n f g hm hf ts us e = go (m ts) (n us) (hm ts us e)
  where
    go : (x y : Read A) → ReadAlike R x y → ReadAlike S (x >>= f) (y >>= g)
    go (Got a r) (Got b s) h = hf a b h.0 r s h.1
    go (Stop r) (Stop s) h = h
    go (Got a r) (Stop s) h = absurd h
    go (Stop r) (Got b s) h = absurd h

pub weaker : {A : Type 0} (R S : A → A → Type 0) (p q : Reader A) → ((a b : A) → R a b → S a b) → Lineless R p q → Lineless S p q
weaker {A} R S p q w h ts us e = go (p ts) (q us) (h ts us e)
  where
    go : (x y : Read A) → ReadAlike R x y → ReadAlike S x y
    go (Got a r) (Got b s) k = (w a b k.0, k.1)
    go (Stop r) (Stop s) k = k
    go (Got a r) (Stop s) k = absurd k
    go (Stop r) (Got b s) k = absurd k

pub map_lineless : {A B : Type 0} (R : A → A → Type 0) (S : B → B → Type 0) (m n : Reader A) (f g : A → B) → Lineless R m n → ((a b : A) → R a b → S (f a) (g b)) → Lineless S (λ ts. m ts >>= λ a. Got (f a)) (λ ts. n ts >>= λ a. Got (g a))
map_lineless R S m n f g hm hf = bind_lineless R S m n (λ a. Got (f a)) (λ a. Got (g a)) hm (λ a b r ts us e. (hf a b r, e))

pub after_lineless : {A : Type 0} (R : A → A → Type 0) (p q : Reader A) → Lineless R p q → Lineless R (λ ts. p (after ts)) (λ ts. q (after ts))
after_lineless R p q h ts us e = h (after ts) (after us) (after_alike ts us e)

pub if_lineless : {A : Type 0} (R : A → A → Type 0) (is : Token → Bool) (p q p2 q2 : Reader A) → Lineless R p p2 → Lineless R q q2 → Lineless R (λ ts. if is (first ts) then p ts else q ts) (λ ts. if is (first ts) then p2 ts else q2 ts)
if_lineless R is p q p2 q2 hp hq ts us e = subst (λ t. ReadAlike R (if is (first ts) then p ts else q ts) (if is t then p2 us else q2 us)) (first_alike ts us e) (go (is (first ts)))
  where
    go : (b : Bool) → ReadAlike R (if b then p ts else q ts) (if b then p2 us else q2 us)
    go true = hp ts us e
    go false = hq ts us e

pub expect_lineless : {A : Type 0} (R : A → A → Type 0) (is : Token → Bool) (f g : Reader A) → Lineless R f g → Lineless R (λ ts. expect is ts >>= λ o. f) (λ ts. expect is ts >>= λ o. g)
expect_lineless R is f g h = bind_lineless Any R (expect is) (expect is) (λ o. f) (λ o. g) (if_lineless Any is (λ ts. Got tt (after ts)) (λ ts. Stop ts) (λ ts. Got tt (after ts)) (λ ts. Stop ts) (λ ts us e. (tt, after_alike ts us e)) (λ ts us e. e)) (λ o p r. h)

-- by the next token
pub at_first : {A : Type 0} (R : A → A → Type 0) (f g : Token → Reader A) → ((t : Token) → Lineless R (f t) (g t)) → Lineless R (λ ts. f (first ts) ts) (λ ts. g (first ts) ts)
at_first R f g h ts us e = subst (λ t. ReadAlike R (f (first ts) ts) (g t us)) (first_alike ts us e) (h (first ts) ts us e)

abbrev pub MaybeAlike : {B : Type 0} → (B → B → Type 0) → Option B → Option B → Type 0
MaybeAlike T None None = Unit {0}
MaybeAlike T (Some x) (Some y) = T x y
MaybeAlike T _ _ = ⊥

pub some_lineless : {A B : Type 0} (R : A → A → Type 0) (T : B → B → Type 0) (more more2 : Token → Option B) (f g : B → Reader A) (p q : Reader A) → ((t : Token) → MaybeAlike T (more t) (more2 t)) → ((x y : B) → T x y → Lineless R (f x) (g y)) → Lineless R p q → Lineless R (λ ts. at_some (more (first ts)) (λ b. f b ts) (p ts)) (λ ts. at_some (more2 (first ts)) (λ b. g b ts) (q ts))
some_lineless {B = B} R T more more2 f g p q agree hf hp = at_first R (λ t ts. at_some (more t) (λ b. f b ts) (p ts)) (λ t ts. at_some (more2 t) (λ b. g b ts) (q ts)) (λ t ts us e. go ts us e (more t) (more2 t) (agree t))
  where
    go : (ts us : List Placed) → BareAlike ts us → (o o2 : Option B) → MaybeAlike T o o2 → ReadAlike R (at_some o (λ b. f b ts) (p ts)) (at_some o2 (λ b. g b us) (q us))
    go ts us e None None h = hp ts us e
    go ts us e (Some x) (Some y) h = hf x y h ts us e
    go ts us e None (Some y) h = absurd h
    go ts us e (Some x) None h = absurd h

module _ {A B : Type 0} (R : A → A → Type 0) (T : B → B → Type 0) (more : A → Token → Option B) (body : B → A → Reader A) (agree : (a b : A) → R a b → (t : Token) → MaybeAlike T (more a t) (more b t)) (each : (x y : B) (a b : A) → T x y → R a b → Lineless R (body x a) (body y b)) where
  turns_lineless : (n : ℕ) (a b : A) → R a b → Lineless R (turns more body n a) (turns more body n b)
  turns_lineless zero a b r = λ ts us e. (r, e)
  turns_lineless (suc n) a b r = some_lineless R T (more a) (more b) (λ x ts. body x a ts >>= turns more body n) (λ x ts. body x b ts >>= turns more body n) (Got a) (Got b) (agree a b r) (λ x y h. bind_lineless R R (body x a) (body y b) (turns more body n) (turns more body n) (each x y a b h r) (turns_lineless n)) (λ ts us e. (r, e))

  pub loop_lineless : (a b : A) → R a b → Lineless R (many more body a) (many more body b)
  loop_lineless a b r ts us e = subst (λ n. ReadAlike R (turns more body (length ts) a ts) (turns more body n b us)) (length_alike ts us e) (turns_lineless (length ts) a b r ts us e)

itself : {B : Type 0} (o : Option B) → MaybeAlike (λ x y. x ≡ y) o o
itself None = tt
itself (Some x) = refl

-- a loop that goes on by its tokens alone
pub many_lineless : {A B : Type 0} (R : A → A → Type 0) (more : Token → Option B) (body : B → A → Reader A) → ((x : B) (a b : A) → R a b → Lineless R (body x a) (body x b)) → (a b : A) → R a b → Lineless R (many (always more) body a) (many (always more) body b)
many_lineless R more body each = loop_lineless R (λ x y. x ≡ y) (always more) body (λ a b r t. itself (more t)) (λ x y a b h r. subst (λ y. Lineless R (body x a) (body y b)) h (each x a b r))

pub list_lineless : {A : Type 0} (R : A → A → Type 0) (L : List A → List A → Type 0) (item : List A → Reader A) → ((xs ys : List A) → L xs ys → Lineless R (item xs) (item ys)) → L [] [] → ((xs ys : List A) (x y : A) → L xs ys → R x y → L (xs ++ x ∷ []) (ys ++ y ∷ [])) → Lineless L (list_reader item) (list_reader item)
list_lineless R L item h none more = bind_lineless R L (item []) (item []) (λ x. many (always comma) (comma_item item) (x ∷ [])) (λ x. many (always comma) (comma_item item) (x ∷ [])) (h [] [] none)
    (λ x y r. many_lineless L comma (comma_item item) (λ o xs ys l. after_lineless L _ _ (map_lineless R L (item xs) (item ys) (λ x. xs ++ x ∷ []) (λ x. ys ++ x ∷ []) (h xs ys l) (λ x y r. more xs ys x y l r))) (x ∷ []) (y ∷ []) (more [] [] x y none r))

-- Expressions: as many string words, and alike as to assignment.
abbrev pub SameWords : Expr → Expr → Type 0
SameWords e f = (words e ≡ words f) × (is_operand e ≡ is_operand f)

abbrev SameArguments : Arguments → Arguments → Type 0
SameArguments args others = argument_words args ≡ argument_words others

same_another : (args others : Arguments) (e f : Expr) → SameArguments args others → words e ≡ words f → SameArguments (Another args e) (Another others f)
same_another args others e f h k = omega (arith, h, k, plain_words (comma_before_next args) (comma_plain args), plain_words (comma_before_next others) (comma_plain others))

same_assigns : (e f : Expr) → is_operand e ≡ is_operand f → (t : Token) → MaybeAlike (λ x y. x ≡ y) (assigns e t) (assigns f t)
same_assigns e f h t = subst (MaybeAlike (λ x y. x ≡ y) (assigns e t)) (same t) (itself (assigns e t))
  where
    same : (t : Token) → assigns e t ≡ assigns f t
    same (token.Assign op) = ap (λ b. if b then Some op else None) h
    same _ = refl

record LinelessInner (inner : Inner) : Type 0 where
  enter : Lineless (λ o p. Unit {0}) inner.enter inner.enter
  read : (kind : ExpressionKind) (off : ℕ) → Lineless SameWords (inner.read kind off) (inner.read kind off)

module _ (inner : Inner) (h : LinelessInner inner) where
  -- at equal offsets
  read_at_offset : (kind : ExpressionKind) (off off2 : ℕ) → off ≡ off2 → Lineless SameWords (inner.read kind off) (inner.read kind off2)
  read_at_offset kind off off2 e = subst (λ n. Lineless SameWords (inner.read kind off) (inner.read kind n)) e (h.read kind off)

  -- in a level of its own
  entered : {A : Type 0} (R : A → A → Type 0) (f g : Reader A) → Lineless R f g → Lineless R (λ ts. inner.enter ts >>= λ o. f) (λ ts. inner.enter ts >>= λ o. g)
  entered R f g hf = bind_lineless Any R inner.enter inner.enter (λ o. f) (λ o. g) h.enter (λ o p r. hf)

  -- and then a token that closes it
  closed : (is : Token → Bool) (off off2 : ℕ) (made made2 : Expr → Expr) → off ≡ off2 → ((e f : Expr) → words e ≡ words f → SameWords (made e) (made2 f)) → Lineless SameWords (λ ts. inner.read Rvalue off ts >>= λ e r. expect is r >>= λ o. Got (made e)) (λ ts. inner.read Rvalue off2 ts >>= λ e r. expect is r >>= λ o. Got (made2 e))
  closed is off off2 made made2 e hm = bind_lineless SameWords SameWords (inner.read Rvalue off) (inner.read Rvalue off2) _ _ (read_at_offset Rvalue off off2 e) (λ e f r. expect_lineless SameWords is (Got (made e)) (Got (made2 f)) (λ ts us b. (hm e f r.0, b)))

  primary_lineless : (off : ℕ) → Lineless SameWords (primary inner off) (primary inner off)
  primary_lineless off = at_first SameWords (primary_at inner off) (primary_at inner off) at
    where
      at : (t : Token) → Lineless SameWords (primary_at inner off t) (primary_at inner off t)
      at (token.Name x) ts us e = ((refl, refl), after_alike ts us e)
      at (token.Number n) ts us e = ((refl, refl), after_alike ts us e)
      at (token.Character n) ts us e = ((refl, refl), after_alike ts us e)
      at (token.String s) ts us e = ((refl, refl), after_alike ts us e)
      at token.OpenParen ts us e = entered SameWords _ _ (closed is_close_paren off off Grouped Grouped refl (λ e f w. (omega (arith, w), refl))) ts us e
      at _ ts us e = e

  arguments_lineless : (off off2 : ℕ) → off ≡ off2 → Lineless SameArguments (arguments inner off) (arguments inner off2)
  arguments_lineless off off2 same = subst (λ n. Lineless SameArguments (arguments inner off) (arguments inner n)) same
      (bind_lineless SameWords SameArguments (inner.read Rvalue off) (inner.read Rvalue off) _ _ (h.read Rvalue off) (λ e f r. many_lineless SameArguments comma (another inner off)
      (λ o args others a. after_lineless SameArguments _ _ (map_lineless SameWords SameArguments _ _ (λ e. Another args e) (λ e. Another others e) (read_at_offset Rvalue (off + argument_words args) (off + argument_words others) (ap (λ n. off + n) a)) (λ e f r. same_another args others e f a r.0))) (Another No_arguments e) (Another No_arguments f) (same_another No_arguments No_arguments e f refl r.0)))

  same_called : (e f : Expr) (args others : Arguments) → words e ≡ words f → SameArguments args others → SameWords (Called e args) (Called f others)
  same_called e f args others w a = (omega (arith, w, a, callee_words e, callee_words f), refl)

  call_lineless : (off : ℕ) (e f : Expr) → SameWords e f → Lineless SameWords (call inner off e) (call inner off f)
  call_lineless off e f r = if_lineless SameWords is_close_paren _ _ _ _ (λ ts us b. (same_called e f No_arguments No_arguments r.0 refl, after_alike ts us b))
      (bind_lineless SameArguments SameWords (arguments inner (off + words e)) (arguments inner (off + words f)) _ _ (arguments_lineless (off + words e) (off + words f) (ap (λ n. off + n) r.0)) (λ args others a. expect_lineless SameWords is_close_paren (Got (Called e args)) (Got (Called f others)) (λ ts us b. (same_called e f args others r.0 a, b))))

  postfix_lineless : (off : ℕ) → Lineless SameWords (postfix inner off) (postfix inner off)
  postfix_lineless off = bind_lineless SameWords SameWords (primary inner off) (primary inner off) _ _ (primary_lineless off) (many_lineless SameWords suffix (postfix_with inner off) with_)
    where
      with_ : (b : Suffix) (e f : Expr) → SameWords e f → Lineless SameWords (postfix_with inner off b e) (postfix_with inner off b f)
      with_ Index e f r = entered SameWords _ _ (closed is_close_bracket (off + words e) (off + words f) (λ g. Indexed e g) (λ g. Indexed f g) (ap (λ n. off + n) r.0) (λ g k w. (omega (arith, w, r.0), refl)))
      with_ Call e f r = entered SameWords (call inner off e) (call inner off f) (call_lineless off e f r)
      with_ (Step op) e f r = λ ts us b. ((omega (arith, r.0), refl), after_alike ts us b)

  prefixed_lineless : (off : ℕ) (op : PrefixOp) → Lineless SameWords (prefixed inner off op) (prefixed inner off op)
  prefixed_lineless off op ts us e = entered SameWords _ _ (map_lineless SameWords SameWords (inner.read Operand off) (inner.read Operand off) (λ e. Prefixed op (line_ahead ts) e) (λ e. Prefixed op (line_ahead us) e) (h.read Operand off) (λ e f r. (r.0, refl))) ts us e

  operand_lineless : (off : ℕ) → Lineless SameWords (operand inner off) (operand inner off)
  operand_lineless off = some_lineless SameWords (λ x y. x ≡ y) prefix_op prefix_op (prefixed inner off) (prefixed inner off) _ _ (λ t. itself (prefix_op t)) (λ x y e. subst (λ y. Lineless SameWords (prefixed inner off x) (prefixed inner off y)) e (prefixed_lineless off x)) (postfix_lineless off)

  chain_lineless : (r off off2 : ℕ) → off ≡ off2 → Lineless SameWords (chain inner r off) (chain inner r off2)
  chain_lineless zero off off2 same = subst (λ n. Lineless SameWords (operand inner off) (operand inner n)) same (operand_lineless off)
  chain_lineless (suc r) off off2 same = subst (λ n. Lineless SameWords (chain inner (suc r) off) (chain inner (suc r) n)) same
      (bind_lineless SameWords SameWords (chain inner r off) (chain inner r off) _ _ (chain_lineless r off off refl) (many_lineless SameWords (op_at (suc r)) (operation (chain inner r) off) (operation_lineless r off (chain_lineless r))))
    where
      operation_lineless : (r off : ℕ) → ((off off2 : ℕ) → off ≡ off2 → Lineless SameWords (chain inner r off) (chain inner r off2)) → (op : BinOp) (e f : Expr) → SameWords e f → Lineless SameWords (operation (chain inner r) off op e) (operation (chain inner r) off op f)
      operation_lineless r off tighter op e f w ts us b =
          after_lineless SameWords _ _ (map_lineless SameWords SameWords (chain inner r (off + words e)) (chain inner r (off + words f)) (λ g. Binary op (line_ahead ts) e g) (λ g. Binary op (line_ahead us) f g) (tighter (off + words e) (off + words f) (ap (λ n. off + n) w.0)) (λ g k v. (omega (arith, w.0, v.0), refl))) ts us b

  conditional_lineless : (off : ℕ) (e f : Expr) → SameWords e f → Lineless SameWords (conditional inner off e) (conditional inner off f)
  conditional_lineless off e f r = if_lineless SameWords is_question _ _ _ _
      (entered SameWords (choices inner off e) (choices inner off f) (bind_lineless SameWords SameWords (inner.read Rvalue (off + words e)) (inner.read Rvalue (off + words f)) _ _ (read_at_offset Rvalue (off + words e) (off + words f) (ap (λ n. off + n) r.0)) (λ g k v. expect_lineless SameWords is_colon _ _
      (map_lineless SameWords SameWords (inner.read Choice (off + words e + words g)) (inner.read Choice (off + words f + words k)) (λ l. Conditional e g l) (λ l. Conditional f k l) (read_at_offset Choice (off + words e + words g) (off + words f + words k) (omega (arith, r.0, v.0))) (λ l m u. (omega (arith, r.0, v.0, u.0), refl))))))
      (λ ts us b. (r, b))

  rvalue_from_lineless : (off : ℕ) (e f : Expr) → SameWords e f → Lineless SameWords (rvalue_from inner off e) (rvalue_from inner off f)
  rvalue_from_lineless off e f r = some_lineless SameWords (λ x y. x ≡ y) (assigns e) (assigns f) (assigned inner off e) (assigned inner off f) _ _ (same_assigns e f r.1)
      (λ x y same ts us b. entered SameWords _ _ (map_lineless SameWords SameWords (inner.read Rvalue (off + words e)) (inner.read Rvalue (off + words f)) (λ g. Assigned x (line_ahead ts) e g) (λ g. Assigned y (line_ahead us) f g) (read_at_offset Rvalue (off + words e) (off + words f) (ap (λ n. off + n) r.0)) (λ g k v. (omega (arith, r.0, v.0), refl))) ts us b)
      (conditional_lineless off e f r)

  read_lineless : (kind : ExpressionKind) (off : ℕ) → Lineless SameWords (read_at inner kind off) (read_at inner kind off)
  read_lineless Operand off = operand_lineless off
  read_lineless Choice off = bind_lineless SameWords SameWords (chain inner or_rank off) (chain inner or_rank off) _ _ (chain_lineless or_rank off off refl) (conditional_lineless off)
  read_lineless Rvalue off = bind_lineless SameWords SameWords (chain inner or_rank off) (chain inner or_rank off) _ _ (chain_lineless or_rank off off refl) (rvalue_from_lineless off)

inner_lineless : (room : ℕ) → LinelessInner (inner room)
inner_lineless zero = record { enter = λ ts us e. e; read = λ kind off ts us e. e }
inner_lineless (suc room) = record { enter = λ ts us e. (tt, after_alike ts us e); read = λ kind off. read_lineless (inner room) (inner_lineless room) kind off }

pub reader_lineless : (room : ℕ) (kind : ExpressionKind) (off : ℕ) → Lineless SameWords (reader room kind off) (reader room kind off)
reader_lineless room kind off = read_lineless (inner room) (inner_lineless room) kind off
