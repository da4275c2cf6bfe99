-- A walk that is cut anywhere can be ended, by the tree up to there and the shortest parts after it.
use Rattle.std.proofs.Common.{◌≡◌, ℕ, zero, suc, ◌+◌, ◌-◌, ◌≤◌, false, List, [], ◌∷◌, ◌++◌, sym, ap, ◌∙◌, refl, subst, append_assoc, append-nil, arith, Option, Some, None}
use Rattle.blang.specs.declared.token.Keyword.TheVariants as keyword
use Rattle.blang.specs.declared.token.Token.TheVariants as token
use Rattle.blang.specs.declared.token.Placed.{Placed}
use Rattle.blang.specs.Trees.{mark, Expr, Arguments, Number, Named, Literal, Text, Grouped, Indexed, Called, Postfixed, Prefixed, Binary, Conditional, Assigned, No_arguments, Another, name_token, prefix_token, postfix_token, Stmt, Headed, Compound, If, IfElse, While, Switch, Goto, Break, Return, ReturnValue, Evaluate, Empty, Stmts, Nothing, More, keyword_mark, Definition, Simple, Vector, Function}
use Rattle.blang.specs.Walk.{Walk, NothingHere, Said, Noted, Level, ◌▸◌, Event, LvalueWanted, LoopBegins, LoopEnds, SwitchBegins, SwitchEnds, tokens_in, spell_definition, spell_all, callee, prefix_events, plain, walk, walk_arguments, walk_list, walk_heading, walk_parenthesized, walk_statement, walk_body, walk_definition, walk_parameter}
use Rattle.blang.specs.Cut.{placed}
use Rattle.blang.specs.WellFormed.{rank, or_rank, conditional_rank, rvalue_rank, is_open, Binds, ArgumentsBind, StatementBinds, BodyBinds}
use Rattle.bgrammar.specs.Fitting.{words_in, FitsIn}
use Rattle.bgrammar.specs.Levels.{Leveled, tokens, leveled, definition_levels, program_levels, IsFormedIn, AllFormedIn, NoneAbove, CanBeEnded}
use Rattle.bgrammar.proofs.Fitting.{DefinitionBinds, definition_fits, definition_binds, definition_stands}
use Rattle.bgrammar.proofs.Levels.{tokens-append, tokens-leveled, none_split, deeper, within, definition_within}
use Rattle.bgrammar.proofs.WalkLaws.{callee_as, from_callee, plain_fits, heading_plain, parameters_plain}

-- a list of two parts that is cut: inside the first, or after it
data Cut (a b u v : List Leveled) : Type 0 where
  inside : (x : List Leveled) → a ≡ u ++ x → Cut a b u v
  beyond : (t : Leveled) (y : List Leveled) → u ≡ a ++ t ∷ y → b ≡ t ∷ (y ++ v) → Cut a b u v

cut_cons : (x t : Leveled) (a b u v : List Leveled) → x ≡ t → Cut a b u v → Cut (x ∷ a) b (t ∷ u) v
cut_cons x t a b u v h (inside z p) = inside z (ap (λ k. k ∷ a) h ∙ ap (λ l. t ∷ l) p)
cut_cons x t a b u v h (beyond s y p q) = beyond s y (ap (λ k. k ∷ u) (sym h) ∙ ap (λ l. x ∷ l) p) q

cut : (a b u v : List Leveled) → a ++ b ≡ u ++ v → Cut a b u v
cut a b [] v e = inside a refl
cut [] b (t ∷ u) v e = beyond t u refl e
cut (x ∷ a) b (t ∷ u) v e = let h : x ≡ t = cc in let r : a ++ b ≡ u ++ v = cc in cut_cons x t a b u v h (cut a b u v r)

-- a tree whose tokens begin with these, and which fits
record End {T : Type 0} (say : T → Walk) (Bind : T → Type 0) (room off : ℕ) (u : List Leveled) : Type 0 where
  tree : T
  bind : Bind tree
  fits : FitsIn (say tree) room off
  more : List Placed
  spelled : tokens_in (say tree) ≡ tokens u ++ more

looser : (e : Expr) (tight loose : ℕ) → tight ≤ loose → Binds e tight → Binds e loose
looser (Binary op line e f) tight loose le b = (omega (arith, b.0), b.1, b.2)
looser (Conditional e f g) tight loose le b = (omega (arith, b.0), b.1, b.2, b.3)
looser (Assigned op line e f) tight loose le b = (omega (arith, b.0), b.1, b.2)
looser _ tight loose le b = b

-- the shortest expression
abbrev one : Expr
one = Literal (Number 1)

module _ (most : ℕ) where
  -- wherever the walk is cut after its first token
  record HasEnd {T : Type 0} (say : T → Walk) (Bind : T → Type 0) (n off : ℕ) (w : Walk) : Type 0 where
    end : (t : Leveled) (u v : List Leveled) → leveled w n ≡ (t ∷ u) ++ v → NoneAbove most (t ∷ u) → End say Bind (most - n) off (t ∷ u)

  -- a tree that is ended by itself
  whole : {T : Type 0} {say : T → Walk} {Bind : T → Type 0} {n off : ℕ} (x : T) → Bind x → FitsIn (say x) (most - n) off → HasEnd say Bind n off (say x)
  whole {say = say} {n = n} x b f = record { end = λ t u v e none. record { tree = x; bind = b; fits = f; more = tokens v; spelled = sym (tokens-leveled (say x) n) ∙ ap tokens e ∙ tokens-append (t ∷ u) v } }

  -- what is made of a tree, with these tokens after it
  made : {S T : Type 0} {say : S → Walk} {tell : T → Walk} {A : S → Type 0} {B : T → Type 0} {n off : ℕ} {w : Walk} → HasEnd say A n off w → (make : S → T) → (rest : List Placed)
      → ((x : S) → tokens_in (tell (make x)) ≡ tokens_in (say x) ++ rest) → ((x : S) → A x → B (make x)) → ((x : S) → FitsIn (say x) (most - n) off → FitsIn (tell (make x)) (most - n) off) → HasEnd tell B n off w
  made h make rest same bind fits = record {
    end = λ t u v e none.
        let x = h.end t u v e none in
        record { tree = make x.tree; bind = bind x.tree x.bind; fits = fits x.tree x.fits; more = x.more ++ rest; spelled = same x.tree ∙ ap (λ l. l ++ rest) x.spelled ∙ append_assoc (tokens (t ∷ u)) x.more rest };
  }

  -- a tree with the walk of another thing
  seen : {S T : Type 0} {say : S → Walk} {tell : T → Walk} {A : S → Type 0} {B : T → Type 0} {n off : ℕ} {w : Walk} → HasEnd say A n off w → (make : S → T) → ((x : S) → say x ≡ tell (make x)) → ((x : S) → A x → B (make x)) → HasEnd tell B n off w
  seen {say = say} {tell = tell} {n = n} {off = off} h make same bind =
      made h make [] (λ x. ap tokens_in (sym (same x)) ∙ sym (append-nil (tokens_in (say x)))) bind (λ x f. subst (λ w. FitsIn w (most - n) off) (same x) f)

  -- a part, which is ended as the whole is, and what is after it
  followed : {S T : Type 0} {say : S → Walk} {tell : T → Walk} {A : S → Type 0} {B : T → Type 0} {n off : ℕ} {v w : Walk} → HasEnd tell B n off v → (room : ℕ) → FitsIn v room off → HasEnd say A n (off + words_in v) w → (make : S → T)
      → ((x : S) → v ▸ say x ≡ tell (make x)) → ((x : S) → A x → B (make x)) → HasEnd tell B n off (v ▸ w)
  followed {say = say} {tell = tell} {A = A} {B = B} {n = n} {off = off} {v = v} {w = w} h room fits k make same bind = record { end = λ t u rest e none. go t u rest none (cut (leveled v n) (leveled w n) (t ∷ u) rest e) }
    where
      go : (t : Leveled) (u rest : List Leveled) → NoneAbove most (t ∷ u) → Cut (leveled v n) (leveled w n) (t ∷ u) rest → End tell B (most - n) off (t ∷ u)
      go t u rest none (inside x p) = h.end t u x p none
      go t u rest none (beyond s y p q) =
          let both = none_split most (leveled v n) (s ∷ y) (subst (λ l. NoneAbove most l) p none) in
          let x = k.end s y rest q both.1 in
          subst (λ l. End tell B (most - n) off l) (sym p) (record {
            tree = make x.tree;
            bind = bind x.tree x.bind;
            fits = subst (λ w. FitsIn w (most - n) off) (same x.tree) (within most v room n off fits both.0, x.fits);
            more = x.more;
            spelled = ap tokens_in (sym (same x.tree)) ∙ ap (λ l. tokens_in v ++ l) x.spelled ∙ sym (append_assoc (tokens_in v) (tokens (s ∷ y)) x.more)
                ∙ ap (λ l. (l ++ tokens (s ∷ y)) ++ x.more) (sym (tokens-leveled v n)) ∙ ap (λ l. l ++ x.more) (sym (tokens-append (leveled v n) (s ∷ y)));
          })

  -- a part in which nothing changes
  fixed : {n off : ℕ} (w : Walk) → FitsIn w (most - n) off → HasEnd (λ (o : Unit {0}). w) (λ (o : Unit {0}). Unit {0}) n off w
  fixed {n} {off} w f = whole {T = Unit {0}} {say = λ o. w} {Bind = λ o. Unit {0}} {n = n} {off = off} tt tt f

  one_token : {n off : ℕ} (p : Placed) → HasEnd (λ (o : Unit {0}). Said p) (λ (o : Unit {0}). Unit {0}) n off (Said p)
  one_token p = fixed (Said p) tt

  -- after a token; where the cut is right after it, there is a shortest thing
  after : {T : Type 0} {say : T → Walk} {Bind : T → Type 0} {n off : ℕ} {w : Walk} (p : Placed) (least : T) → Bind least → FitsIn (say least) (most - n) (off + 0) → HasEnd say Bind n (off + 0) w → HasEnd (λ (x : T). Said p ▸ say x) Bind n off (Said p ▸ w)
  after {say = say} p least b f h =
      followed (made (one_token p) (λ o. least) (tokens_in (say least)) (λ o. refl) (λ o a. b) (λ o a. (tt, f))) 0 tt h (λ x. x) (λ x. refl) (λ x a. a)

  -- with a token after it
  closed : {T : Type 0} {say : T → Walk} {Bind : T → Type 0} {n off : ℕ} (p : Placed) (x : T) (room : ℕ) → Bind x → FitsIn (say x) room off → HasEnd say Bind n off (say x) → HasEnd (λ (y : T). say y ▸ Said p) Bind n off (say x ▸ Said p)
  closed p x room b f h = followed (made h (λ y. y) (p ∷ []) (λ y. refl) (λ y a. a) (λ y g. (g, tt))) room f (one_token p) (λ o. x) (λ o. refl) (λ o a. b)

  -- after what is no token
  silent : {T : Type 0} {say : T → Walk} {Bind : T → Type 0} {n off : ℕ} {w : Walk} (v : Walk) → [] ≡ leveled v n → FitsIn v 0 off → HasEnd say Bind n (off + words_in v) w → HasEnd (λ (x : T). v ▸ say x) Bind n off (v ▸ w)
  silent {n = n} v quiet f h = followed (record { end = λ t u rest q none. absurd (nothing t u rest (quiet ∙ q)) }) 0 f h (λ x. x) (λ x. refl) (λ x a. a)
    where
      nothing : (t : Leveled) (u rest : List Leveled) → [] ≡ (t ∷ u) ++ rest → ⊥
      nothing t u rest q = cc

  -- two things, of which the second has a shortest one
  pair : {S T : Type 0} {say : S → Walk} {tell : T → Walk} {A : S → Type 0} {B : T → Type 0} {n off : ℕ} {w : Walk} (x : S) (room : ℕ) → A x → FitsIn (say x) room off → HasEnd say A n off (say x) → (least : T) → B least → ((k o : ℕ) → FitsIn (tell least) k o)
      → HasEnd tell B n (off + words_in (say x)) w → HasEnd (λ (p : S × T). say p.0 ▸ tell p.1) (λ (p : S × T). A p.0 × B p.1) n off (say x ▸ w)
  pair {S} {T} {say = say} {tell = tell} {n = n} x room a f h least b g k =
      followed (made h (λ y. (y, least)) (tokens_in (tell least)) (λ y. refl) (λ y c. (c, b)) (λ y i. (i, g (most - n) _))) room f k (λ y. (x, y)) (λ y. refl) (λ y c. (a, c))

  -- a level deeper
  level_ended : {T : Type 0} {say : T → Walk} {Bind : T → Type 0} {n off : ℕ} {w : Walk} (p : Placed) (end : List Event) (ends : T → List Event) (room : ℕ) → FitsIn (Level p w end) room off → (least : T) → Bind least → ((k : ℕ) → FitsIn (say least) k off)
      → ((k : ℕ) → FitsIn w k off → HasEnd say Bind (suc n) off w) → HasEnd (λ (x : T). Level p (say x) (ends x)) Bind n off (Level p w end)
  level_ended p end ends zero f least b g h = absurd f
  level_ended {say = say} {Bind = Bind} {n = n} {off = off} {w = w} p end ends (suc k) f least b g h = record { end = λ t u v e none. go t u v e none }
    where
      go : (t : Leveled) (u v : List Leveled) → leveled (Level p w end) n ≡ (t ∷ u) ++ v → NoneAbove most (t ∷ u) → End (λ x. Level p (say x) (ends x)) Bind (most - n) off (t ∷ u)
      go t [] v e none =
          let same : record { token = p; level = suc n } ≡ t = cc in
          let up : suc n ≤ most = subst (λ (t : Leveled). t.level ≤ most) (sym same) none.0 in
          record { tree = least; bind = b; fits = deeper (λ k. FitsIn (say least) k off) most n up (g (most - suc n)); more = tokens_in (say least); spelled = ap (λ (t : Leveled). t.token ∷ tokens_in (say least)) same }
      go t (s ∷ u) v e none =
          let same : record { token = p; level = suc n } ≡ t = cc in
          let rest : leveled w (suc n) ≡ (s ∷ u) ++ v = cc in
          let up : suc n ≤ most = subst (λ (t : Leveled). t.level ≤ most) (sym same) none.0 in
          let x = (h k f).end s u v rest none.1 in
          let opens : p ∷ tokens_in (say x.tree) ≡ t.token ∷ tokens_in (say x.tree) = ap (λ (t : Leveled). t.token ∷ tokens_in (say x.tree)) same in
          let goes_on : t.token ∷ tokens_in (say x.tree) ≡ t.token ∷ (tokens (s ∷ u) ++ x.more) = ap (λ l. t.token ∷ l) x.spelled in
          record { tree = x.tree; bind = x.bind; fits = deeper (λ k. FitsIn (say x.tree) k off) most n up x.fits; more = x.more; spelled = opens ∙ goes_on }

  -- Expressions.
  abbrev HasExpression : (loose n off : ℕ) → Walk → Type 0
  HasExpression loose n off w = HasEnd walk (λ (x : Expr). Binds x loose) n off w

  loosened : {tight n off : ℕ} {w : Walk} (loose : ℕ) → tight ≤ loose → HasExpression tight n off w → HasExpression loose n off w
  loosened {tight = tight} loose le h = seen h (λ x. x) (λ x. refl) (λ x b. looser x tight loose le b)

  of_callee : (e : Expr) {loose n off : ℕ} → HasExpression loose n off (walk e) → HasExpression loose n off (callee e (walk e))
  of_callee e {n = n} h = record { end = λ t u v q none. h.end t u v (sym (callee_as (λ w. leveled w n) (λ w a b. refl) e) ∙ q) none }

  mutual
    ended : (e : Expr) (loose room n off : ℕ) → Binds e loose → FitsIn (walk e) room off → HasExpression loose n off (walk e)
    ended (Named w) loose room n off b h = whole (Named w) tt (tt, tt)
    ended (Literal c) loose room n off b h = whole (Literal c) tt tt
    ended (Text bytes offset) loose room n off b h = whole (Text bytes offset) tt h
    ended (Grouped e) loose room n off b h =
        seen (closed (mark token.CloseParen) e room b h.0 (level_ended (mark token.OpenParen) [] (λ x. []) room h.0 one tt (λ k. tt) (λ k i. ended e rvalue_rank k (suc n) off b i))) (λ x. Grouped x) (λ x. refl) (λ x a. a)
    ended (Indexed e f) loose room n off b h =
        followed (loosened loose (omega arith) (ended e 0 room n off b.1 h.0)) room h.0
        (closed (mark token.CloseBracket) f room b.2 h.1.0 (level_ended (mark token.OpenBracket) [] (λ x. []) room h.1.0 one tt (λ k. tt) (λ k i. ended f rvalue_rank k (suc n) _ b.2 i)))
        (λ x. Indexed e x) (λ x. refl) (λ x a. (b.0, b.1, a))
    ended (Called e args) loose room n off b h =
        followed (of_callee e (loosened loose (omega arith) (ended e 0 room n off b.1 (from_callee e room off h.0)))) room h.0
        (closed (mark token.CloseParen) args room b.2 h.1.0 (level_ended (mark token.OpenParen) [] (λ x. []) room h.1.0 No_arguments tt (λ k. tt) (λ k i. arguments_ended args k (suc n) _ b.2 i)))
        (λ x. Called e x) (λ x. refl) (λ x a. (b.0, b.1, a))
    ended (Postfixed op line e) loose room n off b h =
        followed (loosened loose (omega arith) (ended e 0 room n off b.1 h.0)) room h.0 (whole {say = λ (o : Unit {0}). Noted (LvalueWanted line e) ▸ Said (placed (postfix_token op) line)} {Bind = λ o. Unit {0}} tt tt (tt, tt)) (λ o. Postfixed op line e) (λ o. refl) (λ o a. b)
    ended (Prefixed op line e) loose room n off b h =
        seen (level_ended (placed (prefix_token op) line) _ (λ x. prefix_events op line x) room h one tt (λ k. tt) (λ k i. ended e 0 k (suc n) off b i)) (λ x. Prefixed op line x) (λ x. refl) (λ x a. a)
    ended (Binary op line e f) loose room n off b h =
        followed (loosened loose b.0 (ended e (rank op) room n off b.1 h.0)) room h.0 (after (placed (token.Operator op) line) one tt tt (ended f (rank op - 1) room n _ b.2 h.1.1)) (λ x. Binary op line e x) (λ x. refl) (λ x a. (b.0, b.1, a))
    ended (Conditional e f g) loose room n off b h =
        followed (loosened loose (omega (arith, b.0)) (ended e or_rank room n off b.1 h.0)) room h.0
        (level_ended (mark token.Question) [] (λ x. []) room h.1 (one, one) (tt, tt) (λ k. (tt, (tt, tt)))
        (λ k i. pair f k b.2 i.0 (ended f rvalue_rank k (suc n) _ b.2 i.0) one tt (λ k o. (tt, tt)) (after (mark token.Colon) one tt tt (ended g conditional_rank k (suc n) _ b.3 i.1.1))))
        (λ (p : Expr × Expr). Conditional e p.0 p.1) (λ p. refl) (λ p a. (b.0, b.1, a.0, a.1))
    ended (Assigned op line e f) loose room n off b h =
        followed (loosened loose (omega arith) (ended e 0 room n off b.1 h.0)) room h.0
        (silent (Noted (LvalueWanted line e)) refl tt (level_ended (placed (token.Assign op) line) [] (λ x. []) room h.1.1 one tt (λ k. tt) (λ k i. ended f rvalue_rank k (suc n) _ b.2 i)))
        (λ x. Assigned op line e x) (λ x. refl) (λ x a. (b.0, b.1, a))

    arguments_ended : (args : Arguments) (room n off : ℕ) → ArgumentsBind args → FitsIn (walk_arguments args) room off → HasEnd walk_arguments ArgumentsBind n off (walk_arguments args)
    arguments_ended No_arguments room n off b h = whole No_arguments tt tt
    arguments_ended (Another No_arguments e) room n off b h =
        followed (whole No_arguments tt tt) room tt (silent NothingHere refl tt (ended e rvalue_rank room n _ b.1 h.1.1)) (λ x. Another No_arguments x) (λ x. refl) (λ x a. (tt, a))
    arguments_ended (Another (Another c d) e) room n off b h =
        followed (arguments_ended (Another c d) room n off b.0 h.0) room h.0 (after (mark token.Comma) one tt tt (ended e rvalue_rank room n _ b.1 h.1.1)) (λ x. Another (Another c d) x) (λ x. refl) (λ x a. (b.0, a))

  condition_ended : (e : Expr) (room n off : ℕ) → Binds e rvalue_rank → FitsIn (walk_parenthesized e) room off → HasEnd walk_parenthesized (λ (x : Expr). Binds x rvalue_rank) n off (walk_parenthesized e)
  condition_ended e room n off b h = after (mark token.OpenParen) one tt (tt, tt) (closed (mark token.CloseParen) e room b h.1.0 (ended e rvalue_rank room n _ b h.1.0))

-- the branches of an if: one, or two
abbrev branches_walk : Stmt × Option Stmt → Walk
branches_walk (s, None) = walk_statement s
branches_walk (s, Some other) = walk_statement s ▸ plain (token.Keyword keyword.Else) ▸ walk_statement other

abbrev BranchesBind : Stmt × Option Stmt → Type 0
BranchesBind (s, None) = StatementBinds s
BranchesBind (s, Some other) = (is_open s ≡ false) × StatementBinds s × StatementBinds other

abbrev branched : Expr → Stmt × Option Stmt → Stmt
branched e (s, None) = If e s
branched e (s, Some other) = IfElse e s other

branched_walk : (e : Expr) (b : Stmt × Option Stmt) → Level (keyword_mark keyword.If) (walk_parenthesized e ▸ branches_walk b) [] ≡ walk_statement (branched e b)
branched_walk e (s, None) = refl
branched_walk e (s, Some other) = refl

branched_binds : (e : Expr) (b : Stmt × Option Stmt) → Binds e rvalue_rank → BranchesBind b → StatementBinds (branched e b)
branched_binds e (s, None) c d = (c, d)
branched_binds e (s, Some other) c d = (d.0, c, d.1, d.2)

module _ (most : ℕ) where
  mutual
    statement_ended : (s : Stmt) (room n off : ℕ) → StatementBinds s → FitsIn (walk_statement s) room off → HasEnd most walk_statement StatementBinds n off (walk_statement s)
    statement_ended (Headed h s) room n off b f =
        followed most (made most (fixed most (walk_heading h) (plain_fits (walk_heading h) (heading_plain h) (most - n) off)) (λ o. Headed h Empty) (mark token.Semicolon ∷ []) (λ o. refl) (λ o a. (b.0, tt)) (λ o g. (g, tt))) room f.0
        (statement_ended s room n _ b.1 f.1) (λ x. Headed h x) (λ x. refl) (λ x a. (b.0, a))
    statement_ended (Compound body) room n off b f =
        seen most (closed most (mark token.CloseBrace) body room b f.0 (level_ended most (mark token.OpenBrace) [] (λ x. []) room f.0 Nothing tt (λ k. tt) (λ k i. body_ended body k (suc n) off b i))) (λ x. Compound x) (λ x. refl) (λ x a. a)
    statement_ended (If e s) room n off b f =
        seen most (level_ended most (keyword_mark keyword.If) [] (λ x. []) room f (one, Empty) (tt, tt) (λ k. ((tt, (tt, tt)), tt))
        (λ k i. pair most e k b.0 i.0 (condition_ended most e k (suc n) off b.0 i.0) Empty tt (λ k o. tt) (statement_ended s k (suc n) _ b.1 i.1)))
        (λ (p : Expr × Stmt). If p.0 p.1) (λ p. refl) (λ p a. a)
    statement_ended (IfElse e s other) room n off b f =
        seen most (level_ended most (keyword_mark keyword.If) [] (λ x. []) room f (one, (Empty, None)) (tt, tt) (λ k. ((tt, (tt, tt)), tt))
        (λ k i. pair most {tell = branches_walk} {B = BranchesBind} e k b.1 i.0 (condition_ended most e k (suc n) off b.1 i.0) (Empty, None) tt (λ k o. tt)
        (followed most (seen most (statement_ended s k (suc n) _ b.2 i.1.0) (λ x. (x, None)) (λ x. refl) (λ x a. a)) k i.1.0 (after most (keyword_mark keyword.Else) Empty tt tt (statement_ended other k (suc n) _ b.3 i.1.1.1)) (λ y. (s, Some y)) (λ y. refl) (λ y a. (b.0, b.2, a)))))
        (λ (p : Expr × (Stmt × Option Stmt)). branched p.0 p.1) (λ p. branched_walk p.0 p.1) (λ p a. branched_binds p.0 p.1 a.0 a.1)
    statement_ended (While e s) room n off b f =
        seen most (level_ended most (keyword_mark keyword.While) _ (λ x. LoopEnds ∷ []) room f (one, Empty) (tt, tt) (λ k. ((tt, (tt, tt)), (tt, tt)))
        (λ k i. pair most e k b.0 i.0 (condition_ended most e k (suc n) off b.0 i.0) Empty tt (λ k o. (tt, tt)) (silent most (Noted LoopBegins) refl tt (statement_ended s k (suc n) _ b.1 i.1.1))))
        (λ (p : Expr × Stmt). While p.0 p.1) (λ p. refl) (λ p a. a)
    statement_ended (Switch e body) room n off b f =
        seen most (level_ended most (keyword_mark keyword.Switch) _ (λ x. SwitchEnds ∷ []) room f (one, Nothing) (tt, tt) (λ k. (tt, (tt, (tt, (tt, tt)))))
        (λ k i. pair most e k b.0 i.0 (ended most e rvalue_rank k (suc n) off b.0 i.0) Nothing tt (λ k o. (tt, (tt, (tt, tt))))
        (after most (mark token.OpenBrace) Nothing tt (tt, (tt, tt)) (silent most (Noted SwitchBegins) refl tt (closed most (mark token.CloseBrace) body k b.1 i.1.1.1.0 (body_ended body k (suc n) _ b.1 i.1.1.1.0))))))
        (λ (p : Expr × Stmts). Switch p.0 p.1) (λ p. refl) (λ p a. a)
    statement_ended (Goto e) room n off b f =
        seen most (after most (keyword_mark keyword.Goto) one tt (tt, tt) (closed most (mark token.Semicolon) e room b f.1.0 (ended most e rvalue_rank room n _ b f.1.0))) (λ x. Goto x) (λ x. refl) (λ x a. a)
    statement_ended (Break line) room n off b f = whole most (Break line) tt (tt, (tt, tt))
    statement_ended Return room n off b f = whole most Return tt (tt, tt)
    statement_ended (ReturnValue e) room n off b f =
        seen most (after most (keyword_mark keyword.Return) one tt ((tt, (tt, tt)), tt) (closed most (mark token.Semicolon) e room b f.1.0 (condition_ended most e room n _ b f.1.0))) (λ x. ReturnValue x) (λ x. refl) (λ x a. a)
    statement_ended (Evaluate e) room n off b f = seen most (closed most (mark token.Semicolon) e room b f.0 (ended most e rvalue_rank room n off b f.0)) (λ x. Evaluate x) (λ x. refl) (λ x a. a)
    statement_ended Empty room n off b f = whole most Empty tt tt

    body_ended : (body : Stmts) (room n off : ℕ) → BodyBinds body → FitsIn (walk_body body) room off → HasEnd most walk_body BodyBinds n off (walk_body body)
    body_ended Nothing room n off b f = whole most Nothing tt tt
    body_ended (More before s) room n off b f = followed most (body_ended before room n off b.0 f.0) room f.0 (statement_ended s room n _ b.1 f.1) (λ x. More before x) (λ x. refl) (λ x a. (b.0, a))

  definition_ended : (d : Definition) (room : ℕ) → IsFormedIn room d → HasEnd most walk_definition DefinitionBinds 0 0 (walk_definition d)
  definition_ended (Simple w values) room f = whole most (Simple w values) tt (definition_stands (Simple w values) (most - 0) f)
  definition_ended (Vector w size values) room f = whole most (Vector w size values) tt (definition_stands (Vector w size values) (most - 0) f)
  definition_ended (Function w parameters body) room f =
      let names = walk_list walk_parameter parameters in
      let few : (k o : ℕ) → FitsIn names k o = plain_fits names (parameters_plain parameters) in
      let h = definition_stands (Function w parameters body) room f in
      let b = definition_binds (Function w parameters body) room f in
      seen most (after most (name_token w) Empty tt (tt, (few _ _, (tt, tt))) (after most (mark token.OpenParen) Empty tt (few _ _, (tt, tt))
      (followed most (made most (fixed most names (few _ _)) (λ o. Empty) (mark token.CloseParen ∷ mark token.Semicolon ∷ []) (λ o. refl) (λ o a. tt) (λ o g. (g, (tt, tt)))) room h.1.1.0 (after most (mark token.CloseParen) Empty tt tt (statement_ended body room 0 _ b h.1.1.1.1)) (λ x. x) (λ x. refl) (λ x a. a))))
      (λ x. Function w parameters x) (λ x. refl) (λ x a. a)

  program_ended : (ds : List Definition) (room : ℕ) → AllFormedIn room ds → (t : Leveled) (u v : List Leveled) → program_levels ds ≡ (t ∷ u) ++ v → NoneAbove most (t ∷ u)
      → (es : List Definition) × (more : List Placed) × AllFormedIn most es × (spell_all es ≡ tokens (t ∷ u) ++ more)
  program_ended [] room f t u v e none = cc
  program_ended (d ∷ ds) room f t u v e none = go (program_ended ds room f.1) (cut (definition_levels d) (program_levels ds) (t ∷ u) v e)
    where
      go : ((t : Leveled) (u v : List Leveled) → program_levels ds ≡ (t ∷ u) ++ v → NoneAbove most (t ∷ u) → (es : List Definition) × (more : List Placed) × AllFormedIn most es × (spell_all es ≡ tokens (t ∷ u) ++ more))
          → Cut (definition_levels d) (program_levels ds) (t ∷ u) v → (es : List Definition) × (more : List Placed) × AllFormedIn most es × (spell_all es ≡ tokens (t ∷ u) ++ more)
      go further (inside x p) =
          let y = (definition_ended d room f.0).end t u x p none in
          let same : most - 0 ≡ most = omega arith in
          (y.tree ∷ [], y.more, (definition_fits y.tree most y.bind (subst (λ k. FitsIn (walk_definition y.tree) k 0) same y.fits), tt), append-nil (spell_definition y.tree) ∙ y.spelled)
      go further (beyond s y p q) =
          let n = none_split most (definition_levels d) (s ∷ y) (subst (λ l. NoneAbove most l) p none) in
          let z = further s y v q n.1 in (
            d ∷ z.0,
            z.1,
            (definition_within most d room f.0 n.0, z.2),
            ap (λ l. spell_definition d ++ l) z.3 ∙ sym (append_assoc (spell_definition d) (tokens (s ∷ y)) z.1) ∙ ap (λ l. (l ++ tokens (s ∷ y)) ++ z.1) (sym (tokens-leveled (walk_definition d) 0))
                ∙ ap (λ l. l ++ z.1) (sym (tokens-append (definition_levels d) (s ∷ y))) ∙ ap (λ l. tokens l ++ z.1) (sym p),
          )

pub can_be_ended : CanBeEnded
can_be_ended ds deepest most [] v f e none = ([], [], tt, refl)
can_be_ended ds deepest most (t ∷ u) v f e none = program_ended most ds deepest f t u v e none
