-- Each step of the parser, as a fact about what it read and what it made.
use Rattle.std.proofs.Common.{◌≡◌, ℕ, suc, ◌+◌, ◌-◌, List, Bool, true, false, Option, Some, None, Result, Ok, Err, min, refl, sym, ap, ◌∙◌, subst, arith, add-one}
use Rattle.bgrammar.proofs.ExpressionAgain.{good_at, rank_positive}
use Rattle.bword.specs.declared.operators.BinOp.{BinOp}
use Rattle.bword.specs.declared.operators.BinOp.TheVariants as op
use Rattle.blang.specs.declared.token.Token.{Token}
use Rattle.blang.specs.declared.token.Token.TheVariants as token
use Rattle.blang.specs.declared.token.Placed.{Placed}
use Rattle.blang.specs.Cut.{string_token}
use Rattle.blang.specs.declared.code.Instr.TheVariants as instr
use Rattle.blang.specs.declared.code.Increment.TheVariants as increment
use Rattle.blang.specs.Trees as tree
use Rattle.blang.specs.Trees.{Expr, Arguments, Number, Character, Named, Literal, Text, Grouped, Indexed, Called, Postfixed, Prefixed, Binary, Conditional, Assigned, No_arguments, Another}
use Rattle.blang.specs.WellFormed.{or_rank, rank}
use Rattle.bgrammar.specs.Fitting.{words, argument_words}
use Rattle.bgrammar.specs.Reading.{Reader, Got, Stop, ◌>>=◌, first, line_ahead, after, expect, many}
use Rattle.blex.specs.Lexemes.{token_of_lexeme}
use Rattle.blex.specs.declared.lexeme.Lexeme.{Lexeme}
use Rattle.blex.specs.declared.lexeme.Lexeme.TheVariants as lexeme
use Rattle.bgrammar.specs.ExpressionReader as reading
use Rattle.bgrammar.specs.ExpressionReader.{is_close_paren, is_close_bracket, is_question, is_colon, op_at, suffix, Index, Call, Step, comma, always, prefix_op, Choice, Rvalue, Inner, primary, primary_at, another, arguments, call, postfix_with, postfix, operand, chain, conditional, assigns, rvalue_from, inner, reader, is_operand}
use Rattle.bgrammar.specs.StatementReader.{is_open_paren}
use Rattle.blang.specs.Code.{argument_count, assignment}
use Rattle.bgrammar.proofs.Fine.{many_none, many_some}
use Rattle.bgrammar.proofs.ExpressionFine.{closing, has_room, suffix_loop, comma_loop}
use Rattle.bemit.specs.Drafts.{Draft, emitted, place_of, filled, stringed, offset_of, named, name_form, checked}
use Rattle.blang.specs.Scan.{NameKind, kind_of, Automatic}
use Rattle.bemit.specs.Drafts as drafts
use Rattle.bemit.specs.Effects.{form, loads, loaded, held, passed, evaluated, stepping, prefixed, ways, most_arguments}
use Rattle.bemit.specs.declared.form.Form.{Form}
use Rattle.bemit.specs.declared.form.Form.TheVariants.{Place, Lone, Joined}
use Rattle.bread.specs.declared.halt.Halt.{Halt}
use Rattle.bread.specs.declared.halt.Halt.TheVariants as halt
use Rattle.bread.specs.Marks.{is_comma}
use Rattle.bemit.specs.Trails.{Trail, first_line, took, noted, noted_at, between_ways, trailed, trailed_arguments, past_comma}
use Rattle.bread.specs.Tokens.{Tokens, with_noted, IsLoaded, IsSingle, Runs, TokensFail, Advances, AdvancesTo}
use Rattle.bread.specs.declared.operators.Prefix.{Prefix}
use Rattle.bread.specs.declared.operators.Prefix.TheVariants as prefixes
use Rattle.bread.specs.Parsers.{assigned_at, op_within, prefix_meant, prefix_form, called_at, Leads, Halts, ExpressionTaken, ExpressionAfter, Follows, Continues, TookWord, TookArguments, TakesCurrent, Expected}
use Rattle.bgrammar.proofs.Forms.{only_open_paren}
use Rattle.bread.proofs.Lists.{is_a_comma, is_no_comma}
use Rattle.bread.proofs.TokenSteps.{Moves-breaks, noted_moves, noted_loaded}
use Rattle.bread.proofs.Moving.{again_marked, past, past_expected, noted_past, run_here, run_past, run_as, run_then, run_bind, halt_after, halt_bind, halt_as, bind_twice, halt_then, halt_device}
use Rattle.bread.proofs.Chains.{climb, within_some, within_none, chain_climbs, climb_none, climb_some}

-- what a loop has read and made so far
pub record SoFar (whole : Reader Expr) (more : Expr → Reader Expr) (start : Draft) (called : Bool) (old new : Tokens) (draft : Draft) (found : Form) : Type 0 where
  pub tree : Expr
  pub runs : Runs old new whole (more tree)
  pub made : draft ≡ held called tree start
  pub form_is : found ≡ form tree draft
  pub leads : Leads (λ t. t) (trailed tree start) old runs.passed new

pub record SoFarArguments (whole : Reader Expr) (more : Arguments → Reader Expr) (start : Draft) (old new : Tokens) (draft : Draft) (count : ℕ) : Type 0 where
  pub arguments : Arguments
  pub runs : Runs old new whole (more arguments)
  pub made : draft ≡ passed arguments start
  pub count_is : count ≡ min (argument_count arguments) most_arguments
  pub leads : Leads (λ t. t) (trailed_arguments arguments start) old runs.passed new
  pub some : (t : Trail) → past_comma arguments t ≡ took t

abbrev pub suffixes : ℕ → ℕ → Expr → Reader Expr
suffixes room off e ts = many (always suffix) (postfix_with (inner room) off) e ts

abbrev pub more_arguments : ℕ → ℕ → Expr → Arguments → Reader Expr
more_arguments room off e args ts = many (always comma) (another (inner (suc room)) (off + words e)) args ts >>= λ args r. expect is_close_paren r >>= λ o. Got (Called e args)

pub record InPostfix (room : ℕ) (old : Tokens) (before : Draft) (new : Tokens) (draft : Draft) (found : Form) : Type 0 where
  pub so_far : (offset : ℕ) → SoFar (postfix (inner room) offset) (suffixes room offset) before (called_at new) old new draft found
  pub single : IsSingle new

pub record InChain (room rank : ℕ) (old : Tokens) (before : Draft) (new : Tokens) (draft : Draft) (found : Form) : Type 0 where
  pub so_far : (offset : ℕ) → SoFar (chain (inner room) rank offset) (climb room rank offset) before false old new draft found
  pub single : IsSingle new

pub record InArguments (room : ℕ) (old : Tokens) (before : Draft) (new : Tokens) (draft : Draft) (count : ℕ) : Type 0 where
  pub so_far : (offset : ℕ) (e : Expr) → SoFarArguments (call (inner (room + 1)) offset e) (more_arguments room offset e) before old new draft count
  pub single : IsSingle new

at_room : (room k : ℕ) → room ≡ k + 1 → inner room ≡ inner (suc k)
at_room room k h = ap inner (h ∙ add-one k)

-- the word of what was made
word_is : (d0 d1 start : Draft) (given : Form) (was : Bool) (e : Expr) → d1 ≡ loads given d0 → d0 ≡ held was e start → given ≡ form e d0 → d1 ≡ loaded e (held was e start)
word_is d0 d1 start given was e l h f = l ∙ ap (λ x. loads x d0) f ∙ ap (loaded e) h

-- a name
name_read : (room off : ℕ) (u : List Placed) (name : List ℕ) (line : ℕ) → first u ≡ token.Name name → line_ahead u ≡ line → primary (inner room) off u ≡ Got (Named (record { text = name; line = line })) (after u)
name_read room off u name line h n = rw h (ap (λ k. Got (Named (record { text = name; line = k })) (after u)) n)

pub name_took : (a b : Tokens) (before draft : Draft) (name : List ℕ) (line : ℕ) (called : Bool) (found : Form) (place : ℕ) → place ≡ place_of before → first a.ahead ≡ token.Name name → line ≡ line_ahead a.ahead → AdvancesTo (noted_at place (line_ahead a.ahead) a.noted) a b → called ≡ called_at b
    → draft ≡ named called (record { text = name; line = line }) before → found ≡ name_form name draft
    → (room : ℕ) → ((offset : ℕ) → ExpressionTaken (primary (inner room) offset) before (called_at b) a b draft found) × IsSingle b
name_took a b before draft name line called found place at h n ad c d f room = (
  (λ off. record {
    tree = Named (record { text = name; line = line });
    runs = run_past ad (λ u e k. name_read room off u name line (e ∙ h) (k ∙ sym n));
    made = d ∙ ap (λ x. named x (record { text = name; line = line }) before) c;
    form_is = f;
    leads = λ u ls q. ap (λ v. took (noted before v)) q ∙ noted_past a b place before at ad.one ad.noted_is ls;
  }),
  ad.single,
)

-- no operand begins with this
pub primary_none : (l : Lexeme) (text : List ℕ) → ((x : List ℕ) → l ≡ lexeme.Name x → ⊥) → ((x : ℕ) → l ≡ lexeme.Number x → ⊥) → ((x : ℕ) → l ≡ lexeme.Character x → ⊥) → (l ≡ lexeme.String → ⊥) → is_open_paren (token_of_lexeme l text) ≡ false
    → (i : Inner) (off : ℕ) (u : List Placed) → primary_at i off (token_of_lexeme l text) u ≡ Stop u
primary_none (lexeme.Name x) text a b c d e i off u = absurd (a x refl)
primary_none (lexeme.Number x) text a b c d e i off u = absurd (b x refl)
primary_none (lexeme.Character x) text a b c d e i off u = absurd (c x refl)
primary_none lexeme.String text a b c d e i off u = absurd (d refl)
primary_none lexeme.OpenParen text a b c d e i off u = cc
primary_none _ text a b c d e i off u = refl

-- a constant or a string
atom_took : (room : ℕ) (a b : Tokens) (before mid draft : Draft) (r : Result Form Halt) (t : ℕ → Expr) (place : ℕ) → place ≡ place_of before → ((off : ℕ) (u : Trail) → trailed (t off) before u ≡ took (noted before u)) → TakesCurrent place a Lone r b → draft ≡ mid → ((off : ℕ) (u : List Placed) → first u ≡ first a.ahead → primary (inner room) off u ≡ Got (t off) (after u)) → ((off : ℕ) (called : Bool) → mid ≡ held called (t off) before) → ((off : ℕ) (d : Draft) → form (t off) d ≡ Lone) → Follows (primary (inner room)) (called_at b) a before r b draft
atom_took room a b before mid draft (Ok x) t place at says k e read made lone = ((λ off. record { tree = t off; runs = run_past k.0 (λ u h n. read off u h); made = e ∙ made off (called_at b); form_is = k.1 ∙ sym (lone off draft); leads = λ u ls q. says off u ∙ ap (λ v. took (noted before v)) q ∙ noted_past a b place before at k.0.one k.0.noted_is ls }), k.0.single)
atom_took room a b before mid draft (Err why) t place at says k e read made lone = λ off. halt_device (primary (inner room) off) why k.0 k.1

pub number_took : (a b : Tokens) (before mid draft : Draft) (r : Result Form Halt) (n place : ℕ) → place ≡ place_of before → TakesCurrent place a Lone r b → draft ≡ mid → first a.ahead ≡ token.Number n → mid ≡ emitted (instr.Constant n) before → (room : ℕ) → Follows (primary (inner room)) (called_at b) a before r b draft
number_took a b before mid draft r n place at k e h m room = atom_took room a b before mid draft r (λ off. Literal (Number n)) place at (λ off u. refl) k e (λ off u f. rw (f ∙ h) refl) (λ off c. m) (λ off d. refl)

pub character_took : (a b : Tokens) (before mid draft : Draft) (r : Result Form Halt) (n place : ℕ) → place ≡ place_of before → TakesCurrent place a Lone r b → draft ≡ mid → first a.ahead ≡ token.Character n → mid ≡ emitted (instr.Constant n) before → (room : ℕ) → Follows (primary (inner room)) (called_at b) a before r b draft
character_took a b before mid draft r n place at k e h m room = atom_took room a b before mid draft r (λ off. Literal (Character n)) place at (λ off u. refl) k e (λ off u f. rw (f ∙ h) refl) (λ off c. m) (λ off d. refl)

-- a group
group_read : (room k off : ℕ) (u : List Placed) → room ≡ k + 1 → first u ≡ token.OpenParen → primary (inner room) off u ≡ (reader k Rvalue off (after u) >>= λ e r. expect is_close_paren r >>= λ o. Got (Grouped e))
group_read room k off u h o = ap (λ i. primary i off u) (at_room room k h) ∙ rw o refl

module _ (room k : ℕ) (a b : Tokens) (enters : (room ≡ k + 1) × Advances a b) where
  module _ (here : is_open_paren (first a.ahead) ≡ true) where
    abbrev group_runs : (off : ℕ) → Runs a b (primary (inner room) off) (λ v. reader k Rvalue off v >>= λ e r. expect is_close_paren r >>= λ o. Got (Grouped e))
    group_runs off = run_past enters.1 (λ u f n. group_read room k off u enters.0 (f ∙ only_open_paren (first a.ahead) here))

    pub group_stops : (c : Tokens) (why : Halt) → ((off : ℕ) → Halts (reader k Rvalue off) b why c) → (off : ℕ) → Halts (primary (inner room) off) a why c
    group_stops c why h off = halt_after (reader k Rvalue off) (λ e r. expect is_close_paren r >>= λ o. Got (Grouped e)) why c (group_runs off) (h off)

    module _ (c : Tokens) (start mid draft : Draft) (found : Form) (t : (off : ℕ) → ExpressionTaken (reader k Rvalue off) mid false b c draft found) where
      abbrev closing_runs : (off : ℕ) → Runs a c (primary (inner room) off) (λ v. expect is_close_paren v >>= λ o. Got (Grouped (t off).tree))
      closing_runs off = run_then (group_runs off) (run_bind (λ e r. expect is_close_paren r >>= λ o. Got (Grouped e)) (t off).runs)

      pub group_open : (d : Tokens) (why : Halt) → Halts (expect is_close_paren) c why d → (off : ℕ) → Halts (primary (inner room) off) a why d
      group_open d why h off = halt_after (expect is_close_paren) (λ o. Got (Grouped (t off).tree)) why d (closing_runs off) h

      pub group_took : (d : Tokens) (following : Draft) (given : Form) → mid ≡ start → Expected is_close_paren c d → following ≡ draft → given ≡ drafts.grouped found → ((off : ℕ) → ExpressionTaken (primary (inner room) off) start (called_at d) a d following given) × IsSingle d
      group_took d following given es x eb g = (
        (λ off. record {
          tree = Grouped (t off).tree;
          runs = run_then (closing_runs off) (run_bind (λ o. Got (Grouped (t off).tree)) x.runs);
          made = eb ∙ (t off).made ∙ ap (held false (t off).tree) es;
          form_is = g ∙ ap drafts.grouped ((t off).form_is ∙ ap (form (t off).tree) (sym eb));
          leads = λ u ls q. ap took (ap (λ m. trailed (t off).tree m (took u)) (sym es) ∙ (t off).leads (took u) (x.runs.passed ls) (ap took q ∙ past enters.1 _)) ∙ past_expected x ls;
        }),
        x.single,
      )

-- what goes on after a postfix expression
suffix_many : (room off : ℕ) (b : reading.Suffix) (e : Expr) (u : List Placed) → suffix (first u) ≡ Some b → suffixes room off e u ≡ (postfix_with (inner room) off b e u >>= suffixes room off)
suffix_many room off b e u h = many_some closing (always suffix) (postfix_with (inner room) off) (suffix_loop (inner room) (has_room room) off) b e u h

pub postfix_begins : (room : ℕ) (a b : Tokens) (start draft : Draft) (found : Form) → ((off : ℕ) → ExpressionTaken (primary (inner room) off) start (called_at b) a b draft found) × IsSingle b → InPostfix room a start b draft found
postfix_begins room a b start draft found t = record {
  so_far = λ off. record { tree = (t.0 off).tree; runs = run_bind (suffixes room off) (t.0 off).runs; made = (t.0 off).made; form_is = (t.0 off).form_is; leads = (t.0 off).leads };
  single = t.1;
}

no_call : (t : Token) → suffix t ≡ None → is_open_paren t ≡ false
no_call token.OpenParen h = cc
no_call _ h = refl

module _ (room : ℕ) (a m : Tokens) (start draft : Draft) (found : Form) (s : InPostfix room a start m draft found) where
  pub postfix_ends : suffix (first m.ahead) ≡ None → ((off : ℕ) → ExpressionTaken (postfix (inner room) off) start false a m draft found) × IsSingle m
  postfix_ends h = (
    (λ off. let t = s.so_far off in record {
      tree = t.tree;
      runs = run_then t.runs (run_here s.single.0 (λ u f n. many_none (always suffix) (postfix_with (inner room) off) t.tree u (ap suffix f ∙ h)));
      made = t.made ∙ ap (λ c. held c t.tree start) (no_call (first m.ahead) h);
      form_is = t.form_is;
      leads = t.leads;
    }),
    s.single,
  )

  module _ (b : reading.Suffix) (h : suffix (first m.ahead) ≡ Some b) where
    abbrev turn_runs : (off : ℕ) → Runs a m (postfix (inner room) off) (λ v. postfix_with (inner room) off b (s.so_far off).tree v >>= suffixes room off)
    turn_runs off = run_then (s.so_far off).runs (run_here s.single.0 (λ u f n. suffix_many room off b (s.so_far off).tree u (ap suffix f ∙ h)))

    pub postfix_stops : (c : Tokens) (why : Halt) → ((off : ℕ) (e : Expr) → Halts (postfix_with (inner room) off b e) m why c) → (off : ℕ) → Halts (postfix (inner room) off) a why c
    postfix_stops c why k off = halt_after (postfix_with (inner room) off b (s.so_far off).tree) (suffixes room off) why c (turn_runs off) (k off (s.so_far off).tree)

    pub postfix_goes : (c : Tokens) (following : Draft) (given : Form) → ((off : ℕ) (e : Expr) (d : Draft) → draft ≡ held (called_at m) e d → found ≡ form e draft → ExpressionAfter (trailed e d) (postfix_with (inner room) off b e) d (called_at c) m c following given) × IsSingle c → InPostfix room a start c following given
    postfix_goes c following given k = record {
      so_far = λ off. let x = s.so_far off in let t = k.0 off x.tree start x.made x.form_is in
          record { tree = t.tree; runs = run_then (turn_runs off) (run_bind (suffixes room off) t.runs); made = t.made; form_is = t.form_is; leads = λ u ls q. t.leads u ls (x.leads u (t.runs.passed ls) q) };
      single = k.1;
    }

-- an index
module _ (room k : ℕ) (a b : Tokens) (enters : (room ≡ k + 1) × Advances a b) where
  abbrev index_runs : (off : ℕ) (e : Expr) → Runs a b (postfix_with (inner room) off Index e) (λ v. reader k Rvalue (off + words e) v >>= λ f r. expect is_close_bracket r >>= λ o. Got (Indexed e f))
  index_runs off e = run_past enters.1 (λ u f n. ap (λ i. postfix_with i off Index e u) (at_room room k enters.0))

  pub index_stops : (c : Tokens) (why : Halt) → ((off : ℕ) → Halts (reader k Rvalue off) b why c) → (off : ℕ) (e : Expr) → Halts (postfix_with (inner room) off Index e) a why c
  index_stops c why h off e = halt_after (reader k Rvalue (off + words e)) (λ f r. expect is_close_bracket r >>= λ o. Got (Indexed e f)) why c (index_runs off e) (h (off + words e))

  module _ (c : Tokens) (mid draft : Draft) (t : (off : ℕ) → TookWord (reader k Rvalue off) mid b c draft) where
    abbrev bracket_runs : (off : ℕ) (e : Expr) → Runs a c (postfix_with (inner room) off Index e) (λ v. expect is_close_bracket v >>= λ o. Got (Indexed e (t (off + words e)).tree))
    bracket_runs off e = run_then (index_runs off e) (run_bind (λ f r. expect is_close_bracket r >>= λ o. Got (Indexed e f)) (t (off + words e)).runs)

    pub index_open : (d : Tokens) (why : Halt) → Halts (expect is_close_bracket) c why d → (off : ℕ) (e : Expr) → Halts (postfix_with (inner room) off Index e) a why d
    index_open d why h off e = halt_after (expect is_close_bracket) (λ o. Got (Indexed e (t (off + words e)).tree)) why d (bracket_runs off e) h

    pub index_took : (d : Tokens) (before loads_ before_emit following : Draft) (given : Form) → called_at a ≡ false → loads_ ≡ loads given before → mid ≡ loads_ → Expected is_close_bracket c d → before_emit ≡ draft → following ≡ emitted (instr.Binary op.Add) before_emit
        → ((off : ℕ) (e : Expr) (start : Draft) → before ≡ held (called_at a) e start → given ≡ form e before → ExpressionAfter (trailed e start) (postfix_with (inner room) off Index e) start (called_at d) a d following Place) × IsSingle d
    index_took d before loads_ before_emit following given nc l em x eb eo = (
      (λ off e start h f. record {
        tree = Indexed e (t (off + words e)).tree;
        runs = run_then (bracket_runs off e) (run_bind (λ o. Got (Indexed e (t (off + words e)).tree)) x.runs);
        made = eo ∙ ap (emitted (instr.Binary op.Add)) (eb ∙ (t (off + words e)).made ∙ ap (evaluated (t (off + words e)).tree) (em ∙ word_is before loads_ start given false e l (h ∙ ap (λ y. held y e start) nc) f));
        form_is = refl;
        leads = λ u ls q. let w = t (off + words e) in ap took (ap (λ m. trailed w.tree m (took (trailed e start u))) (sym (em ∙ word_is before loads_ start given false e l (h ∙ ap (λ y. held y e start) nc) f)) ∙ w.leads (took (trailed e start u)) (x.runs.passed ls) (ap took q ∙ past enters.1 _)) ∙ past_expected x ls;
      }),
      x.single,
    )

  -- a call
  abbrev call_runs : (off : ℕ) (e : Expr) → Runs a b (postfix_with (inner room) off Call e) (call (inner (k + 1)) off e)
  call_runs off e = run_past enters.1 (λ u f n. ap (λ i. postfix_with i off Call e u) (at_room room k enters.0) ∙ ap (λ i. call i off e (after u)) (sym (at_room (k + 1) k refl)))

  pub call_stops : (c : Tokens) (why : Halt) → ((off : ℕ) (e : Expr) → Halts (call (inner (k + 1)) off e) b why c) → (off : ℕ) (e : Expr) → Halts (postfix_with (inner room) off Call e) a why c
  call_stops c why h off e = halt_then why c (call_runs off e) (h off e)

  pub call_took : (c : Tokens) (before loads_ mid draft following : Draft) (given : Form) (count : ℕ) → called_at a ≡ true → loads_ ≡ loads given before → mid ≡ loads_ → ((off : ℕ) (e : Expr) → TookArguments (call (inner (k + 1)) off e) e mid b c draft count) × IsSingle c → following ≡ emitted (instr.Call count) draft
      → ((off : ℕ) (e : Expr) (start : Draft) → before ≡ held (called_at a) e start → given ≡ form e before → ExpressionAfter (trailed e start) (postfix_with (inner room) off Call e) start (called_at c) a c following Lone) × IsSingle c
  call_took c before loads_ mid draft following given count yes_ l em t eo = (
    (λ off e start h f. let x = t.0 off e in record {
      tree = Called e x.arguments;
      runs = run_then (call_runs off e) x.runs;
      made = eo ∙ ap (λ i. emitted (instr.Call i) draft) x.count_is ∙ ap (emitted (instr.Call (min (argument_count x.arguments) most_arguments))) (x.made ∙ ap (passed x.arguments) (em ∙ word_is before loads_ start given true e l (h ∙ ap (λ y. held y e start) yes_) f));
      form_is = refl;
      leads = λ u ls q. ap (λ m. took (trailed_arguments x.arguments m (took (trailed e start u)))) (sym (em ∙ word_is before loads_ start given true e l (h ∙ ap (λ y. held y e start) yes_) f)) ∙ x.leads (took (trailed e start u)) ls (ap took q ∙ past enters.1 _);
    }),
    t.1,
  )

pub index_called : (t : Token) → suffix t ≡ Some Index → is_open_paren t ≡ false
index_called token.OpenParen h = cc
index_called _ h = refl

pub call_called : (t : Token) → suffix t ≡ Some Call → is_open_paren t ≡ true
call_called token.OpenParen h = refl
call_called token.OpenBracket h = cc
call_called token.Increment h = cc
call_called token.Decrement h = cc
call_called _ h = cc

step_called : (t : Token) (p : tree.PostfixOp) → suffix t ≡ Some (Step p) → is_open_paren t ≡ false
step_called token.OpenParen p h = cc
step_called _ p h = refl

-- `++` or `--`
step_took : (room : ℕ) (p : tree.PostfixOp) (a b : Tokens) (before following : Draft) (given : Form) (r : Result Form Halt) → called_at a ≡ false → TakesCurrent (place_of before) a Lone r b → ((line : ℕ) → line ≡ line_ahead a.ahead → following ≡ emitted (stepping p) (checked given line before))
    → Continues (λ off e. postfix_with (inner room) off (Step p) e) (called_at a) given (called_at b) a before r b following
step_took room p a b before following given (Ok x) nc k m = (
  (λ off e start h f. record {
    tree = Postfixed p (line_ahead a.ahead) e;
    runs = run_past k.0 (λ u g n. ap (λ i. Got (Postfixed p i e) (after u)) n);
    made = m (line_ahead a.ahead) refl ∙ ap (λ y. emitted (stepping p) (checked y (line_ahead a.ahead) before)) f ∙ ap (λ d. emitted (stepping p) (checked (form e d) (line_ahead a.ahead) d)) (h ∙ ap (λ y. held y e start) nc);
    form_is = k.1;
    leads = λ u ls q. ap (λ v. took (noted (held false e start) v)) q ∙ noted_past a b (place_of before) (held false e start) (ap place_of (h ∙ ap (λ y. held y e start) nc)) k.0.one k.0.noted_is ls;
  }),
  k.0.single,
)
step_took room p a b before following given (Err why) nc k m = λ off e. halt_device (postfix_with (inner room) off (Step p) e) why k.0 k.1

pub text_took : (a b : Tokens) (before mid put draft : Draft) (r : Result Form Halt) (text bytes : List ℕ) (offset place : ℕ) → place ≡ place_of before → TakesCurrent place a Lone r b → draft ≡ put → first a.ahead ≡ string_token text → bytes ≡ text → mid ≡ stringed bytes before → offset ≡ offset_of before → put ≡ emitted (instr.Text offset) mid → (room : ℕ) → Follows (primary (inner room)) (called_at b) a before r b draft
text_took a b before mid put draft r text bytes offset place at k e h eb em eo ep room =
    atom_took room a b before put draft r (λ off. Text text off) place at (λ off u. refl) k e (λ off u f. rw (f ∙ h) refl)
    (λ off c. ep ∙ ap (λ i. emitted (instr.Text i) mid) eo ∙ ap (emitted (instr.Text (offset_of before))) (em ∙ ap (λ x. stringed x before) eb)) (λ off d. refl)

pub increment_took : (room : ℕ) (a b : Tokens) (before following : Draft) (given : Form) (r : Result Form Halt) → suffix (first a.ahead) ≡ Some (Step tree.PostIncrement) → TakesCurrent (place_of before) a Lone r b → following ≡ emitted (instr.Increment increment.PostIncrement) (checked given (line_ahead a.ahead) before)
    → Continues (λ off e. postfix_with (inner room) off (Step tree.PostIncrement) e) (called_at a) given (called_at b) a before r b following
increment_took room a b before following given r h k m = step_took room tree.PostIncrement a b before following given r (step_called (first a.ahead) tree.PostIncrement h) k (λ line e. m ∙ ap (λ i. emitted (instr.Increment increment.PostIncrement) (checked given i before)) (sym e))

pub decrement_took : (room : ℕ) (a b : Tokens) (before following : Draft) (given : Form) (r : Result Form Halt) → suffix (first a.ahead) ≡ Some (Step tree.PostDecrement) → TakesCurrent (place_of before) a Lone r b → following ≡ emitted (instr.Increment increment.PostDecrement) (checked given (line_ahead a.ahead) before)
    → Continues (λ off e. postfix_with (inner room) off (Step tree.PostDecrement) e) (called_at a) given (called_at b) a before r b following
decrement_took room a b before following given r h k m = step_took room tree.PostDecrement a b before following given r (step_called (first a.ahead) tree.PostDecrement h) k (λ line e. m ∙ ap (λ i. emitted (instr.Increment increment.PostDecrement) (checked given i before)) (sym e))

-- an operand
pub operand_none : (room : ℕ) (a b : Tokens) (before following : Draft) (r : Result Form Halt) → IsLoaded a → prefix_op (first a.ahead) ≡ None → Follows (postfix (inner room)) false a before r b following → Follows (operand (inner room)) false a before r b following
operand_none room a b before following (Ok x) l h k = ((λ off. let t = k.0 off in record { tree = t.tree; runs = run_then (run_here l (λ u f n. rw (ap prefix_op f ∙ h) refl)) t.runs; made = t.made; form_is = t.form_is; leads = t.leads }), k.1)
operand_none room a b before following (Err why) l h k = λ off. halt_then why b (run_here l (λ u f n. rw (ap prefix_op f ∙ h) refl)) (k off)

prefix_read : (room k off line : ℕ) (p : tree.PrefixOp) (u : List Placed) → room ≡ k + 1 → prefix_op (first u) ≡ Some p → line_ahead u ≡ line → operand (inner room) off u ≡ (operand (inner k) off (after u) >>= λ e. Got (Prefixed p line e))
prefix_read room k off line p u h f n = ap (λ i. operand i off u) (at_room room k h) ∙ rw f (ap (λ i. operand (inner k) off (after u) >>= λ e. Got (Prefixed p i e)) n)

module _ (room k : ℕ) (p : tree.PrefixOp) (a b : Tokens) (enters : (room ≡ k + 1) × Advances a b) (here : prefix_op (first a.ahead) ≡ Some p) where
  abbrev prefix_runs : (off : ℕ) → Runs a b (operand (inner room) off) (λ v. operand (inner k) off v >>= λ e. Got (Prefixed p (line_ahead a.ahead) e))
  prefix_runs off = run_past enters.1 (λ u f n. prefix_read room k off (line_ahead a.ahead) p u enters.0 (ap prefix_op f ∙ here) n)

  pub prefix_stops : (c : Tokens) (why : Halt) → ((off : ℕ) → Halts (operand (inner k) off) b why c) → (off : ℕ) → Halts (operand (inner room) off) a why c
  prefix_stops c why h off = halt_after (operand (inner k) off) (λ e. Got (Prefixed p (line_ahead a.ahead) e)) why c (prefix_runs off) (h off)

  prefix_noted : (c : Tokens) (start mid draft following : Draft) (given found : Form) (line place : ℕ) → mid ≡ start → ((off : ℕ) → ExpressionTaken (operand (inner k) off) mid false b c draft given) × IsSingle c → line ≡ line_ahead a.ahead → following ≡ prefixed p line given draft → ((e : Expr) (l : ℕ) (d : Draft) → found ≡ form (Prefixed p l e) d) → place ≡ place_of draft
      → ((off : ℕ) → ExpressionTaken (operand (inner room) off) start false a (with_noted (noted_at place line c.noted) c) following found) × IsSingle (with_noted (noted_at place line c.noted) c)
  prefix_noted c start mid draft following given found line place es t n m f at = (
    (λ off. let x = t.0 off in record {
      tree = Prefixed p (line_ahead a.ahead) x.tree;
      runs = noted_moves (noted_at place line c.noted) (run_then (prefix_runs off) (run_bind (λ e. Got (Prefixed p (line_ahead a.ahead) e)) x.runs));
      made = m ∙ ap (λ i. prefixed p i given draft) n ∙ ap (λ y. prefixed p (line_ahead a.ahead) y draft) x.form_is ∙ ap (λ d. prefixed p (line_ahead a.ahead) (form x.tree d) d) (x.made ∙ ap (held false x.tree) es);
      form_is = f x.tree (line_ahead a.ahead) following;
      leads = λ u ls q.
          again_marked u ls place line (held false x.tree start) (at ∙ ap place_of (x.made ∙ ap (held false x.tree) es)) c.noted (ap (λ k. first_line k.coming) q ∙ ap first_line (enters.1.one (x.runs.passed ls)) ∙ sym n)
          (ap (λ m. trailed x.tree m (took u)) (sym es) ∙ x.leads (took u) ls (ap took q ∙ past enters.1 (x.runs.passed ls)));
    }),
    (noted_loaded (noted_at place line c.noted) t.1.0, t.1.1),
  )

  pub prefix_took : (c m : Tokens) (start mid draft following : Draft) (given found : Form) (line place : ℕ) → m ≡ with_noted (noted_at place line c.noted) c → mid ≡ start → ((off : ℕ) → ExpressionTaken (operand (inner k) off) mid false b c draft given) × IsSingle c → line ≡ line_ahead a.ahead → following ≡ prefixed p line given draft → ((e : Expr) (l : ℕ) (d : Draft) → found ≡ form (Prefixed p l e) d) → place ≡ place_of draft
      → ((off : ℕ) → ExpressionTaken (operand (inner room) off) start false a m following found) × IsSingle m
  prefix_took c m start mid draft following given found line place e es t n x f at =
      subst (λ y. ((off : ℕ) → ExpressionTaken (operand (inner room) off) start false a y following found) × IsSingle y) (sym e) (prefix_noted c start mid draft following given found line place es t n x f at)

pub prefix_leaves : (p : Prefix) (found : Form) → found ≡ prefix_form p → (e : Expr) (l : ℕ) (d : Draft) → found ≡ form (Prefixed (prefix_meant p) l e) d
prefix_leaves prefixes.Negate found h e l d = h
prefix_leaves _ found h e l d = h

-- operators
pub tighter_rank : (p : BinOp) (n : ℕ) → n ≡ rank p → rank p ≡ suc (n - 1)
tighter_rank p n h = omega (arith, h, rank_positive p)

pub chain_first_stops : (room rank : ℕ) (a c : Tokens) (why : Halt) → ((off : ℕ) → Halts (operand (inner room) off) a why c) → (off : ℕ) → Halts (chain (inner room) rank off) a why c
chain_first_stops room rank a c why k off = halt_as a why c (chain_climbs room rank off) (halt_bind a (operand (inner room) off) (climb room rank off) why c (k off))

pub chain_begins : (room rank : ℕ) (a b : Tokens) (start draft : Draft) (found : Form) → ((off : ℕ) → ExpressionTaken (operand (inner room) off) start false a b draft found) × IsSingle b → InChain room rank a start b draft found
chain_begins room rank a b start draft found t = record {
  so_far = λ off. let x = t.0 off in record { tree = x.tree; runs = run_as (chain_climbs room rank off) (run_bind (climb room rank off) x.runs); made = x.made; form_is = x.form_is; leads = x.leads };
  single = t.1;
}

module _ (room loosest : ℕ) (a m : Tokens) (start draft : Draft) (found : Form) (s : InChain room loosest a start m draft found) where
  pub chain_ends : op_within loosest (first m.ahead) ≡ None → ((off : ℕ) → ExpressionTaken (chain (inner room) loosest off) start false a m draft found) × IsSingle m
  chain_ends none = (
    (λ off. let t = s.so_far off in record {
      tree = t.tree;
      runs = run_then t.runs (run_here s.single.0 (λ u f n. climb_none room loosest off t.tree u (λ i le. ap (op_at i) f ∙ within_none loosest (first m.ahead) none i le)));
      made = t.made;
      form_is = t.form_is;
      leads = t.leads;
    }),
    s.single,
  )

  module _ (p : BinOp) (is : op_within loosest (first m.ahead) ≡ Some p) (j : ℕ) (tighter : rank p ≡ suc j) (b : Tokens) (ad : Advances m b) where
    operator_read : (off : ℕ) (e : Expr) (u : List Placed) → first u ≡ first m.ahead → line_ahead u ≡ line_ahead m.ahead → climb room loosest off e u ≡ (chain (inner room) j (off + words e) (after u) >>= λ f. climb room loosest off (Binary p (line_ahead m.ahead) e f))
    operator_read off e u f n =
        let w = within_some loosest (first m.ahead) p is in
        climb_some room loosest j off p e u (f ∙ w.0) tighter (omega (arith, w.1, tighter))
        ∙ ap (λ i. chain (inner room) j (off + words e) (after u) >>= λ f. climb room loosest off (Binary p i e f)) n

    abbrev operator_runs : (off : ℕ) → Runs a b (chain (inner room) loosest off) (λ v. chain (inner room) j (off + words (s.so_far off).tree) v >>= λ f. climb room loosest off (Binary p (line_ahead m.ahead) (s.so_far off).tree f))
    operator_runs off = run_then (s.so_far off).runs (run_past ad (λ u f n. operator_read off (s.so_far off).tree u f n))

    pub right_stops : (c : Tokens) (why : Halt) → ((off : ℕ) → Halts (chain (inner room) j off) b why c) → (off : ℕ) → Halts (chain (inner room) loosest off) a why c
    right_stops c why k off = halt_after (chain (inner room) j (off + words (s.so_far off).tree)) (λ f. climb room loosest off (Binary p (line_ahead m.ahead) (s.so_far off).tree f)) why c (operator_runs off) (k (off + words (s.so_far off).tree))

    pub chain_goes : (c : Tokens) (mid last loads_ following : Draft) (given : Form) → mid ≡ loads found draft → ((off : ℕ) → ExpressionTaken (chain (inner room) j off) mid false b c last given) × IsSingle c → loads_ ≡ loads given last → following ≡ emitted (instr.Binary p) loads_ → InChain room loosest a start c following Joined
    chain_goes c mid last loads_ following given l k l2 m2 = record {
      so_far = λ off. let x = s.so_far off in let t = k.0 (off + words x.tree) in record {
        tree = Binary p (line_ahead m.ahead) x.tree t.tree;
        runs = run_then (operator_runs off) (run_bind (λ f. climb room loosest off (Binary p (line_ahead m.ahead) x.tree f)) t.runs);
        made = m2 ∙ ap (emitted (instr.Binary p)) (word_is last loads_ mid given false t.tree l2 t.made t.form_is ∙ ap (evaluated t.tree) (word_is draft mid start found false x.tree l x.made x.form_is));
        form_is = refl;
        leads = λ u ls q. ap (λ y. trailed t.tree y (took (trailed x.tree start u))) (sym (word_is draft mid start found false x.tree l x.made x.form_is)) ∙ t.leads (took (trailed x.tree start u)) ls (ap took (x.leads u _ q) ∙ past ad _);
      };
      single = k.1;
    }

pub operator_stops : (room rank : ℕ) (a m b : Tokens) (start draft : Draft) (found : Form) (why : Halt) → InChain room rank a start m draft found → TokensFail m b → why ≡ halt.Device → (off : ℕ) → Halts (chain (inner room) rank off) a why b
operator_stops room rank a m b start draft found why s br e off = halt_device (chain (inner room) rank off) why e (Moves-breaks (s.so_far off).runs br)

-- the word of an expression
pub evaluate_took : (room : ℕ) (a b : Tokens) (start draft following : Draft) (found : Form) → ((off : ℕ) → ExpressionTaken (reader room Rvalue off) start false a b draft found) × IsSingle b → following ≡ loads found draft → ((off : ℕ) → TookWord (reader room Rvalue off) start a b following) × IsSingle b
evaluate_took room a b start draft following found t l = ((λ off. let x = t.0 off in record { tree = x.tree; runs = x.runs; made = word_is draft following start found false x.tree l x.made x.form_is; leads = x.leads }), t.1)

-- arguments
call_at : (k off : ℕ) (e : Expr) (u : List Placed) → call (inner (k + 1)) off e u ≡ call (inner (suc k)) off e u
call_at k off e u = ap (λ i. call i off e u) (at_room (k + 1) k refl)

none_read : (k off : ℕ) (e : Expr) (u : List Placed) → is_close_paren (first u) ≡ true → call (inner (suc k)) off e u ≡ Got (Called e No_arguments) (after u)
none_read k off e u h = rw h refl

some_read : (k off : ℕ) (e : Expr) (u : List Placed) → is_close_paren (first u) ≡ false → call (inner (suc k)) off e u ≡ (reader k Rvalue (off + words e) u >>= λ f. more_arguments k off e (Another No_arguments f))
some_read k off e u h = rw h (bind_twice (reader k Rvalue (off + words e) u) (λ f. many (always comma) (another (inner (suc k)) (off + words e)) (Another No_arguments f)) (λ args r. expect is_close_paren r >>= λ o. Got (Called e args)))

comma_read : (k off : ℕ) (e : Expr) (args : Arguments) (u : List Placed) → comma (first u) ≡ Some tt → more_arguments k off e args u ≡ (reader k Rvalue (off + words e + argument_words args) (after u) >>= λ f. more_arguments k off e (Another args f))
comma_read k off e args u h =
    ap (λ x. x >>= λ args r. expect is_close_paren r >>= λ o. Got (Called e args)) (many_some closing (always comma) (another (inner (suc k)) (off + words e)) (comma_loop (inner (suc k)) (has_room (suc k)) (good_at k) (off + words e)) tt args u h)
    ∙ bind_twice (another (inner (suc k)) (off + words e) tt args u) (many (always comma) (another (inner (suc k)) (off + words e))) (λ args r. expect is_close_paren r >>= λ o. Got (Called e args))
    ∙ bind_twice (reader k Rvalue (off + words e + argument_words args) (after u)) (λ f. Got (Another args f)) (more_arguments k off e)

pub no_arguments : (k : ℕ) (a b : Tokens) (draft : Draft) → is_close_paren (first a.ahead) ≡ true → Advances a b → ((off : ℕ) (e : Expr) → TookArguments (call (inner (k + 1)) off e) e draft a b draft 0) × IsSingle b
no_arguments k a b draft h ad = ((λ off e. record { arguments = No_arguments; runs = run_past ad (λ u f n. call_at k off e u ∙ none_read k off e u (ap is_close_paren f ∙ h)); made = refl; count_is = refl; leads = λ u ls q. ap took q ∙ past ad ls }), ad.single)

module _ (k : ℕ) (a : Tokens) (l : IsLoaded a) (h : is_close_paren (first a.ahead) ≡ false) where
  abbrev first_runs : (off : ℕ) (e : Expr) → Runs a a (call (inner (k + 1)) off e) (λ v. reader k Rvalue (off + words e) v >>= λ f. more_arguments k off e (Another No_arguments f))
  first_runs off e = run_here l (λ u f n. call_at k off e u ∙ some_read k off e u (ap is_close_paren f ∙ h))

  pub first_stops : (c : Tokens) (why : Halt) → ((off : ℕ) → Halts (reader k Rvalue off) a why c) → (off : ℕ) (e : Expr) → Halts (call (inner (k + 1)) off e) a why c
  first_stops c why s off e = halt_after (reader k Rvalue (off + words e)) (λ f. more_arguments k off e (Another No_arguments f)) why c (first_runs off e) (s (off + words e))

  pub arguments_begin : (b : Tokens) (start draft : Draft) → ((off : ℕ) → TookWord (reader k Rvalue off) start a b draft) × IsSingle b → InArguments k a start b draft 1
  arguments_begin b start draft t = record {
    so_far = λ off e. let x = t.0 (off + words e) in record {
      arguments = Another No_arguments x.tree;
      runs = run_then (first_runs off e) (run_bind (λ f. more_arguments k off e (Another No_arguments f)) x.runs);
      made = x.made;
      count_is = refl;
      leads = x.leads;
      some = λ u. refl;
    };
    single = t.1;
  }

module _ (k : ℕ) (a m : Tokens) (start draft : Draft) (count : ℕ) (s : InArguments k a start m draft count) where
  pub comma_stops : (b : Tokens) (why : Halt) → TokensFail m b → why ≡ halt.Device → (off : ℕ) (e : Expr) → Halts (call (inner (k + 1)) off e) a why b
  comma_stops b why br w off e = halt_device (call (inner (k + 1)) off e) why w (Moves-breaks (s.so_far off e).runs br)

  module _ (b : Tokens) (is : is_comma (first m.ahead) ≡ true) (ad : Advances m b) where
    abbrev comma_runs : (off : ℕ) (e : Expr) → Runs a b (call (inner (k + 1)) off e) (λ v. reader k Rvalue (off + words e + argument_words (s.so_far off e).arguments) v >>= λ f. more_arguments k off e (Another (s.so_far off e).arguments f))
    comma_runs off e = run_then (s.so_far off e).runs (run_past ad (λ u f n. comma_read k off e (s.so_far off e).arguments u (ap comma f ∙ is_a_comma (first m.ahead) is)))

    pub more_stops : (c : Tokens) (why : Halt) → ((off : ℕ) → Halts (reader k Rvalue off) b why c) → (off : ℕ) (e : Expr) → Halts (call (inner (k + 1)) off e) a why c
    more_stops c why h off e = halt_after (reader k Rvalue (off + words e + argument_words (s.so_far off e).arguments)) (λ f. more_arguments k off e (Another (s.so_far off e).arguments f)) why c (comma_runs off e) (h (off + words e + argument_words (s.so_far off e).arguments))

    pub arguments_go : (c : Tokens) (following : Draft) (next : ℕ) → ((off : ℕ) → TookWord (reader k Rvalue off) draft b c following) × IsSingle c → next ≡ min (count + 1) 65535 → InArguments k a start c following next
    arguments_go c following next t n = record {
      so_far = λ off e. let x = s.so_far off e in let y = t.0 (off + words e + argument_words x.arguments) in record {
        arguments = Another x.arguments y.tree;
        runs = run_then (comma_runs off e) (run_bind (λ f. more_arguments k off e (Another x.arguments f)) y.runs);
        made = y.made ∙ ap (evaluated y.tree) x.made;
        count_is = n ∙ one_more count (argument_count x.arguments) x.count_is;
        leads = λ u ls q. ap (λ m. trailed y.tree m (past_comma x.arguments (trailed_arguments x.arguments start u))) (sym x.made) ∙ y.leads (past_comma x.arguments (trailed_arguments x.arguments start u)) ls (x.some _ ∙ ap took (x.leads u _ q) ∙ past ad _);
        some = λ u. refl;
      };
      single = t.1;
    }
      where
        one_more : (i j : ℕ) → i ≡ min j most_arguments → min (i + 1) 65535 ≡ min (j + 1) most_arguments
        one_more i j h = omega (arith, h)

  module _ (none : is_comma (first m.ahead) ≡ false) where
    abbrev end_runs : (off : ℕ) (e : Expr) → Runs a m (call (inner (k + 1)) off e) (λ v. expect is_close_paren v >>= λ o. Got (Called e (s.so_far off e).arguments))
    end_runs off e = run_then (s.so_far off e).runs (run_here s.single.0 (λ u f n. ap (λ x. x >>= λ args r. expect is_close_paren r >>= λ o. Got (Called e args)) (many_none (always comma) (another (inner (suc k)) (off + words e)) (s.so_far off e).arguments u (ap comma f ∙ is_no_comma (first m.ahead) none))))

    pub end_stops : (c : Tokens) (why : Halt) → Halts (expect is_close_paren) m why c → (off : ℕ) (e : Expr) → Halts (call (inner (k + 1)) off e) a why c
    end_stops c why h off e = halt_after (expect is_close_paren) (λ o. Got (Called e (s.so_far off e).arguments)) why c (end_runs off e) h

    pub arguments_end : (c : Tokens) (following : Draft) → Expected is_close_paren m c → following ≡ draft → ((off : ℕ) (e : Expr) → TookArguments (call (inner (k + 1)) off e) e start a c following count) × IsSingle c
    arguments_end c following x eb = (
      (λ off e. let y = s.so_far off e in record {
        arguments = y.arguments;
        runs = run_then (end_runs off e) (run_bind (λ o. Got (Called e y.arguments)) x.runs);
        made = eb ∙ y.made;
        count_is = y.count_is;
        leads = λ u ls q. ap took (y.leads u _ q) ∙ past_expected x ls;
      }),
      x.single,
    )

-- a conditional
choice_read : (room k off : ℕ) (e : Expr) (u : List Placed) → room ≡ k + 1 → is_question (first u) ≡ true → conditional (inner room) off e u ≡ (reader k Rvalue (off + words e) (after u) >>= λ f r. expect is_colon r >>= λ o r. reader k Choice (off + words e + words f) r >>= λ g. Got (Conditional e f g))
choice_read room k off e u h q = ap (λ i. conditional i off e u) (at_room room k h) ∙ rw q refl

pub conditional_none : (room : ℕ) (a : Tokens) (before : Draft) (given : Form) → IsSingle a → is_question (first a.ahead) ≡ false → ((off : ℕ) (e : Expr) (start : Draft) → before ≡ held false e start → given ≡ form e before → ExpressionAfter (trailed e start) (conditional (inner room) off e) start false a a before given) × IsSingle a
conditional_none room a before given l q = ((λ off e start h f. record { tree = e; runs = run_here l.0 (λ u g n. rw (ap is_question g ∙ q) refl); made = h; form_is = f; leads = λ u ls q. q }), l)

module _ (room k : ℕ) (a b : Tokens) (enters : (room ≡ k + 1) × Advances a b) (q : is_question (first a.ahead) ≡ true) where
  abbrev test_runs : (off : ℕ) (e : Expr) → Runs a b (conditional (inner room) off e) (λ v. reader k Rvalue (off + words e) v >>= λ f r. expect is_colon r >>= λ o r. reader k Choice (off + words e + words f) r >>= λ g. Got (Conditional e f g))
  test_runs off e = run_past enters.1 (λ u f n. choice_read room k off e u enters.0 (ap is_question f ∙ q))

  pub arm_stops : (c : Tokens) (why : Halt) → ((off : ℕ) → Halts (reader k Rvalue off) b why c) → (off : ℕ) (e : Expr) → Halts (conditional (inner room) off e) a why c
  arm_stops c why h off e = halt_after (reader k Rvalue (off + words e)) (λ f r. expect is_colon r >>= λ o r. reader k Choice (off + words e + words f) r >>= λ g. Got (Conditional e f g)) why c (test_runs off e) (h (off + words e))

  module _ (c : Tokens) (start1 draft1 : Draft) (t : (off : ℕ) → TookWord (reader k Rvalue off) start1 b c draft1) where
    abbrev arm_runs : (off : ℕ) (e : Expr) → Runs a c (conditional (inner room) off e) (λ v. expect is_colon v >>= λ o r. reader k Choice (off + words e + words (t (off + words e)).tree) r >>= λ g. Got (Conditional e (t (off + words e)).tree g))
    arm_runs off e = run_then (test_runs off e) (run_bind (λ f r. expect is_colon r >>= λ o r. reader k Choice (off + words e + words f) r >>= λ g. Got (Conditional e f g)) (t (off + words e)).runs)

    pub colon_stops : (d : Tokens) (why : Halt) → Halts (expect is_colon) c why d → (off : ℕ) (e : Expr) → Halts (conditional (inner room) off e) a why d
    colon_stops d why h off e = halt_after (expect is_colon) (λ o r. reader k Choice (off + words e + words (t (off + words e)).tree) r >>= λ g. Got (Conditional e (t (off + words e)).tree g)) why d (arm_runs off e) h

    module _ (d : Tokens) (x : Expected is_colon c d) where
      abbrev colon_runs : (off : ℕ) (e : Expr) → Runs a d (conditional (inner room) off e) (λ v. (chain (inner k) or_rank (off + words e + words (t (off + words e)).tree) v >>= conditional (inner k) (off + words e + words (t (off + words e)).tree)) >>= λ g. Got (Conditional e (t (off + words e)).tree g))
      colon_runs off e = run_then (arm_runs off e) (run_bind (λ o r. reader k Choice (off + words e + words (t (off + words e)).tree) r >>= λ g. Got (Conditional e (t (off + words e)).tree g)) x.runs)

      pub chain_stops : (m : Tokens) (why : Halt) → ((off : ℕ) → Halts (chain (inner k) or_rank off) d why m) → (off : ℕ) (e : Expr) → Halts (conditional (inner room) off e) a why m
      chain_stops m why h off e = let i = off + words e + words (t (off + words e)).tree in
          halt_after (λ v. chain (inner k) or_rank i v >>= conditional (inner k) i) (λ g. Got (Conditional e (t (off + words e)).tree g)) why m (colon_runs off e) (halt_bind d (chain (inner k) or_rank i) (conditional (inner k) i) why m (h i))

      module _ (m : Tokens) (start2 draft2 : Draft) (form2 : Form) (y : (off : ℕ) → ExpressionTaken (chain (inner k) or_rank off) start2 false d m draft2 form2) where
        abbrev rest_runs : (off : ℕ) (e : Expr) → Runs a m (conditional (inner room) off e) (λ v. conditional (inner k) (off + words e + words (t (off + words e)).tree) (y (off + words e + words (t (off + words e)).tree)).tree v >>= λ g. Got (Conditional e (t (off + words e)).tree g))
        rest_runs off e = let i = off + words e + words (t (off + words e)).tree in
            run_then (colon_runs off e) (run_bind (λ g. Got (Conditional e (t (off + words e)).tree g)) (run_bind (conditional (inner k) i) (y i).runs))

        pub rest_stops : (n : Tokens) (why : Halt) → ((off : ℕ) (e : Expr) → Halts (conditional (inner k) off e) m why n) → (off : ℕ) (e : Expr) → Halts (conditional (inner room) off e) a why n
        rest_stops n why h off e = let i = off + words e + words (t (off + words e)).tree in
            halt_after (conditional (inner k) i (y i).tree) (λ g. Got (Conditional e (t (off + words e)).tree g)) why n (rest_runs off e) (h i (y i).tree)

        pub conditional_took : (n : Tokens) (before loads_ jumps colon jump draft3 loads3 following : Draft) (given form3 : Form) (test end second last : ℕ)
            → ((off : ℕ) (e : Expr) (start : Draft) → draft2 ≡ held false e start → form2 ≡ form e draft2 → ExpressionAfter (trailed e start) (conditional (inner k) off e) start false m n draft3 form3) × IsSingle n
            → loads_ ≡ loads given before → jumps ≡ loads_ → test ≡ place_of jumps → start1 ≡ emitted (instr.JumpIfZero 0) jumps → colon ≡ draft1 → end ≡ place_of colon → jump ≡ emitted (instr.Jump 0) colon → second ≡ place_of jump
            → start2 ≡ filled test (instr.JumpIfZero second) jump → loads3 ≡ loads form3 draft3 → last ≡ place_of loads3 → following ≡ filled end (instr.Jump last) loads3
            → ((off : ℕ) (e : Expr) (start : Draft) → before ≡ held false e start → given ≡ form e before → ExpressionAfter (trailed e start) (conditional (inner room) off e) start false a n following Joined) × IsSingle n
        conditional_took n before loads_ jumps colon jump draft3 loads3 following given form3 test end second last z l1 ej e1 e2 e3 e4 e5 e6 e7 l2 e8 e9 = (
          (λ off e start h f.
              let i = off + words e + words (t (off + words e)).tree in
              let w = t (off + words e) in
              let g = z.0 i (y i).tree start2 (y i).made (y i).form_is in
              record {
                tree = Conditional e w.tree g.tree;
                runs = run_then (rest_runs off e) (run_bind (λ g. Got (Conditional e w.tree g)) g.runs);
                made = arms_made (evaluated w.tree) (evaluated g.tree) jumps start1 colon jump start2 loads3 following test end second last e1 e2 (e3 ∙ w.made) e4 e5 e6 e7 (word_is draft3 loads3 start2 form3 false g.tree l2 g.made g.form_is) e8 e9
                    ∙ ap (ways (evaluated w.tree) (evaluated g.tree)) (ej ∙ word_is before loads_ start given false e l1 h f);
                form_is = refl;
                leads = λ u ls q.
                    let jumps_is : jumps ≡ evaluated e start = ej ∙ word_is before loads_ start given false e l1 h f in
                    let start1_is : start1 ≡ emitted (instr.JumpIfZero 0) (evaluated e start) = e2 ∙ ap (emitted (instr.JumpIfZero 0)) jumps_is in
                    let start2_is : start2 ≡ between_ways (evaluated w.tree) (evaluated e start) =
                    between_made (evaluated w.tree) jumps start1 colon jump start2 test second e1 e2 (e3 ∙ w.made) e5 e6 e7 ∙ ap (between_ways (evaluated w.tree)) jumps_is in
                    let v1 = took (trailed e start u) in
                    let v2 = trailed w.tree (emitted (instr.JumpIfZero 0) (evaluated e start)) v1 in
                    let to_c = ap (λ m. trailed w.tree m v1) (sym start1_is) ∙ w.leads v1 (x.runs.passed ((y i).runs.passed (g.runs.passed ls))) (ap took q ∙ past enters.1 _) in
                    let to_d = ap took to_c ∙ past_expected x ((y i).runs.passed (g.runs.passed ls)) in
                    ap (λ m. trailed g.tree m (took v2)) (sym start2_is) ∙ g.leads (took v2) ls ((y i).leads (took v2) (g.runs.passed ls) to_d);
              }),
          z.1,
        )
          where
            between_made : (first_ : Draft → Draft) (d0 d1 d2 d3 d4 : Draft) (p r : ℕ) → p ≡ place_of d0 → d1 ≡ emitted (instr.JumpIfZero 0) d0 → d2 ≡ first_ d1 → d3 ≡ emitted (instr.Jump 0) d2 → r ≡ place_of d3 → d4 ≡ filled p (instr.JumpIfZero r) d3 → d4 ≡ between_ways first_ d0
            between_made first_ d0 d1 d2 d3 d4 p r h1 h2 h3 h5 h6 h7 = rw (h7, h6, h5, h3, h2, h1) refl

            arms_made : (first_ second_ : Draft → Draft) (d0 d1 d2 d3 d4 d5 d6 : Draft) (p q r s : ℕ) → p ≡ place_of d0 → d1 ≡ emitted (instr.JumpIfZero 0) d0 → d2 ≡ first_ d1 → q ≡ place_of d2 → d3 ≡ emitted (instr.Jump 0) d2 → r ≡ place_of d3
                → d4 ≡ filled p (instr.JumpIfZero r) d3 → d5 ≡ second_ d4 → s ≡ place_of d5 → d6 ≡ filled q (instr.Jump s) d5 → d6 ≡ ways first_ second_ d0
            arms_made first_ second_ d0 d1 d2 d3 d4 d5 d6 p q r s h1 h2 h3 h4 h5 h6 h7 h8 h9 h10 = rw (h10, h9, h8, h7, h6, h5, h4, h3, h2, h1) refl

-- an assignment
abbrev stands : Form → Bool
stands Place = true
stands Lone = true
stands Joined = false

name_stands : (k : Option NameKind) → stands (drafts.form_at k) ≡ true
name_stands (Some (Automatic w)) = refl
name_stands _ = refl

group_stands : (f : Form) → stands (drafts.grouped f) ≡ true
group_stands Place = refl
group_stands Lone = refl
group_stands Joined = refl

operand_stands : (e : Expr) (d : Draft) → is_operand e ≡ stands (form e d)
operand_stands (Named w) d = sym (name_stands (kind_of w.text (drafts.draft_names d)))
operand_stands (Grouped e) d = sym (group_stands (form e d))
operand_stands (Prefixed tree.Negate line e) d = refl
operand_stands _ d = refl

assigns_at : (e : Expr) (f : Form) (t : Token) → is_operand e ≡ stands f → assigns e t ≡ assigned_at f t
assigns_at e Place (token.Assign op) h = rw h refl
assigns_at e Lone (token.Assign op) h = rw h refl
assigns_at e Joined (token.Assign op) h = rw h refl
assigns_at e Place _ h = refl
assigns_at e Lone _ h = refl
assigns_at e Joined _ h = refl

assigns_form : (e : Expr) (d : Draft) (found : Form) (t : Token) → found ≡ form e d → assigns e t ≡ assigned_at found t
assigns_form e d found t h = assigns_at e found t (operand_stands e d ∙ ap stands (sym h))

pub rvalue_stops : (room : ℕ) (a c : Tokens) (why : Halt) → ((off : ℕ) → Halts (chain (inner room) or_rank off) a why c) → (off : ℕ) → Halts (reader room Rvalue off) a why c
rvalue_stops room a c why h off = halt_bind a (chain (inner room) or_rank off) (rvalue_from (inner room) off) why c (h off)

module _ (room : ℕ) (a b : Tokens) (start draft : Draft) (found : Form) (t : ((off : ℕ) → ExpressionTaken (chain (inner room) or_rank off) start false a b draft found) × IsSingle b) where
  abbrev chained : (off : ℕ) → Runs a b (reader room Rvalue off) (rvalue_from (inner room) off (t.0 off).tree)
  chained off = run_bind (rvalue_from (inner room) off) (t.0 off).runs

  module _ (none : assigned_at found (first b.ahead) ≡ None) where
    abbrev condition : (off : ℕ) → Runs a b (reader room Rvalue off) (conditional (inner room) off (t.0 off).tree)
    condition off = run_then (chained off) (run_here t.1.0 (λ u f n. rw (ap (assigns (t.0 off).tree) f ∙ assigns_form (t.0 off).tree draft found (first b.ahead) (t.0 off).form_is ∙ none) refl))

    pub rvalue_goes : (c : Tokens) (following : Draft) (r : Result Form Halt) → Continues (conditional (inner room)) false found false b draft r c following → Follows (reader room Rvalue) false a start r c following
    rvalue_goes c following (Ok x) k = ((λ off. let g = k.0 off (t.0 off).tree start (t.0 off).made (t.0 off).form_is in record { tree = g.tree; runs = run_then (condition off) g.runs; made = g.made; form_is = g.form_is; leads = λ u ls q. g.leads u ls ((t.0 off).leads u (g.runs.passed ls) q) }), k.1)
    rvalue_goes c following (Err why) k = λ off. halt_then why c (condition off) (k off (t.0 off).tree)

  module _ (p : Option BinOp) (is : assigned_at found (first b.ahead) ≡ Some p) where
    abbrev assign_runs : (off : ℕ) → Runs a b (reader room Rvalue off) (λ v. (inner room).enter v >>= λ o r. (inner room).read Rvalue (off + words (t.0 off).tree) r >>= λ f. Got (Assigned p (line_ahead b.ahead) (t.0 off).tree f))
    assign_runs off = run_then (chained off) (run_here t.1.0 (λ u f n.
        rw (ap (assigns (t.0 off).tree) f ∙ assigns_form (t.0 off).tree draft found (first b.ahead) (t.0 off).form_is ∙ is)
        (ap (λ i. (inner room).enter u >>= λ o r. (inner room).read Rvalue (off + words (t.0 off).tree) r >>= λ f. Got (Assigned p i (t.0 off).tree f)) n)))

    pub assign_full : (c : Tokens) (why : Halt) → Halts (inner room).enter b why c → (off : ℕ) → Halts (reader room Rvalue off) a why c
    assign_full c why h off = halt_after (inner room).enter (λ o r. (inner room).read Rvalue (off + words (t.0 off).tree) r >>= λ f. Got (Assigned p (line_ahead b.ahead) (t.0 off).tree f)) why c (assign_runs off) h

    module _ (k : ℕ) (c : Tokens) (enters : (room ≡ k + 1) × Advances b c) where
      abbrev value_runs : (off : ℕ) → Runs a c (reader room Rvalue off) (λ v. reader k Rvalue (off + words (t.0 off).tree) v >>= λ f. Got (Assigned p (line_ahead b.ahead) (t.0 off).tree f))
      value_runs off = run_then (assign_runs off) (run_past enters.1 (λ u f n. ap (λ i. i.enter u >>= λ o r. i.read Rvalue (off + words (t.0 off).tree) r >>= λ f. Got (Assigned p (line_ahead b.ahead) (t.0 off).tree f)) (at_room room k enters.0)))

      pub assign_stops : (d : Tokens) (why : Halt) → ((off : ℕ) → Halts (reader k Rvalue off) c why d) → (off : ℕ) → Halts (reader room Rvalue off) a why d
      assign_stops d why h off = halt_after (reader k Rvalue (off + words (t.0 off).tree)) (λ f. Got (Assigned p (line_ahead b.ahead) (t.0 off).tree f)) why d (value_runs off) (h (off + words (t.0 off).tree))

      pub assign_took : (d : Tokens) (wants mid last following : Draft) (line : ℕ) → line ≡ line_ahead b.ahead → wants ≡ checked found line draft → mid ≡ wants → ((off : ℕ) → TookWord (reader k Rvalue off) mid c d last) × IsSingle d → following ≡ emitted (assignment p) last → ((off : ℕ) → ExpressionTaken (reader room Rvalue off) start false a d following Joined) × IsSingle d
      assign_took d wants mid last following line n m em v eo = (
        (λ off. let x = t.0 off in let w = v.0 (off + words x.tree) in record {
          tree = Assigned p (line_ahead b.ahead) x.tree w.tree;
          runs = run_then (value_runs off) (run_bind (λ f. Got (Assigned p (line_ahead b.ahead) x.tree f)) w.runs);
          made = eo ∙ ap (emitted (assignment p)) (w.made ∙ ap (evaluated w.tree) (em ∙ m ∙ ap (λ i. checked found i draft) n ∙ ap (λ y. checked y (line_ahead b.ahead) draft) x.form_is ∙ ap (λ y. checked (form x.tree y) (line_ahead b.ahead) y) x.made));
          form_is = refl;
          leads = λ u ls q. ap (λ y. trailed w.tree y (took (trailed x.tree start u))) (sym (em ∙ m ∙ ap (λ i. checked found i draft) n ∙ ap (λ y. checked y (line_ahead b.ahead) draft) x.form_is ∙ ap (λ y. checked (form x.tree y) (line_ahead b.ahead) y) x.made)) ∙ w.leads (took (trailed x.tree start u)) ls (ap took (x.leads u _ q) ∙ past enters.1 _);
        }),
        v.1,
      )

-- what goes on by a suffix that is known
pub as_suffix : (room : ℕ) (s b : reading.Suffix) (given : Form) (a c : Tokens) (before following : Draft) (r : Result Form Halt) → s ≡ b → Continues (λ off e. postfix_with (inner room) off b e) (called_at a) given (called_at c) a before r c following → Continues (λ off e. postfix_with (inner room) off s e) (called_at a) given (called_at c) a before r c following
as_suffix room s b given a c before following r e k = subst (λ x. Continues (λ off y. postfix_with (inner room) off x y) (called_at a) given (called_at c) a before r c following) (sym e) k
