-- A tree fits where its operators bind and its walk fits, and only there.
use Rattle.std.proofs.Common.{◌≡◌, ℕ, zero, suc, ◌+◌, ◌-◌, List, [], ◌∷◌, ◌++◌, append-nil, sym, ap, ◌∙◌, refl, arith, add-zero, Option}
use Rattle.std.specs.List.{flat_map}
use Rattle.std.proofs.lemmas.List.Sums.{sum_by-append, sum_by-cons}
use Rattle.blang.specs.Trees.{Identifier, Expr, Arguments, Named, Literal, Text, Grouped, Indexed, Called, Postfixed, Prefixed, Binary, Conditional, Assigned, No_arguments, Another, Heading, Stmt, Headed, Compound, If, IfElse, While, Switch, Goto, Break, Return, ReturnValue, Evaluate, Empty, Stmts, Nothing, More, Ival, Ival_constant, Ival_text, Ival_name, Definition, Simple, Vector, Function}
use Rattle.blang.specs.WellFormed.{rank, or_rank, conditional_rank, rvalue_rank, Binds, ArgumentsBind, StatementBinds, BodyBinds, IsFormed}
use Rattle.blang.specs.declared.limits.TheConstants.{MAX_NESTING}
use Rattle.blang.specs.Walk.{Walk, levels_in, walk_commas, walk_list, comma_before_next, walk, walk_arguments, walk_size, walk_heading, walk_parenthesized, walk_statement, walk_body, walk_value, walk_values, walk_parameter, walk_definition}
use Rattle.blang.specs.Code.{string_words_of}
use Rattle.bgrammar.specs.Fitting.{EachAfter, words_in, words, argument_words, FitsIn, Fits, ArgumentsFit, statement_words, body_words, Sits, AllSit, ival_words, values_words, IvalFits, strings_in, statement_strings, ival_strings}
use Rattle.bgrammar.specs.Levels.{IsFormedIn}
use Rattle.bgrammar.proofs.WalkLaws.{callee_words, strings_are, fits_in, in_room, in_order, at_offset, to_callee, from_callee, plain_words, plain_strings, plain_fits, size_plain, comma_plain, parameters_plain, heading_plain}

comma_words : (args : Arguments) → words_in (comma_before_next args) ≡ 0
comma_words args = plain_words (comma_before_next args) (comma_plain args)

pub heading_words : (h : Heading) → words_in (walk_heading h) ≡ 0
heading_words h = plain_words (walk_heading h) (heading_plain h)

-- past tokens, which have no words
past : (w : Walk) (room a : ℕ) → FitsIn w room (a + 0) → FitsIn w room a
past w room a h = at_offset w room (a + 0) a (add-zero a) h

upto : (w : Walk) (room a : ℕ) → FitsIn w room a → FitsIn w room (a + 0)
upto w room a h = at_offset w room a (a + 0) (sym (add-zero a)) h

-- What binds and fits in its walk fits.
mutual
  pub fits : (e : Expr) (loose room off : ℕ) → Binds e loose → FitsIn (walk e) room off → Fits e loose room off
  fits (Named w) loose room off b h = tt
  fits (Literal c) loose room off b h = tt
  fits (Text bytes offset) loose room off b h = h
  fits (Grouped e) loose zero off b h = h.0
  fits (Grouped e) loose (suc k) off b h = fits e rvalue_rank k off b h.0
  fits (Indexed e f) loose zero off b h = absurd h.1.0
  fits (Indexed e f) loose (suc k) off b h = (b.0, fits e 0 (suc k) off b.1 h.0, fits f rvalue_rank k (off + words e) b.2 h.1.0)
  fits (Called e args) loose zero off b h = absurd h.1.0
  fits (Called e args) loose (suc k) off b h =
      (b.0, fits e 0 (suc k) off b.1 (from_callee e (suc k) off h.0), arguments_fit args k (off + words e) b.2 (at_offset (walk_arguments args) k _ (off + words e) (ap (λ n. off + n) (callee_words e)) h.1.0))
  fits (Postfixed op line e) loose room off b h = (b.0, fits e 0 room off b.1 h.0)
  fits (Prefixed op line e) loose zero off b h = h
  fits (Prefixed op line e) loose (suc k) off b h = fits e 0 k off b h
  fits (Binary op line e f) loose room off b h = (b.0, fits e (rank op) room off b.1 h.0, fits f (rank op - 1) room (off + words e) b.2 (past (walk f) room (off + words e) h.1.1))
  fits (Conditional e f g) loose zero off b h = absurd h.1
  fits (Conditional e f g) loose (suc k) off b h =
      let o = off + words e in
      (b.0, fits e or_rank (suc k) off b.1 h.0, (fits f rvalue_rank k o b.2 h.1.0, fits g conditional_rank k (o + words f) b.3 (past (walk g) k (o + words f) h.1.1.1)))
  fits (Assigned op line e f) loose zero off b h = absurd h.1.1
  fits (Assigned op line e f) loose (suc k) off b h = (b.0, fits e 0 (suc k) off b.1 h.0, fits f rvalue_rank k (off + words e) b.2 (past (walk f) k (off + words e) h.1.1))

  pub arguments_fit : (args : Arguments) (room off : ℕ) → ArgumentsBind args → FitsIn (walk_arguments args) room off → ArgumentsFit args room off
  arguments_fit No_arguments room off b h = tt
  arguments_fit (Another before e) room off b h =
      let o = off + argument_words before in
      (arguments_fit before room off b.0 h.0, fits e rvalue_rank room o b.1 (at_offset (walk e) room _ o (omega (arith, comma_words before)) h.1.1))

condition_fits : (e : Expr) (room off : ℕ) → Binds e rvalue_rank → FitsIn (walk_parenthesized e) room off → Fits e rvalue_rank room off
condition_fits e room off b h = fits e rvalue_rank room off b (past (walk e) room off h.1.0)

mutual
  pub sits : (s : Stmt) (room off : ℕ) → StatementBinds s → FitsIn (walk_statement s) room off → Sits s room off
  sits (Headed h s) room off b f = (b.0, sits s room off b.1 (at_offset (walk_statement s) room _ off (omega (arith, heading_words h)) f.1))
  sits (Compound body) zero off b f = f.0
  sits (Compound body) (suc k) off b f = all_sit body k off b f.0
  sits (If e s) zero off b f = f
  sits (If e s) (suc k) off b f = (condition_fits e k off b.0 f.0, sits s k (off + words e) b.1 (at_offset (walk_statement s) k _ (off + words e) (omega arith) f.1))
  sits (IfElse e s other) zero off b f = absurd f
  sits (IfElse e s other) (suc k) off b f =
      let o = off + words e in
      let a = o + statement_words s in
      (b.0, (condition_fits e k off b.1 f.0, sits s k o b.2 (at_offset (walk_statement s) k _ o (omega arith) f.1.0), sits other k a b.3 (at_offset (walk_statement other) k _ a (omega arith) f.1.1.1)))
  sits (While e s) zero off b f = f
  sits (While e s) (suc k) off b f = (condition_fits e k off b.0 f.0, sits s k (off + words e) b.1 (at_offset (walk_statement s) k _ (off + words e) (omega arith) f.1.1))
  sits (Switch e body) zero off b f = f
  sits (Switch e body) (suc k) off b f = (fits e rvalue_rank k off b.0 f.0, all_sit body k (off + words e) b.1 (at_offset (walk_body body) k _ (off + words e) (omega arith) f.1.1.1.0))
  sits (Goto e) room off b f = fits e rvalue_rank room off b (past (walk e) room off f.1.0)
  sits (Break line) room off b f = tt
  sits Return room off b f = tt
  sits (ReturnValue e) room off b f = condition_fits e room off b (past (walk_parenthesized e) room off f.1.0)
  sits (Evaluate e) room off b f = fits e rvalue_rank room off b f.0
  sits Empty room off b f = tt

  pub all_sit : (body : Stmts) (room off : ℕ) → BodyBinds body → FitsIn (walk_body body) room off → AllSit body room off
  all_sit Nothing room off b f = tt
  all_sit (More before s) room off b f = (all_sit before room off b.0 f.0, sits s room (off + body_words before) b.1 f.1)

-- What fits binds, and fits in its walk.
mutual
  pub both : (e : Expr) (loose room off : ℕ) → Fits e loose room off → Binds e loose × FitsIn (walk e) room off
  both (Named w) loose room off h = (tt, (tt, tt))
  both (Literal c) loose room off h = (tt, tt)
  both (Text bytes offset) loose room off h = (tt, h)
  both (Grouped e) loose zero off h = absurd h
  both (Grouped e) loose (suc k) off h = let i = both e rvalue_rank k off h in (i.0, (i.1, tt))
  both (Indexed e f) loose zero off h = absurd h.2
  both (Indexed e f) loose (suc k) off h = let i = both e 0 (suc k) off h.1 in let j = both f rvalue_rank k (off + words e) h.2 in ((h.0, i.0, j.0), (i.1, (j.1, tt)))
  both (Called e args) loose zero off h = absurd h.2
  both (Called e args) loose (suc k) off h =
      let i = both e 0 (suc k) off h.1 in
      let j = arguments_both args k (off + words e) h.2 in
      ((h.0, i.0, j.0), (to_callee e (suc k) off i.1, (at_offset (walk_arguments args) k (off + words e) _ (omega (arith, callee_words e)) j.1, tt)))
  both (Postfixed op line e) loose room off h = let i = both e 0 room off h.1 in ((h.0, i.0), (i.1, (tt, tt)))
  both (Prefixed op line e) loose zero off h = absurd h
  both (Prefixed op line e) loose (suc k) off h = both e 0 k off h
  both (Binary op line e f) loose room off h =
      let i = both e (rank op) room off h.1 in
      let j = both f (rank op - 1) room (off + words e) h.2 in
      ((h.0, i.0, j.0), (i.1, (tt, upto (walk f) room (off + words e) j.1)))
  both (Conditional e f g) loose zero off h = absurd h.2
  both (Conditional e f g) loose (suc k) off h =
      let i = both e or_rank (suc k) off h.1 in
      let j = both f rvalue_rank k (off + words e) h.2.0 in
      let l = both g conditional_rank k (off + words e + words f) h.2.1 in
      ((h.0, i.0, j.0, l.0), (i.1, (j.1, (tt, upto (walk g) k (off + words e + words f) l.1))))
  both (Assigned op line e f) loose zero off h = absurd h.2
  both (Assigned op line e f) loose (suc k) off h =
      let i = both e 0 (suc k) off h.1 in
      let j = both f rvalue_rank k (off + words e) h.2 in
      ((h.0, i.0, j.0), (i.1, (tt, upto (walk f) k (off + words e) j.1)))

  pub arguments_both : (args : Arguments) (room off : ℕ) → ArgumentsFit args room off → ArgumentsBind args × FitsIn (walk_arguments args) room off
  arguments_both No_arguments room off h = (tt, tt)
  arguments_both (Another before e) room off h =
      let o = off + argument_words before in
      let i = arguments_both before room off h.0 in
      let j = both e rvalue_rank room o h.1 in
      ((i.0, j.0), (i.1, (plain_fits (comma_before_next before) (comma_plain before) room o, at_offset (walk e) room o _ (omega (arith, comma_words before)) j.1)))

condition_both : (e : Expr) (room off : ℕ) → Fits e rvalue_rank room off → Binds e rvalue_rank × FitsIn (walk_parenthesized e) room off
condition_both e room off h = let i = both e rvalue_rank room off h in (i.0, (tt, (upto (walk e) room off i.1, tt)))

mutual
  pub statement_both : (s : Stmt) (room off : ℕ) → Sits s room off → StatementBinds s × FitsIn (walk_statement s) room off
  statement_both (Headed h s) room off f =
      let i = statement_both s room off f.1 in
      ((f.0, i.0), (plain_fits (walk_heading h) (heading_plain h) room off, at_offset (walk_statement s) room off _ (omega (arith, heading_words h)) i.1))
  statement_both (Compound body) zero off f = absurd f
  statement_both (Compound body) (suc k) off f = let i = body_both body k off f in (i.0, (i.1, tt))
  statement_both (If e s) zero off f = absurd f
  statement_both (If e s) (suc k) off f =
      let i = condition_both e k off f.0 in
      let j = statement_both s k (off + words e) f.1 in
      ((i.0, j.0), (i.1, at_offset (walk_statement s) k (off + words e) _ (omega arith) j.1))
  statement_both (IfElse e s other) zero off f = absurd f.1
  statement_both (IfElse e s other) (suc k) off f =
      let o = off + words e in
      let i = condition_both e k off f.1.0 in
      let j = statement_both s k o f.1.1 in
      let l = statement_both other k (o + statement_words s) f.1.2 in
      ((f.0, i.0, j.0, l.0), (i.1, (at_offset (walk_statement s) k o _ (omega arith) j.1, (tt, at_offset (walk_statement other) k (o + statement_words s) _ (omega arith) l.1))))
  statement_both (While e s) zero off f = absurd f
  statement_both (While e s) (suc k) off f =
      let i = condition_both e k off f.0 in
      let j = statement_both s k (off + words e) f.1 in
      ((i.0, j.0), (i.1, (tt, at_offset (walk_statement s) k (off + words e) _ (omega arith) j.1)))
  statement_both (Switch e body) zero off f = absurd f
  statement_both (Switch e body) (suc k) off f =
      let i = both e rvalue_rank k off f.0 in
      let j = body_both body k (off + words e) f.1 in
      ((i.0, j.0), (i.1, (tt, (tt, (at_offset (walk_body body) k (off + words e) _ (omega arith) j.1, tt)))))
  statement_both (Goto e) room off f = let i = both e rvalue_rank room off f in (i.0, (tt, (upto (walk e) room off i.1, tt)))
  statement_both (Break line) room off f = (tt, (tt, (tt, tt)))
  statement_both Return room off f = (tt, (tt, tt))
  statement_both (ReturnValue e) room off f = let i = condition_both e room off f in (i.0, (tt, (upto (walk_parenthesized e) room off i.1, tt)))
  statement_both (Evaluate e) room off f = let i = both e rvalue_rank room off f in (i.0, (i.1, tt))
  statement_both Empty room off f = (tt, tt)

  pub body_both : (body : Stmts) (room off : ℕ) → AllSit body room off → BodyBinds body × FitsIn (walk_body body) room off
  body_both Nothing room off f = (tt, tt)
  body_both (More before s) room off f = let i = body_both before room off f.0 in let j = statement_both s room (off + body_words before) f.1 in ((i.0, j.0), (i.1, j.1))

-- Initial values.
any_room : (v : Ival) (room other off : ℕ) → FitsIn (walk_value v) room off → FitsIn (walk_value v) other off
any_room (Ival_constant c) room other off h = tt
any_room (Ival_text bytes offset) room other off h = h
any_room (Ival_name w) room other off h = tt

pub one_value : (before : List Ival) (v : Ival) → values_words (before ++ v ∷ []) ≡ values_words before + ival_words v
one_value before v = omega (arith, sum_by-append ival_words before (v ∷ []), sum_by-cons ival_words v [])

module _ (room : ℕ) where
  commas_fit : (values before : List Ival) → FitsIn (walk_commas walk_value values) room (values_words before) → EachAfter IvalFits before values
  commas_fit [] before h = tt
  commas_fit (v ∷ values) before h =
      let one = at_offset (walk_value v) room _ (values_words before) (omega arith) h.1.0 in
      let rest = at_offset (walk_commas walk_value values) room _ (values_words (before ++ v ∷ [])) (omega (arith, one_value before v)) h.1.1 in
      (any_room v room 0 (values_words before) one, commas_fit values (before ++ v ∷ []) rest)

  fit_commas : (values before : List Ival) → EachAfter IvalFits before values → FitsIn (walk_commas walk_value values) room (values_words before)
  fit_commas [] before h = tt
  fit_commas (v ∷ values) before h =
      let one = at_offset (walk_value v) room (values_words before) (values_words before + 0) (omega arith) (any_room v 0 room (values_words before) h.0) in
      let rest = at_offset (walk_commas walk_value values) room _ (values_words before + 0 + ival_words v) (omega (arith, one_value before v)) (fit_commas values (before ++ v ∷ []) h.1) in
      (tt, (one, rest))

  values_fit : (values : List Ival) (off : ℕ) → off ≡ 0 → FitsIn (walk_values values) room off → EachAfter IvalFits [] values
  values_fit [] off e h = tt
  values_fit (v ∷ values) off e h =
      let one = at_offset (walk_value v) room off 0 e h.0.0 in
      let rest = at_offset (walk_commas walk_value values) room _ (values_words (v ∷ [])) (omega (arith, e, one_value [] v)) h.0.1 in
      (any_room v room 0 0 one, commas_fit values (v ∷ []) rest)

  fit_values : (values : List Ival) (off : ℕ) → off ≡ 0 → EachAfter IvalFits [] values → FitsIn (walk_values values) room off
  fit_values [] off e h = (tt, tt)
  fit_values (v ∷ values) off e h =
      let one = at_offset (walk_value v) room 0 off (omega (arith, e)) (any_room v 0 room 0 h.0) in
      let rest = at_offset (walk_commas walk_value values) room _ (off + ival_words v) (omega (arith, e, one_value [] v)) (fit_commas values (v ∷ []) h.1) in
      ((one, rest), tt)

-- Definitions.
abbrev pub DefinitionBinds : Definition → Type 0
DefinitionBinds (Function w parameters body) = StatementBinds body
DefinitionBinds _ = Unit {0}

-- what stands before the values of a vector, and before the statement of a function
size_words : (size : Option ℕ) → words_in (walk_size size) ≡ 0
size_words size = plain_words (walk_size size) (size_plain size)

parameter_words : (ws : List Identifier) → words_in (walk_list walk_parameter ws) ≡ 0
parameter_words ws = plain_words (walk_list walk_parameter ws) (parameters_plain ws)

pub definition_fits : (d : Definition) (room : ℕ) → DefinitionBinds d → FitsIn (walk_definition d) room 0 → IsFormedIn room d
definition_fits (Simple w values) room b h = values_fit room values 0 refl h.1
definition_fits (Vector w size values) room b h = values_fit room values _ (omega (arith, size_words size)) h.1.1.1.1
definition_fits (Function w parameters body) room b h =
    sits body room 0 b (at_offset (walk_statement body) room _ 0 (omega (arith, parameter_words parameters)) h.1.1.1.1)

pub definition_binds : (d : Definition) (room : ℕ) → IsFormedIn room d → DefinitionBinds d
definition_binds (Simple w values) room f = tt
definition_binds (Vector w size values) room f = tt
definition_binds (Function w parameters body) room f = (statement_both body room 0 f).0

pub definition_stands : (d : Definition) (room : ℕ) → IsFormedIn room d → FitsIn (walk_definition d) room 0
definition_stands (Simple w values) room f = (tt, fit_values room values 0 refl f)
definition_stands (Vector w size values) room f =
    (tt, (tt, (plain_fits (walk_size size) (size_plain size) room 0, (tt, fit_values room values _ (omega (arith, size_words size)) f))))
definition_stands (Function w parameters body) room f =
    (tt, (tt, (plain_fits (walk_list walk_parameter parameters) (parameters_plain parameters) room 0, (tt, at_offset (walk_statement body) room 0 _ (omega (arith, parameter_words parameters)) (statement_both body room 0 f).1))))

pub formed_in : (d : Definition) → IsFormed d → IsFormedIn MAX_NESTING d
formed_in (Simple w values) f = let d = walk_definition (Simple w values) in definition_fits (Simple w values) (levels_in d) tt (fits_in d (levels_in d) 0 (omega arith) f)
formed_in (Vector w size values) f = let d = walk_definition (Vector w size values) in definition_fits (Vector w size values) (levels_in d) tt (fits_in d (levels_in d) 0 (omega arith) f)
formed_in (Function w parameters body) f = sits body MAX_NESTING 0 f.0 (fits_in (walk_statement body) MAX_NESTING 0 f.1 f.2)

pub in_formed : (d : Definition) → IsFormedIn MAX_NESTING d → IsFormed d
in_formed (Simple w values) f = in_order (walk_definition (Simple w values)) MAX_NESTING 0 (definition_stands (Simple w values) MAX_NESTING f)
in_formed (Vector w size values) f = in_order (walk_definition (Vector w size values)) MAX_NESTING 0 (definition_stands (Vector w size values) MAX_NESTING f)
in_formed (Function w parameters body) f =
    let t = statement_both body MAX_NESTING 0 f in
    (t.0, in_room (walk_statement body) MAX_NESTING 0 t.1, in_order (walk_statement body) MAX_NESTING 0 t.1)

-- The words of the strings of a definition.
commas_strings : (values : List Ival) → strings_in (walk_commas walk_value values) ≡ flat_map ival_strings values
commas_strings [] = refl
commas_strings (v ∷ values) = ap (λ l. ival_strings v ++ l) (commas_strings values)

values_strings : (values : List Ival) → strings_in (walk_values values) ≡ flat_map ival_strings values
values_strings [] = refl
values_strings (v ∷ values) = append-nil (ival_strings v ++ strings_in (walk_commas walk_value values)) ∙ ap (λ l. ival_strings v ++ l) (commas_strings values)

pub simple_strings : (w : Identifier) (values : List Ival) → string_words_of (Simple w values) ≡ flat_map ival_strings values
simple_strings w values = strings_are (walk_definition (Simple w values)) ∙ values_strings values

pub vector_strings : (w : Identifier) (size : Option ℕ) (values : List Ival) → string_words_of (Vector w size values) ≡ flat_map ival_strings values
vector_strings w size values = strings_are (walk_definition (Vector w size values)) ∙ ap (λ l. l ++ strings_in (walk_values values)) (plain_strings (walk_size size) (size_plain size)) ∙ values_strings values

pub function_strings : (w : Identifier) (parameters : List Identifier) (body : Stmt) → string_words_of (Function w parameters body) ≡ statement_strings body
function_strings w parameters body =
    strings_are (walk_definition (Function w parameters body)) ∙ ap (λ l. l ++ statement_strings body) (plain_strings (walk_list walk_parameter parameters) (parameters_plain parameters))
