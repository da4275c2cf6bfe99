-- Origins are the same whichever numbers labels have.
use Rattle.std.proofs.Common.{◌≡◌, ℕ, ◌+◌, Bool, List, [], ◌∷◌, ◌++◌, length, refl, ap, ap₂, ◌∙◌, if◌then◌else◌, true, false}
use Rattle.blang.specs.Trees.{Expr, Arguments, Indirection, Named, Grouped, Indexed, Called, Postfixed, Prefixed, Binary, Conditional, Assigned, No_arguments, Another, Declared, Heading, Auto, Stmt, Headed, Compound, If, IfElse, While, Switch, Goto, ReturnValue, Evaluate, Stmts, Nothing, More}
use Rattle.blang.specs.Scan.{Entry}
use Rattle.blang.specs.Walk.{walk, walk_arguments, comma_before_next, walk_declared, walk_heading, walk_statement, walk_body}
use Rattle.blang.specs.Code.{Environment, Referent, In_frame, Outside, At_label, word_code, address_code, argument_code, vector_code, heading_code, Fragment, fragment, body_fragment}
use Rattle.blang.specs.Lines.{origin, count, is_variable, has_address, held_length, origins, argument_origins, auto_origins, heading_origins, brace_origin, statement_origins, body_origins}
use Rattle.bcodegen.proofs.Numbered.{renumbered, same_length, word_numbered, address_numbered, arguments_numbered, vector_name, heading_numbered, fragment_numbered, body_numbered}

module _ (es : List Entry) (names names2 : Environment) (renamed : (x : List ℕ) → renumbered es (names x) ≡ names2 x) where
  word_same : (e : Expr) (p : ℕ) → length (word_code names e p) ≡ length (word_code names2 e p)
  word_same e p = same_length es names names2 renamed _ _ (word_numbered es names names2 renamed e p)

  arguments_same : (args : Arguments) (p : ℕ) → length (argument_code names args p) ≡ length (argument_code names2 args p)
  arguments_same args p = same_length es names names2 renamed _ _ (arguments_numbered es names names2 renamed args p)

  variable_same : (m : Referent) → is_variable m ≡ is_variable (renumbered es m)
  variable_same (In_frame k) = refl
  variable_same Outside = refl
  variable_same (At_label k) = refl

  address_same : (e : Expr) → has_address names e ≡ has_address names2 e
  address_same (Named w) = variable_same (names w.text) ∙ ap is_variable (renamed w.text)
  address_same (Grouped e) = address_same e
  address_same (Indexed e f) = refl
  address_same (Prefixed Indirection line e) = refl
  address_same e = refl

  chosen : (b : Bool) (e : Expr) (p : ℕ) → length (if b then address_code names e p else word_code names e p) ≡ length (if b then address_code names2 e p else word_code names2 e p)
  chosen true e p = same_length es names names2 renamed _ _ (address_numbered es names names2 renamed e p)
  chosen false e p = word_same e p

  held_same : (e : Expr) (p : ℕ) → held_length names e p ≡ held_length names2 e p
  held_same e p = chosen (has_address names e) e p ∙ ap (λ b. length (if b then address_code names2 e p else word_code names2 e p)) (address_same e)

  two_same : (e f : Expr) (p t u : ℕ) → origins names e p t ≡ origins names2 e p t → ((q : ℕ) → origins names f q u ≡ origins names2 f q u)
      → origins names e p t ++ origins names f (p + length (word_code names e p)) u ≡ origins names2 e p t ++ origins names2 f (p + length (word_code names2 e p)) u
  two_same e f p t u h k = ap₂ (λ a b. a ++ b) h (ap (λ n. origins names f (p + n) u) (word_same e p) ∙ k (p + length (word_code names2 e p)))

  mutual
    origins_same : (e : Expr) (p t : ℕ) → origins names e p t ≡ origins names2 e p t
    origins_same (Grouped e) p t = origins_same e p (t + 1)
    origins_same (Indexed e f) p t = two_same e f p t (t + count (walk e) + 1) (origins_same e p t) (λ q. origins_same f q (t + count (walk e) + 1))
    origins_same (Called e args) p t =
        let u = t + count (walk e) + 1 in
        ap₂ (λ a b. a ++ b) (origins_same e p t) (ap (λ n. argument_origins names args (p + n) u) (word_same e p) ∙ passed_same args (p + length (word_code names2 e p)) u)
    origins_same (Postfixed op line e) p t = ap₂ (λ a n. a ++ origin (p + n) (t + count (walk e)) ∷ []) (origins_same e p t) (held_same e p)
    origins_same (Prefixed op line e) p t = ap₂ (λ a n. a ++ origin (p + n) t ∷ []) (origins_same e p (t + 1)) (held_same e p)
    origins_same (Binary op line e f) p t = two_same e f p t (t + count (walk e) + 1) (origins_same e p t) (λ q. origins_same f q (t + count (walk e) + 1))
    origins_same (Conditional e f g) p t =
        let q = p + length (word_code names2 e p) + 1 in
        let u = t + count (walk e) + 1 in
        let v = u + count (walk f) + 1 in
        ap (λ n. origins names e p t ++ origins names f (p + n + 1) u ++ origins names g (p + n + 1 + length (word_code names f (p + n + 1)) + 1) v) (word_same e p)
        ∙ ap (λ n. origins names e p t ++ origins names f q u ++ origins names g (q + n + 1) v) (word_same f q)
        ∙ ap₂ (λ a b. a ++ origins names f q u ++ b) (origins_same e p t) (origins_same g (q + length (word_code names2 f q) + 1) v)
        ∙ ap (λ a. origins names2 e p t ++ a ++ origins names2 g (q + length (word_code names2 f q) + 1) v) (origins_same f q u)
    origins_same (Assigned op line e f) p t =
        let u = t + count (walk e) + 1 in
        ap₂ (λ a b. a ++ b) (origins_same e p t) (ap (λ n. origins names f (p + n) u) (held_same e p) ∙ origins_same f (p + held_length names2 e p) u)
    origins_same _ p t = refl

    passed_same : (args : Arguments) (p t : ℕ) → argument_origins names args p t ≡ argument_origins names2 args p t
    passed_same No_arguments p t = refl
    passed_same (Another before e) p t =
        let u = t + count (walk_arguments before) + count (comma_before_next before) in
        ap₂ (λ a b. a ++ b) (passed_same before p t) (ap (λ n. origins names e (p + n) u) (arguments_same before p) ∙ origins_same e (p + length (argument_code names2 before p)) u)

  autos_same : (xs : List Declared) (p t : ℕ) → auto_origins names xs p t ≡ auto_origins names2 xs p t
  autos_same [] p t = refl
  autos_same (x ∷ xs) p t =
      let u = t + count (walk_declared x) + 1 in
      ap (λ l. origin p t ∷ l)
      (ap (λ n. auto_origins names xs (p + n) u) (same_length es names names2 renamed _ _ (vector_name es names names2 renamed (names x.word.text) x.size) ∙ ap (λ m. length (vector_code names2 m x.size)) (renamed x.word.text))
      ∙ autos_same xs (p + length (vector_code names2 (names2 x.word.text) x.size)) u)

  heading_same : (h : Heading) (p t : ℕ) → heading_origins names h p t ≡ heading_origins names2 h p t
  heading_same (Auto ds) p t = autos_same ds p (t + 1)
  heading_same _ p t = refl

  end_same : (s : Stmt) (p : ℕ) → (fragment names s p).end ≡ (fragment names2 s p).end
  end_same s p = ap (λ (a : Fragment). a.end) (fragment_numbered es names names2 renamed s p)

  body_end_same : (ss : Stmts) (p : ℕ) → (body_fragment names ss p).end ≡ (body_fragment names2 ss p).end
  body_end_same ss p = ap (λ (a : Fragment). a.end) (body_numbered es names names2 renamed ss p)

  mutual
    pub statement_same : (s : Stmt) (p t : ℕ) → statement_origins names s p t ≡ statement_origins names2 s p t
    statement_same (Headed h s) p t =
        let u = t + count (walk_heading h) in
        ap₂ (λ a b. a ++ b) (heading_same h p t) (ap (λ n. statement_origins names s (p + n) u) (same_length es names names2 renamed _ _ (heading_numbered es names names2 renamed h)) ∙ statement_same s (p + length (heading_code names2 h)) u)
    statement_same (Compound body) p t = ap₂ (λ a n. a ++ origin n (t + 1 + count (walk_body body)) ∷ []) (body_same body p (t + 1)) (body_end_same body p)
    statement_same (If e s) p t =
        let u = t + 2 + count (walk e) + 1 in
        ap₂ (λ a b. a ++ b) (origins_same e p (t + 2)) (ap (λ n. statement_origins names s (p + n + 1) u) (word_same e p) ∙ statement_same s (p + length (word_code names2 e p) + 1) u)
    statement_same (IfElse e s other) p t =
        let q = p + length (word_code names2 e p) + 1 in
        let u = t + 2 + count (walk e) + 1 in
        let v = u + count (walk_statement s) + 1 in
        ap (λ n. origins names e p (t + 2) ++ statement_origins names s (p + n + 1) u ++ statement_origins names other ((fragment names s (p + n + 1)).end + 1) v) (word_same e p)
        ∙ ap (λ n. origins names e p (t + 2) ++ statement_origins names s q u ++ statement_origins names other (n + 1) v) (end_same s q)
        ∙ ap₂ (λ a b. a ++ statement_origins names s q u ++ b) (origins_same e p (t + 2)) (statement_same other ((fragment names2 s q).end + 1) v)
        ∙ ap (λ a. origins names2 e p (t + 2) ++ a ++ statement_origins names2 other ((fragment names2 s q).end + 1) v) (statement_same s q u)
    statement_same (While e s) p t =
        let q = p + length (word_code names2 e p) + 1 in
        let u = t + 2 + count (walk e) + 1 in
        ap (λ n. origins names e p (t + 2) ++ statement_origins names s (p + n + 1) u ++ origin ((fragment names s (p + n + 1)).end) t ∷ []) (word_same e p)
        ∙ ap (λ n. origins names e p (t + 2) ++ statement_origins names s q u ++ origin n t ∷ []) (end_same s q)
        ∙ ap₂ (λ a b. a ++ b ++ origin ((fragment names2 s q).end) t ∷ []) (origins_same e p (t + 2)) (statement_same s q u)
    statement_same (Switch e body) p t =
        let q = p + length (word_code names2 e p) + 1 in
        let u = t + 1 + count (walk e) + 1 in
        let v = u + count (walk_body body) in
        ap (λ n. origins names e p (t + 1) ++ body_origins names body (p + n + 1) u ++ brace_origin names body (p + n + 1) u ∷ origin ((body_fragment names body (p + n + 1)).end) t ∷ []) (word_same e p)
        ∙ ap (λ n. origins names e p (t + 1) ++ body_origins names body q u ++ origin n v ∷ origin n t ∷ []) (body_end_same body q)
        ∙ ap₂ (λ a b. a ++ b ++ origin ((body_fragment names2 body q).end) v ∷ origin ((body_fragment names2 body q).end) t ∷ []) (origins_same e p (t + 1)) (body_same body q u)
    statement_same (Goto e) p t = origins_same e p (t + 1)
    statement_same (ReturnValue e) p t = ap (λ l. origin p t ∷ l) (origins_same e p (t + 2))
    statement_same (Evaluate e) p t = origins_same e p t
    statement_same _ p t = refl

    body_same : (ss : Stmts) (p t : ℕ) → body_origins names ss p t ≡ body_origins names2 ss p t
    body_same Nothing p t = refl
    body_same (More before s) p t =
        let u = t + count (walk_body before) in
        ap₂ (λ a b. a ++ b) (body_same before p t) (ap (λ n. statement_origins names s n u) (body_end_same before p) ∙ statement_same s ((body_fragment names2 before p).end) u)
