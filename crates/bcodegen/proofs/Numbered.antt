-- The code with labels by their entries becomes that with labels by their numbers.
use Rattle.std.proofs.Common.{◌≡◌, ℕ, suc, ◌+◌, Bool, true, false, List, [], ◌∷◌, ◌++◌, length, map, flat_map, Option, Some, None, refl, sym, ap, ap₂, ◌∙◌, arith, unwrap_or, add-zero}
use Rattle.std.specs.List.{position_from}
use Rattle.std.proofs.lemmas.List.{map-append, length-map}
use Rattle.std.proofs.lemmas.Iterator.Adapters.{position_from-zero}
use Rattle.blang.specs.declared.token.Diagnostic.{Diagnostic}
use Rattle.bword.specs.declared.operators.BinOp.{BinOp}
use Rattle.bword.specs.declared.operators.BinOp.TheVariants as op
use Rattle.blang.specs.declared.code.Instr.{Instr}
use Rattle.blang.specs.declared.code.Instr.TheVariants as instr
use Rattle.blang.specs.Trees.{Expr, Arguments, Negate, Not, Indirection, Address, PreIncrement, PreDecrement, PostIncrement, PostDecrement, Named, Literal, Text, Grouped, Indexed, Called, Postfixed, Prefixed, Binary, Conditional, Assigned, No_arguments, Another, Declared, Heading, Auto, Stmt, Stmts}
use Rattle.blang.specs.Scan.{Entry, NameKind, Unlabelled, Labelled, kind_of, undefined, undefined_at}
use Rattle.blang.specs.Code.{Environment, Referent, In_frame, Outside, At_label, environment_of, referent_of, name_address_code, name_word_code, word_code, address_code, argument_code, argument_count, assignment, vector_code, Arms, default_in, tests_code, default_code, arms_code, heading_code, heading_targets, no_targets, Code, Fragment, Segment, empty_segment, of_code, put, ◌▹◌, keeping_arms, row, halves, heading_fragment, fragment, body_fragment}
use Rattle.bgrammar.proofs.RowLaws.{IsLone, Goes, Returns, Drops, arms_segment, KeptBySegments, by_segments, body_by_segments}
use Rattle.bgrammar.proofs.CodeLaws.{Anything}
use Rattle.bemit.specs.Drafts.{entry_of, kind_number, label_number, numbered}
use Rattle.bcodegen.proofs.Jumps.{ways_code}
use Rattle.bcodegen.proofs.Names.{standing_of, names_by, is, kind_here, kind_there, position_here, position_there}

abbrev pub renumbered : List Entry → Referent → Referent
renumbered entries (In_frame k) = In_frame k
renumbered entries Outside = Outside
renumbered entries (At_label i) = At_label (label_number entries i)

-- where a name stands, and its label
record Standing (x : List ℕ) (es : List Entry) (k : NameKind) (j : ℕ) : Type 0 where
  place : ℕ
  place_is : position_from (is x) j es ≡ Some (j + place)
  number_is : label_number es place ≡ kind_number k

stands : (x : List ℕ) (es : List Entry) (k : NameKind) (j : ℕ) → kind_of x es ≡ Some k → Standing x es k j
stands x [] k j h = cc
stands x (e ∷ es) k j h = go (is x e) refl (stands x es k (j + 1))
  where
    go : (b : Bool) → is x e ≡ b → (kind_of x es ≡ Some k → Standing x es k (j + 1)) → Standing x (e ∷ es) k j
    go true q rest =
        let same : Some e.kind ≡ Some k = sym (kind_here x e es q) ∙ h in
        let kind : e.kind ≡ k = cc in
        record { place = 0; place_is = position_here x e es j q ∙ ap (λ n. Some n) (sym (add-zero j)); number_is = ap kind_number kind }
    go false q rest =
        let r = rest (sym (kind_there x e es q) ∙ h) in
        let place : j + 1 + r.place ≡ j + suc r.place = omega arith in
        record { place = suc r.place; place_is = position_there x e es j q ∙ r.place_is ∙ ap (λ n. Some n) place; number_is = r.number_is }

label_is : (x : List ℕ) (es : List Entry) (k : NameKind) → kind_of x es ≡ Some k → label_number es (entry_of x es) ≡ kind_number k
label_is x es k h =
    let r = stands x es k 0 h in
    let place : entry_of x es ≡ r.place = ap (λ o. unwrap_or o 0) (position_from-zero (is x) es ∙ r.place_is) ∙ (let z : 0 + r.place ≡ r.place = omega arith in z) in
    ap (label_number es) place ∙ r.number_is

defined_head : (x : List ℕ) (k : NameKind) (following : Option Diagnostic) → undefined_at x k following ≡ None → (following ≡ None) × ((line : ℕ) → k ≡ Unlabelled line → ⊥)
defined_head x (Unlabelled line) following h = cc
defined_head x _ following h = (h, λ line q. cc)

all_labelled : (x : List ℕ) (es : List Entry) (line : ℕ) → undefined es ≡ None → kind_of x es ≡ Some (Unlabelled line) → ⊥
all_labelled x [] line u h = cc
all_labelled x (e ∷ es) line u h = go (is x e) refl (all_labelled x es line (defined_head e.name e.kind (undefined es) u).0)
  where
    go : (b : Bool) → is x e ≡ b → (kind_of x es ≡ Some (Unlabelled line) → ⊥) → ⊥
    go true q rest =
        let same : Some e.kind ≡ Some (Unlabelled line) = sym (kind_here x e es q) ∙ h in
        (defined_head e.name e.kind (undefined es) u).1 line cc
    go false q rest = rest (sym (kind_there x e es q) ∙ h)

-- in a whole table a name stands for the label of its entry
pub names_renumbered : (es : List Entry) → undefined es ≡ None → (x : List ℕ) → renumbered es (names_by es x) ≡ environment_of es x
names_renumbered es u x = go (kind_of x es) refl
  where
    go : (o : Option NameKind) → kind_of x es ≡ o → renumbered es (standing_of (entry_of x es) (kind_of x es)) ≡ referent_of (kind_of x es)
    go (Some (Unlabelled line)) q = absurd (all_labelled x es line u q)
    go (Some (Labelled number)) q = rw q (ap (λ n. At_label n) (label_is x es (Labelled number) q))
    go _ q = rw q refl

-- code with these names becomes code with those
module _ (es : List Entry) (names names2 : Environment) (renamed : (x : List ℕ) → renumbered es (names x) ≡ names2 x) where
  address_name : (x : List ℕ) (m : Referent) → numbered es (name_address_code m x) ≡ name_address_code (renumbered es m) x
  address_name x (In_frame k) = refl
  address_name x Outside = refl
  address_name x (At_label k) = refl

  word_name : (x : List ℕ) (m : Referent) → map (numbered es) (name_word_code m x) ≡ name_word_code (renumbered es m) x
  word_name x (In_frame k) = refl
  word_name x Outside = refl
  word_name x (At_label k) = refl

  pub vector_name : (m : Referent) (size : Option ℕ) → map (numbered es) (vector_code names m size) ≡ vector_code names2 (renumbered es m) size
  vector_name (In_frame k) None = refl
  vector_name (In_frame k) (Some c) = refl
  vector_name Outside None = refl
  vector_name Outside (Some c) = refl
  vector_name (At_label k) None = refl
  vector_name (At_label k) (Some c) = refl

  assignment_same : (o : Option BinOp) → numbered es (assignment o) ≡ assignment o
  assignment_same None = refl
  assignment_same (Some op) = refl

  pub same_length : (c c2 : List Instr) → map (numbered es) c ≡ c2 → length c ≡ length c2
  same_length c c2 h = sym (length-map c (numbered es)) ∙ ap length h

  -- code, and what stands after it
  tail_numbered : (c c2 tail : List Instr) → map (numbered es) c ≡ c2 → map (numbered es) (c ++ tail) ≡ c2 ++ map (numbered es) tail
  tail_numbered c c2 tail h = map-append (numbered es) c tail ∙ ap (λ l. l ++ map (numbered es) tail) h

  after_numbered : (c c2 : List Instr) (g g2 : ℕ → List Instr) (p : ℕ) → map (numbered es) c ≡ c2 → ((q : ℕ) → map (numbered es) (g q) ≡ g2 q) → map (numbered es) (c ++ g (p + length c)) ≡ c2 ++ g2 (p + length c2)
  after_numbered c c2 g g2 p h k = tail_numbered c c2 (g (p + length c)) h ∙ ap (λ l. c2 ++ l) (k (p + length c) ∙ ap (λ n. g2 (p + n)) (same_length c c2 h))

  ways_numbered : (a a2 b b2 : ℕ → List Instr) → ((q : ℕ) → map (numbered es) (a q) ≡ a2 q) → ((q : ℕ) → map (numbered es) (b q) ≡ b2 q) → (p : ℕ) → map (numbered es) (ways_code a b p) ≡ ways_code a2 b2 p
  ways_numbered a a2 b b2 h k p =
      let q = p + 1 + length (a (p + 1)) + 1 in
      ap (λ l. instr.JumpIfZero q ∷ l) (tail_numbered (a (p + 1)) (a2 (p + 1)) _ (h (p + 1)))
      ∙ ap₂ (λ n l. instr.JumpIfZero q ∷ (a2 (p + 1) ++ (instr.Jump (q + n) ∷ l))) (same_length (b q) (b2 q) (k q)) (k q)
      ∙ ap (λ n. instr.JumpIfZero (p + 1 + n + 1) ∷ (a2 (p + 1) ++ (instr.Jump (p + 1 + n + 1 + length (b2 (p + 1 + n + 1))) ∷ b2 (p + 1 + n + 1)))) (same_length (a (p + 1)) (a2 (p + 1)) (h (p + 1)))

  tests_same : (arms : Arms ℕ) → map (numbered es) (tests_code arms) ≡ tests_code arms
  tests_same [] = refl
  tests_same ((None, t) ∷ arms) = tests_same arms
  tests_same ((Some v, t) ∷ arms) = ap (λ l. instr.JumpIfCase v t ∷ l) (tests_same arms)

  default_same : (o : Option ℕ) → map (numbered es) (default_code o) ≡ default_code o
  default_same None = refl
  default_same (Some t) = refl

  arms_numbered : (arms : Arms ℕ) → map (numbered es) (arms_code arms) ≡ arms_code arms
  arms_numbered arms = tail_numbered (tests_code arms) (tests_code arms) (default_code (default_in arms)) (tests_same arms) ∙ ap (λ l. tests_code arms ++ l) (default_same (default_in arms))

  mutual
    pub word_numbered : (e : Expr) (p : ℕ) → map (numbered es) (word_code names e p) ≡ word_code names2 e p
    word_numbered (Named w) p = word_name w.text (names w.text) ∙ ap (λ m. name_word_code m w.text) (renamed w.text)
    word_numbered (Literal c) p = refl
    word_numbered (Text bytes offset) p = refl
    word_numbered (Grouped e) p = word_numbered e p
    word_numbered (Indexed e g) p =
        after_numbered (word_code names e p) (word_code names2 e p) (λ q. word_code names g q ++ (instr.Binary op.Add ∷ instr.Load ∷ [])) (λ q. word_code names2 g q ++ (instr.Binary op.Add ∷ instr.Load ∷ [])) p (word_numbered e p)
        (λ q. tail_numbered _ _ _ (word_numbered g q))
    word_numbered (Called e args) p =
        after_numbered (word_code names e p) (word_code names2 e p) (λ q. argument_code names args q ++ (instr.Call (argument_count args) ∷ [])) (λ q. argument_code names2 args q ++ (instr.Call (argument_count args) ∷ [])) p (word_numbered e p)
        (λ q. tail_numbered _ _ _ (arguments_numbered args q))
    word_numbered (Postfixed PostIncrement line e) p = tail_numbered _ _ _ (address_numbered e p)
    word_numbered (Postfixed PostDecrement line e) p = tail_numbered _ _ _ (address_numbered e p)
    word_numbered (Prefixed Negate line e) p = tail_numbered _ _ _ (word_numbered e p)
    word_numbered (Prefixed Not line e) p = tail_numbered _ _ _ (word_numbered e p)
    word_numbered (Prefixed Indirection line e) p = tail_numbered _ _ _ (word_numbered e p)
    word_numbered (Prefixed Address line e) p = address_numbered e p
    word_numbered (Prefixed PreIncrement line e) p = tail_numbered _ _ _ (address_numbered e p)
    word_numbered (Prefixed PreDecrement line e) p = tail_numbered _ _ _ (address_numbered e p)
    word_numbered (Binary op line e g) p =
        after_numbered (word_code names e p) (word_code names2 e p) (λ q. word_code names g q ++ (instr.Binary op ∷ [])) (λ q. word_code names2 g q ++ (instr.Binary op ∷ [])) p (word_numbered e p)
        (λ q. tail_numbered _ _ _ (word_numbered g q))
    word_numbered (Conditional e g h) p =
        after_numbered (word_code names e p) (word_code names2 e p) (ways_code (word_code names g) (word_code names h)) (ways_code (word_code names2 g) (word_code names2 h)) p (word_numbered e p)
        (ways_numbered (word_code names g) (word_code names2 g) (word_code names h) (word_code names2 h) (λ q. word_numbered g q) (λ q. word_numbered h q))
    word_numbered (Assigned op line e g) p =
        after_numbered (address_code names e p) (address_code names2 e p) (λ q. word_code names g q ++ (assignment op ∷ [])) (λ q. word_code names2 g q ++ (assignment op ∷ [])) p (address_numbered e p)
        (λ q. tail_numbered _ _ _ (word_numbered g q) ∙ ap (λ i. word_code names2 g q ++ (i ∷ [])) (assignment_same op))

    pub address_numbered : (e : Expr) (p : ℕ) → map (numbered es) (address_code names e p) ≡ address_code names2 e p
    address_numbered (Named w) p = ap (λ i. i ∷ []) (address_name w.text (names w.text)) ∙ ap (λ m. name_address_code m w.text ∷ []) (renamed w.text)
    address_numbered (Grouped e) p = address_numbered e p
    address_numbered (Prefixed Indirection line e) p = word_numbered e p
    address_numbered (Indexed e g) p =
        after_numbered (word_code names e p) (word_code names2 e p) (λ q. word_code names g q ++ (instr.Binary op.Add ∷ [])) (λ q. word_code names2 g q ++ (instr.Binary op.Add ∷ [])) p (word_numbered e p)
        (λ q. tail_numbered _ _ _ (word_numbered g q))
    address_numbered e p = refl

    pub arguments_numbered : (args : Arguments) (p : ℕ) → map (numbered es) (argument_code names args p) ≡ argument_code names2 args p
    arguments_numbered No_arguments p = refl
    arguments_numbered (Another before e) p =
        after_numbered (argument_code names before p) (argument_code names2 before p) (word_code names e) (word_code names2 e) p (arguments_numbered before p) (λ q. word_numbered e q)

  vectors_numbered : (ds : List Declared) → map (numbered es) (flat_map (λ d. vector_code names (names d.word.text) d.size) ds) ≡ flat_map (λ d. vector_code names2 (names2 d.word.text) d.size) ds
  vectors_numbered [] = refl
  vectors_numbered (d ∷ ds) =
      tail_numbered _ _ _ (vector_name (names d.word.text) d.size ∙ ap (λ m. vector_code names2 m d.size) (renamed d.word.text))
      ∙ ap (λ l. vector_code names2 (names2 d.word.text) d.size ++ l) (vectors_numbered ds)

  pub heading_numbered : (h : Heading) → map (numbered es) (heading_code names h) ≡ heading_code names2 h
  heading_numbered (Auto ds) = vectors_numbered ds
  heading_numbered _ = refl

  -- a fragment, with its labels by their numbers
  abbrev pub numbered_fragment : Fragment → Fragment
  numbered_fragment a = record a { code = λ out. map (numbered es) (a.code out) }

  -- a segment becomes the other one
  pub record Becomes (f f2 : Segment) : Type 0 where
    pub at : (p : ℕ) → numbered_fragment (f p) ≡ f2 p

  segment_becomes : {c c2 : Code} → ((p : ℕ) → map (numbered es) (c p) ≡ c2 p) → Becomes (of_code c) (of_code c2)
  segment_becomes {c = c} {c2 = c2} h = record { at = λ p i. record { code = λ out. h p i; end = p + same_length (c p) (c2 p) (h p) i; targets = no_targets } }

  lone_becomes : {i : Instr} → IsLone i → Becomes (of_code (put i)) (of_code (put i))
  lone_becomes Goes = record { at = λ p. refl }
  lone_becomes Returns = record { at = λ p. refl }
  lone_becomes Drops = record { at = λ p. refl }

  heads_become : (h : Heading) → Becomes (heading_fragment names h) (heading_fragment names2 h)
  heads_become h = record { at = λ p. ap {A = Fragment} {B = Fragment} (λ a. record a { targets = heading_targets h p }) ((segment_becomes (λ q. heading_numbered h)).at p) }

  then_become : {f f2 g g2 : Segment} → Becomes f f2 → Becomes g g2 → Becomes (f ▹ g) (f2 ▹ g2)
  then_become {f = f} {f2 = f2} {g = g} {g2 = g2} x y = record {
    at = λ p.
        let a = f p in
        let b = g a.end in
        (λ i. record ((f ▹ g) p) { code = λ out. map-append (numbered es) (a.code out) (b.code out) i })
        ∙ ap (λ b. ((λ q. numbered_fragment a) ▹ (λ q. b)) p) (y.at a.end)
        ∙ ap (λ a. ((λ q. a) ▹ g2) p) (x.at p);
  }

  end_same : {f f2 : Segment} → Becomes f f2 → (p : ℕ) → (f p).end ≡ (f2 p).end
  end_same x p = ap (λ (a : Fragment). a.end) (x.at p)

  abbrev Halves : Type 0
  Halves = (middle after : ℕ) → Segment → Segment

  rows_become : {f f2 : ℕ → ℕ → Segment} → ((start after : ℕ) → Becomes (f start after) (f2 start after)) → Becomes (row f) (row f2)
  rows_become {f = f} {f2 = f2} x = record { at = λ p. (x p ((f 0 0 p).end)).at p ∙ ap (λ n. f2 p n p) (end_same (x 0 0) p) }

  halves_become : {f f2 : Halves} {g g2 : Segment} → ((middle after : ℕ) (h h2 : Segment) → Becomes h h2 → Becomes (f middle after h) (f2 middle after h2)) → Becomes g g2
      → Becomes (halves f (λ first. g)) (halves f2 (λ first. g2))
  halves_become {f = f} {f2 = f2} {g = g} {g2 = g2} x y = record {
    at = λ p.
        let m = (f 0 0 empty_segment p).end in
        let e : m ≡ (f2 0 0 empty_segment p).end = end_same (x 0 0 empty_segment empty_segment (record { at = λ q. refl })) p in
        (x m ((g m).end) g g2 y).at p ∙ ap₂ (λ i j. f2 i j g2 p) e (end_same y m ∙ ap (λ n. (g2 n).end) e);
  }

  arms_become : {f f2 : Halves} → ((middle after : ℕ) (h h2 : Segment) → Becomes h h2 → Becomes (f middle after h) (f2 middle after h2))
      → Becomes (keeping_arms (halves f arms_segment)) (keeping_arms (halves f2 arms_segment))
  arms_become {f = f} {f2 = f2} x = record {
    at = λ p.
        let a = f 0 0 empty_segment p in
        let tests = segment_becomes (λ q. arms_numbered a.targets.arms) in
        ap {A = Fragment} {B = Fragment} (λ b. record b { targets = record b.targets { arms = [] } })
        ((x a.end ((arms_segment a a.end).end) (arms_segment a) (arms_segment a) tests).at p
        ∙ ap (λ b. f2 b.end ((arms_segment b b.end).end) (arms_segment b) p) ((x 0 0 empty_segment empty_segment (record { at = λ q. refl })).at p));
  }

  segments_become : KeptBySegments names names2 Anything Anything (λ w f f2. Becomes f f2)
  segments_become = record {
    known = λ s. tt;
    none = record { at = λ p. refl };
    lone = lone_becomes;
    returns = record { at = λ p. refl };
    jumps = λ there m. record { at = λ p. refl };
    jumps_if_zero = λ there m. record { at = λ p. refl };
    leaves = record { at = λ p. refl };
    value = λ e. segment_becomes (word_numbered e);
    heads = heads_become;
    quiet = λ q x. x;
    after = λ q x. x;
    before = λ q x. x;
    inside = λ q x. x;
    then_ = λ x y. then_become x y;
    coded = λ x y. then_become x y;
    ended = λ x y. record { at = λ p. ap₂ {A = Fragment} {B = Fragment} {C = Fragment} (λ a b. record a { targets = b.targets }) ((then_become x y).at p) (x.at p) };
    leads = λ there m x. record { at = λ p. ap {A = Fragment} {B = Fragment} (λ a. record a { code = λ out. a.code there }) (x.at p) };
    whole = λ x k same. rows_become (λ start after. x start after tt tt);
    halved = λ {w} {u} x y k l same. halves_become (λ middle after h h2 z. x middle after tt tt u h h2 z) y;
    chosen = λ x k same. arms_become (λ middle after h h2 z. x middle after tt tt h h2 z);
  }

  pub fragment_numbered : (s : Stmt) (p : ℕ) → numbered_fragment (fragment names s p) ≡ fragment names2 s p
  fragment_numbered s = (by_segments segments_become s).at

  pub body_numbered : (ss : Stmts) (p : ℕ) → numbered_fragment (body_fragment names ss p) ≡ body_fragment names2 ss p
  body_numbered ss = (body_by_segments segments_become ss).at
