-- A law of all code, from what it says of segments: what each way to put segments together keeps, the code of each statement
-- keeps.
use Rattle.std.proofs.Common.{◌≡◌, ℕ, ◌+◌, List, refl}
use Rattle.std.specs.Prelude.{sum_by}
use Rattle.blang.specs.declared.code.Instr.{Instr}
use Rattle.blang.specs.declared.code.Instr.TheVariants as instr
use Rattle.blang.specs.declared.token.Placed.{Placed}
use Rattle.blang.specs.Trees.{Expr, Heading, Stmt, Headed, Compound, If, IfElse, While, Switch, Goto, Break, Return, ReturnValue, Evaluate, Empty, Stmts, Nothing, More}
use Rattle.blang.specs.Walk.{Event, Walk, NothingHere, Noted, Level, ◌▸◌, walk, walk_heading, walk_statement, walk_body, walk_parenthesized}
use Rattle.blang.specs.Code.{Environment, arms_code, put, ◌⨾◌, Fragment, Segment, empty_segment, of_code, jump, jump_if_zero, leave, leaving, ◌▹◌, ◌▷◌, keeping_arms, row, halves, rvalue, heading_fragment, fragment, body_fragment}
use Rattle.bgrammar.proofs.Scans.{label_in}

-- an instruction that stands for itself
pub data IsLone : Instr → Type 0 where
  Goes : IsLone instr.Goto
  Returns : IsLone instr.Return
  Drops : IsLone instr.Pop

-- the labels in a walk
abbrev pub labels_in : Walk → ℕ
labels_in (Noted e) = label_in e
labels_in (Level p w end) = labels_in w + sum_by label_in end
labels_in (v ▸ w) = labels_in v + labels_in w
labels_in _ = 0

abbrev pub arms_segment : Fragment → Segment
arms_segment first = of_code (λ p. arms_code first.targets.arms)

-- A relation of what is walked over, its code where names mean this, and its code where they mean that. It may rest on
-- what is Known of statements, and on where jumps lead (Mark).
pub record KeptBySegments (names names2 : Environment) (Mark : ℕ → Type 0) (Known : Segment → Type 0) (R : Walk → Segment → Segment → Type 0) : Type 0 where
  pub known : (s : Stmt) → Known (fragment names s)
  pub none : R NothingHere empty_segment empty_segment
  pub lone : {i : Instr} → IsLone i → R NothingHere (of_code (put i)) (of_code (put i))
  pub returns : R NothingHere (of_code (put (instr.Constant 0) ⨾ put instr.Return)) (of_code (put (instr.Constant 0) ⨾ put instr.Return))
  pub jumps : (there : ℕ) → Mark there → R NothingHere (jump there) (jump there)
  pub jumps_if_zero : (there : ℕ) → Mark there → R NothingHere (jump_if_zero there) (jump_if_zero there)
  pub leaves : R NothingHere leave leave
  pub value : (e : Expr) → R (walk e) (rvalue names e) (rvalue names2 e)
  pub heads : (h : Heading) → R (walk_heading h) (heading_fragment names h) (heading_fragment names2 h)
  -- what has no code and no label
  pub quiet : {v : Walk} {f f2 : Segment} → labels_in v ≡ 0 → R NothingHere f f2 → R v f f2
  pub after : {v w : Walk} {f f2 : Segment} → labels_in v ≡ 0 → R w f f2 → R (v ▸ w) f f2
  pub before : {v w : Walk} {f f2 : Segment} → labels_in v ≡ 0 → R w f f2 → R (w ▸ v) f f2
  pub inside : {p : Placed} {w : Walk} {end : List Event} {f f2 : Segment} → sum_by label_in end ≡ 0 → R w f f2 → R (Level p w end) f f2
  -- segments
  pub then_ : {v w : Walk} {f f2 g g2 : Segment} → R v f f2 → R w g g2 → R (v ▸ w) (f ▹ g) (f2 ▹ g2)
  pub coded : {w : Walk} {f f2 g g2 : Segment} → R NothingHere f f2 → R w g g2 → R w (f ▹ g) (f2 ▹ g2)
  pub ended : {w : Walk} {f f2 g g2 : Segment} → R w f f2 → R NothingHere g g2 → R w (f ▷ g) (f2 ▷ g2)
  pub leads : {w : Walk} {f f2 : Segment} (there : ℕ) → Mark there → R w f f2 → R w (leaving there f) (leaving there f2)
  pub whole : {w : Walk} {f f2 : ℕ → ℕ → Segment} → ((start after : ℕ) → Mark start → Mark after → R w (f start after) (f2 start after))
      → Known (row f) → ((start after p : ℕ) → (f start after p).end ≡ (f 0 0 p).end) → R w (row f) (row f2)
  pub halved : {w : Walk → Walk} {u : Walk} {f f2 : ℕ → ℕ → Segment → Segment} {g g2 : Segment}
      → ((middle after : ℕ) → Mark middle → Mark after → (v : Walk) (h h2 : Segment) → R v h h2 → R (w v) (f middle after h) (f2 middle after h2)) → R u g g2
      → Known (halves f (λ first. g)) → Known g → ((middle after p : ℕ) (h : Segment) → (f middle after h p).end ≡ (h ((f 0 0 empty_segment p).end)).end) → R (w u) (halves f (λ first. g)) (halves f2 (λ first. g2))
  pub chosen : {w : Walk} {f f2 : ℕ → ℕ → Segment → Segment} → ((middle after : ℕ) → Mark middle → Mark after → (h h2 : Segment) → R NothingHere h h2 → R w (f middle after h) (f2 middle after h2))
      → Known (keeping_arms (halves f arms_segment)) → ((middle after p : ℕ) (h : Segment) → (f middle after h p).end ≡ (h ((f 0 0 empty_segment p).end)).end) → R w (keeping_arms (halves f arms_segment)) (keeping_arms (halves f2 arms_segment))

module _ {names names2 : Environment} {Mark : ℕ → Type 0} {Known : Segment → Type 0} {R : Walk → Segment → Segment → Type 0} (k : KeptBySegments names names2 Mark Known R) where
  abbrev parenthesized : (e : Expr) → R (walk_parenthesized e) (rvalue names e) (rvalue names2 e)
  parenthesized e = k.after refl (k.before refl (k.value e))

  abbrev mutual
    pub by_segments : (s : Stmt) → R (walk_statement s) (fragment names s) (fragment names2 s)
    by_segments (Headed h s) = k.then_ (k.heads h) (by_segments s)
    by_segments (Compound body) = k.before refl (k.inside refl (body_by_segments body))
    by_segments (If e s) = k.inside refl (k.whole (λ start after x y. k.then_ (parenthesized e) (k.coded (k.jumps_if_zero after y) (by_segments s))) (k.known (If e s)) (λ a b p. refl))
    by_segments (IfElse e s other) =
        k.inside refl (k.halved (λ middle after x y v h h2 r. k.then_ (parenthesized e) (k.coded (k.jumps_if_zero middle x) (k.then_ (by_segments s) (k.coded (k.jumps after y) r))))
        (k.after refl (by_segments other)) (k.known (IfElse e s other)) (k.known other) (λ a b p h. refl))
    by_segments (While e s) =
        k.inside refl (k.whole (λ start after x y. k.then_ (parenthesized e) (k.coded (k.jumps_if_zero after y) (k.ended (k.leads after y (k.after refl (by_segments s))) (k.jumps start x))))
        (k.known (While e s)) (λ a b p. refl))
    by_segments (Switch e body) =
        k.inside refl (k.chosen (λ middle after x y h h2 r.
        k.then_ (k.value e) (k.coded (k.jumps middle x) (k.ended (k.leads after y (k.after refl (k.after refl (k.before refl (body_by_segments body))))) (k.coded (k.jumps after y) r))))
        (k.known (Switch e body)) (λ a b p h. refl))
    by_segments (Goto e) = k.after refl (k.then_ (k.value e) (k.quiet refl (k.lone Goes)))
    by_segments (Break line) = k.quiet refl k.leaves
    by_segments Return = k.quiet refl k.returns
    by_segments (ReturnValue e) = k.after refl (k.then_ (parenthesized e) (k.quiet refl (k.lone Returns)))
    by_segments (Evaluate e) = k.then_ (k.value e) (k.quiet refl (k.lone Drops))
    by_segments Empty = k.quiet refl k.none

    pub body_by_segments : (ss : Stmts) → R (walk_body ss) (body_fragment names ss) (body_fragment names2 ss)
    body_by_segments Nothing = k.none
    body_by_segments (More before s) = k.then_ (body_by_segments before) (by_segments s)
