-- The code of a statement whose tokens are sound is within the ranges of its function.
use Rattle.std.proofs.Common.{ℕ, ◌+◌, ◌<◌, ◌≤◌, List, [], ◌∷◌, length, refl, arith}
use Rattle.std.specs.Prelude.{Option, Some, None}
use Rattle.std.specs.List.{flat_map}
use Rattle.blang.specs.CodeParts.{IsInstrWithin, IsWord}
use Rattle.blang.specs.declared.code.Sizes.{Sizes}
use Rattle.blang.specs.declared.code.Instr.{Instr}
use Rattle.blang.specs.Trees.{Declared, Heading, Auto, Extrn, Label, Case, Default, Stmt}
use Rattle.blang.specs.Walk.{Walk, NothingHere, walk_commas, walk_list, walk_declared, walk_heading, walk_statement}
use Rattle.blang.specs.Code.{Referent, In_frame, Outside, At_label, Environment, vector_code, Arms, default_in, tests_code, default_code, Code, Fragment, Segment, empty_segment, of_code, ◌▹◌, heading_fragment, fragment}
use Rattle.bgrammar.proofs.RowLaws.{IsLone, Goes, Returns, Drops, arms_segment, KeptBySegments, by_segments}
use Rattle.bgrammar.proofs.CodeLaws.{Ends, ends, ends_then, statement_ends}
use Rattle.bgrammar.proofs.Holds.{Holds, Holds-nil, Holds-cons, Holds-first, Holds-rest, Holds-append}
use Rattle.bgrammar.proofs.ExpressionCode.{IsMeaningWithin, word-value_of, word_code_within}
use Rattle.bgrammar.proofs.Walks.{IsVectorWithin, IsWalkWithin}

-- a place in a function
abbrev pub IsPlaceWithin : Sizes → ℕ → Type 0
IsPlaceWithin sizes place = place < sizes.code

abbrev IsConstant : Option ℕ → Type 0
IsConstant None = Unit {0}
IsConstant (Some v) = IsWord v

abbrev pub IsArmWithin : Sizes → Option ℕ × ℕ → Type 0
IsArmWithin sizes arm = IsConstant arm.0 × (arm.1 < sizes.code)

-- a fragment with its labels and arms, where its breaks lead into the function
pub record IsFragmentWithin (sizes : Sizes) (a : Fragment) : Type 0 where
  pub code : (out : ℕ) → out < sizes.code → Holds (IsInstrWithin sizes) (a.code out)
  pub labels : Holds (IsPlaceWithin sizes) a.targets.labels
  pub arms : Holds (IsArmWithin sizes) a.targets.arms

module _ (names : Environment) (sizes : Sizes) (meant : (x : List ℕ) → IsMeaningWithin sizes (names x)) (few : sizes.code ≤ 4096) where
  abbrev Within : List Instr → Type 0
  Within code = Holds (IsInstrWithin sizes) code

  vector_code_within : (m : Referent) (size : Option ℕ) → IsVectorWithin sizes m size → Within (vector_code names m size)
  vector_code_within (In_frame k) (Some c) v = Holds-cons (omega arith) (Holds-cons v (Holds-cons tt (Holds-cons tt Holds-nil)))
  vector_code_within (In_frame k) None v = Holds-nil
  vector_code_within Outside size v = Holds-nil
  vector_code_within (At_label k) size v = Holds-nil

  abbrev InWalk : Walk → Type 0
  InWalk w = IsWalkWithin sizes names w

  further_code_within : (declared : List Declared) → InWalk (walk_commas walk_declared declared) → Within (flat_map (λ d. vector_code names (names d.word.text) d.size) declared)
  further_code_within [] h = Holds-nil
  further_code_within (d ∷ declared) h = Holds-append (vector_code_within (names d.word.text) d.size h.1.0.0.1) (further_code_within declared h.1.1)

  vectors_code_within : (declared : List Declared) → InWalk (walk_list walk_declared declared) → Within (flat_map (λ d. vector_code names (names d.word.text) d.size) declared)
  vectors_code_within [] h = Holds-nil
  vectors_code_within (d ∷ declared) h = Holds-append (vector_code_within (names d.word.text) d.size h.0.0.1) (further_code_within declared h.1)

  tests_code_within : (arms : Arms ℕ) → Holds (IsArmWithin sizes) arms → Within (tests_code arms)
  tests_code_within [] h = Holds-nil
  tests_code_within ((None, t) ∷ arms) h = tests_code_within arms (Holds-rest h)
  tests_code_within ((Some v, t) ∷ arms) h = Holds-cons (Holds-first h) (tests_code_within arms (Holds-rest h))

  default_code_within : (arms : Arms ℕ) → Holds (IsArmWithin sizes) arms → Within (default_code (default_in arms))
  default_code_within [] h = Holds-cons tt Holds-nil
  default_code_within ((None, t) ∷ arms) h = Holds-cons tt (Holds-cons (Holds-first h).1 Holds-nil)
  default_code_within ((Some v, t) ∷ arms) h = default_code_within arms (Holds-rest h)

  heading_within : (h : Heading) (p : ℕ) → InWalk (walk_heading h) → p < sizes.code → IsFragmentWithin sizes (heading_fragment names h p)
  heading_within (Auto declared) p w l = record { code = λ out k. vectors_code_within declared w.1.0; labels = Holds-nil; arms = Holds-nil }
  heading_within (Extrn ws) p w l = record { code = λ out k. Holds-nil; labels = Holds-nil; arms = Holds-nil }
  heading_within (Label v) p w l = record { code = λ out k. Holds-nil; labels = Holds-cons l Holds-nil; arms = Holds-nil }
  heading_within (Case line c) p w l = record { code = λ out k. Holds-nil; labels = Holds-nil; arms = Holds-cons (word-value_of c w.1.0, l) Holds-nil }
  heading_within (Default line) p w l = record { code = λ out k. Holds-nil; labels = Holds-nil; arms = Holds-cons (tt, l) Holds-nil }

  -- a segment that is within where it ends in the function
  record Inside (w : Walk) (f : Segment) : Type 0 where
    known : Ends f
    at : InWalk w → (p : ℕ) → (f p).end < sizes.code → IsFragmentWithin sizes (f p)

  code_inside : {w : Walk} {c : Code} → (InWalk w → (p : ℕ) → p + length (c p) < sizes.code → Within (c p)) → Inside w (of_code c)
  code_inside h = record { known = record { at = λ p out. refl }; at = λ w p l. record { code = λ out k. h w p l; labels = Holds-nil; arms = Holds-nil } }

  lone_within : {i : Instr} → IsLone i → IsInstrWithin sizes i
  lone_within Goes = tt
  lone_within Returns = tt
  lone_within Drops = tt

  -- one segment after another
  both_inside : {f g : Segment} → Ends f → Ends g → ((p : ℕ) → (f p).end < sizes.code → IsFragmentWithin sizes (f p)) → ((p : ℕ) → (g p).end < sizes.code → IsFragmentWithin sizes (g p))
      → (p : ℕ) → ((f ▹ g) p).end < sizes.code → IsFragmentWithin sizes ((f ▹ g) p)
  both_inside {f} {g} k n x y p l =
      let q = (f p).end in
      let a = x p (omega (arith, n.at q 0)) in
      let b = y q l in
      record { code = λ out o. Holds-append (a.code out o) (b.code out o); labels = Holds-append a.labels b.labels; arms = Holds-append a.arms b.arms }

  empty_inside : Inside NothingHere empty_segment
  empty_inside = record { known = (ends names).none; at = λ w p l. record { code = λ out k. Holds-nil; labels = Holds-nil; arms = Holds-nil } }

  inside_segments : KeptBySegments names names (IsPlaceWithin sizes) Ends (λ w f g. Inside w f)
  inside_segments = record {
    known = λ s. record { at = statement_ends names s };
    none = empty_inside;
    lone = λ i. code_inside (λ w p l. Holds-cons (lone_within i) Holds-nil);
    returns = code_inside (λ w p l. Holds-cons (omega arith) (Holds-cons tt Holds-nil));
    jumps = λ there m. code_inside (λ w p l. Holds-cons m Holds-nil);
    jumps_if_zero = λ there m. code_inside (λ w p l. Holds-cons m Holds-nil);
    leaves = record { known = (ends names).leaves; at = λ w p l. record { code = λ out k. Holds-cons k Holds-nil; labels = Holds-nil; arms = Holds-nil } };
    value = λ e. code_inside (λ w p l. word_code_within names sizes meant few e p w l);
    heads = λ h. record { known = (ends names).heads h; at = λ w p l. heading_within h p w (omega arith) };
    quiet = λ q x. record { known = x.known; at = λ w. x.at tt };
    after = λ q x. record { known = x.known; at = λ w. x.at w.1 };
    before = λ q x. record { known = x.known; at = λ w. x.at w.0 };
    inside = λ q x. record { known = x.known; at = λ w. x.at w.1 };
    then_ = λ {v} {w} {f} {f2} {g} x y. record { known = ends_then x.known y.known; at = λ w. both_inside {f = f} {g = g} x.known y.known (x.at w.0) (y.at w.1) };
    coded = λ {w} {f} {f2} {g} x y. record { known = ends_then x.known y.known; at = λ w. both_inside {f = f} {g = g} x.known y.known (x.at tt) (y.at w) };
    ended = λ {w} {f} {f2} {g} x y. record {
      known = record { at = (ends_then x.known y.known).at };
      at = λ w p l. let a = both_inside {f = f} {g = g} x.known y.known (x.at w) (y.at tt) p l in let b = x.at w p (omega (arith, y.known.at ((f p).end) 0)) in record { code = a.code; labels = b.labels; arms = b.arms };
    };
    leads = λ there m x. record {
      known = record { at = λ p out. x.known.at p there };
      at = λ w p l. let a = x.at w p l in record { code = λ out k. a.code there m; labels = a.labels; arms = a.arms };
    };
    whole = λ {w} {f} x known same. record {
      known = known;
      at = λ w p l. let after = (f 0 0 p).end in (x p after (omega (arith, known.at p 0)) (omega (arith, same p after p))).at w p l;
    };
    halved = λ {w} {u} {f} {f2} {g} x y known rest same. record {
      known = known;
      at = λ i p l.
          let middle = (f 0 0 empty_segment p).end in
          let after = (g middle).end in
          (x middle after (omega (arith, same middle after p g, rest.at middle 0)) (omega (arith, same middle after p g)) u g g y).at i p l;
    };
    chosen = λ {w} {f} x known same. record {
      known = known;
      at = λ i p l.
          let a = f 0 0 empty_segment p in
          let after = (arms_segment a a.end).end in
          let m : a.end < sizes.code = omega (arith, same a.end after p (arms_segment a)) in
          let first = (x 0 0 (omega arith) (omega arith) empty_segment empty_segment empty_inside).at i p m in
          let tests = code_inside (λ j q n. Holds-append (tests_code_within a.targets.arms first.arms) (default_code_within a.targets.arms first.arms)) in
          let b = (x a.end after m (omega (arith, same a.end after p (arms_segment a))) (arms_segment a) (arms_segment a) tests).at i p l in
          record { code = b.code; labels = b.labels; arms = Holds-nil };
    };
  }

  pub fragment_within : (s : Stmt) (p : ℕ) → InWalk (walk_statement s) → (fragment names s p).end < sizes.code → IsFragmentWithin sizes (fragment names s p)
  fragment_within s p w l = (by_segments inside_segments s).at w p l
