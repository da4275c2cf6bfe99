-- From a state the machine does what an answer says.
use Rattle.std.proofs.Common.{◌≡◌, ◌≢◌, ℕ, zero, suc, ◌+◌, ◌≤◌, refl, sym, ap, ◌∙◌, subst, arith}
use Rattle.blang.specs.Layout.{World, Reply}
use Rattle.blang.specs.Machine.{Image, State, Running, Halted, Stuck, step, steps, on_reply}
use Rattle.bmach.proofs.Running.{steps_add}
use Rattle.blang.specs.Value.{Answer, Gives, Ends, Wants, and_then, answer_of}

-- a run that isn't over, in this world
abbrev pub IsAt : State → World → Type 0
IsAt (Running call below w') w = w' ≡ w
IsAt (Halted e w') w = ⊥
IsAt (Stuck w') w = ⊥

-- from a state the machine comes to where a result leads, or halts; or makes n steps and more, to where fuel ran out
abbrev pub Reaches : {A : Type 0} → Image → ℕ → State → (A → World → State) → Answer A → Type 0
Reaches image n s to (Gives a w) = (m : ℕ) × (steps image m s ≡ to a w)
Reaches image n s to (Ends e w) = (m : ℕ) × (steps image m s ≡ Halted e w)
Reaches image n s to (Wants w) = (m : ℕ) × (n ≤ m) × IsAt (steps image m s) w

pub record Does {A : Type 0} (image : Image) (n : ℕ) (s : State) (to : A → World → State) (a : Answer A) : Type 0 where
  pub by : Reaches image n s to a

comes_on : {A : Type 0} (image : Image) (k n j : ℕ) (s s' : State) (to : A → World → State) (a : Answer A) → steps image k s ≡ s' → j ≤ k + n → Reaches image n s' to a → Reaches image j s to a
comes_on image k n j s s' to (Gives a w) e le r = (k + r.0, steps_add image k r.0 s ∙ ap (steps image r.0) e ∙ r.1)
comes_on image k n j s s' to (Ends o w) e le r = (k + r.0, steps_add image k r.0 s ∙ ap (steps image r.0) e ∙ r.1)
comes_on image k n j s s' to (Wants w) e le r =
    (k + r.0, omega (arith, le, r.1), subst (λ t. IsAt t w) (sym (steps_add image k r.0 s ∙ ap (steps image r.0) e)) r.2)

-- what is done after k steps
pub after_steps : {A : Type 0} {image : Image} {n : ℕ} {s s' : State} {to : A → World → State} {a : Answer A} (k j : ℕ) → steps image k s ≡ s' → j ≤ k + n → Does image n s' to a → Does image j s to a
after_steps {image} {n} {s} {s'} {to} {a} k j e le d = record { by = comes_on image k n j s s' to a e le d.by }

-- after one step
pub after_step : {A : Type 0} {image : Image} {n : ℕ} {s s' : State} {to : A → World → State} {a : Answer A} → step image s ≡ s' → Does image n s' to a → Does image (suc n) s to a
after_step {n} e d = after_steps (suc zero) (suc n) e (omega arith) d

pub fewer : {A : Type 0} {image : Image} {n j : ℕ} {s : State} {to : A → World → State} {a : Answer A} → j ≤ n → Does image n s to a → Does image j s to a
fewer {j} le d = after_steps zero j refl (omega (arith, le)) d

pub arrives : {A : Type 0} {image : Image} {n : ℕ} {to : A → World → State} (a : A) (w : World) → Does image n (to a w) to (Gives a w)
arrives a w = record { by = (zero, refl) }

-- everything that an answer can give
abbrev pub EachGiven : {A : Type 0} → (A → Type 0) → Answer A → Type 0
EachGiven P (Gives a w) = P a
EachGiven P (Ends e w) = Unit {0}
EachGiven P (Wants w) = Unit {0}

pub each_from : {A B : Type 0} (P : A → Type 0) (Q : B → Type 0) (a : Answer A) (f : A → World → Answer B) → EachGiven P a → ((x : A) (w : World) → P x → EachGiven Q (f x w)) → EachGiven Q (and_then a f)
each_from P Q (Gives x w) f p h = h x w p
each_from P Q (Ends e w) f p h = tt
each_from P Q (Wants w) f p h = tt

then_reaches : {A B : Type 0} (image : Image) (n : ℕ) (s : State) (P : A → Type 0) (to : A → World → State) (to' : B → World → State) (a : Answer A) (f : A → World → Answer B) → EachGiven P a → Reaches image n s to a → ((x : A) (w : World) → P x → Does image n (to x w) to' (f x w)) → Reaches image n s to' (and_then a f)
then_reaches image n s P to to' (Gives x w) f p r h = comes_on image r.0 n n s (to x w) to' (f x w) r.1 (omega arith) (h x w p).by
then_reaches image n s P to to' (Ends e w) f p r h = r
then_reaches image n s P to to' (Wants w) f p r h = r

pub to_elsewhere : {A : Type 0} {image : Image} {n : ℕ} {s : State} {to to' : A → World → State} (a : Answer A) → Does image n s to a → ((x : A) (w : World) → Does image n (to x w) to' (Gives x w)) → Does image n s to' a
to_elsewhere (Gives x w) d h = after_steps d.by.0 _ d.by.1 (omega arith) (h x w)
to_elsewhere (Ends e w) d h = record { by = d.by }
to_elsewhere (Wants w) d h = record { by = d.by }

pub then_does_each : {A B : Type 0} {image : Image} {n : ℕ} {s : State} {to : A → World → State} {to' : B → World → State} {a : Answer A} {f : A → World → Answer B} (P : A → Type 0) → EachGiven P a → Does image n s to a → ((x : A) (w : World) → P x → Does image n (to x w) to' (f x w)) → Does image n s to' (and_then a f)
then_does_each {image} {n} {s} {to} {to'} {a} {f} P p d h = record { by = then_reaches image n s P to to' a f p d.by h }

pub each_unit : {A : Type 0} (a : Answer A) → EachGiven (λ x. Unit {0}) a
each_unit (Gives x w) = tt
each_unit (Ends e w) = tt
each_unit (Wants w) = tt

-- one thing, and then another with its result
pub then_does : {A B : Type 0} {image : Image} {n : ℕ} {s : State} {to : A → World → State} {to' : B → World → State} (a : Answer A) (f : A → World → Answer B) → Does image n s to a → ((x : A) (w : World) → Does image n (to x w) to' (f x w)) → Does image n s to' (and_then a f)
then_does a f d h = then_does_each (λ x. Unit {0}) (each_unit a) d (λ x w _. h x w)

later_reaches : {A : Type 0} (image : Image) (n m : ℕ) (s s' : State) (to : A → World → State) (a : Answer A) → s ≢ s' → steps image m s ≡ s' → Reaches image n s' to a → Reaches image (suc n) s to a
later_reaches image n zero s s' to a d e r = absurd (d e)
later_reaches image n (suc m) s s' to a d e r = comes_on image (suc m) n (suc n) s s' to a e (omega arith) r

-- the same where the first thing makes a step at least
pub then_does_later : {A B : Type 0} {image : Image} {n : ℕ} {s : State} {to : A → World → State} {to' : B → World → State} (a : Answer A) (f : A → World → Answer B) → ((x : A) (w : World) → s ≢ to x w) → Does image (suc n) s to a → ((x : A) (w : World) → Does image n (to x w) to' (f x w)) → Does image (suc n) s to' (and_then a f)
then_does_later {image} {n} {s} {to} {to'} (Gives x w) f d h k =
    record { by = later_reaches image n h.by.0 s (to x w) to' (f x w) (d x w) h.by.1 (k x w).by }
then_does_later (Ends e w) f d h k = record { by = h.by }
then_does_later (Wants w) f d h k = record { by = h.by }

-- a step that makes a reply
pub reply_does : {image : Image} {n : ℕ} {s : State} (to : ℕ → World → State) (r : Reply) → step image s ≡ on_reply r to → Does image n s to (answer_of r)
reply_does to (Reply.Gives v w) e = record { by = (suc zero, e) }
reply_does to (Reply.Ends o w) e = record { by = (suc zero, e) }
