-- What a reader does depends on what it takes and one token more, and what stopped it can be ended otherwise.
use Rattle.std.proofs.Common.{◌≡◌, ℕ, zero, suc, ◌<◌, ◌≤◌, List, [], ◌∷◌, ◌++◌, length, Bool, true, false, sym, ap, ◌∙◌, refl, subst, append_assoc, length-append, inl, inr, Option, Some, None, arith}
use Rattle.blang.specs.declared.token.Token.{Token}
use Rattle.blang.specs.declared.token.Token.TheVariants as token
use Rattle.blang.specs.declared.token.Placed.{Placed}
use Rattle.blang.specs.Trees.{mark}
pub use Rattle.bgrammar.specs.ReadingOn.{Near, Fine, goes, halts}
use Rattle.bgrammar.specs.Reading.{Read, Got, Stop, Reader, ◌>>=◌, first, expect, turns, many}

abbrev pub Any : Token → Type 0
Any t = Unit {0}

-- the tokens that end each construct of a class, whatever came before; the end of the source is one
pub record Closing : Type 1 where
  pub Is : Token → Type 0
  pub at_end : Is token.End

module _ (C : Closing) where
  -- some tokens with which it ends
  pub record Start {A : Type 0} (Safe : Token → Type 0) (p : Reader A) : Type 0 where
    pub with_ : List Placed
    pub value : A
    pub done : (k : List Placed) → C.Is (first k) → p (with_ ++ k) ≡ Got value k
    pub front : (k : List Placed) → C.Is (first k) → Safe (first (with_ ++ k))

  pub startable : {A : Type 0} (p : Reader A) → Start C.Is p → Start Any p
  startable p s = record { with_ = s.with_; value = s.value; done = s.done; front = λ k h. tt }

  bind_goes : {A B : Type 0} (Safe : Token → Type 0) (m : Reader A) (f : A → Reader B) → ((a : A) (r : List Placed) (b : B) → f a r ≡ Got b r → (t : Token) → C.Is t → Safe t) → (u r ts : List Placed) (a : A) → ts ≡ u ++ r → ((new : List Placed) → Near Safe r new → m (u ++ new) ≡ Got a new) → Start Safe (f a) → Fine C.Is (f a) r → Fine C.Is (λ x. m x >>= f) ts
  bind_goes Safe m f weak u r ts a e go s (goes [] r2 b e2 go2) =
      goes u r2 b (e ∙ ap (λ x. u ++ x) e2) (λ new n. ap (λ x. x >>= f) (go new (near new n)) ∙ go2 new n)
    where
      near : (new : List Placed) → Near C.Is r2 new → Near Safe r new
      near new (inl h) = inl (h ∙ sym (ap first e2))
      near new (inr h) = inr (weak a r2 b (go2 r2 (inl refl)) (first new) h)
  bind_goes Safe m f weak u r ts a e go s (goes (t ∷ u2) r2 b e2 go2) =
      goes (u ++ (t ∷ u2)) r2 b (e ∙ ap (λ x. u ++ x) e2 ∙ sym (append_assoc u (t ∷ u2) r2)) (λ new n. ap (λ x. m x >>= f) (append_assoc u (t ∷ u2) new) ∙ ap (λ x. x >>= f) (go ((t ∷ u2) ++ new) (inl (sym (ap first e2)))) ∙ go2 new n)
  bind_goes Safe m f weak u r ts a e go s (halts [] r2 e2 stop c b fin) =
      halts u r2 (e ∙ ap (λ x. u ++ x) e2) (λ new h. ap (λ x. x >>= f) (go new (inl (h ∙ sym (ap first e2)))) ∙ stop new h) s.with_ s.value (λ k h. ap (λ x. x >>= f) (go (s.with_ ++ k) (inr (s.front k h))) ∙ s.done k h)
  bind_goes Safe m f weak u r ts a e go s (halts (t ∷ u2) r2 e2 stop c b fin) =
      halts (u ++ (t ∷ u2)) r2 (e ∙ ap (λ x. u ++ x) e2 ∙ sym (append_assoc u (t ∷ u2) r2)) (λ new h. ap (λ x. m x >>= f) (append_assoc u (t ∷ u2) new) ∙ ap (λ x. x >>= f) (go ((t ∷ u2) ++ new) (inl (sym (ap first e2)))) ∙ stop new h) c b (λ k h. ap (λ x. m x >>= f) (append_assoc u (t ∷ u2) (c ++ k)) ∙ ap (λ x. x >>= f) (go ((t ∷ u2) ++ (c ++ k)) (inl (sym (ap first e2)))) ∙ fin k h)

  -- One after the other, where the second is fine on each end of the tokens. Where it takes nothing, a token that ends both ends the first.
  pub bind_taking : {A B : Type 0} (Safe : Token → Type 0) (m : Reader A) (f : A → Reader B) → ((a : A) (r : List Placed) (b : B) → f a r ≡ Got b r → (t : Token) → C.Is t → Safe t) → ((a : A) → Start Safe (f a)) → (ts : List Placed) → Fine Safe m ts → ((a : A) (u r : List Placed) → ts ≡ u ++ r → m ts ≡ Got a r → Fine C.Is (f a) r) → Fine C.Is (λ x. m x >>= f) ts
  bind_taking Safe m f weak st ts (goes u r a e go) ff = bind_goes Safe m f weak u r ts a e go (st a) (ff a u r e (ap m e ∙ go r (inl refl)))
  bind_taking Safe m f weak st ts (halts u r e stop c a fin) ff =
      halts u r e (λ new h. ap (λ x. x >>= f) (stop new h)) (c ++ (st a).with_) (st a).value (λ k h. ap (λ x. m (u ++ x) >>= f) (append_assoc c (st a).with_ k) ∙ ap (λ x. x >>= f) (fin ((st a).with_ ++ k) ((st a).front k h)) ∙ (st a).done k h)

  -- the same, where it may take nothing
  pub bind_fine : {A B : Type 0} (Safe : Token → Type 0) (m : Reader A) (f : A → Reader B) → ((t : Token) → C.Is t → Safe t) → ((a : A) → Start Safe (f a)) → (ts : List Placed) → Fine Safe m ts → ((a : A) (u r : List Placed) → ts ≡ u ++ r → m ts ≡ Got a r → Fine C.Is (f a) r) → Fine C.Is (λ x. m x >>= f) ts
  bind_fine Safe m f weak = bind_taking Safe m f (λ a r b h. weak)

  -- a reader whose first token is known
  pub shift : {A : Type 0} (p g : Reader A) (t : Placed) → ((ts : List Placed) → p (t ∷ ts) ≡ g ts) → (ts : List Placed) → Fine C.Is g ts → Fine C.Is p (t ∷ ts)
  shift p g t agree ts (goes u r a e go) = goes (t ∷ u) r a (ap (λ x. t ∷ x) e) (λ new n. agree (u ++ new) ∙ go new n)
  shift p g t agree ts (halts u r e stop c a fin) = halts (t ∷ u) r (ap (λ x. t ∷ x) e) (λ new h. agree (u ++ new) ∙ stop new h) c a (λ k h. agree (u ++ (c ++ k)) ∙ fin k h)

  -- two readers that agree everywhere
  pub alike : {A : Type 0} (p g : Reader A) → ((ts : List Placed) → p ts ≡ g ts) → (ts : List Placed) → Fine C.Is g ts → Fine C.Is p ts
  alike p g agree ts (goes u r a e go) = goes u r a e (λ new n. agree (u ++ new) ∙ go new n)
  alike p g agree ts (halts u r e stop c a fin) = halts u r e (λ new h. agree (u ++ new) ∙ stop new h) c a (λ k h. agree (u ++ (c ++ k)) ∙ fin k h)

  pub idle : {A : Type 0} (p : Reader A) (ts : List Placed) (a : A) → ((new : List Placed) → Near C.Is ts new → p new ≡ Got a new) → Fine C.Is p ts
  idle p ts a go = goes [] ts a refl go

  pub stuck : {A : Type 0} (p : Reader A) (ts : List Placed) → ((new : List Placed) → first new ≡ first ts → p new ≡ Stop new) → Start Any p → Fine C.Is p ts
  stuck p ts stop s = halts [] ts refl stop s.with_ s.value s.done

  -- two readers that agree at this token and the safe ones
  pub same : {A : Type 0} (p q : Reader A) (ts : List Placed) → ((new : List Placed) → Near C.Is ts new → p new ≡ q new) → Start Any p → Fine C.Is q ts → Fine C.Is p ts
  same p q ts agree s (goes [] r a e go) = goes [] r a e (λ new n. agree new (subst (λ x. Near C.Is x new) (sym e) n) ∙ go new n)
  same p q ts agree s (goes (t ∷ u) r a e go) = goes (t ∷ u) r a e (λ new n. agree ((t ∷ u) ++ new) (inl (sym (ap first e))) ∙ go new n)
  same p q ts agree s (halts [] r e stop c a fin) = halts [] r e (λ new h. agree new (inl (h ∙ sym (ap first e))) ∙ stop new h) s.with_ s.value s.done
  same p q ts agree s (halts (t ∷ u) r e stop c a fin) = halts (t ∷ u) r e (λ new h. agree ((t ∷ u) ++ new) (inl (sym (ap first e))) ∙ stop new h) c a (λ k h. agree ((t ∷ u) ++ (c ++ k)) (inl (sym (ap first e))) ∙ fin k h)

  -- two readers that agree at this token, of which the second takes something
  pub same_eats : {A : Type 0} (p q : Reader A) (ts : List Placed) → ((new : List Placed) → first new ≡ first ts → p new ≡ q new) → Start Any p → ((a : A) → q ts ≡ Got a ts → ⊥) → Fine C.Is q ts → Fine C.Is p ts
  same_eats p q ts agree s eats (goes [] r a e go) = absurd (eats a (ap q e ∙ go r (inl refl) ∙ ap (λ x. Got a x) (sym e)))
  same_eats p q ts agree s eats (goes (t ∷ u) r a e go) = goes (t ∷ u) r a e (λ new n. agree ((t ∷ u) ++ new) (sym (ap first e)) ∙ go new n)
  same_eats p q ts agree s eats (halts [] r e stop c a fin) = halts [] r e (λ new h. agree new (h ∙ sym (ap first e)) ∙ stop new h) s.with_ s.value s.done
  same_eats p q ts agree s eats (halts (t ∷ u) r e stop c a fin) = halts (t ∷ u) r e (λ new h. agree ((t ∷ u) ++ new) (sym (ap first e)) ∙ stop new h) c a (λ k h. agree ((t ∷ u) ++ (c ++ k)) (sym (ap first e)) ∙ fin k h)

  pub shrinks : {A : Type 0} (p : Reader A) (ts r : List Placed) (a : A) → Fine C.Is p ts → p ts ≡ Got a r → length r ≤ length ts
  shrinks p ts r a (goes u r2 a2 e go) h =
      let e2 : Got a r ≡ Got a2 r2 = sym h ∙ ap p e ∙ go r2 (inl refl) in
      let e3 : r ≡ r2 = cc in
      omega (arith, ap length e, ap length e3, length-append u r2)
  shrinks p ts r a (halts u r2 e stop c a2 fin) h =
      let e2 : Got a r ≡ Stop r2 = sym h ∙ ap p e ∙ stop r2 refl in cc

  -- the same before fewer tokens
  pub narrower : {A : Type 0} {p : Reader A} {ts : List Placed} (Wide : Token → Type 0) → ((t : Token) → C.Is t → Wide t) → Fine Wide p ts → Fine C.Is p ts
  narrower {A} {p} {ts} Wide weak (goes u r a e go) = goes u r a e (λ new n. go new (near new n))
    where
      near : (new : List Placed) → Near C.Is r new → Near Wide r new
      near new (inl h) = inl h
      near new (inr h) = inr (weak (first new) h)
  narrower Wide weak (halts u r e stop c a fin) = halts u r e stop c a (λ k h. fin k (weak (first k) h))

  weaker : (t : Token) → C.Is t → C.Is t
  weaker t h = h

  pub got_fine : {A : Type 0} (a : A) (ts : List Placed) → Fine C.Is (λ x. Got a x) ts
  got_fine a ts = idle (λ x. Got a x) ts a (λ new n. refl)

  pub got_start : {A : Type 0} (a : A) → Start C.Is (λ x. Got a x)
  got_start a = record { with_ = []; value = a; done = λ k h. refl; front = λ k h. h }

  -- one after the other, where nothing has to be known of the first
  pub then_fine : {A B : Type 0} (m : Reader A) (f : A → Reader B) → ((a : A) → Start C.Is (f a)) → (ts : List Placed) → Fine C.Is m ts → ((a : A) (r : List Placed) → Fine C.Is (f a) r) → Fine C.Is (λ x. m x >>= f) ts
  then_fine m f s ts fine ff = bind_fine C.Is m f weaker s ts fine (λ a u r e g. ff a r)

  -- reading, and then making something of it
  pub map_fine : {A B : Type 0} (p : Reader A) (f : A → B) (ts : List Placed) → Fine C.Is p ts → Fine C.Is (λ x. p x >>= λ a. Got (f a)) ts
  map_fine p f ts fine = then_fine p (λ a. Got (f a)) (λ a. got_start (f a)) ts fine (λ a r. got_fine (f a) r)

  -- a token that must come, and what stands after it
  pub expect_then : {B : Type 0} (is : Token → Bool) (t : Token) → is t ≡ true → is token.End ≡ false → (f : Reader B) → Start Any f → ((ts : List Placed) → Fine C.Is f ts) → (ts : List Placed) → Fine C.Is (λ x. expect is x >>= λ o. f) ts
  expect_then is t yes_ end f s fine [] = halts [] [] refl (λ new e. rw (ap is e ∙ end) refl) (mark t ∷ s.with_) s.value (λ k h. rw yes_ (s.done k h))
  expect_then {B} is t yes_ end f s fine (p ∷ ts) = go (is p.token) refl
    where
      go : (b : Bool) → is p.token ≡ b → Fine C.Is (λ x. expect is x >>= λ o. f) (p ∷ ts)
      go true h = shift (λ x. expect is x >>= λ o. f) f p (λ x. rw h refl) ts (fine ts)
      go false h = halts [] (p ∷ ts) refl (λ new e. rw (ap is e ∙ h) refl) (mark t ∷ s.with_) s.value (λ k n. rw yes_ (s.done k n))

  pub expect_start : {B : Type 0} (Safe : Token → Type 0) (is : Token → Bool) (t : Token) → is t ≡ true → Safe t → (f : Reader B) → Start Any f → Start Safe (λ x. expect is x >>= λ o. f)
  expect_start Safe is t yes_ h f s = record { with_ = mark t ∷ s.with_; value = s.value; done = λ k g. rw yes_ (s.done k g); front = λ k g. h }

  -- it takes the token
  pub expect_takes : {B : Type 0} (is : Token → Bool) → is token.End ≡ false → (f : Reader B) → ((ts : List Placed) → Fine C.Is f ts) → (ts r : List Placed) (b : B) → (expect is ts >>= λ o. f) ≡ Got b r → length r < length ts
  expect_takes is end f fine [] r b e = let e2 = rw end at e in cc
  expect_takes {B} is end f fine (t ∷ ts) r b e = go (is t.token) refl
    where
      go : (v : Bool) → is t.token ≡ v → length r < length (t ∷ ts)
      go true h = omega (arith, shrinks f ts r b (fine ts) (rw h at e))
      go false h = let e2 = rw h at e in cc

  -- something, and then a token that closes it
  pub closed_fine : {A B : Type 0} (Safe : Token → Type 0) (p : Reader A) (is : Token → Bool) (t : Token) → is t ≡ true → is token.End ≡ false → Safe t → (f : A → B) → (ts : List Placed) → Fine Safe p ts → Fine C.Is (λ x. p x >>= λ a r. expect is r >>= λ o. Got (f a)) ts
  closed_fine Safe p is t yes_ end safe f ts fine = bind_taking Safe p (λ a r. expect is r >>= λ o. Got (f a)) (λ a r b e. absurd (omega (arith, expect_takes is end (λ x. Got (f a) x) (got_fine (f a)) r r b e))) (λ a. expect_start Safe is t yes_ safe (λ x. Got (f a) x) (startable (λ x. Got (f a) x) (got_start (f a)))) ts fine (λ a u r e g. expect_then is t yes_ end (λ x. Got (f a) x) (startable (λ x. Got (f a) x) (got_start (f a))) (got_fine (f a)) r)

  -- it takes the token that closes it
  pub closed_eats : {A B : Type 0} (p : Reader A) (is : Token → Bool) → is token.End ≡ false → (f : A → B) → (ts : List Placed) → Fine C.Is p ts → (b : B) → (p ts >>= λ a r. expect is r >>= λ o. Got (f a)) ≡ Got b ts → ⊥
  closed_eats {A} {B} p is end f ts fine b = go (p ts) refl
    where
      go : (x : Read A) → p ts ≡ x → (x >>= λ a r. expect is r >>= λ o. Got (f a)) ≡ Got b ts → ⊥
      go (Stop r) h e = cc
      go (Got a r) h e = omega (arith, shrinks p ts r a fine h, expect_takes is end (λ x. Got (f a) x) (got_fine (f a)) r ts b e)

  -- A reader of what a token opens: it stops there, or reads on after it.
  pub data Opened {A : Type 0} (p : Reader A) (t : Placed) : Type 0 where
    stops : ((ts : List Placed) → p ts ≡ Stop ts) → Opened p t
    enters : (g : Reader A) → ((ts : List Placed) → p (t ∷ ts) ≡ g ts) → ((ts : List Placed) → Fine C.Is g ts) → Opened p t

  pub opened_fine : {A : Type 0} (p q : Reader A) (ts : List Placed) → (first ts ≡ token.End → ⊥) → ((new : List Placed) → first new ≡ first ts → p new ≡ q new) → Start Any p → ((t : Placed) → Opened q t) → Fine C.Is p ts
  opened_fine p q [] ne agree s o = absurd (ne refl)
  opened_fine {A} p q (t ∷ ts) ne agree s o = go (o t)
    where
      go : Opened q t → Fine C.Is p (t ∷ ts)
      go (stops st) = stuck p (t ∷ ts) (λ new h. agree new h ∙ st new) s
      go (enters g eq good) = shift p g t (λ x. agree (t ∷ x) refl ∙ eq x) ts (good ts)

  -- One turn of a loop: it stops at its first token, or reads on.
  pub data Turn {A : Type 0} (p : Reader A) (ts : List Placed) : Type 0 where
    halted : ((new : List Placed) → first new ≡ first ts → p new ≡ Stop new) → Turn p ts
    runs : Fine C.Is p ts → Turn p ts

  -- A loop: it ends at each closing token, and each turn takes a token.
  pub record Loop {A B : Type 0} (more : A → Token → Option B) (body : B → A → Reader A) : Type 0 where
    pub closed : (a : A) (t : Token) → C.Is t → more a t ≡ None
    pub takes : (b : B) (a a2 : A) (ts r : List Placed) → more a (first ts) ≡ Some b → body b a ts ≡ Got a2 r → length r < length ts
    pub turn : (b : B) (a : A) (ts : List Placed) → more a (first ts) ≡ Some b → Turn (body b a) ts

  -- a loop by what each token opens
  pub opened_loop : {A B : Type 0} (more : A → Token → Option B) (body : B → A → Reader A) → ((a : A) (t : Token) → C.Is t → more a t ≡ None) → ((b : B) (a : A) (t : Placed) → more a t.token ≡ Some b → Opened (body b a) t) → Loop more body
  opened_loop {A} {B} more body closed opened = record { closed = closed; takes = takes; turn = turn }
    where
      takes : (b : B) (a a2 : A) (ts r : List Placed) → more a (first ts) ≡ Some b → body b a ts ≡ Got a2 r → length r < length ts
      takes b a a2 [] r h e = let n : None ≡ Some b = sym (closed a token.End C.at_end) ∙ h in cc
      takes b a a2 (t ∷ ts) r h e = go (opened b a t h)
        where
          go : Opened (body b a) t → length r < length (t ∷ ts)
          go (stops st) = let n : Got a2 r ≡ Stop (t ∷ ts) = sym e ∙ st (t ∷ ts) in cc
          go (enters g eq good) = omega (arith, shrinks g ts r a2 (good ts) (sym (eq ts) ∙ e))

      turn : (b : B) (a : A) (ts : List Placed) → more a (first ts) ≡ Some b → Turn (body b a) ts
      turn b a [] h = let n : None ≡ Some b = sym (closed a token.End C.at_end) ∙ h in cc
      turn b a (t ∷ ts) h = go (opened b a t h)
        where
          go : Opened (body b a) t → Turn (body b a) (t ∷ ts)
          go (stops st) = halted (λ new n. st new)
          go (enters g eq good) = runs (shift (body b a) g t eq ts (good ts))

  enough_step : {A B : Type 0} (more : A → Token → Option B) (body : B → A → Reader A) → Loop more body → (n m : ℕ) (a : A) (ts : List Placed) → ((a2 : A) (r : List Placed) → length r < length ts → turns more body n a2 r ≡ turns more body m a2 r) → turns more body (suc n) a ts ≡ turns more body (suc m) a ts
  enough_step {A} {B} more body loop n m a ts ih = go (more a (first ts)) refl
    where
      step : (b : B) → more a (first ts) ≡ Some b → (x : Read A) → body b a ts ≡ x → (x >>= turns more body n) ≡ (x >>= turns more body m)
      step b h (Got a2 r) e = ih a2 r (loop.takes b a a2 ts r h e)
      step b h (Stop r) e = refl

      go : (o : Option B) → more a (first ts) ≡ o → turns more body (suc n) a ts ≡ turns more body (suc m) a ts
      go None h = rw h refl
      go (Some b) h = rw h (step b h (body b a ts) refl)

  -- enough turns are enough
  enough : {A B : Type 0} (more : A → Token → Option B) (body : B → A → Reader A) → Loop more body → (n m : ℕ) (a : A) (ts : List Placed) → length ts ≤ n → length ts ≤ m → turns more body n a ts ≡ turns more body m a ts
  enough more body loop zero zero a ts le le2 = refl
  enough more body loop zero (suc m) a [] le le2 = rw (loop.closed a token.End C.at_end) refl
  enough more body loop zero (suc m) a (t ∷ ts) le le2 = absurd (omega arith)
  enough more body loop (suc n) zero a [] le le2 = rw (loop.closed a token.End C.at_end) refl
  enough more body loop (suc n) zero a (t ∷ ts) le le2 = absurd (omega arith)
  enough {A} {B} more body loop (suc n) (suc m) a ts le le2 = enough_step more body loop n m a ts (λ a2 r lt. enough more body loop n m a2 r (omega arith) (omega arith))

  pub many_some : {A B : Type 0} (more : A → Token → Option B) (body : B → A → Reader A) → Loop more body → (b : B) (a : A) (ts : List Placed) → more a (first ts) ≡ Some b → many more body a ts ≡ (body b a ts >>= many more body)
  many_some more body loop b a [] h = let n : None ≡ Some b = sym (loop.closed a token.End C.at_end) ∙ h in cc
  many_some {A} {B} more body loop b a (t ∷ ts) h = rw h (step (body b a (t ∷ ts)) refl)
    where
      step : (x : Read A) → body b a (t ∷ ts) ≡ x → (x >>= turns more body (length ts)) ≡ (x >>= many more body)
      step (Got a2 r) e = let lt : length r < length (t ∷ ts) = loop.takes b a a2 (t ∷ ts) r h e in enough more body loop (length ts) (length r) a2 r (omega arith) (omega arith)
      step (Stop r) e = refl

pub many_none : {A B : Type 0} (more : A → Token → Option B) (body : B → A → Reader A) (a : A) (ts : List Placed) → more a (first ts) ≡ None → many more body a ts ≡ Got a ts
many_none more body a [] h = refl
many_none more body a (t ∷ ts) h = rw h refl

module _ (C : Closing) where
  pub many_start : {A B : Type 0} (more : A → Token → Option B) (body : B → A → Reader A) → Loop C more body → (a : A) → Start C C.Is (many more body a)
  many_start more body loop a = record { with_ = []; value = a; done = λ k h. many_none more body a k (loop.closed a (first k) h); front = λ k h. h }

  turns_take : {A B : Type 0} (more : A → Token → Option B) (body : B → A → Reader A) → Loop C more body → (n : ℕ) (a : A) (ts : List Placed) (a2 : A) (r : List Placed) → turns more body n a ts ≡ Got a2 r → length r ≤ length ts
  turns_take more body loop zero a ts a2 r e = let q : ts ≡ r = cc in omega (arith, ap length q)
  turns_take {A} {B} more body loop (suc n) a ts a2 r e = go (more a (first ts)) refl (λ a3 r3 e3. turns_take more body loop n a3 r3 a2 r e3)
    where
      turn : (b : B) → more a (first ts) ≡ Some b → ((a3 : A) (r3 : List Placed) → turns more body n a3 r3 ≡ Got a2 r → length r ≤ length r3) → (x : Read A) → body b a ts ≡ x → (x >>= turns more body n) ≡ Got a2 r → length r ≤ length ts
      turn b h ih (Got a3 r3) eq e3 = omega (arith, loop.takes b a a3 ts r3 h eq, ih a3 r3 e3)
      turn b h ih (Stop r3) eq e3 = cc

      go : (o : Option B) → more a (first ts) ≡ o → ((a3 : A) (r3 : List Placed) → turns more body n a3 r3 ≡ Got a2 r → length r ≤ length r3) → length r ≤ length ts
      go None h ih = let e2 = rw h at e in let q : ts ≡ r = cc in omega (arith, ap length q)
      go (Some b) h ih = turn b h ih (body b a ts) refl (rw h at e)

  many_takes : {A B : Type 0} (more : A → Token → Option B) (body : B → A → Reader A) → Loop C more body → (a : A) (ts : List Placed) (a2 : A) (r : List Placed) → many more body a ts ≡ Got a2 r → length r ≤ length ts
  many_takes more body loop a ts a2 r e = turns_take more body loop (length ts) a ts a2 r e

  turn_fine : {A B : Type 0} (more : A → Token → Option B) (body : B → A → Reader A) → Loop C more body → (b : B) (a : A) (ts : List Placed) → more a (first ts) ≡ Some b → Turn C (body b a) ts → ((a2 : A) (r : List Placed) → length r < length ts → Fine C.Is (many more body a2) r) → Fine C.Is (many more body a) ts
  turn_fine more body loop b a ts h (halted st) ih =
      stuck C (many more body a) ts (λ new e. many_some C more body loop b a new (ap (more a) e ∙ h) ∙ ap (λ x. x >>= many more body) (st new e)) (startable C (many more body a) (many_start more body loop a))
  turn_fine {A} {B} more body loop b a ts h (runs fine) ih =
      same_eats C (many more body a) (λ x. body b a x >>= many more body) ts (λ new e. many_some C more body loop b a new (ap (more a) e ∙ h)) (startable C (many more body a) (many_start more body loop a)) (λ a2 e. eats a2 (body b a ts) refl e)
      (bind_fine C C.Is (body b a) (many more body) (λ t h. h) (many_start more body loop) ts fine (λ a2 u r e got. ih a2 r (loop.takes b a a2 ts r h got)))
    where
      eats : (a2 : A) (x : Read A) → body b a ts ≡ x → (x >>= many more body) ≡ Got a2 ts → ⊥
      eats a2 (Stop r) eq e = cc
      eats a2 (Got a3 r) eq e = absurd (omega (arith, loop.takes b a a3 ts r h eq, many_takes more body loop a3 r a2 ts e))

  many_fine_to : {A B : Type 0} (more : A → Token → Option B) (body : B → A → Reader A) → Loop C more body → (n : ℕ) (a : A) (ts : List Placed) → length ts ≤ n → (o : Option B) → more a (first ts) ≡ o → Fine C.Is (many more body a) ts
  many_fine_to more body loop n a ts le None h = idle C (many more body a) ts a near
    where
      near : (new : List Placed) → Near C.Is ts new → many more body a new ≡ Got a new
      near new (inl e) = many_none more body a new (ap (more a) e ∙ h)
      near new (inr e) = many_none more body a new (loop.closed a (first new) e)
  many_fine_to more body loop zero a [] le (Some b) h = let e : None ≡ Some b = sym (loop.closed a token.End C.at_end) ∙ h in cc
  many_fine_to more body loop zero a (t ∷ ts) le (Some b) h = absurd (omega arith)
  many_fine_to more body loop (suc n) a ts le (Some b) h = turn_fine more body loop b a ts h (loop.turn b a ts h) (λ a2 r lt. many_fine_to more body loop n a2 r (omega (arith, lt)) (more a2 (first r)) refl)

  -- the loop reads on to the end as its parts do
  pub many_fine : {A B : Type 0} (more : A → Token → Option B) (body : B → A → Reader A) → Loop C more body → (a : A) (ts : List Placed) → Fine C.Is (many more body a) ts
  many_fine more body loop a ts = many_fine_to more body loop (length ts) a ts (omega arith) (more a (first ts)) refl
