-- Four laws of reading, once for all rows of parts: lines decide nothing, what is read is spelled so, a spelling is read again, and a reader reads on from what it has and can be ended wherever it stops.
use Rattle.std.proofs.Common.{◌≡◌, ℕ, ◌+◌, List, [], ◌∷◌, ◌++◌, Bool, true, false, sym, ap, ◌∙◌, refl, subst, append_assoc, arith}
use Rattle.blang.specs.declared.token.Token.{Token}
use Rattle.blang.specs.declared.token.Placed.{Placed}
use Rattle.blang.specs.Cut.{placed}
use Rattle.blang.specs.Trees.{mark, kept, kept_tokens}
use Rattle.blang.specs.Walk.{tokens_in}
use Rattle.bgrammar.specs.Reading.{Read, Got, Stop, Reader, ◌>>=◌, first, expect}
use Rattle.bgrammar.specs.StatementReader as statements
use Rattle.bgrammar.specs.StatementReader.{is_else}
use Rattle.bgrammar.specs.ReadingOn.{Closer}
use Rattle.bgrammar.proofs.KeptLemmas.{first-kept}
use Rattle.bgrammar.proofs.Lineless.{Lineless, bind_lineless, expect_lineless}
use Rattle.bgrammar.proofs.ExpressionSound.{Sound}
use Rattle.bgrammar.proofs.ExpressionFine as E
use Rattle.bgrammar.proofs.Fine.{Any, Fine, Closing, Start, bind_taking, expect_then, expect_start, expect_takes}
use Rattle.bgrammar.proofs.Forms.{Mark, Thing, Inner, Body, Tree, walk_of, words_of, read, Fit, Shut, Part, Sign, Item, Fields, walk_parts, onto, onto_is, read_parts, FieldsFit}

module _ (level : statements.Level) where
  -- 1. Lines decide nothing, where as many string words are read for each thing.
  abbrev pub FieldsAlike : (ps : List Part) → Fields ps → Fields ps → Type 0
  FieldsAlike [] x y = Unit {0}
  FieldsAlike (Sign m ∷ ps) x y = FieldsAlike ps x y
  FieldsAlike (Item j ∷ ps) (a, x) (b, y) = (words_of j a ≡ words_of j b) × FieldsAlike ps x y

  pub parts_lineless : {B : Type 0} (R : B → B → Type 0) → ((j : Thing) (off : ℕ) → Lineless (λ a b. words_of j a ≡ words_of j b) (read level j off) (read level j off)) → (ps : List Part) (off off2 : ℕ) → off ≡ off2 → (made made2 : Fields ps → Reader B)
      → ((x y : Fields ps) → FieldsAlike ps x y → Lineless R (made x) (made2 y)) → Lineless R (read_parts level ps off made) (read_parts level ps off2 made2)
  parts_lineless R each [] off off2 same made made2 h = h tt tt tt
  parts_lineless R each (Sign m ∷ ps) off off2 same made made2 h = expect_lineless R m.is (read_parts level ps off made) (read_parts level ps off2 made2) (parts_lineless R each ps off off2 same made made2 h)
  parts_lineless R each (Item j ∷ ps) off off2 same made made2 h =
      bind_lineless (λ a b. words_of j a ≡ words_of j b) R (read level j off) (read level j off2) _ _ (subst (λ n. Lineless (λ a b. words_of j a ≡ words_of j b) (read level j off) (read level j n)) same (each j off))
      (λ a b w. parts_lineless R each ps (off + words_of j a) (off2 + words_of j b) (omega (arith, same, w)) (λ x. made (a, x)) (λ x. made2 (b, x)) (λ x y k. h (a, x) (b, y) (w, k)))

  -- 2. A spelling is read again: each thing is, before the tokens of the parts after it.
  abbrev pub Again : (ps : List Part) → Fields ps → (off : ℕ) → List Placed → Type 0
  Again [] x off rest = Unit {0}
  Again (Sign m ∷ ps) x off rest = Again ps x off rest
  Again (Item j ∷ ps) (a, x) off rest =
      (read level j off (onto (walk_of j a) (onto (walk_parts ps x) rest)) ≡ Got a (onto (walk_parts ps x) rest)) × Again ps x (off + words_of j a) rest

  pub parts_again : {B : Type 0} (ps : List Part) (x : Fields ps) (off : ℕ) (made : Fields ps → Reader B) (rest : List Placed) → Again ps x off rest → read_parts level ps off made (onto (walk_parts ps x) rest) ≡ made x rest
  parts_again [] x off made rest h = refl
  parts_again (Sign m ∷ ps) x off made rest h = rw m.found (parts_again ps x off made rest h)
  parts_again (Item j ∷ ps) (a, x) off made rest h = ap (λ y. y >>= λ a. read_parts level ps (off + words_of j a) (λ x. made (a, x))) h.0 ∙ parts_again ps x (off + words_of j a) (λ x. made (a, x)) rest h.1

-- 3. What is read is spelled by the tokens that it took, fits, and has no else of its own after it.
abbrev pub Told : {A : Type 0} → (A → List Placed) → (A → Type 0) → (A → Token → Type 0) → List Placed → Read A → Type 0
Told say P Q whole (Got a rest) = (whole ≡ say a ++ kept_tokens rest) × P a × Q a (first rest)
Told say P Q whole (Stop rest) = Unit {0}

pub told : {A : Type 0} (say : A → List Placed) (P : A → Type 0) (whole : List Placed) (x : Read A) → Sound say P whole x → Told say P (λ a t. Unit {0}) whole x
told say P whole (Got a rest) s = (s.0, s.1, tt)
told say P whole (Stop rest) s = tt

abbrev pub ToldThing : (room off : ℕ) (j : Thing) → List Placed → Read (Tree j) → Type 0
ToldThing room off j whole x = Told (λ a. tokens_in (walk_of j a)) (λ a. Fit j a room off) (λ a t. Shut j a t) whole x

-- a token that must come, whatever is claimed of what stands after it
pub expect_mark : {B : Type 0} (Q : Read B → Type 0) → ((r : List Placed) → Q (Stop r)) → (m : Mark) (f : Reader B) (ts : List Placed) → ((r : List Placed) → kept_tokens ts ≡ mark m.it ∷ kept_tokens r → Q (f r)) → Q (expect m.is ts >>= λ o. f)
expect_mark Q stop m f [] h = rw m.unended (stop [])
expect_mark {B} Q stop m f (t ∷ ts) h = go (m.is t.token) refl
  where
    go : (b : Bool) → m.is t.token ≡ b → Q (expect m.is (t ∷ ts) >>= λ o. f)
    go true e = rw e (h ts (ap (λ k. k ∷ kept_tokens ts) (ap (λ u. kept (placed u t.line)) (m.only t.token e) ∙ m.unlined t.line)))
    go false e = rw e (stop (t ∷ ts))

module _ (room : ℕ) (level : statements.Level) (each : (j : Thing) (off : ℕ) (ts : List Placed) → ToldThing room off j (kept_tokens ts) (read level j off ts)) where
  -- what must be shown of what was read of these tokens
  abbrev Shown : {B : Type 0} → (Read B → Type 0) → (ps : List Part) → (off : ℕ) → (Fields ps → Reader B) → List Placed → Type 0
  Shown Q ps off made ts = (x : Fields ps) (r : List Placed) → kept_tokens ts ≡ onto (walk_parts ps x) (kept_tokens r) → FieldsFit ps x room off (kept_tokens r) → Q (made x r)

  after_thing : {B : Type 0} (Q : Read B → Type 0) → ((r : List Placed) → Q (Stop r)) → (j : Thing) (ps : List Part) (off : ℕ) (made : Fields (Item j ∷ ps) → Reader B) (ts : List Placed) (y : Read (Tree j)) → ToldThing room off j (kept_tokens ts) y → Shown Q (Item j ∷ ps) off made ts
      → ((a : Tree j) (r : List Placed) → Shown Q ps (off + words_of j a) (λ x. made (a, x)) r → Q (read_parts level ps (off + words_of j a) (λ x. made (a, x)) r)) → Q (y >>= λ a. read_parts level ps (off + words_of j a) (λ x. made (a, x)))
  after_thing Q stop j ps off made ts (Got a r) s h ih =
      ih a r (λ x r2 e f. h (a, x) r2 (s.0 ∙ sym (onto_is (walk_of j a) (kept_tokens r)) ∙ ap (onto (walk_of j a)) e) (s.1, subst (Shut j a) (sym (first-kept r) ∙ ap first e) s.2, f))
  after_thing Q stop j ps off made ts (Stop r) s h ih = stop r

  pub sound_parts : {B : Type 0} (Q : Read B → Type 0) → ((r : List Placed) → Q (Stop r)) → (ps : List Part) (off : ℕ) (made : Fields ps → Reader B) (ts : List Placed) → Shown Q ps off made ts → Q (read_parts level ps off made ts)
  sound_parts Q stop [] off made ts h = h tt ts refl tt
  sound_parts Q stop (Sign m ∷ ps) off made ts h = expect_mark Q stop m (read_parts level ps off made) ts (λ r e. sound_parts Q stop ps off made r (λ x r2 e2 f. h x r2 (e ∙ ap (λ l. mark m.it ∷ l) e2) f))
  sound_parts Q stop (Item j ∷ ps) off made ts h = after_thing Q stop j ps off made ts (read level j off ts) (each j off ts) h (λ a r s. sound_parts Q stop ps (off + words_of j a) (λ x. made (a, x)) r s)

-- a token that can come after any statement
abbrev pub Elseless : Token → Type 0
Elseless t = is_else t ≡ false

-- 4. A reader reads on, where after each thing comes a token that ends it.
abbrev pub After : Thing → Token → Type 0
After Inner t = Elseless t
After Body t = Closer t
After _ t = E.Closer t

pub record FineThing (level : statements.Level) (j : Thing) : Type 0 where
  pub fine : (off : ℕ) (ts : List Placed) → Fine (After j) (read level j off) ts
  -- the shortest one
  pub with_ : List Placed
  pub least : Tree j
  pub done : (off : ℕ) (u : List Placed) → After j (first u) → read level j off (with_ ++ u) ≡ Got least u

module _ (C : Closing) where
  -- these parts begin with a token of this class
  abbrev pub Begins : (Token → Type 0) → List Part → Type 0
  Begins Safe [] = (t : Token) → C.Is t → Safe t
  Begins Safe (Sign m ∷ ps) = Safe (m.it)
  Begins Safe (Item j ∷ ps) = (t : Token) → Safe t

  begins_any : (ps : List Part) → Begins Any ps
  begins_any [] = λ t h. tt
  begins_any (Sign m ∷ ps) = tt
  begins_any (Item j ∷ ps) = λ t. tt

  -- after each thing comes a token that ends it
  abbrev pub Follow : List Part → Type 0
  Follow [] = Unit {0}
  Follow (Sign m ∷ ps) = Follow ps
  Follow (Item j ∷ ps) = Begins (After j) ps × Follow ps

  module _ (level : statements.Level) (each : (j : Thing) → FineThing level j) where
    wider : {A : Type 0} {p : Reader A} (Safe : Token → Type 0) → ((t : Token) → C.Is t → Safe t) → Start C C.Is p → Start C Safe p
    wider Safe w s = record { with_ = s.with_; value = s.value; done = s.done; front = λ u h. w _ (s.front u h) }

    pub start_parts : {B : Type 0} (Safe : Token → Type 0) (ps : List Part) (off : ℕ) (made : Fields ps → Reader B) → Follow ps → Begins Safe ps → ((x : Fields ps) → Start C C.Is (made x)) → Start C Safe (read_parts level ps off made)
    start_parts Safe [] off made f b s = wider Safe b (s tt)
    start_parts Safe (Sign m ∷ ps) off made f b s = expect_start C Safe m.is (m.it) m.found b (read_parts level ps off made) (start_parts Any ps off made f (begins_any ps) s)
    start_parts Safe (Item j ∷ ps) off made f b s =
        let a = (each j).least in
        let r = start_parts (After j) ps (off + words_of j a) (λ x. made (a, x)) f.1 f.0 (λ x. s (a, x)) in
        record {
          with_ = (each j).with_ ++ r.with_;
          value = r.value;
          done = λ u h. ap (λ l. read_parts level (Item j ∷ ps) off made l) (append_assoc (each j).with_ r.with_ u) ∙ ap (λ y. y >>= λ a. read_parts level ps (off + words_of j a) (λ x. made (a, x))) ((each j).done off (r.with_ ++ u) (r.front u h)) ∙ r.done u h;
          front = λ u h. b _;
        }

    mutual
      -- what ends the row ends the thing before it, unless a mark comes first
      weak : {B : Type 0} (Safe : Token → Type 0) (qs : List Part) → Begins Safe qs → Follow qs → (off : ℕ) (made : Fields qs → Reader B) → ((x : Fields qs) → Start C C.Is (made x)) → ((x : Fields qs) (r : List Placed) → Fine C.Is (made x) r) → (r : List Placed) (b : B) → read_parts level qs off made r ≡ Got b r → (t : Token) → C.Is t → Safe t
      weak Safe [] begins f off made s h r b e = begins
      weak Safe (Sign m ∷ qs) begins f off made s h r b e = absurd (omega (arith, expect_takes C m.is m.unended (read_parts level qs off made) (fine_parts qs off made f s h) r r b e))
      weak Safe (Item k ∷ qs) begins f off made s h r b e = λ t i. begins t

      pub fine_parts : {B : Type 0} (ps : List Part) (off : ℕ) (made : Fields ps → Reader B) → Follow ps → ((x : Fields ps) → Start C C.Is (made x)) → ((x : Fields ps) (r : List Placed) → Fine C.Is (made x) r) → (ts : List Placed) → Fine C.Is (read_parts level ps off made) ts
      fine_parts [] off made f s h ts = h tt ts
      fine_parts (Sign m ∷ ps) off made f s h ts = expect_then C m.is (m.it) m.found m.unended (read_parts level ps off made) (start_parts Any ps off made f (begins_any ps) s) (fine_parts ps off made f s h) ts
      fine_parts (Item j ∷ ps) off made f s h ts =
          bind_taking C (After j) (read level j off) (λ a. read_parts level ps (off + words_of j a) (λ x. made (a, x))) (λ a r b e. weak (After j) ps f.0 f.1 (off + words_of j a) (λ x. made (a, x)) (λ x. s (a, x)) (λ x. h (a, x)) r b e)
          (λ a. start_parts (After j) ps (off + words_of j a) (λ x. made (a, x)) f.1 f.0 (λ x. s (a, x))) ts ((each j).fine off ts)
          (λ a u r e g. fine_parts ps (off + words_of j a) (λ x. made (a, x)) f.1 (λ x. s (a, x)) (λ x. h (a, x)) r)
