-- Bytes taken up to a newline.
use Rattle.std.proofs.Common.{subst, ◌≡◌, ◌≢◌, ℕ, eqb, take, drop, if◌then◌else◌, Bool, ◌+◌, ◌<◌, ◌≤◌, true, false, List, [], ◌∷◌, ◌++◌, length, Option, Some, None, Result, Ok, Err, IsErrAnd, refl, sym, ap, ◌∙◌, ◌-◌, arith, append_assoc, append-nil, length-append, length-take, ◌⊎◌, inl, inr}
use Rattle.std.specs.Prelude.{is_some, not}
use Rattle.std.proofs.lemmas.List.Concat.{flat_map-append}
use Rattle.std.proofs.lemmas.Bool.{false≢true, eqb-true}
use Rattle.std.proofs.lemmas.List.Elements.{All-nil, All-cons, All-head, All-tail, All-append}
use Rattle.std.specs.Io.{StartsWith}
use Rattle.std.proofs.lemmas.List.{take-take}
use Rattle.std.proofs.Math.Seq.{take-append_seam}
use Rattle.bword.specs.ByteEnds.{Incoming, Took, Fails, Grew, NextGives, CanFollow, TakesReady}
use Rattle.std.proofs.KnownBytes.{Consumes-nil, Consumes-kept}
use Rattle.bword.proofs.Taking.{Took-append, Took-next}
use Rattle.bcode.specs.Ahead.{Ahead, ReadsLine, RefusesLine, LineGives, SeesEnd}
use Rattle.bcode.specs.LineReading.{LineReader, IsExact}
use Rattle.bcode.specs.Streams.{HasNoNewline, IsLine, IsWholeLine, AreLines, IsLinePart, EndsInLine, TakesLine, FailsAfter, FailsInLine}
use Rattle.blang.specs.declared.limits.TheConstants.{LINE_LEN}
use Rattle.bcode.specs.declared.code_stop.CodeStop.{CodeStop}
use Rattle.bcode.specs.declared.code_stop.CodeStop.TheVariants as stop
use Rattle.bcode.proofs.PartLaws.{only_if, same_read}
use Rattle.bcode.proofs.ShapeLaws.{edition_line-shape}
use Rattle.std.specs.Cmp.Lexicographic.{pointwise}
use Rattle.std.proofs.lemmas.Bool.Decides.{Decides-eqb}
use Rattle.std.proofs.lemmas.Slice.Eq.{starts_is}
use Rattle.blang.specs.Text.{edition_line, joined}

abbrev Other : ℕ → Type 0
Other b = b ≢ 10

-- bytes without a newline were taken
pub record InLine (old : Incoming) (bytes : List ℕ) (new : Incoming) : Type 0 where
  pub took : Took old bytes new
  pub failures : new.failures ≡ old.failures
  pub clean : HasNoNewline bytes

-- a failed read
Took-failed : {old new : Incoming} → Fails old new → Took old [] new
Took-failed {old} {new} f = record {
  bytes = Consumes-kept old.left old.left new.left [] (Consumes-nil old.left) f.bytes;
  bound = let b = f.bound in omega arith;
  over = λ o. (refl, f.over ∙ o);
  all = λ o p. absurd (false≢true (sym o ∙ sym f.over ∙ p));
}

pub FailsAfter-took : {old new : Incoming} {taken : List ℕ} → FailsAfter old taken new → Took old taken new
FailsAfter-took {old} {new} {taken} h = subst (λ (l : List ℕ). Took old l new) (append-nil taken) (Took-append h.took (Took-failed h.failed))

pub FailsAfter-counted : {old new : Incoming} {taken : List ℕ} → FailsAfter old taken new → Grew old.failures new.failures
FailsAfter-counted {old} {new} {taken} h = subst (λ (n : ℕ). Grew n new.failures) h.read h.failed.counted

pub FailsAfter-append : {a b c : Incoming} {xs ys : List ℕ} → Took a xs b → b.failures ≡ a.failures → FailsAfter b ys c → FailsAfter a (xs ++ ys) c
FailsAfter-append took read h = record { mid = h.mid; took = Took-append took h.took; read = h.read ∙ read; failed = h.failed }

-- the first newline of a text is one
pub first_newline : (i j rest following : List ℕ) → HasNoNewline i → HasNoNewline j → i ++ 10 ∷ rest ≡ j ++ 10 ∷ following → (i ≡ j) × (rest ≡ following)
first_newline [] [] rest following p q same = (refl, cc)
first_newline [] (y ∷ j) rest following p q same = absurd (All-head Other y j q (let h : 10 ≡ y = cc in sym h))
first_newline (x ∷ i) [] rest following p q same = absurd (All-head Other x i p (cc))
first_newline (x ∷ i) (y ∷ j) rest following p q same =
    let others = first_newline i j rest following (All-tail Other x i p) (All-tail Other y j q) (cc) in
    let head : x ≡ y = cc in
    (ap (λ z. z ∷ i) head ∙ ap (λ l. y ∷ l) others.0, others.1)

newline_after : (bytes j more rest : List ℕ) → HasNoNewline bytes → length j < length bytes → bytes ++ more ≡ j ++ 10 ∷ rest → ⊥
newline_after [] j more rest p less same = omega arith
newline_after (x ∷ bytes) [] more rest p less same = All-head Other x bytes p (cc)
newline_after (x ∷ bytes) (y ∷ j) more rest p less same =
    newline_after bytes j more rest (All-tail Other x bytes p) (omega arith) (cc)

pub no_newline : (bytes j rest : List ℕ) → HasNoNewline bytes → bytes ≡ j ++ 10 ∷ rest → ⊥
no_newline bytes j rest p same =
    newline_after bytes j [] rest p (omega (arith, ap length same, length-append j (10 ∷ rest))) (append-nil bytes ∙ same)

-- whole lines

pub AreLines-none : AreLines 0 []
AreLines-none = record { lines = []; each = All-nil IsWholeLine; counted = refl; split = refl }

pub AreLines-one : (text : List ℕ) → IsWholeLine text → AreLines 1 text
AreLines-one text whole = record { lines = text ∷ []; each = All-cons IsWholeLine text [] whole (All-nil IsWholeLine); counted = refl; split = sym (append-nil text) }

pub AreLines-append : {n m : ℕ} {xs ys : List ℕ} → AreLines n xs → AreLines m ys → AreLines (n + m) (xs ++ ys)
AreLines-append {n} {m} {xs} {ys} h k = record {
  lines = h.lines ++ k.lines;
  each = All-append IsWholeLine h.lines k.lines h.each k.each;
  counted = omega (arith, length-append h.lines k.lines, h.counted, k.counted);
  split = ap (λ t. t ++ ys) h.split ∙ ap (λ t. joined h.lines ++ t) k.split ∙ sym (flat_map-append (λ l. l) h.lines k.lines);
}

pub shape_whole : {most : ℕ} {l : List ℕ} → IsLine most l → IsWholeLine l
shape_whole s = record { before = s.before; clean = s.clean; ends = s.ends }

pub ends_first : (bytes : List ℕ) → IsLinePart bytes → EndsInLine 1 bytes
ends_first bytes part = record { count = 0; number = refl; before = []; lines = AreLines-none; last = bytes; part = part; split = refl }

pub EndsInLine-after : {n m k : ℕ} {xs ys : List ℕ} → AreLines n xs → EndsInLine m ys → k ≡ n + m → EndsInLine k (xs ++ ys)
EndsInLine-after {n} {m} {k} {xs} {ys} h e all = record {
  count = n + e.count;
  number = (let x = e.number in omega arith);
  before = xs ++ e.before;
  lines = AreLines-append h e.lines;
  last = e.last;
  part = e.part;
  split = ap (λ t. xs ++ t) e.split ∙ sym (append_assoc xs e.before e.last);
}

part_of : (bytes : List ℕ) (new : Incoming) → IsWholeLine bytes ⊎ (HasNoNewline bytes × ((new.is_over ≡ true) ⊎ (length bytes ≡ LINE_LEN))) → length bytes ≤ LINE_LEN
    → IsLinePart bytes
part_of bytes new (inl whole) few = record { newline = inl whole; few = few }
part_of bytes new (inr h) few = record { newline = inr h.0; few = few }

byte_part : (b : ℕ) (is : Bool) → eqb b 10 ≡ is → IsLinePart (b ∷ [])
byte_part b true e = record { newline = inl (record { before = []; clean = All-nil Other; ends = ap (λ x. x ∷ []) (eqb-true b 10 e) }); few = omega arith }
byte_part b false e = record {
  newline = inr (All-cons Other b [] (λ same. false≢true (sym e ∙ ap (λ x. eqb x 10) same)) (All-nil Other));
  few = omega arith;
}

abbrev at : Incoming → List ℕ → ℕ → Ahead
at end lender line = record { end = end; lender = lender; line = line }

module _ {X : Type 0} {spell : X → List ℕ} {within : X → Type 0} {read : LineReader X} (exact : IsExact spell within read) (shape : (x : X) → within x → IsLine 128 (spell x)) where
  module _ {old new : Incoming} {lender lender' : List ℕ} {bytes : List ℕ} (line : ℕ) (t : TakesLine old bytes new) (same_end : lender' ≡ lender) where
    spelled : (x : X) (rest : List ℕ) → within x → bytes ≡ spell x ++ rest → bytes ≡ spell x
    spelled x rest inside same = split t.whole
      where
        s : IsLine 128 (spell x)
        s = shape x inside

        text : bytes ≡ s.before ++ 10 ∷ rest
        text = same ∙ ap (λ l. l ++ rest) s.ends ∙ append_assoc s.before (10 ∷ []) rest

        split : IsWholeLine bytes ⊎ (HasNoNewline bytes × ((new.is_over ≡ true) ⊎ (length bytes ≡ LINE_LEN))) → bytes ≡ spell x
        split (inl w) =
            let one = first_newline w.before s.before [] rest w.clean s.clean (sym w.ends ∙ text) in
            w.ends ∙ ap (λ l. l ++ 10 ∷ []) one.0 ∙ sym s.ends
        split (inr p) = absurd (no_newline bytes s.before rest p.0 text)

    pub stream_spelled : (x : X) (rest : List ℕ) → read bytes ≡ Some (x, rest) → bytes ≡ spell x
    stream_spelled x rest e = let h = exact.sound bytes x rest e in spelled x rest h.0 h.1

    pub stream_reads : (x : X) (rest : List ℕ) → read bytes ≡ Some (x, rest) → ReadsLine spell within (at old lender line) x (at new lender' (line + 1))
    stream_reads x rest e =
        let h = exact.sound bytes x rest e in
        record {
          inside = h.0;
          passes = record {
            reads = record { took = subst (λ (l : List ℕ). Took old l new) (spelled x rest h.0 h.1) t.took; failures = t.failures; lender = same_end };
            lines = AreLines-one (spell x) (shape_whole (shape x h.0));
            counted = refl;
          };
        }

    -- two bytes at least were taken
    pub stream_falls : (x : X) (rest : List ℕ) → read bytes ≡ Some (x, rest) → new.bound + 2 ≤ old.bound
    stream_falls x rest e =
        let h = exact.sound bytes x rest e in
        let s = shape x h.0 in
        let some = s.some in
        let falls = t.took.bound in
        omega (arith, ap length (spelled x rest h.0 h.1 ∙ s.ends), length-append s.before (10 ∷ []))

    pub stream_refuses : length bytes ≤ LINE_LEN → read bytes ≡ None → RefusesLine spell within (at old lender line) line (at new lender' line)
    stream_refuses few e = record {
      here = refl;
      taken = bytes;
      part = part_of bytes new t.whole few;
      reads = record { took = t.took; failures = t.failures; lender = same_end };
      none = none;
    }
      where
        none : (more : List ℕ) → CanFollow new more → (x : X) (rest : List ℕ) → within x → bytes ++ more ≡ spell x ++ rest → ⊥
        none more can x rest inside same = split t.whole
          where
            s : IsLine 128 (spell x)
            s = shape x inside

            text : bytes ++ more ≡ s.before ++ 10 ∷ rest
            text = same ∙ ap (λ l. l ++ rest) s.ends ∙ append_assoc s.before (10 ∷ []) rest

            split : IsWholeLine bytes ⊎ (HasNoNewline bytes × ((new.is_over ≡ true) ⊎ (length bytes ≡ LINE_LEN))) → ⊥
            split (inl w) =
                let one = first_newline w.before s.before more rest w.clean s.clean
                (sym (append_assoc w.before (10 ∷ []) more) ∙ ap (λ l. l ++ more) (sym w.ends) ∙ text) in
                let is : bytes ≡ spell x ++ [] = w.ends ∙ ap (λ l. l ++ 10 ∷ []) one.0 ∙ sym s.ends ∙ sym (append-nil (spell x)) in
                let some : read bytes ≡ Some (x, []) = ap read is ∙ exact.again x [] inside in
                cc
            split (inr (clean, inl over)) =
                no_newline bytes s.before rest clean (sym (append-nil bytes) ∙ ap (λ l. bytes ++ l) (sym (can over)) ∙ text)
            split (inr (clean, inr full)) =
                newline_after bytes s.before more rest clean (let few = s.few in omega (arith, full)) text

  -- a line that is whole among the bytes ahead
  module _ (ready text : List ℕ) (shown : StartsWith ready text) (x : X) (rest : List ℕ) (found : read text ≡ Some (x, rest)) where
    before_rest : length text - length rest ≡ length (spell x)
    before_rest = omega (arith, ap length (exact.sound text x rest found).1, length-append (spell x) rest)

    pub ahead_shorter : length rest ≤ length text
    ahead_shorter = omega (arith, ap length (exact.sound text x rest found).1, length-append (spell x) rest)

    pub ahead_fits : length text - length rest ≤ length ready
    ahead_fits = omega (arith, ap length shown, length-take (length text) ready)

    ahead_spelled : take (length text - length rest) ready ≡ spell x
    ahead_spelled =
        let h = exact.sound text x rest found in
        let whole : take (length text) ready ≡ spell x ++ rest = shown ∙ h.1 in
        let short : length (spell x) ≤ length text = omega (arith, before_rest) in
        ap (λ n. take n ready) before_rest ∙ sym (take-take (length (spell x)) (length text) ready short)
        ∙ ap (take (length (spell x))) whole ∙ take-append_seam (spell x) rest

    module _ {old new : Incoming} (t : TakesReady old (take (length text - length rest) ready) new) where
      taken : Took old (spell x) new
      taken = subst (λ (l : List ℕ). Took old l new) ahead_spelled t.took

      pub ahead_reads : {lender lender' : List ℕ} (line : ℕ) → lender' ≡ lender → ReadsLine spell within (at old lender line) x (at new lender' (line + 1))
      ahead_reads line same =
          let inside = (exact.sound text x rest found).0 in
          record {
            inside = inside;
            passes = record {
              reads = record { took = taken; failures = t.failures; lender = same };
              lines = AreLines-one (spell x) (shape_whole (shape x inside));
              counted = refl;
            };
          }

      -- two bytes at least were taken
      pub ahead_falls : new.bound + 2 ≤ old.bound
      ahead_falls =
          let s = shape x (exact.sound text x rest found).0 in
          let some = s.some in
          let falls = taken.bound in
          omega (arith, ap length s.ends, length-append s.before (10 ∷ []))

-- the exit of a `?` after a line that was not read to its end
pub stream_breaks : {X : Type 0} {spell : X → List ℕ} {within : X → Type 0} → ((x : X) → within x → IsLine 128 (spell x)) → {old new : Incoming} {lender lender' : List ℕ} (line : ℕ)
    → FailsInLine old new → lender' ≡ lender → (r : Result X CodeStop) → IsErrAnd r (λ s. s ≡ stop.Device) → LineGives spell within (at old lender line) r (at new lender' line)
stream_breaks shape line f same (Ok x) is = absurd is
stream_breaks {X} {spell} {within} shape {old} {new} {lender} {lender'} line f same (Err e) is =
    subst (λ (s : CodeStop). LineGives spell within (at old lender line) (Err s) (at new lender' line)) (sym is) record {
      breaks = record { taken = f.taken; fails = f.fails; lender = same };
      none = none;
    }
  where
    none : (x : X) (rest : List ℕ) → within x → f.taken ≡ spell x ++ rest → ⊥
    none x rest inside whole =
        let s = shape x inside in
        no_newline f.taken s.before rest f.clean (whole ∙ ap (λ l. l ++ rest) s.ends ∙ append_assoc s.before (10 ∷ []) rest)

pub sees_end : {old new : Incoming} {lender lender' : List ℕ} (o : Option ℕ) (b : Bool) (line : ℕ) → is_some o ≡ not b → NextGives old (Ok o) new → lender' ≡ lender
    → SeesEnd (at old lender line) b (at new lender' line)
sees_end None false line e next same = absurd (cc)
sees_end {old} {new} None true line e next same = record {
  taken = [];
  part = record { newline = inr (All-nil Other); few = omega arith };
  reads = record { took = Took-next old new None next; failures = next.failures; lender = same };
  same = refl;
  nothing = λ _. (refl, next.over);
  some = λ e. absurd (cc);
}
sees_end (Some b) true line e next same = absurd (cc)
sees_end {old} {new} (Some b) false line e next same = record {
  taken = b ∷ [];
  part = byte_part b (eqb b 10) refl;
  reads = record { took = Took-next old new (Some b) next; failures = next.failures; lender = same };
  same = refl;
  nothing = λ e. absurd (cc);
  some = λ _ e. cc;
}

-- whether the text begins as one of the second edition
abbrev pub is_two : List ℕ → Bool
is_two text = pointwise eqb edition_line (take 4 text)

pub two_line : (text : List ℕ) → is_two text ≡ true → text ≡ edition_line ++ drop 4 text
two_line text two = (starts_is Decides-eqb text edition_line (is_two text) refl).0 two

pub line_two : (text rest : List ℕ) → text ≡ edition_line ++ rest → is_two text ≡ true
line_two text rest e = (starts_is Decides-eqb text edition_line (is_two text) refl).1 rest e

abbrev pub opening_at : LineReader (Unit {0})
opening_at bytes = if is_two bytes then Some (tt, drop 4 bytes) else None

pub opening-exact : IsExact (λ _. edition_line) (λ _. Unit {0}) opening_at
opening-exact = record {
  sound = λ bytes x rest e.
      let two = only_if (is_two bytes) (Some (tt, drop 4 bytes)) (x, rest) e in
      let read = same_read (tt, drop 4 bytes) (x, rest) two.1 in
      (tt, two_line bytes two.0 ∙ ap (λ t. edition_line ++ t) read.1);
  again = λ x rest inside. refl;
  filled = λ x. omega arith;
}

pub opening-shape : (x : Unit {0}) → Unit {0} → IsLine 128 edition_line
opening-shape x inside = edition_line-shape

pub opening-some : (bytes : List ℕ) (b : Bool) → b ≡ is_two bytes → b ≡ true → opening_at bytes ≡ Some (tt, drop 4 bytes)
opening-some bytes b e two = rw (sym e ∙ two) refl

pub opening-none : (bytes : List ℕ) (b : Bool) → b ≡ is_two bytes → b ≡ false → opening_at bytes ≡ None
opening-none bytes b e none = rw (sym e ∙ none) refl
