-- The breaks of a tree, and what filling them makes of its code.
use Rattle.std.proofs.Common.{◌≡◌, ℕ, ◌+◌, List, [], ◌∷◌, ◌++◌, length, refl, sym, ap, ◌∙◌, arith, append_assoc, append-nil, length-append, slice_set}
use Rattle.std.proofs.Math.Seq.{set-append_seam}
use Rattle.blang.specs.declared.code.Instr.{Instr}
use Rattle.blang.specs.declared.code.Instr.TheVariants as instr
use Rattle.blang.specs.Trees.{Stmt, Stmts}
use Rattle.blang.specs.Code.{Environment, Code, Segment, empty_segment, of_code, ◌▹◌, keeping_arms, heading_code, fragment, body_fragment}
use Rattle.bgrammar.proofs.RowLaws.{arms_segment, KeptBySegments, by_segments, body_by_segments}
use Rattle.bgrammar.proofs.CodeLaws.{Ends, Anything, ends, ends_then}
use Rattle.bemit.specs.Drafts.{led}

-- Where the jumps at these places lead there, the first code, which stands at p, is the second.
pub record Fills (out p : ℕ) (places : List ℕ) (c c2 : List Instr) : Type 0 where
  pub within : (before after : List Instr) → length before ≡ p → led out places (before ++ (c ++ after)) ≡ before ++ (c2 ++ after)

led-append : (out : ℕ) (xs ys : List ℕ) (c : List Instr) → led out (xs ++ ys) c ≡ led out ys (led out xs c)
led-append out [] ys c = refl
led-append out (x ∷ xs) ys c = led-append out xs ys (slice_set c x (instr.Jump out))

pub fills_none : (out p : ℕ) (c : List Instr) → Fills out p [] c c
fills_none out p c = record { within = λ before after h. refl }

pub fills_one : (out p : ℕ) → Fills out p (p ∷ []) (instr.Jump 0 ∷ []) (instr.Jump out ∷ [])
fills_one out p = record {
  within = λ before after h.
      ap (λ n. slice_set (before ++ (instr.Jump 0 ∷ after)) n (instr.Jump out)) (sym h) ∙ set-append_seam before (instr.Jump 0) after (instr.Jump out);
}

-- after other code
pub fills_after : {out p q : ℕ} {places : List ℕ} {c c2 : List Instr} (x : List Instr) → p + length x ≡ q → Fills out q places c c2 → Fills out p places (x ++ c) (x ++ c2)
fills_after {out = out} {q = q} {places = places} {c = c} {c2 = c2} x h f = record {
  within = λ before after l.
      ap (led out places) (regrouped before c after)
      ∙ f.within (before ++ x) after (let e : length (before ++ x) ≡ q = omega (arith, length-append before x, l, h) in e)
      ∙ sym (regrouped before c2 after);
}
  where
    regrouped : (before c after : List Instr) → before ++ ((x ++ c) ++ after) ≡ (before ++ x) ++ (c ++ after)
    regrouped before c after = ap (λ l. before ++ l) (append_assoc x c after) ∙ sym (append_assoc before x (c ++ after))

-- before other code
pub fills_before : {out p : ℕ} {places : List ℕ} {c c2 : List Instr} (x : List Instr) → Fills out p places c c2 → Fills out p places (c ++ x) (c2 ++ x)
fills_before {out = out} {places = places} {c = c} {c2 = c2} x f = record {
  within = λ before after l.
      ap (λ l. led out places (before ++ l)) (append_assoc c x after) ∙ f.within before (x ++ after) l ∙ ap (λ l. before ++ l) (sym (append_assoc c2 x after));
}

pub fills_both : {out p q : ℕ} {xs ys : List ℕ} {c c2 d d2 : List Instr} → p + length c2 ≡ q → Fills out p xs c c2 → Fills out q ys d d2 → Fills out p (xs ++ ys) (c ++ d) (c2 ++ d2)
fills_both {out = out} {xs = xs} {ys = ys} {c = c} {c2 = c2} {d = d} h f g = record {
  within = λ before after l.
      led-append out xs ys (before ++ ((c ++ d) ++ after)) ∙ ap (led out ys) ((fills_before d f).within before after l) ∙ (fills_after c2 h g).within before after l;
}

pub fills_whole : {out p : ℕ} {places : List ℕ} {c c2 : List Instr} (before : List Instr) → Fills out p places c c2 → length before ≡ p → led out places (before ++ c) ≡ before ++ c2
fills_whole {out = out} {places = places} {c = c} {c2 = c2} before f l =
    ap (λ x. led out places (before ++ x)) (sym (append-nil c)) ∙ f.within before [] l ∙ ap (λ x. before ++ x) (append-nil c2)

-- where its open breaks are; filled with out, they lead out
pub record Closing (f : Segment) : Type 0 where
  pub known : Ends f
  pub breaks : ℕ → List ℕ
  pub fills : (p out : ℕ) → Fills out p (breaks p) ((f p).code 0) ((f p).code out)

abbrev unbroken : {c : Code} → Ends (of_code c) → Closing (of_code c)
unbroken {c = c} h = record { known = h; breaks = λ p. []; fills = λ p out. fills_none out p (c p) }

abbrev closing_then : {f g : Segment} → Closing f → Closing g → Closing (f ▹ g)
closing_then {f = f} x y = record {
  known = ends_then x.known y.known;
  breaks = λ p. x.breaks p ++ y.breaks ((f p).end);
  fills = λ p out. fills_both (x.known.at p out) (x.fills p out) (y.fills ((f p).end) out);
}

abbrev keeping : {f : Segment} → Closing f → Closing (keeping_arms f)
keeping x = record { known = record { at = x.known.at }; breaks = x.breaks; fills = x.fills }

-- a segment that is another one at each place
abbrev everywhere : {f : ℕ → Segment} → ((p : ℕ) → Closing (f p)) → Closing (λ p. f p p)
everywhere x = record {
  known = record { at = λ p. (x p).known.at p };
  breaks = λ p. (x p).breaks p;
  fills = λ p. (x p).fills p;
}

abbrev closes : (names : Environment) → KeptBySegments names names Anything Anything (λ w f g. Closing f)
closes names =
    let k = ends names in
    record {
      known = λ s. tt;
      none = record { known = k.none; breaks = λ p. []; fills = λ p out. fills_none out p [] };
      lone = λ i. unbroken (k.lone i);
      returns = unbroken k.returns;
      jumps = λ there m. unbroken (k.jumps there m);
      jumps_if_zero = λ there m. unbroken (k.jumps_if_zero there m);
      leaves = record { known = k.leaves; breaks = λ p. p ∷ []; fills = λ p out. fills_one out p };
      value = λ e. unbroken (k.value e);
      heads = λ h. record { known = k.heads h; breaks = λ p. []; fills = λ p out. fills_none out p (heading_code names h) };
      quiet = λ q x. x;
      after = λ q x. x;
      before = λ q x. x;
      inside = λ q x. x;
      then_ = λ x y. closing_then x y;
      coded = λ x y. closing_then x y;
      ended = λ x y. let z = closing_then x y in record { known = record { at = z.known.at }; breaks = z.breaks; fills = z.fills };
      leads = λ {w} {f} there m x. record { known = record { at = λ p out. x.known.at p there }; breaks = λ p. []; fills = λ p out. fills_none out p ((f p).code there) };
      whole = λ {w} {f} x l same. everywhere (λ p. x p ((f 0 0 p).end) tt tt);
      halved = λ {w} {u} {f} {f2} {g} x y l n same. everywhere (λ p. let middle = (f 0 0 empty_segment p).end in x middle ((g middle).end) tt tt u g g y);
      chosen = λ {w} {f} x l same. everywhere (λ p. let a = f 0 0 empty_segment p in keeping (x a.end ((arms_segment a a.end).end) tt tt (arms_segment a) (arms_segment a) (unbroken (record { at = λ q out. refl }))));
    }

abbrev pub statement_breaks : Environment → Stmt → ℕ → List ℕ
statement_breaks names s = (by_segments (closes names) s).breaks

abbrev pub body_breaks : Environment → Stmts → ℕ → List ℕ
body_breaks names ss = (body_by_segments (closes names) ss).breaks

pub statement_closes : (names : Environment) (s : Stmt) (p out : ℕ) → Fills out p (statement_breaks names s p) ((fragment names s p).code 0) ((fragment names s p).code out)
statement_closes names s = (by_segments (closes names) s).fills

pub body_closes : (names : Environment) (ss : Stmts) (p out : ℕ) → Fills out p (body_breaks names ss p) ((body_fragment names ss p).code 0) ((body_fragment names ss p).code out)
body_closes names ss = (body_by_segments (closes names) ss).fills
