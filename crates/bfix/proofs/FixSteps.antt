-- What an edit makes of the first file of a source, and changes one after another.
use Rattle.std.proofs.Common.{◌≡◌, ◌∙◌, ℕ, suc, Bor, ◌+◌, ◌<◌, ◌≤◌, ◌==◌, Bool, true, false, IsTrue, List, [], ◌∷◌}
use Rattle.std.proofs.Common.{◌++◌, ap, append_assoc, append-nil, arith, drop, get_or, length, map, refl, subst, sym}
use Rattle.std.proofs.Common.{take}
use Rattle.std.specs.Prelude.{if◌then◌else◌}
use Rattle.std.proofs.Math.Seq.{drop-append-add, drop-append_seam, take-append_seam}
use Rattle.std.proofs.lemmas.Bool.Decides.{nat_tests}
use Rattle.std.proofs.lemmas.List.{drop-append-le, drop_all, drop_more, get_or-map, length-append, length-map}
use Rattle.std.proofs.lemmas.List.{take-append-le}
use Rattle.std.proofs.lemmas.List.Concat.{flat_map-append}
use Rattle.std.specs.Str.{bytes_eq}
use Rattle.bword.specs.declared.edition.Edition.{Edition}
use Rattle.bsources.specs.Files.{Files, files_shown}
use Rattle.bcheck.specs.Checks.{EditParts, mended}
use Rattle.bcheck.specs.Checks.{change_line}
use Rattle.bcheck.specs.Findings.{IsChange}
use Rattle.bcheck.specs.Right.{IsRight}
use Rattle.bcheck.specs.Spares.{IsSpared, spares, spares_at}
use Rattle.bcheck.specs.declared.change.Change.{Change}
use Rattle.blang.specs.Code.{code_of}
use Rattle.bcheck.specs.Checks.{outcome_of}
use Rattle.bfix.specs.Fixes as fixes
use Rattle.bfix.specs.Fixes.{Changes, Fixes, IsFixed, IsMade, Lead, all_lines, all_told}
use Rattle.bfix.specs.OwnText.{Replacing, TellsAfter, TellsBoth, ends_lines, lines_after, own_in, own_length, rest_in}
use Rattle.bfix.specs.declared.fixing.FixedText.{FixedText}
use Rattle.bfix.specs.Keeping.{Passes, are_among, kept_of}
use Rattle.bfix.specs.declared.fixing.Frame.{Frame}
use Rattle.bfix.specs.declared.fixing.Led.{Led}

-- an edit within a text makes the same of it and of what follows it
module _ (old rest words : List ℕ) (start len : ℕ) (e : EditParts (old ++ rest)) (starts : start ≡ length (e.before ++ e.left)) (long : len ≡ length e.old) (is : words ≡ e.text) (within : start + len ≤ length old) where
  abbrev here : List ℕ
  here = e.before ++ e.left

  abbrev after : List ℕ
  after = e.right ++ e.after

  begins : take start old ≡ here
  begins =
      sym (take-append-le start old rest (omega (arith, within))) ∙ ap (take start) e.split
      ∙ ap (λ n. take n (here ++ (e.old ++ after))) starts
      ∙ take-append_seam here (e.old ++ after)

  ends : drop (start + len) old ++ rest ≡ after
  ends =
      sym (drop-append-le (start + len) old rest within) ∙ ap (drop (start + len)) e.split
      ∙ ap (λ n. drop (n + len) (here ++ (e.old ++ after))) starts
      ∙ drop-append-add here (e.old ++ after) len ∙ ap (λ n. drop n (e.old ++ after)) long
      ∙ drop-append_seam e.old after

  pub makes_of : mended e ≡ (take start old ++ (words ++ drop (start + len) old)) ++ rest
  makes_of =
      ap (λ x. x ++ (e.text ++ after)) (sym begins) ∙ ap (λ x. take start old ++ (x ++ after)) (sym is)
      ∙ ap (λ x. take start old ++ (words ++ x)) (sym ends)
      ∙ ap (λ x. take start old ++ x) (sym (append_assoc words (drop (start + len) old) rest))
      ∙ sym (append_assoc (take start old) (words ++ drop (start + len) old) rest)

  begins_all : take start (old ++ rest) ≡ here
  begins_all =
      ap (take start) e.split ∙ ap (λ n. take n (here ++ (e.old ++ after))) starts
      ∙ take-append_seam here (e.old ++ after)

  goes_on : drop start (old ++ rest) ≡ e.old ++ after
  goes_on =
      ap (drop start) e.split ∙ ap (λ n. drop n (here ++ (e.old ++ after))) starts
      ∙ drop-append_seam here (e.old ++ after)

  taken_all : take len (drop start (old ++ rest)) ≡ e.old
  taken_all =
      ap (take len) goes_on ∙ ap (λ n. take n (e.old ++ after)) long ∙ take-append_seam e.old after

  ends_all : drop len (drop start (old ++ rest)) ≡ after
  ends_all =
      ap (drop len) goes_on ∙ ap (λ n. drop n (e.old ++ after)) long ∙ drop-append_seam e.old after

  -- the change needs no choice, as an edit
  pub spared_by : (edition : Edition) → spares_at edition (old ++ rest) start len words ≡ true
      → spares edition (old ++ rest) (mended e) e.old ≡ true
  spared_by edition h =
      let whole = old ++ rest in
      let taken = take len (drop start whole) in
      let left = drop len (drop start whole) in
      sym (ap (λ x. spares edition whole (x ++ (words ++ left)) taken) begins_all
      ∙ ap (λ x. spares edition whole (here ++ (x ++ left)) taken) is
      ∙ ap (λ x. spares edition whole (here ++ (e.text ++ x)) taken) ends_all
      ∙ ap (λ x. spares edition whole (mended e) x) taken_all)
      ∙ h

-- what one change makes
pub made_by : (frame : Frame) (old whole new : List ℕ) (change : Change) (words line : List ℕ) (start len : ℕ)
    → (led : Led) → whole ≡ old ++ frame.rest.now → IsChange frame.edition (files_shown frame.files) whole change
    → IsSpared frame.edition whole change → (IsRight frame.edition (files_shown frame.files) whole → ⊥)
    → start ≡ change.start → len ≡ change.len → words ≡ change.text → line ≡ change.line → start + len ≤ length old
    → led.text ≡ take start old ++ (words ++ drop (start + len) old) → led.lines ≡ line
    → new ≡ led.text ++ frame.rest.now
    → length led.text ≤ frame.most → IsTrue (are_among (kept_of frame.edition whole) (kept_of frame.edition new))
    → IsMade frame old led
made_by frame old whole new change words line start len led is h spared wrong es el ew en within text lines joined small keeps =
    let c : IsChange frame.edition (files_shown frame.files) (old ++ frame.rest.now) change =
    subst (λ w. IsChange frame.edition (files_shown frame.files) w change) is h in
    let one : spares_at frame.edition (old ++ frame.rest.now) start len words ≡ true =
    ap (λ n. spares_at frame.edition (old ++ frame.rest.now) n len words) es
    ∙ ap (λ n. spares_at frame.edition (old ++ frame.rest.now) change.start n words) el
    ∙ ap (λ w. spares_at frame.edition (old ++ frame.rest.now) change.start change.len w) ew
    ∙ subst (λ w. IsSpared frame.edition w change) is spared in
    let makes : mended c.edit ≡ led.text ++ frame.rest.now =
    makes_of old frame.rest.now words start len c.edit (es ∙ c.start) (el ∙ c.len) (ew ∙ c.text) within
    ∙ ap (λ t. t ++ frame.rest.now) (sym text) in
    record {
      changes = record {
        edit = c.edit;
        makes = makes;
        mends = c.mends;
        keeps =
            subst
            (λ n. IsTrue (are_among (kept_of frame.edition (old ++ frame.rest.now)) (kept_of frame.edition n))) joined
            (subst (λ w. IsTrue (are_among (kept_of frame.edition w) (kept_of frame.edition new))) is keeps);
        spared =
            subst (λ n. spares frame.edition (old ++ frame.rest.now) n c.edit.old ≡ true) makes
            (spared_by old frame.rest.now words start len c.edit (es ∙ c.start) (el ∙ c.len) (ew ∙ c.text) within
            frame.edition one);
        wrong = subst (λ w. IsRight frame.edition (files_shown frame.files) w → ⊥) is wrong;
      };
      line = lines ∙ en ∙ c.line;
      small = small;
    }

-- one change more
module _ (edition : Edition) (files : Files) (rest : List ℕ) where
  lead_one : (old mid new line : List ℕ) → mid ≡ old → (c : Changes edition files rest mid new)
      → line ≡ change_line files c.edit → Lead edition files rest old (line ∷ []) new
  lead_one old mid new line e c is = subst (λ x. Lead edition files rest x (line ∷ []) new) e (new, c, is, refl)

  pub lead_more : (old : List ℕ) (lines : List (List ℕ)) (mid new line : List ℕ) → Lead edition files rest old lines mid
      → (c : Changes edition files rest mid new) → line ≡ change_line files c.edit
      → Lead edition files rest old (lines ++ line ∷ []) new
  lead_more old [] mid new line h c is = lead_one old mid new line h c is
  lead_more old (first ∷ lines) mid new line h c is = (h.0, h.1, h.2, lead_more h.0 lines mid new line h.3 c is)

-- the changes so far
pub record Follows (frame : Frame) (own text told : List ℕ) (count : ℕ) : Type 0 where
  pub lines : List (List ℕ)
  pub lead : Lead frame.edition (files_shown frame.files) frame.rest.now own lines text
  pub few : length lines ≡ count
  pub tells : told ≡ all_lines lines
  pub small : length own ≤ frame.most → length text ≤ frame.most

pub follows_from : (frame : Frame) (own text told : List ℕ) → text ≡ own → told ≡ [] → Follows frame own text told 0
follows_from frame own text told e f = record {
  lines = [];
  lead = e;
  few = refl;
  tells = f;
  small = λ s. subst (λ t. length t ≤ frame.most) (sym e) s;
}

pub follows_more : (frame : Frame) (own text told more : List ℕ) (count : ℕ) (led : Led)
    → Follows frame own text told count → IsMade frame text led → more ≡ told ++ led.lines
    → Follows frame own led.text more (count + 1)
follows_more frame own text told more count led h m is =
    let few = h.few in
    let long : length (h.lines ++ led.lines ∷ []) ≡ length h.lines + 1 = length-append h.lines (led.lines ∷ []) in
    record {
      lines = h.lines ++ led.lines ∷ [];
      lead =
          lead_more frame.edition
          (files_shown frame.files) frame.rest.now own h.lines text led.text led.lines h.lead m.changes m.line;
      few = omega (arith, few, long);
      tells =
          is ∙ ap (λ t. t ++ led.lines) h.tells ∙ ap (λ t. all_lines h.lines ++ t) (sym (append-nil led.lines))
          ∙ sym (flat_map-append (λ (line : List ℕ). line) h.lines (led.lines ∷ []));
      small = λ s. m.small;
    }

-- the length of the lines that are left
module _ (lines left at : ℕ) (text : List ℕ) (b : ℕ) (is : drop at text ≡ b ∷ drop (at + 1) text) (h : own_length lines text ≡ at + own_length left (drop at text)) where
  by_first : (c : Bool) → ends_lines left b ≡ c
      → own_length left (drop at text) ≡ (if c then 0 else suc (own_length (lines_after left b) (drop (at + 1) text)))
  by_first c e =
      ap (own_length left) is
      ∙ ap (λ (d : Bool). if d then 0 else suc (own_length (lines_after left b) (drop (at + 1) text))) e

  pub own_end : ends_lines left b ≡ true → at ≡ own_length lines text
  own_end e = let one = by_first true e in omega (arith, h, one)

  pub own_more : (after : ℕ) → after ≡ lines_after left b → ends_lines left b ≡ false
      → own_length lines text ≡ (at + 1) + own_length after (drop (at + 1) text)
  own_more after f e =
      let one : own_length left (drop at text) ≡ suc (own_length (lines_after left b) (drop (at + 1) text)) =
      by_first false e in
      let same : own_length (lines_after left b) (drop (at + 1) text) ≡ own_length after (drop (at + 1) text) =
      ap (λ n. own_length n (drop (at + 1) text)) (sym f) in
      omega (arith, h, one, same)

pub own_all : (lines left at : ℕ) (text : List ℕ) → own_length lines text ≡ at + own_length left (drop at text)
    → length text ≤ at → at ≤ length text → length text ≡ own_length lines text
own_all lines left at text h low high =
    let none : own_length left (drop at text) ≡ 0 =
    ap (own_length left) (drop_all at text low) in omega (arith, h, none, low, high)

-- texts that are compared with others
module _ (texts : List (List ℕ)) (count : ℕ) (other : List ℕ) where
  among_step : (t : List ℕ) (b : Bool) → drop count texts ≡ t ∷ drop (count + 1) texts → bytes_eq t other ≡ b
      → (rest : List (List ℕ))
      → are_among (drop count texts) (other ∷ rest) ≡
      (if b then are_among (drop (count + 1) texts) rest else are_among (t ∷ drop (count + 1) texts) rest)
  among_step t b is e rest =
      let more = drop (count + 1) texts in
      ap (λ ts. are_among ts (other ∷ rest)) is
      ∙ ap (λ (c : Bool). if c then are_among more rest else are_among (t ∷ more) rest) e

  pub passes_one : (t : List ℕ) → count < length texts → drop count texts ≡ t ∷ drop (count + 1) texts
      → bytes_eq t other ≡ true → Passes texts count other (count + 1)
  passes_one t lt is e = (omega (arith, lt), among_step t true is e)

  pub passes_none : (t : List ℕ) → count < length texts → drop count texts ≡ t ∷ drop (count + 1) texts
      → bytes_eq t other ≡ false → Passes texts count other count
  passes_none t lt is e =
      (omega (arith, lt), λ rest. among_step t false is e rest ∙ ap (λ ts. are_among ts rest) (sym is))

  all_among : (ts rest : List (List ℕ)) → ts ≡ [] → are_among ts (other ∷ rest) ≡ are_among ts rest
  all_among ts rest e = ap (λ x. are_among x (other ∷ rest)) e ∙ sym (ap (λ x. are_among x rest) e)

  pub passes_all : count ≤ length texts → length texts ≤ count → Passes texts count other count
  passes_all high low = (high, λ rest. all_among (drop count texts) rest (drop_all count texts low))

-- after all others
pub among_at_end : (texts others : List (List ℕ)) (count i : ℕ)
    → are_among (drop count texts) (drop i others) ≡ are_among texts others → length others ≤ i → count ≤ length texts
    → (count == length texts) ≡ are_among texts others
among_at_end texts others count i h low high = by (count == length texts) refl
  where
    none : drop i others ≡ []
    none = drop_all i others low

    left : are_among (drop count texts) [] ≡ are_among texts others
    left = ap (are_among (drop count texts)) (sym none) ∙ h

    by : (b : Bool) → (count == length texts) ≡ b → (count == length texts) ≡ are_among texts others
    by true e =
        let same : length texts ≤ count = grind (arith, nat_tests) in
        e ∙ ap (λ ts. are_among ts []) (sym (drop_all count texts same)) ∙ left
    by false e =
        let less : count < length texts = grind (arith, nat_tests) in
        e ∙ ap (λ ts. are_among ts []) (sym (drop_more texts count [] less)) ∙ left

-- the same of borrowed texts
abbrev texts_in : List (Bor (List ℕ)) → List (List ℕ)
texts_in texts = map (λ t. t.now) texts

module _ (texts : List (Bor (List ℕ))) (count : ℕ) (other : List ℕ) where
  first_text : (d : Bor (List ℕ)) → count < length texts → (b : Bool) → bytes_eq (get_or texts count d).now other ≡ b
      → (count < length (texts_in texts))
      × (drop count (texts_in texts) ≡ get_or (texts_in texts) count [] ∷ drop (count + 1) (texts_in texts))
      × (bytes_eq (get_or (texts_in texts) count []) other ≡ b)
  first_text d lt b e =
      let long = length-map texts (λ (t : Bor (List ℕ)). t.now) in
      let within : count < length (texts_in texts) = omega (arith, lt, long) in
      let same = get_or-map (λ (t : Bor (List ℕ)). t.now) texts count d [] lt in
      (within, drop_more (texts_in texts) count [] within, ap (λ t. bytes_eq t other) same ∙ e)

  pub passes_found : (d : Bor (List ℕ)) → count < length texts → bytes_eq (get_or texts count d).now other ≡ true
      → Passes (texts_in texts) count other (count + 1)
  passes_found d lt e =
      let f = first_text d lt true e in passes_one (texts_in texts) count other
      (get_or (texts_in texts) count []) f.0 f.1 f.2

  pub passes_missed : (d : Bor (List ℕ)) → count < length texts → bytes_eq (get_or texts count d).now other ≡ false
      → Passes (texts_in texts) count other count
  passes_missed d lt e =
      let f = first_text d lt false e in passes_none (texts_in texts) count other
      (get_or (texts_in texts) count []) f.0 f.1 f.2

  pub passes_past : count ≤ length texts → length texts ≤ count → Passes (texts_in texts) count other count
  passes_past high low =
      let long = length-map texts (λ (t : Bor (List ℕ)). t.now) in
      passes_all (texts_in texts) count other (omega (arith, high, long)) (omega (arith, low, long))

-- so many texts were found among so many others
abbrev pub Found : (texts others : List (Bor (List ℕ))) → (count i : ℕ) → Type 0
Found texts others count i =
    (count ≤ length texts) ×
    (are_among (drop count (texts_in texts)) (drop i (texts_in others)) ≡ are_among (texts_in texts) (texts_in others))

module _ (texts others : List (Bor (List ℕ))) (count i : ℕ) (h : Found texts others count i) where
  pub found_more : (after : ℕ) (d : Bor (List ℕ)) → i < length others
      → Passes (texts_in texts) count (get_or others i d).now after → Found texts others after (i + 1)
  found_more after d lt p =
      let long = length-map texts (λ (t : Bor (List ℕ)). t.now) in
      let some = length-map others (λ (t : Bor (List ℕ)). t.now) in
      let within = p.0 in
      let item : drop i (texts_in others) ≡ (get_or others i d).now ∷ drop (i + 1) (texts_in others) =
      drop_more (texts_in others) i [] (omega (arith, lt, some))
      ∙ ap (λ t. t ∷ drop (i + 1) (texts_in others)) (get_or-map (λ (t : Bor (List ℕ)). t.now) others i d [] lt) in
      let goes_on = ap (are_among (drop count (texts_in texts))) (sym item) in
      (omega (arith, within, long), sym (p.1 (drop (i + 1) (texts_in others))) ∙ goes_on ∙ h.1)

  pub found_all : length others ≤ i → (count == length texts) ≡ are_among (texts_in texts) (texts_in others)
  found_all low =
      let long = length-map texts (λ (t : Bor (List ℕ)). t.now) in
      let some = length-map others (λ (t : Bor (List ℕ)). t.now) in
      let within = h.0 in
      ap (λ n. count == n) (sym long) ∙ among_at_end (texts_in texts) (texts_in others) count i h.1
      (omega (arith, low, some)) (omega (arith, within, long))

-- what is written of what was fixed
pub fixes_of : (f : Replacing) (own rest : List ℕ) (x : FixedText) → own ≡ own_in f → rest ≡ rest_in f
    → IsFixed f.edition f.files own rest x → TellsBoth x f.out f.out_after f.line f.line_after f.status → Fixes f
fixes_of f own rest x e g h t =
    let i : IsFixed f.edition f.files (own_in f) (rest_in f) x =
    subst (λ o. IsFixed f.edition f.files o (rest_in f) x) e (subst (λ r. IsFixed f.edition f.files own r x) g h) in
    fixes.fixed x.text i.fixed t.0 t.1
    (λ r k.
    let o = outcome_of f.edition (x.text ++ rest_in f) r.stop (map code_of k.definitions) in
    let told = i.told r k in (
      told.0,
      told.1,
      subst (λ s. TellsAfter t.0 (all_told i.fixed.lines o told.0) s f.line f.line_after f.status) told.3
          (subst (λ d. TellsAfter t.0 d x.status f.line f.line_after f.status) told.2 t.2),
    )) i.finished
