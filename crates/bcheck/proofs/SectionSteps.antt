-- Where the sections of a source begin, and what is found in each.
use Rattle.std.proofs.Common.{◌≡◌, ◌≢◌, ◌∙◌, ℕ, zero, suc, ◌+◌, ◌-◌, ◌<◌, ◌≤◌, Bool, true, false, List, [], ◌∷◌, ◌++◌, Option, Some, None, ap, append-nil, append_assoc, arith, drop, get_or, inl, inr, length, length-drop, min, refl, subst, sym, take}
use Rattle.std.specs.Prelude.{if◌then◌else◌, Ok, Err, MatchResult}
use Rattle.std.specs.List.{AllZip}
use Rattle.std.proofs.lemmas.List.{take-append-drop, take_all}
use Rattle.std.proofs.Math.Seq.{take-add}
use Rattle.bword.specs.declared.edition.Edition.{Edition}
use Rattle.blang.specs.declared.token.Diagnostic.{Diagnostic}
use Rattle.bgrammar.proofs.GoesLaws.{each_source_comes, outcomes_are_equal}
use Rattle.blang.specs.Compiles.{Compilation}
use Rattle.blang.specs.Cut.{tokens_from}
use Rattle.blex.specs.declared.lexeme.Lexeme.{Lexeme}
use Rattle.blex.specs.declared.lexeme.Lexeme.TheVariants as lexeme
use Rattle.blex.specs.declared.scanner.PlacedPiece.{PlacedPiece}
use Rattle.blex.specs.Places.{after_blanks, next_piece}
use Rattle.blex.proofs.PlaceSteps.{piece_grows}
use Rattle.std.specs.Global.{Vec}
use Rattle.blang.specs.declared.code.Definition.{Definition}
use Rattle.btools.specs.Programs.{HasFault, IsCodeOf}
use Rattle.bcheck.specs.declared.compiled.Compiled.{Compiled}
use Rattle.bcheck.specs.Findings.{IsCompiled, HasFaults, IsOnSection, TellsStop, TellsAfter, TellsFault, matter_code}
use Rattle.bcheck.specs.declared.finding.Finding.{Finding}
use Rattle.bcheck.specs.declared.finding.TheConstants.{MOST_FINDINGS}
use Rattle.bcheck.specs.Sections.{Section, StopsAlone, StopsEach, at_fault, head_after, is_end, opened, places_from, head_places, section_at, section_end, section_places, sections, sections_at}
use Rattle.bcheck.proofs.AddedFindings.{zip_more}
use Rattle.bcheck.proofs.FaultLines.{on_a_line}
use Rattle.bcheck.proofs.TokenPlaces.{end_within}

no_end : (l : Option Lexeme) → is_end l ≡ false → l ≢ Some lexeme.End
no_end l e is = let f : true ≡ false = ap is_end (sym is) ∙ e in cc

module _ (edition : Edition) (line : ℕ) (source : List ℕ) where
  abbrev next : ℕ → PlacedPiece
  next at = next_piece edition source at

  grows : (at : ℕ) → is_end (next at).lexeme ≡ false → at < (next at).end
  grows at e = omega (arith, piece_grows edition source (after_blanks source at) (no_end (next at).lexeme e))

  abbrev after : Option ℕ → ℕ → Option ℕ
  after head at = head_after line source head (next at)

  step_end : (fuel : ℕ) (head : Option ℕ) (at : ℕ) → is_end (next at).lexeme ≡ true → places_from edition line (suc fuel) source head at ≡ opened head (next at).lexeme ++ []
  unfolding places_from
  step_end fuel head at e = ap (λ (b : Bool). opened head (next at).lexeme ++ (if b then [] else places_from edition line fuel source (after head at) (next at).end)) e

  step_more : (fuel : ℕ) (head : Option ℕ) (at : ℕ) → is_end (next at).lexeme ≡ false
      → places_from edition line (suc fuel) source head at ≡ opened head (next at).lexeme ++ places_from edition line fuel source (after head at) (next at).end
  unfolding places_from
  step_more fuel head at e = ap (λ (b : Bool). opened head (next at).lexeme ++ (if b then [] else places_from edition line fuel source (after head at) (next at).end)) e

  -- enough fuel is enough
  same_places : (m n : ℕ) (head : Option ℕ) (at : ℕ) → at ≤ length source → length source < at + m → length source < at + n → places_from edition line m source head at ≡ places_from edition line n source head at
  same_places zero n head at w h k = absurd (omega arith)
  same_places (suc m) zero head at w h k = absurd (omega arith)
  same_places (suc m) (suc n) head at w h k = by (is_end (next at).lexeme) refl (λ g. same_places m n (after head at) (next at).end (end_within edition source at w) (omega (arith, g)) (omega (arith, g)))
    where
      by : (b : Bool) → is_end (next at).lexeme ≡ b → (at < (next at).end → places_from edition line m source (after head at) (next at).end ≡ places_from edition line n source (after head at) (next at).end)
          → places_from edition line (suc m) source head at ≡ places_from edition line (suc n) source head at
      by true e again = step_end m head at e ∙ sym (step_end n head at e)
      by false e again = step_more m head at e ∙ ap (λ ps. opened head (next at).lexeme ++ ps) (again (grows at e)) ∙ sym (step_more n head at e)

  abbrev coming : Option ℕ → ℕ → List ℕ
  coming head at = places_from edition line (suc (length source)) source head at

  coming_more : (head : Option ℕ) (at : ℕ) → at ≤ length source → is_end (next at).lexeme ≡ false → coming head at ≡ opened head (next at).lexeme ++ coming (after head at) (next at).end
  coming_more head at w e =
      step_more (length source) head at e
      ∙ ap (λ ps. opened head (next at).lexeme ++ ps) (same_places (length source) (suc (length source)) (after head at) (next at).end (end_within edition source at w) (omega (arith, grows at e)) (omega arith))

  -- the places so far and those that come are all
  pub record Collects (at : ℕ) (head : Option ℕ) (places : List ℕ) : Type 0 where
    pub within : at ≤ length source
    pub made : places ++ coming head at ≡ head_places edition line source

  pub collects_from : Collects 0 None []
  collects_from = record { within = omega arith; made = refl }

  module _ (at : ℕ) (head later : Option ℕ) (places more : List ℕ) (p : PlacedPiece) (is : p ≡ next at) (h : Collects at head places) (also : more ≡ places ++ opened head p.lexeme) where
    here : more ≡ places ++ opened head (next at).lexeme
    here = also ∙ ap (λ (q : PlacedPiece). places ++ opened head q.lexeme) is

    pub collects_more : later ≡ head_after line source head p → is_end p.lexeme ≡ false → Collects p.end later more
    collects_more follows e =
        let f : is_end (next at).lexeme ≡ false = ap (λ (q : PlacedPiece). is_end q.lexeme) (sym is) ∙ e in
        let on : later ≡ after head at = follows ∙ ap (head_after line source head) is in
        subst (λ (q : PlacedPiece). Collects q.end later more) (sym is) (subst (λ o. Collects (next at).end o more) (sym on)
        (record {
          within = end_within edition source at h.within;
          made =
              ap (λ ps. ps ++ coming (after head at) (next at).end) here
              ∙ append_assoc places (opened head (next at).lexeme) (coming (after head at) (next at).end)
              ∙ ap (λ ps. places ++ ps) (sym (coming_more head at h.within f)) ∙ h.made;
        }))

    pub collects_all : is_end p.lexeme ≡ true → more ≡ head_places edition line source
    collects_all e =
        let f : is_end (next at).lexeme ≡ true = ap (λ (q : PlacedPiece). is_end q.lexeme) (sym is) ∙ e in
        here ∙ ap (λ ps. places ++ ps) (sym (append-nil (opened head (next at).lexeme)) ∙ sym (step_end (length source) head at f)) ∙ h.made

-- each source comes to something
pub stop_of : (edition : Edition) (text : List ℕ) → (stop : Option Diagnostic) × StopsAlone edition text stop
stop_of edition text =
    let some = each_source_comes [] edition 1 text in
    (some.0.stop, λ r g. ap (λ (c : Compilation). c.stop) (outcomes_are_equal [] (tokens_from edition 1 text) r some.0 g some.1))

-- a fault stands on a line
pub fault_on_line : (edition : Edition) (text : List ℕ) (d : Diagnostic) → StopsAlone edition text (Some d) → 0 < d.line
fault_on_line edition text d stops = let some = each_source_comes [] edition 1 text in on_a_line edition text some.0 d some.1 (stops some.0 some.1)

-- what compiling a text gave is what it comes to alone
pub right_alone : (edition : Edition) (text : List ℕ) (c : Compiled) (v : Vec Definition) → c.code ≡ Ok v → IsCompiled edition text c → StopsAlone edition text None
right_alone edition text c v is h = λ r g. ((subst (λ x. MatchResult x (λ w. IsCodeOf edition text w.items) (HasFault edition text)) is h) r g).0

pub wrong_alone : (edition : Edition) (text : List ℕ) (c : Compiled) (d : Diagnostic) → c.code ≡ Err d → IsCompiled edition text c → StopsAlone edition text (Some d)
wrong_alone edition text c d is h = subst (λ x. MatchResult x (λ w. IsCodeOf edition text w.items) (HasFault edition text)) is h

-- where enough is told nothing is found
full_stop : (edition : Edition) (source : List ℕ) (s : Section) (stop : Option Diagnostic) (count : ℕ) (more : List Finding) → MOST_FINDINGS - 1 ≤ count → more ≡ [] → TellsStop edition source s stop count more
full_stop edition source s None count more full none = none
full_stop edition source s (Some d) count more full none = inl (full, none)

pub full : (edition : Edition) (source : List ℕ) (s : Section) (count : ℕ) (more : List Finding) → MOST_FINDINGS - 1 ≤ count → more ≡ [] → HasFaults edition source s count more
full edition source s count more enough none =
    let some = stop_of edition s.text in
    (some.0, some.1, full_stop edition source s some.0 count more enough none)

pub right_section : (edition : Edition) (source : List ℕ) (s : Section) (count : ℕ) (more : List Finding) → StopsAlone edition s.text None → more ≡ [] → HasFaults edition source s count more
right_section edition source s count more stops none = (None, stops, none)

-- a place of a section in the source
pub placed_in : (source : List ℕ) (place end k : ℕ) → k ≤ length (section_at source place end).text → take (place + k) source ≡ take place source ++ take k (section_at source place end).text
placed_in source place end k h = take-add place k source ∙ ap (λ t. take place source ++ t) (inner (end - place) (drop place source) k h)
  where
    inner : (n : ℕ) (xs : List ℕ) (k : ℕ) → k ≤ length (take n xs) → take k xs ≡ take k (take n xs)
    inner zero xs zero h = refl
    inner zero xs (suc k) h = absurd (omega (arith, h))
    inner (suc n) [] k h = refl
    inner (suc n) (x ∷ xs) zero h = refl
    inner (suc n) (x ∷ xs) (suc k) h = ap (λ ys. x ∷ ys) (inner n xs k (omega (arith, h)))

pub small_section : (source : List ℕ) (place end : ℕ) → length (section_at source place end).text ≤ length source - place
small_section source place end = omega (arith, length_take (end - place) (drop place source), length-drop place source)
  where
    length_take : (n : ℕ) (xs : List ℕ) → length (take n xs) ≤ length xs
    length_take zero xs = omega arith
    length_take (suc n) [] = omega arith
    length_take (suc n) (x ∷ xs) = omega (arith, length_take n xs)

same_take : (k : ℕ) (xs : List ℕ) → take (min k (length xs)) xs ≡ take k xs
same_take zero xs = let e : min 0 (length xs) ≡ 0 = omega arith in ap (λ n. take n xs) e
same_take (suc k) [] = let e : min (suc k) 0 ≡ 0 = omega arith in ap (λ n. take {A = ℕ} n []) e
same_take (suc k) (x ∷ xs) = let e : min (suc k) (length (x ∷ xs)) ≡ suc (min k (length xs)) = omega arith in ap (λ n. take n (x ∷ xs)) e ∙ ap (λ ys. x ∷ ys) (same_take k xs)

-- the fault of a section, found in the section alone and then moved
pub on_section : (edition : Edition) (source : List ℕ) (place end : ℕ) (d : Diagnostic) (alone there : Finding) → TellsFault edition (section_at source place end).text d alone → matter_code there.matter ≡ matter_code alone.matter
    → there.place.start ≡ place + min alone.place.start (length (section_at source place end).text) → IsOnSection edition source (section_at source place end, d) there
on_section edition source place end d alone there tells matter at =
    let text = (section_at source place end).text in
    let k = alone.place.start in (
      take k text,
      drop k text,
      sym (take-append-drop k text),
      ap (λ n. take n source) at ∙ placed_in source place end (min k (length text)) (omega arith) ∙ ap (λ t. take place source ++ t) (same_take k text),
      (matter ∙ tells.0, tells.1, tells.2),
    )

pub wrong_section : (edition : Edition) (source : List ℕ) (s : Section) (d : Diagnostic) (f : Finding) (count : ℕ) (more : List Finding) → count < MOST_FINDINGS - 1 → StopsAlone edition s.text (Some d) → more ≡ f ∷ [] → IsOnSection edition source (s, d) f
    → HasFaults edition source s count more
wrong_section edition source s d f count more room stops is on = (Some d, stops, inr (room, f, is, on))

-- the section that comes next
next_of : (source places : List ℕ) (i d : ℕ) → i < length places → take (suc i) (sections_at source places) ≡ take i (sections_at source places) ++ section_at source (get_or places i d) (section_end source (drop (suc i) places)) ∷ []
next_of source [] i d lt = absurd (omega (arith, lt))
next_of source (p ∷ ps) zero d lt = refl
next_of source (p ∷ ps) (suc i) d lt = ap (λ ss. section_at source p (section_end source ps) ∷ ss) (next_of source ps i d (omega (arith, lt)))

pub next_section : (source places : List ℕ) (i d : ℕ) → i < length places → take (i + 1) (sections_at source places) ≡ take i (sections_at source places) ++ section_at source (get_or places i d) (section_end source (drop (i + 1) places)) ∷ []
next_section source places i d lt =
    let e : i + 1 ≡ suc i = omega arith in
    subst (λ n. take n (sections_at source places) ≡ take i (sections_at source places) ++ section_at source (get_or places i d) (section_end source (drop n places)) ∷ []) (sym e) (next_of source places i d lt)

as_many : (source places : List ℕ) → length (sections_at source places) ≡ length places
as_many source [] = refl
as_many source (p ∷ ps) = ap suc (as_many source ps)

stops_more : (edition : Edition) (ss : List Section) (stops : List (Option Diagnostic)) (s : Section) (stop : Option Diagnostic) → StopsEach edition ss stops → at_fault (ss ++ s ∷ []) (stops ++ stop ∷ []) ≡ at_fault ss stops ++ at_fault (s ∷ []) (stop ∷ [])
stops_more edition [] [] s stop h = refl
stops_more edition [] (x ∷ stops) s stop h = absurd h
stops_more edition (t ∷ ss) [] s stop h = absurd h
stops_more edition (t ∷ ss) (Some d ∷ stops) s stop h = ap (λ fs. (t, d) ∷ fs) (stops_more edition ss stops s stop h.1)
stops_more edition (t ∷ ss) (None ∷ stops) s stop h = stops_more edition ss stops s stop h.1

module _ (edition : Edition) (source : List ℕ) where
  abbrev On : Section × Diagnostic → Finding → Type 0
  On = IsOnSection edition source

  -- what was found of the first sections
  abbrev pub SoFar : (places : List ℕ) (i : ℕ) (found : List Finding) → Type 0
  SoFar places i found =
      (stops : List (Option Diagnostic)) × StopsEach edition (take i (sections_at source places)) stops
      × AllZip On (take (MOST_FINDINGS - 1) (at_fault (take i (sections_at source places)) stops)) found

  -- as many as are told
  as_told : (n : ℕ) (faults : List (Section × Diagnostic)) (found : List Finding) → AllZip On (take n faults) found → length found ≡ min n (length faults)
  as_told zero faults [] h = let e : 0 ≡ min 0 (length faults) = omega arith in e
  as_told zero faults (f ∷ fs) h = absurd h
  as_told (suc n) [] [] h = let e : 0 ≡ min (suc n) 0 = omega arith in e
  as_told (suc n) [] (f ∷ fs) h = absurd h
  as_told (suc n) (x ∷ xs) [] h = absurd h
  as_told (suc n) (x ∷ xs) (f ∷ fs) h = let r = as_told n xs fs h.1 in omega (arith, r)

  taken_full : (n : ℕ) (xs ys : List (Section × Diagnostic)) → n ≤ length xs → take n (xs ++ ys) ≡ take n xs
  taken_full zero xs ys h = refl
  taken_full (suc n) [] ys h = absurd (omega (arith, h))
  taken_full (suc n) (x ∷ xs) ys h = ap (λ zs. x ∷ zs) (taken_full n xs ys (omega (arith, h)))

  take_none : (n : ℕ) → take {A = Section × Diagnostic} n [] ≡ []
  take_none zero = refl
  take_none (suc n) = refl

  taken_room : (n : ℕ) (xs : List (Section × Diagnostic)) (y : Section × Diagnostic) → length xs < n → take n (xs ++ y ∷ []) ≡ take n xs ++ y ∷ []
  taken_room zero xs y h = absurd (omega (arith, h))
  taken_room (suc n) [] y h = ap (λ zs. y ∷ zs) (take_none n)
  taken_room (suc n) (x ∷ xs) y h = ap (λ zs. x ∷ zs) (taken_room n xs y (omega (arith, h)))

  zip_stop : (s : Section) (stop : Option Diagnostic) (faults : List (Section × Diagnostic)) (old more : List Finding) → TellsStop edition source s stop (length old) more → AllZip On (take (MOST_FINDINGS - 1) faults) old
      → AllZip On (take (MOST_FINDINGS - 1) (faults ++ at_fault (s ∷ []) (stop ∷ []))) (old ++ more)
  zip_stop s None faults old more adds h = subst (λ fs. AllZip On (take (MOST_FINDINGS - 1) fs) (old ++ more)) (sym (append-nil faults)) (subst (λ fs. AllZip On (take (MOST_FINDINGS - 1) faults) (old ++ fs)) (sym adds) (subst (λ fs. AllZip On (take (MOST_FINDINGS - 1) faults) fs) (sym (append-nil old)) h))
  zip_stop s (Some d) faults old more (inl full) h =
      let most = MOST_FINDINGS - 1 in
      let count = as_told most faults old h in
      subst (λ fs. AllZip On fs (old ++ more)) (sym (taken_full most faults ((s, d) ∷ []) (omega (arith, full.0, count)))) (subst (λ fs. AllZip On (take most faults) (old ++ fs)) (sym full.1) (subst (λ fs. AllZip On (take most faults) fs) (sym (append-nil old)) h))
  zip_stop s (Some d) faults old more (inr room) h =
      let most = MOST_FINDINGS - 1 in
      let count = as_told most faults old h in
      subst (λ fs. AllZip On fs (old ++ more)) (sym (taken_room most faults (s, d) (omega (arith, room.0, count)))) (subst (λ fs. AllZip On (take most faults ++ (s, d) ∷ []) (old ++ fs)) (sym room.2) (zip_more On (take most faults) old (s, d) room.1 h room.3))

  pub so_far_more : (places : List ℕ) (i d end : ℕ) (old more new : List Finding) → i < length places → end ≡ section_end source (drop (i + 1) places) → SoFar places i old
      → HasFaults edition source (section_at source (get_or places i d) end) (length old) more → new ≡ old ++ more → SoFar places (i + 1) new
  so_far_more places i d end old more new lt is h adds also =
      let s = section_at source (get_or places i d) end in
      let ss = take i (sections_at source places) in
      let stop = adds.0 in
      let all : take (i + 1) (sections_at source places) ≡ ss ++ s ∷ [] = next_section source places i d lt ∙ ap (λ e. ss ++ section_at source (get_or places i d) e ∷ []) (sym is) in (
        h.0 ++ stop ∷ [],
        subst (λ xs. StopsEach edition xs (h.0 ++ stop ∷ [])) (sym all) (zip_more (λ (x : Section) st. StopsAlone edition x.text st) ss h.0 s stop h.1 adds.1),
        subst (λ xs. AllZip On (take (MOST_FINDINGS - 1) (at_fault xs (h.0 ++ stop ∷ []))) new) (sym all)
            (subst (λ fs. AllZip On (take (MOST_FINDINGS - 1) fs) new) (sym (stops_more edition ss h.0 s stop h.1)) (subst (λ fs. AllZip On (take (MOST_FINDINGS - 1) (at_fault ss h.0 ++ at_fault (s ∷ []) (stop ∷ []))) fs) (sym also) (zip_stop s stop (at_fault ss h.0) old more adds.2 h.2))),
      )

  pub so_far_at : (places : List ℕ) (i d place end count : ℕ) (old more new : List Finding) → i < length places → place ≡ get_or places i d → end ≡ section_end source (drop (i + 1) places) → count ≡ length old → SoFar places i old
      → HasFaults edition source (section_at source place end) count more → new ≡ old ++ more → SoFar places (i + 1) new
  so_far_at places i d place end count old more new lt at is many h adds also =
      so_far_more places i d end old more new lt is h
      (subst (λ n. HasFaults edition source (section_at source (get_or places i d) end) n more) many (subst (λ p. HasFaults edition source (section_at source p end) count more) at adds)) also

  pub so_far_all : (line : ℕ) (places : List ℕ) (i : ℕ) (found : List Finding) → places ≡ section_places edition line source → i ≡ length places → SoFar places i found → TellsAfter edition source line found
  so_far_all line places i found is end h =
      let all : take i (sections_at source places) ≡ sections edition line source = take_all i (sections_at source places) (omega (arith, end, as_many source places)) ∙ ap (sections_at source) is in (
        h.0,
        subst (λ ss. StopsEach edition ss h.0) all h.1,
        subst (λ ss. AllZip On (take (MOST_FINDINGS - 1) (at_fault ss h.0)) found) all h.2,
      )

-- where a section ends
pub ends_there : (source places : List ℕ) (next : ℕ) → length places ≤ next → length source ≡ section_end source (drop next places)
ends_there source [] zero h = refl
ends_there source [] (suc n) h = refl
ends_there source (p ∷ ps) zero h = absurd (omega (arith, h))
ends_there source (p ∷ ps) (suc n) h = ends_there source ps n (omega (arith, h))

pub ends_before : (source places : List ℕ) (next d : ℕ) → next < length places → get_or places next d ≡ section_end source (drop next places)
ends_before source [] next d h = absurd (omega (arith, h))
ends_before source (p ∷ ps) zero d h = refl
ends_before source (p ∷ ps) (suc n) d h = ends_before source ps n d (omega (arith, h))
