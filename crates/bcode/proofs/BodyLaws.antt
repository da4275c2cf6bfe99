-- Lines read one kind after another.
use Rattle.std.proofs.Common.{subst, ◌≡◌, ℕ, zero, suc, ◌+◌, ◌<◌, ◌≤◌, List, [], ◌∷◌, ◌++◌, length, map, replicate, take, Option, Result, Ok, Err, IsErrAnd, refl, sym, ap, ◌∙◌, arith, append_assoc, append-nil, length-append}
use Rattle.std.specs.Prelude.{All}
use Rattle.std.specs.List.{flat_map}
use Rattle.std.proofs.Math.Seq.{take-append_seam}
use Rattle.std.proofs.lemmas.List.{length-replicate, length-map}
use Rattle.std.proofs.lemmas.List.Concat.{flat_map-append}
use Rattle.std.proofs.lemmas.List.Elements.{All-nil, All-head, All-tail}
use Rattle.bcode.specs.Ahead.{Ahead, TakesBytes, TakesText, ReadsLine, RefusesLine, BreaksLine, ReadsLines, RefusesLines, BreaksLines, LineGives, LinesGive, StopsAhead, StopsAmong, BreaksAmong, AreFirst, ReadsFirst, EndsAmong, ReadsBody, BodyGives, ReadsDefinition, StopsInside, HasNext, BreaksInside, DefinitionGives}
use Rattle.blang.specs.CodeParts.{sizes_of}
use Rattle.bcode.specs.Headers.{header_of, header_text, IsHeaderWithin}
use Rattle.bcode.specs.Stopping.{LineKind, value, target, string, instruction, IsOfKind, LineState, expects, kinds_after, state_after, IsStuckAfter}
use Rattle.blang.specs.Text.{joined, header_line, body_lines, lines_of, definition_text, ended_lines, target_line, string_line, ival_line, instr_line, IsWithinRanges}
use Rattle.blang.specs.declared.code.Definition.{Definition}
use Rattle.blang.specs.declared.code.Definition.TheVariants as definition
use Rattle.bcode.specs.declared.fault.CodeFault.TheVariants as fault
use Rattle.bcode.specs.declared.header.Header.{Header}
use Rattle.bcode.specs.declared.header.Header.TheVariants as header
use Rattle.bcode.specs.declared.code_stop.CodeStop.{CodeStop}
use Rattle.bcode.specs.declared.code_stop.CodeStop.TheVariants as stop
use Rattle.bcode.proofs.AheadLaws.{Reads-append, Passes-append, Breaks-after}
use Rattle.bcode.proofs.StreamLaws.{EndsInLine-after, ends_first}
use Rattle.bcode.proofs.HeaderLaws.{header_at-exact}
use Rattle.bcode.proofs.StoppingLaws.{AreGoodKinds, IsGoodState, good_after, sample, same_spelling, greatest_path}
use Rattle.bcode.proofs.CodeLaws.{made, OfKinds, OfState, stops_after, stops_last, stops_among, header_of-text, header_of-within, path_body, ended_path}

-- lines lead from one state to another: what stops after them stops so many lines later before them
abbrev pub GoesOn : LineState → List ℕ → ℕ → LineState → Type 0
GoesOn from text count to = (n : ℕ) (rest : List ℕ) → IsStuckAfter n to rest → IsStuckAfter (count + n) from (text ++ rest)

pub GoesOn-append : (s t u : LineState) (x y : List ℕ) (i j : ℕ) → GoesOn s x i t → GoesOn t y j u → GoesOn s (x ++ y) (i + j) u
GoesOn-append s t u x y i j h k n rest stops =
    let count : i + (j + n) ≡ i + j + n = omega arith in
    subst (λ (m : ℕ). IsStuckAfter m s (x ++ y ++ rest)) count
    (subst (λ (l : List ℕ). IsStuckAfter (i + (j + n)) s l) (sym (append_assoc x y rest)) (h (j + n) (y ++ rest) (k n rest stops)))

pub StopsAhead-following : {a b c : Ahead} {s t : LineState} {text : List ℕ} {count n : ℕ} → TakesText a text count b → GoesOn s text count t → StopsAhead t b n c → StopsAhead s a n c
StopsAhead-following {a} {b} {c} {s} {t} {text} {count} {n} p goes h = record {
  good = count + h.good;
  there = (let x = p.counted in let y = h.there in omega arith);
  taken = text ++ h.taken;
  near = EndsInLine-after p.lines h.near (omega arith);
  reads = Reads-append p.reads h.reads;
  stops = λ more can. subst (λ (l : List ℕ). IsStuckAfter (count + h.good) s l) (sym (append_assoc text h.taken more)) (goes h.good (h.taken ++ more) (h.stops more can));
}

pub StopsAmong-following : {a b c : Ahead} {ks ls : List LineKind} {text : List ℕ} {count n : ℕ} → TakesText a text count b → GoesOn (expects ks) text count (expects ls) → length ks ≡ count + length ls
    → StopsAmong ls b n c → StopsAmong ks a n c
unfolding StopsAhead-following
StopsAmong-following p goes all h = record { stopped = StopsAhead-following p goes h.stopped; among = (let l = h.among in omega arith) }

pub flat_joined : {X : Type 0} (f : X → List ℕ) (xs : List X) → flat_map f xs ≡ joined (map f xs)
flat_joined f [] = refl
flat_joined f (x ∷ xs) = ap (λ l. f x ++ l) (flat_joined f xs)

BreaksAmong-following : {a b c : Ahead} {ks ls : List LineKind} {text : List ℕ} {count : ℕ} → TakesText a text count b → GoesOn (expects ks) text count (expects ls) → length ks ≡ count + length ls
    → BreaksAmong ls b c → BreaksAmong ks a c
unfolding Breaks-after
BreaksAmong-following {a} {b} {c} {ks} {ls} {text} {count} p goes all h = record {
  breaks = Breaks-after p.reads h.breaks;
  good = count + h.good;
  stops = goes h.good h.breaks.taken h.stops;
  among = (let l = h.among in omega arith);
}

module _ {X : Type 0} (spell : X → List ℕ) (within : X → Type 0) (kind : LineKind) (of_kind : (x : X) → within x → IsOfKind kind (spell x)) where
  pub items_go : (xs : List X) (ks : List LineKind) → All within xs → GoesOn (expects (replicate (length xs) kind ++ ks)) (flat_map spell xs) (length xs) (expects ks)
  items_go xs ks all n rest stops = stops_after spell within kind of_kind xs ks n rest all stops

  pub items_go_last : (xs : List X) → All within xs → GoesOn (expects (replicate (length xs) kind)) (flat_map spell xs) (length xs) (expects [])
  items_go_last xs all n rest stops = stops_last spell within kind of_kind xs n rest all stops

  pub goes_on : {old new : Ahead} {xs : List X} (count : ℕ) (ks : List LineKind) → ReadsLines spell within count old xs new
      → GoesOn (expects (replicate count kind ++ ks)) (flat_map spell xs) count (expects ks)
  goes_on {old} {new} {xs} count ks r =
      subst (λ (c : ℕ). GoesOn (expects (replicate c kind ++ ks)) (flat_map spell xs) c (expects ks)) r.all (items_go xs ks r.inside)

  pub first_after : (xs : List X) (ks : List LineKind) (ls : List (List ℕ)) → All within xs → AreFirst ls ks → AreFirst (map spell xs ++ ls) (replicate (length xs) kind ++ ks)
  first_after [] ks ls all first = first
  first_after (x ∷ xs) ks ls all first = (of_kind x (All-head within x xs all), first_after xs ks ls (All-tail within x xs all) first)

  some_first : (xs : List X) (count : ℕ) (ks : List LineKind) → length xs ≤ count → All within xs → AreFirst (map spell xs) (replicate count kind ++ ks)
  some_first [] count ks few all = tt
  some_first (x ∷ xs) zero ks few all = absurd (omega arith)
  some_first (x ∷ xs) (suc count) ks few all = (of_kind x (All-head within x xs all), some_first xs count ks (omega arith) (All-tail within x xs all))

  kinds_length : (count : ℕ) (ks : List LineKind) → length (replicate count kind ++ ks) ≡ count + length ks
  kinds_length count ks = omega (arith, length-append (replicate count kind) ks, length-replicate count kind)

  module _ (is_kind : (l : List ℕ) → IsOfKind kind l → (x : X) × within x × (l ≡ spell x)) where
    pub stops_here : {old new : Ahead} (count : ℕ) (ks : List LineKind) (n : ℕ) → RefusesLines spell within count old n new → StopsAmong (replicate count kind ++ ks) old n new
    stops_here {old} {new} count ks n r = record {
      stopped = record {
        good = length r.read;
        there = (let x = r.refused.here in let y = r.passes.counted in omega arith);
        taken = flat_map spell r.read ++ r.refused.taken;
        near = EndsInLine-after r.passes.lines (ends_first r.refused.taken r.refused.part) (omega arith);
        reads = Reads-append r.passes.reads r.refused.reads;
        stops = λ more can. subst (λ (t : List ℕ). IsStuckAfter (length r.read) (expects (replicate count kind ++ ks)) t)
            (sym (append_assoc (flat_map spell r.read) r.refused.taken more))
            (stops_among spell within kind of_kind is_kind r.read count ks (r.refused.taken ++ more) r.fewer r.inside (r.refused.none more can));
      };
      among = (let f = r.fewer in omega (arith, length-append (replicate count kind) ks, length-replicate count kind));
    }

    breaks_here : {old new : Ahead} (count : ℕ) (ks : List LineKind) → BreaksLines spell within count old new → BreaksAmong (replicate count kind ++ ks) old new
    unfolding Breaks-after
    breaks_here {old} {new} count ks r = record {
      breaks = Breaks-after r.passes.reads r.broke.breaks;
      good = length r.read;
      stops = stops_among spell within kind of_kind is_kind r.read count ks r.broke.breaks.taken r.fewer r.inside r.broke.none;
      among = (let f = r.fewer in omega (arith, length-append (replicate count kind) ks, length-replicate count kind));
    }

    -- lines of one kind, before those of others, were not read
    pub ends_among : {V : Type 0} (items : V → List X) (old new : Ahead) (count : ℕ) (ks : List LineKind) (e : CodeStop) → LinesGive spell within items count old (Err e) new
        → EndsAmong (replicate count kind ++ ks) old e new
    ends_among items old new count ks (stop.Fault (fault.Line n)) r = stops_here count ks n r
    ends_among items old new count ks (stop.Fault fault.Memory) r = record {
      lines = map spell r.read;
      first = some_first r.read count ks r.few r.inside;
      reads = subst (λ (t : List ℕ). TakesBytes old t new) (flat_joined spell r.read) r.reads;
    }
    ends_among items old new count ks stop.Device r = breaks_here count ks r

    pub ends_among_last : {V : Type 0} (items : V → List X) (old new : Ahead) (count : ℕ) (e : CodeStop) → LinesGive spell within items count old (Err e) new
        → EndsAmong (replicate count kind) old e new
    ends_among_last items old new count e r =
        subst (λ (ks : List LineKind). EndsAmong ks old e new) (append-nil (replicate count kind)) (ends_among items old new count [] e r)

  -- lines were not read after those of a kind
  pub ends_after : {a b : Ahead} {xs : List X} (c : Ahead) (count : ℕ) (ks : List LineKind) (e : CodeStop) → ReadsLines spell within count a xs b → EndsAmong ks b e c
      → EndsAmong (replicate count kind ++ ks) a e c
  ends_after c count ks (stop.Fault (fault.Line n)) r h = StopsAmong-following r.passes (goes_on count ks r) (kinds_length count ks) h
  ends_after {a} {b} {xs} c count ks (stop.Fault fault.Memory) r h = record {
    lines = map spell xs ++ h.lines;
    first = subst (λ (n : ℕ). AreFirst (map spell xs ++ h.lines) (replicate n kind ++ ks)) r.all (first_after xs ks h.lines r.inside h.first);
    reads = subst (λ (t : List ℕ). TakesBytes a t c)
        (ap (λ l. l ++ joined h.lines) (flat_joined spell xs) ∙ sym (flat_map-append (λ l. l) (map spell xs) h.lines))
        (Reads-append r.passes.reads h.reads);
  }
  ends_after c count ks stop.Device r h = BreaksAmong-following r.passes (goes_on count ks r) (kinds_length count ks) h

-- the exit of a `?` after lines
pub body_exit : (h : Header) (old now : Ahead) (r : Result Definition CodeStop) (e : CodeStop) → IsErrAnd r (λ f. f ≡ e) → EndsAmong (kinds_after h) old e now → BodyGives h old r now
body_exit h old now (Ok d) e same ends = absurd same
body_exit h old now (Err f) e same ends = subst (λ (s : CodeStop). BodyGives h old (Err s) now) (sym same) ends

two_joined : {X Y : Type 0} (f : X → List ℕ) (g : Y → List ℕ) (xs : List X) (ys : List Y) → joined (map f xs ++ map g ys) ≡ flat_map f xs ++ flat_map g ys
two_joined f g xs ys =
    flat_map-append (λ l. l) (map f xs) (map g ys) ∙ ap (λ l. l ++ joined (map g ys)) (sym (flat_joined f xs)) ∙ ap (λ l. flat_map f xs ++ l) (sym (flat_joined g ys))

three_joined : {X Y Z : Type 0} (f : X → List ℕ) (g : Y → List ℕ) (h : Z → List ℕ) (xs : List X) (ys : List Y) (zs : List Z) → joined (map f xs ++ map g ys ++ map h zs) ≡ flat_map f xs ++ flat_map g ys ++ flat_map h zs
three_joined f g h xs ys zs =
    flat_map-append (λ l. l) (map f xs ++ map g ys) (map h zs) ∙ ap (λ l. l ++ joined (map h zs)) (two_joined f g xs ys)
    ∙ ap (λ l. flat_map f xs ++ flat_map g ys ++ l) (sym (flat_joined h zs))

pub two_passed : {X Y : Type 0} (f : X → List ℕ) (g : Y → List ℕ) (xs : List X) (ys : List Y) {a b c : Ahead} {n m : ℕ} → length xs ≡ n → length ys ≡ m
    → TakesText a (flat_map f xs) n b → TakesText b (flat_map g ys) m c → TakesText a (joined (map f xs ++ map g ys)) (length (map f xs ++ map g ys)) c
two_passed f g xs ys {a} {b} {c} {n} {m} x y p q =
    let all : length (map f xs ++ map g ys) ≡ n + m = omega (arith, length-append (map f xs) (map g ys), length-map xs f, length-map ys g) in
    rw (two_joined f g xs ys, all) (Passes-append p q)

pub three_passed : {X Y Z : Type 0} (f : X → List ℕ) (g : Y → List ℕ) (h : Z → List ℕ) (xs : List X) (ys : List Y) (zs : List Z) {a b c d : Ahead} {n m k : ℕ}
    → length xs ≡ n → length ys ≡ m → length zs ≡ k
    → TakesText a (flat_map f xs) n b → TakesText b (flat_map g ys) m c → TakesText c (flat_map h zs) k d
    → TakesText a (joined (map f xs ++ map g ys ++ map h zs)) (length (map f xs ++ map g ys ++ map h zs)) d
three_passed f g h xs ys zs {a} {b} {c} {d} {n} {m} {k} x y z p q r =
    let all : length (map f xs ++ map g ys ++ map h zs) ≡ n + m + k =
    omega (arith, length-append (map f xs ++ map g ys) (map h zs), length-append (map f xs) (map g ys), length-map xs f, length-map ys g, length-map zs h) in
    rw (three_joined f g h xs ys zs, all) (Passes-append (Passes-append p q) r)

pub two_goes : {X Y : Type 0} (f : X → List ℕ) (g : Y → List ℕ) (xs : List X) (ys : List Y) (s t : LineState) → GoesOn s (flat_map f xs ++ flat_map g ys) (length xs + length ys) t
    → GoesOn s (joined (map f xs ++ map g ys)) (length (map f xs ++ map g ys)) t
two_goes f g xs ys s t h =
    let all : length (map f xs ++ map g ys) ≡ length xs + length ys = omega (arith, length-append (map f xs) (map g ys), length-map xs f, length-map ys g) in
    rw (two_joined f g xs ys, all) h

pub three_goes : {X Y Z : Type 0} (f : X → List ℕ) (g : Y → List ℕ) (h : Z → List ℕ) (xs : List X) (ys : List Y) (zs : List Z) (s t : LineState)
    → GoesOn s (flat_map f xs ++ flat_map g ys ++ flat_map h zs) (length xs + length ys + length zs) t
    → GoesOn s (joined (map f xs ++ map g ys ++ map h zs)) (length (map f xs ++ map g ys ++ map h zs)) t
three_goes f g h xs ys zs s t k =
    let all : length (map f xs ++ map g ys ++ map h zs) ≡ length xs + length ys + length zs =
    omega (arith, length-append (map f xs ++ map g ys) (map h zs), length-append (map f xs) (map g ys), length-map xs f, length-map ys g, length-map zs h) in
    rw (three_joined f g h xs ys zs, all) k

pub two_kinds : {X Y : Type 0} (f : X → List ℕ) (g : Y → List ℕ) (xs : List X) (ys : List Y) (a b c : List ℕ) → a ≡ flat_map f xs ++ b → b ≡ flat_map g ys ++ c
    → a ≡ joined (map f xs ++ map g ys) ++ c
two_kinds f g xs ys a b c first second =
    let whole : joined (map f xs ++ map g ys) ≡ flat_map f xs ++ flat_map g ys =
    flat_map-append (λ l. l) (map f xs) (map g ys) ∙ ap (λ l. l ++ joined (map g ys)) (sym (flat_joined f xs)) ∙ ap (λ l. flat_map f xs ++ l) (sym (flat_joined g ys)) in
    first ∙ ap (λ l. flat_map f xs ++ l) second ∙ sym (append_assoc (flat_map f xs) (flat_map g ys) c) ∙ ap (λ l. l ++ c) (sym whole)

pub three_kinds : {X Y Z : Type 0} (f : X → List ℕ) (g : Y → List ℕ) (h : Z → List ℕ) (xs : List X) (ys : List Y) (zs : List Z) (a b c d : List ℕ)
    → a ≡ flat_map f xs ++ b → b ≡ flat_map g ys ++ c → c ≡ flat_map h zs ++ d → a ≡ joined (map f xs ++ map g ys ++ map h zs) ++ d
three_kinds f g h xs ys zs a b c d first second third =
    let whole : joined (map f xs ++ map g ys ++ map h zs) ≡ joined (map f xs ++ map g ys) ++ flat_map h zs =
    flat_map-append (λ l. l) (map f xs ++ map g ys) (map h zs) ∙ ap (λ l. joined (map f xs ++ map g ys) ++ l) (sym (flat_joined h zs)) in
    two_kinds f g xs ys a b c first second ∙ ap (λ l. joined (map f xs ++ map g ys) ++ l) third
    ∙ sym (append_assoc (joined (map f xs ++ map g ys)) (flat_map h zs) d) ∙ ap (λ l. l ++ d) (sym whole)

-- as many lines as the header says
kinds_count : (d : Definition) → length (kinds_after (header_of d)) ≡ length (body_lines d)
kinds_count (definition.Function f) =
    let s = sizes_of f in
    omega (
      arith,
      length-append (replicate s.labels (target s.code)) (replicate s.strings string ++ replicate s.code (instruction s)),
      length-append (replicate s.strings string) (replicate s.code (instruction s)),
      length-replicate s.labels (target s.code),
      length-replicate s.strings string,
      length-replicate s.code (instruction s),
      length-append (map target_line f.targets ++ map string_line f.strings) (map instr_line f.code),
      length-append (map target_line f.targets) (map string_line f.strings),
      length-map f.targets target_line,
      length-map f.strings string_line,
      length-map f.code instr_line,
    )
kinds_count (definition.Simple s) =
    omega (
      arith,
      length-append (replicate (length s.values) (value (length s.strings))) (replicate (length s.strings) string),
      length-replicate (length s.values) (value (length s.strings)),
      length-replicate (length s.strings) string,
      length-append (map ival_line s.values) (map string_line s.strings),
      length-map s.values ival_line,
      length-map s.strings string_line,
    )
kinds_count (definition.Vector v) =
    omega (
      arith,
      length-append (replicate (length v.values) (value (length v.strings))) (replicate (length v.strings) string),
      length-replicate (length v.values) (value (length v.strings)),
      length-replicate (length v.strings) string,
      length-append (map ival_line v.values) (map string_line v.strings),
      length-map v.values ival_line,
      length-map v.strings string_line,
    )

pub not_end : (d : Definition) → header_of d ≡ header.End → ⊥
not_end (definition.Function f) e = cc
not_end (definition.Simple f) e = cc
not_end (definition.Vector f) e = cc

pub state_of : (h : Header) → (h ≡ header.End → ⊥) → state_after h ≡ expects (kinds_after h)
state_of header.End more = absurd (more refl)
state_of _ more = refl

-- a definition's text as its header and what is after it
pub text_header : (d : Definition) (rest : List ℕ) → definition_text d ++ rest ≡ header_text (header_of d) ++ (joined (body_lines d) ++ rest)
text_header d rest = append_assoc (header_line d) (joined (body_lines d)) rest ∙ ap (λ l. l ++ (joined (body_lines d) ++ rest)) (sym (header_of-text d))

-- a text with a definition's lines doesn't stop among them
passes_body : (d : Definition) (good : ℕ) (text rest : List ℕ) → IsWithinRanges d → IsStuckAfter good (state_after (header_of d)) text → text ≡ joined (body_lines d) ++ rest → length (body_lines d) ≤ good
passes_body d good text rest inside stops same =
    let ls = body_lines d ++ ended_lines [] in
    let all : joined (take (length (body_lines d)) ls) ++ rest ≡ joined (body_lines d) ++ rest =
    ap (λ l. joined l ++ rest) (take-append_seam (body_lines d) (ended_lines [])) in
    greatest_path good (state_after (header_of d)) text (good_after (header_of d) (header_of-within d inside)) stops (length (body_lines d)) ls
    (path_body d (ended_lines []) inside (ended_path [] (All-nil IsWithinRanges))) (omega (arith, length-append (body_lines d) (ended_lines []))) rest (same ∙ sym all)

-- a definition's first line

pub header_go : (h : Header) → IsHeaderWithin h → GoesOn (expects []) (header_text h) 1 (state_after h)
header_go h inside n rest stops =
    let same : suc n ≡ 1 + n = omega arith in
    let first : IsStuckAfter (suc n) (expects []) (header_text h ++ rest) = (header_text h, state_after h, rest, (h, inside, refl, refl), refl, stops) in
    subst (λ (m : ℕ). IsStuckAfter m (expects []) (header_text h ++ rest)) same first

pub header_stops : {old new : Ahead} (n : ℕ) → RefusesLine header_text IsHeaderWithin old n new → StopsInside old n new
header_stops {old} {new} n r = record {
  stopped = record {
    good = 0;
    there = (let x = r.here in omega arith);
    taken = r.taken;
    near = ends_first r.taken r.part;
    reads = r.reads;
    stops = λ more can. record {
      refused = λ l to rest leads same. r.none more can leads.0 rest leads.1 (same ∙ ap (λ t. t ++ rest) leads.2);
      not_finished = λ e. absurd (cc);
    };
  };
  none = λ more can d rest inside same. r.none more can (header_of d) (joined (body_lines d) ++ rest) (header_of-within d inside) (same ∙ text_header d rest);
}

header_breaks : {old new : Ahead} → BreaksLine header_text IsHeaderWithin old new → BreaksInside old new
header_breaks r = record {
  breaks = r.breaks;
  none = λ d rest inside same. r.none (header_of d) (joined (body_lines d) ++ rest) (header_of-within d inside) (same ∙ text_header d rest);
}

pub header_exit : (old now : Ahead) (r : Result (Option Definition) CodeStop) (e : CodeStop) → IsErrAnd r (λ f. f ≡ e) → LineGives header_text IsHeaderWithin old (Err e) now → DefinitionGives old r now
header_exit old now (Ok o) e same gives = absurd same
header_exit old now (Err f) e same gives = subst (λ (s : CodeStop). DefinitionGives old (Err s) now) (sym same) (exit e gives)
  where
    exit : (e : CodeStop) → LineGives header_text IsHeaderWithin old (Err e) now → DefinitionGives old (Err e) now
    exit (stop.Fault (fault.Line n)) gives = header_stops n gives
    exit (stop.Fault fault.Memory) gives = absurd gives
    exit stop.Device gives = header_breaks gives

pub reads_definition : {old mid new : Ahead} (h : Header) (d : Definition) → ReadsLine header_text IsHeaderWithin old h mid → ReadsBody h mid d new → ReadsDefinition old d new
reads_definition {old} {mid} {new} h d r b = record {
  inside = b.inside;
  passes =
      let first : header_text h ≡ header_line d = ap header_text (sym b.header) ∙ header_of-text d in
      let all : 1 + length (body_lines d) ≡ length (lines_of d) = omega arith in
      let whole = Passes-append r.passes b.passes in
      subst (λ (n : ℕ). TakesText old (definition_text d) n new) all (subst (λ (l : List ℕ). TakesText old (l ++ joined (body_lines d)) (1 + length (body_lines d)) new) first whole);
}

some_lines : (ks : List LineKind) → AreGoodKinds ks → (bs : List (List ℕ)) × OfKinds ks bs
some_lines [] good = ([], refl)
some_lines (k ∷ ks) good =
    let first = sample k good.0 in
    let others = some_lines ks good.1 in
    (first.0 ∷ others.0, (first.1, others.1))

completed : (ks : List LineKind) → AreGoodKinds ks → (ls : List (List ℕ)) → AreFirst ls ks → (bs : List (List ℕ)) × OfKinds ks (ls ++ bs)
completed ks good [] first = some_lines ks good
completed [] good (l ∷ ls) first = absurd first
completed (k ∷ ks) good (l ∷ ls) first = let others = completed ks good.1 ls first.1 in (others.0, (first.0, others.1))

next_from : {old mid now : Ahead} (h : Header) → state_after h ≡ expects (kinds_after h) → ReadsLine header_text IsHeaderWithin old h mid → ReadsFirst (kinds_after h) mid now → HasNext old now
next_from {old} {mid} {now} h state r body =
    let others = completed (kinds_after h) (subst IsGoodState state (good_after h r.inside)) body.lines body.first in
    let m = made h (body.lines ++ others.0) r.inside (subst (λ (z : LineState). OfState z (body.lines ++ others.0)) (sym state) others.1) in
    let first : header_text h ≡ header_line m.definition = ap header_text (sym m.header) ∙ header_of-text m.definition in
    let lines : joined (body_lines m.definition) ≡ joined body.lines ++ joined others.0 = ap joined (sym m.lines) ∙ flat_map-append (λ l. l) body.lines others.0 in
    record {
      taken = header_text h ++ joined body.lines;
      reads = Reads-append r.passes.reads body.reads;
      next = m.definition;
      inside = m.inside;
      rest = joined body.lines;
      spelled = ap (λ t. t ++ joined body.lines) first;
      more = joined others.0;
      whole = ap (λ t. t ++ joined (body_lines m.definition)) (sym first) ∙ ap (λ t. header_text h ++ t) lines
          ∙ sym (append_assoc (header_text h) (joined body.lines) (joined others.0));
    }

-- a text that stops among the lines after a header has no whole definition
none_among : (h : Header) (good : ℕ) (text : List ℕ) → state_after h ≡ expects (kinds_after h) → IsHeaderWithin h → IsStuckAfter good (expects (kinds_after h)) text → good < length (kinds_after h)
    → (d : Definition) (rest : List ℕ) → IsWithinRanges d → header_text h ++ text ≡ definition_text d ++ rest → ⊥
none_among h good text state in_h stops among d rest inside same =
    let one = same_spelling header_at-exact h (header_of d) text (joined (body_lines d) ++ rest) in_h (header_of-within d inside) (same ∙ text_header d rest) in
    let here : IsStuckAfter good (state_after (header_of d)) text = subst (λ (z : LineState). IsStuckAfter good z text) (sym state ∙ ap state_after one.0) stops in
    let least = passes_body d good text rest inside here one.1 in
    let count = ap (λ z. length (kinds_after z)) one.0 ∙ kinds_count d in
    omega (arith, count, least, among)

body_stops : {old mid now : Ahead} (h : Header) (n : ℕ) → state_after h ≡ expects (kinds_after h) → ReadsLine header_text IsHeaderWithin old h mid → StopsAmong (kinds_after h) mid n now
    → StopsInside old n now
unfolding StopsAhead-following
body_stops h n state r s = record {
  stopped = StopsAhead-following r.passes (subst (λ (z : LineState). GoesOn (expects []) (header_text h) 1 z) state (header_go h r.inside)) s.stopped;
  none = λ more can d rest inside same.
      none_among h s.stopped.good (s.stopped.taken ++ more) state r.inside (s.stopped.stops more can) s.among d rest inside (sym (append_assoc (header_text h) s.stopped.taken more) ∙ same);
}

body_breaks : {old mid now : Ahead} (h : Header) → state_after h ≡ expects (kinds_after h) → ReadsLine header_text IsHeaderWithin old h mid → BreaksAmong (kinds_after h) mid now → BreaksInside old now
unfolding Breaks-after
body_breaks h state r s = record {
  breaks = Breaks-after r.passes.reads s.breaks;
  none = none_among h s.good s.breaks.taken state r.inside s.stops s.among;
}

-- the exit of a `?` after a header
pub next_exit : {old mid : Ahead} (h : Header) (now : Ahead) (r : Result (Option Definition) CodeStop) (e : CodeStop) → (h ≡ header.End → ⊥)
    → ReadsLine header_text IsHeaderWithin old h mid → IsErrAnd r (λ f. f ≡ e) → BodyGives h mid (Err e) now → DefinitionGives old r now
next_exit h now (Ok o) e more read same gives = absurd same
next_exit {old} {mid} h now (Err f) e more read same gives = subst (λ (s : CodeStop). DefinitionGives old (Err s) now) (sym same) (exit e gives)
  where
    exit : (e : CodeStop) → BodyGives h mid (Err e) now → DefinitionGives old (Err e) now
    exit (stop.Fault (fault.Line n)) gives = body_stops h n (state_of h more) read gives
    exit (stop.Fault fault.Memory) gives = next_from h (state_of h more) read gives
    exit stop.Device gives = body_breaks h (state_of h more) read gives
