-- Lines taken in a row, and their values or texts put after others.
use Rattle.std.proofs.Common.{subst, ◌≡◌, ℕ, ◌+◌, ◌*◌, ◌-◌, ◌<◌, ◌≤◌, Bool, true, false, List, [], ◌∷◌, ◌++◌, length, map, take, replicate, Option, Some, None, Result, Ok, Err, IsErrAnd, refl, sym, ap, ◌∙◌, arith, append_assoc, append-nil, length-append, length-take}
use Rattle.std.specs.Prelude.{All, MatchResult, if◌then◌else◌}
use Rattle.std.specs.List.{flat_map}
use Rattle.std.specs.Io.{StartsWith}
use Rattle.std.proofs.Math.Seq.{take-append_seam}
use Rattle.std.proofs.lemmas.Bool.{false≢true}
use Rattle.std.proofs.lemmas.List.{length-replicate, length-map, take-take}
use Rattle.std.proofs.lemmas.List.Concat.{flat_map-append}
use Rattle.std.proofs.lemmas.List.Elements.{All-nil, All-head, All-tail, All-push, All-append}
use Rattle.bword.specs.ByteEnds.{Incoming, Took, TakesReady}
use Rattle.bword.specs.declared.edition.Edition.{Edition}
use Rattle.blang.specs.Text.{joined, header_line, definition_text}
use Rattle.blang.specs.declared.code.Definition.{Definition}
use Rattle.bcode.specs.Ahead.{Ahead, TakesBytes, TakesText, ReadsLine, ReadsLines, ReadsAtMost, LineGives, LinesGive, AreFirst, EndsAmong, ReadsBody, DefinitionGives, NextDefinitionGives}
use Rattle.bcode.specs.Copying.{BeginsWith, HasSome, PutsFound, PutsLines, SomeLinesGive, AllLinesGive, CopiesKinds, KindsGive, TextGives, is_last_text}
use Rattle.bcode.specs.Headers.{header_text, is_end, IsHeaderWithin}
use Rattle.bcode.specs.LineReading.{LineReader, IsExact}
use Rattle.bcode.specs.Readers.{MoreCanBeRead, StepGives, code_step, reader_of, reader_start, to_open}
use Rattle.bcode.specs.Stopping.{LineKind, IsOfKind, LineState, kinds_after}
use Rattle.bcode.specs.Streams.{IsLine, AreLines}
use Rattle.bcode.specs.declared.fault.CodeFault.TheVariants as fault
use Rattle.bcode.specs.declared.header.Header.{Header}
use Rattle.bcode.specs.declared.header.Header.TheVariants as header
use Rattle.bcode.specs.declared.code_stop.CodeStop.{CodeStop}
use Rattle.bcode.specs.declared.code_stop.CodeStop.TheVariants as stop
use Rattle.bcode.proofs.AheadLaws.{Reads-none, Reads-append, Passes-none, Passes-append, ReadsLines-none, ReadsLines-more, gives_lines}
use Rattle.bcode.proofs.BodyLaws.{first_after, flat_joined, state_of, reads_definition, next_exit}
use Rattle.bcode.proofs.CodeLaws.{made, OfKinds, OfState, header_of-text}
use Rattle.bcode.proofs.ReaderLaws.{next_gives}
use Rattle.bcode.proofs.StreamLaws.{AreLines-none, AreLines-one, AreLines-append, shape_whole}

abbrev at : Incoming → List ℕ → ℕ → Ahead
at end lender line = record { end = end; lender = lender; line = line }

push : {X : Type 0} (spell : X → List ℕ) (xs : List X) (x : X) → flat_map spell (xs ++ x ∷ []) ≡ flat_map spell xs ++ spell x
push spell xs x = flat_map-append spell xs (x ∷ []) ∙ ap (λ l. flat_map spell xs ++ l) (append-nil (spell x))

-- the exits where nothing was put
module _ {X Y : Type 0} (spell : X → List ℕ) (within : X → Type 0) (put : List X → List Y) (old new : Ahead) (before after : List Y) (most : ℕ) (r : Result ℕ CodeStop) where
  run_exit : (e : CodeStop) → IsErrAnd r (λ f. f ≡ e) → SomeLinesGive spell within put most old before (Err e) new after → SomeLinesGive spell within put most old before r new after
  run_exit e same gives = exit r same
    where
      exit : (r : Result ℕ CodeStop) → IsErrAnd r (λ f. f ≡ e) → SomeLinesGive spell within put most old before r new after
      exit (Ok n) same = absurd same
      exit (Err f) same = subst (λ (s : CodeStop). SomeLinesGive spell within put most old before (Err s) new after) (sym same) gives

  -- no line could be read
  pub one_exit : (e : CodeStop) → IsErrAnd r (λ f. f ≡ e) → LineGives spell within old (Err e) new → SomeLinesGive spell within put most old before r new after
  one_exit e same gives = run_exit e same (exit e gives)
    where
      exit : (e : CodeStop) → LineGives spell within old (Err e) new → SomeLinesGive spell within put most old before (Err e) new after
      exit (stop.Fault (fault.Line n)) gives = gives
      exit (stop.Fault fault.Memory) gives = absurd gives
      exit stop.Device gives = gives

  -- there was no room for what was read
  pub run_refused : IsErrAnd r (λ f. f ≡ stop.Fault fault.Memory) → ReadsAtMost spell within most old new → SomeLinesGive spell within put most old before r new after
  run_refused same read = run_exit (stop.Fault fault.Memory) same read

-- the exit of a `?` where all lines were to be put
pub all_exit : {X Y : Type 0} (spell : X → List ℕ) (within : X → Type 0) (put : List X → List Y) (old now : Ahead) (before after : List Y) (count : ℕ) (r : Result (Unit {0}) CodeStop) (e : CodeStop) → IsErrAnd r (λ f. f ≡ e)
    → LinesGive spell within {V = List X} (λ xs. xs) count old (Err e) now → AllLinesGive spell within put count old before r now after
all_exit spell within put old now before after count (Ok u) e same gives = absurd same
all_exit spell within put old now before after count (Err f) e same gives = subst (λ (s : CodeStop). AllLinesGive spell within put count old before (Err s) now after) (sym same) gives

pub refused : {A E : Type 0} (P : A → Type 0) (Q : Type 0) (f : E → Type 0) (r : Result A E) → IsErrAnd r f → Q → MatchResult r P (λ _. Q)
refused P Q f (Ok a) e q = absurd e
refused P Q f (Err x) e q = q

module _ {X : Type 0} {spell : X → List ℕ} {within : X → Type 0} where
  pub begins_more : {read : LineReader X} {count : ℕ} {text rest following : List ℕ} → IsExact spell within read → BeginsWith spell within count text rest → (x : X) → read rest ≡ Some (x, following)
      → BeginsWith spell within (count + 1) text following
  begins_more {read} {count} {text} {rest} {following} exact b x e =
      let h = exact.sound rest x following e in
      record {
        values = b.values ++ x ∷ [];
        all = length-append b.values (x ∷ []) ∙ ap (λ n. n + 1) b.all;
        inside = All-push within b.values x b.inside h.0;
        split = b.split ∙ ap (λ t. flat_map spell b.values ++ t) h.1 ∙ sym (append_assoc (flat_map spell b.values) (spell x) following)
            ∙ ap (λ t. t ++ following) (sym (push spell b.values x));
      }

  pub one_line : {old new : Ahead} {x : X} → ReadsLine spell within old x new → ReadsLines spell within 1 old (x ∷ []) new
  one_line {old} {new} {x} step = ReadsLines-more (x ∷ []) (ReadsLines-none old) step refl

  -- one line was taken
  pub one_taken : {Y : Type 0} {put : List X → List Y} {old new : Ahead} {before after : List Y} {x : X} (most : ℕ) → 0 < most → ReadsLine spell within old x new → after ≡ before ++ put (x ∷ [])
      → SomeLinesGive spell within put most old before (Ok 1) new after
  one_taken {Y} {put} {old} {new} {before} {after} {x} most some step stands =
      (omega arith, omega arith, record { values = x ∷ []; reads = one_line step; stands = stands })

  -- at most so many lines were read: none, or one
  pub none_at_most : (most : ℕ) (old : Ahead) → ReadsAtMost spell within most old old
  none_at_most most old = record { read = []; few = omega arith; inside = All-nil within; reads = Reads-none old }

  pub one_at_most : {end : Incoming} {lender : List ℕ} {old : Ahead} {x : X} (most line other : ℕ) → 0 < most → ReadsLine spell within old x (at end lender line) → ReadsAtMost spell within most old (at end lender other)
  one_at_most {end} {lender} {old} {x} most line other some step = record {
    read = x ∷ [];
    few = omega arith;
    inside = All-push within [] x (All-nil within) step.inside;
    reads = record {
      took = subst (λ (t : List ℕ). Took old.end t end) (sym (append-nil (spell x))) step.passes.reads.took;
      failures = step.passes.reads.failures;
      lender = step.passes.reads.lender;
    };
  }

  -- the one line that a text begins with
  pub one_put : {read : LineReader X} {count : ℕ} {text bytes rest : List ℕ} (before after : List X) → IsExact spell within read → text ≡ bytes → count ≤ 1 → 0 < count → PutsFound spell within true count text rest before after
      → (x : X) × (after ≡ before ++ x ∷ []) × (read bytes ≡ Some (x, rest))
  one_put {read} {count} {text} {bytes} {rest} before after exact same few some p = first p.0.values p.0.all p.0.inside (sym same ∙ p.0.split) p.1
    where
      first : (xs : List X) → length xs ≡ count → All within xs → bytes ≡ flat_map spell xs ++ rest → after ≡ before ++ xs → (x : X) × (after ≡ before ++ x ∷ []) × (read bytes ≡ Some (x, rest))
      first [] all inside split stands = absurd (omega (arith, all, some))
      first (x ∷ []) all inside split stands =
          let spelled : bytes ≡ spell x ++ rest = split ∙ ap (λ t. t ++ rest) (append-nil (spell x)) in
          (x, stands, ap read spelled ∙ exact.again x rest (All-head within x [] inside))
      first (x ∷ y ∷ xs) all inside split stands = absurd (omega (arith, all, few))

  pub one_found : {read : LineReader X} {count : ℕ} {text bytes rest : List ℕ} → IsExact spell within read → text ≡ bytes → count ≤ 1 → 0 < count → BeginsWith spell within count text rest
      → (x : X) × (read bytes ≡ Some (x, rest))
  one_found exact same few some b = let one = one_put [] b.values exact same few some (b, refl) in (one.0, one.2)

  -- no line of the form comes first where none was found
  pub none_first : (read : LineReader X) {count : ℕ} {text bytes rest : List ℕ} → text ≡ bytes → count ≡ 0 → (count < 1 → read rest ≡ None) → BeginsWith spell within count text rest → read bytes ≡ None
  none_first read {count} {text} {bytes} {rest} same nothing none b = ap read (none_before b.values (b.all ∙ nothing) (sym same ∙ b.split)) ∙ none (omega (arith, nothing))
    where
      none_before : (xs : List X) → length xs ≡ 0 → bytes ≡ flat_map spell xs ++ rest → bytes ≡ rest
      none_before [] all split = split
      none_before (x ∷ xs) all split = absurd (omega (arith, all))

  -- values put one after another
  pub puts_none : (keeps : Bool) (text : List ℕ) (before : List X) → PutsFound spell within keeps 0 text text before before
  puts_none keeps text before = (record { values = []; all = refl; inside = All-nil within; split = refl }, none keeps)
    where
      none : (keeps : Bool) → before ≡ before ++ (if keeps then [] else [])
      none true = sym (append-nil before)
      none false = sym (append-nil before)

  pub puts_more : {read : LineReader X} {count : ℕ} {text rest following : List ℕ} (keeps : Bool) (before : List X) {between after : List X} → IsExact spell within read
      → PutsFound spell within keeps count text rest before between → (x : X) → read rest ≡ Some (x, following) → after ≡ between ++ (if keeps then x ∷ [] else [])
      → PutsFound spell within keeps (count + 1) text following before after
  unfolding begins_more
  puts_more {read} {count} {text} {rest} {following} true before {between} {after} exact p x e pushed =
      (begins_more exact p.0 x e, pushed ∙ ap (λ l. l ++ x ∷ []) p.1 ∙ append_assoc before p.0.values (x ∷ []))
  puts_more {read} {count} {text} {rest} {following} false before {between} {after} exact p x e pushed =
      (begins_more exact p.0 x e, pushed ∙ append-nil between ∙ p.1)

  -- there was no room for a value
  pub value_refused : {read : LineReader X} {count most : ℕ} {text rest following : List ℕ} → IsExact spell within read → BeginsWith spell within count text rest → count < most
      → (x : X) → read rest ≡ Some (x, following) → HasSome spell within most text
  value_refused {read} {count} {most} {text} {rest} {following} exact b less x e =
      record { count = count + 1; some = omega arith; few = omega arith; rest = following; found = begins_more exact b x e }

  pub nothing_put : {count : ℕ} {text rest : List ℕ} {before after : List X} → count ≡ 0 → PutsFound spell within true count text rest before after → after ≡ before
  nothing_put {count} {text} {rest} {before} {after} nothing p = p.1 ∙ none_after p.0.values (p.0.all ∙ nothing)
    where
      none_after : (xs : List X) → length xs ≡ 0 → before ++ xs ≡ before
      none_after [] e = append-nil before
      none_after (x ∷ xs) e = absurd (omega (arith, e))

  -- lines that are whole among the bytes ahead
  module _ (shape : (x : X) → within x → IsLine 128 (spell x)) where
    whole_lines : (xs : List X) → All within xs → AreLines (length xs) (flat_map spell xs)
    whole_lines [] all = AreLines-none
    whole_lines (x ∷ xs) all =
        let count : 1 + length xs ≡ length (x ∷ xs) = omega arith in
        subst (λ (n : ℕ). AreLines n (flat_map spell (x ∷ xs))) count (AreLines-append (AreLines-one (spell x) (shape_whole (shape x (All-head within x xs all)))) (whole_lines xs (All-tail within x xs all)))

    two_each : (xs : List X) → All within xs → 2 * length xs ≤ length (flat_map spell xs)
    two_each [] all = omega arith
    two_each (x ∷ xs) all =
        let s = shape x (All-head within x xs all) in
        let some = s.some in
        let others = two_each xs (All-tail within x xs all) in
        omega (arith, length-append (spell x) (flat_map spell xs), ap length s.ends, length-append s.before (10 ∷ []))

    module _ (ready text : List ℕ) (shown : StartsWith ready text) (count : ℕ) (rest : List ℕ) (found : BeginsWith spell within count text rest) where
      abbrev bytes : List ℕ
      bytes = flat_map spell found.values

      before_rest : length text - length rest ≡ length bytes
      before_rest = omega (arith, ap length found.split, length-append bytes rest)

      pub run_shorter : length rest ≤ length text
      run_shorter = omega (arith, ap length found.split, length-append bytes rest)

      pub run_fits : length text - length rest ≤ length ready
      run_fits = omega (arith, ap length shown, length-take (length text) ready)

      pub run_text : take (length text - length rest) text ≡ bytes
      run_text = ap (λ n. take n text) before_rest ∙ ap (take (length bytes)) found.split ∙ take-append_seam bytes rest

      run_ready : take (length text - length rest) ready ≡ bytes
      run_ready =
          let whole : take (length text) ready ≡ bytes ++ rest = shown ∙ found.split in
          let short : length bytes ≤ length text = omega (arith, before_rest) in
          ap (λ n. take n ready) before_rest ∙ sym (take-take (length bytes) (length text) ready short)
          ∙ ap (take (length bytes)) whole ∙ take-append_seam bytes rest

      module _ {old new : Incoming} (t : TakesReady old (take (length text - length rest) ready) new) where
        pub run_takes : {Y : Type 0} {put : List X → List Y} {lender lender' : List ℕ} {before after : List Y} (line most : ℕ) → lender' ≡ lender → 0 < count → count ≤ most → after ≡ before ++ put found.values
            → SomeLinesGive spell within put most (at old lender line) before (Ok count) (at new lender' (line + count)) after
        run_takes {Y} {put} {lender} {lender'} {before} {after} line most same some few stands = (
          some,
          few,
          record {
            values = found.values;
            reads = record {
              all = found.all;
              inside = found.inside;
              passes = record {
                reads = record { took = subst (λ (l : List ℕ). Took old l new) run_ready t.took; failures = t.failures; lender = same };
                lines = subst (λ (n : ℕ). AreLines n bytes) found.all (whole_lines found.values found.inside);
                counted = refl;
              };
            };
            stands = stands;
          },
        )

        -- two bytes at least of each were taken
        pub run_falls : new.bound + 2 * count ≤ old.bound
        run_falls =
            let falls = t.took.bound in
            let each = two_each found.values found.inside in
            omega (arith, ap length run_ready, found.all)

  -- lines after those that were taken
  module _ {Y : Type 0} {put : List X → List Y} where
    pub lines_none : put [] ≡ [] → (old : Ahead) (before : List Y) → PutsLines spell within put 0 old before old before
    lines_none nothing old before = record { values = []; reads = ReadsLines-none old; stands = sym (append-nil before) ∙ ap (λ t. before ++ t) (sym nothing) }

    pub lines_more : ((xs ys : List X) → put (xs ++ ys) ≡ put xs ++ put ys) → {old mid new : Ahead} {before between after : List Y} {i n : ℕ} → PutsLines spell within put i old before mid between → PutsLines spell within put n mid between new after
        → PutsLines spell within put (i + n) old before new after
    lines_more splits {old} {mid} {new} {before} {between} {after} {i} {n} h k =
        let both = flat_map-append spell h.values k.values in
        record {
          values = h.values ++ k.values;
          reads = record {
            all = omega (arith, length-append h.values k.values, h.reads.all, k.reads.all);
            inside = All-append within h.values k.values h.reads.inside k.reads.inside;
            passes = subst (λ (t : List ℕ). TakesText old t (i + n) new) (sym both) (Passes-append h.reads.passes k.reads.passes);
          };
          stands = k.stands ∙ ap (λ t. t ++ put k.values) h.stands ∙ append_assoc before (put h.values) (put k.values) ∙ ap (λ t. before ++ t) (sym (splits h.values k.values));
        }

    pub several_exit : {V : Type 0} (items : V → List X) {old mid : Ahead} {before between : List Y} {i : ℕ} (now : Ahead) (after : List Y) (most count : ℕ) (r : Result V CodeStop) (e : CodeStop) → 0 < most → i + most ≤ count → PutsLines spell within put i old before mid between
        → IsErrAnd r (λ f. f ≡ e) → SomeLinesGive spell within put most mid between (Err e) now after → LinesGive spell within items count old r now
    several_exit items now after most count (Ok v) e some few h same gives = absurd same
    several_exit {V} items {old} {mid} {before} {between} {i} now after most count (Err f) e some few h same gives = subst (λ (s : CodeStop). LinesGive spell within items count old (Err s) now) (sym same) (exit e gives)
      where
        exit : (e : CodeStop) → SomeLinesGive spell within put most mid between (Err e) now after → LinesGive spell within items count old (Err e) now
        exit (stop.Fault (fault.Line n)) gives = gives_lines items count now (Err (stop.Fault (fault.Line n))) (stop.Fault (fault.Line n)) h.reads (omega arith) refl gives
        exit (stop.Fault fault.Memory) gives = record {
          read = h.values ++ gives.read;
          few = (let n = gives.few in omega (arith, length-append h.values gives.read, h.reads.all));
          inside = All-append within h.values gives.read h.reads.inside gives.inside;
          reads = subst (λ (t : List ℕ). TakesBytes old t now) (sym (flat_map-append spell h.values gives.read)) (Reads-append h.reads.passes.reads gives.reads);
        }
        exit stop.Device gives = gives_lines items count now (Err stop.Device) stop.Device h.reads (omega arith) refl gives

  -- the values of all lines
  pub values_read : {old new : Ahead} {values : List X} {count : ℕ} → PutsLines spell within (λ xs. xs) count old [] new values → ReadsLines spell within count old values new
  values_read {old} {new} {values} {count} p = subst (λ (xs : List X). ReadsLines spell within count old xs new) (sym p.stands) p.reads

-- lines of one kind, and then those of others

pub kinds_none : (old : Ahead) (before : List ℕ) → CopiesKinds [] old before old before
kinds_none old before = record { lines = []; first = tt; all = refl; passes = Passes-none old; copied = sym (append-nil before) }

module _ {X : Type 0} (spell : X → List ℕ) (within : X → Type 0) (kind : LineKind) (of_kind : (x : X) → within x → IsOfKind kind (spell x)) where
  pub kinds_then : {old mid new : Ahead} {before between after : List ℕ} (count : ℕ) (ks : List LineKind) → PutsLines spell within (flat_map spell) count old before mid between → CopiesKinds ks mid between new after
      → CopiesKinds (replicate count kind ++ ks) old before new after
  kinds_then {old} {mid} {new} {before} {between} {after} count ks h k =
      let lines = map spell h.values ++ k.lines in
      let text : joined lines ≡ flat_map spell h.values ++ joined k.lines = flat_map-append (λ l. l) (map spell h.values) k.lines ∙ ap (λ l. l ++ joined k.lines) (sym (flat_joined spell h.values)) in
      let number : length lines ≡ count + length k.lines = omega (arith, length-append (map spell h.values) k.lines, length-map h.values spell, h.reads.all) in
      record {
        lines = lines;
        first = subst (λ (n : ℕ). AreFirst lines (replicate n kind ++ ks)) h.reads.all (first_after spell within kind of_kind h.values ks k.lines h.reads.inside k.first);
        all = omega (arith, number, k.all, length-append (replicate count kind) ks, length-replicate count kind);
        passes = rw (text, number) (Passes-append h.reads.passes k.passes);
        copied = k.copied ∙ ap (λ t. t ++ joined k.lines) h.stands ∙ append_assoc before (flat_map spell h.values) (joined k.lines) ∙ ap (λ t. before ++ t) (sym text);
      }

  pub kinds_last : {old new : Ahead} {before after : List ℕ} (count : ℕ) → PutsLines spell within (flat_map spell) count old before new after → CopiesKinds (replicate count kind) old before new after
  kinds_last {old} {new} {before} {after} count h =
      subst (λ (ks : List LineKind). CopiesKinds ks old before new after) (append-nil (replicate count kind)) (kinds_then count [] h (kinds_none new after))

pub kinds_exit : (old now : Ahead) (before after : List ℕ) (kinds : List LineKind) (r : Result (Unit {0}) CodeStop) (e : CodeStop) → IsErrAnd r (λ f. f ≡ e) → EndsAmong kinds old e now
    → KindsGive kinds old before r now after
kinds_exit old now before after kinds (Ok u) e same ends = absurd same
kinds_exit old now before after kinds (Err f) e same ends = subst (λ (s : CodeStop). KindsGive kinds old before (Err s) now after) (sym same) ends

-- the text of a definition

pub text_exit : (before after : List ℕ) (gives : Result (Option Definition) CodeStop → Type 0) (r : Result Bool CodeStop) (e : CodeStop) → IsErrAnd r (λ f. f ≡ e) → gives (Err e) → TextGives gives r before after
text_exit before after gives (Ok is_one) e same given = absurd same
text_exit before after gives (Err f) e same given = subst (λ (s : CodeStop). TextGives gives (Err s) before after) (sym same) given

pub one_given : (before after : List ℕ) (gives : Result (Option Definition) CodeStop → Type 0) (b : Bool) → b ≡ true → TextGives gives (Ok b) before after
    → (d : Definition) × gives (Ok (Some d)) × (after ≡ before ++ definition_text d)
one_given before after gives b e given = subst (λ (z : Bool). TextGives gives (Ok z) before after) e given

pub none_given : (before after : List ℕ) (gives : Result (Option Definition) CodeStop → Type 0) (b : Bool) → b ≡ false → TextGives gives (Ok b) before after → gives (Ok None) × (after ≡ before)
none_given before after gives b e given = subst (λ (z : Bool). TextGives gives (Ok z) before after) e given

more_comes : (h : Header) → is_end h ≡ false → h ≡ header.End → ⊥
more_comes h more e = false≢true (sym more ∙ ap is_end e)

all_of : (ks : List LineKind) (ls : List (List ℕ)) → AreFirst ls ks → length ls ≡ length ks → OfKinds ks ls
all_of [] [] first all = refl
all_of [] (l ∷ ls) first all = absurd first
all_of (k ∷ ks) [] first all = absurd (omega arith)
all_of (k ∷ ks) (l ∷ ls) first all = (first.0, all_of ks ls first.1 (omega arith))

module _ {old mid : Ahead} (h : Header) (read : ReadsLine header_text IsHeaderWithin old h mid) where
  module _ (more : is_end h ≡ false) (before after : List ℕ) where
    -- there was no room for its first line
    pub header_refused : (r : Result Bool CodeStop) → IsErrAnd r (λ f. f ≡ stop.Fault fault.Memory) → TextGives (λ a. DefinitionGives old a mid) r before after
    header_refused r same =
        text_exit before after (λ a. DefinitionGives old a mid) r (stop.Fault fault.Memory) same
        (next_exit h mid (Err (stop.Fault fault.Memory)) (stop.Fault fault.Memory) (more_comes h more) read refl record { lines = []; first = tt; reads = Reads-none mid })

    pub body_refused : (now : Ahead) (r : Result Bool CodeStop) (e : CodeStop) → IsErrAnd r (λ f. f ≡ e) → EndsAmong (kinds_after h) mid e now → TextGives (λ a. DefinitionGives old a now) r before after
    body_refused now r e same ends =
        text_exit before after (λ a. DefinitionGives old a now) r e same (next_exit h now (Err e) e (more_comes h more) read refl ends)

    pub definition_copied : {now : Ahead} {between : List ℕ} → between ≡ before ++ header_text h → CopiesKinds (kinds_after h) mid between now after
        → TextGives (λ a. DefinitionGives old a now) (Ok true) before after
    definition_copied {now} {between} first k =
        let m = made h k.lines read.inside (subst (λ (z : LineState). OfState z k.lines) (sym (state_of h (more_comes h more))) (all_of (kinds_after h) k.lines k.first k.all)) in
        let d = m.definition in
        let body : ReadsBody h mid d now = record { header = m.header; inside = m.inside; passes = subst (λ (ls : List (List ℕ)). TakesText mid (joined ls) (length ls) now) m.lines k.passes } in
        let text : header_text h ++ joined k.lines ≡ definition_text d =
        ap (λ t. t ++ joined k.lines) (ap header_text (sym m.header) ∙ header_of-text d) ∙ ap (λ ls. header_line d ++ joined ls) m.lines in
        (d, reads_definition h d read body, k.copied ∙ ap (λ t. t ++ joined k.lines) first ∙ append_assoc before (header_text h) (joined k.lines) ∙ ap (λ t. before ++ t) text)

-- a call of the reader
text_gives : (edition : Edition) (source : Incoming) (lender : List ℕ) (b : Bool) (at new : Ahead) (before after : List ℕ) → MoreCanBeRead (reader_of (reader_start edition source lender) at b false) → (r : Result Bool CodeStop)
    → TextGives (λ a. NextDefinitionGives (to_open b edition) at a new) r before after
    → let now = reader_of (reader_start edition source lender) new true (is_last_text r) in
    TextGives (λ a. StepGives (reader_of (reader_start edition source lender) at b false) (code_step a) now) r before after × (is_last_text r ≡ false → MoreCanBeRead now)
text_gives edition source lender b at new before after is_open (Ok true) gives =
    let given = next_gives edition source lender b at new is_open (Ok (Some gives.0)) gives.1 in ((gives.0, given.0, gives.2), given.1)
text_gives edition source lender b at new before after is_open (Ok false) gives =
    let given = next_gives edition source lender b at new is_open (Ok None) gives.0 in ((given.0, gives.1), given.1)
text_gives edition source lender b at new before after is_open (Err (stop.Fault f)) gives = next_gives edition source lender b at new is_open (Err (stop.Fault f)) gives
text_gives edition source lender b at new before after is_open (Err stop.Device) gives = next_gives edition source lender b at new is_open (Err stop.Device) gives

pub text_call : (edition : Edition) (source : Incoming) (lender : List ℕ) (b closed : Bool) (at new : Ahead) (before after : List ℕ) → closed ≡ false → (closed ≡ false → MoreCanBeRead (reader_of (reader_start edition source lender) at b closed))
    → (opens : Bool) → opens ≡ to_open b edition → (r : Result Bool CodeStop) → TextGives (λ a. NextDefinitionGives opens at a new) r before after → (last : Bool) → last ≡ is_last_text r
    → TextGives (λ a. StepGives (reader_of (reader_start edition source lender) at b closed) (code_step a) (reader_of (reader_start edition source lender) new true last)) r before after
    × (last ≡ false → MoreCanBeRead (reader_of (reader_start edition source lender) new true last))
text_call edition source lender b closed at new before after closed_is is_open opens opens_is r gives last last_is =
    let start = reader_start edition source lender in
    let can_come = subst (λ (z : Bool). MoreCanBeRead (reader_of start at b z)) closed_is (is_open closed_is) in
    let base = text_gives edition source lender b at new before after can_come r (subst (λ (z : Bool). TextGives (λ a. NextDefinitionGives z at a new) r before after) opens_is gives) in
    let P = λ (z l : Bool). TextGives (λ a. StepGives (reader_of start at b z) (code_step a) (reader_of start new true l)) r before after × (l ≡ false → MoreCanBeRead (reader_of start new true l)) in
    subst (λ (z : Bool). P z last) (sym closed_is) (subst (λ (l : Bool). P false l) (sym last_is) base)
