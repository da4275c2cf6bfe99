-- What a call of the compiler comes to, counted from when the compiler was made.
use Rattle.std.proofs.Common.{◌≡◌, ℕ, zero, suc, ◌+◌, length-append, ◌≤◌, Bool, true, false, List, [], ◌∷◌, ◌++◌, length, map, take, drop, get_or, Option, Some, None, Result, Ok, Err, refl, sym, ap, ◌∙◌, subst, append_assoc, append-nil, arith, ◌⊎◌, inl, inr, if◌then◌else◌}
use Rattle.std.proofs.lemmas.List.{map-append, length-map}
use Rattle.std.proofs.Math.Seq.{drop-append_seam}
use Rattle.bword.specs.ByteEnds.{Incoming, Outgoing, Took, Writes, CanFollow}
use Rattle.bword.specs.declared.ends.EndFault.{EndFault}
use Rattle.bword.specs.declared.ends.EndFault.TheVariants as end_fault
use Rattle.bword.proofs.Putting.{Writes-none, Writes-append}
use Rattle.blang.specs.Text.{joined, opening}
use Rattle.bword.proofs.Taking.{nil-append}
use Rattle.blex.proofs.Passing.{Grew-after, Took-none, Took-append}
use Rattle.blang.specs.Cut.{tokens_from}
use Rattle.blang.specs.Endings.{EndsWith}
use Rattle.blang.specs.declared.token.Diagnostic.{Diagnostic}
use Rattle.blang.specs.declared.token.Placed.{Placed}
use Rattle.bgrammar.specs.Compiled.{AreNames}
use Rattle.blang.specs.Compiles.{Compilation, CompilesTo, ending, compiled_text}
use Rattle.blang.specs.Trees.{Definition, kept}
use Rattle.blang.specs.Walk.{spell_definition, spell_all}
use Rattle.blang.specs.WellFormed.{IsFormed, AllFormed}
use Rattle.bgrammar.specs.DefinitionReader.{definition}
use Rattle.bgrammar.specs.Reading.{Got}
use Rattle.bgrammar.specs.Unread.{kept_read}
use Rattle.bgrammar.proofs.Membership.{are_names_after, are_names_push}
use Rattle.bgrammar.proofs.GoesLaws.{goes_once, goes_some}
use Rattle.bgrammar.proofs.GoesReads.{Taken, got_taken}
use Rattle.bgrammar.proofs.LawProofs.{definition_read, lines_unread}
use Rattle.bgrammar.proofs.ProgramLaws.{read_there}
use Rattle.bgrammar.proofs.ReadingBack.{joined-append}
use Rattle.bemit.specs.Trails.{definition_trail}
use Rattle.blang.specs.Lines.{lines_of, program_lines, lines_after}
use Rattle.bcodegen.proofs.DefinitionNotes.{one_trail}
use Rattle.bread.specs.Tokens.{lines_in, tokens_of, IsReady, LooksAt, last_ahead}
use Rattle.bread.proofs.TokenSteps.{EndsWith-append}
use Rattle.bparse.specs.Steps.{AreOfSource, Point, point, name_of, Writing, Stopping, Breaking, BreakingNear, ReadFails, OutRefuses, NamesRefuse, OpensAndGives, GivesNext, PointGives, refused_step, to_begin}
use Rattle.bparse.specs.Compilers.{CompilerStart, Compiler, compiler_of, Spelled, GoesOnAfter, OpeningWritten, HasWrittenSince, MoreCanBeWritten, Wrote, StoppedAfter, BrokeOff, BrokeOffNear, TakenNear, GivesAfter, CompilerGives}
use Rattle.bparse.specs.Compilers as compilers
use Rattle.bparse.specs.declared.step.Step.{Step}
use Rattle.bparse.specs.declared.step.Step.TheVariants as step
use Rattle.bparse.proofs.CompilerSteps.{tokens_of-ended}

pub spell_all-append : (ds : List Definition) (d : Definition) → spell_all (ds ++ d ∷ []) ≡ spell_all ds ++ spell_definition d
spell_all-append [] d = append-nil (spell_definition d)
spell_all-append (e ∷ ds) d = ap (λ l. spell_definition e ++ l) (spell_all-append ds d) ∙ sym (append_assoc (spell_definition e) (spell_all ds) (spell_definition d))

pub AllFormed-append : (ds : List Definition) (d : Definition) → AllFormed ds → IsFormed d → AllFormed (ds ++ d ∷ [])
AllFormed-append [] d h f = (f, tt)
AllFormed-append (e ∷ ds) d h f = (h.0, AllFormed-append ds d h.1 f)

texts-append : (ds : List Definition) (d : Definition) → joined (map compiled_text (ds ++ d ∷ [])) ≡ joined (map compiled_text ds) ++ compiled_text d
texts-append ds d =
    ap joined (map-append compiled_text ds (d ∷ [])) ∙ joined-append (map compiled_text ds) (compiled_text d ∷ []) ∙ ap (λ l. joined (map compiled_text ds) ++ l) (append-nil (compiled_text d))

-- nothing is written at first
pub since_new : (start : CompilerStart) → HasWrittenSince (compilers.new start) []
since_new start = record {
  taken = [];
  took = Took-none start.source;
  failures = refl;
  unbegun = λ e. (refl, refl);
  written = Writes-none start.out;
  names = record { members = λ x. refl; size = refl };
  formed = tt;
  spelled = λ more f. record { passed = []; split = refl; spelled = refl };
  comes = λ more f r g. (r, g, record { code = refl; stop = refl });
  near = record { passed = []; split = refl; few = omega arith; edition_is = refl; ends = λ p e. cc };
  is_open = refl;
}

pub of_source : (c : Compiler) → MoreCanBeWritten c → AreOfSource c.tokens
of_source c m more f = let s = m.since.spelled more f in (c.first.edition, m.since.taken ++ more, s.passed, s.split)

pub is_open_new : (start : CompilerStart) → MoreCanBeWritten (compilers.new start)
is_open_new start = record { before = []; since = since_new start; ready = refl }

-- what could follow after could follow before
pub follow : {a b : Incoming} {ys : List ℕ} → Took a ys b → (more : List ℕ) → CanFollow b more → CanFollow a (ys ++ more)
follow {a} {b} {ys} t more f = λ over. let o = t.over over in nil-append ys more o.0 (f o.1)

-- a compiler at a point
abbrev pub compiler_at : CompilerStart → Point → List ℕ → Bool → Bool → Compiler
compiler_at first p lender is_begun is_closed = compiler_of first p.tokens p.locals p.names p.out lender is_begun is_closed

-- what was written, with what the text begins with
pub written_begun : (first : CompilerStart) (begun : Bool) (before : List Definition) (out mid : Outgoing) → (begun ≡ false → before ≡ [])
    → Writes first.out ((if begun then opening first.edition else []) ++ joined (map compiled_text before)) out
    → Writes out (to_begin begun first.edition) mid → (to_begin begun first.edition ≡ [] → mid ≡ out)
    → Writes first.out (opening first.edition ++ joined (map compiled_text before)) mid
written_begun first true before out mid none w o same = subst (λ x. Writes first.out (opening first.edition ++ joined (map compiled_text before)) x) (sym (same refl)) w
written_begun first false before out mid none w o same =
    let e = none refl in
    subst (λ ds. Writes first.out (opening first.edition ++ joined (map compiled_text ds)) mid) (sym e)
    (subst (λ l. Writes first.out l mid) (sym (append-nil (opening first.edition))) (Writes-append (subst (λ ds. Writes first.out (joined (map compiled_text ds)) out) e w) o))

-- the tokens that were taken spell the tree
pub tree_spelled : (u v : List Placed) (d : Definition) (t : Taken u v) → definition u ≡ Got d v → map kept t.tokens ≡ spell_definition d
tree_spelled u v d t h =
    (read_there t.tokens v d (ap definition (sym (map-append kept t.tokens v) ∙ ap (map kept) (sym t.split)) ∙ lines_unread u ∙ ap kept_read h)).0

-- an outcome that begins with one text more
after_more : (ds : List Definition) (d : Definition) (rest later r : Compilation) → GoesOnAfter ds rest r → rest ≡ record { code = compiled_text d ∷ later.code; stop = later.stop } → GoesOnAfter (ds ++ d ∷ []) later r
after_more ds d rest later r h e = record {
  code = h.code ∙ ap (λ x. map compiled_text ds ++ x.code) e ∙ sym (append_assoc (map compiled_text ds) (compiled_text d ∷ []) later.code) ∙ ap (λ l. l ++ later.code) (sym (map-append compiled_text ds (d ∷ [])));
  stop = h.stop ∙ ap (λ x. x.stop) e;
}

-- the lines after definitions, by the tokens that spell them
drop_none : (n : ℕ) → drop {A = ℕ} n [] ≡ []
drop_none zero = refl
drop_none (suc n) = refl

drop_twice : (m n : ℕ) (ls : List ℕ) → drop n (drop m ls) ≡ drop (m + n) ls
drop_twice zero n ls = let e : n ≡ 0 + n = omega arith in ap (λ k. drop k ls) e
drop_twice (suc m) n [] = drop_none n ∙ sym (drop_none (suc m + n))
drop_twice (suc m) n (l ∷ ls) = let e : suc (m + n) ≡ suc m + n = omega arith in drop_twice m n ls ∙ ap (λ k. drop k (l ∷ ls)) e

lines_after_all : (ds : List Definition) (ls : List ℕ) → lines_after ds ls ≡ drop (length (spell_all ds)) ls
lines_after_all [] ls = refl
lines_after_all (d ∷ ds) ls =
    lines_after_all ds (drop (length (spell_definition d)) ls) ∙ drop_twice (length (spell_definition d)) (length (spell_all ds)) ls
    ∙ ap (λ n. drop n ls) (sym (length-append (spell_definition d) (spell_all ds)))

after_spelled : (ds : List Definition) (ts others : List Placed) → Spelled ds ts others → lines_after ds (lines_in ts) ≡ lines_in others
after_spelled ds ts others s =
    lines_after_all ds (lines_in ts) ∙ ap (drop (length (spell_all ds))) (ap lines_in s.split ∙ map-append (λ p. p.line) s.passed others)
    ∙ ap (λ n. drop n (lines_in s.passed ++ lines_in others)) (ap length (sym s.spelled) ∙ length-map s.passed kept ∙ sym (length-map s.passed (λ p. p.line)))
    ∙ drop-append_seam (lines_in s.passed) (lines_in others)

take_front : (xs ys : List ℕ) → take (length xs) (xs ++ ys) ≡ xs
take_front [] ys = refl
take_front (x ∷ xs) ys = ap (λ l. x ∷ l) (take_front xs ys)

-- a call of a compiler with this output, which writes what the text begins with, and is then at a point
module _ (first : CompilerStart) (a b : Point) (lender lender' : List ℕ) (out : Outgoing) (begun : Bool) (before : List Definition)
    (since : HasWrittenSince (compiler_of first a.tokens a.locals a.names out lender begun false) before) (opens : OpeningWritten (compiler_of first a.tokens a.locals a.names out lender begun false) a.out) where
  abbrev old : Compiler
  old = compiler_of first a.tokens a.locals a.names out lender begun false

  written_before : Writes first.out (opening first.edition ++ joined (map compiled_text before)) a.out
  written_before = written_begun first begun before out a.out (λ e. (since.unbegun e).0) since.written opens.written opens.nothing

  -- the outcome from this point on
  from_here : (ys more : List ℕ) → Took a.tokens.source.end ys b.tokens.source.end → CanFollow b.tokens.source.end more → (r : Compilation) → CompilesTo [] (tokens_from first.edition 1 ((since.taken ++ ys) ++ more)) r
      → (rest : Compilation) × CompilesTo a.names (tokens_of a.tokens (ys ++ more)) rest × GoesOnAfter before rest r
  from_here ys more took f r g =
      since.comes (ys ++ more) (follow took more f) r (subst (λ bs. CompilesTo [] (tokens_from first.edition 1 bs) r) (append_assoc since.taken ys more) g)

  module _ (taken : List ℕ) (k : LooksAt a.tokens taken b.tokens) where
    ends_at : (p : Placed) → EndsWith a.tokens.source.edition p.token k.bytes ⊎ ((k.bytes ≡ []) × (last_ahead a.tokens.ahead ≡ Some p)) → EndsWith first.edition p.token (since.near.passed ++ k.bytes)
    ends_at p (inl h) = EndsWith-append since.near.passed (subst (λ x. EndsWith x p.token k.bytes) since.near.edition_is h)
    ends_at p (inr h) = subst (EndsWith first.edition p.token) (sym (append-nil since.near.passed) ∙ ap (λ l. since.near.passed ++ l) (sym h.0)) (since.near.ends p h.1)

    near_now : length b.tokens.source.ahead ≤ 2 → TakenNear first.edition (since.taken ++ taken) b.tokens
    near_now few = record {
      passed = since.near.passed ++ k.bytes;
      split = ap (λ l. l ++ taken) since.near.split ∙ append_assoc since.near.passed a.tokens.source.ahead taken ∙ ap (λ l. since.near.passed ++ l) k.split
          ∙ sym (append_assoc since.near.passed k.bytes b.tokens.source.ahead);
      few = few;
      edition_is = k.edition ∙ since.near.edition_is;
      ends = λ p e. ends_at p (k.ends p e);
    }

  module _ (w : Writing a b) where
    spelled_now : (more : List ℕ) → CanFollow b.tokens.source.end more → Spelled (before ++ w.tree ∷ []) (tokens_from first.edition 1 ((since.taken ++ w.taken) ++ more)) (tokens_of b.tokens more)
    spelled_now more f =
        let q = since.spelled (w.taken ++ more) (follow w.reads.took more f) in
        let u = tokens_of a.tokens (w.taken ++ more) in
        let v = tokens_of b.tokens more in
        let t = got_taken u v w.tree (w.read more f) in
        record {
          passed = q.passed ++ t.tokens;
          split = ap (tokens_from first.edition 1) (append_assoc since.taken w.taken more) ∙ q.split ∙ ap (λ l. q.passed ++ l) t.split ∙ sym (append_assoc q.passed t.tokens v);
          spelled = map-append kept q.passed t.tokens ∙ ap (λ l. l ++ map kept t.tokens) q.spelled
              ∙ ap (λ l. spell_all before ++ l) (tree_spelled u v w.tree t (w.read more f)) ∙ sym (spell_all-append before w.tree);
        }

    comes_now : (more : List ℕ) → CanFollow b.tokens.source.end more → (r : Compilation) → CompilesTo [] (tokens_from first.edition 1 ((since.taken ++ w.taken) ++ more)) r
        → (rest : Compilation) × CompilesTo b.names (tokens_of b.tokens more) rest × GoesOnAfter (before ++ w.tree ∷ []) rest r
    comes_now more f r g =
        let q = from_here w.taken more w.reads.took f r g in
        let some = goes_some b.names (tokens_of b.tokens more) (tokens_of-ended b.tokens more) in
        (some.outcome, some.goes, after_more before w.tree q.0 some.outcome r q.2 (goes_once q.1 (w.comes more f some.outcome some.goes)))

    -- the tokens of the definition, and their lines
    module _ (more : List ℕ) (f : CanFollow b.tokens.source.end more) where
      abbrev u : List Placed
      u = tokens_of a.tokens (w.taken ++ more)

      abbrev others : List ℕ
      others = lines_in (tokens_of b.tokens more)

      abbrev here : Taken u (tokens_of b.tokens more)
      here = got_taken u (tokens_of b.tokens more) w.tree (w.read more f)

      abbrev own : List ℕ
      own = lines_in here.tokens

      own_length : length own ≡ length (spell_definition w.tree)
      own_length = length-map here.tokens (λ p. p.line) ∙ sym (length-map here.tokens kept) ∙ ap length (tree_spelled u (tokens_of b.tokens more) w.tree here (w.read more f))

      lines_split : lines_in u ≡ own ++ others
      lines_split = ap lines_in here.split ∙ map-append (λ p. p.line) here.tokens (tokens_of b.tokens more)

      lines_here : lines_after before (lines_in (tokens_from first.edition 1 ((since.taken ++ w.taken) ++ more))) ≡ own ++ others
      lines_here =
          ap (λ bs. lines_after before (lines_in (tokens_from first.edition 1 bs))) (append_assoc since.taken w.taken more)
          ∙ after_spelled before _ u (since.spelled (w.taken ++ more) (follow w.reads.took more f)) ∙ lines_split

      taken_own : take (length (spell_definition w.tree)) (own ++ others) ≡ own
      taken_own = ap (λ n. take n (own ++ others)) (sym own_length) ∙ take_front own others

      lines_now : b.tokens.noted.lines ≡ program_lines (w.tree ∷ []) (lines_after before (lines_in (tokens_from first.edition 1 ((since.taken ++ w.taken) ++ more))))
      lines_now =
          let formed = (definition_read (tokens_of a.tokens (w.taken ++ [])) (tokens_of b.tokens []) w.tree (w.read [] (λ over. refl))).1 in
          ap (λ t. t.noted.lines) (sym (w.lines more f)) ∙ ap (λ l. (definition_trail w.tree l).noted.lines) lines_split
          ∙ (one_trail a.names w.tree formed w.clean own others own_length).lines
          ∙ ap (λ l. lines_of (λ k. get_or l k 0) w.tree) (sym taken_own)
          ∙ sym (append-nil (lines_of (λ k. get_or (take (length (spell_definition w.tree)) (own ++ others)) k 0) w.tree))
          ∙ ap (program_lines (w.tree ∷ [])) (sym lines_here)

    since_now : HasWrittenSince (compiler_at first b lender' true false) (before ++ w.tree ∷ [])
    since_now = record {
      taken = since.taken ++ w.taken;
      took = Took-append since.took w.reads.took;
      near = near_now w.taken w.looked w.reads.near;
      failures = w.failures ∙ since.failures;
      unbegun = λ e. cc;
      written = subst (λ t. Writes first.out t b.out)
          (append_assoc (opening first.edition) (joined (map compiled_text before)) (compiled_text w.tree) ∙ ap (λ l. opening first.edition ++ l) (sym (texts-append before w.tree)))
          (Writes-append written_before w.written);
      names = subst (AreNames b.names) (sym (map-append name_of before (w.tree ∷ []))) (are_names_after _ _ _ w.names (are_names_push a.names (map name_of before) (name_of w.tree) since.names));
      formed = AllFormed-append before w.tree since.formed (definition_read (tokens_of a.tokens (w.taken ++ [])) (tokens_of b.tokens []) w.tree (w.read [] (λ over. refl))).1;
      spelled = spelled_now;
      comes = comes_now;
      is_open = refl;
    }

    pub wrote_more : Wrote since (compiler_at first b lender' true false)
    unfolding since_now
    wrote_more = record { definition = w.tree; now = since_now; taken = w.taken; took = w.reads.took; all_taken = refl; clean = w.clean; held = w.single; falls = w.falls; locals = w.locals; lines = lines_now }

    pub is_open_more : IsReady b.tokens → MoreCanBeWritten (compiler_at first b lender' true false)
    is_open_more ready = record { before = before ++ w.tree ∷ []; since = since_now; ready = ready }

  abbrev closed : Compiler
  closed = compiler_at first b lender' true true

  stopped : (stop : Option Diagnostic) → Stopping a stop b → StoppedAfter since stop closed
  stopped stop h = record {
    taken = h.taken;
    took = h.reads.took;
    no_further = record { near = near_now h.taken h.looked h.reads.near; stands = h.stands };
    failures = h.failures ∙ since.failures;
    written = subst (λ t. Writes first.out t b.out) (append_assoc (opening first.edition) (joined (map compiled_text before)) (ending stop)) (Writes-append written_before h.written);
    comes = λ more f r g.
        let q = from_here h.taken more h.reads.took f r g in
        let e = goes_once q.1 (h.comes more f) in
        (q.2.code ∙ ap (λ x. map compiled_text before ++ x.code) e ∙ append-nil (map compiled_text before), q.2.stop ∙ ap (λ x. x.stop) e);
    closed = refl;
  }

  abbrev broke : (P : Compilation → Type 0) → Breaking a P b → BrokeOff since P closed
  broke P h = record {
    taken = h.taken;
    took = h.reads.took;
    comes = λ more f r g. let q = from_here h.taken more h.reads.took f r g in (q.0, q.2, h.each more f q.0 q.1);
    closed = refl;
  }

  broke_near : (P : Compilation → Type 0) → BreakingNear a P b → BrokeOffNear since P closed
  broke_near P h = (broke P h.0, record { near = near_now h.0.taken h.1 h.0.reads.near; stands = h.2 })

  same_out : b.out ≡ a.out → OpeningWritten old b.out
  same_out e = subst (OpeningWritten old) (sym e) opens

  read_failed : ReadFails a b → compilers.ReadFailed since closed
  read_failed h = (broke _ h.0, Grew-after _ _ _ since.failures h.1, same_out h.2)

  out_refused : (e : EndFault) → OutRefuses a e b → compilers.OutRefused since e closed
  out_refused e h = (a.out, opens, broke_near _ h.0, h.1 ∙ since.failures)

  names_refused : NamesRefuse a b → compilers.GrowthRefused since closed
  names_refused h = (broke_near _ h.0, h.1 ∙ since.failures, same_out h.2)

  pub stops : (answer : Step) → PointGives a (Err answer) b → GivesAfter since answer closed
  stops step.Written h = absurd h
  stops step.Finished h = stopped None h
  stops (step.Fault fault) h = stopped (Some fault) h
  stops step.Device (inl h) = inl (read_failed h)
  stops step.Device (inr h) = inr (inl (out_refused end_fault.Device h))
  stops step.Memory (inl h) = inr (inl (out_refused end_fault.Memory h))
  stops step.Memory (inr h) = inl (names_refused h)
  stops step.Closed h = absurd h

-- where the text doesn't begin
module _ (first : CompilerStart) (a b : Point) (lender lender' : List ℕ) (begun : Bool) (before : List Definition)
    (since : HasWrittenSince (compiler_at first a lender begun false) before) where
  abbrev unwritten : Compiler
  unwritten = compiler_at first a lender begun false

  begin_stops : (fault : EndFault) → compilers.BeginRefused unwritten fault (compiler_at first b lender' true true)
      → GivesAfter since (refused_step fault) (compiler_at first b lender' true true)
  begin_stops end_fault.Device h = inr (inr h)
  begin_stops end_fault.Memory h = inr (inr h)

-- what is so after all definitions that can have been written is what the call does
all_given : (answer : Step) (old new : Compiler) → MoreCanBeWritten old → ((before : List Definition) (since : HasWrittenSince old before) → GivesAfter since answer new) → CompilerGives old answer new
all_given step.Closed _ new o h = absurd (h o.before o.since)
all_given _ _ new o h = (o, h)

-- where the call found the compiler open
module _ (first : CompilerStart) (a b : Point) (lender lender' : List ℕ) (begun closed : Bool) (open_now : closed ≡ false)
    (o : MoreCanBeWritten (compiler_at first a lender begun closed)) where
  abbrev start : List ℕ
  start = compilers.unopened (compiler_at first a lender begun closed)

  abbrev opened_now : MoreCanBeWritten (compiler_at first a lender begun false)
  opened_now = subst (λ x. MoreCanBeWritten (compiler_at first a lender begun x)) open_now o

  abbrev opens : {r : Result (Unit {0}) Step} (h : OpensAndGives start a r b) → OpeningWritten (compiler_at first a lender begun false) h.out
  opens h = record { written = h.written; nothing = h.nothing }

  abbrev following : {r : Result (Unit {0}) Step} → OpensAndGives start a r b → Point
  following h = point a.tokens a.locals a.names h.out

  abbrev gone_on : (u : Unit {0}) → GivesNext start a (Ok u) b → OpensAndGives start a (Ok u) b
  gone_on u (inl h) = let bad = h.answered in cc
  gone_on u (inr h) = h

  pub goes_on_open : (u : Unit {0}) → GivesNext start a (Ok u) b → IsReady b.tokens → MoreCanBeWritten (compiler_at first b lender' true closed)
  goes_on_open u g ready =
      let h = gone_on u g in
      subst (λ x. MoreCanBeWritten (compiler_at first b lender' true x)) (sym open_now)
      (is_open_more first (following h) b lender lender' a.out begun opened_now.before opened_now.since (opens h) h.gives ready)

  wrote_open : (u : Unit {0}) → GivesNext start a (Ok u) b → CompilerGives (compiler_at first a lender begun false) step.Written (compiler_at first b lender' true false)
  wrote_open u g = let h = gone_on u g in (opened_now, λ before since. wrote_more first (following h) b lender lender' a.out begun before since (opens h) h.gives)

  pub written_now : (old : Compiler) → compiler_at first a lender begun closed ≡ old → (u : Unit {0}) → GivesNext start a (Ok u) b
      → CompilerGives old step.Written (compiler_at first b lender' true closed)
  written_now _ e u g =
      subst (λ x. CompilerGives x step.Written (compiler_at first b lender' true closed)) e
      (subst (λ x. CompilerGives (compiler_at first a lender begun x) step.Written (compiler_at first b lender' true x)) (sym open_now) (wrote_open u g))

  stopped_after : (answer : Step) → GivesNext start a (Err answer) b → (before : List Definition) (since : HasWrittenSince (compiler_at first a lender begun false) before)
      → GivesAfter since answer (compiler_at first b lender' true true)
  stopped_after answer (inl h) before since =
      let same : answer ≡ refused_step h.fault = let e = h.answered in cc in
      subst (λ x. GivesAfter since x (compiler_at first b lender' true true)) (sym same)
      (begin_stops first a b lender lender' begun before since h.fault (record { some = h.some; refused = h.refused; unread = h.unread; closed = refl }))
  stopped_after answer (inr h) before since = stops first (following h) b lender lender' a.out begun before since (opens h) answer h.gives

  pub stopped_now : (old : Compiler) → compiler_at first a lender begun closed ≡ old → (answer : Step) → GivesNext start a (Err answer) b
      → CompilerGives old answer (compiler_at first b lender' true true)
  stopped_now _ e answer g =
      subst (λ x. CompilerGives x answer (compiler_at first b lender' true true)) e
      (subst (λ x. CompilerGives (compiler_at first a lender begun x) answer (compiler_at first b lender' true true)) (sym open_now)
      (all_given answer (compiler_at first a lender begun false) (compiler_at first b lender' true true) opened_now (stopped_after answer g)))
