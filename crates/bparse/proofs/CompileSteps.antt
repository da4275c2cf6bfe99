-- What compiling a whole source comes to, by its last call.
use Rattle.std.proofs.Common.{◌≡◌, ℕ, ◌<◌, true, false, List, [], ◌∷◌, ◌++◌, length, map, take, drop, suc, Option, Some, None, refl, sym, ap, ◌∙◌, subst, length-append, arith, ◌⊎◌, inl, inr, if◌then◌else◌}
use Rattle.std.proofs.Math.Seq.{drop-append_seam}
use Rattle.bword.specs.declared.edition.Edition.{Edition}
use Rattle.std.proofs.lemmas.List.{take-append-le, length-map}
use Rattle.std.proofs.lemmas.Bool.{false_from_ne_true}
use Rattle.bword.specs.ByteEnds.{Incoming, Outgoing, Took, Grew, Writes, Refuses}
use Rattle.bword.specs.declared.ends.EndFault.{EndFault}
use Rattle.bword.specs.declared.ends.EndFault.TheVariants as end_fault
use Rattle.blex.proofs.Passing.{Took-none, Took-append}
use Rattle.bword.proofs.Putting.{Refuses-following}
use Rattle.blang.specs.Text.{joined, opening}
use Rattle.blang.specs.declared.token.Diagnostic.{Diagnostic}
use Rattle.blang.specs.Compiles.{Compilation, ending, next_text, code_text, line_of, compiled_text, TakenUpTo, Whatever, ReadsNoFurther, Run, HasWritten, SourceFailed, OpeningRefused, CodeRefused, LineRefused, NamesRefused, EndRefused, Compiles, status_of}
use Rattle.blang.specs.Trees.{Definition}
use Rattle.bparse.specs.Compilers.{Compiler, SameCompiler, GoesOnAfter, OpeningWritten, HasWrittenSince, ReadNoFurther, Wrote, StoppedAfter, GivesAfter, CompilerGives, unopened}
use Rattle.bparse.specs.Compilers as compilers
use Rattle.bparse.specs.Compiles.{LastGives, CodeGives, run_of}
use Rattle.bparse.specs.Steps.{to_begin}
use Rattle.bparse.specs.declared.step.Step.{Step}
use Rattle.bparse.specs.declared.step.Step.TheVariants as step
use Rattle.bparse.proofs.SinceSteps.{written_begun}
use Rattle.bparse.proofs.TakenSteps.{taken_up_to}

pub keeps_none : (c : Compiler) → SameCompiler c c
keeps_none c = record { first = refl; lender = refl; out_lender = refl }

pub keeps_more : {a b c : Compiler} → SameCompiler a b → SameCompiler b c → SameCompiler a c
keeps_more h k = record { first = k.first ∙ h.first; lender = k.lender ∙ h.lender; out_lender = k.out_lender ∙ h.out_lender }

-- what a call wrote after the definitions that are known
pub written_last : {old new : Compiler} (h : CompilerGives old step.Written new) → Wrote h.0.since new
written_last h = h.1 h.0.before h.0.since

-- what is left after texts
texts_left : (ds : List Definition) (rest r : Compilation) → GoesOnAfter ds rest r → drop (length (map compiled_text ds)) r.code ≡ rest.code
texts_left ds rest r h = ap (drop (length (map compiled_text ds))) h.code ∙ drop-append_seam (map compiled_text ds) rest.code

some_length : (xs : List (List ℕ)) → (xs ≡ [] → ⊥) → 0 < length xs
some_length [] h = absurd (h refl)
some_length (x ∷ xs) h = omega arith

take_all : (xs : List (List ℕ)) → take (length xs) xs ≡ xs
take_all [] = refl
take_all (x ∷ xs) = ap (λ l. x ∷ l) (take_all xs)

take_first : (xs ys zs : List (List ℕ)) → zs ≡ xs ++ ys → take (length xs) zs ≡ xs
take_first xs ys zs e = ap (take (length xs)) e ∙ take-append-le (length xs) xs ys (omega arith) ∙ take_all xs

unopened_all : (c : Compiler) → c.is_begun ≡ false → unopened c ≡ opening c.first.edition
unopened_all c z = ap (λ b. to_begin b c.first.edition) z

unopened_none : (c : Compiler) → c.is_begun ≡ true → unopened c ≡ []
unopened_none c z = ap (λ b. to_begin b c.first.edition) z

unbegun_out : (c : Compiler) (ds : List Definition) → HasWrittenSince c ds → c.is_begun ≡ false → Writes c.first.out [] c.out
unbegun_out c ds s z =
    subst (λ t. Writes c.first.out t c.out)
    (ap (λ b. (if b then opening c.first.edition else []) ++ joined (map compiled_text ds)) z ∙ ap (λ x. joined (map compiled_text x)) (s.unbegun z).0) s.written

module _ (first last : Compiler) (d e : Outgoing) where
  abbrev run : ℕ → Run
  run status = run_of first.first.edition first.first.source last.tokens.source.end first.first.out last.out d e status

  module _ {answer : Step} (l : LastGives first answer last) (before : List Definition) (since : HasWrittenSince l.old before) where
    took_all : {taken : List ℕ} → Took l.old.tokens.source.end taken last.tokens.source.end → Took first.first.source (since.taken ++ taken) last.tokens.source.end
    took_all {taken} h = subst (λ x. Took x.source (since.taken ++ taken) last.tokens.source.end) l.keeps_old.first (Took-append since.took h)

    read_all : last.tokens.source.end.failures ≡ l.old.first.source.failures → last.tokens.source.end.failures ≡ first.first.source.failures
    read_all h = h ∙ ap (λ x. x.source.failures) l.keeps_old.first

    -- what is written when the last call has written what the text begins with
    written_before : {out : Outgoing} → OpeningWritten l.old out → Writes first.first.out (opening first.first.edition ++ joined (map compiled_text before)) out
    written_before {out} o =
        subst (λ x. Writes x.out (opening x.edition ++ joined (map compiled_text before)) out) l.keeps_old.first
        (written_begun l.old.first l.old.is_begun before l.old.out out (λ e. (since.unbegun e).0) since.written o.written o.nothing)

    written_whole : {stop : Option Diagnostic} (s : StoppedAfter since stop last) (r : Compilation) → (r.code ≡ map compiled_text before) × (r.stop ≡ stop)
        → Writes first.first.out (code_text first.first.edition r) last.out
    written_whole {stop} s r q =
        subst (λ t. Writes first.first.out (opening first.first.edition ++ t) last.out) (ap (λ x. joined x ++ ending stop) (sym q.0) ∙ ap (λ x. joined r.code ++ ending x) (sym q.1))
        (subst (λ x. Writes x.out (opening x.edition ++ (joined (map compiled_text before) ++ ending stop)) last.out) l.keeps_old.first s.written)

    texts_written : (status : ℕ) → OpeningWritten l.old last.out → (rest r : Compilation) → GoesOnAfter before rest r → HasWritten (run status) (length (map compiled_text before)) r
    texts_written status o rest r h =
        subst (λ x. Writes first.first.out (opening first.first.edition ++ joined x) last.out) (sym (take_first (map compiled_text before) rest.code r.code h.code)) (written_before o)

    -- what every source comes to that the last call can have seen
    whatever : (taken : List ℕ) (P : Compilation → Type 0) → Whatever l.old.first.edition taken last.tokens.source.end P
        → Whatever first.first.edition taken last.tokens.source.end P
    whatever taken P h = subst (λ x. Whatever x.edition taken last.tokens.source.end P) l.keeps_old.first h

    stays_near : (status : ℕ) {taken : List ℕ} → Took l.old.tokens.source.end taken last.tokens.source.end → ReadNoFurther since taken last → (count : Compilation → ℕ)
        → Whatever first.first.edition (since.taken ++ taken) last.tokens.source.end (λ r. count r ≡ length (map compiled_text before)) → ReadsNoFurther (run status) (since.taken ++ taken) count
    stays_near status {taken} took near count same more f r g =
        subst (λ n. TakenUpTo first.first.edition (since.taken ++ taken) more (suc n)) (sym (same more f r g ∙ length-map before compiled_text))
        (subst (λ x. TakenUpTo x.edition (since.taken ++ taken) more (suc (length before))) l.keeps_old.first (taken_up_to since taken took near more f))

    code_refused : (fault : EndFault) (status : ℕ) (h : compilers.OutRefused since fault last) → e ≡ d → CodeRefused (run status) (since.taken ++ h.2.0.taken) fault
    code_refused fault status h same = record {
      read = read_all h.3;
      count = length (map compiled_text before);
      code = λ more f r g.
          let q = whatever _ _ h.2.0.comes more f r g in
          let left = texts_left before q.0 r q.1 in
          record {
            within = omega (arith, ap length q.1.code, length-append (map compiled_text before) q.0.code);
            before = h.0;
            written = subst (λ x. Writes first.first.out (opening first.first.edition ++ joined x) h.0) (sym (take_first (map compiled_text before) q.0.code r.code q.1.code)) (written_before h.1);
            some = λ none. q.1.stop ∙ q.2.0 (sym left ∙ none);
            refused = subst (λ t. Refuses h.0 t fault last.out) (ap (λ c. next_text c q.0.stop) (sym left) ∙ ap (next_text (drop (length (map compiled_text before)) r.code)) (sym q.1.stop)) q.2.1;
          };
      no_further = stays_near status h.2.0.took h.2.1 (λ r. length (map compiled_text before)) (λ more f r g. refl);
      silent = same;
    }

    opening_refused : (fault : EndFault) (status : ℕ) (h : compilers.BeginRefused l.old fault last) → e ≡ d → OpeningRefused (run status) [] fault
    opening_refused fault status h same = record {
      unread = (refl, ap (λ x. x.source.end) h.unread ∙ (since.unbegun not_begun).1 ∙ ap (λ x. x.source) l.keeps_old.first);
      some = λ none. h.some (to_open ∙ none);
      code = subst (λ x. Refuses x.out (opening x.edition) fault last.out) l.keeps_old.first
          (Refuses-following (unbegun_out l.old before since not_begun) (subst (λ t. Refuses l.old.out t fault last.out) (unopened_all l.old not_begun) h.refused));
      silent = same;
    }
      where
        -- a text that doesn't begin hadn't begun
        not_begun : l.old.is_begun ≡ false
        not_begun = false_from_ne_true l.old.is_begun (λ z. h.some (unopened_none l.old z))

        to_open : unopened l.old ≡ opening first.first.edition
        to_open = unopened_all l.old not_begun ∙ ap (λ x. opening x.edition) l.keeps_old.first

    source_failed : (status : ℕ) (h : compilers.ReadFailed since last) → e ≡ d → SourceFailed (run status) (since.taken ++ h.0.taken)
    source_failed status h same = record {
      counted = subst (λ x. Grew x.source.failures last.tokens.source.end.failures) l.keeps_old.first h.1;
      count = length (map compiled_text before);
      code = λ more f r g.
          let q = whatever _ _ h.0.comes more f r g in
          texts_written status h.2 q.0 r q.1;
      silent = same;
    }

    names_refused : (status : ℕ) (h : compilers.GrowthRefused since last) → e ≡ d → NamesRefused (run status) (since.taken ++ h.0.0.taken)
    names_refused status h same = record {
      read = read_all h.1;
      count = length (map compiled_text before);
      code = λ more f r g.
          let q = whatever _ _ h.0.0.comes more f r g in
          (omega (arith, ap length q.1.code, length-append (map compiled_text before) q.0.code, some_length q.0.code q.2), texts_written status h.2 q.0 r q.1);
      no_further = stays_near status h.0.0.took h.0.1 (λ r. length (map compiled_text before)) (λ more f r g. refl);
      silent = same;
    }

    done_after : StoppedAfter since None last → e ≡ d → Compiles (run 0)
    done_after s same = record {
      taken = since.taken ++ s.taken;
      took = took_all s.took;
      compiled = λ z more f r g. let q = whatever _ _ s.comes more f r g in record { read = read_all s.failures; clean = q.1; code = written_whole s r q; silent = same };
      faulty = λ z. absurd (omega arith);
      no_further = λ z. absurd (omega arith);
      failed = λ z. absurd (omega arith);
      refused = λ z. absurd (omega arith);
      no_other = inl refl;
    }

    module _ (fault : Diagnostic) (s : StoppedAfter since (Some fault) last) where
      so_far : (status : ℕ) → ReadsNoFurther (run status) (since.taken ++ s.taken) (λ r. length r.code)
      so_far status = stays_near status s.took s.no_further (λ r. length r.code) (λ more f r g. ap length (whatever _ _ s.comes more f r g).0)

      faulty_after : Writes d (line_of fault) e → Compiles (run 1)
      faulty_after line = record {
        taken = since.taken ++ s.taken;
        took = took_all s.took;
        compiled = λ z. absurd (omega arith);
        faulty = λ z more f r g. let q = whatever _ _ s.comes more f r g in record { read = read_all s.failures; fault = fault; stop = q.1; code = written_whole s r q; line = line };
        no_further = λ z. so_far 1;
        failed = λ z. absurd (omega arith);
        refused = λ z. absurd (omega arith);
        no_other = inr (inl refl);
      }

      line_refused : (end : EndFault) (status : ℕ) → Refuses d (line_of fault) end e → LineRefused (run status) (since.taken ++ s.taken) end
      line_refused end status w = record {
        read = read_all s.failures;
        written = λ more f r g. let q = whatever _ _ s.comes more f r g in record { diagnostic = fault; stop = q.1; code = written_whole s r q; line = w };
        no_further = so_far status;
      }

  failing : (taken : List ℕ) → Took first.first.source taken last.tokens.source.end
      → SourceFailed (run 133) taken ⊎ EndRefused (run 133) taken end_fault.Device → Compiles (run 133)
  failing taken took h = record {
    taken = taken;
    took = took;
    compiled = λ z. absurd (omega arith);
    faulty = λ z. absurd (omega arith);
    no_further = λ z. absurd (omega arith);
    failed = λ z. h;
    refused = λ z. absurd (omega arith);
    no_other = inr (inr (inl refl));
  }

  refusing : (taken : List ℕ) → Took first.first.source taken last.tokens.source.end
      → NamesRefused (run 134) taken ⊎ EndRefused (run 134) taken end_fault.Memory → Compiles (run 134)
  refusing taken took h = record {
    taken = taken;
    took = took;
    compiled = λ z. absurd (omega arith);
    faulty = λ z. absurd (omega arith);
    no_further = λ z. absurd (omega arith);
    failed = λ z. absurd (omega arith);
    refused = λ z. h;
    no_other = inr (inr (inr refl));
  }

  pub done : LastGives first step.Finished last → e ≡ d → Compiles (run 0)
  done l same = let o = l.gives.0 in done_after l o.before o.since (l.gives.1 o.before o.since) same

  pub faulty : (fault : Diagnostic) → LastGives first (step.Fault fault) last → Writes d (line_of fault) e → Compiles (run 1)
  faulty fault l line = let o = l.gives.0 in faulty_after l o.before o.since fault (l.gives.1 o.before o.since) line

  pub cut_off : (fault : Diagnostic) (end : EndFault) → LastGives first (step.Fault fault) last → Refuses d (line_of fault) end e → Compiles (run (status_of end))
  cut_off fault end_fault.Device l w =
      let o = l.gives.0 in
      let s = l.gives.1 o.before o.since in
      failing (o.since.taken ++ s.taken) (took_all l o.before o.since s.took) (inr (inr (inr (line_refused l o.before o.since fault s end_fault.Device 133 w))))
  cut_off fault end_fault.Memory l w =
      let o = l.gives.0 in
      let s = l.gives.1 o.before o.since in
      refusing (o.since.taken ++ s.taken) (took_all l o.before o.since s.took) (inr (inr (inr (line_refused l o.before o.since fault s end_fault.Memory 134 w))))

  unread_took : {status : ℕ} {fault : EndFault} → OpeningRefused (run status) [] fault → Took first.first.source [] last.tokens.source.end
  unread_took o = subst (Took first.first.source []) (sym o.unread.1) (Took-none first.first.source)

  pub device : LastGives first step.Device last → e ≡ d → Compiles (run 133)
  device l same = let o = l.gives.0 in go o.before o.since (l.gives.1 o.before o.since)
    where
      go : (before : List Definition) (since : HasWrittenSince l.old before) → GivesAfter since step.Device last → Compiles (run 133)
      go before since (inl h) = failing (since.taken ++ h.0.taken) (took_all l before since h.0.took) (inl (source_failed l before since 133 h same))
      go before since (inr (inl h)) = failing (since.taken ++ h.2.0.taken) (took_all l before since h.2.0.took) (inr (inr (inl (code_refused l before since end_fault.Device 133 h same))))
      go before since (inr (inr h)) = let r = opening_refused l before since end_fault.Device 133 h same in failing [] (unread_took r) (inr (inl r))

  pub memory : LastGives first step.Memory last → e ≡ d → Compiles (run 134)
  memory l same = let o = l.gives.0 in go o.before o.since (l.gives.1 o.before o.since)
    where
      go : (before : List Definition) (since : HasWrittenSince l.old before) → GivesAfter since step.Memory last → Compiles (run 134)
      go before since (inl h) = refusing (since.taken ++ h.0.0.taken) (took_all l before since h.0.0.took) (inl (names_refused l before since 134 h same))
      go before since (inr (inl h)) = refusing (since.taken ++ h.2.0.taken) (took_all l before since h.2.0.took) (inr (inr (inl (code_refused l before since end_fault.Memory 134 h same))))
      go before since (inr (inr h)) = let r = opening_refused l before since end_fault.Memory 134 h same in refusing [] (unread_took r) (inr (inl r))

-- no last call answers so
pub last_not_closed : {first last : Compiler} → LastGives first step.Closed last → ⊥
last_not_closed l = let o = l.is_open in let c = l.gives.0 in cc

pub last_not_written : {first last : Compiler} → LastGives first step.Written last → ⊥
last_not_written l = l.not_written refl

-- between these ends
pub compiles_between : {answer : Step} {status : ℕ} {edition : Edition} {i j : Incoming} {o p : Outgoing} (d e : Outgoing) (h : CodeGives edition i o answer j p)
    → ((first last : Compiler) → LastGives first answer last → Compiles (run first last d e status))
    → Compiles (run_of edition i j o p d e status)
compiles_between d e h f = rw (sym h.edition_is, sym h.source, sym h.source_after, sym h.code, sym h.code_after) (f h.first h.last h.gives)

pub answers : {edition : Edition} {i j : Incoming} {o p : Outgoing} {a b : Step} → a ≡ b → CodeGives edition i o a j p → CodeGives edition i o b j p
answers {edition} {i} {j} {o} {p} e h = subst (λ x. CodeGives edition i o x j p) e h
