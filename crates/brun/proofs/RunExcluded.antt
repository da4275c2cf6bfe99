-- Answers that the contract of `go_edition` excludes, whatever is proved of the body that gives them.
use Rattle.std.proofs.Common.{drop, ◌≡◌, ℕ, zero, suc, ◌<◌, ◌≤◌, List, [], ◌∷◌, ◌++◌, length, map, codes, Option, Some, None, refl, sym, ap, ◌∙◌, subst, arith, ◌⊎◌, inl, inr, ⊎_elim}
use Rattle.std.proofs.Math.Seq.{drop-nil}
use Rattle.bword.specs.declared.edition.Edition.{Edition}
use Rattle.bword.specs.declared.edition.Edition.TheVariants as editions
use Rattle.bword.specs.ByteEnds.{Incoming, Outgoing, Grew, Refuses, CanFollow}
use Rattle.bword.specs.declared.ends.EndFault.{EndFault}
use Rattle.bword.specs.declared.ends.EndFault.TheVariants as end_fault
use Rattle.blang.specs.Text.{opening}
use Rattle.blang.specs.Cut.{tokens_from}
use Rattle.blang.specs.declared.token.Diagnostic.{Diagnostic}
use Rattle.blang.specs.Code.{code_of}
use Rattle.blang.specs.Compiles as compiled
use Rattle.blang.specs.Compiles.{CompilesTo, Tells, fault_text, line_of, Run, NamesRefused, EndRefused, status_of}
use Rattle.bgrammar.specs.SourceRows.{ComesIn}
use Rattle.bgrammar.proofs.SourceRows.{a_break_of_one, a_break_outside}
use Rattle.blang.specs.Trees.{Definition, Expr, Arguments, Character, Named, Literal, Called, No_arguments, Another, Evaluate, Compound, Stmts, Nothing, More}
use Rattle.blang.specs.Machine.{State, Halted, image_of, machine}
use Rattle.blang.specs.Reports.{AsksForByte, StopsAtRead, state_outcome, Reported, report_text, RunEnds, RunGives, Finishes}
use Rattle.blang.specs.Machine as runs
use Rattle.blang.specs.Layout.{World, Ending, Exited, Trapped}
use Rattle.blang.specs.declared.run.Outcome.{Outcome}
use Rattle.blang.specs.declared.run.Outcome.TheVariants as outcome
use Rattle.blang.specs.Meaning.{Loads}
use Rattle.blang.specs.Headline.{RunsProgram, GoesOff, DoesAsMeant, NothingFailed, RunAnswers}
use Rattle.blang.specs.Headline as going
use Rattle.blang.specs.declared.run.Report.TheVariants as report
use Rattle.bmach.proofs.Losing.{lost_at_read}
use Rattle.bmach.proofs.MachineExcluded.{not_grown}
use Rattle.bmach.proofs.Running.{device_failed}
use Rattle.bparse.proofs.Remaining.{rest_of, all_written}
use Rattle.brun.proofs.HeadlineSteps.{headline, other_stop}
use Rattle.brun.proofs.MeantSteps.{halted_later}

abbrev main : Stmts → List Definition
main body = Definition.Function (record { text = codes "main"; line = 1 }) [] (Compound body) ∷ []

-- main(){}, whose second step is the halt
abbrev nothing : List Definition
nothing = main Nothing

abbrev call : List ℕ → Arguments → Expr
call name arguments = Called (Named (record { text = name; line = 1 })) arguments

-- main(){putchar('a');}, which has written after four steps and halts at the seventh
abbrev pub main_a : Definition
main_a = Definition.Function (record { text = codes "main"; line = 1 }) [] (Compound (More Nothing (Evaluate (call (codes "putchar") (Another No_arguments (Literal (Character 97)))))))

abbrev pub writes_a : List Definition
writes_a = main_a ∷ []

abbrev pub state : List Definition → ℕ → State
state ds n = machine (map code_of ds) [] n

pub nothing_halts : map (λ n. state_outcome (state nothing n)) (0 ∷ 1 ∷ 2 ∷ 3 ∷ []) ≡ (outcome.Limit ∷ outcome.Limit ∷ outcome.Exit 0 ∷ outcome.Exit 0 ∷ [])
nothing_halts = refl

pub writes_limits : map (λ n. state_outcome (state writes_a n)) (3 ∷ 4 ∷ 6 ∷ 7 ∷ []) ≡ (outcome.Limit ∷ outcome.Limit ∷ outcome.Limit ∷ outcome.Exit 0 ∷ [])
writes_limits = refl

pub writes_outputs : map (λ n. (runs.state_world (state writes_a n)).output) (3 ∷ 4 ∷ 7 ∷ []) ≡ ([] ∷ codes "a" ∷ codes "a" ∷ [])
writes_outputs = refl

no_end : (e : Ending) (w : World) → outcome.Limit ≡ state_outcome (Halted e w) → ⊥
no_end (Exited n) w e = cc
no_end (Trapped kind) w e = cc

-- a machine at its limit has halted at no step before
still_runs : (ds : List Definition) (steps : ℕ) → state_outcome (state ds steps) ≡ outcome.Limit → (n : ℕ) → n ≤ steps → (e : Ending) (w : World) → state ds n ≡ Halted e w → ⊥
still_runs ds steps limit n le e w h =
    no_end e w (sym limit ∙ ap state_outcome (halted_later (image_of (map code_of ds)) [] n steps e w le h))

-- Over ends that tell their bytes, with no input, where nothing fails and the source has no fault.
module _ (edition : Edition) (source source_after : Incoming) (ends : RunEnds) (status : ℕ) (text : List ℕ) (tells : Tells source text) (told : Tells ends.input [])
    (healthy : NothingFailed source source_after ends status) (r : compiled.Compilation) (g : CompilesTo [] (tokens_from edition 1 text) r) (clean : r.stop ≡ None) where
  answers : (steps : ℕ) (ds : List Definition) → g.definitions ≡ ds → Loads ds → GoesOff edition steps source source_after ends status → RunAnswers ds [] steps ends status
  answers steps ds same loads h =
      subst (λ x. RunAnswers x [] steps ends status) same
      (((headline edition steps source source_after ends status h text [] tells told healthy).1 r g).runs clean (subst (λ x. Loads x) (sym same) loads))

  -- `limit` in place of a halt: a run of fewer steps
  pub no_fewer_steps : g.definitions ≡ nothing → GoesOff edition 2 source source_after ends status → status ≡ 131 → ⊥
  no_fewer_steps same h is =
      let halt = (answers 2 nothing same refl h).halts 2 (omega arith) (Exited 0) (runs.state_world (state nothing 2)) refl in
      let bad : 131 ≡ 0 = sym is ∙ halt.says.answered in
      omega (arith, bad)

  -- a halt in place of `limit`: a run of more steps
  pub no_more_steps : g.definitions ≡ nothing → GoesOff edition 1 source source_after ends status → status ≡ 0 → ⊥
  no_more_steps same h is =
      let limit = (answers 1 nothing same refl h).limited (still_runs nothing 1 refl) in
      let bad : 0 ≡ 131 = sym is ∙ limit.says.answered in
      omega (arith, bad)

  -- less output than that of the steps
  pub no_less_output : g.definitions ≡ writes_a → GoesOff edition 4 source source_after ends status → ends.out.written ≡ Some [] → ends.out_after.written ≡ Some [] → ⊥
  no_less_output same h before following =
      let limit = (answers 4 writes_a same refl h).limited (still_runs writes_a 4 refl) in
      let a : codes "a" ≡ limit.world.output = limit.shows.written in
      let none : [] ≡ limit.world.output = all_written ends.out ends.out_after limit.world.output [] before following limit.says.written.appended in
      let bad : codes "a" ≡ [] = a ∙ sym none in
      cc

-- another status than 1 for a source with a fault, where nothing fails
pub no_other_status : (edition : Edition) (steps : ℕ) (source source_after : Incoming) (ends : RunEnds) (status : ℕ) (text : List ℕ) → Tells source text → Tells ends.input []
    → NothingFailed source source_after ends status → (r : compiled.Compilation) → CompilesTo [] (tokens_from edition 1 text) r → (fault : Diagnostic) → r.stop ≡ Some fault
    → GoesOff edition steps source source_after ends status → status ≡ 1
no_other_status edition steps source source_after ends status text tells told healthy r g fault stop h =
    (((headline edition steps source source_after ends status h text [] tells told healthy).1 r g).faulty fault stop).answered

abbrev first_byte : List ℕ → ℕ
first_byte [] = 0
first_byte (b ∷ bytes) = b

-- `f() break;` has a fault in each edition, which has a line of its own there.
module _ (steps : ℕ) (source source_after : Incoming) (ends : RunEnds) (status : ℕ) (tells : Tells source (codes "f() break;")) (told : Tells ends.input [])
    (healthy : NothingFailed source source_after ends status) (before : ends.line.written ≡ Some []) (following : List ℕ) (is : ends.line_after.written ≡ Some following) where
  line_in : (edition : Edition) (code line : List ℕ) (c : ComesIn edition (codes "f() break;") code line) → GoesOff edition steps source source_after ends status → (line ≡ [] → ⊥) → following ≡ line
  line_in edition code line c h some = at_stop c.outcome.stop refl c.line_is
    where
      at_stop : (stop : Option Diagnostic) → c.outcome.stop ≡ stop → fault_text stop ≡ line → following ≡ line
      at_stop None e nothing = absurd (some (sym nothing))
      at_stop (Some d) e same =
          let said = ((headline edition steps source source_after ends status h (codes "f() break;") [] tells told healthy).1 c.outcome c.goes).faulty d e in
          all_written ends.line ends.line_after (line_of d) following before is said.told.appended ∙ same

  -- a body that takes the first edition where it is told the second
  pub no_first_edition : GoesOff editions.Two steps source source_after ends status → following ≡ codes "un break 1\n" → ⊥
  no_first_edition h first =
      let letters : 117 ≡ 115 = ap first_byte (sym first ∙ line_in editions.Two _ _ a_break_outside h (λ e. cc)) in
      omega (arith, letters)

  -- a body that takes the second where it is told the first
  pub no_second_edition : GoesOff editions.One steps source source_after ends status → following ≡ codes "sx break 1\n" → ⊥
  no_second_edition h second =
      let letters : 115 ≡ 117 = ap first_byte (sym second ∙ line_in editions.One _ _ a_break_of_one h (λ e. cc)) in
      omega (arith, letters)

-- In the first edition nothing is written before there is code. So where there is none, only the line's end is refused memory.
end_refused : (run : Run) (taken more : List ℕ) → run.edition ≡ editions.One → CanFollow run.source_after more → (r : compiled.Compilation) → CompilesTo [] (tokens_from run.edition 1 (taken ++ more)) r → r.code ≡ []
    → (fault : Diagnostic) → r.stop ≡ Some fault → NamesRefused run taken ⊎ EndRefused run taken end_fault.Memory → Grew run.line.refusals run.line_after.refusals
end_refused run taken more first follows r g none fault stop (inl n) =
    let less : n.count < 0 = subst (λ c. n.count < length c) none (n.code more follows r g).0 in
    absurd (omega (arith, less))
end_refused run taken more first follows r g none fault stop (inr (inl o)) = absurd (o.some (subst (λ e. opening e ≡ []) (sym first) refl))
end_refused run taken more first follows r g none fault stop (inr (inr (inl c))) = other_stop r.stop fault ((c.code more follows r g).some (ap (drop c.count) none ∙ drop-nil c.count)) stop
end_refused run taken more first follows r g none fault stop (inr (inr (inr l))) = (l.written more follows r g).line.counted.0

pub refused_without_code : (steps : ℕ) (source source_after : Incoming) (ends : RunEnds) (status : ℕ) (text : List ℕ) → Tells source text
    → (r : compiled.Compilation) → CompilesTo [] (tokens_from editions.One 1 text) r → r.code ≡ [] → (fault : Diagnostic) → r.stop ≡ Some fault
    → GoesOff editions.One steps source source_after ends status → status ≡ 134 → Grew ends.line.refusals ends.line_after.refusals
refused_without_code steps source source_after ends status text tells r g none fault stop (going.stopped kept not_zero quiet h) is =
    let rest = rest_of source source_after h.taken text h.took tells in
    let following = subst (λ t. CompilesTo [] (tokens_from editions.One 1 t) r) (sym rest.whole) g in
    end_refused _ h.taken rest.more refl rest.follows r following none fault stop (h.refused is)
refused_without_code steps source source_after ends status text tells r g none fault stop (going.ran s) is =
    let rest = rest_of source source_after s.taken text s.took tells in
    let following = subst (λ t. CompilesTo [] (tokens_from editions.One 1 t) r) (sym rest.whole) g in
    other_stop r.stop fault (s.runs rest.more rest.follows r following).1 stop

pub told_device : (line : List ℕ) (answer : ℕ) (o p : Outgoing) (status : ℕ) → answer < 133 → Reported line answer o p status → status ≡ 133 → Grew o.failures p.failures
told_device line answer o p status less (inl told) is = let same : answer ≡ 133 = sym told.1 ∙ is in absurd (omega (arith, less, same))
told_device line answer o p status less (inr r) is = by_kind r.fault r.refuses r.status
  where
    by_kind : (fault : EndFault) → Refuses o line fault p → status ≡ status_of fault → Grew o.failures p.failures
    by_kind end_fault.Device h s = h.counted.0
    by_kind end_fault.Memory h s = let bad : 133 ≡ 134 = sym is ∙ s in absurd (omega (arith, bad))

-- A run has the status 133 only where a read of its input, or a write of its output or of its line failed.
abbrev pub AnyFailed : RunEnds → Type 0
AnyFailed ends =
    Grew ends.input.failures ends.input_after.failures ⊎ Grew ends.out.failures ends.out_after.failures ⊎ Grew ends.line.failures ends.line_after.failures

-- A run that has this status broke off, or its line was refused.
abbrev BrokeOff : ℕ → List Definition → RunEnds → Type 0
BrokeOff steps ds ends =
    Grew ends.line.failures ends.line_after.failures ⊎ RunGives (machine (map code_of ds)) steps ends.input ends.input_after ends.out ends.out_after outcome.Device

finished : (steps : ℕ) (ds : List Definition) (ends : RunEnds) (status : ℕ) (result : Outcome) → DoesAsMeant ds steps ends.input ends.input_after ends.out ends.out_after result
    → Finishes result ends.line ends.line_after status → status ≡ 133 → BrokeOff steps ds ends
finished steps ds ends status (outcome.Exit n) h f is = let own = h.own_status n refl in let same : n ≡ 133 = sym f.1 ∙ is in absurd (omega (arith, own, same))
finished steps ds ends status (outcome.Trap kind) h f is = inl (told_device (report_text (report.Trap kind)) 130 ends.line ends.line_after status (omega arith) f is)
finished steps ds ends status outcome.Limit h f is = inl (told_device (report_text report.Limit) 131 ends.line ends.line_after status (omega arith) f is)
finished steps ds ends status outcome.Device h f is = inr h.made
finished steps ds ends status outcome.Memory h f is = let bad : 134 ≡ 133 = sym f.1 ∙ is in absurd (omega (arith, bad))

broke_off : (steps : ℕ) (ds : List Definition) (ends : RunEnds) (status : ℕ) → RunsProgram steps ds ends status → status ≡ 133 → BrokeOff steps ds ends
broke_off steps ds ends status (going.refused f n load number quiet line) is = inl (told_device (report_text (report.Load n)) 132 ends.line ends.line_after status (omega arith) line is)
broke_off steps ds ends status (going.ran result loads does finish) is = finished steps ds ends status result does finish is
broke_off steps ds ends status (going.no_memory quiet silent s) is = let bad : 134 ≡ 133 = sym s ∙ is in absurd (omega (arith, bad))

pub only_failed : (steps : ℕ) (ds : List Definition) (ends : RunEnds) (status : ℕ) → RunsProgram steps ds ends status → status ≡ 133 → AnyFailed ends
only_failed steps ds ends status h is =
    ⊎_elim (λ l. inr (inr l)) (λ d. ⊎_elim inl (λ o. inr (inl o)) (device_failed (machine (map code_of ds)) steps ends.input ends.input_after ends.out ends.out_after d)) (broke_off steps ds ends status h is)

-- main(){putchar('a');getchar();}, which has written after four steps and reads in the eighth
abbrev reads_after : List Definition
reads_after = main (More (More Nothing (Evaluate (call (codes "putchar") (Another No_arguments (Literal (Character 97)))))) (Evaluate (call (codes "getchar") No_arguments)))

quiet_before : (input : List ℕ) (made : ℕ) → made < 7 → AsksForByte (machine (map code_of reads_after) input made) → ⊥
quiet_before input (suc (suc (suc (suc (suc (suc (suc made))))))) lt asks = absurd (omega (arith, lt))
quiet_before input _ lt asks = cc

never_asks : (input : List ℕ) (made : ℕ) → AsksForByte (machine (map code_of nothing) input made) → ⊥
never_asks input zero asks = cc
never_asks input (suc zero) asks = cc
never_asks input (suc (suc made)) asks =
    let over = halted_later (image_of (map code_of nothing)) input 2 (suc (suc made)) (Exited 0) (runs.state_world (machine (map code_of nothing) input 2)) (omega arith) refl in
    let bad = subst AsksForByte over asks in
    cc

module _ (ends : RunEnds) (a : ends.out.failures ≡ 0) (b : ends.out_after.failures ≡ 0) (c : ends.line.failures ≡ 0) (d : ends.line_after.failures ≡ 0) where
  -- where no write failed, a run that has this status broke off at a read
  stopped_reading : (steps : ℕ) (ds : List Definition) → RunsProgram steps ds ends 133 → StopsAtRead (machine (map code_of ds)) steps ends.input ends.input_after ends.out ends.out_after
  stopped_reading steps ds h =
      ⊎_elim (λ l. absurd (not_grown ends.line.failures ends.line_after.failures c d l))
      (λ r. ⊎_elim (λ x. x) (λ w. absurd (not_grown ends.out.failures ends.out_after.failures a b (subst (λ n. Grew n ends.out_after.failures) w.comes.written.failures w.refuses.counted.0))) r)
      (broke_off steps ds ends 133 h refl)

  -- What was written before a read that failed isn't lost.
  pub no_lost_output : RunsProgram 8 reads_after ends 133 → ends.out.written ≡ Some [] → ends.out_after.written ≡ Some [] → ⊥
  no_lost_output h before following =
      lost_at_read (machine (map code_of reads_after)) 7 97 [] quiet_before (λ input. refl) ends.input ends.input_after ends.out ends.out_after before following (stopped_reading 8 reads_after h)

  -- A run that asks for no byte breaks off at no read, even after the end of the input was seen.
  pub no_unasked_read : (steps : ℕ) → RunsProgram steps nothing ends 133 → ⊥
  no_unasked_read steps h = let r = stopped_reading steps nothing h in never_asks (r.comes.taken ++ []) r.made (r.asks [] (λ over. refl))
