-- What the headlines alone say of one program and one source, over streams in memory.
use Rattle.std.proofs.Common.{◌≡◌, ℕ, List, [], ◌∷◌, take, codes, Bool, true, false, Option, Some, None, refl, sym, ap, ◌∙◌, subst, arith, ◌⊎◌, inl, inr}
use Rattle.std.specs.Prelude.{◌==◌}
use Rattle.std.specs.Fmt.{digits}
use Rattle.std.proofs.lemmas.Bool.{eqb-true}
use Rattle.bword.specs.declared.edition.Edition.TheVariants as editions
use Rattle.bword.specs.ByteEnds.{Grew, incoming_of}
use Rattle.blang.specs.Cut.{whole, word_token, keyword_of, number_in, with_quoted_byte, escape_of, operator_of, other_of, fixed_of, tokens_from, cut, longest, greatest}
use Rattle.blang.specs.declared.token.Token.TheVariants as token
use Rattle.blang.specs.declared.token.Diagnostic.{Diagnostic}
use Rattle.blang.specs.WellFormed.{Parted}
use Rattle.blang.specs.Compiles as compiled
use Rattle.blang.specs.Compiles.{Tells, IsUndisturbed, compilation_of, fault_text, fault_status}
use Rattle.blang.specs.Layout.{Exited}
use Rattle.blang.specs.Machine as runs_at
use Rattle.blang.specs.Meaning.{Loads}
use Rattle.blang.specs.Cut.{placed}
use Rattle.blang.specs.Headline.{NothingFailed, RunAnswers}
use Rattle.bgrammar.proofs.Parting.{parted_end}
use Rattle.bgrammar.proofs.Outcomes.{parted_after, parted_once}
use Rattle.bgrammar.proofs.SourceRows.{a_number}
use Rattle.bparse.proofs.CompileExcluded.{line_some}
use Rattle.brun.specs.OneRun.{OneRunIsKnown, OneCompilationIsKnown, one_run_ends, one_compilation_run, unread}
use Rattle.brun.proofs.RunExcluded.{writes_a, main_a, state}

no_failure : Grew 0 0 → ⊥
no_failure grew = omega (arith, grew)

by_memory : {A : Type 0} (status : ℕ) → ((status ≡ 134 → ⊥) → A) → (status ≡ 134) ⊎ A
by_memory {A = A} status f = by_cases (status == 134) refl
  where
    by_cases : (b : Bool) → (status == 134) ≡ b → (status ≡ 134) ⊎ A
    by_cases true e = inl (eqb-true status 134 e)
    by_cases false e = inr (f (λ is. cc))

tells : (bytes : List ℕ) → Tells (unread bytes) bytes
tells bytes = record { left = refl; follow = λ over. cc }

no_fault : (stop : Option Diagnostic) → fault_text stop ≡ [] → stop ≡ None
no_fault None e = refl
no_fault (Some d) e = absurd (line_some d e)

pub one_compilation : OneCompilationIsKnown
one_compilation source code line status h = by_memory status answered
  where
    answered : (status ≡ 134 → ⊥) → (status ≡ 0) × (code.bytes ≡ codes "X n 1 0\nc 2000\nE\n") × (line.bytes ≡ [])
    answered some =
        let c = a_number in
        let calm : IsUndisturbed (one_compilation_run source code line status) = record { source_read = no_failure; code_written = no_failure; line_written = no_failure; not_refused = some } in
        let says = (h (codes "n 2000;") (tells (codes "n 2000;")) calm).1 c.outcome c.goes in
        let clean = no_fault c.outcome.stop c.line_is in
        (says.answered ∙ ap fault_status clean, says.code.appended ∙ c.code_is, says.line.appended ∙ c.line_is)

-- its tokens are those of one definition
parts : Parted (tokens_from editions.One 1 (codes "main(){putchar('a');}")) writes_a None
unfolding tokens_from cut longest greatest whole word_token keyword_of number_in with_quoted_byte escape_of operator_of other_of fixed_of digits
parts = parted_after (take 10 (tokens_from editions.One 1 (codes "main(){putchar('a');}"))) main_a (placed token.End 1 ∷ []) [] None (parted_end (placed token.End 1) [] refl) refl

pub one_run : OneRunIsKnown
one_run source input out line status h = by_memory status answered
  where
    answered : (status ≡ 134 → ⊥) → (status ≡ 0) × (out.bytes ≡ codes "a") × (line.bytes ≡ [])
    answered some =
        let calm : NothingFailed (unread (codes "main(){putchar('a');}")) (incoming_of source) (one_run_ends input out line) status = record { source_read = no_failure; input_read = no_failure; output_written = no_failure; line_written = no_failure; not_refused = some } in
        let both = h (codes "main(){putchar('a');}") [] (tells (codes "main(){putchar('a');}")) (tells []) calm in
        let r = both.0.0 in
        let g = both.0.1 in
        let same = parted_once (tokens_from editions.One 1 (codes "main(){putchar('a');}")) g.definitions writes_a g.stop None g.parted parts in
        let clean : r.stop ≡ None =
        ap (λ (o : compiled.Compilation). o.stop) g.outcome_is ∙ ap (λ ds. (compilation_of [] ds g.stop).stop) same.0 ∙ ap (λ s. (compilation_of [] writes_a s).stop) same.1 in
        let runs = subst (λ ds. RunAnswers ds [] 100 (one_run_ends input out line) status) same.0 ((both.1 r g).runs clean (subst Loads (sym same.0) refl)) in
        let halt = runs.halts 7 (omega arith) (Exited 0) (runs_at.state_world (state writes_a 7)) refl in
        (halt.says.answered, halt.says.written.appended, halt.says.told.appended)
