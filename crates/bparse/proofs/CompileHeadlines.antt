-- Where nothing fails, what is said of compiling is what its source comes to.
use Rattle.std.proofs.Common.{◌≡◌, ℕ, List, [], ◌++◌, sym, ap, ◌∙◌, subst, ◌⊎◌, inl, inr}
use Rattle.bword.specs.ByteEnds.{Grew, Writes}
use Rattle.bword.specs.declared.ends.EndFault.TheVariants as end_fault
use Rattle.blang.specs.Cut.{tokens_from}
use Rattle.blang.specs.Compiles.{Compilation, CompilesTo, Run, Compiles, SourceFailed, EndRefused, Tells, IsUndisturbed, CompileAnswers, CompileHeadline, fault_text, fault_status}
use Rattle.bgrammar.proofs.GoesLaws.{each_source_comes}
use Rattle.bword.proofs.Remaining.{Rest}
use Rattle.bparse.proofs.Remaining.{rest_of, writes_nothing}

module _ (run : Run) (h : Compiles run) (text : List ℕ) (tells : Tells run.source text) (calm : IsUndisturbed run) (r : Compilation) (g : CompilesTo [] (tokens_from run.edition 1 text) r) where
  rest : Rest run.source_after h.taken text
  rest = rest_of run.source run.source_after h.taken text h.took tells

  following : CompilesTo [] (tokens_from run.edition 1 (h.taken ++ rest.more)) r
  following = subst (λ t. CompilesTo [] (tokens_from run.edition 1 t) r) (sym rest.whole) g

  no_failure : SourceFailed run h.taken ⊎ EndRefused run h.taken end_fault.Device → ⊥
  no_failure (inl f) = calm.source_read f.counted
  no_failure (inr (inl o)) = calm.code_written o.code.counted.0
  no_failure (inr (inr (inl c))) =
      let cut = c.code rest.more rest.follows r following in
      calm.code_written (subst (λ n. Grew n run.code_after.failures) cut.written.failures cut.refused.counted.0)
  no_failure (inr (inr (inr l))) = calm.line_written (l.written rest.more rest.follows r following).line.counted.0

  by_status : ((run.status ≡ 0) ⊎ (run.status ≡ 1) ⊎ (run.status ≡ 133) ⊎ (run.status ≡ 134)) → CompileAnswers run r
  by_status (inl none) =
      let c = h.compiled none rest.more rest.follows r following in
      record {
        code = c.code;
        line = subst (λ s. Writes run.line (fault_text s) run.line_after) (sym c.clean) (writes_nothing run.line run.line_after c.silent);
        answered = none ∙ sym (ap fault_status c.clean);
      }
  by_status (inr (inl one)) =
      let f = h.faulty one rest.more rest.follows r following in
      record {
        code = f.code;
        line = subst (λ s. Writes run.line (fault_text s) run.line_after) (sym f.stop) f.line;
        answered = one ∙ sym (ap fault_status f.stop);
      }
  by_status (inr (inr (inl device))) = absurd (no_failure (h.failed device))
  by_status (inr (inr (inr memory))) = absurd (calm.not_refused memory)

pub compile_headline : (run : Run) → Compiles run → CompileHeadline run
compile_headline run h text tells calm =
    (each_source_comes [] run.edition 1 text, λ r g. by_status run h text tells calm r g h.no_other)
