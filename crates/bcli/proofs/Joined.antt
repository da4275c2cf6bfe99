-- What comes of an end over the input and bytes that follow it.
use Rattle.std.proofs.Common.{◌≡◌, ◌∙◌, ◌+◌, ◌<◌, ◌⊎◌, ℕ, suc, zero, false, List, [], ◌++◌, length, ap, arith, inl, inr, refl}
use Rattle.std.specs.Prelude.{min, option_map}
use Rattle.bword.specs.ByteEnds.{Grew, Incoming, most}
use Rattle.bword.specs.declared.edition.Edition.{Edition}
use Rattle.bword.specs.declared.ends.EndFault.TheVariants as end_fault
use Rattle.blang.specs.Compiles.{CompileAnswers, Compilation, CompilesTo, EndRefused, HasOutcome, SourceFailed, Tells}
use Rattle.blang.specs.Cut.{tokens_from}
use Rattle.blang.specs.Reports.{RunEnds}
use Rattle.bsources.specs.JoinedEnds.{Joined, joined_in, joined_new}
use Rattle.bsources.specs.JoinedRows.{refused_early}
use Rattle.bcli.specs.ShellExcluded.{AreCounted, NothingFails}
use Rattle.bcore.specs.Serves.{CompilesJoined, compiling}

is_none : (n : ℕ) → (0 < n → ⊥) → n ≡ 0
is_none zero h = refl
is_none (suc n) h = absurd (h (omega arith))

module _ (edition : Edition) (rest : List ℕ) (ends : RunEnds) (status : ℕ) (it : CompilesJoined edition rest ends status) where
  begun : joined_in it.source ≡ joined_in (joined_new ends.input it.source.ready it.source.lender rest)
  begun = ap joined_in it.begins

  tells : (input : List ℕ) → Tells ends.input input → Tells (joined_in it.source) (input ++ rest)
  tells input told = record {
    left = ap (λ (i : Incoming). i.left) begun ∙ ap (option_map (λ (bytes : List ℕ). bytes ++ rest)) told.left;
    follow = λ over. let still : (joined_in it.source).is_over ≡ false = ap (λ (i : Incoming). i.is_over) begun in cc;
  }

  none_refused : AreCounted rest ends → it.source_after.refused ≡ 0
  none_refused counted =
      let same = it.same in
      let kept : it.source_after.limit ≡ it.source.limit = cc in
      let limit : it.source.limit ≡ ends.input.bound + length rest = ap (λ (j : Joined). j.limit) it.begins in
      let few = counted.bytes in
      is_none it.source_after.refused (refused_early it.source_after it.stands (omega (arith, kept, limit, few)))

  -- a failure of the joined end is one of the input
  input_failed : AreCounted rest ends → Grew (joined_in it.source).failures (joined_in it.source_after).failures
      → Grew ends.input.failures ends.input_after.failures
  input_failed counted grew =
      let before : (joined_in it.source).failures ≡ min (ends.input.failures + 0) most = ap (λ (i : Incoming). i.failures) begun in
      let after : it.source_after.first.failures ≡ ends.input_after.failures = ap (λ (i : Incoming). i.failures) it.ended in
      let none = none_refused counted in
      let first = counted.failures.0 in
      let last = counted.failures.1 in
      omega (arith, before, after, none, first, last, grew)

  pub joined_answers : (input : List ℕ) → Tells ends.input input → NothingFails edition rest ends status
      → HasOutcome edition (input ++ rest)
      × ((r : Compilation) → CompilesTo [] (tokens_from edition 1 (input ++ rest)) r → CompileAnswers (compiling edition ends.input ends.input_after ends status) r)
  joined_answers input told fine =
      let u = fine.undisturbed in
      let answers = it.headline (input ++ rest) (tells input told) (record {
        source_read = λ grew. u.source_read (input_failed fine.counted grew);
        code_written = u.code_written;
        line_written = u.line_written;
        not_refused = u.not_refused;
      }) in
      (answers.0, λ r comes. let a = answers.1 r comes in record { code = a.code; line = a.line; answered = a.answered })

  pub failed_joined : AreCounted rest ends → (Grew ends.input.failures ends.input_after.failures → ⊥) → (device : status ≡ 133)
      → EndRefused (compiling edition (joined_in it.source) (joined_in it.source_after) ends status) it.compiles.taken end_fault.Device
  failed_joined counted none device = by (it.compiles.failed device)
    where
      by : SourceFailed (compiling edition (joined_in it.source) (joined_in it.source_after) ends status) it.compiles.taken
          ⊎ EndRefused (compiling edition (joined_in it.source) (joined_in it.source_after) ends status) it.compiles.taken end_fault.Device
          → EndRefused (compiling edition (joined_in it.source) (joined_in it.source_after) ends status) it.compiles.taken end_fault.Device
      by (inl failed) = absurd (none (input_failed counted failed.counted))
      by (inr refused) = refused
