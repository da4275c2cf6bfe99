-- What a watcher has kept, from call to call.
use Rattle.std.proofs.Common.{◌≡◌, ◌⊎◌, inl, inr, ℕ, List, [], ◌∷◌, ◌++◌, Option, Some, None, refl, sym, ap, ◌∙◌, subst, append_assoc, append-nil, length, take, drop, get_or}
use Rattle.bword.specs.ByteEnds.{CanFollow}
use Rattle.blang.specs.Cut.{tokens_from}
use Rattle.blang.specs.Trees.{Definition}
use Rattle.blex.proofs.Passing.{Took-append}
use Rattle.blang.specs.Compiles.{Compilation, CompilesTo}
use Rattle.blang.specs.Lines.{lines_of, program_lines, lines_after}
use Rattle.blang.specs.Walk.{spell_definition}
use Rattle.bread.specs.Tokens.{lines_in, tokens_of}
use Rattle.std.specs.Option.{option_map}
use Rattle.std.proofs.lemmas.Grind.{flat_map-append}
use Rattle.bparse.specs.Compilers.{Compiler, SameCompiler, CompilerGives, HasWrittenSince, Wrote, StoppedAfter, Spelled, new, notes_by}
use Rattle.bparse.specs.Locals.{Notes, no_notes, with_notes, notes_of, frames_in, table_frame}
use Rattle.bparse.proofs.LocalLaws.{frames_noted}
use Rattle.bparse.specs.Watches.{KeepsMore, WatchGives, KeptSince, KeptAll, Watched}
use Rattle.bparse.specs.declared.step.Step.{Step}
use Rattle.bparse.specs.declared.step.Step.TheVariants as step
use Rattle.bparse.proofs.WholeSteps.{written_all}
use Rattle.bparse.proofs.SinceSteps.{since_new, follow}

-- the lines of one definition more
program_lines-append : (ds : List Definition) (d : Definition) (ls : List ℕ) → program_lines (ds ++ d ∷ []) ls ≡ program_lines ds ls ++ program_lines (d ∷ []) (lines_after ds ls)
program_lines-append [] d ls = refl
program_lines-append (x ∷ xs) d ls =
    let n = length (spell_definition x) in
    let own = lines_of (λ k. get_or (take n ls) k 0) x in
    ap (λ l. own ++ l) (program_lines-append xs d (drop n ls)) ∙ sym (append_assoc own (program_lines xs (drop n ls)) (program_lines (d ∷ []) (lines_after xs (drop n ls))))

notes_of-append : (ds : List Definition) (d : Definition) (ls : List ℕ) → notes_of (ds ++ d ∷ []) ls ≡ with_notes (notes_of ds ls) (notes_of (d ∷ []) (lines_after ds ls))
notes_of-append ds d ls = λ i. record { lines = program_lines-append ds d ls i; frames = flat_map-append frames_in ds (d ∷ []) i }

with_notes-assoc : (a b c : Notes) → with_notes (with_notes a b) c ≡ with_notes a (with_notes b c)
with_notes-assoc a b c = λ i. record { lines = append_assoc a.lines b.lines c.lines i; frames = append_assoc a.frames b.frames c.frames i }

with_notes-none : (t : Notes) → with_notes t no_notes ≡ t
with_notes-none t = λ i. record { lines = append-nil t.lines i; frames = append-nil t.frames i }

keeps_twice : (kept : Option Notes) (xs ys : Notes) (mid now : Option Notes) → KeepsMore kept xs mid → KeepsMore mid ys now → KeepsMore kept (with_notes xs ys) now
keeps_twice None xs ys mid now h k = go mid h k
  where
    go : (m : Option Notes) → m ≡ None → KeepsMore m ys now → now ≡ None
    go None e k = k
    go (Some l) e k = cc
keeps_twice (Some kept) xs ys mid now h k = go mid h k
  where
    go : (m : Option Notes) → (m ≡ None) ⊎ (m ≡ Some (with_notes kept xs)) → KeepsMore m ys now → (now ≡ None) ⊎ (now ≡ Some (with_notes kept (with_notes xs ys)))
    go None e k = inl k
    go (Some l) (inl e) k = cc
    go (Some l) (inr e) (inl k) = inl k
    go (Some l) (inr e) (inr k) = let same : l ≡ with_notes kept xs = cc in inr (k ∙ ap (λ x. Some (with_notes x ys)) same ∙ ap (λ x. Some x) (with_notes-assoc kept xs ys))

keeps_none : (kept : Option Notes) → KeepsMore kept no_notes kept
keeps_none None = refl
keeps_none (Some kept) = inr (ap (λ l. Some l) (sym (with_notes-none kept)))

-- what a compiler tells of a definition that it wrote
notes_now : {old next : Compiler} {before : List Definition} {since : HasWrittenSince old before} (w : Wrote since next) (more : List ℕ) → CanFollow next.tokens.source.end more
    → notes_by next ≡ Some (notes_of (w.definition ∷ []) (lines_after before (lines_in (tokens_from next.first.edition 1 (w.now.taken ++ more)))))
notes_now {old = old} {next = next} w more f =
    ap (option_map (λ l. record { lines = next.tokens.noted.lines; frames = table_frame l })) w.locals
    ∙ (λ i. Some (record { lines = w.lines more f i; frames = (frames_noted old.names w.definition w.clean ∙ sym (append-nil (frames_in w.definition))) i }))

-- before the first call
pub kept_new : (kept : Option Notes) (c : Compiler) → c ≡ new c.first → KeptSince kept c kept
kept_new kept c e = subst (λ x. KeptSince kept x kept) (sym e) (record { definitions = []; since = since_new c.first; notes = λ more f. keeps_none kept })

-- after a call that wrote a definition
pub kept_more : (kept mid now : Option Notes) (old next : Compiler) → KeptSince kept old mid → CompilerGives old step.Written next → WatchGives mid step.Written (notes_by next) now → SameCompiler old next → KeptSince kept next now
kept_more kept mid now old next k gives w same = record { definitions = ds ++ d ∷ []; since = wrote.now; notes = notes }
  where
    ds : List Definition
    ds = k.definitions

    wrote : Wrote k.since next
    wrote = gives.1 ds k.since

    d : Definition
    d = wrote.definition

    notes : (more : List ℕ) → CanFollow next.tokens.source.end more → KeepsMore kept (notes_of (ds ++ d ∷ []) (lines_in (tokens_from next.first.edition 1 (wrote.now.taken ++ more)))) now
    notes more f =
        let before = lines_in (tokens_from old.first.edition 1 (k.since.taken ++ (wrote.taken ++ more))) in
        let all = lines_in (tokens_from next.first.edition 1 (wrote.now.taken ++ more)) in
        let all_is : before ≡ all =
        ap (λ bs. lines_in (tokens_from old.first.edition 1 bs)) (sym (append_assoc k.since.taken wrote.taken more) ∙ ap (λ l. l ++ more) (sym wrote.all_taken))
        ∙ ap (λ x. lines_in (tokens_from x.edition 1 (wrote.now.taken ++ more))) (sym same.first) in
        let one = notes_of (d ∷ []) (lines_after ds all) in
        let sum : with_notes (notes_of ds before) one ≡ notes_of (ds ++ d ∷ []) all =
        ap (λ l. with_notes (notes_of ds l) one) all_is ∙ sym (notes_of-append ds d all) in
        subst (λ l. KeepsMore kept l now) sum
        (keeps_twice kept (notes_of ds before) one mid now (k.notes (wrote.taken ++ more) (follow wrote.took more f))
        (subst (λ t. WatchGives mid step.Written t now) (notes_now wrote more f) w))

-- after the last call
kept_all : (kept mid now : Option Notes) (old last : Compiler) (notes : Option Notes) → KeptSince kept old mid → CompilerGives old step.Finished last → WatchGives mid step.Finished notes now → KeptAll old.first.edition old.first.source last.tokens.source.end kept now
kept_all kept mid now old last notes k gives w = record { taken = k.since.taken ++ s.taken; took = Took-append k.since.took s.took; notes = all_notes }
  where
    s : StoppedAfter k.since None last
    s = gives.1 k.definitions k.since

    all_notes : (more : List ℕ) → CanFollow last.tokens.source.end more → (r : Compilation) (g : CompilesTo [] (tokens_from old.first.edition 1 ((k.since.taken ++ s.taken) ++ more)) r)
        → (r.stop ≡ None) × KeepsMore kept (notes_of g.definitions (lines_in (tokens_from old.first.edition 1 ((k.since.taken ++ s.taken) ++ more)))) now
    all_notes more f r g =
        let whole = append_assoc k.since.taken s.taken more in
        let follows = follow s.took more f in
        let is = s.comes more f r g in
        let goes = k.since.comes (s.taken ++ more) follows r (subst (λ bs. CompilesTo [] (tokens_from old.first.edition 1 bs) r) whole g) in
        let spelled = subst (λ bs. Spelled k.definitions (tokens_from old.first.edition 1 bs) (tokens_of old.tokens (s.taken ++ more))) (sym whole) (k.since.spelled (s.taken ++ more) follows) in
        let same = written_all k.definitions k.since.formed spelled goes.1 goes.2 is g in
        let before = notes_of k.definitions (lines_in (tokens_from old.first.edition 1 (k.since.taken ++ (s.taken ++ more)))) in (
          is.1,
          subst (λ l. KeepsMore kept l now)
              (with_notes-none before ∙ ap (λ bs. notes_of k.definitions (lines_in (tokens_from old.first.edition 1 bs))) (sym whole) ∙ ap (λ ds. notes_of ds (lines_in (tokens_from old.first.edition 1 ((k.since.taken ++ s.taken) ++ more)))) same)
              (keeps_twice kept before no_notes mid now (k.notes (s.taken ++ more) follows) w),
        )

pub watched : (kept mid now : Option Notes) (first old last : Compiler) (answer : Step) → SameCompiler first old → KeptSince kept old mid → CompilerGives old answer last → WatchGives mid answer (notes_by last) now → Watched first.first.edition first.first.source kept answer last.tokens.source.end now
watched kept mid now first old last step.Finished same k gives w = subst (λ x. KeptAll x.edition x.source last.tokens.source.end kept now) same.first (kept_all kept mid now old last (notes_by last) k gives w)
watched kept mid now first old last _ same k gives w = tt
