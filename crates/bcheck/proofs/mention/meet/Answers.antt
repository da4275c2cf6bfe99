use Rattle.std.proofs.Common.{[], ◌∷◌, ◌∙◌, ◌+◌, ◌++◌, ap, arith, drop, refl, subst, sym, vec_items}
use Rattle.std.proofs.lemmas.List.{drop_all}
use Rattle.bcheck.proofs.MentionSteps.{here, MeetsSoFar, all_met, meets_new, passes_known, passes_library}
use Rattle.bcheck.proofs.mention.meet.Goals as goal
use Rattle.bcheck.proofs.mention.meet.Goals.{then-not-is_library+in_ok-put+then-branch+in_ok-push, else-not-is_library, else-not-is_library-via-then-not-is_library+in_ok-put+else-branch, else-not-is_library-via-else-not-is_library}

pub loop-name-preserved : goal.loop-name-preserved
loop-name-preserved c = λ ds before knows.
    let mentioned = c.args.mentioned.now in
    let i = c.loop-name.name-index in
    let x = c.name-item.result in
    let rest = drop (i + 1) mentioned in
    let names = vec_items c.loop-name.names in
    let known = c.loop-name.known in
    let left = here mentioned i x c.loop-name-test.true c.name-item.is in
    let so = c.loop-name.invariant ds before knows in
    elim c.if-not-is_library.branch [
      | then-not-is_library+in_ok-put+then-branch+in_ok-push w ↦
          let all = meets_new ds before mentioned i x rest names known w.put.new.names left refl (sym c.is_library.ensures ∙ w.if-not-is_library.true) (sym w.if-branch.true ∙ w.in_ok-put.ensures.new) w.in_ok-put.ensures.more so in
          subst (λ ns. MeetsSoFar ds before mentioned (i + 1) ns c.if-not-is_library.known) (sym (ap vec_items w.names-is ∙ w.in_ok-push.ensures.items))
          (subst (λ t. MeetsSoFar ds before mentioned (i + 1) (names ++ x ∷ []) t) (sym w.known-is) all)
      | else-not-is_library w ↦
          let same = λ (all : MeetsSoFar ds before mentioned (i + 1) names w.else-not-is_library.known). subst (λ ns. MeetsSoFar ds before mentioned (i + 1) ns c.if-not-is_library.known) (sym (ap vec_items w.names-is))
          (subst (λ t. MeetsSoFar ds before mentioned (i + 1) names t) (sym w.known-is) all) in
          elim w.else-not-is_library.branch [
            | else-not-is_library-via-then-not-is_library+in_ok-put+else-branch v ↦
                same (subst (λ t. MeetsSoFar ds before mentioned (i + 1) names t) (sym v.known-is)
                (passes_known ds before mentioned i x rest names known v.put.new.names left refl (sym v.if-branch.false ∙ v.in_ok-put.ensures.new) v.in_ok-put.ensures.more so))
            | else-not-is_library-via-else-not-is_library v ↦
                same (subst (λ t. MeetsSoFar ds before mentioned (i + 1) names t) (sym v.known-is)
                (passes_library ds before mentioned i x rest names known left refl (sym c.is_library.ensures ∙ v.if-not-is_library.false) so))
          ]
    ]

pub returns : goal.returns
returns c = λ ds before knows.
    all_met ds before c.args.mentioned.now c.loop-name.name-index (vec_items c.loop-name.names) c.loop-name.known (drop_all c.loop-name.name-index c.args.mentioned.now (omega arith)) (c.loop-name.invariant ds before knows)
