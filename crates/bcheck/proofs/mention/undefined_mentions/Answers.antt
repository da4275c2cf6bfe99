use Rattle.std.proofs.Common.{◌≡◌, ◌∙◌, ◌++◌, ap, arith, map, vec_items}
use Rattle.bcheck.specs.UndefinedNames.{heading_of, subject_of, told_of}
use Rattle.bcheck.specs.Mentions.{subjects}
use Rattle.bcheck.proofs.MentionSteps.{all_found, found_more}
use Rattle.bcheck.proofs.mention.undefined_mentions.Goals as goal

pub loop-index-preserved : goal.loop-index-preserved
loop-index-preserved c =
    let ds = c.args.definitions.now in
    let d = c.index-definitions-index.result in
    let names = vec_items c.in_ok-names.names in
    let old = vec_items c.loop-index.found in
    let told : c.told_of-told.result.now ≡ told_of (heading_of d) names =
    c.told_of-told.ensures ∙ ap (λ ns. told_of c.heading_of-heading.result ns) c.as_slice.ensures.value ∙ ap (λ h. told_of h names) c.heading_of-heading.ensures in
    let pushed = c.in_ok-push_mentions.ensures ∙ ap (λ ns. subjects old ++ map (subject_of c.heading_of-heading.result c.name_of.result) ns) told
    ∙ ap (λ h. subjects old ++ map (subject_of h c.name_of.result) (told_of (heading_of d) names)) c.heading_of-heading.ensures
    ∙ ap (λ own. subjects old ++ map (subject_of (heading_of d) own) (told_of (heading_of d) names)) c.name_of.ensures in
    found_more ds c.loop-index.index d names old (vec_items c.push_mentions.new.found) c.loop-index.known c.new_names.new.known c.loop-index-test.true c.index-definitions-index.is
    (λ seen knows. c.in_ok-names.ensures ds seen knows) pushed c.loop-index.invariant

pub returns : goal.returns
returns c =
    all_found c.args.definitions.now c.loop-index.index (vec_items c.loop-index.found) (vec_items c.truncate.new.self) c.loop-index.known (omega arith) c.truncate.ensures.items c.loop-index.invariant
