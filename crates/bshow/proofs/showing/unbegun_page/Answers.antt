use Rattle.std.proofs.Common.{◌∙◌, ◌++◌, ℕ, List, ap, append-nil, sym}
use Rattle.btools.proofs.AddedTexts.{piece}
use Rattle.bsources.specs.Files.{files_shown}
use Rattle.bshow.specs.Facts.{no_run_text, program_text, unbegun_sentence}
use Rattle.bshow.specs.Shows.{head, said_text, tail}
use Rattle.bshow.specs.declared.page.TheConstants.{BETWEEN, SCRIPT}
use Rattle.bshow.proofs.showing.unbegun_page.Goals as goal

pub returns : goal.returns
returns c =
    let program : List ℕ = program_text (files_shown c.args.wanted.files) c.args.source.now c.args.wanted.given.now c.args.program.now.definitions.items c.args.program.now.names.frames.items in
    let said : List ℕ = said_text (unbegun_sentence c.args.trap) program in
    let e1 = c.in_ok-push_head.ensures ∙ ap (λ t. t ++ head) c.new-page.ensures ∙ sym (append-nil head) in
    let s1 = piece c.push_head.new.page c.push.new.self c.push_unbegun.new.text BETWEEN.now (unbegun_sentence c.args.trap) c.in_ok-push.ensures c.in_ok-push_unbegun.ensures in
    let s2 = piece c.push_head.new.page c.push_unbegun.new.text c.push-2.new.self (BETWEEN.now ++ unbegun_sentence c.args.trap) SCRIPT.now s1 c.in_ok-push-2.ensures in
    let s3 = piece c.push_head.new.page c.push-2.new.self c.push_program.new.text (BETWEEN.now ++ unbegun_sentence c.args.trap ++ SCRIPT.now) program s2 c.in_ok-push_program.ensures in
    let e2 = s3 ∙ ap (λ t. t ++ said) e1 in
    let e3 = c.in_ok-push-3.ensures ∙ ap (λ t. t ++ no_run_text) e2 in
    c.in_ok-push_tail.ensures ∙ ap (λ t. t ++ tail) e3
