use Rattle.std.proofs.Common.{◌∙◌, ◌++◌, ℕ, List, codes}
use Rattle.std.proofs.lemmas.Result.{on_ok_weaker}
use Rattle.btools.proofs.AddedTexts.{piece}
use Rattle.bsources.specs.Files.{files_shown}
use Rattle.bshow.specs.Escapes.{escaped}
use Rattle.bshow.specs.Facts.{definitions_text, files_text, frames_text}
use Rattle.bshow.proofs.facts.push_program.Goals as goal

pub returns : goal.returns
returns c =
    let t0 = c.args.text.now in
    let a0 : List ℕ = codes "{\"parts\":" in
    let a1 : List ℕ = files_text (files_shown c.args.files) in
    let a2 : List ℕ = codes ",\"source\":\"" in
    let a3 : List ℕ = escaped c.args.source.now in
    let a4 : List ℕ = codes "\",\"given\":\"" in
    let a5 : List ℕ = escaped c.args.given.now in
    let a6 : List ℕ = codes "\",\"definitions\":" in
    let a7 : List ℕ = definitions_text c.as_slice.result.now in
    let a8 : List ℕ = codes ",\"frames\":" in
    let a9 : List ℕ = frames_text c.as_slice-2.result.now in
    let p1 = piece t0 c.push.new.self c.push_files.new.text (a0) a1 c.in_ok-push.ensures c.in_ok-push_files.ensures in
    let p2 = piece t0 c.push_files.new.text c.push-2.new.self (a0 ++ a1) a2 p1 c.in_ok-push-2.ensures in
    let p3 = piece t0 c.push-2.new.self c.push_escaped.new.text (a0 ++ a1 ++ a2) a3 p2 c.in_ok-push_escaped.ensures in
    let p4 = piece t0 c.push_escaped.new.text c.push-3.new.self (a0 ++ a1 ++ a2 ++ a3) a4 p3 c.in_ok-push-3.ensures in
    let p5 = piece t0 c.push-3.new.self c.push_escaped-2.new.text (a0 ++ a1 ++ a2 ++ a3 ++ a4) a5 p4 c.in_ok-push_escaped-2.ensures in
    let p6 = piece t0 c.push_escaped-2.new.text c.push-4.new.self (a0 ++ a1 ++ a2 ++ a3 ++ a4 ++ a5) a6 p5 c.in_ok-push-4.ensures in
    let p7 = piece t0 c.push-4.new.self c.push_definitions.new.text (a0 ++ a1 ++ a2 ++ a3 ++ a4 ++ a5 ++ a6) a7 p6 c.in_ok-push_definitions.ensures in
    let p8 = piece t0 c.push_definitions.new.text c.push-5.new.self (a0 ++ a1 ++ a2 ++ a3 ++ a4 ++ a5 ++ a6 ++ a7) a8 p7 c.in_ok-push-5.ensures in
    on_ok_weaker c.push_frames.result (λ end. piece t0 c.push-5.new.self c.push_frames.new.text (a0 ++ a1 ++ a2 ++ a3 ++ a4 ++ a5 ++ a6 ++ a7 ++ a8) a9 p8 end
    ∙ (λ i. t0 ++ (a0 ++ a1 ++ a2 ++ a3 ++ a4 ++ a5 ++ a6 ++ definitions_text (c.as_slice.ensures.value i) ++ a8 ++ frames_text (c.as_slice-2.ensures.value i)))) c.push_frames.ensures
