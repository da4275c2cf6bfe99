use Rattle.std.proofs.Common.{◌++◌, ℕ, List, codes, decimal, reverse}
use Rattle.std.proofs.lemmas.Result.{on_ok_weaker}
use Rattle.btools.proofs.AddedTexts.{piece}
use Rattle.bshow.specs.Escapes.{escaped}
use Rattle.bshow.specs.Facts.{calls_text, memory_text}
use Rattle.bshow.proofs.facts.push_run.Goals as goal

pub returns : goal.returns
returns g c =
    let t0 = c.args.text.now in
    let a0 : List ℕ = codes ",\"calls_at\":" in
    let a1 : List ℕ = decimal c.args.at in
    let a2 : List ℕ = codes ",\"calls\":" in
    let a3 : List ℕ = calls_text (reverse c.args.calls.now) in
    let a4 : List ℕ = codes ",\"words\":" in
    let a5 : List ℕ = memory_text c.args.stepper.now.store in
    let a6 : List ℕ = codes ",\"heard\":\"" in
    let a7 : List ℕ = escaped c.args.heard.now in
    let a8 : List ℕ = codes "\",\"output\":\"" in
    let a9 : List ℕ = escaped c.args.output.now in
    let a10 : List ℕ = codes "\"" in
    let p1 = piece t0 c.push.new.self c.push_number.new.self (a0) a1 c.in_ok-push.ensures c.in_ok-push_number.ensures in
    let p2 = piece t0 c.push_number.new.self c.push-2.new.self (a0 ++ a1) a2 p1 c.in_ok-push-2.ensures in
    let p3 = piece t0 c.push-2.new.self c.push_calls.new.text (a0 ++ a1 ++ a2) a3 p2 c.in_ok-push_calls.ensures in
    let p4 = piece t0 c.push_calls.new.text c.push-3.new.self (a0 ++ a1 ++ a2 ++ a3) a4 p3 c.in_ok-push-3.ensures in
    let p5 = piece t0 c.push-3.new.self c.push_memory.new.text (a0 ++ a1 ++ a2 ++ a3 ++ a4) a5 p4 c.in_ok-push_memory.ensures in
    let p6 = piece t0 c.push_memory.new.text c.push-4.new.self (a0 ++ a1 ++ a2 ++ a3 ++ a4 ++ a5) a6 p5 c.in_ok-push-4.ensures in
    let p7 = piece t0 c.push-4.new.self c.push_escaped.new.text (a0 ++ a1 ++ a2 ++ a3 ++ a4 ++ a5 ++ a6) a7 p6 c.in_ok-push_escaped.ensures in
    let p8 = piece t0 c.push_escaped.new.text c.push-5.new.self (a0 ++ a1 ++ a2 ++ a3 ++ a4 ++ a5 ++ a6 ++ a7) a8 p7 c.in_ok-push-5.ensures in
    let p9 = piece t0 c.push-5.new.self c.push_escaped-2.new.text (a0 ++ a1 ++ a2 ++ a3 ++ a4 ++ a5 ++ a6 ++ a7 ++ a8) a9 p8 c.in_ok-push_escaped-2.ensures in
    on_ok_weaker c.push-6.result (λ end. piece t0 c.push_escaped-2.new.text c.push-6.new.self (a0 ++ a1 ++ a2 ++ a3 ++ a4 ++ a5 ++ a6 ++ a7 ++ a8 ++ a9) a10 p9 end) c.push-6.ensures
