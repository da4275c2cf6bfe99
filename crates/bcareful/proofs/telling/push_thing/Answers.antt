use Rattle.std.proofs.Common.{◌≡◌, ◌∙◌, ◌+◌, ◌-◌, ◌%◌, ◌∷◌, ◌++◌, ap, codes, map}
use Rattle.std.proofs.lemmas.Result.{on_ok_weaker}
use Rattle.bmach.specs.Stops.{active_of}
use Rattle.btools.specs.Characters.{signed_text}
use Rattle.btools.proofs.AddedTexts.{piece}
use Rattle.bcareful.specs.Things.{atlas_of}
use Rattle.bcareful.specs.Tellings.{extent_text, numbered_text, word_name}
use Rattle.bcareful.proofs.telling.push_thing.Goals as goal

pub returns : goal.returns
returns g c =
    let start = c.args.text.now in
    let t = c.args.thing in
    let calls = active_of c.args.stepper.now.call ∷ map active_of c.args.stepper.now.below in
    let number = signed_text ((c.args.address + (65536 - t.start)) % 65536) in
    let numbered = numbered_text (word_name (atlas_of c.args.atlas.now) calls t.start) number in
    let p1 : c.push_numbered.new.text ≡ start ++ numbered =
    c.in_ok-push_numbered.ensures ∙ ap (λ w. start ++ numbered_text w number) c.word_name-first.ensures in
    let p2 = piece start c.push_numbered.new.text c.push_extent.new.text numbered (extent_text t) p1 c.in_ok-push_extent.ensures in
    on_ok_weaker c.push.result (λ e. piece start c.push_extent.new.text c.push.new.self (numbered ++ extent_text t) (codes ": this is ") p2 e) c.push.ensures
