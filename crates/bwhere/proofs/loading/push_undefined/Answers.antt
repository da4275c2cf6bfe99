use Rattle.std.proofs.Common.{◌∙◌, ◌++◌, ℕ, ap, codes}
use Rattle.btools.proofs.AddedTexts.{piece}
use Rattle.bwhere.specs.Wheres.{code_line_text, line_using}
use Rattle.bwhere.proofs.loading.push_undefined.Goals as goal

pub returns : goal.returns
returns c =
    let start = c.args.text.now in
    let code = c.args.code.now in
    let name = c.args.name.now in
    let line = code_line_text code (line_using code name) in
    let p1 = c.in_ok-push_line.ensures ∙ ap (λ (n : ℕ). start ++ code_line_text code n) c.line_using.ensures in
    let p2 = piece start c.push_line.new.text c.push.new.self line (codes "  means: ") p1 c.in_ok-push.ensures in
    let p3 = piece start c.push.new.self c.push-2.new.self (line ++ codes "  means: ") name p2 c.in_ok-push-2.ensures in
    piece start c.push-2.new.self c.push-3.new.self (line ++ codes "  means: " ++ name) (codes " is neither defined nor in the library\n") p3 c.in_ok-push-3.ensures
