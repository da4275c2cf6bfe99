use Rattle.std.proofs.Common.{◌∙◌, ◌++◌, List, ℕ, [], ◌∷◌, ap, append-nil, map, sym}
use Rattle.std.proofs.lemmas.List.{take_all}
use Rattle.std.proofs.lemmas.Str.Ascii.{trim_ascii_end_is}
use Rattle.btools.specs.SourceLines.{plain_byte}
use Rattle.btools.proofs.SourceLines.{byte_added}
use Rattle.btools.proofs.source_lines.push_source_line.Goals as goal

pub loop-byte-init : goal.loop-byte-init
loop-byte-init c = sym (append-nil c.args.text.now)

pub loop-byte-preserved : goal.loop-byte-preserved
loop-byte-preserved c =
    let bytes = c.trim_ascii_end-byte-items.result.now in
    let i = c.loop-byte.byte-index in
    byte_added plain_byte c.args.text.now c.loop-byte.text c.push.new.self bytes i c.loop-byte-test.true c.loop-byte.invariant
    (c.in_ok-push.ensures ∙ ap (λ (b : ℕ). c.loop-byte.text ++ b ∷ []) c.plain_byte.ensures)

pub returns : goal.returns
returns c =
    let bytes = c.trim_ascii_end-byte-items.result.now in
    c.loop-byte.invariant ∙ ap (λ (t : List ℕ). c.args.text.now ++ map plain_byte t) (take_all c.loop-byte.byte-index bytes c.loop-byte-test.false ∙ trim_ascii_end_is c.args.line.now bytes c.trim_ascii_end-byte-items.ensures.value)
