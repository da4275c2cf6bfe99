use Rattle.std.proofs.Common.{◌≡◌, ◌+◌, ℕ, length, ap, ◌∙◌}
use Rattle.std.specs.List.{count_by}
use Rattle.memchr.specs.Find.{is_byte}
use Rattle.memchr.proofs.lemmas.CallerLemmas.{length-places}
use Rattle.bsources.specs.FileLines.{File}
use Rattle.bsources.proofs.files.SourceFile.new.Goals as goal

pub returns : goal.returns
returns c =
    let count : c.count.result ≡ count_by (is_byte 10) c.args.text.now = c.count.ensures ∙ ap length c.memchr_iter.ensures.value ∙ length-places (is_byte 10) c.args.text.now in
    let lined : ℕ → File = λ n. record { name = c.args.name.now; lines = n + 1 } in
    ap lined count
