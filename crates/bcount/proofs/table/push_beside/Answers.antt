use Rattle.std.proofs.Common.{codes}
use Rattle.std.proofs.lemmas.Result.{on_ok_weaker}
use Rattle.btools.specs.SourceLines.{shown_line}
use Rattle.btools.proofs.AddedTexts.{piece}
use Rattle.bcount.proofs.table.push_beside.Goals as goal

pub returns : goal.returns
returns c =
    on_ok_weaker c.push_source_line.result (piece c.args.text.now c.push.new.self c.push_source_line.new.text (codes "  ") (shown_line c.args.source.now) c.in_ok-push.ensures) c.push_source_line.ensures
