use Rattle.bcore.proofs.ReadLibs.{source_read}
use Rattle.bcore.proofs.sources.read_source.Goals as goal

pub returns-in-Ok-extend_from_slice-clause-ok : goal.returns-in-Ok-extend_from_slice-clause-ok
returns-in-Ok-extend_from_slice-clause-ok g c =
    source_read _ _ _ c.in-Ok.text.items c.text.result.now c.as_slice.result.now c.in-Ok.ensures.text c.in-Ok-read_libs.ensures.ok
    c.in-Ok-extend_from_slice.ensures.items c.text.ensures c.new-first.ensures c.as_slice.ensures.value
