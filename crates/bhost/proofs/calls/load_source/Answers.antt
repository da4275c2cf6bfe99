use Rattle.std.proofs.Common.{◌∙◌, ap}
use Rattle.bsources.specs.Files.{files_shown}
use Rattle.btools.specs.FaultPlaces.{fault_lines}
use Rattle.btools.specs.Origins.{Source}
use Rattle.bhost.specs.declared.host.Host.{Host}
use Rattle.bhost.proofs.Loading.{untold}
use Rattle.bhost.proofs.calls.load_source.Goals as goal

pub returns-in-Err-clause-loads : goal.returns-in-Err-clause-loads
returns-in-Err-clause-loads g c = untold (Source c.args.edition) c.args.source.now c.put-in-Err.new.self
    (record {
      lines = fault_lines (files_shown c.args.files);
      before = g.D.ByteOut.outgoing c.args.diag.now;
      after = g.D.ByteOut.outgoing c.tell_placed.new.diag;
      status = c.tell_placed.result;
    })
    (ap (λ (h : Host). h.read) c.put-in-Err.ensures ∙ c.none.ensures.no_program)
    (ap (λ (h : Host). h.run) c.put-in-Err.ensures ∙ c.none.ensures.no_run)
    (c.tell_placed.ensures.tells (Source c.args.edition) c.args.source.now c.in-Err.ensures)
