use Rattle.std.proofs.Common.{inl, inr, refl, rules}
use Rattle.btools.specs.FaultPlaces.{fault_lines}
use Rattle.btools.specs.Origins.{Source}
use Rattle.bembed.specs.WithFiles.{done}
use Rattle.bembed.proofs.Over.{loads_into}
use Rattle.bembed.proofs.loading.b_load_with.Goals as goal

pub returns-clause-loads : goal.returns-clause-loads
returns-clause-loads c none = done c.in-Ok.whole c.in-Ok.ensures.ok (record {
  no_output = record { same = refl; none = search rules };
  loads = loads_into (Source c.in-Ok.whole.edition) c.in-Ok.whole.text c.load_source.new.host (fault_lines c.in-Ok.whole.files)
      c.new-line.result c.load_source.new.diag _ _
      (record {
        before = c.new-line.ensures.before;
        empty = c.new-line.ensures.empty;
        same = c.load_source.ensures.diag_lender;
        after = search rules;
        told = search rules;
        size = search rules;
      })
      (rw (c.edition.ensures, c.text.ensures, c.files.ensures) at c.load_source.ensures.loads);
})
