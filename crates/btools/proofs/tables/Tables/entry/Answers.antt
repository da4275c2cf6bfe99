use Rattle.std.proofs.Common.{◌∙◌, Some, ap, refl, sym}
use Rattle.btools.specs.Functions.{placed_entry}
use Rattle.btools.specs.ProgramLines.{columned_entry, lined_entry}
use Rattle.btools.specs.declared.tables.FunctionEntry.{FunctionEntry}
use Rattle.btools.proofs.Searching.{with_none, with_one}
use Rattle.btools.proofs.tables.Tables.entry.Goals as goal

pub returns-in-Some : goal.returns-in-Some
returns-in-Some c =
    let es = c.args.self.now.entries.items in
    let found = c.index.result.now in
    let lies = c.in-Some.ensures in
    record {
      function = ap (λ (e : FunctionEntry). Some (placed_entry e)) c.index.ensures
          ∙ sym (with_one placed_entry (λ f. f.strings) (λ e. refl) c.args.strings es c.in-Some.place found c.args.self.now.in_order lies.0 (lies.1 found));
      lines = ap (λ (e : FunctionEntry). Some (lined_entry e)) c.index.ensures
          ∙ sym (with_one lined_entry (λ f. f.strings) (λ e. refl) c.args.strings es c.in-Some.place found c.args.self.now.in_order lies.0 (lies.1 found));
      columns = ap (λ (e : FunctionEntry). Some (columned_entry e)) c.index.ensures
          ∙ sym (with_one columned_entry (λ f. f.strings) (λ e. refl) c.args.strings es c.in-Some.place found c.args.self.now.in_order lies.0 (lies.1 found));
    }

pub returns-in-None : goal.returns-in-None
returns-in-None c =
    let es = c.args.self.now.entries.items in
    record {
      function = sym (with_none placed_entry (λ f. f.strings) (λ e. refl) c.args.strings es c.in-None.ensures);
      lines = sym (with_none lined_entry (λ f. f.strings) (λ e. refl) c.args.strings es c.in-None.ensures);
      columns = sym (with_none columned_entry (λ f. f.strings) (λ e. refl) c.args.strings es c.in-None.ensures);
    }
