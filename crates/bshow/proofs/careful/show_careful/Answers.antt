use Rattle.std.proofs.Common.{◌∙◌, refl, subst}
use Rattle.bword.specs.ByteEnds.{Incoming}
use Rattle.blang.specs.Reports.{RunEnds}
use Rattle.btools.specs.Origins.{origin_shown}
use Rattle.btools.proofs.Functions.{data_fit}
use Rattle.bwatch.proofs.Origins.{loaded_in, loads_in}
use Rattle.bshow.specs.CarefulPages.{no_memory, not_begun, shown, stopped, unkept, unread}
use Rattle.bshow.specs.Shows.{Shows, asked_of}
use Rattle.bshow.proofs.CarefulRuns.{nothing_read, shown_over}
use Rattle.bshow.proofs.careful.show_careful.Goals as goal

pub returns-in-Err-clause-shows : goal.returns-in-Err-clause-shows
returns-in-Err-clause-shows g c =
    stopped (c.tell_placed.ensures.tells (origin_shown c.args.origin) c.args.source.now c.in-Err.ensures.program) (record { unread = refl; silent = refl })

pub new-requires : goal.new-requires
new-requires g c =
    data_fit c.in-Ok.program.definitions.items
    (loads_in (origin_shown c.args.origin) c.args.source.now c.in-Ok.program.definitions.items c.in-Ok.program.image c.in-Ok.ensures.program)

pub find_first-requires-clause-loaded : goal.find_first-requires-clause-loaded
find_first-requires-clause-loaded g c =
    loaded_in (origin_shown c.args.origin) c.args.source.now c.in-Ok.program.definitions.items c.in-Ok.program.image c.in-Ok.ensures.program

pub returns-in-Memory-clause-shows : goal.returns-in-Memory-clause-shows
returns-in-Memory-clause-shows g c =
    no_memory c.in-Ok.program.definitions.items c.in-Ok.program.image c.in-Ok.ensures.program ((c.in-Ok.program.names.lines.items, c.in-Ok.ensures.lines), (c.in-Ok.program.names.frames.items, c.in-Ok.ensures.names))
    (rw c.in-Memory.is at c.in-Err-find_first.ensures.nothing) (record { no_page = refl; no_line = refl; status_is = refl })

pub returns-in_default-why : goal.returns-in_default-why
returns-in_default-why g c =
    let none = nothing_read c.in-Ok.program.definitions.items c.in-Ok.program.image c.args.wanted.steps _ _ c.in-Err-find_first.why c.in_default-why.not-Memory c.in-Err-find_first.ensures.nothing in
    record {
      shows = not_begun c.in-Ok.program.definitions.items c.in-Ok.program.image c.in-Err-find_first.why c.in-Ok.ensures.program ((c.in-Ok.program.names.lines.items, c.in-Ok.ensures.lines), (c.in-Ok.program.names.frames.items, c.in-Ok.ensures.names)) none.0
          c.in_default-why.not-Memory
          (subst (λ (i : Incoming). Shows (origin_shown c.args.origin) c.args.source.now (asked_of c.args.wanted) (record {
            input = i;
            input_after = g.I.ByteIn.incoming c.show.new.input;
            out = g.O.ByteOut.outgoing c.args.out.now;
            out_after = g.O.ByteOut.outgoing c.show.new.out;
            line = g.D.ByteOut.outgoing c.args.diag.now;
            line_after = g.D.ByteOut.outgoing c.show.new.diag;
          }) c.show.result) none.1 c.show.ensures.shows);
      input_lender = c.show.ensures.input_lender ∙ c.find_first.ensures.same;
      out_lender = c.show.ensures.out_lender;
      diag_lender = c.show.ensures.diag_lender;
    }

pub returns-in-Device-clause-shows : goal.returns-in-Device-clause-shows
returns-in-Device-clause-shows g c =
    let silent = c.in-Ok-find_first.silent in
    unread c.in-Ok.program.definitions.items c.in-Ok.program.image c.in-Ok.program.names.frames.items silent.stop silent.meaning c.in-Ok.ensures.program ((c.in-Ok.program.names.lines.items, c.in-Ok.ensures.lines), (c.in-Ok.program.names.frames.items, c.in-Ok.ensures.names)) c.in-Ok.ensures.names
    c.in-Ok-find_first.ensures.finds c.in-Device.is (record { no_page = refl; no_line = refl; status_is = refl })

pub returns-in-Memory-outcome-clause-shows : goal.returns-in-Memory-outcome-clause-shows
returns-in-Memory-outcome-clause-shows g c =
    let silent = c.in-Ok-find_first.silent in
    unkept c.in-Ok.program.definitions.items c.in-Ok.program.image c.in-Ok.program.names.frames.items silent.stop silent.meaning c.in-Ok.ensures.program ((c.in-Ok.program.names.lines.items, c.in-Ok.ensures.lines), (c.in-Ok.program.names.frames.items, c.in-Ok.ensures.names)) c.in-Ok.ensures.names
    c.in-Ok-find_first.ensures.finds (record { no_page = refl; no_line = refl; status_is = refl })

pub returns-in_default-extent : goal.returns-in_default-extent
returns-in_default-extent g c =
    let silent = c.in-Ok-find_first.silent in
    record {
      shows = unkept c.in-Ok.program.definitions.items c.in-Ok.program.image c.in-Ok.program.names.frames.items silent.stop silent.meaning c.in-Ok.ensures.program ((c.in-Ok.program.names.lines.items, c.in-Ok.ensures.lines), (c.in-Ok.program.names.frames.items, c.in-Ok.ensures.names)) c.in-Ok.ensures.names
          c.in-Ok-find_first.ensures.finds (record { no_page = refl; no_line = refl; status_is = refl });
      input_lender = c.find_first.ensures.same;
      out_lender = refl;
      diag_lender = refl;
    }

pub returns : goal.returns
returns g c =
    let silent = c.in-Ok-find_first.silent in
    let ends : RunEnds = record {
      input = g.I.ByteIn.incoming c.args.input.now;
      input_after = g.I.ByteIn.incoming c.find_first.new.input;
      out = g.O.ByteOut.outgoing c.args.out.now;
      out_after = g.O.ByteOut.outgoing c.show-2.new.out;
      line = g.D.ByteOut.outgoing c.args.diag.now;
      line_after = g.D.ByteOut.outgoing c.show-2.new.diag;
    } in
    record {
      shows = shown c.in-Ok.program.definitions.items c.in-Ok.program.image c.in-Ok.program.names.frames.items silent.stop silent.meaning silent.read.bytes.items c.show-2.new.input
          c.in-Ok.ensures.program ((c.in-Ok.program.names.lines.items, c.in-Ok.ensures.lines), (c.in-Ok.program.names.frames.items, c.in-Ok.ensures.names)) c.in-Ok.ensures.names c.in-Ok-find_first.ensures.finds c.in_default-outcome.not-Device c.in_default-outcome.not-Memory (c.in-Ok-find_first.ensures.records.taken (rw c.in-Whole.is refl))
          (shown_over (origin_shown c.args.origin) c.args.source.now _ _ ends c.show-2.result c.new-read.result c.show-2.new.input c.as_slice.result.now silent.read.bytes.items c.up_to-found.ensures c.new-read.ensures c.as_slice.ensures.value c.show-2.ensures.shows);
      input_lender = c.find_first.ensures.same;
      out_lender = c.show-2.ensures.out_lender;
      diag_lender = c.show-2.ensures.diag_lender;
    }
