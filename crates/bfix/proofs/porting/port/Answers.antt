use Rattle.std.proofs.Common.{◌∙◌, ap, drop, take}
use Rattle.bsources.specs.Files.{files_shown}
use Rattle.bfix.proofs.PortSteps.{ports_of}
use Rattle.bfix.proofs.porting.port.Goals as goal

pub returns-in-Ok-clause-ports : goal.returns-in-Ok-clause-ports
returns-in-Ok-clause-ports g c =
    let source = c.args.source.now in
    ports_of
    (record {
      edition = c.args.edition;
      files = files_shown c.args.files;
      source = source;
      out = g.O.ByteOut.outgoing c.args.out.now;
      out_after = g.O.ByteOut.outgoing c.tell_both.new.out;
      line = g.D.ByteOut.outgoing c.args.diag.now;
      line_after = g.D.ByteOut.outgoing c.tell_both.new.diag;
      status = c.tell_both.result;
    })
    c.split_at.result.0.now c.split_at.result.1.now c.in-Ok.made
    (c.split_at.ensures.front ∙ ap (λ n. take n source) c.own_length.ensures.equation)
    (c.split_at.ensures.back ∙ ap (λ n. drop n source) c.own_length.ensures.equation) c.in-Ok.ensures
    c.tell_both.ensures.tells
