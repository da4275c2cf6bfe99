use Rattle.std.proofs.Common.{◌∙◌, ap, drop, take}
use Rattle.bsources.specs.Files.{files_shown}
use Rattle.bfix.proofs.FixSteps.{fixes_of}
use Rattle.bfix.proofs.fixing.fix.Goals as goal

pub returns-in-Ok-clause-fixes : goal.returns-in-Ok-clause-fixes
returns-in-Ok-clause-fixes g c =
    let source = c.args.source.now in
    fixes_of
    (record {
      edition = c.args.edition;
      files = files_shown c.args.files;
      source = source;
      out = g.O.ByteOut.outgoing c.args.out.now;
      out_after = g.O.ByteOut.outgoing c.tell_both.new.out;
      line = g.D.ByteOut.outgoing c.args.diag.now;
      line_after = g.D.ByteOut.outgoing c.tell_both.new.diag;
      status = c.tell_both.result;
    })
    c.split_at.result.0.now c.split_at.result.1.now c.in-Ok.fixed
    (c.split_at.ensures.front ∙ ap (λ n. take n source) c.own_length.ensures.equation)
    (c.split_at.ensures.back ∙ ap (λ n. drop n source) c.own_length.ensures.equation) c.in-Ok.ensures
    c.tell_both.ensures.tells
