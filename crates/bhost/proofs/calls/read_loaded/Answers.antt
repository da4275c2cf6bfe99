use Rattle.btools.specs.Origins.{origin_shown}
use Rattle.bhost.proofs.Loading.{fits_of, main_of}
use Rattle.bhost.proofs.calls.read_loaded.Goals as goal

pub invariant_of-new : goal.invariant_of-new
invariant_of-new c =
    let origin = origin_shown c.args.origin in
    let source = c.args.source.now in
    let program = c.in_ok-program.program in
    record {
      fits = fits_of origin source program c.in_ok-program.ensures.program;
      begins = main_of origin source program c.in_ok-program.ensures.program;
    }
