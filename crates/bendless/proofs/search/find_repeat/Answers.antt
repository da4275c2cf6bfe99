use Rattle.std.proofs.Common.{refl}
use Rattle.bendless.proofs.Searching.{found_again, full_first}
use Rattle.bendless.proofs.search.find_repeat.Goals as goal

pub search-requires : goal.search-requires
search-requires g c = full_first c.args.image.now c.in-Ok.stepper c.in-Ok.ensures c.requires.fits

pub returns-in-Ok : goal.returns-in-Ok
returns-in-Ok g c =
    let bytes = c.args.bytes.now in
    found_again c.args.image.now c.in-Ok.stepper bytes bytes c.args.has_end c.search.result c.in-Ok.ensures refl c.search.ensures
