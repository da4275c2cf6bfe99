-- A program that was read loads, whatever it was read from.
use Rattle.std.proofs.Common.{◌≡◌, ℕ, List, None}
use Rattle.blang.specs.declared.code.Definition.{Definition}
use Rattle.blang.specs.Layout.{load_fault}
use Rattle.blang.specs.Machine.{Image}
use Rattle.bmach.specs.Resolved.{IsLoadedFrom}
use Rattle.btools.specs.Origins.{Code, Origin, ProgramOf, Source}

pub loads_in : (origin : Origin) (source : List ℕ) (ds : List Definition) (image : Image) → ProgramOf origin source ds image → load_fault ds ≡ None
loads_in (Source edition) source ds image is = is.loads
loads_in (Code c) source ds image is = is.loads

pub loaded_in : (origin : Origin) (source : List ℕ) (ds : List Definition) (image : Image) → ProgramOf origin source ds image → IsLoadedFrom ds image
loaded_in (Source edition) source ds image is = is.loaded
loaded_in (Code c) source ds image is = is.loaded
