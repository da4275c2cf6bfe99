-- A program that was read fits into memory; and why there is none is told where none is in memory.
use Rattle.std.proofs.Common.{◌≡◌, ◌≤◌, ℕ, List, Option, None, map, subst, sym}
use Rattle.std.specs.Prelude.{IsSome, MatchOption}
use Rattle.blang.specs.Layout.{data_end, shape_of}
use Rattle.blang.specs.declared.status.TheConstants.{DONE}
use Rattle.btools.proofs.Functions.{data_fit}
use Rattle.btools.specs.Origins.{Code, IsProgramOf, NoProgramOf, Origin, Source}
use Rattle.btools.specs.declared.program.Program.{Program}
use Rattle.bhost.proofs.Beginning.{loaded_main}
use Rattle.bhost.specs.Hosts.{LoadedValue}
use Rattle.bhost.specs.Statuses.{HoldsProgramOf, LineTold, LoadsTelling}
use Rattle.bhost.specs.declared.host.Host.{Host}

pub fits_of : (origin : Origin) (source : List ℕ) (p : Program) → IsProgramOf origin source p
    → data_end (map shape_of p.definitions.items) ≤ 65536
fits_of (Source edition) source p h = data_fit p.definitions.items h.loads
fits_of (Code c) source p h = data_fit p.definitions.items h.loads

-- and it has a main function
pub main_of : (origin : Origin) (source : List ℕ) (p : Program) → IsProgramOf origin source p → IsSome p.image.main
main_of (Source edition) source p h = loaded_main p.definitions.items p.image h.loads h.loaded
main_of (Code c) source p h = loaded_main p.definitions.items p.image h.loads h.loaded

pub untold : (origin : Origin) (source : List ℕ) (h : Host) (it : LineTold) → h.read ≡ None → h.run ≡ None
    → NoProgramOf origin source it.lines it.before it.after it.status → LoadsTelling origin source h it
untold origin source h it none no_run told = (
  no_run,
  subst (λ (read : Option LoadedValue). MatchOption read (NoProgramOf origin source it.lines it.before it.after it.status)
      (λ loaded. HoldsProgramOf origin source loaded × (it.after ≡ it.before) × (it.status ≡ DONE))) (sym none) told,
)
