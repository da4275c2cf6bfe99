-- Inner words: what a session with its program owns.
use Rattle.std.specs.Prelude.{Option, Some, None, [], ◌∷◌, ℕ}
use mir.Raw.{raw}
use mir.Syntax.{named}
use base.Fraction.{full_share}
use base.Fml.{Fml, Lft, feq, fsep, fex, flft, flent}
use base.Stored.{Coded}
use denote.Memory.{lone}
use denote.RattleType.{RattleType}
use denote.RawPtr.{Ptr, lies_at, null_ptr}
use denote.Struct.Lending.{lent_at}
use Rattle.std.specs.Coded.{coded_option}
use Rattle.bhost.specs.Blocks.{chunk}
use Rattle.bhost.specs.contracts.runs.Runs as Runs
use Rattle.bhost.specs.contracts.loaded.LoadedProgram as LoadedProgram
use Rattle.bhost.specs.Places.{placed_owns}

-- runs that read their program for a lifetime
abbrev pub for_life : Lft → RattleType
for_life κ = Runs.the_row (record { mir = named 0; lft = κ })

abbrev pub SessionValue : Type 0
SessionValue = (for_life []).Denot

abbrev pub LoadedValue : Type 0
LoadedValue = (LoadedProgram.the_row).Denot

abbrev pub session_coded : Coded (Option SessionValue)
session_coded = coded_option (for_life []).coded

abbrev pub loaded_coded : Coded (Option LoadedValue)
loaded_coded = coded_option (LoadedProgram.the_row).coded

-- a lifetime, for which the program is lent, what gives it back once that ends, and the right to free its block
abbrev pub lends_for : ℕ → Ptr → LoadedValue → Fml
lends_for a at program =
    fsep (flft (a ∷ []) full_share) (fsep (flent (a ∷ []) (lies_at LoadedProgram.the_row full_share at program))
    (fsep (lent_at LoadedProgram.the_row at program (a ∷ [])) (chunk (raw (lone (LoadedProgram.the_row).mir)) at)))

-- The session's block, for the lifetime for which its program is lent. Without a program both pointers are null.
abbrev pub host_owns : Ptr → Option SessionValue → Ptr → Option LoadedValue → Fml
host_owns session run at None = fsep (feq Ptr session null_ptr) (feq Ptr at null_ptr)
host_owns session run at (Some program) =
    fex ℕ (λ a. fsep (lends_for a at program) (placed_owns (λ σ p. chunk σ p) (for_life (a ∷ [])) session run))
