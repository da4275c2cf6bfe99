use Rattle.std.proofs.Common.{◌≡◌, ◌++◌, ◌∷◌, []}
use Rattle.bdraw.specs.Pictures.{at_places, above, library_name}
use Rattle.bdraw.proofs.rows.push_library_names.Given as goal

abbrev pub invariant-loop-place : goal.invariant-loop-place
invariant-loop-place l = l.shapes.items ≡ l.fn.shapes.items ++ at_places (λ place. above l.y place (library_name place) ∷ []) l.place
