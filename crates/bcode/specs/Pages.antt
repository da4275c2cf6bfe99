-- Inner words: what goes to a stream by way of a page, which is put when it is full.
use Rattle.std.specs.Prelude.{◌≡◌, ℕ, List, ◌++◌, Result, Ok, Err}
use Rattle.bword.specs.ByteEnds.{Outgoing, Writes, Refuses}
use Rattle.bword.specs.declared.ends.EndFault.{EndFault}

-- A beginning of the old page and the text was written, and the rest is the new page.
pub record PageWritten (old : Outgoing) (page text : List ℕ) (new : Outgoing) (page' : List ℕ) : Type 0 where
  pub sent : List ℕ
  pub written : Writes old sent new
  pub rest : page ++ text ≡ sent ++ page'

abbrev pub PageGives : Outgoing → List ℕ → List ℕ → Result (Unit {0}) EndFault → Outgoing → List ℕ → Type 0
PageGives old page text (Ok u) new page' = PageWritten old page text new page'
PageGives old page text (Err fault) new page' = Refuses old (page ++ text) fault new
