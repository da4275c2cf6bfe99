-- Promise: what is told of a state that comes again.
use Rattle.std.specs.Prelude.{ℕ, List, ◌++◌, codes, decimal}
use Rattle.bendless.specs.declared.search.Repeat.{Repeat}

abbrev pub repeat_text : Repeat → List ℕ
repeat_text r =
    codes "it never ends: after " ++ decimal r.again ++ codes " steps all is as it was after " ++ decimal r.first
