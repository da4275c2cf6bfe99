-- Promise: what is told of a run that never ends.
use Rattle.std.specs.Prelude.{ℕ, List, [], ◌∷◌, ◌++◌, Option, Some, None, codes}
use Rattle.bendless.specs.Tellings.{repeat_text}
use Rattle.bendless.specs.declared.endless.Endless.{Endless}
use Rattle.bendless.specs.declared.search.Repeat.{Repeat}
use Rattle.bmach.specs.declared.machine.Active.{Active}
use Rattle.btrace.specs.RowTexts.{Legend, site_text, source_text}

-- what comes after a trace: that a state comes again, and the place of the call in which it does
abbrev pub again_rows : Legend → Repeat → List ℕ
again_rows legend r =
    codes "means  " ++ repeat_text r ++ codes "\nloop   " ++ site_text legend r.call ++ codes "\n"

abbrev pub again_text : Legend → Option Repeat → List ℕ
again_text legend None = []
again_text legend (Some r) = again_rows legend r

-- the place of the call in which a state comes again, and the line of the source
abbrev pub loop_site : Legend → (source : List ℕ) → Active → List ℕ
loop_site legend source call =
    codes "loop   " ++ site_text legend call ++ codes "\n" ++ source_text legend source call

-- the call in the loop that asks for input, where the input has ended
abbrev pub asks_text : Legend → Option Active → List ℕ
asks_text legend None = []
asks_text legend (Some call) =
    codes "asks   " ++ site_text legend call
    ++ codes "\n  means: at the end of the input getchar gives the same for ever\n"

-- the names of words, a blank before each
abbrev pub names_text : List ℕ → List ℕ
names_text [] = []
names_text (c ∷ cs) = codes "  its conditions read, and nothing in it changes:" ++ (c ∷ cs) ++ codes "\n"

abbrev pub loop_text : Legend → (source : List ℕ) → Option Endless → List ℕ
loop_text legend source None = []
loop_text legend source (Some e) =
    loop_site legend source e.repeat.call ++ asks_text legend e.asks ++ names_text e.names
