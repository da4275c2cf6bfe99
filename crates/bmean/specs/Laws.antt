-- Promise: the laws that join the meaning of a program and the run of its code.
use Rattle.std.specs.Prelude.{◌≡◌, ◌≢◌, ℕ, ◌+◌, ◌≤◌, List, map}
use Rattle.bmach.specs.Resolved.{IsLoadedFrom}
use Rattle.blang.specs.Trees.{Definition}
use Rattle.blang.specs.Code.{code_of}
use Rattle.blang.specs.Layout.{World, Ending}
use Rattle.blang.specs.Machine.{Image, Call, State, Running, Halted, Stuck, image_of, run}
use Rattle.blang.specs.Value.{Answer, Ends, Wants}
use Rattle.blang.specs.Meaning.{IsBeginningOf, Loads, meant, answer_world}

-- a law of the states of a machine, by the number of steps, and the answers of a program, by its fuel
abbrev pub Law : Type 1
Law = (state : ℕ → State) → (answer : ℕ → Answer ⊥) → Type 0

-- It holds of each program whose code loads, and the machine with that code, on every input.
abbrev pub OfCode : Law → Type 0
OfCode Holds =
    (ds : List Definition) → Loads ds → (input : List ℕ)
    → Holds (run (image_of (map code_of ds)) input) (meant ds input)

-- The same of a machine with an image that was loaded from that code.
abbrev pub OfImage : Law → Type 0
OfImage Holds =
    (ds : List Definition) (image : Image) → Loads ds → IsLoadedFrom (map code_of ds) image → (input : List ℕ)
    → Holds (run image input) (meant ds input)

-- Where the machine halts, the meaning ends so with one fuel more than its steps.
abbrev pub HaltsAsMeant : Law
HaltsAsMeant state answer = (n : ℕ) (e : Ending) (w : World) → state n ≡ Halted e w → answer (n + 1) ≡ Ends e w

-- Where the meaning ends, the machine halts so at some step.
abbrev pub MeantIsDone : Law
MeantIsDone state answer =
    (n : ℕ) (e : Ending) (w : World) → answer n ≡ Ends e w → (m : ℕ) × (state m ≡ Halted e w)

-- The machine is never stuck.
abbrev pub NeverStuck : Law
NeverStuck state answer = (n : ℕ) (w : World) → state n ≢ Stuck w

-- What was written before a halt is a beginning of what the meaning writes with one fuel more than the steps.
abbrev pub WritesAsMeant : Law
WritesAsMeant state answer =
    (n : ℕ) (call : Call) (below : List Call) (w : World) → state n ≡ Running call below w
    → IsBeginningOf w.output (answer_world (answer (n + 1))).output

-- Where the meaning wants more fuel than n, the machine after n steps or more hasn't halted, and has written the same.
abbrev pub WantsAsItRuns : Law
WantsAsItRuns state answer =
    (n : ℕ) (w : World) → answer n ≡ Wants w
    → (m : ℕ) × (call : Call) × (below : List Call) × (n ≤ m) × (state m ≡ Running call below w)

-- Where it wants more fuel at every n, the machine never halts.
abbrev pub RunsWithoutEnd : Law
RunsWithoutEnd state answer =
    ((n : ℕ) → (w : World) × (answer n ≡ Wants w)) → (n : ℕ) (e : Ending) (w : World) → state n ≢ Halted e w

-- More fuel changes no end.
abbrev pub EndsForGood : Type 0
EndsForGood =
    (ds : List Definition) (input : List ℕ) (n m : ℕ) (e : Ending) (w : World) → n ≤ m → meant ds input n ≡ Ends e w
    → meant ds input m ≡ Ends e w
