-- Inner words: definitions whose counts fit the words of a view.
use Rattle.std.specs.Prelude.{◌≤◌, length}
use Rattle.blang.specs.Trees.{Definition, Simple, Vector, Function}
use Rattle.blang.specs.Code.{vector_words}

-- the words of a vector, or the parameters of a function, are no more than a view can count
abbrev pub IsSmall : Definition → Type 0
IsSmall (Simple w values) = Unit {0}
IsSmall (Vector w size values) = vector_words size values ≤ 65535
IsSmall (Function w parameters body) = length parameters ≤ 65535
