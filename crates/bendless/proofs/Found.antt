-- What is found of a run that never ends.
use Rattle.std.proofs.Common.{◌≡◌, ◌∙◌, ℕ, List, [], ◌++◌, Err, Ok, Option, Result, Some, true, ap, subst}
use Rattle.std.specs.Prelude.{IfSome, OnOk, is_ok}
use Rattle.bword.specs.ByteEnds.{Incoming}
use Rattle.blang.specs.declared.code.Definition.{Definition}
use Rattle.blang.specs.Machine.{Image, image_of, machine, run}
use Rattle.btools.specs.Functions.{Placed}
use Rattle.btools.specs.declared.names.Frame.{Frame}
use Rattle.bwatch.specs.Sights.{sights_of}
use Rattle.bendless.specs.Idle.{idle_names}
use Rattle.bendless.specs.Loops.{Noted, notes_in}
use Rattle.bendless.specs.Recordings.{Records, is_whole}
use Rattle.bendless.specs.Repeats.{IsEndless, Repeats}
use Rattle.bendless.specs.declared.recorder.Record.{Record}
use Rattle.bendless.specs.declared.search.Repeat.{Repeat}

-- what holds of a result that is none of a failure
pub ok_so : {A E : Type 0} (r : Result A E) (P : Type 0) → true ≡ is_ok r → OnOk r P → P
ok_so (Ok x) P is h = h
ok_so (Err e) P is h = cc

pub is_endless : (ds : List Definition) (image : Image) (fs : List Placed) (frames : List Frame) (i j : Incoming) (read : Record) (found : Option Repeat) (r : Repeat) (notes : Noted) (names : List ℕ) → found ≡ Some r → Records read i j
    → IfSome found (λ x. is_whole read.extent ≡ true) → IfSome found (λ x. (more : List ℕ) → (read.is_over ≡ true → more ≡ []) → Repeats (run image (read.bytes.items ++ more)) x)
    → names ≡ idle_names fs ds frames r.call notes → ((more : List ℕ) → (read.is_over ≡ true → more ≡ []) → notes ≡ notes_in fs (sights_of (image_of ds).functions (machine ds) (read.bytes.items ++ more)) r)
    → IsEndless ds image fs frames i j (record { repeat = r; asks = notes.asks; names = names })
is_endless ds image fs frames i j read found r notes names is records whole repeats named noted =
    let all = subst (λ o. IfSome o (λ (x : Repeat). is_whole read.extent ≡ true)) is whole in
    let again = subst (λ o. IfSome o (λ x. (more : List ℕ) → (read.is_over ≡ true → more ≡ []) → Repeats (run image (read.bytes.items ++ more)) x)) is repeats in
    record {
      comes_back = record {
        taken = read.bytes.items;
        took = records.taken all;
        repeats = λ more can. again more (λ o. can (records.over o));
      };
      loop = λ more can.
          let same = noted more (λ o. can (records.over o)) in
          record { asks = ap (λ (n : Noted). n.asks) same; names = named ∙ ap (idle_names fs ds frames r.call) same };
    }
