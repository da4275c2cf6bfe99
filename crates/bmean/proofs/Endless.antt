-- A program that writes without end, and machines that don't.
use Rattle.std.proofs.Common.{◌≡◌, ◌∙◌, ℕ, zero, suc, ◌+◌, List, [], ◌∷◌, ◌++◌, ap, append-nil, append_assoc, arith, length, replicate, sym}
use Rattle.std.proofs.lemmas.List.{length-replicate}
use Rattle.std.specs.Prelude.{codes}
use Rattle.blang.specs.Trees.{Another, Called, Character, Evaluate, Literal, Named, No_arguments, Number, Stmt, While}
use Rattle.blang.specs.Layout.{World, padded, store_words}
use Rattle.blang.specs.Machine.{state_world}
use Rattle.blang.specs.Value.{Do, Program, SourceFunction, Wants}
use Rattle.blang.specs.Meaning.{exited, fuel_of, go_on, main_frame, meant, program_of}
use Rattle.bmean.specs.Endless.{SilenceExcluded, writing_on}

abbrev program : Program
program = program_of writing_on

abbrev body : Stmt
body =
    While (Literal (Number 1))
    (Evaluate (Called (Named (record { text = codes "putchar"; line = 1 })) (Another No_arguments (Literal (Character 97)))))

abbrev main : SourceFunction
main = record { parameters = []; body = body; strings = 8; first_label = 1 }

abbrev world : List ℕ → World
world output = record { store = padded store_words program.words; input = []; output = output }

-- each fuel writes one byte
wants_from : (n : ℕ) (output : List ℕ) → go_on program (fuel_of program n) (main_frame program main) (Do body ∷ []) (world output) ≡ Wants (world (output ++ replicate n 97))
wants_from zero output = ap (λ bytes. Wants (world bytes)) (sym (append-nil output))
wants_from (suc n) output =
    wants_from n (output ++ 97 ∷ []) ∙ ap (λ bytes. Wants (world bytes)) (append_assoc output (97 ∷ []) (replicate n 97))

wants : (n : ℕ) → meant writing_on [] n ≡ Wants (world (replicate n 97))
wants n = ap exited (wants_from n [])

pub silence : SilenceExcluded
silence state most within meant_so =
    let (step, call, below, late, runs) = meant_so.keeps_up (most + 1) (world (replicate (most + 1) 97)) (wants (most + 1)) in
    let written : length (state_world (state step)).output ≡ most + 1 =
    ap (λ s. length (state_world s).output) runs ∙ length-replicate (most + 1) 97 in
    omega (arith, within step, written)
