-- Promise: what the headlines alone say of one program and one source, over streams in memory: they say something.
use Rattle.std.specs.Prelude.{◌≡◌, ℕ, List, [], codes, ◌⊎◌, false}
use Rattle.bword.specs.declared.edition.Edition.TheVariants as editions
use Rattle.bword.specs.ByteEnds.{Incoming, Unread, Kept, incoming_of, outgoing_of}
use Rattle.blang.specs.Compiles.{Run, CompileHeadline}
use Rattle.blang.specs.Reports.{RunEnds, run_ends}
use Rattle.blang.specs.Headline.{Headline}

-- bytes in memory that nothing was taken of, and an output in memory that has nothing
abbrev pub unread : List ℕ → Incoming
unread bytes = incoming_of (record { left = bytes; is_over = false })

abbrev pub nothing_written : Kept
nothing_written = record { bytes = []; refusals = 0 }

-- a run without input
abbrev pub one_run_ends : (input : Unread) (out line : Kept) → RunEnds
one_run_ends input out line = run_ends
    (unread []) (incoming_of input) (outgoing_of nothing_written) (outgoing_of out)
    (outgoing_of nothing_written) (outgoing_of line)

-- A run of `main(){putchar('a');}` is out of memory, or it answers 0 and has written `a` and no line.
abbrev pub OneRunIsKnown : Type 0
OneRunIsKnown =
    (source input : Unread) (out line : Kept) (status : ℕ)
    → Headline editions.One 100 (unread (codes "main(){putchar('a');}")) (incoming_of source)
    (one_run_ends input out line) status
    → (status ≡ 134) ⊎ ((status ≡ 0) × (out.bytes ≡ codes "a") × (line.bytes ≡ []))

-- a run of the compiler on `n 2000;`
abbrev pub one_compilation_run : (source : Unread) (code line : Kept) (status : ℕ) → Run
one_compilation_run source code line status = record {
  edition = editions.One;
  source = unread (codes "n 2000;");
  source_after = incoming_of source;
  code = outgoing_of nothing_written;
  code_after = outgoing_of code;
  line = outgoing_of nothing_written;
  line_after = outgoing_of line;
  status = status;
}

-- It is out of memory, or it answers 0 and has written this code and no line.
abbrev pub OneCompilationIsKnown : Type 0
OneCompilationIsKnown =
    (source : Unread) (code line : Kept) (status : ℕ) → CompileHeadline (one_compilation_run source code line status)
    → (status ≡ 134) ⊎ ((status ≡ 0) × (code.bytes ≡ codes "X n 1 0\nc 2000\nE\n") × (line.bytes ≡ []))
