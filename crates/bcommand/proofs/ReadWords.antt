-- What is found in the words of a command line that is read.
use Rattle.std.proofs.Common.{subst, ◌≡◌, true, List, [], Result, Ok, Err, IfOk, IfErr, sym}
use Rattle.clap.specs.Words.{App, FailsBy, HasKind, HasMatchesOf, Text, fault_of, is_simple, is_simple_and_free, subcommand_of, subcommand_rows_of}
use Rattle.clap.specs.declared.error.Error.{Error}
use Rattle.clap.specs.declared.parser.matches.ArgMatches.{ArgMatches}

pub read_words : (a b : App) (words : List Text) (r : Result ArgMatches Error) → a ≡ b → is_simple b ≡ true → is_simple_and_free b ≡ true
    → IfOk r (HasMatchesOf a words) → (is_simple_and_free a ≡ true → FailsBy (fault_of a words) r)
    → IfOk r (λ m. (fault_of b words ≡ []) × (subcommand_rows_of m ≡ subcommand_of b words))
read_words a b words (Ok m) same simple free matches kinds = (
  subst (λ (x : App). fault_of x words ≡ []) same (kinds (subst (λ (x : App). is_simple_and_free x ≡ true) (sym same) free)),
  subst (λ (x : App). subcommand_rows_of m ≡ subcommand_of x words) same (matches (subst (λ (x : App). is_simple x ≡ true) (sym same) simple)).1,
)
read_words a b words (Err e) same simple free matches kinds = tt

pub faulty_words : (a b : App) (words : List Text) (r : Result ArgMatches Error) → a ≡ b → is_simple_and_free b ≡ true
    → (is_simple_and_free a ≡ true → FailsBy (fault_of a words) r) → IfErr r (HasKind (fault_of b words))
faulty_words a b words (Ok m) same free kinds = tt
faulty_words a b words (Err e) same free kinds =
    subst (λ (x : App). HasKind (fault_of x words) e) same (kinds (subst (λ (x : App). is_simple_and_free x ≡ true) (sym same) free))
