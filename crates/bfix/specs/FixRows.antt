-- Closed facts: which comments and strings a source has, and what is written of one that is fixed or ported.
use Rattle.std.specs.Fmt.{digits}
use Rattle.std.specs.Prelude.{◌≡◌, ℕ, true, false, List, [], ◌∷◌, ◌++◌, Some, None, codes, map, refl}
use Rattle.bword.specs.declared.edition.Edition.{Edition}
use Rattle.bword.specs.declared.edition.Edition.TheVariants as editions
use Rattle.bsources.specs.Files.{Files}
use Rattle.blang.specs.Cut.{escape_of, fixed_of, greatest, keyword_of, longest, number_in, operator_of, other_of, whole}
use Rattle.blang.specs.Cut.{with_quoted_byte, word_token}
use Rattle.blex.specs.declared.lexeme.Lexeme.TheVariants as lexeme
use Rattle.bword.specs.ByteEnds.{Outgoing}
use Rattle.blang.specs.Reports.{Reported}
use Rattle.blang.specs.declared.run.LoadFault.TheVariants as faults
use Rattle.btools.specs.declared.program.ProgramFault.TheVariants as why
use Rattle.bfix.specs.Due.{are_all}
use Rattle.bfix.specs.Fixes.{Lead, all_lines}
use Rattle.bfix.specs.LeftText.{left_text}
use Rattle.bfix.specs.OwnText.{TellsAfter, own_length}
use Rattle.bfix.specs.Ports.{verdict_status, verdict_text}
use Rattle.bfix.specs.Keeping.{are_among, is_kept, is_over, kept_from, kept_of}
use Rattle.bfix.specs.declared.due.TheConstants.{TRIED_BYTES}
use Rattle.bfix.specs.declared.fixing.TheConstants.{LOOKED_BYTES, MOST_CHANGES}

-- the end of a source, a comment, a string, and another token
ends : map is_over (Some lexeme.End ∷ None ∷ Some lexeme.String ∷ Some lexeme.Comma ∷ [])
    ≡ true ∷ false ∷ false ∷ false ∷ []
ends = refl

keeps : map is_kept (Some lexeme.End ∷ None ∷ Some lexeme.String ∷ Some lexeme.Comma ∷ Some (lexeme.Number 3) ∷ [])
    ≡ false ∷ true ∷ true ∷ false ∷ false ∷ []
keeps = refl

-- comments and strings, after a wrong token, too
kept_texts : kept_of editions.One (codes "\"a\"@/*b*/") ≡ codes "\"a\"" ∷ codes "/*b*/" ∷ []
unfolding kept_from longest greatest whole word_token keyword_of number_in operator_of other_of fixed_of escape_of
    with_quoted_byte
kept_texts = refl

-- texts among others: in their order, and as often
among : are_among [] [] ∷ are_among [] (codes "a" ∷ []) ∷ are_among (codes "a" ∷ []) (codes "b" ∷ codes "a" ∷ []) ∷ []
    ≡ true ∷ true ∷ true ∷ []
among = refl

not_among :
    are_among (codes "a" ∷ []) [] ∷ are_among (codes "a" ∷ []) (codes "ab" ∷ codes "b" ∷ [])
    ∷ are_among (codes "a" ∷ codes "a" ∷ []) (codes "a" ∷ codes "b" ∷ [])
    ∷ are_among (codes "a" ∷ codes "b" ∷ []) (codes "b" ∷ codes "a" ∷ []) ∷ []
    ≡ false ∷ false ∷ false ∷ false ∷ []
not_among = refl

-- how many bytes one line, two, and more than there are have
own_lengths : map (λ lines. own_length lines (codes "ab\nc\nd")) (1 ∷ 2 ∷ 3 ∷ 4 ∷ []) ≡ 2 ∷ 4 ∷ 6 ∷ 6 ∷ []
own_lengths = refl

no_lines : map (λ text. own_length 1 text) ([] ∷ codes "\n" ∷ codes "a\n" ∷ []) ≡ 0 ∷ 0 ∷ 1 ∷ []
no_lines = refl

lines_of_all : map all_lines ([] ∷ (codes "a\n" ∷ []) ∷ (codes "a\n" ∷ codes "b\n" ∷ []) ∷ [])
    ≡ [] ∷ codes "a\n" ∷ codes "a\nb\n" ∷ []
lines_of_all = refl

-- without a change the text is as it was
as_it_was : (edition : Edition) (files : Files) (rest old new : List ℕ) → Lead edition files rest old [] new → new ≡ old
as_it_was edition files rest old new h = h

-- what is told after the text, and after a text that wasn't written
after_text : (told : List ℕ) (status : ℕ) (line line_after : Outgoing) (result : ℕ)
    → TellsAfter 0 told status line line_after result → Reported told status line line_after result
after_text told status line line_after result h = h

after_failure : (told : List ℕ) (status : ℕ) (line line_after : Outgoing) (result : ℕ)
    → TellsAfter 133 told status line line_after result → (line_after ≡ line) × (result ≡ 133)
after_failure told status line line_after result h = h

-- the line of what is left: nothing, one and more, of a source that compiles and loads, and of any other one
left_lines : map (left_text 0) (0 ∷ 1 ∷ 2 ∷ []) ++ map (left_text 1) (0 ∷ 1 ∷ 2 ∷ []) ++ map (left_text 132) (1 ∷ [])
    ≡ [] ∷ codes "left: 1 warning, which b check tells\n" ∷ codes "left: 2 warnings, which b check tells\n" ∷ []
    ∷ codes "left: 1 fault, which b check tells\n" ∷ codes "left: 2 faults, which b check tells\n"
    ∷ codes "left: 1 fault, which b check tells\n" ∷ []
unfolding digits
left_lines = refl

-- of as many as are told at most
left_of_most : left_text 0 100 ∷ left_text 1 99 ∷ left_text 132 100 ∷ []
    ≡ codes "left: 100 warnings, which b check tells\n" ∷ codes "left: 99 faults, which b check tells\n"
    ∷ codes "left: 100 faults, which b check tells\n" ∷ []
unfolding digits
left_of_most = refl

-- the line and the status of what was ported and doesn't load
load_faults : map verdict_text (why.Unloaded faults.TooLarge ∷ why.Unloaded faults.NoMain ∷ [])
    ≡ codes "load 2\n" ∷ codes "load 4\n" ∷ []
load_faults = refl

load_statuses : map verdict_status (why.Unloaded faults.TooLarge ∷ why.Unloaded faults.NoMain ∷ []) ≡ 132 ∷ 132 ∷ []
load_statuses = refl

-- how many changes are all that are made: a thousand, or those after which so many bytes were looked at
limits : MOST_CHANGES ∷ LOOKED_BYTES ∷ TRIED_BYTES ∷ [] ≡ 1000 ∷ 16777216 ∷ 2097152 ∷ []
limits = refl

all_made : are_all 1000 0 ∷ are_all 1000 1 ∷ are_all 0 16777217 ∷ are_all 1 8388609 ∷ are_all 999 16778 ∷ []
    ≡ true ∷ true ∷ true ∷ true ∷ true ∷ []
all_made = refl

some_left : are_all 0 0 ∷ are_all 0 16777216 ∷ are_all 1 8388608 ∷ are_all 999 16777 ∷ are_all 1001 0 ∷ []
    ≡ false ∷ false ∷ false ∷ false ∷ false ∷ []
some_left = refl
