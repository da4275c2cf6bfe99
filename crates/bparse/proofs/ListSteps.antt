-- A source that compiles is compiled to the definitions of its code.
use Rattle.std.proofs.Common.{◌≡◌, ◌∙◌, ℕ, Bool, true, false, List, [], ◌++◌, map, append_assoc, append-nil, if◌then◌else◌, refl, sym, subst}
use Rattle.std.specs.Prelude.{All}
use Rattle.std.specs.List.{flat_map}
use Rattle.bword.specs.declared.edition.Edition.{Edition}
use Rattle.bword.specs.ByteEnds.{Incoming, Outgoing}
use Rattle.blang.specs.Code.{code_of}
use Rattle.blang.specs.Compiles.{Compiles, code_text}
use Rattle.blang.specs.Text.{IsCodeText, IsWithinRanges, definition_text, end_text, opening}
use Rattle.blang.specs.declared.code.Definition.{Definition}
use Rattle.bcode.proofs.FaultLaws.{code_spelled, unended_code, unique_code}
use Rattle.bgrammar.proofs.ReadingBack.{reads_back}
use Rattle.bparse.specs.CodeLists.{CodeList, CompilesList, ListGives, empty_list, list_text, outgoing_list}
use Rattle.bparse.specs.Compiles.{CodeGives, run_of}
use Rattle.bparse.specs.declared.step.Step.{Step}
use Rattle.bparse.proofs.CompileSteps.{answers, compiles_between, done}

-- the definitions of a list whose text is a code text
listed : (l : CodeList) (ds : List Definition) → All IsWithinRanges l.definitions → IsCodeText (list_text l) ds → l.definitions ≡ ds
listed l ds within is = at l.is_ended is
  where
    text : List ℕ
    text = flat_map definition_text l.definitions

    at : (b : Bool) → IsCodeText (opening l.edition ++ (text ++ (if b then end_text else []))) ds → l.definitions ≡ ds
    at true h = unique_code _ l.definitions ds (l.edition, record { within = within; spelled = sym (append_assoc (opening l.edition) text end_text) ∙ sym (code_spelled l.edition l.definitions) }) h
    at false h = absurd (unended_code l.edition l.definitions ds within (subst (λ t. IsCodeText (opening l.edition ++ t) ds) (append-nil text) h))

pub compiles_list : (edition : Edition) (source source_after : Incoming) (l : CodeList) (ds : List Definition) (line line_after : Outgoing) (status : ℕ)
    → ds ≡ l.definitions → All IsWithinRanges ds
    → Compiles (run_of edition source source_after (outgoing_list empty_list) (outgoing_list l) line line_after status)
    → CompilesList edition source source_after ds line line_after status
compiles_list edition source source_after l ds line line_after status same within h = record {
  list = l;
  listed = sym same;
  compiles = h;
  code = λ zero more c r g.
      let compiled = h.compiled zero more c r g in
      let text : code_text edition r ≡ list_text l = sym compiled.code.appended in
      let back = subst (λ t. IsCodeText t (map code_of g.definitions)) text (edition, reads_back edition 1 (h.taken ++ more) r g compiled.clean) in
      same ∙ listed l (map code_of g.definitions) (subst (All IsWithinRanges) same within) back;
}

-- between these ends of the source
pub list_gives : (edition : Edition) (source source_after : Incoming) (answer : Step) (l : CodeList) (ds : List Definition) → ds ≡ l.definitions → All IsWithinRanges ds
    → CodeGives edition source (outgoing_list empty_list) answer source_after (outgoing_list l)
    → ListGives edition source answer source_after ds
list_gives edition source source_after answer l ds same within h = record {
  list = l;
  listed = sym same;
  gives = h;
  all = λ end line.
      compiles_list edition source source_after l ds line line 0 same within
      (compiles_between line line (answers end h) (λ first last g. done first last line line g refl));
}
