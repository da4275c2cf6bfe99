use Rattle.std.proofs.Common.{[], ◌++◌, append_assoc, append-nil, ap, ◌∙◌, refl}
use Rattle.blang.specs.Text.{definition_text, end_text}
use Rattle.bparse.proofs.CompileExcluded.{excluded}
use Rattle.bparse.proofs.compiling.wrong_compilings_are_excluded.Goals as goal

pub returns-clause-excluded : goal.returns-clause-excluded
returns-clause-excluded c = excluded

pub returns-clause-lists : goal.returns-clause-lists
returns-clause-lists c = record {
  none = refl;
  lines = refl;
  order = λ a b.
      append_assoc (definition_text a) (definition_text b ++ []) end_text
      ∙ ap (λ t. definition_text a ++ (t ++ end_text)) (append-nil (definition_text b));
  new = (refl, refl, refl);
  begun = λ is_new. let one = is_new.0 in cc;
  filled = λ d is_new. let none = is_new.1 in cc;
  ended = λ is_new. let open_now = is_new.2 in cc;
  seen = refl;
}
