use Rattle.bword.proofs.Putting.{gives_err}
use Rattle.bcode.proofs.Paging.{Passes-first, Passes-append, Refuses-after, gives_page}
use Rattle.bcode.proofs.write.write_definition.Goals as goal

pub returns-in_err-write_function_body-in-Function-clause-gives : goal.returns-in_err-write_function_body-in-Function-clause-gives
returns-in_err-write_function_body-in-Function-clause-gives g c =
    rw c.in-Function.is (gives_err _ _ c.from_residual.ensures.1 (Refuses-after _ (Passes-first _ _ _ (rw (c.new-page.ensures, c.from.ensures, c.from-in-Function.ensures) at c.push_header_line.ensures)) c.in_err-write_function_body-in-Function.ensures.gives))

pub returns-in_ok-write_function_body-in-Function-clause-gives : goal.returns-in_ok-write_function_body-in-Function-clause-gives
returns-in_ok-write_function_body-in-Function-clause-gives g c =
    rw c.in-Function.is (gives_page _ _ (Passes-append (Passes-first _ _ _ (rw (c.new-page.ensures, c.from.ensures, c.from-in-Function.ensures) at c.push_header_line.ensures)) c.in_ok-write_function_body-in-Function.ensures.gives) (rw c.as_slice.ensures at c.put.ensures.gives))

pub returns-in_err-write_values-in-Simple-clause-gives : goal.returns-in_err-write_values-in-Simple-clause-gives
returns-in_err-write_values-in-Simple-clause-gives g c =
    rw c.in-Simple.is (gives_err _ _ c.from_residual-in_err-write_values-in-Simple.ensures.1 (Refuses-after _ (Passes-first _ _ _ (rw c.new-page.ensures at c.push_header_line-in-Simple.ensures)) c.in_err-write_values-in-Simple.ensures.gives))

pub returns-in_ok-write_values-in-Simple-clause-gives : goal.returns-in_ok-write_values-in-Simple-clause-gives
returns-in_ok-write_values-in-Simple-clause-gives g c =
    rw c.in-Simple.is (gives_page _ _ (Passes-append (Passes-first _ _ _ (rw c.new-page.ensures at c.push_header_line-in-Simple.ensures)) c.in_ok-write_values-in-Simple.ensures.gives) (rw c.as_slice-in-Simple.ensures at c.put-in-Simple.ensures.gives))

pub returns-in_err-write_values-in-Vector-clause-gives : goal.returns-in_err-write_values-in-Vector-clause-gives
returns-in_err-write_values-in-Vector-clause-gives g c =
    rw c.in-Vector.is (gives_err _ _ c.from_residual-in_err-write_values-in-Vector.ensures.1 (Refuses-after _ (Passes-first _ _ _ (rw (c.new-page.ensures, c.from-in-Vector.ensures) at c.push_header_line-in-Vector.ensures)) c.in_err-write_values-in-Vector.ensures.gives))

pub returns-in_ok-write_values-in-Vector-clause-gives : goal.returns-in_ok-write_values-in-Vector-clause-gives
returns-in_ok-write_values-in-Vector-clause-gives g c =
    rw c.in-Vector.is (gives_page _ _ (Passes-append (Passes-first _ _ _ (rw (c.new-page.ensures, c.from-in-Vector.ensures) at c.push_header_line-in-Vector.ensures)) c.in_ok-write_values-in-Vector.ensures.gives) (rw c.as_slice-in-Vector.ensures at c.put-in-Vector.ensures.gives))
