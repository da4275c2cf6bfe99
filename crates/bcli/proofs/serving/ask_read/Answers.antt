use Rattle.bcommand.specs.CommandLine.{question_of}
use Rattle.bcli.proofs.Answered.{answers_from, answers_named}
use Rattle.bcli.proofs.serving.ask_read.Goals as goal

pub returns-in-Ok-clause-answers : goal.returns-in-Ok-clause-answers
returns-in-Ok-clause-answers g c =
    answers_from (g.S.Shelf.holdings c.args.shelf.now) c.args.edition _ c.args.text.now (question_of c.args.question) _ c.in-Ok.texts _ _ _
    c.origin_of.ensures c.in-Ok.ensures.ok c.origin-origin.ensures c.answer.ensures.answers

pub returns-in-Err-clause-answers : goal.returns-in-Err-clause-answers
returns-in-Err-clause-answers g c =
    answers_named (g.S.Shelf.holdings c.args.shelf.now) c.args.edition _ c.args.text.now (question_of c.args.question) _ c.in-Err.made _ _
    c.origin_of.ensures c.in-Err.ensures.err
    (c.name_file.ensures.names (g.I.ByteIn.incoming c.args.input.now) (g.O.ByteOut.outgoing c.args.out.now))
