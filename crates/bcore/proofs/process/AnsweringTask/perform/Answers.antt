use Rattle.bcore.proofs.process.AnsweringTask.perform.Goals as goal

pub returns-in-Some : goal.returns-in-Some
returns-in-Some g c = record { does = rw c.in-Some.is (rw c.as_slice.ensures.value at c.serve.ensures.serves) }
