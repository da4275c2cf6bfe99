use Rattle.bmach.proofs.Digits.{text_there}
use Rattle.bmach.proofs.exchange.write_word.Goals as goal

pub returns-clause-gives : goal.returns-clause-gives
returns-clause-gives g c call word below store i =
    let put = c.put_character-start in
    rw (text_there 2 put.result put.new.buffer _ put.array_long put.ensures.text) at (c.write_bytes.ensures.gives call word below store i)
