use Rattle.handshake.proofs.judging.ThirdLine.{numbers-relative, numbers-all}
use Rattle.handshake.proofs.names.Names.judge_numbers.Goals as goal

pub returns-in_default-read_number-2 : goal.returns-in_default-read_number-2
returns-in_default-read_number-2 c =
    numbers-relative _ _ _ _ _ _ _ c.first_part.ensures _ c.in-Some.is _ c.read_number.ensures _ c.in-Some-read_number.is _ c.read_number-2.ensures c.in_default-read_number-2.is

pub returns : goal.returns
returns c =
    numbers-all _ _ _ _ _ _ _ c.first_part.ensures _ c.in-Some.is _ c.read_number.ensures _ c.in-Some-read_number.is _ c.read_number-2.ensures _ _ c.in-Some-read_number-2.is c.judge_names.ensures
