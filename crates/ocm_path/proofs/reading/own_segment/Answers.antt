use Rattle.ocm_path.proofs.TextRead.{some-if_segment, none-if_segment}
use Rattle.ocm_path.proofs.reading.own_segment.Goals as goal

pub returns-in_ok-of-in-None : goal.returns-in_ok-of-in-None
returns-in_ok-of-in-None c =
    rw (c.in_ok-of-in-None.ensures, c.in-Ok.ensures.cases.0) (some-if_segment c.args.piece.now c.in-Ok.ensures.cases.1 (rw (← c.text_fault.ensures) c.in-None.is))

pub returns-in-Err : goal.returns-in-Err
returns-in-Err c = none-if_segment c.args.piece.now c.in-Err.ensures.cases.0
