use Rattle.std.proofs.Common.{◌+◌, ◌-◌, length, take, drop, arith, sym}
use Rattle.std.proofs.lemmas.Grind.{common_steps}
use Rattle.ocm_script.proofs.LineEnds.{first-Some, first-None}
use Rattle.ocm_script.proofs.lines.first_line.Goals as goal

pub returns-in-Some-clause-lines : goal.returns-in-Some-clause-lines
returns-in-Some-clause-lines c = first-Some c.args.bytes.now (take (length c.args.bytes.now - (c.in-Some.place + 1)) (drop (c.in-Some.place + 1) c.args.bytes.now)) c.in-Some.place (sym c.in-Some.ensures) (grind (arith, common_steps))

pub returns-in-None-clause-lines : goal.returns-in-None-clause-lines
returns-in-None-clause-lines c = first-None c.args.bytes.now (sym c.in-None.ensures) c.requires
