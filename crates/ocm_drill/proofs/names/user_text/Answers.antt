use Rattle.std.proofs.Common.{lit<, arith}
use Rattle.ocm_drill.proofs.Known.{user_spelled}
use Rattle.ocm_drill.proofs.names.user_text.Goals as goal

pub returns-in-0 : goal.returns-in-0
returns-in-0 c = user_spelled c.args.i 0 c.in-0.is (lit< tt)

pub returns-in-1 : goal.returns-in-1
returns-in-1 c = user_spelled c.args.i 1 c.in-1.is (lit< tt)

pub returns-in-2 : goal.returns-in-2
returns-in-2 c = user_spelled c.args.i 2 c.in-2.is (lit< tt)

pub returns-in_default : goal.returns-in_default
returns-in_default c = user_spelled c.args.i 3 (omega arith) (lit< tt)
