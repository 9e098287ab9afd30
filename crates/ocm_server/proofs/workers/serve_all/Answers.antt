use Rattle.std.proofs.Common.{rules}
use Rattle.ocm_server.proofs.workers.serve_all.Goals as goal

pub returns-clause-each : goal.returns-clause-each
returns-clause-each g c = λ i d h. let k = (c.for_each_mut.ensures i d h).1 in let m = k.call in let a = k.argument_is in let l = k.left in rw (← a, ← l) (search rules)
